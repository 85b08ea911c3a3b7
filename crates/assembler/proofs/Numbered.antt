-- No text has more than 32,767 labels: they differ, and lie from 1 to 32,767. So a table of more records serves as one of 32,767.
use Rattle.laws.proofs.Basics.{ℕ, zero, suc, ◌+◌, ◌-◌, ◌<◌, ◌≤◌, ◌≡◌, refl, sym, ap, ◌∙◌, List, [], ◌∷◌, ◌++◌, append_assoc, Bool, true, false}
use Rattle.laws.proofs.Basics.{◌&&◌, cond, length, replicate, length-append, replicate-append-replicate, eqb, leb}
use Rattle.laws.proofs.Basics.{arith, eq-eqb, ne_eqb, lt-leb}
use Rattle.laws.proofs.Cases.{by_cases, by_equal}
use Rattle.items.specs.Item as I
use Rattle.items.specs.Scan.{Ending, whole, unreadable, Scan, scan}
use Rattle.assembler.specs.Words.{in_range, size}
use Rattle.assembler.specs.declared.Label.{Label}
use Rattle.assembler.specs.Layout.{vacant, defined, noted, Laid, laid, refused, on_fault, misplaced, fault, lay, unknowns}
use Rattle.assembler.specs.Assemble.{Assembly, refuse, accept, on_unknowns, on_ending, on_laid, assembled}
use Rattle.assembler.proofs.Operands.{label-range}
use Rattle.assembler.proofs.Faults.{laid-first, on-fault-alike, no-fault-ranged, no-fault-placed, label-placed}

-- how many of the numbers 1 to k are no label's
unfoldable free : List Label → ℕ → ℕ
free ls zero = 0
free ls (suc k) = cond (defined ls (suc k)) (free ls k) (suc (free ls k))

free-none : (k : ℕ) → free [] k ≡ k
unfolding free defined
free-none zero = refl
free-none (suc k) = ap (λ (n : ℕ). suc n) (free-none k)

-- ---- one label more

either : (b d e : Bool) → cond b true (cond d true e) ≡ cond (cond b true d) true e
either true d e = refl
either false d e = refl

defined_more : (ls : List Label) (l : Label) (n : ℕ) → defined (ls ++ (l ∷ [])) n ≡ cond (defined ls n) true (eqb l.number n)
unfolding defined
defined_more [] l n = by_cases (eqb l.number n) (λ outcome. rw outcome) (λ outcome. rw outcome)
defined_more (k ∷ ls) l n =
    ap (λ (b : Bool). cond (eqb k.number n) true b) (defined_more ls l n) ∙ either (eqb k.number n) (defined ls n) (eqb l.number n)

module _ (ls : List Label) (l : Label) where
  abbrev more : List Label
  more = ls ++ (l ∷ [])

  -- any number but the label's own is as it was
  other : (n : ℕ) → (l.number ≡ n → ⊥) → defined more n ≡ defined ls n
  other n h = defined_more ls l n ∙ rw (ne_eqb _ _ h) (by_cases (defined ls n) (λ e. rw e refl) (λ e. rw e refl))

  free-below : (k : ℕ) → k < l.number → free more k ≡ free ls k
  unfolding free
  free-below zero h = refl
  free-below (suc k) h = rw (other (suc k) (λ e. omega (arith, e, h)), free-below k (omega (arith, h)))

  own : defined ls l.number ≡ false → defined more l.number ≡ true
  own u = defined_more ls l l.number ∙ rw (u, eq-eqb l.number l.number refl)

  below : {k : ℕ} → (l.number ≡ suc k → ⊥) → l.number ≤ suc k → l.number ≤ k
  below {k} n m = by_equal l.number (suc k) (λ e. absurd (n e)) (λ e. omega arith)

  free-from : defined ls l.number ≡ false → (k : ℕ) → 1 ≤ l.number → l.number ≤ k → suc (free more k) ≡ free ls k
  unfolding free
  free-from u zero h m = absurd (omega (arith, h, m))
  free-from u (suc k) h m = by_equal l.number (suc k) (λ n. let o : defined more (suc k) ≡ true = ap (defined more) (sym n) ∙ own u in
      let v : defined ls (suc k) ≡ false = ap (defined ls) (sym n) ∙ u in
      rw (o, v, free-below k (omega (arith, n)))) (λ n. let f : suc (free more k) ≡ free ls k = free-from u k h (below n m) in
      rw (other (suc k) n, ← f) (by_cases (defined ls (suc k)) (λ e. rw e refl) (λ e. rw e refl)))

-- ---- the labels of a layout

-- as many labels as numbers are taken
abbrev Counted : ℕ → List Label → Type 0
Counted limit ls = length ls + free ls limit ≡ limit

module _ (limit : ℕ) (ls : List Label) (l : Label) (c : Counted limit ls) (u : defined ls l.number ≡ false) (h : 1 ≤ l.number)
    (m : l.number ≤ limit) where
  counted-few : length ls < limit
  counted-few = let f : suc (free (ls ++ (l ∷ [])) limit) ≡ free ls limit = free-from ls l u limit h m in omega (arith, c, f)

  counted-more : Counted limit (ls ++ (l ∷ []))
  counted-more = let f : suc (free (ls ++ (l ∷ [])) limit) ≡ free ls limit = free-from ls l u limit h m in
      let n : length (ls ++ (l ∷ [])) ≡ length ls + 1 = length-append ls (l ∷ []) in
      omega (arith, c, f, n)

module _ (limit room : ℕ) (w : limit ≡ 32767) (r : limit ≤ room) (memory : ℕ) where
  same-fault : (at : ℕ) (ls : List Label) (i : I.Item) → Counted limit ls → fault memory room at ls i ≡ fault memory limit at ls i
  unfolding fault misplaced in_range
  same-fault at ls (I.label n) c = go (in_range (I.label n)) (defined ls n) refl refl
    where
      go : (b d : Bool) → in_range (I.label n) ≡ b → defined ls n ≡ d
          → ◌≡◌ {A = ℕ} (cond (in_range (I.label n)) (cond (defined ls n) 21 (cond (leb room (length ls)) 25 0)) 23)
          (cond (in_range (I.label n)) (cond (defined ls n) 21 (cond (leb limit (length ls)) 25 0)) 23)
      go false d p q = rw p
      go true true p q = rw (p, q)
      go true false p q = let v : (1 ≤ n) × (n ≤ 32767) = label-range n p in
          let f : length ls < limit = counted-few limit ls (record { number = n; address = 0 }) c q v.0 (omega (arith, v.1, w)) in
          rw (p, q, lt-leb room (length ls) (omega (arith, f, r)), lt-leb limit (length ls) f)
  same-fault at ls (I.instruction f i b x) c = refl
  same-fault at ls (I.constant x) c = refl
  same-fault at ls (I.string cs) c = refl
  same-fault at ls (I.global n m) c = refl

  counted-noted : (at : ℕ) (ls : List Label) (i : I.Item) → fault memory limit at ls i ≡ 0 → Counted limit ls → Counted limit (noted at ls i)
  unfolding noted misplaced in_range
  counted-noted at ls (I.label n) e c = let p : in_range (I.label n) ≡ true = no-fault-ranged memory limit at ls (I.label n) e in
      let v : (1 ≤ n) × (n ≤ 32767) = label-range n p in
      counted-more limit ls (record { number = n; address = at }) c (label-placed memory limit at ls n
      (no-fault-placed memory limit at ls (I.label n) e)).0 v.0 (omega (arith, v.1, w))
  counted-noted at ls (I.instruction f i b x) e c = c
  counted-noted at ls (I.constant x) e c = c
  counted-noted at ls (I.string cs) e c = c
  counted-noted at ls (I.global n m) e c = c

  same-lay : (at : ℕ) (ls : List Label) (items : List I.Placed) → Counted limit ls → lay memory room at ls items ≡ lay memory limit at ls items
  unfolding lay
  same-lay at ls [] c = refl
  same-lay at ls (p ∷ ps) c =
      ap (λ (f : ℕ). on_fault f p.place (lay memory room (at + size p.item) (noted at ls p.item) ps)) (same-fault at ls p.item c)
      ∙ on-fault-alike (fault memory limit at ls p.item) p.place
      (λ e. same-lay (at + size p.item) (noted at ls p.item) ps (counted-noted at ls p.item e c))

  -- and no more labels than that
  few-laid : (at : ℕ) (ls : List Label) (items : List I.Placed) → Counted limit ls → (labels : List Label) (end : ℕ)
      → lay memory limit at ls items ≡ laid labels end → length labels ≤ limit
  unfolding lay
  few-laid at ls [] c labels end e = let z : ls ≡ labels = cc in let y : length ls ≤ limit = omega (arith, c) in rw z at y
  few-laid at ls (p ∷ ps) c labels end e = let f = laid-first memory limit at ls p ps e in
      few-laid (at + size p.item) (noted at ls p.item) ps (counted-noted at ls p.item f.0 c) labels end f.1

  none-counted : Counted limit []
  none-counted = let z : free [] limit ≡ limit = free-none limit in omega (arith, z)

-- ---- a table with more records than that

-- the same answer and memory, and a table with so many vacant records more
pub record Wider (more : ℕ) (a b : Assembly) : Type 0 where
  pub answers : b.answer ≡ a.answer
  pub fills : b.memory ≡ a.memory
  pub tables : b.table ≡ a.table ++ replicate more vacant

module _ (text : List ℕ) (memory limit room : ℕ) (r : limit ≤ room) where
  wider-refuse : (number place : ℕ) → Wider (room - limit) (refuse text memory limit number place) (refuse text memory room number place)
  unfolding refuse
  wider-refuse number place = let e : limit + (room - limit) ≡ room = omega (arith, r) in
      record {
        answers = refl;
        fills = refl;
        tables = sym (replicate-append-replicate limit (room - limit) vacant ∙ ap (λ (n : ℕ). replicate n vacant) e);
      }

  wider-accept : (labels : List Label) (end : ℕ) (items : List I.Placed) → length labels ≤ limit
      → Wider (room - limit) (accept text memory limit labels end items) (accept text memory room labels end items)
  unfolding accept
  wider-accept labels end items h = let e : (limit - length labels) + (room - limit) ≡ room - length labels = omega (arith, r, h) in
      record {
        answers = refl;
        fills = refl;
        tables = sym (append_assoc labels (replicate (limit - length labels) vacant) (replicate (room - limit) vacant)
            ∙ ap (λ (l : List Label). labels ++ l) (replicate-append-replicate (limit - length labels) (room - limit) vacant ∙
            ap (λ (n : ℕ). replicate n vacant) e));
      }

  wider-laid : (o : Laid) (s : Scan) → ((labels : List Label) (end : ℕ) → o ≡ laid labels end → length labels ≤ limit)
      → Wider (room - limit) (on_laid text memory limit o s) (on_laid text memory room o s)
  wider-laid (refused number place) s h = wider-refuse number place
  wider-laid (laid labels end) s h = ending s.ending
    where
      known : (us : List ℕ)
          → Wider (room - limit) (on_unknowns text memory limit us labels end s.items) (on_unknowns text memory room us labels end s.items)
      known [] = wider-accept labels end s.items (h labels end refl)
      known (u ∷ us) = wider-refuse 22 u

      ending : (e : Ending)
          → Wider (room - limit) (on_ending text memory limit e labels end s.items) (on_ending text memory room e labels end s.items)
      ending (unreadable place) = wider-refuse 20 place
      ending whole = known (unknowns labels s.items)

  pub wider : limit ≡ 32767 → Wider (room - limit) (assembled text memory limit) (assembled text memory room)
  unfolding assembled
  wider w = by_cases (leb 512 memory && leb memory 32768)
      (λ e. rw (e, same-lay limit room w r memory 416 [] (scan text).items (none-counted limit room w r memory))
      (wider-laid (lay memory limit 416 [] (scan text).items) (scan text)
      (few-laid limit room w r memory 416 [] (scan text).items (none-counted limit room w r memory)))) (λ e. rw e (wider-refuse 24 0))
