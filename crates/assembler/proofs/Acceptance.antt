-- What an accepted text satisfies: the bounds of the image, and a table of labels that differ.
use Rattle.laws.proofs.Basics.{ℕ, zero, suc, ◌+◌, ◌-◌, ◌<◌, ◌≤◌, ◌≡◌, refl, sym, ap, ◌∙◌, List, [], ◌∷◌, ◌++◌, true, false, ◌&&◌, length, get_or}
use Rattle.laws.proofs.Basics.{replicate, eqb, leb, arith, eqb-false, ne_eqb, leb-true}
use Rattle.laws.proofs.Cases.{by_cases, contradiction, both_true}
use Rattle.text.specs.Line.{refusal}
use Rattle.items.specs.Item as I
use Rattle.items.specs.Scan.{Ending, whole, unreadable, scan}
use Rattle.assembler.specs.Words.{in_range, size}
use Rattle.assembler.specs.declared.Label.{Label}
use Rattle.assembler.specs.Layout.{defined, noted, Laid, laid, refused, misplaced, fault, lay, unknowns}
use Rattle.assembler.specs.Assemble.{start, image, refuse, accept, on_unknowns, on_ending, on_laid, assembled}
use Rattle.words.specs.Globals.{no_globals}
use Rattle.assembler.specs.Passes.{put, filled}
use Rattle.std.specs.Prelude.{Ok, Err}
use Rattle.assembler.proofs.Operands.{label-range}
use Rattle.assembler.proofs.Faults.{laid-first, no-fault-ranged, no-fault-placed, no-fault-fits, label-placed}
use Rattle.assembler.proofs.Writing.{length-put}
use Rattle.assembler.proofs.Image.{ending, Ends, laid-ends, image-is}
use Rattle.assembler.proofs.Assembling.{length-fixed}

-- ---- the table: numbers in range that differ, addresses within the memory

unfoldable pub Proper : (memory : ℕ) → List Label → Type 0
Proper memory [] = Unit {0}
Proper memory (l ∷ ls) = (defined ls l.number ≡ false) × (1 ≤ l.number) × (l.number ≤ 32767) × (l.address ≤ memory) × Proper memory ls

module _ (n : ℕ) where
  not_first : (l : Label) (ls : List Label) → defined (l ∷ ls) n ≡ false → (l.number ≡ n → ⊥) × (defined ls n ≡ false)
  unfolding defined
  not_first l ls h = by_cases (eqb l.number n) (λ e. let y : true ≡ false = rw e at h in contradiction cc) (λ e. (eqb-false _ _ e, rw e at h))

  not_last : (ls : List Label) (l : Label) → defined ls n ≡ false → (l.number ≡ n → ⊥) → defined (ls ++ (l ∷ [])) n ≡ false
  unfolding defined
  not_last [] l h k = rw (ne_eqb l.number n k)
  not_last (m ∷ ls) l h k = rw (ne_eqb m.number n (not_first m ls h).0) (not_last ls l (not_first m ls h).1 k)

proper-more : (memory : ℕ) (ls : List Label) (l : Label) → Proper memory ls → defined ls l.number ≡ false → (1 ≤ l.number) × (l.number ≤ 32767)
    → l.address ≤ memory
    → Proper memory (ls ++ (l ∷ []))
unfolding Proper defined
proper-more memory [] l p d r a = (refl, r.0, r.1, a, tt)
proper-more memory (m ∷ ls) l p d r a = let n : (m.number ≡ l.number → ⊥) × (defined ls l.number ≡ false) = not_first l.number m ls d in
    (not_last m.number ls l p.0 (λ e. n.0 (sym e)), p.1, p.2, p.3, proper-more memory ls l p.4 n.1 r a)

not_there : (ls : List Label) (d : Label) (n j : ℕ) → j < length ls → defined ls n ≡ false → (get_or ls j d).number ≡ n → ⊥
not_there [] d n j k h e = omega arith
not_there (l ∷ ls) d n zero k h e = (not_first n l ls h).0 e
not_there (l ∷ ls) d n (suc j) k h e = not_there ls d n j (omega arith) (not_first n l ls h).1 e

-- the numbers at two places of the table differ
pub proper-differ : (memory : ℕ) (ls : List Label) (d : Label) → Proper memory ls → (i j : ℕ) → i < j → j < length ls
    → (get_or ls i d).number ≡ (get_or ls j d).number → ⊥
unfolding Proper
proper-differ memory [] d p i j h k e = omega arith
proper-differ memory (l ∷ ls) d p i zero h k e = omega arith
proper-differ memory (l ∷ ls) d p zero (suc j) h k e = not_there ls d l.number j (omega arith) p.0 (sym e)
proper-differ memory (l ∷ ls) d p (suc i) (suc j) h k e = proper-differ memory ls d p.4 i j (omega arith) (omega arith) e

module _ (memory room : ℕ) where
  noted-proper : (at : ℕ) (labels : List Label) (i : I.Item) → at ≤ memory → fault memory room at labels i ≡ 0 → Proper memory labels
      → Proper memory (noted at labels i)
  unfolding noted misplaced in_range
  noted-proper at labels (I.label n) a f p = proper-more memory labels (record { number = n; address = at }) p
      (label-placed memory room at labels n (no-fault-placed memory room at labels (I.label n) f)).0
      (label-range n (no-fault-ranged memory room at labels (I.label n) f)) a
  noted-proper at labels (I.instruction f i b x) a e p = p
  noted-proper at labels (I.constant x) a e p = p
  noted-proper at labels (I.string cs) a e p = p
  noted-proper at labels (I.global n m) a e p = p

  -- of the labels that the layout gives
  laid-proper : (at : ℕ) (labels : List Label) (items : List I.Placed) {ls : List Label} {end : ℕ} → at ≤ memory → Proper memory labels
      → lay memory room at labels items ≡ laid ls end → Proper memory ls
  unfolding lay
  laid-proper at labels [] {ls} a p h = let z : labels ≡ ls = cc in rw z at p
  laid-proper at labels (q ∷ qs) a p h = let f = laid-first memory room at labels q qs h in
      laid-proper (at + size q.item) (noted at labels q.item) qs (no-fault-fits memory room at labels q.item f.0 a)
      (noted-proper at labels q.item a f.0 p) f.1

-- ---- the image

ending-more : (at : ℕ) (items : List I.Placed) → at ≤ ending at items
unfolding ending
ending-more at [] = omega arith
ending-more at (p ∷ ps) = let h : at + size p.item ≤ ending (at + size p.item) ps = ending-more (at + size p.item) ps in omega arith

length-filled : (labels : List Label) (at : ℕ) (memory : List ℕ) (items : List I.Placed) → length (filled labels at memory items) ≡ length memory
unfolding filled
length-filled labels at memory [] = refl
length-filled labels at memory (p ∷ ps) =
    length-filled labels (at + size p.item) (put labels at memory p.item) ps ∙ length-put labels at memory p.item

length-image : (memory : ℕ) (labels : List Label) (items : List I.Placed) (end : ℕ) → 416 ≤ memory → Ends memory 416 items end
    → length (image memory labels items end) ≡ memory
length-image memory labels items end h e = ap length (sym (image-is memory labels items end h e))
    ∙ length-filled labels 416 (start ++ no_globals ++ replicate (memory - 416) 0) items ∙ length-fixed memory h

-- ---- an accepted text

pub record Acceptance (text : List ℕ) (memory room end : ℕ) : Type 0 where
  pub labels : List Label
  pub lays : lay memory room 416 [] (scan text).items ≡ laid labels end
  pub ends : (scan text).ending ≡ whole
  pub resolved : unknowns labels (scan text).items ≡ []
  pub accepts : assembled text memory room ≡ accept text memory room labels end (scan text).items
  pub least : 512 ≤ memory
  pub most : memory ≤ 32768
  -- the first stack word
  pub past-start : 416 ≤ end
  pub within : end ≤ memory
  pub fills : length (assembled text memory room).memory ≡ memory
  pub proper : Proper memory labels

module _ (text : List ℕ) (memory room : ℕ) {end : ℕ} where
  module _ (labels : List Label) {to : ℕ} where
    known-all : (us : List ℕ) → (on_unknowns text memory room us labels to (scan text).items).answer ≡ Ok end → (us ≡ []) × (to ≡ end)
    unfolding accept refuse
    known-all [] h = (refl, cc)
    known-all (u ∷ us) h = contradiction cc

    ended-whole : (e : Ending) → (on_ending text memory room e labels to (scan text).items).answer ≡ Ok end
        → (e ≡ whole) × (unknowns labels (scan text).items ≡ []) × (to ≡ end)
    unfolding refuse
    ended-whole whole h = let k : (unknowns labels (scan text).items ≡ []) × (to ≡ end) = known-all (unknowns labels (scan text).items) h in
        (refl, k.0, k.1)
    ended-whole (unreadable p) h = contradiction cc

  module _ (least : 512 ≤ memory) (most : memory ≤ 32768) (within : assembled text memory room ≡ on_laid text memory room
      (lay memory room 416 [] (scan text).items) (scan text)) where
    by_layout : (o : Laid) → lay memory room 416 [] (scan text).items ≡ o → (on_laid text memory room o (scan text)).answer ≡ Ok end
        → Acceptance text memory room end
    unfolding refuse accept Proper
    by_layout (refused n p) e h = contradiction cc
    by_layout (laid ls to) e h =
        let w : ((scan text).ending ≡ whole) × (unknowns ls (scan text).items ≡ []) × (to ≡ end) = ended-whole ls (scan text).ending h in
        let l : lay memory room 416 [] (scan text).items ≡ laid ls end = e ∙ rw w.2 in
        let d : Ends memory 416 (scan text).items end = laid-ends memory room 416 [] (scan text).items (omega arith) l in
        let a : assembled text memory room ≡ accept text memory room ls end (scan text).items = within ∙ rw (l, w.0, w.1) in
        record {
          labels = ls;
          lays = l;
          ends = w.0;
          resolved = w.1;
          accepts = a;
          least = least;
          most = most;
          past-start = omega (arith, ending-more 416 (scan text).items, d.ends);
          within = d.within;
          fills = rw a (length-image memory ls (scan text).items end (omega arith) d);
          proper = laid-proper memory room 416 [] (scan text).items (omega arith) tt l;
        }

  pub acceptance : (assembled text memory room).answer ≡ Ok end → Acceptance text memory room end
  unfolding assembled refuse
  acceptance h = by_cases (leb 512 memory && leb memory 32768) (λ e. let b = both_true (leb 512 memory) (leb memory 32768) e in
      by_layout (leb-true 512 memory b.0) (leb-true memory 32768 b.1) (rw e) (lay memory room 416 [] (scan text).items) refl (rw e at h))
      (λ e. let y : Err (refusal text 24 0) ≡ Ok end = rw e at h in contradiction cc)
