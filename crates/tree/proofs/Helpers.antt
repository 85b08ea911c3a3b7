-- Laws of scratch: what the functions that read and write single entries leave.
use Rattle.text.specs.declared.faults.Fault.{Fault}
use Rattle.laws.proofs.Basics.{ℕ, zero, suc, ◌+◌, ◌-◌, ◌*◌, ◌^◌, ◌<◌, ◌≤◌, ◌≡◌, refl, sym, ap, subst, ◌∙◌, List, [], ◌∷◌, ◌++◌, append_assoc, length, set}
use Rattle.laws.proofs.Basics.{take, length-set, length-take-le, take-suc-set, arith}
use lib.Seq.{take-take, take-append-le}
use Rattle.tree.specs.Reads.{Ready, LeavesRoom, TakesRoom, Refuses, Adds, SetsSize, next_of, free_of, low_of, live, reach, record_from, behind_from}
use Rattle.tree.specs.declared.scratch.State.{State}
use Rattle.tree.specs.declared.scratch.State.TheVariants.{Read, Refused}

-- one entry and then the next
put2 : (s : List ℕ) (i x y : ℕ) → i + 2 ≤ length s → take (i + 2) (set (set s i x) (i + 1) y) ≡ take i s ++ (x ∷ y ∷ [])
put2 s i x y h = let e2 : i + 2 ≡ suc (i + 1) = omega arith in
    let e1 : i + 1 ≡ suc i = omega arith in
    let l1 : i < length s = omega arith in
    let l2 : i + 1 < length (set s i x) = simp length-set (omega arith) in
    ap (λ (m : ℕ). take m (set (set s i x) (i + 1) y)) e2 ∙ take-suc-set (set s i x) (i + 1) y l2
    ∙ ap (λ (l : List ℕ). l ++ (y ∷ [])) (ap (λ (m : ℕ). take m (set s i x)) e1 ∙ take-suc-set s i x l1) ∙ append_assoc (take i s) (x ∷ []) (y ∷ [])

put4 :
    (s : List ℕ) (i x y z w : ℕ) → i + 4 ≤ length s
    → take (i + 4) (set (set (set (set s i x) (i + 1) y) (i + 2) z) (i + 3) w) ≡ take i s ++ (x ∷ y ∷ z ∷ w ∷ [])
put4 s i x y z w h = let t : List ℕ = set (set s i x) (i + 1) y in
    let e4 : i + 4 ≡ i + 2 + 2 = omega arith in
    let e3 : i + 3 ≡ i + 2 + 1 = omega arith in
    let l : i + 2 + 2 ≤ length t = simp length-set (omega arith) in
    ap (λ (m : ℕ). take m (set (set t (i + 2) z) (i + 3) w)) e4 ∙ ap (λ (m : ℕ). take (i + 2 + 2) (set (set t (i + 2) z) m w)) e3
    ∙ put2 t (i + 2) z w l ∙ ap (λ (a : List ℕ). a ++ (z ∷ w ∷ [])) (put2 s i x y (omega arith)) ∙ append_assoc (take i s) (x ∷ y ∷ []) (z ∷ w ∷ [])

-- what stands below stays
pub below : (s s' : List ℕ) (k i m : ℕ) (w : List ℕ) → take m s' ≡ take i s ++ w → k ≤ i → i ≤ m → i ≤ length s → take k s' ≡ take k s
below s s' k i m w e h h' l =
    sym (take-take k m s' (omega arith)) ∙ ap (take k) e ∙ take-append-le k (take i s) w (omega (arith, length-take-le i s l)) ∙ take-take k i s h

pub take-set : (s : List ℕ) (m i x : ℕ) → take m (set s i x) ≡ set (take m s) i x
take-set [] zero i x = refl
take-set [] (suc m) i x = refl
take-set (y ∷ s) zero zero x = refl
take-set (y ∷ s) zero (suc i) x = refl
take-set (y ∷ s) (suc m) zero x = refl
take-set (y ∷ s) (suc m) (suc i) x = ap (λ (l : List ℕ). y ∷ l) (take-set s m i x)

pub set_past : (s : List ℕ) (i x : ℕ) → length s ≤ i → set s i x ≡ s
set_past [] i x h = refl
set_past (y ∷ s) zero x h = absurd (omega arith)
set_past (y ∷ s) (suc i) x h = ap (λ (l : List ℕ). y ∷ l) (set_past s i x (omega arith))

-- where the state is known
module _ {r : State} {at free : ℕ} (e : r ≡ Read at free) where
  pub free-is : (size : ℕ) → free_of size r ≡ free
  unfolding free_of
  free-is size = ap (free_of size) e

  facts-read : (n : ℕ) → (next_of r ≡ at) × (low_of n r ≡ free) × (live r ≡ 1) × (reach n r ≡ free + 5 * (n - at))
  unfolding next_of low_of live reach
  facts-read n = (ap next_of e, ap (low_of n) e, ap live e, ap (reach n) e)

read-facts :
    (n at free : ℕ)
    → (next_of (Read at free) ≡ at) × (low_of n (Read at free) ≡ free) × (live (Read at free) ≡ 1) × (reach n (Read at free) ≡ free + 5 * (n - at))
read-facts n at free = facts-read {r = Read at free} refl n

refused-facts : (n : ℕ) (k : Fault) (p : ℕ) → (next_of (Refused k p) ≡ 0) × (low_of n (Refused k p) ≡ n * 3) × (live (Refused k p) ≡ 0) × (reach n (Refused k p) ≡ 0)
unfolding next_of low_of live reach
refused-facts n k p = (refl, refl, refl, refl)

low_by : (n size : ℕ) (r : State) → reach n r ≤ size → free_of size r ≤ size
unfolding free_of reach
low_by n size (Read at free) h = omega arith
low_by n size (Refused k p) h = omega arith

-- the next free entry is no further than scratch goes, and no symbol's
pub low : {m n : ℕ} {s : List ℕ} {r : State} → Ready m s n r → free_of (length s) r ≤ length s
low {m} {n} {s} {r} h = low_by n (length s) r (omega (arith, h.room))

pub low-past : {m k n : ℕ} {s : List ℕ} {r r' : State} → Ready m s n r → LeavesRoom k s s n r r' → free_of (length s) r' ≤ length s
low-past {m} {k} {n} {s} {r} {r'} h f = low_by n (length s) r' (omega (arith, h.room, f.leaves))

base_by : (n size : ℕ) (r : State) → n * 3 ≤ low_of n r → n * 3 ≤ size → n * 3 ≤ free_of size r
unfolding free_of low_of
base_by n size (Read at free) h l = h
base_by n size (Refused k p) h l = l

pub base : {m n : ℕ} {s : List ℕ} {r : State} → Ready m s n r → n * 3 ≤ free_of (length s) r
base {m} {n} {s} {r} h = base_by n (length s) r h.above (omega (arith, h.wide))

-- the room that a state has, and what it leaves
module _ {m : ℕ} {s : List ℕ} {n : ℕ} {r : State} (h : Ready m s n r) where
  pub refused-fits : {k : ℕ} {p : Fault} {q : ℕ} → LeavesRoom k s s n r (Refused p q)
  refused-fits {k} {p} {q} = let f = refused-facts n p q in
      record {
        placed = omega (arith, f);
        above = omega (arith, f);
        leaves = rw f.2 (omega (arith, f));
        lives = omega (arith, f);
        dead = omega (arith, f);
        kept = refl;
      }

  pub refused-grows : {k : ℕ} {p : Fault} {q : ℕ} → TakesRoom k s s n r (Refused p q)
  refused-grows {k} {p} {q} = let f = refused-facts n p q in
      record {
        placed = omega (arith, f);
        above = omega (arith, f);
        more = rw f.2 (omega (arith, f));
        lives = omega (arith, f);
        dead = omega (arith, f);
        kept = refl;
      }

  module _ {at free : ℕ} (e : r ≡ Read at free) where
    pub next_fits : at < n → LeavesRoom 5 s s n r (Read (at + 1) free)
    next_fits l = let f = read-facts n (at + 1) free in let g = facts-read e n in record {
      placed = omega (arith, f);
      above = omega (arith, f, g, h.above);
      leaves = omega (arith, f, g);
      lives = omega (arith, f, g);
      dead
          = omega (arith, f, g, h.room, h.small);
      kept = refl;
    }

    pub room-is : (free + m ≤ length s) × (n * 3 ≤ free) × (at ≤ n) × (length s < 2 ^ 32) × (n * 3 + 64 ≤ length s)
    room-is = omega (arith, facts-read e n, h.room, h.above, h.placed, h.small, h.wide)

    module _ (words : ℕ → List ℕ) (s' : List ℕ) (k nf : ℕ) (el : nf ≡ free + k) (len : length (words free) ≡ k) (le : k ≤ m)
        (w : take nf s' ≡ take free s ++ words free) where
      added-grows : TakesRoom k s s' n r (Read at nf)
      added-grows = let f = read-facts n at nf in let g = facts-read e n in record {
        placed = omega (arith, f, room-is);
        above = omega (arith, f, room-is);
        more = rw f.2 (omega (arith, f, g));
        lives = omega (arith, f, g);
        dead = omega (arith, f, g, h.room, h.small);
        kept = below s s' (n * 3) free nf (words free) w (omega (arith, room-is)) (omega arith) (omega (arith, room-is));
      }

      added-adds : Adds words s s' r (Read at nf)
      added-adds = let q : nf ≡ free + length (words free) = omega arith in
          record { by = rw e (ap (λ (x : ℕ). Read at x) q, ap (λ (x : ℕ). take x s') (sym q) ∙ w) }

-- a refusal stays, and so does the room
module _ {s : List ℕ} {n : ℕ} {r : State} {p : Fault} {q : ℕ} (e : r ≡ Refused p q) {m k : ℕ} (h : Ready m s n r) where
  pub refused-leaves : LeavesRoom k s s n r r
  refused-leaves = subst (λ (x : State). LeavesRoom k s s n r x) (sym e) (refused-fits h)

  pub refused-takes : TakesRoom k s s n r r
  refused-takes = subst (λ (x : State). TakesRoom k s s n r x) (sym e) (refused-grows h)

-- the entries that are written behind, and the state after them
module _ {s : List ℕ} {n : ℕ} {r : State} {at free : ℕ} (e : r ≡ Read at free) where
  pub record-written :
      Ready 4 s n r → (lo v p k : ℕ) {z : ℕ} → z ≡ free - lo
      → TakesRoom 4 s (set (set (set (set s free z) (free + 1) v) (free + 2) p) (free + 3) k) n r (Read at (free + 4))
      × Adds (record_from lo v p k) s (set (set (set (set s free z) (free + 1) v) (free + 2) p) (free + 3) k) r (Read at (free + 4))
  record-written h lo v p k q = let w = put4 s free _ v p k (room-is h e).0 ∙ ap (λ (y : ℕ). take free s ++ (y ∷ v ∷ p ∷ k ∷ [])) q in
      (added-grows h e (record_from lo v p k) _ 4 _ refl refl (omega arith) w, added-adds h e (record_from lo v p k) _ 4 _ refl refl (omega arith) w)

  module _ (h : Ready 2 s n r) (tag : ℕ) where
    pub item-ended :
        (lo : ℕ) {z : ℕ} → z ≡ free - lo
        → TakesRoom 2 s (set (set s free z) (free + 1) tag) n r (Read at (free + 2))
        × Adds (behind_from lo tag) s (set (set s free z) (free + 1) tag) r (Read at (free + 2))
    item-ended lo q = let w = put2 s free _ tag (room-is h e).0 ∙ ap (λ (y : ℕ). take free s ++ (y ∷ tag ∷ [])) q in
        (added-grows h e (behind_from lo tag) _ 2 _ refl refl (omega arith) w, added-adds h e (behind_from lo tag) _ 2 _ refl refl (omega arith) w)

    pub item-begun :
        TakesRoom 2 s (set (set s free 0) (free + 1) tag) n r (Read at (free + 2))
        × Adds (λ _. 0 ∷ tag ∷ []) s (set (set s free 0) (free + 1) tag) r (Read at (free + 2))
    item-begun = let w = put2 s free 0 tag (room-is h e).0 in
        (added-grows h e (λ _. 0 ∷ tag ∷ []) _ 2 _ refl refl (omega arith) w, added-adds h e (λ _. 0 ∷ tag ∷ []) _ 2 _ refl refl (omega arith) w)

pub adds-refused : {words : ℕ → List ℕ} {s s' : List ℕ} {r : State} {k : Fault} {p : ℕ} → r ≡ Refused k p → Adds words s s' r r
adds-refused e = record { by = rw e refl }

pub refuses-read : {fault : Fault} {at free : ℕ} {r : State} → r ≡ Read at free → Refuses fault r (Refused fault at)
refuses-read e = record { by = rw e refl }

pub refuses-refused : {fault k : Fault} {p : ℕ} {r : State} → r ≡ Refused k p → Refuses fault r r
refuses-refused e = record { by = rw e refl }

dead_by : (n : ℕ) (r : State) → reach n r < 2 ^ 32 → reach n r ≤ live r * 2 ^ 32
unfolding live reach
dead_by n (Read at free) h = omega arith
dead_by n (Refused k p) h = omega arith

-- the size of an item is set
module _ {s : List ℕ} {n : ℕ} {r : State} {lo : ℕ} (h : Ready 0 s n r) (l : n * 3 ≤ lo) where
  pub set-size-fits : (s' : List ℕ) → take (n * 3) s' ≡ take (n * 3) s → LeavesRoom 0 s s' n r r
  set-size-fits s' e = record {
    placed = h.placed;
    above = h.above;
    leaves = omega arith;
    lives = omega arith;
    dead = dead_by n r (omega (arith, h.room, h.small));
    kept = e;
  }

  pub set-kept : (z : ℕ) → take (n * 3) (set s lo z) ≡ take (n * 3) s
  set-kept z = take-set s (n * 3) lo z ∙ set_past (take (n * 3) s) lo z (omega (arith, length-take-le (n * 3) s (omega (arith, h.wide))))

  pub sized_set : {at free : ℕ} → r ≡ Read at free → (z : ℕ) → z ≡ free - lo - 2 → SetsSize lo s (set s lo z) r
  sized_set {at} {free} e z q = record { by = rw e (take-set s free lo z ∙ ap (set (take free s) lo) q) }

  pub sized_past : {at free : ℕ} → r ≡ Read at free → free ≤ lo → SetsSize lo s s r
  sized_past {at} {free} e q =
      record { by = rw e (sym (set_past (take free s) lo (free - lo - 2) (omega (arith, length-take-le free s (omega (arith, room-is h e)))))) }

pub sized-refused : {lo : ℕ} {s s' : List ℕ} {r : State} {k : Fault} {p : ℕ} → r ≡ Refused k p → SetsSize lo s s' r
sized-refused e = record { by = rw e tt }

pub itself : {m : ℕ} {s : List ℕ} {n : ℕ} {r : State} → Ready m s n r → LeavesRoom 0 s s n r r
itself {m} {s} {n} {r} h = record {
  placed = h.placed;
  above = h.above;
  leaves = omega arith;
  lives = omega arith;
  dead = dead_by n r (omega (arith, h.room, h.small));
  kept = refl;
}
