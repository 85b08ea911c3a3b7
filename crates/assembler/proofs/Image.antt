-- The memory after every item is the image: items written one after another are words in a row, and globals beside them.
use Rattle.laws.proofs.Basics.{ℕ, suc, ◌+◌, ◌-◌, ◌<◌, ◌≤◌, ◌≡◌, refl, ap, ◌∙◌, List, [], ◌∷◌, ◌++◌, append_assoc, append-nil, true, length, set, drop}
use Rattle.laws.proofs.Basics.{replicate, length-append, length-set, length-replicate, replicate-append-replicate, take_at, drop_at, drop-append-add}
use Rattle.laws.proofs.Basics.{sets, sets-eq, sub-zero, arith}
use Rattle.laws.proofs.Cases.{by_cases}
use lib.Seq.{set-append_left}
use Rattle.items.specs.Item as I
use Rattle.assembler.specs.Words.{short, in_range, size, words}
use Rattle.text.proofs.Packed.{length_pairs}
use Rattle.assembler.specs.declared.Label.{Label}
use Rattle.assembler.specs.Layout.{address_of, noted, laid, lay}
use Rattle.assembler.specs.Assemble.{start, globals_after, globals, program, image}
use Rattle.words.specs.Globals.{no_globals}
use Rattle.assembler.specs.Passes.{put, filled, FitsAll}
use Rattle.assembler.proofs.Faults.{laid-first, no-fault-ranged, no-fault-fits}
use Rattle.assembler.proofs.Writing.{global-range}

-- ---- lists

set_append_right : (xs ys : List ℕ) (i a : ℕ) → set (xs ++ ys) (length xs + i) a ≡ xs ++ set ys i a
set_append_right [] ys i a = let z : 0 + i ≡ i = omega arith in rw z
set_append_right (x ∷ xs) ys i a = let z : suc (length xs) + i ≡ suc (length xs + i) = omega arith in
    rw z (ap (λ (l : List ℕ). x ∷ l) (set_append_right xs ys i a))

drop-zeros : (n k : ℕ) → n ≤ k → drop n (replicate {A = ℕ} k 0) ≡ replicate (k - n) 0
drop-zeros n k h = let z : n + (k - n) ≡ k = omega arith in
    let e : replicate {A = ℕ} n 0 ++ replicate (k - n) 0 ≡ replicate k 0 = replicate-append-replicate n (k - n) 0 ∙ rw z in
    rw (← e) (drop_at (replicate n 0) (replicate (k - n) 0) n (length-replicate n 0))

-- words over zeros
over_zeros : (front ws : List ℕ) (k : ℕ) → length ws ≤ k
    → sets (front ++ replicate k 0) (length front) ws ≡ front ++ ws ++ replicate (k - length ws) 0
over_zeros front ws k h = let n : length (front ++ replicate k 0) ≡ length front + k = length-append front (replicate k 0) ∙ rw length-replicate in
    sets-eq ws (front ++ replicate k 0) (length front) (omega arith)
    ∙ rw (take_at front (replicate k 0) (length front) refl, drop-append-add, drop-zeros (length ws) k h)

-- ---- an item's words are as many as its size

pub length-words : (at : ℕ → ℕ) (i : I.Item) → length (words at i) ≡ size i
unfolding words size
length-words at (I.label n) = refl
length-words at (I.instruction f i b x) = by_cases (short x) (λ e. rw e refl) (λ e. rw e refl)
length-words at (I.constant x) = refl
length-words at (I.string cs) = length_pairs (length cs) cs
length-words at (I.global n m) = refl

-- ---- where the items end

unfoldable pub ending : ℕ → List I.Placed → ℕ
ending at [] = at
ending at (p ∷ ps) = ending (at + size p.item) ps

-- what the first pass found of them
pub record Ends (memory at : ℕ) (items : List I.Placed) (end : ℕ) : Type 0 where
  pub fits : FitsAll memory at items
  pub ends : ending at items ≡ end
  pub within : end ≤ memory

module _ (memory room : ℕ) where
  pub laid-ends : (at : ℕ) (labels : List Label) (items : List I.Placed) {ls : List Label} {end : ℕ} → at ≤ memory
      → lay memory room at labels items ≡ laid ls end → Ends memory at items end
  unfolding lay ending FitsAll
  laid-ends at labels [] {ls} {end} l h = let z : at ≡ end = cc in record { fits = tt; ends = z; within = rw z at l }
  laid-ends at labels (p ∷ ps) {ls} {end} l h = let f = laid-first memory room at labels p ps h in
      let b = no-fault-fits memory room at labels p.item f.0 l in
      let r : Ends memory (at + size p.item) ps end = laid-ends (at + size p.item) (noted at labels p.item) ps b f.1 in
      record { fits = (no-fault-ranged memory room at labels p.item f.0, b, r.fits); ends = r.ends; within = r.within }

-- ---- one item after another, past a start of 16 words

module _ (labels : List Label) (st : List ℕ) (sixteen : length st ≡ 16) where
  -- the globals and the program so far, and zeros
  abbrev so_far : (gs pr : List ℕ) (k : ℕ) → List ℕ
  so_far gs pr k = st ++ gs ++ pr ++ replicate k 0

  module _ (gs pr : List ℕ) (k at : ℕ) (e : 416 + length pr ≡ at) (g : length gs ≡ 400) where
    front_length : length (st ++ gs ++ pr) ≡ at
    front_length = simp length-append (omega arith)

    put-words : (ws : List ℕ) → length ws ≤ k → sets (so_far gs pr k) at ws ≡ so_far gs (pr ++ ws) (k - length ws)
    put-words ws h =
        let o : sets (so_far gs pr k) (length (st ++ gs ++ pr)) ws ≡ st ++ gs ++ pr ++ ws ++ replicate (k - length ws) 0 = over_zeros (st ++ gs ++ pr)
        ws k h in (rw front_length at o) ∙ rw (append_assoc (st ++ gs) pr ws)

    put-global : (n v : ℕ) → n < 400 → set (so_far gs pr k) (16 + n) v ≡ so_far (set gs n v) pr k
    put-global n v h = let o : length (st ++ gs) ≡ 416 = simp length-append (omega arith) in
        let p : 16 + n < length (st ++ gs ++ pr) = simp length-append (omega arith) in
        let q : set (st ++ gs) (16 + n) v ≡ st ++ set gs n v = rw (← sixteen) (set_append_right st gs n v) in
        set-append_left (st ++ gs ++ pr) (replicate k 0) (16 + n) v p ∙ rw (set-append_left (st ++ gs) pr (16 + n) v (omega arith), q)

    put_item : (i : I.Item) → size i ≤ k
        → sets (so_far gs pr k) at (words (address_of labels) i) ≡ so_far gs (pr ++ words (address_of labels) i) (k - size i)
    put_item i h = let n : length (words (address_of labels) i) ≡ size i = length-words (address_of labels) i in
        rw (← n) (put-words (words (address_of labels) i) (omega arith))

    no_words : (gs pr : List ℕ) → so_far gs pr k ≡ so_far gs (pr ++ []) (k - 0)
    no_words gs pr = rw (append-nil, sub-zero)

    put_is : (i : I.Item) → in_range i ≡ true → size i ≤ k
        → put labels at (so_far gs pr k) i ≡ so_far (globals_after labels gs i) (pr ++ words (address_of labels) i) (k - size i)
    unfolding put globals_after words size
    put_is (I.label n) r h = no_words gs pr
    put_is (I.instruction f i b x) r h = put_item (I.instruction f i b x) h
    put_is (I.constant x) r h = put_item (I.constant x) h
    put_is (I.string cs) r h = put_item (I.string cs) h
    put_is (I.global n m) r h = let l : n ≤ 399 = (global-range n m r).0 in
        put-global n (address_of labels m) (omega arith) ∙ no_words (set gs n (address_of labels m)) pr

  length-after : (gs : List ℕ) (i : I.Item) → length (globals_after labels gs i) ≡ length gs
  unfolding globals_after
  length-after gs (I.label n) = refl
  length-after gs (I.instruction f i b x) = refl
  length-after gs (I.constant x) = refl
  length-after gs (I.string cs) = refl
  length-after gs (I.global n m) = length-set gs n (address_of labels m)

  filled_is : (items : List I.Placed) (gs pr : List ℕ) (k at memory : ℕ) → 416 + length pr ≡ at → length gs ≡ 400 → at + k ≡ memory
      → FitsAll memory at items
      → filled labels at (so_far gs pr k) items ≡ st ++ globals labels gs items ++ (pr ++ program labels items) ++ replicate
      (memory - ending at items) 0
  unfolding filled globals program FitsAll ending
  filled_is [] gs pr k at memory e g s f = let z : memory - at ≡ k = omega arith in rw (append-nil, z)
  filled_is (p ∷ ps) gs pr k at memory e g s f =
      let n : length (words (address_of labels) p.item) ≡ size p.item = length-words (address_of labels) p.item in
      let l : length (pr ++ words (address_of labels) p.item) ≡ length pr + length (words (address_of labels) p.item) = length-append pr
      (words (address_of labels) p.item) in
      let h : at + size p.item ≤ memory = f.1 in
      rw (put_is gs pr k at e g p.item f.0 (omega arith))
      (filled_is ps (globals_after labels gs p.item) (pr ++ words (address_of labels) p.item) (k - size p.item) (at + size p.item) memory
      (omega arith) (length-after gs p.item ∙ g) (omega arith) f.2
      ∙ rw (append_assoc pr (words (address_of labels) p.item) (program labels ps)))

length_none : length no_globals ≡ 400
unfolding no_globals
length_none = refl

pub image-is : (memory : ℕ) (labels : List Label) (items : List I.Placed) (end : ℕ) → 416 ≤ memory → Ends memory 416 items end
    → filled labels 416 (start ++ no_globals ++ replicate (memory - 416) 0) items ≡ image memory labels items end
unfolding image no_globals
image-is memory labels items end h e =
    filled_is labels start refl items no_globals [] (memory - 416) 416 memory refl length_none (omega arith) e.fits ∙ rw e.ends
