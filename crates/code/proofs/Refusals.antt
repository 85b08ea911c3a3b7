-- The compiler's text has a label a source byte at most, and is refused only by 24 or 25: its labels differ and those used are there.
use Rattle.laws.proofs.Basics.{ℕ, suc, ◌+◌, ◌-◌, ◌≤◌, ◌≡◌, refl, List, [], ◌∷◌, ◌++◌, true, false, cond, ◌⊎◌, length, eqb, ltb, arith, eq-eqb, ne_eqb}
use Rattle.laws.proofs.Basics.{lt-ltb, le-ltb}
use Rattle.laws.proofs.Cases.{by_cases, by_order, by_cond}
use Rattle.text.specs.declared.Refusal.{Refusal}
use Rattle.items.specs.Item as I
use Rattle.items.specs.Item.{Operand, number, address, Item, label, instruction, constant}
use Rattle.items.specs.Scan.{scan}
use Rattle.items.specs.Render.{render, render_all}
use Rattle.items.proofs.Rendered.{places, rendered}
use Rattle.assembler.specs.Layout.{used_by, uses}
use Rattle.assembler.specs.Assemble.{assembled}
use Rattle.std.specs.Prelude.{Err}
use Rattle.assembler.proofs.Rendering.{seen, labels_of, Clean, AllKnown, rendered-only}
use Rattle.language.specs.Program.{accepted}
use Rattle.language.specs.Whole.{refusal_of, funs, functions_in, strings_in}
use Rattle.code.specs.Placed.{label_count}
use Rattle.code.specs.Generate.{items_of, text_of}
use Rattle.code.proofs.Sounding.{Within, RightOperand, Sounds, s-none, s-more, right-range, all_sound}
use Rattle.code.proofs.Measures.{sum, marks, fun_labels, items-marks}
use Rattle.language.proofs.Accepted.{Facts, facts}
use Rattle.code.proofs.GoodSource.{ns, total, few-in-all, total-low, items-sound}

-- ---- how many labels

pub count-up : (a b : ℕ) → a ≤ b → a ≤ b
count-up a b l = l

abbrev pub number_of : ℕ → ℕ
number_of n = n

count-places : (p : ℕ) (is : List Item) → label_count (places p is) ≡ marks number_of is
unfolding label_count places sum
count-places p [] = refl
count-places p (label n ∷ is) = omega (arith, count-places (p + length (render (label n)) + 1) is)
count-places p (instruction f i b x ∷ is) = omega (arith, count-places (p + length (render (instruction f i b x)) + 1) is)
count-places p (constant x ∷ is) = omega (arith, count-places (p + length (render (constant x)) + 1) is)
count-places p (I.string cs ∷ is) = omega (arith, count-places (p + length (render (I.string cs)) + 1) is)
count-places p (I.global n m ∷ is) = omega (arith, count-places (p + length (render (I.global n m)) + 1) is)

-- ---- how often a label is there

abbrev passed : ℕ → ℕ → ℕ
passed k n = cond (ltb k n) 1 0

passed-up : (k a b : ℕ) → a ≤ b → passed k a ≤ passed k b
passed-up k a b l = by_order k a (λ e. rw (lt-ltb k a e, lt-ltb k b (omega arith)) (omega arith)) (λ e. rw (le-ltb k a e) (omega arith))

abbrev point : ℕ → ℕ → ℕ
point k n = cond (eqb n k) 1 0

passed-point : (k n : ℕ) → passed k (suc n) - passed k n ≡ point k n
passed-point k n = by_order k n (λ l. rw (lt-ltb k n l, lt-ltb k (suc n) (omega arith), ne_eqb n k (λ e. omega arith)) refl) (λ l.
    by_order n k (λ m. rw (le-ltb k n l, le-ltb k (suc n) m, ne_eqb n k (λ e. omega arith)) refl) (λ m.
    rw (le-ltb k n l, lt-ltb k (suc n) (omega arith), eq-eqb n k (omega arith)) refl))

unfoldable times : ℕ → List ℕ → ℕ
times k [] = 0
times k (n ∷ ns) = point k n + times k ns

times-both : (k : ℕ) (xs ys : List ℕ) → times k (xs ++ ys) ≡ times k xs + times k ys
unfolding times
times-both k [] ys = omega arith
times-both k (x ∷ xs) ys = omega (arith, times-both k xs ys)

times-marks : (k : ℕ) (is : List Item) → times k (labels_of is) ≡ marks (passed k) is
unfolding labels_of times sum
times-marks k [] = refl
times-marks k (label n ∷ is) = omega (arith, times-marks k is, passed-point k n)
times-marks k (instruction f i b x ∷ is) = omega (arith, times-marks k is)
times-marks k (constant x ∷ is) = omega (arith, times-marks k is)
times-marks k (I.string cs ∷ is) = omega (arith, times-marks k is)
times-marks k (I.global n m ∷ is) = omega (arith, times-marks k is)

seen_none : (k : ℕ) (ns : List ℕ) → times k ns ≤ 0 → seen ns k ≡ false
unfolding seen times
seen_none k [] l = refl
seen_none k (n ∷ ns) l = by_cases (eqb n k) (λ e. let z : 1 + times k ns ≤ 0 = rw e at l in absurd (omega arith)) (λ e.
    let z : 0 + times k ns ≤ 0 = rw e at l in rw e (seen_none k ns (omega arith)))

seen-some : (k : ℕ) (ns : List ℕ) → 1 ≤ times k ns → seen ns k ≡ true
unfolding seen times
seen-some k [] l = absurd (omega arith)
seen-some k (n ∷ ns) l = by_cases (eqb n k) (λ e. rw e refl) (λ e. let z : 1 ≤ 0 + times k ns = rw e at l in rw e (seen-some k ns (omega arith)))

-- ---- labels that differ, and labels that are there

module _ (T : ℕ) (low : T ≤ 32768) where
  clean_all : (before : List ℕ) (is : List Item) → Sounds T is → ((k : ℕ) → times k before + times k (labels_of is) ≤ 1) → Clean before is
  unfolding labels_of times
  clean_all before [] s f = tt
  clean_all before (label n ∷ is) (s-more p q) f = (
    right-range T low (label n) p,
    seen_none n before (omega (arith, f n, same n)),
    clean_all (before ++ (n ∷ [])) is q (λ k. omega (arith, f k, times-both k before (n ∷ []))),
  )
    where
      same : (n : ℕ) → point n n ≡ 1
      same n = rw (eq-eqb n n refl)
  clean_all before (instruction f i b x ∷ is) (s-more p q) h =
      (right-range T low (instruction f i b x) p, tt, clean_all (before ++ []) is q (λ k. omega (arith, h k, times-both k before [])))
  clean_all before (constant x ∷ is) (s-more p q) h =
      (right-range T low (constant x) p, tt, clean_all (before ++ []) is q (λ k. omega (arith, h k, times-both k before [])))
  clean_all before (I.string cs ∷ is) (s-more p q) h =
      (right-range T low (I.string cs) p, tt, clean_all (before ++ []) is q (λ k. omega (arith, h k, times-both k before [])))
  clean_all before (I.global n m ∷ is) (s-more p q) h =
      (right-range T low (I.global n m) p, tt, clean_all (before ++ []) is q (λ k. omega (arith, h k, times-both k before [])))

  module _ (labels : List ℕ) (there : (k : ℕ) → Within T k → seen labels k ≡ true) where
    one_known : (k : ℕ) → Within T k → cond (eqb k 0) true (seen labels k) ≡ true
    one_known k w = by_cases (eqb k 0) (λ outcome. rw outcome) (λ outcome. rw outcome (there k w))

    operand_known : (x : Operand) → RightOperand T x → cond (eqb (used_by x) 0) true (seen labels (used_by x)) ≡ true
    operand_known = elim [ number true n ↦ λ p. absurd p | number false n ↦ λ p. refl | address n ↦ λ p. one_known n p ]

    known-all : {is : List Item} → Sounds T is → AllKnown labels is
    unfolding uses
    known-all s-none = tt
    known-all (s-more {x = label n} p q) = (refl, known-all q)
    known-all (s-more {x = instruction f i b x} p q) = (operand_known x p.right, known-all q)
    known-all (s-more {x = constant x} p q) = (operand_known x p, known-all q)
    known-all (s-more {x = I.string cs} p q) = (refl, known-all q)
    known-all (s-more {x = I.global n m} p q) = (one_known m p.start, known-all q)

-- ---- the text of a source that is accepted

module _ (source : List ℕ) (x : Facts source) where
  items : List Item
  items = items_of (funs (ns source x)) (strings_in source)

  all-labels : suc (length (funs (ns source x))) + length (strings_in source) + fun_labels (funs (ns source x)) ≡ total source x
  all-labels = refl

  often : (k : ℕ) → times k (labels_of items) + passed k 1 ≡ passed k (total source x)
  unfolding items
  often k = rw (times-marks k (items_of (funs (ns source x)) (strings_in source)))
      (items-marks (passed k) (passed-up k) (funs (ns source x)) (strings_in source) (total source x) all-labels)

  at-most-once : (k : ℕ) → times k (labels_of items) ≤ 1
  at-most-once k = omega (arith, often k, by_cond (λ n. n ≤ 1) (ltb k (total source x)) {x = 1} {y = 0} (omega arith) (omega arith))

  once : (k : ℕ) → Within (total source x) k → seen (labels_of items) k ≡ true
  once k w = let h : times k (labels_of items) + 0 ≡ 1 = rw (le-ltb k 1 w.first, lt-ltb k (total source x) w.last) at (often k) in
      seen-some k (labels_of items) (omega arith)

  same-items : items_of (functions_in source) (strings_in source) ≡ items
  unfolding items ns
  same-items = rw x.functions

  items-right : Sounds (total source x) items
  unfolding items
  items-right = items-sound source x

  counted : marks number_of items + 1 ≡ total source x
  unfolding items
  counted = items-marks number_of count-up (funs (ns source x)) (strings_in source) (total source x) all-labels

  pub items-count : marks number_of (items_of (functions_in source) (strings_in source)) + 1 ≡ total source x
  items-count = rw same-items counted

  labels-most : label_count (scan (render_all items)).items ≤ length source
  labels-most = rw (rendered items (all_sound (total source x) (total-low source x) items-right))
      (omega (arith, count-places 2 items, counted, few-in-all source x))

  none : (k : ℕ) → times k [] ≡ 0
  unfolding times
  none k = refl

  items-only : (memory room : ℕ) (r : Refusal) → (assembled (render_all items) memory room).answer ≡ Err r → (r.number ≡ 24) ⊎ (r.number ≡ 25)
  items-only memory room r h = rendered-only items (all_sound (total source x) (total-low source x) items-right)
      (clean_all (total source x) (total-low source x) [] items items-right (λ k. omega (arith, at-most-once k, none k)))
      (known-all (total source x) (total-low source x) (labels_of items) once items-right) memory room r h

-- a label a byte: no more than there are bytes
pub few_labels : (source : List ℕ) (scratch : ℕ) → refusal_of source scratch ≡ accepted → label_count (scan (text_of source)).items ≤ length source
unfolding text_of
few_labels source scratch a = rw (same-items source (facts source scratch a)) (labels-most source (facts source scratch a))

pub refused_only : (source : List ℕ) (scratch : ℕ) → refusal_of source scratch ≡ accepted → (memory room : ℕ) (r : Refusal)
    → (assembled (text_of source) memory room).answer ≡ Err r
    → (r.number ≡ 24) ⊎ (r.number ≡ 25)
unfolding text_of
refused_only source scratch a memory room r h =
    items-only source (facts source scratch a) memory room r (rw (same-items source (facts source scratch a)) at h)
