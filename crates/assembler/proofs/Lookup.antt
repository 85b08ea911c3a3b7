-- Looking a label up: what an answer says, and the public look-up.
use Rattle.laws.proofs.Basics.{ℕ, zero, suc, ◌+◌, ◌<◌, ◌≤◌, ◌≡◌, refl, sym, ◌∙◌, List, [], ◌∷◌, ◌++◌, true, false, length, get_or, drop, replicate}
use Rattle.laws.proofs.Basics.{drop_of_length-le, drop-cons, eqb, add-one, eq-eqb, ne_eqb}
use Rattle.laws.proofs.Cases.{by_cases, contradiction}
use Rattle.std.specs.Prelude.{Option, Some, None}
use Rattle.assembler.specs.declared.Label.{Label}
use Rattle.assembler.specs.Layout.{vacant, defined, address_of}
use Rattle.assembler.specs.Assemble.{looked_up}
use Rattle.assembler.specs.Passes.{as_found}

-- an answer's two readings
pub was-at : (labels : List Label) (n : ℕ) {f : Option ℕ} {a : ℕ} → f ≡ as_found labels n → f ≡ Some a
    → (defined labels n ≡ true) × (address_of labels n ≡ a)
unfolding as_found
was-at labels n {f} {a} p q = by_cases (defined labels n) (λ e. let z : Some (address_of labels n) ≡ Some a = (rw e at (sym p)) ∙ q in (e, cc))
    (λ e. let y : None ≡ Some a = (rw e at (sym p)) ∙ q in contradiction cc)

pub was-missing : (labels : List Label) (n : ℕ) {f : Option ℕ} → f ≡ as_found labels n → f ≡ None → defined labels n ≡ false
unfolding as_found
was-missing labels n {f} p q =
    by_cases (defined labels n) (λ e. let y : Some (address_of labels n) ≡ None = (rw e at (sym p)) ∙ q in contradiction cc) (λ e. e)

-- ---- the public look-up, in the records from a place on

first-told : (l : Label) (ls : List Label) (n : ℕ) → l.number ≡ n → (n ≡ 0 → ⊥) → looked_up (l ∷ ls) n ≡ Some l.address
unfolding looked_up defined address_of
first-told l ls n e z = simp (eq-eqb l.number n e, ne_eqb n 0 z)

first-other : (l : Label) (ls : List Label) (n : ℕ) → (l.number ≡ n → ⊥) → looked_up (l ∷ ls) n ≡ looked_up ls n
unfolding looked_up defined address_of
first-other l ls n e = simp (ne_eqb l.number n e)

pub looked-zero : (labels : List Label) (n : ℕ) → n ≡ 0 → None ≡ looked_up labels n
unfolding looked_up
looked-zero labels n e = rw e (by_cases (defined labels 0) (λ d. simp d) (λ d. simp d))

module _ (labels : List Label) (n i : ℕ) (inv : looked_up labels n ≡ looked_up (drop i labels) n) where
  pub looked-at : i < length labels → (get_or labels i vacant).number ≡ n → (n ≡ 0 → ⊥)
      → Some (get_or labels i vacant).address ≡ looked_up labels n
  looked-at h e z = sym (inv ∙ rw (drop-cons labels i vacant h) (first-told (get_or labels i vacant) (drop (suc i) labels) n e z))

  pub looked-on : i < length labels → ((get_or labels i vacant).number ≡ n → ⊥) → looked_up labels n ≡ looked_up (drop (i + 1) labels) n
  looked-on h e = inv ∙ rw (add-one i, drop-cons labels i vacant h) (first-other _ _ n e)

  pub looked-past : length labels ≤ i → None ≡ looked_up labels n
  unfolding looked_up defined
  looked-past h = sym (inv ∙ rw (drop_of_length-le labels h))

-- in a table of labels with vacant records behind them, a label is found where the labels have it
none-vacant : (more n : ℕ) → (n ≡ 0 → ⊥) → looked_up (replicate more vacant) n ≡ None
unfolding looked_up defined
none-vacant zero n h = refl
none-vacant (suc more) n h = first-other vacant (replicate more vacant) n (λ e. h (sym e)) ∙ none-vacant more n h

pub looked-in-labels : (labels : List Label) (more n : ℕ) → (n ≡ 0 → ⊥) → looked_up (labels ++ replicate more vacant) n ≡ as_found labels n
unfolding looked_up defined address_of as_found
looked-in-labels [] more n h = none-vacant more n h
looked-in-labels (l ∷ ls) more n h = by_cases (eqb l.number n) (λ e. simp (e, ne_eqb n 0 h)) (λ e. simp e (looked-in-labels ls more n h))
