-- What stands at a place, by the class of the byte there.
use Rattle.laws.proofs.Basics.{ℕ, ◌≡◌, List, [], ◌∷◌, length, take, drop}
use Rattle.laws.proofs.Basics.{◌-◌, length-drop, take-length, ne_eqb}
use Rattle.text.proofs.Bytes.{Unlike}
use Rattle.language.specs.Bytes.{class_of}
use Rattle.language.specs.Symbols.{wrong, by_class}

module _ (bs : List ℕ) where
  -- ---- by the class

  module _ (c : ℕ) {k : ℕ} (e : k ≡ class_of c) where
    pub of-class : (m : ℕ) → k ≡ m → by_class m bs ≡ by_class (class_of c) bs
    of-class m q = rw (← e, q)

    pub no-class : Unlike k (9 ∷ 8 ∷ 7 ∷ 6 ∷ 5 ∷ 4 ∷ 2 ∷ 1 ∷ []) → wrong 2 0 ≡ by_class (class_of c) bs
    unfolding by_class
    no-class h = rw (
      ← e,
      ne_eqb k 1 h.0.0.0.0.0.0.0.1,
      ne_eqb k 2 h.0.0.0.0.0.0.1,
      ne_eqb k 4 h.0.0.0.0.0.1,
      ne_eqb k 5 h.0.0.0.0.1,
      ne_eqb k 6 h.0.0.0.1,
      ne_eqb k 7 h.0.0.1,
      ne_eqb k 8 h.0.1,
      ne_eqb k 9 h.1,
    )

-- the bytes from a place on, as a slice has them
abbrev pub rest : List ℕ → (at : ℕ) → List ℕ
rest text at = take (length text - at) (drop at text)

pub rest-is : (text : List ℕ) (at : ℕ) → rest text at ≡ drop at text
rest-is text at = rw (← length-drop at text) (take-length (drop at text))
