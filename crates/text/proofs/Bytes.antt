-- A byte of a text, as the head of what follows its place.
use Rattle.laws.proofs.Basics.{ℕ, ◌+◌, ◌<◌, ◌≤◌, ◌≡◌, List, [], ◌∷◌, length, get_or, drop, drop_of_length-le, drop-cons, add-one}

-- what holds of a byte and the rest holds where that byte stands
module _ {A : Type 0} (f : List ℕ → A) (text : List ℕ) (at : ℕ) where
  pub at_byte : {k : ℕ} → at < length text → get_or text at 0 ≡ k → f (drop at text) ≡ f (k ∷ drop (at + 1) text)
  at_byte h e = rw (drop-cons text at 0 h, e, add-one)

  pub past_end : length text ≤ at → f (drop at text) ≡ f []
  past_end h = rw (drop_of_length-le text h)

-- c is none of these, the last first, as a `match` leaves it
abbrev pub Unlike : ℕ → List ℕ → Type 0
Unlike c [] = Unit {0}
Unlike c (k ∷ ks) = Unlike c ks × (c ≡ k → ⊥)
