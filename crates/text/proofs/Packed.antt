-- How many words a string makes.
use Rattle.laws.proofs.Basics.{ℕ, suc, ◌/◌, ◌≡◌, refl, List, [], ◌∷◌, length, arith}
use Rattle.text.specs.Packed.{pairs}

pub length_pairs : (high : ℕ) (cs : List ℕ) → length (pairs high cs) ≡ suc (length cs / 2)
unfolding pairs
length_pairs high [] = refl
length_pairs high (c ∷ []) = refl
length_pairs high (c ∷ d ∷ cs) = let e : length (pairs d cs) ≡ suc (length cs / 2) = length_pairs d cs in omega arith
