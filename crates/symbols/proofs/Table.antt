-- Tables: one whose entries a function gives, which antt computes and compares with the code's, and a test that every entry of one passes.
use Rattle.laws.proofs.Basics.{ℕ, zero, suc, ◌+◌, ◌<◌, ◌≡◌, sym, ap, ◌∙◌, List, [], ◌∷◌, Bool, true, false, ◌&&◌, length, get_or, add-zero, arith}
use native.Mathlib.Nat.{le_of_suc-le-suc, not-suc-le-zero}
use lib.Dec.{T}

abbrev pub tabulate : (ℕ → ℕ) → (from count : ℕ) → List ℕ
tabulate f i zero = []
tabulate f i (suc n) = f i ∷ tabulate f (suc i) n

pub tabulate-at : (f : ℕ → ℕ) (i n k : ℕ) → k < n → get_or (tabulate f i n) k 0 ≡ f (i + k)
tabulate-at f i zero k h = absurd (not-suc-le-zero h)
tabulate-at f i (suc n) zero h = ap f (sym (add-zero i))
tabulate-at f i (suc n) (suc k) h = tabulate-at f (suc i) n k (le_of_suc-le-suc h) ∙ ap f (let e : suc i + k ≡ i + suc k = omega arith in e)

module _ {A : Type 0} (f : A → Bool) (d : A) where
  abbrev pub every : List A → Bool
  every [] = true
  every (x ∷ xs) = f x && every xs

  pub each : (xs : List A) → T (every xs) → (k : ℕ) → k < length xs → T (f (get_or xs k d))
  each [] t k h = absurd (not-suc-le-zero h)
  each (x ∷ xs) t zero h = first (f x) (every xs) t
    where
      first : (a b : Bool) → T (a && b) → T a
      first true b t = tt
      first false b t = t
  each (x ∷ xs) t (suc k) h = each xs (rest (f x) (every xs) t) k (le_of_suc-le-suc h)
    where
      rest : (a b : Bool) → T (a && b) → T b
      rest true b t = t
      rest false b t = absurd t
