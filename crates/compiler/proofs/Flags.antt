-- Flags, eight in an entry: what one more changes.
use Rattle.laws.proofs.Basics.{ℕ, zero, suc, ◌+◌, ◌*◌, ◌/◌, ◌%◌, ◌^◌, ◌<◌, ◌≤◌, ◌≡◌, refl, sym, ap, ◌∙◌, List, length, get_or, set, replicate}
use Rattle.laws.proofs.Basics.{get_or-replicate, List·getD-eq-default, get_or-set_same, get_or-set_other, eqb, arith, eqb-true, eqb-false}
use Rattle.laws.proofs.Cases.{by_cases}
use native.Mathlib.Nat.{pow-suc, zero-div}
use native.Mathlib.Numerals.{one-add}
use lib.Pow.{shr-shr}
use Rattle.compiler.specs.Labels.{flag}

-- ---- in a number

abbrev bit : ℕ → ℕ → ℕ
bit x k = x / 2 ^ k % 2

bit-half : (x k : ℕ) → bit x (suc k) ≡ bit (x / 2) k
bit-half x k = cc (one-add k, shr-shr x 1 k)

half-more : (x k : ℕ) → (x + 2 ^ suc k) / 2 ≡ x / 2 + 2 ^ k
half-more x k = omega (arith, pow-suc 2 k)

more-here : (x k : ℕ) → bit x k ≡ 0 → bit (x + 2 ^ k) k ≡ 1
more-here x zero e = omega arith
more-here x (suc k) e = rw (bit-half (x + 2 ^ suc k) k, half-more x k, more-here (x / 2) k (sym (bit-half x k) ∙ e))

more-other : (x a b : ℕ) → (b ≡ a → ⊥) → bit x a ≡ 0 → bit (x + 2 ^ a) b ≡ bit x b
more-other x zero zero n e = absurd (n refl)
more-other x zero (suc b) n e = let z : (x + 1) / 2 ≡ x / 2 = omega arith in rw (bit-half (x + 1) b, z, bit-half x b)
more-other x (suc a) zero n e = omega (arith, pow-suc 2 a)
more-other x (suc a) (suc b) n e =
    bit-half (x + 2 ^ suc a) b ∙ ap (λ (z : ℕ). bit z b) (half-more x a) ∙ more-other (x / 2) a b (λ q. n (ap suc q)) (sym (bit-half x a) ∙ e) ∙ sym
    (bit-half x b)

more-small : (n x a : ℕ) → a < n → x < 2 ^ n → bit x a ≡ 0 → x + 2 ^ a < 2 ^ n
more-small zero x a l s e = absurd (omega arith)
more-small (suc n) x zero l s e = omega (arith, pow-suc 2 n)
more-small (suc n) x (suc a) l s e =
    omega (arith, pow-suc 2 n, pow-suc 2 a, more-small n (x / 2) a (omega arith) (omega (arith, pow-suc 2 n)) (sym (bit-half x a) ∙ e))

nothing : (m : ℕ) → 0 / m % 2 ≡ 0
nothing m = simp zero-div

-- a flag by itself, in a byte
pub mark-is : (i : ℕ) → 1 * 2 ^ (i % 8) % 256 ≡ 2 ^ (i % 8)
mark-is i = let z : 0 + 2 ^ (i % 8) < 2 ^ 8 = more-small 8 0 (i % 8) (omega arith) (omega arith) (nothing (2 ^ (i % 8))) in omega arith

-- ---- in a list

pub flag-beyond : (seen : List ℕ) (i : ℕ) → length seen ≤ i / 8 → flag seen i ≡ 0
flag-beyond seen i l = rw (List·getD-eq-default seen 0 l, nothing (2 ^ (i % 8)))

pub flag-none : {seen : List ℕ} {n : ℕ} (i : ℕ) → seen ≡ replicate n 0 → i / 8 < n → flag seen i ≡ 0
flag-none {n = n} i e l = rw (e, get_or-replicate {A = ℕ} n (i / 8) 0 0 l, nothing (2 ^ (i % 8)))

-- an entry with one flag more
module _ (seen : List ℕ) (i : ℕ) {x p : ℕ} (ex : x ≡ get_or seen (i / 8) 0) (ep : p ≡ 2 ^ (i % 8)) (e : x / p % 2 ≡ 0) where
  pub flag-free : flag seen i ≡ 0
  flag-free = cc

  pub flag-fits : x < 256 → x + p < 256
  flag-fits l = let z : x + 2 ^ (i % 8) < 2 ^ 8 = more-small 8 x (i % 8) (omega arith) l (cc) in omega arith

  pub flag-here : i / 8 < length seen → flag (set seen (i / 8) (x + p)) i ≡ 1
  flag-here l = ap (λ (y : ℕ). bit y (i % 8)) (rw (get_or-set_same seen (i / 8) (x + p) 0 l, ep)) ∙ more-here x (i % 8) (cc)

  pub flag-other : i / 8 < length seen → (k : ℕ) → (k ≡ i → ⊥) → flag (set seen (i / 8) (x + p)) k ≡ flag seen k
  flag-other l k n = by_cases (eqb (k / 8) (i / 8)) (λ q. let j : k / 8 ≡ i / 8 = eqb-true (k / 8) (i / 8) q in
      ap (λ (y : ℕ). bit (get_or (set seen (i / 8) (x + p)) y 0) (k % 8)) j ∙ ap (λ (y : ℕ). bit y (k % 8))
      (rw (get_or-set_same seen (i / 8) (x + p) 0 l, ep)) ∙ more-other x (i % 8) (k % 8) (λ z. n (omega arith)) (cc) ∙ ap (λ (y : ℕ). bit y (k % 8))
      (rw (ex, j))) (λ q. rw (get_or-set_other seen (i / 8) (k / 8) (x + p) 0 (eqb-false (k / 8) (i / 8) q)))

pub flag-taken : (seen : List ℕ) (i : ℕ) → (flag seen i ≡ 0 → ⊥) → flag seen i ≡ 1
flag-taken seen i n = omega arith
