-- Quotient and remainder are what a reader expects of signed division: quotient * divisor + remainder is the dividend,
-- the remainder is smaller than the divisor and has the dividend's sign. One pair wraps: -32768 / -1.
use Rattle.laws.proofs.Basics.{ℕ, zero, suc, ◌+◌, ◌-◌, ◌*◌, ◌/◌, ◌%◌, ◌<◌, ◌≤◌, suc-le-suc, ◌≡◌, refl, sym, ap, ◌∙◌, false, ◌⊎◌, inl, inr, le_trans}
use Rattle.laws.proofs.Basics.{lt_of_lt_of_le, lt_of_le_of_lt, eq-or-lt_of_le, arith}
use Rattle.std.proofs.Common.{ℤ, pos, negsuc, ◌+ℤ◌, ◌*ℤ◌, neg_ℤ, nat_abs, mod-lt, zero-lt-suc, div-add-mod', zero-mul, div-le_self}
use native.Mathlib.Nat.{div-lt_self, le-suc}
use lib.IntN.{neg_ℤ-+ℤ}
use lib.Signed.{mag, mag_rem, non_neg, quot_z, rem_z}
use Rattle.words.specs.Words.{value, word_of, quot, rem}
use Rattle.words.proofs.Laws.{value_low, value-high, magnitude-positive, value-small}

-- ---- of the signed numbers

minus-times : (n b : ℕ) → neg_ℤ (pos n) *ℤ pos b ≡ neg_ℤ (pos (n * b))
minus-times zero b = simp zero-mul
minus-times (suc n) b = refl

minus-times-minus : (n b : ℕ) → neg_ℤ (pos n) *ℤ negsuc b ≡ pos (n * suc b)
minus-times-minus zero b = simp zero-mul
minus-times-minus (suc n) b = refl

sum-minus : (m n : ℕ) → neg_ℤ (pos m) +ℤ neg_ℤ (pos n) ≡ neg_ℤ (pos (m + n))
sum-minus m n = sym (neg_ℤ-+ℤ (pos m) (pos n))

pub quot_z-rem_z : (p q : ℤ) → quot_z p q *ℤ q +ℤ rem_z p q ≡ p
quot_z-rem_z (pos a) (pos b) = ap pos (div-add-mod' a b)
quot_z-rem_z (pos a) (negsuc b) = rw minus-times-minus (ap pos (div-add-mod' a (suc b)))
quot_z-rem_z (negsuc a) (pos b) = rw (minus-times, sum-minus, div-add-mod' (suc a) b)
quot_z-rem_z (negsuc a) (negsuc b) = rw (sum-minus, div-add-mod' (suc a) (suc b))

minus-size : (n : ℕ) → nat_abs (neg_ℤ (pos n)) ≡ n
minus-size zero = refl
minus-size (suc n) = refl

pub rem_z-smaller : (p q : ℤ) → 0 < nat_abs q → nat_abs (rem_z p q) < nat_abs q
rem_z-smaller (pos a) q h = mod-lt a h
rem_z-smaller (negsuc a) q h = rw minus-size (mod-lt (suc a) h)

-- zero, or with the dividend's sign
minus-sign : (n : ℕ) → (neg_ℤ (pos n) ≡ pos 0) ⊎ (non_neg (neg_ℤ (pos n)) ≡ false)
minus-sign zero = inl refl
minus-sign (suc n) = inr refl

pub rem_z-sign : (p q : ℤ) → (rem_z p q ≡ pos 0) ⊎ (non_neg (rem_z p q) ≡ non_neg p)
rem_z-sign (pos a) q = inr refl
rem_z-sign (negsuc a) q = minus-sign (suc a % nat_abs q)

-- ---- of the words

value-of-word : (z : ℤ) → mag z < 32768 → value (word_of z) ≡ z
unfolding word_of
value-of-word (pos n) h = let e : n % 65536 ≡ n = omega arith in rw e (value_low n h)
value-of-word (negsuc n) h = let e : 65535 - n % 65536 ≡ 65535 - n = omega arith in
    let f : 65535 - (65535 - n) ≡ n = omega arith in
    rw e (value-high (65535 - n) (omega arith) ∙ ap negsuc f)

minus-small : (n b : ℕ) → n ≤ suc b → b < 32768 → mag (neg_ℤ (pos n)) < 32768
minus-small zero b h k = omega arith
minus-small (suc n) b h k = omega arith

-- every quotient is in range but that of -32768 and -1
quotient-small : (p q : ℤ) → mag p < 32768 → (p ≡ negsuc 32767 → q ≡ negsuc 0 → ⊥) → mag (quot_z p q) < 32768
quotient-small (pos a) (pos b) h k = lt_of_le_of_lt (div-le_self a b) h
quotient-small (pos a) (negsuc b) h k = minus-small (a / suc b) a (le_trans (div-le_self a (suc b)) (le-suc a)) h
quotient-small (negsuc a) (pos b) h k = minus-small (suc a / b) a (div-le_self (suc a) b) h
quotient-small (negsuc a) (negsuc zero) h k = go (eq-or-lt_of_le h)
  where
    go : (suc a ≡ 32768) ⊎ (suc a < 32768) → suc a / 1 < 32768
    go (inl e) = let z : a ≡ 32767 = omega arith in absurd (k (ap negsuc z) refl)
    go (inr l) = lt_of_le_of_lt (div-le_self (suc a) 1) l
quotient-small (negsuc a) (negsuc (suc b)) h k = lt_of_lt_of_le (div-lt_self (zero-lt-suc a) (suc-le-suc (zero-lt-suc b))) h

-- what the words x and y divided give, y not being zero, and x and y not -32768 and -1
pub record Divides (x y : ℕ) : Type 0 where
  -- quotient * divisor + remainder is the dividend
  pub whole : value (quot x y) *ℤ value y +ℤ value (rem x y) ≡ value x
  -- the remainder is smaller than the divisor
  pub smaller : nat_abs (value (rem x y)) < nat_abs (value y)
  -- and is zero or has the dividend's sign
  pub sign : (value (rem x y) ≡ pos 0) ⊎ (non_neg (value (rem x y)) ≡ non_neg (value x))

pub divides : (x y : ℕ) → x < 65536 → y < 65536 → (y ≡ 0 → ⊥) → (value x ≡ negsuc 32767 → value y ≡ negsuc 0 → ⊥) → Divides x y
unfolding quot rem
divides x y hx hy nz corner = let q : value (quot x y) ≡ quot_z (value x) (value y) = value-of-word (quot_z (value x) (value y))
    (quotient-small (value x) (value y) (value-small x hx) corner) in
    let r : value (rem x y) ≡ rem_z (value x) (value y) = value-of-word (rem_z (value x) (value y))
    (lt_of_le_of_lt (mag_rem (value x) (value y)) (value-small x hx)) in
    record {
      whole = rw (q, r) (quot_z-rem_z (value x) (value y));
      smaller = rw r (rem_z-smaller (value x) (value y) (magnitude-positive y hy nz));
      sign = rw r (rem_z-sign (value x) (value y));
    }
