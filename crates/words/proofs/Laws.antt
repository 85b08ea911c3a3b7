-- What the proofs of `quotient` and `remainder` and the laws of division cite: a word's signed number by its half, and the code's conversions.
use Rattle.laws.proofs.Basics.{ℕ, zero, suc, ◌-◌, ◌/◌, ◌<◌, ◌≤◌, ◌≡◌, ap, ◌∙◌, ltb}
use Rattle.laws.proofs.Basics.{arith, ne_eqb, ltb-true, ltb-false, lt-ltb, le-ltb}
use Rattle.laws.proofs.Cases.{by_cases}
use Rattle.std.proofs.Common.{ℤ, pos, negsuc, neg_ℤ, nat_abs, div-le_self, Some, w16}
use Rattle.std.specs.Int.{cast_signed, cast_unsigned}
use Rattle.std.proofs.lemmas.Int.{of_z-to_z}
use lib.Signed.{mag, mag_rem, quot_z, rem_z}
use Rattle.words.specs.Words.{value, word_of, quot, rem}
use Rattle.words.specs.Answers.{divided}

-- ---- the signed number of a word, by its half

pub value_low : (x : ℕ) → x < 32768 → value x ≡ pos x
unfolding value
value_low x h = simp (lt-ltb x 32768 h)

pub value-high : (x : ℕ) → 32768 ≤ x → value x ≡ negsuc (65535 - x)
unfolding value
value-high x h = simp (le-ltb x 32768 h)

-- by cases on the half that a word stands in
pub halves : {P : Type 0} (x : ℕ) → (x < 32768 → P) → (32768 ≤ x → P) → P
halves {P} x low high = by_cases (ltb x 32768) (λ e. low (ltb-true x 32768 e)) (λ e. high (ltb-false x 32768 e))

module _ (x : ℕ) (h : x < 65536) where
  pub magnitude-positive : (x ≡ 0 → ⊥) → 0 < nat_abs (value x)
  magnitude-positive k = halves x (λ l. simp (value_low x l) (omega arith)) (λ l. simp (value-high x l) (omega arith))

pub value-small : (x : ℕ) → x < 65536 → mag (value x) < 32768
value-small x h = halves x (λ l. rw (value_low x l) l) (λ l. rw (value-high x l) (omega arith))

-- ---- quotient and remainder: the signed numbers' own, by the bits that they are in

-- a word's bits stand for its signed number
value-is : (x : ℕ) → cast_signed w16 x ≡ value x
unfolding value
value-is x = halves x (λ l. simp (lt-ltb x 32768 l)) (λ l. simp (le-ltb x 32768 l) (ap negsuc (omega arith)))

-- and a signed number's bits are its word
word-is : (z : ℤ) → mag z < 65536 → cast_unsigned w16 z ≡ word_of z
unfolding word_of
word-is (pos n) h = omega arith
word-is (negsuc n) h = omega arith

minus-size : (n : ℕ) → mag (neg_ℤ (pos n)) ≤ n
minus-size zero = omega arith
minus-size (suc n) = omega arith

-- every quotient is below 32768, but for that of -32768 and -1, which is 32768
quot-size : (p q : ℤ) → mag p < 32768 → mag (quot_z p q) < 65536
quot-size (pos a) (pos b) h = omega (arith, div-le_self a b)
quot-size (pos a) (negsuc b) h = omega (arith, div-le_self a (suc b), minus-size (a / suc b))
quot-size (negsuc a) (pos b) h = omega (arith, div-le_self (suc a) b, minus-size (suc a / b))
quot-size (negsuc a) (negsuc b) h = omega (arith, div-le_self (suc a) (suc b))

divided-is : (y : ℕ) {r v : ℕ} → (y ≡ 0 → ⊥) → r ≡ v → Some r ≡ divided y v
divided-is y h e = simp (ne_eqb y 0 h) (ap Some e)

bits-below : (z : ℤ) → mag z < 65536 → cast_unsigned w16 z < 65536
bits-below (pos n) h = h
bits-below (negsuc n) h = omega arith

-- the code's conversions to bits and back, of a word and of a result
there-and-back : {n : ℕ} {z : ℤ} → n < 65536 → z ≡ cast_signed w16 n → cast_signed w16 (cast_unsigned w16 z) ≡ value n
there-and-back {n} h e = rw (e, of_z-to_z w16 n h) (value-is n)

word-back : {r : ℤ} (z : ℤ) → mag z < 65536 → r ≡ z → cast_unsigned w16 (cast_signed w16 (cast_unsigned w16 r)) ≡ word_of z
word-back z h e = rw (e, of_z-to_z w16 (cast_unsigned w16 z) (bits-below z h)) (word-is z h)

word-back-wrapped : {r : ℤ} (z : ℤ) → mag z < 65536 → r ≡ cast_signed w16 (cast_unsigned w16 z)
    → cast_unsigned w16 (cast_signed w16 (cast_unsigned w16 r)) ≡ word_of z
word-back-wrapped z h e = let b = of_z-to_z w16 (cast_unsigned w16 z) (bits-below z h) in rw (e, b, b) (word-is z h)

module _ {x y : ℕ} {p q r : ℤ} {s : ℕ} (hx : x < 65536) (hy : y < 65536) (nz : y ≡ 0 → ⊥) (hp : p ≡ cast_signed w16 x) (hq : q ≡ cast_signed w16 y)
    (hs : s ≡ cast_unsigned w16 (cast_signed w16 (cast_unsigned w16 r))) where
  pub quot_is : r ≡ cast_signed w16 (cast_unsigned w16 (quot_z (cast_signed w16 (cast_unsigned w16 p)) (cast_signed w16 (cast_unsigned w16 q))))
      → Some s ≡ divided y (quot x y)
  unfolding quot
  quot_is e = divided-is y nz (hs ∙ word-back-wrapped (quot_z (value x) (value y)) (quot-size (value x) (value y) (value-small x hx))
      (simp (there-and-back hx hp, there-and-back hy hq) at e))

  pub rem_is : r ≡ rem_z (cast_signed w16 (cast_unsigned w16 p)) (cast_signed w16 (cast_unsigned w16 q)) → Some s ≡ divided y (rem x y)
  unfolding rem
  rem_is e = divided-is y nz (hs ∙ word-back (rem_z (value x) (value y)) (omega (arith, mag_rem (value x) (value y), value-small x hx))
      (simp (there-and-back hx hp, there-and-back hy hq) at e))
