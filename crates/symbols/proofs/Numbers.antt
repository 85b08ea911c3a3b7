-- Numbers: their value, digit by digit, with 65,536 for all that are larger; and what is read by it.
use Rattle.laws.proofs.Basics.{ℕ, suc, ◌+◌, ◌-◌, ◌*◌, ◌<◌, ◌≤◌, ◌≡◌, refl, sym, ap, ◌∙◌, List, [], ◌∷◌, Bool, true, false, ◌&&◌, ◌⊎◌, inl, inr}
use Rattle.laws.proofs.Basics.{⊎_elim, length, get_or, drop, ltb, leb, arith, ltb-true, ltb-false, leb-true, le-leb, lt-leb}
use Rattle.laws.proofs.Cases.{by_cases, contradiction}
use native.Mathlib.Nat.{mul-le-mul, le-mul_of_pos_right}
use Rattle.symbols.proofs.Runs.{digits-run, Running, run-within, run_ends, run-stops, run-goes-on}
use Rattle.text.proofs.Bytes.{at_byte, past_end}
use Rattle.language.specs.Symbols.{symbol, wrong, digit_of, digits, value_of, decimal, octal}
use Rattle.symbols.specs.Parts.{capped}

-- ---- digits

pub below-digits : (base c : ℕ) → c < 48 → digit_of base c ≡ false
below-digits base c h = rw (lt-leb 48 c h)

pub from-digits : (base c : ℕ) → 48 ≤ c → digit_of base c ≡ ltb c (48 + base)
from-digits base c h = rw (le-leb 48 c h)

pub digit-from : (base c : ℕ) → digit_of base c ≡ true → 48 ≤ c
digit-from base c e = by_cases (leb 48 c) (λ k. leb-true 48 c k)
    (λ k. let y : false ≡ true = sym (ap (λ (t : Bool). (t && (ltb c (48 + base)))) k) ∙ e in contradiction cc)

-- ---- large values

pub capped-low : (n : ℕ) → n < 65536 → capped n ≡ n
capped-low n h = omega arith

pub capped-high : (n : ℕ) → 65536 ≤ n → capped n ≡ 65536
capped-high n h = omega arith

either_side : (n : ℕ) → (n < 65536) ⊎ (65536 ≤ n)
either_side n = by_cases (ltb n 65536) (λ e. inl (ltb-true n 65536 e)) (λ e. inr (ltb-false n 65536 e))

pub capped-within : (n : ℕ) → capped n ≤ 65536
capped-within n = ⊎_elim (λ h. omega (arith, capped-low n h)) (λ h. omega (arith, capped-high n h)) (either_side n)

capped-own : (n : ℕ) → n ≤ 65536 → capped n ≡ n
capped-own n k = ⊎_elim (λ h. capped-low n h) (λ h. omega (arith, capped-high n h)) (either_side n)

-- a value below 65,536 is its own
pub uncapped : (n : ℕ) {v : ℕ} → v ≡ capped n → v < 65536 → n ≡ v
uncapped n e h = ⊎_elim (λ k. omega (arith, capped-low n k)) (λ k. omega (arith, capped-high n k)) (either_side n)

pub uncapped-high : (n : ℕ) {v : ℕ} → v ≡ capped n → 65536 ≤ v → 65536 ≤ n
uncapped-high n e h = ⊎_elim (λ k. omega (arith, capped-low n k)) (λ k. k) (either_side n)

-- the same value, or both large
abbrev Alike : ℕ → ℕ → Type 0
Alike v w = (v ≡ w) ⊎ ((65536 ≤ v) × (65536 ≤ w))

alike-capped : (v w : ℕ) → Alike v w → capped v ≡ capped w
alike-capped v w = ⊎_elim (λ e. ap capped e) (λ h. capped-high v h.0 ∙ sym (capped-high w h.1))

capped-alike : (v : ℕ) → Alike (capped v) v
capped-alike v = ⊎_elim (λ h. inl (capped-low v h)) (λ h. inr (omega (arith, capped-high v h), h)) (either_side v)

alike-digit : (base d v w : ℕ) → 1 ≤ base → Alike v w → Alike (v * base + d) (w * base + d)
alike-digit base d v w h = ⊎_elim (λ e. inl (ap (λ (n : ℕ). n * base + d) e))
    (λ k. inr (omega (arith, le-mul_of_pos_right v h), omega (arith, le-mul_of_pos_right w h)))

alike-value : (base : ℕ) → 1 ≤ base → (bytes : List ℕ) (v w : ℕ) → Alike v w → Alike (value_of base v bytes) (value_of base w bytes)
unfolding value_of
alike-value base h [] v w a = a
alike-value base h (c ∷ r) v w a = elim (digit_of base c) as (λ t. Alike (elim t [ true ↦ value_of base (v * base + (c - 48)) r | false ↦ v ])
    (elim t [ true ↦ value_of base (w * base + (c - 48)) r | false ↦ w ]))
    [ true ↦ alike-value base h r (v * base + (c - 48)) (w * base + (c - 48)) (alike-digit base (c - 48) v w h a) | false ↦ a ]

-- ---- a turn of the loop over digits

pub product : (n base : ℕ) → n ≤ 65536 → base ≤ 10 → n * base ≤ 655360
product n base h k = mul-le-mul h k

-- the digits from i on make of the number n so far what all of them make
pub record Digits (base : ℕ) (text : List ℕ) (n i : ℕ) : Type 0 where
  pub run : Running (digits-run base) text i
  pub small : n ≤ 65536
  pub value : capped (value_of base n (drop i text)) ≡ capped (value_of base 0 text)

pub digits-start : (base : ℕ) (text : List ℕ) → Digits base text 0 0
digits-start base text = record { run = omega arith; small = omega arith; value = refl }

-- how many there are, and what they make
abbrev Read : (base : ℕ) (text : List ℕ) (n i : ℕ) → Type 0
Read base text n i = (i ≡ digits base text) × (n ≡ capped (value_of base 0 text))

module _ {base : ℕ} {text : List ℕ} {n i : ℕ} (s : Digits base text n i) where
  pub digits-end : length text ≤ i → Read base text n (length text)
  unfolding value_of
  digits-end h = (
    omega (arith, run_ends (digits-run base) s.run h, run-within (digits-run base) text),
    sym (ap capped (past_end (value_of base n) text i h) ∙ capped-own n s.small) ∙ s.value,
  )

  module _ (h : i < length text) {c : ℕ} (e : c ≡ get_or text i 0) where
    pub digits-stop : digit_of base c ≡ false → Read base text n i
    unfolding value_of
    digits-stop k = (
      run-stops (digits-run base) s.run h (rw e at k),
      sym (ap capped (at_byte (value_of base n) text i h (sym e) ∙ stopped (digit_of base c) k) ∙ capped-own n s.small) ∙ s.value,
    )
      where
        stopped : (t : Bool) → t ≡ false → elim t [ true ↦ value_of base (n * base + (c - 48)) (drop (i + 1) text) | false ↦ n ] ≡ n
        stopped true j = contradiction cc
        stopped false j = refl

    pub digits_more : {m : ℕ} → 1 ≤ base → digit_of base c ≡ true → m ≡ capped (n * base + (c - 48)) → Digits base text m (i + 1)
    unfolding value_of
    digits_more b k q = record {
      run = run-goes-on (digits-run base) s.run h (rw e at k);
      small = rw q (capped-within _);
      value = rw q (alike-capped _ _ (alike-value base b (drop (i + 1) text) _ _ (capped-alike (n * base + (c - 48)))))
          ∙ sym (ap capped (at_byte (value_of base n) text i h (sym e) ∙ went (digit_of base c) k)) ∙ s.value;
    }
      where
        went : (t : Bool) → t ≡ true
            → elim t [ true ↦ value_of base (n * base + (c - 48)) (drop (i + 1) text) | false ↦ n ]
            ≡ value_of base (n * base + (c - 48)) (drop (i + 1) text)
        went true j = refl
        went false j = contradiction cc

-- ---- what is read

module _ (bs : List ℕ) where
  module _ {v : ℕ} (e : v ≡ capped (value_of 10 0 bs)) where
    pub a-decimal : {n : ℕ} → n ≡ digits 10 bs → v ≤ 32767 → symbol 60 v n ≡ decimal bs
    unfolding decimal
    a-decimal d h = let k : value_of 10 0 bs ≡ v = uncapped _ e (omega arith) in rw (k, le-leb v 32767 h, ← d)

    pub no-decimal : 32767 < v → wrong 3 0 ≡ decimal bs
    unfolding decimal
    no-decimal h =
        let k : 32767 < value_of 10 0 bs = ⊎_elim (λ l. omega (arith, uncapped _ e l)) (λ l. omega (arith, uncapped-high _ e l)) (either_side v)
        in rw (lt-leb _ 32767 k)

  module _ {n : ℕ} (d : n ≡ digits 8 bs) where
    pub no-digits : n < 1 → wrong 3 0 ≡ octal bs
    unfolding octal
    no-digits h = rw (← d, lt-leb 1 n h)

    module _ (m : 1 ≤ n) {v : ℕ} (e : v ≡ capped (value_of 8 0 bs)) where
      pub an-octal : v ≤ 65535 → symbol 60 v (n + 1) ≡ octal bs
      unfolding octal
      an-octal h = let k : value_of 8 0 bs ≡ v = uncapped _ e (omega arith) in let s : n + 1 ≡ suc n = omega arith in
          rw (k, ← d, le-leb 1 n m, le-leb v 65535 h, s)

      pub no-octal : 65535 < v → wrong 3 0 ≡ octal bs
      unfolding octal
      no-octal h = let k : 65535 < value_of 8 0 bs = omega (arith, uncapped-high _ e (omega arith)) in rw (← d, le-leb 1 n m, lt-leb _ 65535 k)
