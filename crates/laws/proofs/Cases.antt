-- Ways to go on: by a test's two outcomes, by the order of two numbers, and from what cannot be.
use Rattle.laws.proofs.Basics.{ℕ, ◌<◌, ◌≤◌, ◌≡◌, refl, sym, ◌∙◌, Bool, true, false, not, ◌&&◌, cond, eqb, ltb, arith}
use Rattle.laws.proofs.Basics.{eqb-true, eqb-false, ltb-true, ltb-false, not-true, not-false}

pub by_cases {ℓ} : {P : Type ℓ} (b : Bool) → (b ≡ true → P) → (b ≡ false → P) → P
by_cases true h k = h refl
by_cases false h k = k refl

pub by_order {ℓ} : {P : Type ℓ} (n m : ℕ) → (n < m → P) → (m ≤ n → P) → P
by_order n m h k = by_cases (ltb n m) (λ e. h (ltb-true n m e)) (λ e. k (ltb-false n m e))

pub by_equal {ℓ} : {P : Type ℓ} (n m : ℕ) → (n ≡ m → P) → ((n ≡ m → ⊥) → P) → P
by_equal n m h k = by_cases (eqb n m) (λ e. h (eqb-true n m e)) (λ e. k (eqb-false n m e))

-- of what a test chooses
pub by_cond : {A : Type 0} (P : A → Type 0) (b : Bool) {x y : A} → P x → P y → P (cond b x y)
by_cond P true p q = p
by_cond P false p q = q

-- the same of a choice by `elim`
pub by-choice : {A : Type 0} (P : A → Type 0) (b : Bool) {x y : A} → P x → P y → P (elim b as (λ _. A) [ true ↦ x | false ↦ y ])
by-choice P true p q = p
by-choice P false p q = q

-- where the outcome is used
pub either : {A : Type 0} (P : A → Type 0) (b : Bool) {x y : A} → (b ≡ true → P x) → (b ≡ false → P y) → P (cond b x y)
either P true h k = h refl
either P false h k = k refl

-- two constructors that are not the same: `contradiction cc`
pub contradiction {ℓ} : {P : Type ℓ} → ◌≡◌ {A = ℕ} 0 1 → P
contradiction z = absurd (omega arith)

-- ---- what a branch says of the test that was called: its answer is b

pub holds : {r b : Bool} → r ≡ b → r ≡ true → b ≡ true
holds e f = sym e ∙ f

pub fails : {r b : Bool} → r ≡ b → r ≡ false → b ≡ false
fails e f = sym e ∙ f

-- the same where the branch tests that it is not so

pub held : {r b : Bool} → r ≡ b → not r ≡ false → b ≡ true
held {r} e f = sym e ∙ not-false r f

pub failed : {r b : Bool} → r ≡ b → not r ≡ true → b ≡ false
failed {r} e f = sym e ∙ not-true r f

-- ---- a conjunction: of the first, and of all others
infixr 5 ◌&◌
pub ◌&◌ : {P Q : Type 0} → P → Q → P × Q
p & q = (p, q)

-- that of two truth values is true

pub both_true : (a b : Bool) → (a && b) ≡ true → (a ≡ true) × (b ≡ true)
both_true true b h = (refl, h)
both_true false b h = contradiction cc

pub both_left : (a b : Bool) → (a && b) ≡ true → a ≡ true
both_left a b h = (both_true a b h).0

pub both_right : (a b : Bool) → (a && b) ≡ true → b ≡ true
both_right a b h = (both_true a b h).1
