-- The classes of symbols (`Binding`): 0, the kind of no symbol, is in none. And what a `match` on kinds leaves.
use Rattle.laws.proofs.Basics.{ℕ, zero, suc, ◌<◌, ◌≡◌, refl, sym, ap, ◌∙◌, [], ◌∷◌, Bool, true, false, cond, arith}
use Rattle.text.proofs.Bytes.{Unlike}
use Rattle.language.specs.Kinds.{member}
use Rattle.language.specs.Binding.{binding_of, is_monadic, is_guard, is_leave, is_repeat}

-- 0 is the kind of no symbol: a symbol of a class that leaves it out has another
pub positive : (class : ℕ → Bool) (kind : ℕ) → class 0 ≡ false → class kind ≡ true → 0 < kind
positive class zero z e = let c : ◌≡◌ {A = ℕ} 0 1 = ap (λ (b : Bool). cond b 1 0) (sym z ∙ e) in absurd (omega arith)
positive class (suc k) z e = omega arith

pub binding-positive : (kind : ℕ) → 0 < binding_of kind → 0 < kind
unfolding binding_of member
binding-positive zero h = absurd (omega arith)
binding-positive (suc k) h = omega arith

pub monadic-positive : (kind : ℕ) {b : Bool} → b ≡ is_monadic kind → b ≡ true → 0 < kind
unfolding is_monadic member
monadic-positive kind e q = positive is_monadic kind refl (sym e ∙ q)

pub guard-positive : (kind : ℕ) {b : Bool} → b ≡ is_guard kind → b ≡ true → 0 < kind
unfolding is_guard member
guard-positive kind e q = positive is_guard kind refl (sym e ∙ q)

pub repeat-positive : (kind : ℕ) {b : Bool} → b ≡ is_repeat kind → b ≡ true → 0 < kind
unfolding is_repeat member
repeat-positive kind e q = positive is_repeat kind refl (sym e ∙ q)

pub leave-positive : (kind : ℕ) {b : Bool} → b ≡ is_leave kind → b ≡ true → 0 < kind
unfolding is_leave member
leave-positive kind e q = positive is_leave kind refl (sym e ∙ q)

-- none of a list, one by one
pub unlike5 : {c a b d e f : ℕ} → Unlike c (f ∷ e ∷ d ∷ b ∷ a ∷ []) → (c ≡ a → ⊥) × (c ≡ b → ⊥) × (c ≡ d → ⊥) × (c ≡ e → ⊥) × (c ≡ f → ⊥)
unlike5 h = (h.0.0.0.0.1, h.0.0.0.1, h.0.0.1, h.0.1, h.1)

pub unlike2 : {c a b : ℕ} → Unlike c (b ∷ a ∷ []) → (c ≡ a → ⊥) × (c ≡ b → ⊥)
unlike2 h = (h.0.1, h.1)

pub unlike3 : {c a b d : ℕ} → Unlike c (d ∷ b ∷ a ∷ []) → (c ≡ a → ⊥) × (c ≡ b → ⊥) × (c ≡ d → ⊥)
unlike3 h = (h.0.0.1, h.0.1, h.1)
