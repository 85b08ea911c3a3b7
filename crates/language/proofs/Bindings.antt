-- The bindings, one after another: an expression of a binding is a chain of the operators of that binding, its left
-- operands of the binding before. Right operands are so too, but a shift's are sums. The binding of NOT has no dyadic operator: there
-- stands NOT and a shift expression, or a shift expression.
use Rattle.laws.proofs.Basics.{ℕ, zero, suc, ◌≤◌, ◌≡◌, refl, cond, eqb, arith}
use Rattle.language.specs.Kinds.{NOT}
use Rattle.language.specs.Binding.{NEGATION}
use Rattle.language.specs.Reader.{Source, is}
use Rattle.language.specs.Expressions.{Inside, operand, products, sums, relations, shifts, negations, conjunctions, disjunctions, chain}
use Rattle.language.specs.Expressions.{monadic, expression}

-- the binding of the right operands
abbrev pub right_of : (binding : ℕ) → ℕ
right_of zero = 0
right_of (suc b) = cond (eqb b 3) 2 b

module _ (inner : Inside) where
  pub tightest : expression inner 0 ≡ operand inner
  unfolding expression
  tightest = refl

  pub negation : (s : Source) (at : ℕ) → expression inner NEGATION s at ≡ cond (is NOT s at) (monadic inner s at) (expression inner 4 s at)
  unfolding expression negations
  negation s at = refl

  pub step : (b : ℕ) → b ≤ 6 → (suc b ≡ NEGATION → ⊥)
      → expression inner (suc b) ≡ chain (suc b) (expression inner b) (expression inner (right_of (suc b)))
  unfolding expression products sums relations shifts conjunctions disjunctions
  step zero h n = refl
  step (suc zero) h n = refl
  step (suc (suc zero)) h n = refl
  step (suc (suc (suc zero))) h n = refl
  step (suc (suc (suc (suc zero)))) h n = absurd (n refl)
  step (suc (suc (suc (suc (suc zero))))) h n = refl
  step (suc (suc (suc (suc (suc (suc zero)))))) h n = refl
  step (suc (suc (suc (suc (suc (suc (suc b))))))) h n = absurd (omega arith)
