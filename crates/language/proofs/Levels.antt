-- The recursions of the grammar's readers, for any property of theirs: on the levels left, and on the bindings of operators.
use Rattle.laws.proofs.Basics.{ℕ, zero, suc, ◌≤◌, arith}
use Rattle.language.specs.Tree.{Expression}
use Rattle.language.specs.Reader.{Reader}
use Rattle.language.specs.Expressions as E
use Rattle.language.specs.Expressions.{Readers, Inside, shut, inside}
use Rattle.language.specs.Grammar.{readers, within}

-- what may stand one level further in: nothing, or what readers with the property read
pub data InsideOf (P : Readers → Type 0) : Inside → Type 0 where
  none_left : InsideOf P shut
  some_left : {r : Readers} → P r → InsideOf P (inside r)

module _ (P : ℕ → Readers → Type 0) (step : (n : ℕ) (inner : Inside) → InsideOf (P n) inner → P (suc n) (readers inner)) where
  pub within_of : (n : ℕ) → InsideOf (P n) (within n)
  unfolding within
  within_of zero = none_left
  within_of (suc n) = some_left (step n _ (within_of n))

-- from operands, and chains of operators of one binding, to all expressions; P counts the chains inside one another
module _
    (P : ℕ → Reader Expression → Type 0) (Q : ℕ → Type 0) (raised : (m n : ℕ) (r : Reader Expression) → m ≤ n → P m r → P n r)
    (chain : (b n : ℕ) → Q b → (left right : Reader Expression) → P n left → P n right → P (suc n) (E.chain b left right)) where
  pub by-binding : (inner : Inside) → P 0 (E.operand inner) → (P 4 (E.shifts inner) → P 4 (E.negations inner)) → Q 1 → Q 2 → Q 3 → Q 4 → Q 6 → Q 7
      → (binding : ℕ) → P 6 (E.expression inner binding)
  unfolding E.expression E.products E.sums E.relations E.shifts E.conjunctions E.disjunctions
  by-binding inner operand negated q₁ q₂ q₃ q₄ q₆ q₇ = go
    where
      products : P 1 (E.products inner)
      products = chain 1 0 q₁ _ _ operand operand

      sums : P 2 (E.sums inner)
      sums = chain 2 1 q₂ _ _ products products

      relations : P 3 (E.relations inner)
      relations = chain 3 2 q₃ _ _ sums sums

      shifts : P 4 (E.shifts inner)
      shifts = chain 4 3 q₄ _ _ relations (raised 2 3 _ (omega arith) sums)

      conjunctions : P 5 (E.conjunctions inner)
      conjunctions = chain 6 4 q₆ _ _ (negated shifts) (negated shifts)

      go : (binding : ℕ) → P 6 (E.expression inner binding)
      go zero = raised 0 6 _ (omega arith) operand
      go (suc zero) = raised 1 6 _ (omega arith) products
      go (suc (suc zero)) = raised 2 6 _ (omega arith) sums
      go (suc (suc (suc zero))) = raised 3 6 _ (omega arith) relations
      go (suc (suc (suc (suc zero)))) = raised 4 6 _ (omega arith) shifts
      go (suc (suc (suc (suc (suc zero))))) = raised 4 6 _ (omega arith) (negated shifts)
      go (suc (suc (suc (suc (suc (suc zero)))))) = raised 5 6 _ (omega arith) conjunctions
      go (suc (suc (suc (suc (suc (suc (suc n))))))) = chain 7 5 q₇ _ _ conjunctions conjunctions
