-- The depth of what the readers give is bounded by the levels: a tree read with so many levels left is at most 8 deep for each of
-- them, and 8 more.
use Rattle.laws.proofs.Basics.{ℕ, suc, ◌+◌, ◌≤◌, arith}
use Rattle.language.specs.Kinds as K
use Rattle.language.specs.Binding.{LOOSEST, is_monadic, is_suffix}
use Rattle.language.specs.Tree as T
use Rattle.language.specs.Tree.{Expression, Suffixes, Operations, with_suffixes, with_operations}
use Rattle.language.specs.Reader.{Source, Out, Reader, kind_at, is, unexpected, any, the, a_name}
use Rattle.language.specs.Expressions as E
use Rattle.language.specs.Expressions.{Readers, Inside}
use Rattle.language.proofs.Depth.{depth, expressions_depth, suffixes_depth, operations_depth, command_depth}
use Rattle.language.proofs.Levels.{InsideOf, by-binding}
use Rattle.language.proofs.Gives.{Answer, give, refusal, bind, on, related, both, opened, Put, many-up-to, many-of, close_of}

-- what is given is at most so deep, and so is the list that an item goes before
abbrev pub Deep : {A : Type 0} → (A → ℕ) → ℕ → ℕ → A → ℕ → Type 0
Deep D d at a next = D a ≤ d

abbrev pub Low : {A : Type 0} → (A → ℕ) → ℕ → Out A → Type 0
Low D d o = Answer (Deep D d 0) o

abbrev pub LowPut : {A : Type 0} → (A → ℕ) → ℕ → Out (A → A) → Type 0
LowPut D d o = Put (Deep D d) 0 o

with-suffixes : (d : ℕ) (e : Expression) (ss : Suffixes) → depth e ≤ suc d → suffixes_depth ss ≤ suc d → depth (with_suffixes e ss) ≤ 2 + d
unfolding with_suffixes depth
with-suffixes d e T.no_suffixes p q = omega arith
with-suffixes d e (T.call es ss) p q = omega arith
with-suffixes d e (T.index i ss) p q = omega arith

with-operations : (d : ℕ) (e : Expression) (os : Operations) → depth e ≤ d → operations_depth os ≤ d → depth (with_operations e os) ≤ suc d
unfolding with_operations depth
with-operations d e T.no_operations p q = omega arith
with-operations d e (T.operation o x os) p q = omega arith

module _ (s : Source) where
  -- readers that give nothing deeper
  pub record LowReaders (d : ℕ) (r : Readers) : Type 0 where
    pub expressions : (binding at : ℕ) → Low depth d (r.expression binding s at)
    pub commands : (at : ℕ) → Low command_depth d (r.command s at)

  chain : (b n : ℕ) (left right : Reader Expression) → ((at : ℕ) → Low depth n (left s at)) → ((at : ℕ) → Low depth n (right s at)) → (at : ℕ)
      → Low depth (suc n) (E.chain b left right s at)
  unfolding E.chain E.operations E.operation depth
  chain b n left right f g at = bind (f at) λ e n₁ p.
      bind (many-up-to s (Deep operations_depth n) T.no_operations (λ _. omega arith) (E.operation right) _
      (λ m _. on (any s m) λ x n₂. bind (g n₂) λ e' n₃ p'. give λ os _ q. omega arith) (E.most_of b s) n₁) λ os n₄ q. give (with-operations n e os p q)

  module _ {d : ℕ} {inner : Inside} (l : InsideOf (LowReaders d) inner) where
    primary : (at : ℕ) → Low depth (suc d) (E.primary inner s at)
    unfolding E.primary E.numeral E.quotation E.truth E.named E.bracketed E.valof depth unexpected
    primary at = both (is K.NUMBER s at) (on (any s at) λ _ _. give (omega arith)) (both (is K.STRING s at) (on (any s at) λ _ _. give (omega arith))
        (both (is K.TRUE s at) (on (any s at) λ _ _. give (omega arith)) (both (is K.FALSE s at) (on (any s at) λ _ _. give (omega arith))
        (both (is K.NAME s at) (on (a_name s at) λ _ _. give (omega arith)) (both (is K.OPEN s at) (opened _ l λ r b. on (the K.OPEN s at) λ _ n₁.
        bind (b.expressions LOOSEST n₁) λ e n₂ p. on (the K.CLOSE s n₂) λ _ _. give (omega arith))
        (both (is K.VALOF s at) (opened _ l λ r b. on (the K.VALOF s at) λ _ n₁. bind (b.commands n₁) λ c _ p. give (omega arith)) refusal))))))

    monadic : (at : ℕ) → Low depth (suc d) (E.monadic inner s at)
    unfolding E.monadic depth
    monadic at = opened _ l λ r b. on (any s at) λ x n₁. bind (b.expressions _ n₁) λ e _ p. give (omega arith)

    suffix : (at : ℕ) → LowPut suffixes_depth (suc d) (E.suffix inner s at)
    unfolding E.suffix E.arguments E.index E.subscript depth
    suffix at = both (is K.OPEN s at)
        (opened _ l λ r b. on (the K.OPEN s at) λ _ n₁. bind (close_of s (Deep expressions_depth d) T.no_expressions (λ _. omega arith) _ (λ _ _ _ i. i)
        (λ n. bind (b.expressions LOOSEST n) λ e _ p. give λ es _ q. omega arith) (Deep expressions_depth d) (λ _ _ _ _ i. i) n₁) λ es _ p.
        give λ ss _ q. omega arith)
        (on (the K.PLING s at) λ _ n₁. bind (both (is_monadic (kind_at s n₁)) (monadic n₁) (primary n₁)) λ e _ p. give λ ss _ q. omega arith)

    operand : (at : ℕ) → Low depth (2 + d) (E.operand inner s at)
    unfolding E.operand E.suffixed depth
    operand at = both (is_monadic (kind_at s at)) (related (monadic at) (λ _ _ p. omega arith))
        (bind (primary at) λ e n₁ p. bind (many-of s (Deep suffixes_depth (suc d)) T.no_suffixes (λ _. omega arith) (E.suffix inner) is_suffix
        (λ n _. suffix n) n₁)
        λ ss _ q. give (with-suffixes d e ss p q))

    pub expression : (binding at : ℕ) → Low depth (8 + d) (E.expression inner binding s at)
    unfolding E.negations
    expression = by-binding (λ n r. (at : ℕ) → Low depth (2 + n + d) (r s at)) (λ _. Unit) (λ m n r h g at. related (g at) (λ _ _ p. omega arith))
        (λ b n _ left right f g at. related (chain b (2 + n + d) left right f g at) (λ _ _ p. omega arith)) inner operand
        (λ shifts at. both (is K.NOT s at) (related (monadic at) (λ _ _ p. omega arith)) (shifts at)) tt tt tt tt tt tt
