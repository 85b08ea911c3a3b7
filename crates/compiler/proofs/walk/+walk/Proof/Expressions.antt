-- An expression, operators of one binding level, a monadic operator.
use Rattle.compiler.proofs as proofs
use proofs.steps as steps
use Rattle.compiler.proofs.walk.+walk as cycle
use Rattle.code.specs.Generate.{expr_code, expr_labels, monadic_act}
use Rattle.language.specs.Heights.{of_expr}
use Rattle.laws.proofs.Basics.{ℕ, ◌-◌, ◌≡◌, refl, ◌∙◌, length, arith, needs}
use Rattle.compiler.proofs.Sides.{monadic-part, monadic-gave, monadic-address, monadic-acts, monadic-other, gave-monadic-at}
use Rattle.compiler.proofs.Vocabulary.{ReadyChain}
use Rattle.compiler.proofs.Calls.{suffixes-ready-at, suffixes-gave-at, suffixed-part, suffixed-gave}
use Rattle.compiler.proofs.Commands.{valof-part, valof-gave, gave-c-at}
use Rattle.compiler.proofs.Expressions.{ChainPart, chain-begin, chain-part, chain_next, chain-end, number-gave, string-gave, name-gave}
use Rattle.compiler.proofs.Expressions.{bracket-part, bracket-gave, dyadic-left, dyadic-rest, dyadic-gave, ready_at, gave_at, chain-ready-at}
use Rattle.compiler.proofs.Expressions.{chain-gave-at, left_at, some_left}
use cycle.Proof.Ranks.{rank, at, calls, both, four, six, fourteen, address, applied, chain, command, expr, monadic}

abbrev expr-cs : ℕ → cycle.Lts-expr.Claims
expr-cs t = fourteen (steps.node_at.Reads.Asked, steps.node_at.Reads.Learnt) (steps.put.Reads.Asked, steps.put.Reads.Learnt)
    (steps.put_to.Reads.Asked, steps.put_to.Reads.Learnt) (proofs.scope.lookup.Reads.Asked, proofs.scope.lookup.Reads.Learnt)
    (steps.value.Reads.Asked, steps.value.Reads.Learnt) (steps.inside.Reads.Asked, steps.inside.Reads.Learnt) (calls expr t) (calls chain t)
    (steps.fresh.Reads.Asked, steps.fresh.Reads.Learnt) (steps.in_valof.Reads.Asked, steps.in_valof.Reads.Learnt) (calls command t)
    (steps.mark.Reads.Asked, steps.mark.Reads.Learnt) (calls monadic t) (calls applied t)

pub expr-ok : {M : Type 1} (t : ℕ) → cycle.Lts-expr.Closed (expr-cs t) (at expr t) (rank expr).post M
expr-ok t = cycle.Lts-expr.spec (expr-cs t) (at expr t) (rank expr).post (λ c κs. omega arith) (λ c κs. omega arith) (λ c. omega arith)
    (λ c κs. omega arith) (λ c κs. omega arith) (λ c κs. omega arith) (λ c κs. omega arith)
    (λ c κs. (omega (arith, left_at, some_left), search (ready_at, bracket-part))) (λ c κs. omega arith) (λ c. omega arith)
    (λ c κs. both (omega (arith, c.requires.0, left_at, some_left))
    (search (ready_at, dyadic-left)))
    -- chain-requires
    (λ c κs. both (omega (arith, c.requires.0, left_at, some_left)) (chain-ready-at c.inside-deep.ensures
    (dyadic-rest _ c.node_at-n.ensures c.in-131.is refl _
    (gave_at _ c.inside-deep.ensures c.expr-a.ensures) c.requires.1)))
    (λ c κs. omega arith) (λ c κs. omega arith) (λ c κs. omega arith)
    (λ c κs. both (let falls = c.requires.0 in
    omega (arith, left_at, some_left)) (search (ready_at, valof-part)))
    (λ c κs. omega arith) (λ c κs. omega arith) (λ c κs. (omega (arith, left_at, some_left), search (ready_at, monadic-part))) (λ c. omega arith)
    (λ c κs. omega arith)
    -- applied-requires
    (λ c κs. both (let falls = c.requires.0 in
    let small = c.requires.1.small in
    omega (arith, left_at, some_left)) (search (suffixes-ready-at, suffixed-part)))
    (λ c. omega arith) (λ c. omega arith) (λ c. search number-gave) (λ c. omega arith) (λ c. omega arith) (λ c. search string-gave)
    (λ c. omega arith) (λ c. omega arith) (λ c. search name-gave) (λ c. omega arith) (λ c. omega arith) (λ c. search (bracket-gave, gave_at))
    (λ c. omega arith) (λ c. omega arith)
    -- returns-5
    (λ c. dyadic-gave _ c.node_at-n.ensures c.in-131.is refl _
    (gave_at _ c.inside-deep.ensures c.expr-a.ensures)
    (chain-gave-at c.inside-deep.ensures c.chain.ensures))
    (λ c. omega arith) (λ c. omega arith) (λ c. search (valof-gave, gave-c-at)) (λ c. omega arith) (λ c. omega arith)
    (λ c. search (monadic-gave, gave-monadic-at)) (λ c. omega arith) (λ c. omega arith)
    -- returns-8
    (λ c. suffixed-gave _ c.node_at-n.ensures c.in_default.in_default-own.rest refl _
    (suffixes-gave-at c.inside-in_default.ensures c.applied.ensures))

abbrev chain-cs : ℕ → cycle.Lts-chain.Claims
chain-cs t = six (proofs.scope.entry.Reads.Asked, proofs.scope.entry.Reads.Learnt) (steps.keep.Reads.Asked, steps.keep.Reads.Learnt)
    (steps.raised.Reads.Asked, steps.raised.Reads.Learnt) (calls expr t) (steps.act_of.Reads.Asked, steps.act_of.Reads.Learnt)
    (steps.operate.Reads.Asked, steps.operate.Reads.Learnt)

abbrev chain-Inv-loop : cycle.Lts-chain.invariant-loop-at
chain-Inv-loop source s₀ from end text₀ here at₀ r₀ s text at r =
    (length s ≡ length s₀) × (length text ≡ length text₀) × ((y : ReadyChain s₀ from end here r₀) → ChainPart source text₀ y s text at r)

pub chain-ok : {M : Type 1} (t : ℕ) → cycle.Lts-chain.Closed (chain-cs t) (at chain t) (rank chain).post M
chain-ok t =
    cycle.Lts-chain.spec (chain-cs t) (at chain t) (rank chain).post chain-Inv-loop (λ source s₀ from end text₀ here at₀ r₀ s text at r. end - at)
    (λ c. search (needs, chain-begin)) (λ c κs. omega arith) (λ c. omega arith) (λ c κs. omega arith) (λ c. omega arith)
    (λ c. omega (arith, c.entry-size.ensures.1)) (λ c κs. omega arith) (λ c κs. omega arith)
    -- expr-requires
    (λ c κs. both (omega (arith, c.requires.0, left_at))
    (ready_at c.raised.ensures (chain-part _ _ c.loop-at-test.true c.entry-size.ensures.0
    c.entry-operator.ensures.0 refl c.keep-a.ensures.label c.requires.1 (c.loop-at.invariant.2 c.requires.1))))
    (λ c κs. omega arith)
    -- operate-requires
    (λ c κs. omega (arith, c.requires.1.ready.height))
    -- loop-less
    (λ c. omega (arith, c.loop-at-test.true))
    -- loop-again
    (λ c. (
      c.expr-b.auto.s ∙ c.loop-at.invariant.0,
      c.operate-r.auto.text ∙ c.expr-b.auto.text ∙ c.keep-a.auto.text ∙ c.loop-at.invariant.1,
      λ y. chain_next _ _ c.loop-at-test.true
          c.entry-size.ensures.0 c.entry-operator.ensures.0 refl c.act_of.ensures c.keep-a.ensures
          (gave_at _ c.raised.ensures c.expr-b.ensures) c.operate-r.ensures y
          (c.loop-at.invariant.2 y),
    ))
    (λ c. omega arith) (λ c. omega arith) (λ c. search chain-end)

abbrev monadic-cs : ℕ → cycle.Lts-monadic.Claims
monadic-cs t =
    four (steps.node_at.Reads.Asked, steps.node_at.Reads.Learnt) (calls address t) (calls expr t) (steps.put.Reads.Asked, steps.put.Reads.Learnt)

pub monadic-ok : {M : Type 1} (t : ℕ) → cycle.Lts-monadic.Closed (monadic-cs t) (at monadic t) (rank monadic).post M
unfolding expr_code of_expr expr_labels monadic_act
monadic-ok t =
    cycle.Lts-monadic.spec (monadic-cs t) (at monadic t) (rank monadic).post (λ c κs. omega arith) (λ c κs. search needs) (λ c. omega arith)
    (λ c. omega arith) (λ c. search monadic-address) (λ c κs. search needs) (λ c κs. omega arith) (λ c κs. omega arith) (λ c κs. omega arith)
    (λ c. omega arith) (λ c. omega arith) (λ c. search (monadic-acts 49 1 refl (λ x E n. refl))) (λ c. omega arith) (λ c. omega arith)
    (λ c. search (monadic-acts 36 2 refl (λ x E n. refl))) (λ c. omega arith) (λ c. omega arith)
    (λ c. search (monadic-acts 11 3 refl (λ x E n. refl))) (λ c. omega arith) (λ c. omega arith) (λ c. search monadic-other)
