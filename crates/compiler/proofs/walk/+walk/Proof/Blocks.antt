-- A block, its declarations and its commands.
use Rattle.compiler.proofs as proofs
use proofs.steps as steps
use Rattle.compiler.proofs.walk.+walk as cycle
use Rattle.compiler.specs.Commands.{ReadyList}
use Rattle.laws.proofs.Basics.{ℕ, ◌-◌, ◌≡◌, refl, length, arith, needs}
use Rattle.compiler.proofs.Blocks.{ListPart, list-begin, list-part, list-next, list-end, LocalsPart, locals-begin, locals-part, locals-next}
use Rattle.compiler.proofs.Blocks.{locals-end, locals-ready-at, list-ready-at, local-gave-at, locals-gave-at, list-gave-at, block_room}
use Rattle.compiler.proofs.Blocks.{block-locals, block-list, block-gave}
use Rattle.compiler.proofs.Judging.{values-args, values-names, values-gave}
use Rattle.compiler.specs.Locals.{ReadyLocals}
use Rattle.compiler.proofs.Expressions.{ready_at, left_at}
use cycle.Proof.Ranks.{rank, at, below, calls, both, three, four, six, args, block, command, list, local, locals}

abbrev block-cs : ℕ → cycle.Lts-block.Claims
block-cs t = six (steps.node_at.Reads.Asked, steps.node_at.Reads.Learnt) (proofs.scope.push.Reads.Asked, proofs.scope.push.Reads.Learnt)
    (steps.marked.Reads.Asked, steps.marked.Reads.Learnt) (calls locals t) (steps.set_at.Reads.Asked, steps.set_at.Reads.Learnt) (calls list t)

pub block-ok : {M : Type 1} (t : ℕ) → cycle.Lts-block.Closed (block-cs t) (at block t) (rank block).post M
block-ok t = cycle.Lts-block.spec (block-cs t) (at block t) (rank block).post (λ c κs. omega arith) (λ c. omega arith)
    (λ c κs. ((block_room _ c.node_at-n.ensures c.requires.1.1.is refl c.requires.1.0).1, omega arith, omega arith))
    -- marked-requires
    (λ c κs. let block-room-is = (block_room _ c.node_at-n.ensures c.requires.1.1.is refl c.requires.1.0).0 in
    let above = c.requires.1.0.above in let ends = c.requires.1.0.ends in let small = c.requires.1.0.small in omega arith)
    (λ c κs. both (let falls = c.requires.0 in
    omega (arith, left_at)) (search (locals-ready-at, block-locals)))
    (λ c κs. omega arith)
    -- list-requires
    (λ c κs. both (omega (arith, c.requires.0, left_at))
    (list-ready-at c.set_at.ensures (block-list _ c.node_at-n.ensures c.requires.1.1.is refl c.push.ensures _
    (locals-gave-at c.marked.ensures c.locals-a.ensures) c.requires.1.0)))
    (λ c. omega arith) (λ c. omega arith)
    -- returns
    (λ c. block-gave _ c.node_at-n.ensures c.requires.1.1.is refl c.push.ensures _
    (locals-gave-at c.marked.ensures c.locals-a.ensures) _
    (list-gave-at c.set_at.ensures c.list.ensures))

abbrev list-cs : ℕ → cycle.Lts-list.Claims
list-cs t = (proofs.scope.entry.Reads.Asked, proofs.scope.entry.Reads.Learnt, below command t, (rank command).post)

abbrev list-Inv-loop : cycle.Lts-list.invariant-loop-at
list-Inv-loop source s₀ from end text₀ here ways at₀ r₀ s text at r =
    (length s ≡ length s₀) × (length text ≡ length text₀) × ((y : ReadyList s₀ from end here r₀) → ListPart source text₀ ways y s text at r)

pub list-ok : {M : Type 1} (t : ℕ) → cycle.Lts-list.Closed (list-cs t) (at list t) (rank list).post M
list-ok t =
    cycle.Lts-list.spec (list-cs t) (at list t) (rank list).post list-Inv-loop (λ source s₀ from end text₀ here ways at₀ r₀ s text at r. end - at)
    (λ c. search (needs, list-begin)) (λ c. omega arith) (λ c κs. omega arith) (λ c. omega (arith, c.entry.ensures.1))
    -- command-requires
    (λ c κs. both (omega arith) (list-part _ _ _ c.loop-at-test.true c.entry.ensures.0 refl c.requires.1
    (c.loop-at.invariant.2 c.requires.1)))
    (λ c. omega arith)
    (λ c. let in-loop = c.loop-at in
    (omega arith, omega arith, λ y. search (list-next, in-loop.invariant.2)))
    (λ c. omega arith) (λ c. omega arith) (λ c. search list-end)

abbrev local-cs : ℕ → cycle.Lts-local.Claims
local-cs t = four (steps.node_at.Reads.Asked, steps.node_at.Reads.Learnt) (steps.vector.Reads.Asked, steps.vector.Reads.Learnt) (calls args t)
    (steps.declare.Reads.Asked, steps.declare.Reads.Learnt)

pub local-ok : {M : Type 1} (t : ℕ) → cycle.Lts-local.Closed (local-cs t) (at local t) (rank local).post M
local-ok t = cycle.Lts-local.spec (local-cs t) (at local t) (rank local).post (λ c κs. omega arith) (λ c κs. search needs) (λ c. omega arith)
    (λ c. omega arith) (λ c. c.vector.ensures) (λ c. omega arith) (λ c κs. search (needs, values-args))
    (λ c κs. search values-names)
    -- add-t25
    (λ c. let value_fits = c.node_at-n.ensures.value_fits in let room = c.requires.1.room in let above = c.requires.1.above in
    let ends = c.requires.1.ends in let small = c.requires.1.small in omega arith)
    -- add-t27
    (λ c. omega (arith, c.node_at-n.ensures.value_fits, c.requires.1.height))
    (λ c. omega arith) (λ c. omega arith)
    -- returns-2
    (λ c. values-gave _ c.node_at-n.ensures c.if-n-eq-VEC.false refl _ c.args-a.ensures
    c.declare-b.ensures refl refl)

abbrev locals-cs : ℕ → cycle.Lts-locals.Claims
locals-cs t =
    three (proofs.scope.entry.Reads.Asked, proofs.scope.entry.Reads.Learnt) (steps.set_at.Reads.Asked, steps.set_at.Reads.Learnt) (calls local t)

abbrev locals-Inv-loop : cycle.Lts-locals.invariant-loop-at
locals-Inv-loop source s₀ from end text₀ here at₀ r₀ s text at r =
    (length s ≡ length s₀) × (length text ≡ length text₀) × ((y : ReadyLocals s₀ from end here r₀.done) → LocalsPart source text₀ y s text at r)

abbrev locals-μ-loop : cycle.Lts-locals.decreases-loop-at
locals-μ-loop source s₀ from end text₀ here at₀ r₀ s text at r = end - at

pub locals-ok : {M : Type 1} (t : ℕ) → cycle.Lts-locals.Closed (locals-cs t) (at locals t) (rank locals).post M
locals-ok t = cycle.Lts-locals.spec (locals-cs t) (at locals t) (rank locals).post locals-Inv-loop locals-μ-loop (λ c. search (needs, locals-begin))
    (λ c. omega arith) (λ c κs. omega arith) (λ c. omega (arith, c.entry.ensures.1)) (λ c κs. omega arith)
    -- local-requires
    (λ c κs. both (omega (arith, c.requires.0, left_at)) (ready_at c.set_at-now.ensures
    (locals-part _ _ c.loop-at-test.true c.entry.ensures.0 refl c.requires.1
    (c.loop-at.invariant.2 c.requires.1))))
    (λ c. omega arith)
    -- loop-again
    (λ c. (
      omega arith,
      omega arith,
      λ y. locals-next _ _ c.loop-at-test.true c.entry.ensures.0 refl (local-gave-at
          c.set_at-now.ensures c.local-r.ensures) y (c.loop-at.invariant.2 y),
    ))
    (λ c. omega arith) (λ c. omega arith) (λ c. search locals-end)
