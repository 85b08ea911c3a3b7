-- A primary with what follows it: indices and calls, and their arguments.
use Rattle.compiler.proofs as proofs
use proofs.steps as steps
use Rattle.compiler.proofs.walk.+walk as cycle
use Rattle.laws.proofs.Basics.{ℕ, ◌-◌, ◌<◌, ◌≡◌, refl, ◌∙◌, [], length, arith, needs}
use Rattle.compiler.proofs.Vocabulary.{ReadyArgs}
use Rattle.compiler.proofs.Calls.{indexed-gave, passed-gave, with-state, args-with, ArgsPart, args-begin, args-part, args-next, args_end}
use Rattle.compiler.proofs.Calls.{LastRead, last-read, primary-part, primary-gave, index-left, index-right, index-gave, call-args}
use Rattle.compiler.proofs.Calls.{call-callee, call-gave, call-few, args-ready-at, suffixes-ready-at, args-gave-at, suffixes-gave-at}
use Rattle.compiler.proofs.Expressions.{ready_at, gave_at, left_at}
use cycle.Proof.Ranks.{rank, at, less, calls, both, three, four, nine, applied, args, expr, indexed, passed}

abbrev applied-cs : ℕ → cycle.Lts-applied.Claims
applied-cs t =
    nine (calls expr t) less (proofs.scope.entry.Reads.Asked, proofs.scope.entry.Reads.Learnt)
    (calls applied t) (calls indexed t) (steps.count.Reads.Asked, steps.count.Reads.Learnt) (calls passed t)
    (steps.raised.Reads.Asked, steps.raised.Reads.Learnt) (steps.put.Reads.Asked, steps.put.Reads.Learnt)

applied-read : (t : ℕ) (c : cycle.Lts-applied.After-entry-2 (applied-cs t) (at applied t) (rank applied).post)
    → let args = c.args in LastRead args.s.now args.middle args.end c.entry-2.result
    c.saturating_sub-inner.result c.saturating_sub-start.result
applied-read t c = last-read c.if-end-middle.false c.saturating_sub.ensures c.entry-2.ensures.0 c.saturating_sub-inner.ensures
    c.entry.ensures.0 c.saturating_sub-start.ensures

applied-few : (t : ℕ) (c : cycle.Lts-applied.After-count-n (applied-cs t) (at applied t) (rank applied).post)
    → c.count-n.result < c.args.end
applied-few t c = call-few (applied-read t (search)) c.if-entry-eq-PLING.false c.count-n.ensures.0 c.requires.1

pub applied-ok : {M : Type 1} (t : ℕ) → cycle.Lts-applied.Closed (applied-cs t) (at applied t) (rank applied).post M
applied-ok t = cycle.Lts-applied.spec (applied-cs t) (at applied t) (rank applied).post (λ c κs. search (needs, primary-part)) (λ c. omega arith)
    (λ c. omega arith) (λ c. search primary-gave) (λ c κs. omega arith) (λ c κs. omega arith) (λ c κs. omega arith) (λ c κs. omega arith)
    (λ c κs. omega arith)
    (λ c κs. let r = applied-read t (search) in both (omega (arith, c.requires.0)) (search (index-left r)))
    -- indexed-requires
    (λ c κs. both (omega (arith, c.requires.0)) (index-right (applied-read t (search)) (search) _
    c.applied-a.ensures c.requires.1))
    (λ c. omega arith) (λ c. omega arith)
    -- returns-2
    (λ c. index-gave (applied-read t (search)) (search) _ c.applied-a.ensures
    c.indexed.ensures)
    (λ c κs. omega arith)
    (λ c κs. both (omega (arith, c.requires.0)) (search (call-args (applied-read t (search)))))
    (λ c. let y = c.requires.1.ready in omega (arith, applied-few t (search)))
    (λ c κs. let y = c.requires.1.ready in omega (arith, applied-few t (search)))
    -- applied-requires-2
    (λ c κs. let r = applied-read t (search) in
    both (omega (arith, c.requires.0, left_at))
    (suffixes-ready-at c.raised.ensures (call-callee r (search) _ (search) c.passed-b.ensures c.requires.1)))
    (λ c κs. omega arith) (λ c. omega arith) (λ c. omega arith)
    -- returns-3
    (λ c. call-gave (applied-read t (search)) (search) _ (search) c.passed-b.ensures
    (suffixes-gave-at c.raised.ensures c.applied-c.ensures) c.put.ensures)

abbrev args-cs : ℕ → cycle.Lts-args.Claims
args-cs t =
    four (proofs.scope.entry.Reads.Asked, proofs.scope.entry.Reads.Learnt) (steps.raised.Reads.Asked, steps.raised.Reads.Learnt) (calls expr t)
    (steps.keep.Reads.Asked, steps.keep.Reads.Learnt)

abbrev args-Inv-loop : cycle.Lts-args.invariant-loop-at
args-Inv-loop source s₀ from end text₀ here at₀ k₀ r₀ s text at k r =
    (length s ≡ length s₀) × (length text ≡ length text₀) × ((y : ReadyArgs s₀ from end here r₀) → ArgsPart source text₀ y s text at k r)

pub args_ok : {M : Type 1} (t : ℕ) → cycle.Lts-args.Closed (args-cs t) (at args t) (rank args).post M
args_ok t =
    cycle.Lts-args.spec (args-cs t) (at args t) (rank args).post args-Inv-loop (λ source s₀ from end text₀ here at₀ k₀ r₀ s text at k r. end - at)
    (λ c. search (needs, args-begin)) (λ c. omega arith) (λ c κs. omega arith) (λ c. omega (arith, c.entry.ensures.1))
    (λ c κs. let height = (c.loop-at.invariant.2
    c.requires.1).height in omega arith)
    -- expr-requires
    (λ c κs. both (omega (arith, c.requires.0, left_at))
    (ready_at c.raised.ensures (args-part _ _ _ c.loop-at-test.true c.entry.ensures.0 refl c.requires.1
    (c.loop-at.invariant.2 c.requires.1))))
    -- add-keep
    (λ c. omega (arith, (c.loop-at.invariant.2 c.requires.1).height, c.requires.1.ready.height))
    -- keep-requires
    (λ c κs. omega (arith, (c.loop-at.invariant.2 c.requires.1).height, c.requires.1.ready.height))
    -- add-k
    (λ c. omega (arith, (c.loop-at.invariant.2 c.requires.1).height, c.requires.1.ready.height))
    (λ c. omega arith)
    -- loop-again
    (λ c. (
      c.expr-a.auto.s ∙ c.loop-at.invariant.0,
      c.keep-r.auto.text ∙ c.expr-a.auto.text ∙ c.loop-at.invariant.1,
      λ y. args-next _ _ _ c.loop-at-test.true c.entry.ensures.0 refl
          (gave_at _ c.raised.ensures c.expr-a.ensures) c.keep-r.ensures y (c.loop-at.invariant.2 y),
    ))
    (λ c. omega arith) (λ c. omega arith) (λ c. args_end _ _ _ c.loop-at-test.false c.loop-at.invariant.2)

abbrev indexed-cs : ℕ → cycle.Lts-indexed.Claims
indexed-cs t = four (steps.keep.Reads.Asked, steps.keep.Reads.Learnt) (steps.raised.Reads.Asked, steps.raised.Reads.Learnt) (calls expr t)
    (steps.index_end.Reads.Asked, steps.index_end.Reads.Learnt)

pub indexed-ok : {M : Type 1} (t : ℕ) → cycle.Lts-indexed.Closed (indexed-cs t) (at indexed t) (rank indexed).post M
indexed-ok t = cycle.Lts-indexed.spec (indexed-cs t) (at indexed t) (rank indexed).post (λ c κs. omega arith) (λ c κs. omega arith) (λ c κs. (
  omega (arith, c.requires.0, left_at),
  search (ready_at, with-state),
)) (λ c κs. omega arith) (λ c. omega arith) (λ c. omega arith) (λ c. search (indexed-gave, gave_at))

abbrev passed-cs : ℕ → cycle.Lts-passed.Claims
passed-cs t = three (steps.reached.Reads.Asked, steps.reached.Reads.Learnt) (steps.raised.Reads.Asked, steps.raised.Reads.Learnt) (calls args t)

pub passed_ok : {M : Type 1} (t : ℕ) → cycle.Lts-passed.Closed (passed-cs t) (at passed t) (rank passed).post M
passed_ok t = cycle.Lts-passed.spec (passed-cs t) (at passed t) (rank passed).post (λ c. omega arith) (λ c κs. omega arith) (λ c κs. omega arith)
    -- args-requires
    (λ c κs. both (omega (arith, left_at)) (args-ready-at c.raised.ensures (args-with (c.reached-a.ensures.by []).label c.requires.1)))
    (λ c. omega arith) (λ c. omega arith) (λ c. search (passed-gave, args-gave-at))
