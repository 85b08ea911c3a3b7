-- Expressions by their operators.
use Rattle.tree.proofs.phrases.+phrases as cycle
use Rattle.language.specs.Tree as T
use Rattle.language.specs.Expressions as E
use Rattle.laws.proofs.Basics.{ℕ, ◌-◌, refl, sym, ◌∙◌, eqb, arith, eq-eqb, ne_eqb}
use Rattle.language.specs.Binding.{binding_of}
use Rattle.language.specs.Grammar.{within}
use Rattle.language.specs.Reader.{many_up_to}
use Rattle.tree.proofs.Chains.{expression-one, expression-more, no-operation-words}
use Rattle.tree.proofs.Choices.{monadic-shut, expression-none, operand-monadic, operand-suffixed, expression-not, expression-shift}
use Rattle.tree.proofs.Classes.{binding-positive, monadic-positive}
use Rattle.tree.proofs.Helpers.{low-past}
use Rattle.tree.proofs.Lists.{Before}
use Rattle.tree.proofs.Loops.{SoFar, before-first, before-next, before_last, wordless, so-starts, many-turns, many-ends, many-spent}
use Rattle.tree.proofs.Readers.{monadic-read, operation-read}
use Rattle.tree.proofs.Rooms.{past-symbol, past-expression, ready-leaves, ready-takes, item-low, size_small, measured}
use Rattle.tree.proofs.Steps.{pair, triple}
use Rattle.tree.proofs.Symbols.{lies-still}
use Rattle.tree.specs.Encoding.{encode_operations}
use Rattle.tree.proofs.Wholes.{leaves, of-kind, ◌from◌, ◌with◌, ◌adding◌, ◌setting◌}
use cycle.Proof.Ranks.{Calls, at, begin-item, below, binding-of, calls-12, calls-4, calls-5, calls-7, expect, expr_rank, free-of, further-most}
use cycle.Proof.Ranks.{is-monadic, kind-here, saturating-sub, monad-rank, node, op-rank, place_here, place_of, reach_of, refuse, right_of, run-rank, set-size}
use cycle.Proof.Ranks.{term-rank, whole-rank}

abbrev pub expr-cs : ℕ → Calls cycle.Lts-expr.Claims
expr-cs t =
    calls-12 (below term-rank t) kind-here (below monad-rank t) (below expr_rank t) free-of binding-of saturating-sub place_of right_of (below op-rank t)
    (below run-rank t) node

pub expr-ok : {M : Type 1} (t : ℕ) → cycle.Lts-expr.Closed (expr-cs t).claims (at expr_rank t) expr_rank.post M
expr-ok t = cycle.Lts-expr.spec (expr-cs t).claims (at expr_rank t) expr_rank.post (λ c κs. omega arith) (λ c. omega arith)
    (λ c. expression-none _ _ c.if-binding-eq0.true c.term.ensures.1) (λ c κs. omega arith)
    (λ c κs. (omega arith, (c.requires.1.0, omega arith))) (λ c. omega arith)
    -- returns-2
    (λ c. expression-not _ c.kind_here-first.ensures.1 _ c.if-binding-eq-NEGATION.true c.if-first-eq-NOT.true c.monad.ensures.1)
    (λ c. omega arith) (λ c κs. omega arith) (λ c. omega arith)
    -- returns-3
    (λ c. expression-shift _ c.kind_here-first.ensures.1 _ c.if-binding-eq-NEGATION.true c.if-first-eq-NOT.false c.expr.ensures.1)
    (λ c κs. tt) (λ c. omega arith) (λ c κs. omega arith)
    (λ c κs. let e = c.expr-left in past-expression refl e.ensures e.auto.s) (λ c κs. tt) (λ c. omega arith)
    -- returns-4
    (λ c. leaves ((λ src l d. let l₁ = lies-still l c.expr-left.ensures.1.0.kept in
    expression-one l₁ 0 _ _ c.if-binding-eq0.false c.if-binding-eq-NEGATION.false c.requires.1.1 (c.kind_here-kind.ensures.1 src l₁) d
    (λ z. c.if-binding_of-binding.true (c.binding_of.ensures.1 ∙ z))) from c.expr-left.ensures.1) refl)
    (λ c κs. tt) (λ c κs. tt) (λ c κs. c.kind_here-kind.ensures.0) (λ c κs. omega arith)
    -- op-requires
    (λ c κs. pair (omega arith) (triple
    c.place_of-place.ensures.0 (omega arith) (binding-positive _ (omega (
      arith,
      c.binding_of.ensures.1,
      c.if-binding_of-binding.false,
      c.if-binding-eq0.false,
    )))))
    -- run-requires
    (λ c κs. pair (omega (arith, c.requires.0))
    (triple (ready-leaves c.op-first.ensures.1.0 c.op-first.auto.s refl c.op-first.ensures.0.1.0) (omega arith) (omega arith)))
    -- cast-node
    (λ c. let small = size_small _ c.saturating_sub-size.ensures.1 c.free_of.ensures.1
    c.place_of-place.ensures.0 in omega arith)
    -- node-requires
    (λ c κs. let op = c.op-first in
    ready-leaves c.run-last.ensures.1.0 c.run-last.auto.s refl
    (ready-leaves op.ensures.1.0 op.auto.s refl op.ensures.0.1.0))
    -- same-length-5
    (λ c. c.node.auto.s ∙ c.run-last.auto.s ∙ c.op-first.auto.s ∙ c.expr-left.auto.s)
    -- returns-5
    (λ c. leaves ((λ src l d. let l₁ = lies-still l c.expr-left.ensures.1.0.kept in
    expression-more l₁ _ _ _ c.if-binding-eq0.false c.if-binding-eq-NEGATION.false c.requires.1.1 (c.kind_here-kind.ensures.1 src l₁) d
    c.right_of-right.ensures.1.0 (sym c.binding_of.ensures.1 ∙ c.if-binding_of-binding.false) c.free_of-lo.ensures.1
    (measured _ _ c.saturating_sub-size.ensures.1 c.free_of.ensures.1 c.expr-left.auto.s) c.place_of-place.ensures.1) from
    c.expr-left.ensures.1 with of-kind c.kind_here-kind.ensures.1
    c.op-first.ensures.1 with c.run-last.ensures.1 adding c.node.ensures.1) refl)

abbrev pub op-cs : ℕ → Calls cycle.Lts-op.Claims
op-cs t = calls-5 free-of expect begin-item (below expr_rank t) set-size

pub op_ok : {M : Type 1} (t : ℕ) → cycle.Lts-op.Closed (op-cs t).claims (at op-rank t) op-rank.post M
op_ok t = cycle.Lts-op.spec (op-cs t).claims (at op-rank t) op-rank.post (λ c κs. tt) (λ c κs. omega arith)
    (λ c κs. past-symbol refl c.expect-operator.ensures) (λ c κs. let begin-item = c.begin_item-begun in
    pair (omega arith) (pair (ready-takes begin-item.ensures.1.0 begin-item.auto.s begin-item.ensures.0) (omega arith)))
    -- set-size-requires
    (λ c κs. pair (past-expression refl c.expr-a.ensures c.expr-a.auto.s)
    (item-low c.free_of-lo.ensures.1 c.expect-operator.ensures.0.0))
    (λ c. omega arith)
    -- returns
    (λ c. leaves ((λ src l w x y z k. operation-read src _ _ c.free_of-lo.ensures.1 _
    (low-past c.expect-operator.ensures.0.0 c.expect-operator.ensures.1.0) k w x y z) from c.expect-operator.ensures.1 adding
    c.begin_item-begun.ensures.1 with c.expr-a.ensures.1 setting c.set_size.ensures.1) refl)

abbrev pub run-cs : ℕ → Calls cycle.Lts-run.Claims
run-cs t = calls-4 further-most kind-here binding-of (below op-rank t)

abbrev run-inv : cycle.Lts-run.invariant-loop
run-inv s₀ n levels binding right a₀ counter₀ end s a counter = SoFar (Before encode_operations)
    (many_up_to end T.no_operations (λ kind. eqb (binding_of kind) binding) (E.operation (E.expression (within levels) right)))
    (many_up_to (end - counter) T.no_operations (λ kind. eqb (binding_of kind) binding) (E.operation (E.expression (within levels) right))) s₀ s n a₀ a

abbrev run-turns : cycle.Lts-run.decreases-loop
run-turns s₀ n levels binding right a₀ counter₀ end s a counter = end - counter

pub run_ok : {M : Type 1} (t : ℕ) → cycle.Lts-run.Closed (run-cs t).claims (at run-rank t) run-rank.post M
run_ok t = cycle.Lts-run.spec (run-cs t).claims (at run-rank t) run-rank.post run-inv run-turns (λ c κs. tt)
    (λ c. so-starts (λ u. many_up_to u T.no_operations (λ kind. eqb (binding_of kind) c.args.binding)
    (E.operation (E.expression (within c.args.levels) c.args.right))) c.requires.1.0 before-first (omega arith))
    (λ c κs. ready-leaves c.loop.invariant.room c.loop.invariant.same refl
    c.requires.1.0) (λ c κs. tt) (λ c. omega arith)
    -- returns
    (λ c. many-ends _ _ _ _ before_last (wordless no-operation-words) c.further_most-end.ensures.1
    c.loop.invariant c.kind_here-kind.ensures.1 (ne_eqb _ _ (λ z. c.if-binding_of-binding.true (c.binding_of.ensures.1 ∙ z))))
    -- op-requires
    (λ c κs. pair (omega arith) (triple c.kind_here-kind.ensures.0 (omega arith)
    (binding-positive _ (omega (arith, c.binding_of.ensures.1, c.if-binding_of-binding.false, c.requires.1)))))
    (λ c. omega arith) (λ c. omega arith)
    -- loop-again
    (λ c. many-turns _ _ _ _ before-next c.loop.invariant c.kind_here-kind.ensures.1
    (eq-eqb _ _ (sym c.binding_of.ensures.1 ∙ c.if-binding_of-binding.false)) c.op-a.ensures.1 c.op-a.auto.s (omega arith) (omega arith))
    (λ c. omega arith)
    (λ c. many-spent _ _ _ _ before_last (wordless no-operation-words) c.further_most-end.ensures.1 c.loop.invariant
    (omega arith))

abbrev pub term-cs : ℕ → Calls cycle.Lts-term.Claims
term-cs t = calls-4 kind-here is-monadic (below monad-rank t) (below whole-rank t)

pub term-ok : {M : Type 1} (t : ℕ) → cycle.Lts-term.Closed (term-cs t).claims (at term-rank t) term-rank.post M
term-ok t = cycle.Lts-term.spec (term-cs t).claims (at term-rank t) term-rank.post (λ c κs. omega arith) (λ c κs. tt)
    -- monad-requires
    (λ c κs. pair (omega arith) (pair c.requires.1 (monadic-positive _ c.is_monadic.ensures.1 c.if-is_monadic.true)))
    (λ c κs. omega arith) (λ c. omega arith)
    -- returns
    (λ c. operand-monadic _ c.kind_here-kind.ensures.1 c.is_monadic.ensures.1 c.if-is_monadic.true c.monad.ensures.1)
    (λ c. omega arith)
    -- returns-2
    (λ c. operand-suffixed _ c.kind_here-kind.ensures.1 c.is_monadic.ensures.1 c.if-is_monadic.false c.whole.ensures.1)

abbrev pub monad-cs : ℕ → Calls cycle.Lts-monad.Claims
monad-cs t = calls-7 refuse free-of place_here expect reach_of (below expr_rank t) node

pub monad-ok : {M : Type 1} (t : ℕ) → cycle.Lts-monad.Closed (monad-cs t).claims (at monad-rank t) monad-rank.post M
monad-ok t = cycle.Lts-monad.spec (monad-cs t).claims (at monad-rank t) monad-rank.post (λ c κs. omega arith) (λ c. omega arith)
    (λ c. monadic-shut _ c.if-levels-eq0.true c.refuse.ensures.1) (λ c κs. tt) (λ c κs. omega arith) (λ c κs. omega arith)
    (λ c. omega arith) (λ c κs. tt) (λ c κs. pair (omega arith) (pair (past-symbol refl c.expect-operator.ensures) (omega arith)))
    (λ c κs. ready-leaves c.expr-a.ensures.1.0 c.expr-a.auto.s refl
    (past-symbol refl c.expect-operator.ensures)) (λ c. omega arith)
    -- returns-2
    (λ c. leaves ((λ src l x y z k. monadic-read l _ _ c.free_of-lo.ensures.1 (c.place_here-place.ensures.1 src l) c.if-levels-eq0.false k
    c.requires.1.1 c.reach_of.ensures.1.0 x y z) from c.expect-operator.ensures.1 with c.expr-a.ensures.1 adding
    c.node.ensures.1) refl)
