-- IF, TEST and SWITCHON.
use Rattle.compiler.proofs as proofs
use proofs.steps as steps
use Rattle.compiler.proofs.walk.+walk as cycle
use Rattle.compiler.proofs.Switches.{CasesPart, cases_begin, case-part, cases_next, cases_end, switch-value, switch-few, switch-cases}
use Rattle.compiler.proofs.Switches.{switch-gave, gave-cases-at}
use Rattle.compiler.specs.Commands.{ReadyCases}
use Rattle.compiler.proofs.Conditions.{test-first, test-body, test-rest, test-gave}
use Rattle.laws.proofs.Basics.{ℕ, ◌+◌, ◌-◌, ◌^◌, ◌≤◌, ◌≡◌, refl, ◌∙◌, length, arith, needs}
use Rattle.compiler.proofs.Guards.{guard_test, guard-body, guard-gave}
use cycle.Proof.Ranks.{rank, at, calls, both, three, six, seven, nine, bare, cases, command, expr, switch, test, when}

abbrev when-cs : ℕ → cycle.Lts-when.Claims
when-cs t = seven (steps.node_at.Reads.Asked, steps.node_at.Reads.Learnt) (steps.fresh.Reads.Asked, steps.fresh.Reads.Learnt) (calls expr t)
    (steps.jump_unless.Reads.Asked, steps.jump_unless.Reads.Learnt) (steps.put_to.Reads.Asked, steps.put_to.Reads.Learnt) (calls command t)
    (steps.mark.Reads.Asked, steps.mark.Reads.Learnt)

pub when-ok : {M : Type 1} (t : ℕ) → cycle.Lts-when.Closed (when-cs t) (at when t) (rank when).post M
when-ok t = cycle.Lts-when.spec (when-cs t) (at when t) (rank when).post (λ c κs. omega arith) (λ c κs. omega arith) (λ c κs. omega arith)
    (λ c κs. search (needs, guard_test)) (λ c κs. omega arith) (λ c κs. omega arith)
    -- command-requires
    (λ c κs. both (omega (arith, c.requires.0)) (guard-body _ _ c.node_at-n.ensures c.node_at-body.ensures
    c.requires.1.1.word _ c.fresh-a.ensures c.expr-b.ensures c.put_to-c.ensures c.requires.1.0))
    (λ c κs. omega arith) (λ c. omega arith) (λ c. omega arith)
    -- returns
    (λ c. guard-gave _ _ c.node_at-n.ensures c.node_at-body.ensures c.requires.1.1.word _ c.fresh-a.ensures
    c.expr-b.ensures c.put_to-c.ensures _ c.jump_unless.ensures c.command-d.ensures
    c.mark.ensures)

abbrev test-cs : ℕ → cycle.Lts-test.Claims
test-cs t = six (steps.node_at.Reads.Asked, steps.node_at.Reads.Learnt) (steps.fresh.Reads.Asked, steps.fresh.Reads.Learnt) (calls expr t)
    (steps.put_to.Reads.Asked, steps.put_to.Reads.Learnt) (calls command t) (steps.mark.Reads.Asked, steps.mark.Reads.Learnt)

pub test-ok : {M : Type 1} (t : ℕ) → cycle.Lts-test.Closed (test-cs t) (at test t) (rank test).post M
test-ok t = cycle.Lts-test.spec (test-cs t) (at test t) (rank test).post (λ c κs. omega arith) (λ c κs. omega arith) (λ c κs. omega arith)
    (λ c κs. omega arith)
    -- expr-requires
    (λ c κs. both (omega (arith, c.requires.0)) (test-first _ _ _ c.node_at-n.ensures c.node_at-other.ensures
    c.node_at-body.ensures c.requires.1.1.is c.fresh-a.ensures c.requires.1.0))
    (λ c κs. omega arith)
    -- command-requires
    (λ c κs. both (omega (arith, c.requires.0)) (test-body _ _ _ c.node_at-n.ensures c.node_at-other.ensures
    c.node_at-body.ensures c.requires.1.1.is _ c.fresh-a.ensures c.expr-b.ensures
    c.put_to-c.ensures c.requires.1.0))
    -- add-put-to
    (λ c. omega (arith, c.requires.1.0.label))
    (λ c κs. omega arith) (λ c κs. omega arith)
    -- command-requires-2
    (λ c κs. both (omega (arith, c.requires.0)) (test-rest _ _ _ c.node_at-n.ensures c.node_at-other.ensures
    c.node_at-body.ensures c.requires.1.1.is _ c.fresh-a.ensures c.expr-b.ensures
    c.put_to-c.ensures _ c.command-d.ensures c.put_to-e.ensures c.mark-f.ensures
    c.requires.1.0))
    -- add-mark
    (λ c. omega (arith, c.requires.1.0.label))
    (λ c κs. omega arith)
    -- same-length
    (λ c. c.command-g.auto.s ∙ c.command-d.auto.s ∙ c.expr-b.auto.s)
    -- same-length-2
    (λ c. c.mark.auto.text ∙ c.command-g.auto.text ∙ c.mark-f.auto.text ∙ c.put_to-e.auto.text
    ∙ c.command-d.auto.text ∙ c.put_to-c.auto.text ∙ c.expr-b.auto.text)
    -- returns
    (λ c. test-gave _ _ _ c.node_at-n.ensures c.node_at-other.ensures c.node_at-body.ensures c.requires.1.1.is _
    c.fresh-a.ensures c.expr-b.ensures c.put_to-c.ensures _ c.command-d.ensures
    c.put_to-e.ensures c.mark-f.ensures c.command-g.ensures c.mark.ensures)

abbrev switch-cs : ℕ → cycle.Lts-switch.Claims
switch-cs t = nine (steps.node_at.Reads.Asked, steps.node_at.Reads.Learnt) (calls expr t) (steps.count.Reads.Asked, steps.count.Reads.Learnt)
    (steps.fresh.Reads.Asked, steps.fresh.Reads.Learnt) (proofs.labels.doubled.Reads.Asked, proofs.labels.doubled.Reads.Learnt)
    (proofs.labels.table.Reads.Asked, proofs.labels.table.Reads.Learnt) (steps.in_switch.Reads.Asked, steps.in_switch.Reads.Learnt) (calls cases t)
    (steps.mark.Reads.Asked, steps.mark.Reads.Learnt)

switch-fit : (t : ℕ) (c : cycle.Lts-switch.After-count-k (switch-cs t) (at switch t) (rank switch).post)
    → (c.expr-a.result.label + c.count-k.result + 1 ≤ 2 ^ 29) ×
    (c.args.st.label ≤ c.expr-a.result.label)
switch-fit t c = switch-few _ c.node_at-n.ensures c.requires.1.1.is refl c.args.source.now c.expr-a.ensures
    c.count-k.ensures.0 c.requires.1.0

pub switch-ok : {M : Type 1} (t : ℕ) → cycle.Lts-switch.Closed (switch-cs t) (at switch t) (rank switch).post M
switch-ok t = cycle.Lts-switch.spec (switch-cs t) (at switch t) (rank switch).post (λ c κs. omega arith) (λ c. omega arith)
    (λ c κs. search (needs, switch-value)) (λ c κs. omega arith) (λ c. omega (arith, switch-fit t c)) (λ c κs. omega (arith, switch-fit t c))
    -- doubled-requires
    (λ c κs. omega (arith, c.node_at-n.ensures.inner, c.requires.1.0.small))
    (λ c. omega (arith, switch-fit t (search)))
    -- table-requires
    (λ c κs. let f = switch-fit t (search) in
    (omega (arith, c.node_at-n.ensures.inner, c.requires.1.0.small), omega arith, omega arith))
    (λ c κs. omega arith) (λ c. omega (arith, switch-fit t (search)))
    -- cases-requires
    (λ c κs. both (omega (arith, c.requires.0)) (both
    (switch-cases _ c.node_at-n.ensures c.requires.1.1.is refl _ c.expr-a.ensures c.count-k.ensures.0
    c.fresh-b.ensures c.doubled-c.ensures refl c.table-d.ensures c.requires.1.0)
    (omega (arith, switch-fit t (search)))))
    (λ c κs. omega arith)
    -- same-length
    (λ c. c.cases-e.auto.s
    ∙ c.expr-a.auto.s)
    -- same-length-2
    (λ c. c.mark.auto.text ∙ c.cases-e.auto.text ∙ c.table-d.auto.text
    ∙ c.expr-a.auto.text)
    -- returns
    (λ c. switch-gave _ c.node_at-n.ensures c.requires.1.1.is refl _ c.expr-a.ensures c.count-k.ensures.0
    c.fresh-b.ensures c.doubled-c.ensures refl c.table-d.ensures _
    (gave-cases-at c.in_switch.ensures c.cases-e.ensures) c.mark.ensures)

abbrev cases-cs : ℕ → cycle.Lts-cases.Claims
cases-cs t = three (proofs.scope.entry.Reads.Asked, proofs.scope.entry.Reads.Learnt) (steps.mark.Reads.Asked, steps.mark.Reads.Learnt) (calls bare t)

abbrev cases-Inv-loop : cycle.Lts-cases.invariant-loop-at
cases-Inv-loop source s₀ from end text₀ here ways first at₀ k₀ r₀ s text at k r = (length s ≡ length s₀) × (length text ≡ length text₀) × (k ≤ at) ×
    ((y : ReadyCases s₀ from end here r₀) → CasesPart source text₀ ways first y s text at k r)

pub cases-ok : {M : Type 1} (t : ℕ) → cycle.Lts-cases.Closed (cases-cs t) (at cases t) (rank cases).post M
cases-ok t = cycle.Lts-cases.spec (cases-cs t) (at cases t) (rank cases).post cases-Inv-loop
    (λ source s₀ from end text₀ here ways first at₀ k₀ r₀ s text at k r. end - at) (λ c. search (needs, cases_begin)) (λ c. omega arith)
    (λ c κs. omega arith) (λ c. omega arith) (λ c. omega arith) (λ c κs. omega arith)
    -- bare-requires
    (λ c κs. both (omega (arith, c.requires.0)) (case-part _ _ _ _ c.loop-at.k c.loop-at-test.true
    c.entry.ensures.0 refl c.mark-a.ensures c.requires.1.0 (c.loop-at.invariant.3 c.requires.1.0)))
    -- add-k
    (λ c. omega (arith, c.loop-at.invariant.2, c.loop-at-test.true, c.requires.1.0.ready.small))
    (λ c. omega arith)
    -- loop-again
    (λ c. (
      omega arith,
      omega arith,
      omega (arith, c.loop-at.invariant.2),
      λ y. cases_next _ _ _ _ _ c.loop-at-test.true
          c.entry.ensures.0 refl c.mark-a.ensures c.bare-r.ensures y (c.loop-at.invariant.3 y),
    ))
    (λ c. c.loop-at.invariant.0) (λ c. c.loop-at.invariant.1) (λ c. cases_end _ _ _ _ _ c.loop-at-test.false c.loop-at.invariant.3)
