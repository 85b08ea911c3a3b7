-- WHILE, FOR, and a command with REPEAT forms.
use Rattle.compiler.proofs as proofs
use proofs.steps as steps
use Rattle.compiler.proofs.walk.+walk as cycle
use Rattle.compiler.specs.Commands.{ReadyForms}
use Rattle.compiler.proofs.Fors.{for-room, for-first, for-limit, for-name-fine, for-body, for-gave}
use Rattle.compiler.proofs.Conditions.{while-test, while-body, while-gave}
use Rattle.compiler.proofs.RepeatForms.{FormsPart, forms-begin, forms-part, forms-next, forms-end, form-alone, form-tested, repeated-few}
use Rattle.compiler.proofs.RepeatForms.{repeated-body, repeated-forms, repeated-gave, once-part, once-gave}
use Rattle.laws.proofs.Basics.{ℕ, ◌+◌, ◌-◌, ◌*◌, ◌^◌, ◌≤◌, ◌≡◌, refl, ◌∙◌, length, arith, needs}
use Rattle.compiler.proofs.Commands.{gave-c-at, gave-u-at}
use Rattle.compiler.proofs.Expressions.{ready_at, gave_at, left_at}
use cycle.Proof.Ranks.{rank, at, less, calls, both, three, four, eight, sixteen, command, expr, for-to, form, forms, plain, repeated, while-do}

abbrev while-do-cs : ℕ → cycle.Lts-while_do.Claims
while-do-cs t = eight (steps.node_at.Reads.Asked, steps.node_at.Reads.Learnt) (steps.fresh.Reads.Asked, steps.fresh.Reads.Learnt)
    (steps.mark.Reads.Asked, steps.mark.Reads.Learnt) (calls expr t) (steps.jump_unless.Reads.Asked, steps.jump_unless.Reads.Learnt)
    (steps.put_to.Reads.Asked, steps.put_to.Reads.Learnt) (steps.in_loop.Reads.Asked, steps.in_loop.Reads.Learnt) (calls command t)

pub while-do-ok : {M : Type 1} (t : ℕ) → cycle.Lts-while_do.Closed (while-do-cs t) (at while-do t) (rank while-do).post M
while-do-ok t =
    cycle.Lts-while_do.spec (while-do-cs t) (at while-do t) (rank while-do).post (λ c κs. omega arith) (λ c κs. omega arith) (λ c κs. omega arith)
    (λ c κs. omega arith)
    -- expr-requires
    (λ c κs. both (omega (arith, c.requires.0)) (while-test _ _ c.node_at-n.ensures c.node_at-body.ensures c.requires.1.1.word
    c.fresh-a.ensures c.mark-b.ensures c.requires.1.0))
    (λ c κs. omega arith) (λ c. omega arith) (λ c κs. omega arith)
    -- add-in-loop
    (λ c. omega (arith, c.requires.1.0.label))
    (λ c κs. omega arith)
    -- command-requires
    (λ c κs. both (omega (arith, c.requires.0)) (while-body _ _ c.node_at-n.ensures c.node_at-body.ensures c.requires.1.1.word
    c.fresh-a.ensures c.mark-b.ensures _ c.expr-c.ensures c.put_to-d.ensures c.requires.1.0))
    (λ c κs. omega arith)
    -- add-mark
    (λ c. omega (arith, c.requires.1.0.label))
    (λ c κs. omega arith)
    -- same-length
    (λ c. c.command-e.auto.s ∙ c.expr-c.auto.s)
    -- same-length-2
    (λ c. c.mark.auto.text ∙ c.put_to-f.auto.text ∙ c.command-e.auto.text ∙ c.put_to-d.auto.text
    ∙ c.expr-c.auto.text ∙ c.mark-b.auto.text)
    -- returns
    (λ c. while-gave _ _ c.node_at-n.ensures c.node_at-body.ensures c.requires.1.1.word c.fresh-a.ensures
    c.mark-b.ensures _ c.expr-c.ensures c.put_to-d.ensures _ c.jump_unless.ensures
    (gave-c-at _ refl c.in_loop.ensures c.command-e.ensures) c.put_to-f.ensures
    c.mark.ensures)

abbrev for-to-cs : ℕ → cycle.Lts-for_to.Claims
for-to-cs t = sixteen (steps.node_at.Reads.Asked, steps.node_at.Reads.Learnt) less
    (steps.fresh.Reads.Asked, steps.fresh.Reads.Learnt) (calls expr t) (steps.keep.Reads.Asked, steps.keep.Reads.Learnt)
    (steps.raised.Reads.Asked, steps.raised.Reads.Learnt) (proofs.labels.by_constant.Reads.Asked, proofs.labels.by_constant.Reads.Learnt)
    (steps.blame.Reads.Asked, steps.blame.Reads.Learnt) (steps.word_of.Reads.Asked, steps.word_of.Reads.Learnt) (steps.for_test.Reads.Asked, steps.for_test.Reads.Learnt)
    (proofs.scope.push.Reads.Asked, proofs.scope.push.Reads.Learnt) (proofs.scope.push_name.Reads.Asked, proofs.scope.push_name.Reads.Learnt)
    (steps.set_at.Reads.Asked, steps.set_at.Reads.Learnt) (steps.in_loop.Reads.Asked, steps.in_loop.Reads.Learnt) (calls command t)
    (steps.for_step.Reads.Asked, steps.for_step.Reads.Learnt)

abbrev ForToTested : ℕ → Type 0
ForToTested t = cycle.Lts-for_to.After-for_test-g (for-to-cs t) (at for-to t) (rank for-to).post

for-to-room : (t : ℕ) (c : ForToTested t) → c.args.here.top + 4 ≤ c.requires.1.0.base
for-to-room t c = for-room _ _ _ c.node_at-n.ensures c.node_at-body.ensures c.saturating_sub-limit_end.ensures
    c.node_at-limit.ensures c.requires.1.1.is c.requires.1.0

pub for-to-ok : {M : Type 1} (t : ℕ) → cycle.Lts-for_to.Closed (for-to-cs t) (at for-to t) (rank for-to).post M
for-to-ok t = cycle.Lts-for_to.spec (for-to-cs t) (at for-to t) (rank for-to).post (λ c κs. omega arith) (λ c κs. omega arith) (λ c κs. omega arith)
    (λ c κs. omega arith) (λ c κs. omega arith)
    -- expr-requires
    (λ c κs. both (omega (arith, c.requires.0)) (for-first _ _ _ c.node_at-n.ensures c.node_at-body.ensures
    c.saturating_sub-limit_end.ensures c.node_at-limit.ensures c.requires.1.1.is c.fresh-a.ensures c.requires.1.0))
    -- keep-requires
    (λ c κs. omega (arith, c.requires.1.0.height))
    -- raised-requires
    (λ c κs. omega (arith, c.requires.1.0.height))
    -- expr-requires-2
    (λ c κs. both (omega (arith, c.requires.0, left_at))
    (ready_at c.raised.ensures (for-limit _ _ _ c.node_at-n.ensures c.node_at-body.ensures
    c.saturating_sub-limit_end.ensures c.node_at-limit.ensures c.requires.1.1.is _ c.fresh-a.ensures
    c.expr-b.ensures c.keep-c.ensures c.requires.1.0)))
    -- add-keep
    (λ c. omega (arith, c.requires.1.0.height))
    -- keep-requires-2
    (λ c κs. omega (arith, c.requires.1.0.height))
    -- by-constant-requires
    (λ c κs. omega (arith, c.node_at-body.ensures.start, c.node_at-n.ensures.inner, c.requires.1.0.small))
    (λ c _. c.by_constant-by.ensures.fits)
    (λ c κs. omega arith)
    -- for-test-requires
    (λ c κs. (omega (arith, c.requires.1.0.height), omega (arith, c.requires.1.0.label)))
    -- push-requires
    (λ c κs. let h : ForToTested t = search in let y = h.requires.1.0 in
    let k = h.expr-d.auto in
    let l = h.expr-b.auto in (omega (arith, for-to-room t h), omega arith, omega arith))
    (λ c. let h : ForToTested t = search in let y = h.requires.1.0 in omega (arith, for-to-room t h))
    -- push-name-requires
    (λ c κs. let h : ForToTested t = search in let y = h.requires.1.0 in
    let k = h.expr-d.auto in
    let l = h.expr-b.auto in
    let n = h.node_at-n.ensures in let f =
    for-name-fine _ _ _ c.node_at-n.ensures c.node_at-body.ensures c.saturating_sub-limit_end.ensures
    c.node_at-limit.ensures c.requires.1.1.is _ c.fresh-a.ensures c.expr-b.ensures c.keep-c.ensures
    (gave_at _ c.raised.ensures c.expr-d.ensures) c.keep-e.ensures c.by_constant-by.ensures
    c.blame-f.ensures c.word_of-step.ensures c.for_test-g.ensures c.push.ensures c.requires.1.0 in
    (omega (arith, for-to-room t h), omega arith, omega arith, f))
    (λ c. let h : ForToTested t = search in let y = h.requires.1.0 in omega (arith, for-to-room t h))
    (λ c. let y = c.requires.1.0 in omega arith) (λ c κs. omega arith)
    (λ c. let y = c.requires.1.0 in omega arith) (λ c. let y = c.requires.1.0 in omega arith)
    (λ c κs. omega arith)
    -- command-requires
    (λ c κs. both (omega (arith, c.requires.0, left_at)) (ready_at c.set_at-inner.ensures
    (for-body _ _ _ c.node_at-n.ensures c.node_at-body.ensures c.saturating_sub-limit_end.ensures
    c.node_at-limit.ensures c.requires.1.1.is _ c.fresh-a.ensures c.expr-b.ensures c.keep-c.ensures
    (gave_at _ c.raised.ensures c.expr-d.ensures) c.keep-e.ensures c.by_constant-by.ensures
    c.blame-f.ensures c.word_of-step.ensures c.for_test-g.ensures c.push.ensures c.push_name.ensures refl
    c.requires.1.0)))
    (λ c κs. let y = c.requires.1.0 in (omega arith, omega arith))
    -- same-length
    (λ c. c.command-h.auto.s ∙ c.push_name.auto.s ∙ c.push.auto.s ∙ c.expr-d.auto.s
    ∙ c.expr-b.auto.s)
    -- same-length-2
    (λ c. c.for_step.auto.text ∙ c.command-h.auto.text ∙ c.for_test-g.auto.text ∙ c.keep-e.auto.text
    ∙ c.expr-d.auto.text ∙ c.keep-c.auto.text ∙ c.expr-b.auto.text)
    -- returns
    (λ c. for-gave _ _ _ c.node_at-n.ensures c.node_at-body.ensures c.saturating_sub-limit_end.ensures
    c.node_at-limit.ensures c.requires.1.1.is _ c.fresh-a.ensures c.expr-b.ensures c.keep-c.ensures
    (gave_at _ c.raised.ensures c.expr-d.ensures) c.keep-e.ensures c.by_constant-by.ensures
    c.blame-f.ensures c.word_of-step.ensures c.for_test-g.ensures c.push.ensures c.push_name.ensures refl _
    (gave-c-at _ c.set_at-inner.ensures c.in_loop.ensures c.command-h.ensures)
    c.for_step.ensures)

abbrev form-cs : ℕ → cycle.Lts-form.Claims
form-cs t = three (steps.put_to.Reads.Asked, steps.put_to.Reads.Learnt) (calls expr t) (steps.jump_when.Reads.Asked, steps.jump_when.Reads.Learnt)

pub form-ok : {M : Type 1} (t : ℕ) → cycle.Lts-form.Closed (form-cs t) (at form t) (rank form).post M
form-ok t = cycle.Lts-form.spec (form-cs t) (at form t) (rank form).post (λ c κs. omega arith) (λ c. omega arith) (λ c. search form-alone)
    (λ c κs. (omega arith, c.requires.1.on c.if-size-eq0.false)) (λ c κs. omega arith)
    (λ c κs. omega arith) (λ c. omega arith) (λ c. omega arith) (λ c. search form-tested)

abbrev forms-cs : ℕ → cycle.Lts-forms.Claims
forms-cs t = four (proofs.scope.entry.Reads.Asked, proofs.scope.entry.Reads.Learnt) (steps.mark.Reads.Asked, steps.mark.Reads.Learnt) (calls form t)
    less

abbrev forms-Inv-loop : cycle.Lts-forms.invariant-loop-at
forms-Inv-loop source s₀ from end text₀ here innermost at₀ own₀ r₀ s text at own r =
    (length s ≡ length s₀) × (length text ≡ length text₀) × (own ≤ innermost) ×
    ((y : ReadyForms s₀ from end here r₀) → FormsPart source text₀ innermost y s text at own r)

pub forms-ok : {M : Type 1} (t : ℕ) → cycle.Lts-forms.Closed (forms-cs t) (at forms t) (rank forms).post M
forms-ok t = cycle.Lts-forms.spec (forms-cs t) (at forms t) (rank forms).post forms-Inv-loop
    (λ source s₀ from end text₀ here innermost at₀ own₀ r₀ s text at own r. end - at) (λ c. search (needs, forms-begin)) (λ c κs. omega arith)
    (λ c. omega arith) (λ c κs. omega arith) (λ c. omega arith) (λ c. omega arith) (λ c. omega arith) (λ c κs. omega arith)
    -- form-requires
    (λ c κs. both (omega (arith, c.requires.0)) (forms-part _ _ _ c.loop-at-test.true c.entry-size.ensures.0
    c.entry-word.ensures.0 refl c.mark-a.ensures.label c.requires.1.0 (c.loop-at.invariant.3 c.requires.1.0)))
    -- add-mark-2
    (λ c. omega (arith, c.loop-at.invariant.2, c.requires.1.1))
    (λ c κs. omega arith) (λ c κs. omega arith)
    -- loop-less
    (λ c. omega (arith, c.loop-at-test.true))
    -- loop-again
    (λ c. (
      c.form-b.auto.s ∙ c.loop-at.invariant.0,
      c.mark-r.auto.text ∙ c.form-b.auto.text ∙ c.mark-a.auto.text ∙ c.loop-at.invariant.1,
      omega (arith, c.loop-at.invariant.2),
      λ y. forms-next _ _
          c.args.innermost c.loop-at-test.true c.entry-size.ensures.0 c.entry-word.ensures.0 refl
          c.mark-a.ensures c.form-b.ensures c.mark-r.ensures c.saturating_sub-own.ensures y (c.loop-at.invariant.3 y),
    ))
    (λ c. c.loop-at.invariant.0) (λ c. c.loop-at.invariant.1) (λ c. forms-end _ _ _ c.loop-at-test.false c.loop-at.invariant.3)

abbrev repeated-cs : ℕ → cycle.Lts-repeated.Claims
repeated-cs t = eight (steps.node_at.Reads.Asked, steps.node_at.Reads.Learnt) (steps.count.Reads.Asked, steps.count.Reads.Learnt)
    less (steps.fresh.Reads.Asked, steps.fresh.Reads.Learnt)
    (steps.tops.Reads.Asked, steps.tops.Reads.Learnt) (steps.in_loop.Reads.Asked, steps.in_loop.Reads.Learnt) (calls plain t) (calls forms t)

repeated-fit : (t : ℕ) (c : cycle.Lts-repeated.After-count-k (repeated-cs t) (at repeated t) (rank repeated).post) → (1 ≤ c.count-k.result) ×
    (c.args.st.label + 3 * c.count-k.result + 3 ≤ 2 ^ 29)
repeated-fit t c = repeated-few _ c.node_at-n.ensures c.if-n-eq-REPEATED.true refl c.count-k.ensures.0
    c.requires.1

pub repeated-ok : {M : Type 1} (t : ℕ) → cycle.Lts-repeated.Closed (repeated-cs t) (at repeated t) (rank repeated).post M
repeated-ok t =
    cycle.Lts-repeated.spec (repeated-cs t) (at repeated t) (rank repeated).post (λ c κs. omega arith) (λ c. omega arith) (λ c κs. omega arith)
    (λ c. omega (arith, repeated-fit t c)) (λ c. omega (arith, repeated-fit t (search))) (λ c κs. omega arith)
    (λ c. omega (arith, repeated-fit t (search))) (λ c κs. omega (arith, repeated-fit t (search))) (λ c κs. omega (arith, repeated-fit t (search)))
    (λ c. omega (arith, repeated-fit t (search))) (λ c. omega (arith, repeated-fit t (search))) (λ c κs. omega arith)
    -- plain-requires
    (λ c κs. both (omega (arith, c.requires.0)) (repeated-body _ c.node_at-n.ensures c.if-n-eq-REPEATED.true refl c.count-k.ensures.0
    c.fresh-a.ensures c.tops-b.ensures c.requires.1))
    -- forms-requires
    (λ c κs. both (omega (arith, c.requires.0)) (both
    (repeated-forms _ c.node_at-n.ensures c.if-n-eq-REPEATED.true refl c.count-k.ensures.0 c.fresh-a.ensures
    c.tops-b.ensures _ c.args.ways c.saturating_sub-own.ensures
    (gave-u-at _ refl c.in_loop.ensures c.plain-c.ensures) c.requires.1)
    (omega (arith, repeated-fit t (search), c.saturating_sub-own.ensures))))
    (λ c. omega arith) (λ c. omega arith)
    -- returns
    (λ c. repeated-gave _ c.node_at-n.ensures c.if-n-eq-REPEATED.true refl c.count-k.ensures.0 c.fresh-a.ensures
    c.tops-b.ensures _ _ c.saturating_sub-own.ensures (gave-u-at _ refl c.in_loop.ensures c.plain-c.ensures)
    c.forms.ensures)
    (λ c κs. search (needs, once-part)) (λ c. omega arith) (λ c. omega arith) (λ c. search once-gave)
