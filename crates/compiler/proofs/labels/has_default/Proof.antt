use Rattle.laws.proofs.Basics.{◌-◌, List, arith, needs}
use Rattle.language.specs.Tree.{Label}
use Rattle.compiler.specs.Labels.{LabelAt, Row}
use Rattle.compiler.proofs.Switching.{AmongPart, among-begin, among_next, among-found, among-end}
use Rattle.compiler.proofs.labels.has_default.Tie as tie

abbrev invariant-loop : tie.invariant-loop-at
invariant-loop s from end at₀ at = (ls : List Label) → Row (LabelAt s) s end from ls → AmongPart s end at ls

pub has_default_spec : {M : Type 1} → Rattle.compiler.proofs.labels.has_default.Statement.statement M
has_default_spec = tie.close (tie.spec invariant-loop (λ s from end at₀ at. end - at) (λ c. λ ls r. search among-begin) (search needs) (search needs)
    -- returns
    (λ c. record {
      by = λ ls r. among-found _ c.args.end
          c.loop-at-test.true c.next_item-next.ensures c.one_case.ensures c.if-one_case-eq0.true ls
          (c.loop-at.invariant ls r);
    })
    (λ c. omega arith)
    -- loop-again
    (λ c. λ ls r. among_next _ c.args.end c.loop-at-test.true
    c.next_item-next.ensures c.one_case.ensures c.if-one_case-eq0.false ls (c.loop-at.invariant ls r))
    (λ c. record { by = λ ls r. among-end _ _ c.loop-at-test.false ls (c.loop-at.invariant ls r) }))
