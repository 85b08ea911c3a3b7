use Rattle.laws.proofs.Basics.{◌-◌, arith, needs}
use Rattle.compiler.specs.Switching.{ReadyMisplaced}
use Rattle.compiler.proofs.Rows.{MisplacedPart, misplaced-begin, misplaced-next, misplaced-end}
use Rattle.compiler.proofs.labels.misplaced.Tie as tie

abbrev invariant-loop : tie.invariant-loop-at
invariant-loop source s from end top at₀ r₀ at r = (y : ReadyMisplaced s from end top) → MisplacedPart source r₀ y at r

pub misplaced_spec : {M : Type 1} → Rattle.compiler.proofs.labels.misplaced.Statement.statement M
misplaced_spec = tie.close (tie.spec invariant-loop (λ source s from end top at₀ r₀ at r. end - at) (λ c. λ y. search misplaced-begin) (search needs)
    (λ c κs. omega arith) (λ c. omega arith)
    -- loop-again
    (λ c. λ y. misplaced-next _ c.args.st c.loop-at-test.true
    c.next_item-next.ensures c.misplaced_label-r.ensures y (c.loop-at.invariant y))
    (λ c. search misplaced-end))
