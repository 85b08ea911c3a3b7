use Rattle.laws.proofs.Basics.{◌-◌, ◌≡◌, length}
use Rattle.compiler.specs.Switching.{ReadyLabels}
use Rattle.compiler.proofs.Doubling.{ListPart}
use Rattle.compiler.proofs.labels.doubled.Given as goal

abbrev pub invariant-loop-at : goal.invariant-loop-at
invariant-loop-at l = (length l.seen ≡ 8193) × ((y : ReadyLabels l.s l.from l.end l.top) → ListPart l.source l.initial.r y l.seen l.at l.r)

abbrev pub decreases-loop-at : goal.decreases-loop-at
decreases-loop-at l = l.end - l.at
