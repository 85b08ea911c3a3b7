use Rattle.laws.proofs.Basics.{◌+◌, ◌*◌}
use Rattle.compiler.specs.Commands.{ReadyNames}
use Rattle.compiler.proofs.Declarations.{NamesPart}
use Rattle.compiler.proofs.steps.declare.Given as goal

abbrev pub invariant-loop-k : goal.invariant-loop-k
invariant-loop-k l = (y : ReadyNames l.fn.s l.from l.end l.top l.height) → NamesPart l.source l.initial.r y l.s (l.from + 4 * l.k) l.k l.r
