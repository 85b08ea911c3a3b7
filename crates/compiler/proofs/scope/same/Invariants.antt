use Rattle.compiler.proofs.Scoping.{SameDownTo}
use Rattle.compiler.proofs.scope.same.Given as goal

abbrev pub invariant-loop-i : goal.invariant-loop-i
invariant-loop-i l = SameDownTo l.i l.a l.b
