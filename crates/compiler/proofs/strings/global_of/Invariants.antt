use Rattle.compiler.proofs.StartTexts.{Passed}
use Rattle.compiler.proofs.strings.global_of.Given as goal

abbrev pub invariant-loop-n : goal.invariant-loop-n
invariant-loop-n l = Passed l.table l.label l.n
