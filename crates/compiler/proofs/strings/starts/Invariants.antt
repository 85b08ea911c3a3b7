use Rattle.compiler.proofs.StartTexts.{StartsSoFar}
use Rattle.compiler.proofs.strings.starts.Given as goal

abbrev pub invariant-loop-k : goal.invariant-loop-k
invariant-loop-k l = StartsSoFar l.table l.functions l.k l.at l.x l.fn.text l.text
