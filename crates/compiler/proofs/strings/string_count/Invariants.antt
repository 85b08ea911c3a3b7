use Rattle.compiler.proofs.StringTexts.{Counted}
use Rattle.compiler.proofs.strings.string_count.Given as goal

abbrev pub invariant-loop-i : goal.invariant-loop-i
invariant-loop-i l = Counted l.count l.s l.i l.n
