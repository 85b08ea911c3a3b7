use Rattle.laws.proofs.Basics.{◌+◌, ◌≤◌}
use Rattle.compiler.proofs.StringTexts.{Listing}
use Rattle.compiler.proofs.strings.strings.Given as goal

abbrev pub invariant-loop-i : goal.invariant-loop-i
invariant-loop-i l = (l.number ≤ l.first + l.i) × Listing l.source l.s l.count l.first l.i l.number l.at l.x l.fn.text l.text
