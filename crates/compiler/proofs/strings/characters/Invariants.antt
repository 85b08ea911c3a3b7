use Rattle.laws.proofs.Basics.{◌-◌, length}
use Rattle.compiler.proofs.StringTexts.{Spelling}
use Rattle.compiler.proofs.strings.characters.Given as goal

abbrev pub invariant-loop-c : goal.invariant-loop-c
invariant-loop-c l = Spelling l.source l.from l.i l.at l.x l.fn.text l.text

abbrev pub decreases-loop-c : goal.decreases-loop-c
decreases-loop-c l = length l.source - l.i
