-- The words of the characters from `place` on, written from `to` on, make what all of them make (`Spells`).
use Rattle.laws.proofs.Basics.{◌-◌, length}
use Rattle.assembler.proofs.Strings.{Spells}
use Rattle.assembler.proofs.write_string.Given as goal

abbrev pub invariant-loop-memory : goal.invariant-loop-memory
invariant-loop-memory l = Spells l.text l.fn.memory l.at l.from l.first l.place l.to l.high l.memory

abbrev pub decreases-loop-memory : goal.decreases-loop-memory
decreases-loop-memory l = length l.text - l.place
