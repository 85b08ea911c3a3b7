-- The items from `place` on, written from `at` on, make what all of them make (`Filling`).
use Rattle.laws.proofs.Basics.{◌-◌, length}
use Rattle.assembler.specs.Passes.{listed}
use Rattle.assembler.proofs.Filling.{Filling}
use Rattle.assembler.proofs.write_items.Given as goal

abbrev pub invariant-loop-first : goal.invariant-loop-first
invariant-loop-first l = Filling (listed l.index) l.text l.fn.memory l.from l.place l.at l.memory

abbrev pub decreases-loop-first : goal.decreases-loop-first
decreases-loop-first l = length l.text - l.place
