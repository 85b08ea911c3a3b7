-- What the records from label-index on say is what the table says.
use Rattle.laws.proofs.Basics.{◌≡◌, drop}
use Rattle.assembler.specs.Assemble.{looked_up}
use Rattle.assembler.proofs.look_up.Given as goal

abbrev pub invariant-loop-label : goal.invariant-loop-label
invariant-loop-label l = looked_up l.labels l.number ≡ looked_up (drop l.label-index l.labels) l.number
