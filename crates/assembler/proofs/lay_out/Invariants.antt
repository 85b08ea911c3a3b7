-- What the layout of the items from `place` on gives, after the labels so far, is what all of them give (`Laying`).
use Rattle.laws.proofs.Basics.{◌-◌, length}
use Rattle.assembler.proofs.Laying.{Laying}
use Rattle.assembler.proofs.lay_out.Given as goal

abbrev pub invariant-loop-place : goal.invariant-loop-place
invariant-loop-place l = Laying l.text l.memory l.from l.fn.labels l.place l.at l.labels l.index

abbrev pub decreases-loop-place : goal.decreases-loop-place
decreases-loop-place l = length l.text - l.place
