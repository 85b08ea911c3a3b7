-- What is left of the text falls at each turn, by the tests of the places.
use Rattle.laws.proofs.Basics.{◌-◌, length}
use Rattle.minicode.proofs.listing.list.Given as goal

abbrev pub invariant-loop-first : goal.invariant-loop-first
invariant-loop-first g l = Unit {0}

abbrev pub decreases-loop-first : goal.decreases-loop-first
decreases-loop-first g l = length l.text - l.place
