use Rattle.laws.proofs.Basics.{arith}
use Rattle.tree.proofs.Helpers.{room-is}
use Rattle.tree.proofs.Calls.{place_short, place-entry}
use Rattle.tree.proofs.scratch.place_of.Goals as goal

pub offset_bounds-s-free : goal.offset_bounds-s-free
offset_bounds-s-free c = omega (arith, room-is c.requires c.in-Read.is)

pub bounds-s-free : goal.bounds-s-free
bounds-s-free c = omega (arith, room-is c.requires c.in-Read.is)

pub returns-in-Read : goal.returns-in-Read
returns-in-Read c = place-entry c.requires c.in-Read.is

pub returns-in_default : goal.returns-in_default
returns-in_default c = place_short c.requires c.in-Read.is (omega arith)
