use Rattle.laws.proofs.Basics.{arith}
use Rattle.tree.proofs.Helpers.{room-is}
use Rattle.tree.proofs.Calls.{call-short, call-kind}
use Rattle.tree.proofs.scratch.is_call.Goals as goal

pub offset_bounds-s-free : goal.offset_bounds-s-free
offset_bounds-s-free c = omega (arith, room-is c.requires c.in-Read.is)

pub bounds-s-free : goal.bounds-s-free
bounds-s-free c = omega (arith, room-is c.requires c.in-Read.is)

pub returns-then-free-gt0 : goal.returns-then-free-gt0
returns-then-free-gt0 c = call-kind c.requires c.in-Read.is

pub returns-else-free-gt0 : goal.returns-else-free-gt0
returns-else-free-gt0 c = call-short c.requires c.in-Read.is (omega arith)
