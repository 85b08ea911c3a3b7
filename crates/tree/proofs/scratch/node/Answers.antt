use Rattle.laws.proofs.Basics.{length-set, arith}
use Rattle.tree.proofs.Helpers.{room-is, record-written, adds-refused, refused-takes}
use Rattle.tree.proofs.scratch.node.Goals as goal

pub returns-in_default : goal.returns-in_default
returns-in_default c = (refused-takes c.in_default.is c.requires, adds-refused c.in_default.is)

pub overflow_cast-s : goal.overflow_cast-s
overflow_cast-s c = omega (arith, room-is c.requires c.in-Read.is)

pub offset_bounds-s-free : goal.offset_bounds-s-free
offset_bounds-s-free c = omega (arith, room-is c.requires c.in-Read.is)

pub bounds-s-free : goal.bounds-s-free
bounds-s-free c = omega (arith, room-is c.requires c.in-Read.is)

pub overflow_add-s : goal.overflow_add-s
overflow_add-s c = omega (arith, room-is c.requires c.in-Read.is)

pub offset_bounds-s-free-2 : goal.offset_bounds-s-free-2
offset_bounds-s-free-2 c = omega (arith, room-is c.requires c.in-Read.is)

pub bounds-s-free-2 : goal.bounds-s-free-2
bounds-s-free-2 c = simp length-set (omega (arith, room-is c.requires c.in-Read.is))

pub overflow_add-s-2 : goal.overflow_add-s-2
overflow_add-s-2 c = omega (arith, room-is c.requires c.in-Read.is)

pub offset_bounds-s-free-3 : goal.offset_bounds-s-free-3
offset_bounds-s-free-3 c = omega (arith, room-is c.requires c.in-Read.is)

pub bounds-s-free-3 : goal.bounds-s-free-3
bounds-s-free-3 c = simp length-set (omega (arith, room-is c.requires c.in-Read.is))

pub overflow_add-s-3 : goal.overflow_add-s-3
overflow_add-s-3 c = omega (arith, room-is c.requires c.in-Read.is)

pub offset_bounds-s-free-4 : goal.offset_bounds-s-free-4
offset_bounds-s-free-4 c = omega (arith, room-is c.requires c.in-Read.is)

pub bounds-s-free-4 : goal.bounds-s-free-4
bounds-s-free-4 c = simp length-set (omega (arith, room-is c.requires c.in-Read.is))

pub overflow_add-result : goal.overflow_add-result
overflow_add-result c = omega (arith, room-is c.requires c.in-Read.is)

pub returns : goal.returns
returns c = record-written c.in-Read.is c.requires _ _ _ _ c.saturating_sub.ensures
