use Rattle.laws.proofs.Basics.{length-set, arith}
use Rattle.tree.proofs.Helpers.{room-is, item-begun, adds-refused, refused-takes}
use Rattle.tree.proofs.scratch.begin_item.Goals as goal

pub returns-in_default : goal.returns-in_default
returns-in_default c = (refused-takes c.in_default.is c.requires, adds-refused c.in_default.is)

pub offset_bounds-s-free : goal.offset_bounds-s-free
offset_bounds-s-free c = omega (arith, room-is c.requires c.in-Read.is)

pub bounds-s-free : goal.bounds-s-free
bounds-s-free c = omega (arith, room-is c.requires c.in-Read.is)

pub overflow_add-s : goal.overflow_add-s
overflow_add-s c = omega (arith, room-is c.requires c.in-Read.is)

pub offset_bounds-s-free-2 : goal.offset_bounds-s-free-2
offset_bounds-s-free-2 c = omega (arith, room-is c.requires c.in-Read.is)

pub bounds-s-free-2 : goal.bounds-s-free-2
bounds-s-free-2 c = simp length-set (omega (arith, room-is c.requires c.in-Read.is))

pub overflow_add-result : goal.overflow_add-result
overflow_add-result c = omega (arith, room-is c.requires c.in-Read.is)

pub returns : goal.returns
returns c = item-begun c.in-Read.is c.requires _
