use Rattle.laws.proofs.Basics.{arith}
use Rattle.tree.proofs.Helpers.{room-is, set-size-fits, set-kept, sized_set, sized_past, sized-refused}
use Rattle.tree.proofs.scratch.set_size.Goals as goal

pub overflow_cast-s : goal.overflow_cast-s
overflow_cast-s c = omega (arith, room-is c.requires.0 c.in-Read.is)

pub offset_bounds-s-lo : goal.offset_bounds-s-lo
offset_bounds-s-lo c = omega (arith, room-is c.requires.0 c.in-Read.is)

pub bounds-s-lo : goal.bounds-s-lo
bounds-s-lo c = omega (arith, room-is c.requires.0 c.in-Read.is)

pub returns-in-Read : goal.returns-in-Read
returns-in-Read c = (search (set-size-fits, set-kept), sized_set c.requires.0 c.requires.1 c.in-Read.is _ c.saturating_sub.ensures)

pub returns-else-lo-free : goal.returns-else-lo-free
returns-else-lo-free c = (search set-size-fits, search sized_past)

pub returns : goal.returns
returns c = (search set-size-fits, search sized-refused)
