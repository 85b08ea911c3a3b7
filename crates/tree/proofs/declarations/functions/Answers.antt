use Rattle.laws.proofs.Basics.{refl}
use Rattle.tree.proofs.Symbols.{lies-still}
use Rattle.tree.proofs.Programs.{functions-read}
use Rattle.tree.proofs.Steps.{pair}
use Rattle.tree.proofs.Rooms.{left, room-left, ◌plus◌}
use Rattle.tree.proofs.declarations.functions.Goals as goal

pub returns : goal.returns
returns c = pair (room-left (left c.function-first.ensures.0 plus c.further_functions.ensures.0) refl)
    (λ src l. functions-read src l.count (c.function-first.ensures.1 src l)
    (c.further_functions.ensures.1 src (lies-still l c.function-first.ensures.0.kept)))
