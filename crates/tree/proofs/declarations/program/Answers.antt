use Rattle.laws.proofs.Basics.{refl}
use Rattle.tree.proofs.Symbols.{lies-still}
use Rattle.tree.proofs.Programs.{program-read, program-refused}
use Rattle.tree.proofs.Steps.{pair}
use Rattle.tree.proofs.Rooms.{left, room-left, ◌plus◌}
use Rattle.tree.proofs.declarations.program.Goals as goal

pub returns-then-kind-eq-NOTHING : goal.returns-then-kind-eq-NOTHING
returns-then-kind-eq-NOTHING c = pair c.declarations-a.ensures.0
    (λ src l. program-read src l.count (c.kind_here-kind.ensures src (lies-still l c.declarations-a.ensures.0.kept))
    (c.declarations-a.ensures.1 src l) c.if-kind-eq-NOTHING.true)

pub returns : goal.returns
returns c = pair (room-left (left c.declarations-a.ensures.0 plus c.refuse.ensures.0) refl)
    (λ src l. program-refused src l.count (c.kind_here-kind.ensures src (lies-still l c.declarations-a.ensures.0.kept))
    (c.declarations-a.ensures.1 src l) c.if-kind-eq-NOTHING.false c.refuse.ensures.1)
