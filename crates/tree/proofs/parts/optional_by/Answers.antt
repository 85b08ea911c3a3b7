use Rattle.laws.proofs.Basics.{refl}
use Rattle.tree.proofs.Names.{by_read, no-by}
use Rattle.tree.proofs.Rooms.{leaves_all, left, room-left, ◌plus◌}
use Rattle.tree.proofs.Steps.{pair}
use Rattle.tree.proofs.parts.optional_by.Goals as goal

pub returns-then-kind-eq-BY : goal.returns-then-kind-eq-BY
returns-then-kind-eq-BY c = pair (room-left (left c.expect-word.ensures.0 plus c.constant.ensures.0) refl)
    (λ src l. by_read src _ (c.kind_here-kind.ensures src l) c.if-kind-eq-BY.true (c.expect-word.ensures.1 src l) (c.constant.ensures.1 src l))

pub returns : goal.returns
returns c = (leaves_all c.requires, λ src l. no-by src _ (c.kind_here-kind.ensures src l) c.if-kind-eq-BY.false)
