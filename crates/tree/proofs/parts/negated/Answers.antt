use Rattle.laws.proofs.Basics.{refl}
use Rattle.tree.proofs.Leaves.{negated-read}
use Rattle.tree.proofs.Steps.{pair}
use Rattle.tree.proofs.Rooms.{left, room-left, ◌less◌}
use Rattle.tree.proofs.parts.negated.Goals as goal

pub returns : goal.returns
returns c = pair (room-left (left c.expect-a.ensures.0 less c.node.ensures.0) refl)
    (λ src l. negated-read _ (c.expect-a.ensures.1 src l) c.free_of-lo.ensures c.node.ensures.1)
