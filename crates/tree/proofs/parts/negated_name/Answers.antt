use Rattle.laws.proofs.Basics.{refl}
use Rattle.tree.proofs.Constants.{negated-name-read}
use Rattle.tree.proofs.Steps.{pair}
use Rattle.tree.proofs.Rooms.{left, room-taken, ◌less◌}
use Rattle.tree.proofs.parts.negated_name.Goals as goal

pub returns : goal.returns
returns c = pair (room-taken (left c.leaf-name.ensures.0 less c.node.ensures.0) refl)
    (λ src l. negated-name-read _ c.free_of-lo.ensures (c.leaf-name.ensures.1 src l) c.node.ensures.1)
