use Rattle.laws.proofs.Basics.{refl}
use Rattle.tree.proofs.Leaves.{leaf-read}
use Rattle.tree.proofs.Steps.{pair}
use Rattle.tree.proofs.Rooms.{left, room-left, ◌less◌}
use Rattle.tree.proofs.parts.leaf.Goals as goal

pub returns : goal.returns
returns c = pair (room-left (left c.expect-a.ensures.0 less c.node.ensures.0) refl)
    (λ src l. leaf-read l _ (c.place_here-place.ensures src l) c.requires.1 (c.expect-a.ensures.1 src l) c.free_of-lo.ensures c.node.ensures.1)
