use Rattle.laws.proofs.Basics.{refl}
use Rattle.tree.proofs.Helpers.{low-past}
use Rattle.tree.proofs.Cases.{default-read, label-default}
use Rattle.tree.proofs.Rooms.{freed, ready-leaves, ready-takes, item-low}
use Rattle.tree.proofs.Steps.{pair}
use Rattle.tree.proofs.Wholes.{leaves, ◌from◌, ◌with◌, ◌adding◌, ◌setting◌}
use Rattle.tree.proofs.parts.default_label.Goals as goal

pub set_size-requires : goal.set_size-requires
set_size-requires c = pair (ready-takes c.node-a.ensures.0 c.node-a.auto.s (ready-leaves c.expect-colon.ensures.0 refl refl
    (ready-takes c.begin_item-begun.ensures.0 c.begin_item-begun.auto.s
    (ready-leaves c.expect-word.ensures.0 refl refl c.requires)))) (item-low c.free_of-lo.ensures c.requires)

pub returns : goal.returns
returns c = leaves ((λ src l a b d f g kind k q. label-default src _ k q
    (default-read l _ _ c.free_of-lo.ensures (c.place_here-place.ensures src l) (low-past c.requires c.expect-word.ensures.0)
    (freed _ c.free_of-start.ensures c.begin_item-begun.auto.s) a b d f g)) from c.expect-word.ensures adding
    c.begin_item-begun.ensures with c.expect-colon.ensures adding c.node-a.ensures setting c.set_size.ensures) refl
