use Rattle.laws.proofs.Basics.{refl, arith}
use Rattle.tree.proofs.Helpers.{low}
use Rattle.tree.proofs.Programs.{item-here}
use Rattle.tree.proofs.Rooms.{ready-leaves, ready-takes, ready-part, item-low}
use Rattle.tree.proofs.Steps.{pair}
use Rattle.tree.proofs.Wholes.{leaves, ◌writing◌, ◌with◌, ◌setting◌}
use Rattle.tree.proofs.declarations.one_item.Goals as goal

pub a_name-name-requires : goal.a_name-name-requires
a_name-name-requires c = ready-takes c.begin_item-begun.ensures.0 c.begin_item-begun.auto.s c.requires.0

pub expect-middle-requires : goal.expect-middle-requires
expect-middle-requires c = (
  ready-leaves c.a_name-name.ensures.0 c.a_name-name.auto.s refl
      (ready-takes c.begin_item-begun.ensures.0 c.begin_item-begun.auto.s c.requires.0),
  omega arith,
)

pub constant-a-requires : goal.constant-a-requires
constant-a-requires c = ready-leaves c.expect-middle.ensures.0 refl refl (ready-leaves c.a_name-name.ensures.0 c.a_name-name.auto.s refl
    (ready-takes c.begin_item-begun.ensures.0 c.begin_item-begun.auto.s c.requires.0))

pub set_size-requires : goal.set_size-requires
set_size-requires c = pair (ready-leaves c.constant-a.ensures.0 c.constant-a.auto.s refl
    (ready-leaves c.expect-middle.ensures.0 refl refl (ready-leaves c.a_name-name.ensures.0 c.a_name-name.auto.s refl
    (ready-takes c.begin_item-begun.ensures.0 c.begin_item-begun.auto.s c.requires.0))))
    (item-low c.free_of-lo.ensures (ready-part c.requires.0 refl))

pub returns : goal.returns
returns c = leaves ((λ src l. item-here src _ _ c.free_of-lo.ensures (low c.requires.0)) writing c.begin_item-begun.ensures with
    c.a_name-name.ensures with c.expect-middle.ensures with c.constant-a.ensures setting c.set_size.ensures) refl
