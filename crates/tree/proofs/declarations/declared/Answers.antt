use Rattle.laws.proofs.Basics.{refl}
use Rattle.tree.proofs.Helpers.{low-past}
use Rattle.tree.proofs.Programs.{declared-read}
use Rattle.tree.proofs.Rooms.{ready-leaves, ready-part, item-low, ready-takes}
use Rattle.tree.proofs.Steps.{pair}
use Rattle.tree.proofs.Wholes.{leaves, ◌from◌, ◌with◌, ◌adding◌, ◌setting◌}
use Rattle.tree.proofs.declarations.declared.Goals as goal

pub set_size-requires : goal.set_size-requires
set_size-requires c = pair (ready-leaves c.declaration-a.ensures.0 c.declaration-a.auto.s refl
    (ready-part (ready-takes {m = 2} c.begin_item-begun.ensures.0 c.begin_item-begun.auto.s
    (ready-leaves c.expect-word.ensures.0 refl refl c.requires.0)) refl)) (item-low c.free_of-lo.ensures c.requires.0)

pub returns : goal.returns
returns c = leaves ((λ src l a b v d e k h. declared-read src _ k h c.free_of-lo.ensures (low-past c.requires.0 c.expect-word.ensures.0) a b
    (v h) d e) from c.expect-word.ensures adding c.begin_item-begun.ensures with c.declaration-a.ensures setting
    c.set_size.ensures with c.optional.ensures) refl
