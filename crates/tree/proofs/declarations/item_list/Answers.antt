use Rattle.laws.proofs.Basics.{refl}
use Rattle.tree.proofs.Programs.{item-list-read}
use Rattle.tree.proofs.Wholes.{leaves, ◌from◌, ◌with◌}
use Rattle.tree.proofs.declarations.item_list.Goals as goal

pub returns : goal.returns
returns c = leaves ((λ src l. item-list-read src _ l.count) from c.expect-begin.ensures with c.one_item-first.ensures with
    c.further_items.ensures) refl
