use Rattle.std.proofs.Common.{rules}
use Rattle.laws.proofs.Basics.{refl}
use Rattle.tree.proofs.Programs.{declaration-globals, declaration-manifests, declaration-functions}
use Rattle.tree.proofs.Rooms.{leaves-less}
use Rattle.tree.proofs.Steps.{pair}
use Rattle.tree.proofs.declarations.declaration.Goals as goal

pub returns-in-1 : goal.returns-in-1
returns-in-1 c = (leaves-less c.item_list.ensures.0 refl, λ src l h. declaration-globals src c.in-1.is (c.item_list.ensures.1 src l))

pub returns-in-2 : goal.returns-in-2
returns-in-2 c = (leaves-less c.item_list-in-2.ensures.0 refl, λ src l h. declaration-manifests src c.in-2.is (c.item_list-in-2.ensures.1 src l))

pub returns-in_default : goal.returns-in_default
returns-in_default c = pair (leaves-less c.functions.ensures.0 refl)
    (λ src l h. declaration-functions src h (search rules) (search rules) (c.functions.ensures.1 src l))
