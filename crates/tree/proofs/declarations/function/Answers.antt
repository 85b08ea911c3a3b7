use Rattle.laws.proofs.Basics.{ℕ, refl, ap, ◌∙◌, arith}
use Rattle.tree.proofs.Helpers.{low}
use Rattle.tree.specs.Reads.{free_of}
use Rattle.tree.proofs.Programs.{function-here}
use Rattle.tree.proofs.Rooms.{freed, size_small, ready-leaves, ready-takes, ready-part, item-low, for-size}
use Rattle.tree.proofs.Steps.{pair}
use Rattle.tree.proofs.Wholes.{leaves, ◌writing◌, ◌with◌, ◌setting◌}
use Rattle.tree.proofs.declarations.function.Goals as goal

pub a_name-name-requires : goal.a_name-name-requires
a_name-name-requires c = ready-takes c.begin_item-begun.ensures.0 c.begin_item-begun.auto.s c.requires

pub expect-open-requires : goal.expect-open-requires
expect-open-requires c = pair (ready-leaves c.a_name-name.ensures.0 c.a_name-name.auto.s refl
    (ready-takes c.begin_item-begun.ensures.0 c.begin_item-begun.auto.s c.requires)) (omega arith)

pub parameters-parameters-requires : goal.parameters-parameters-requires
parameters-parameters-requires c = ready-leaves c.expect-open.ensures.0 refl refl (ready-leaves c.a_name-name.ensures.0 c.a_name-name.auto.s refl
    (ready-takes c.begin_item-begun.ensures.0 c.begin_item-begun.auto.s c.requires))

pub overflow_cast-size : goal.overflow_cast-size
overflow_cast-size c = let small = size_small _ c.saturating_sub-size.ensures c.free_of.ensures (ready-leaves c.parameters-parameters.ensures.0 c.parameters-parameters.auto.s refl (ready-leaves c.expect-open.ensures.0 refl refl (ready-leaves c.a_name-name.ensures.0 c.a_name-name.auto.s refl
    (ready-takes c.begin_item-begun.ensures.0 c.begin_item-begun.auto.s c.requires)))) in omega arith

pub function_body-a-requires : goal.function_body-a-requires
function_body-a-requires c = ready-leaves c.parameters-parameters.ensures.0 c.parameters-parameters.auto.s refl (ready-leaves c.expect-open.ensures.0 refl refl (ready-leaves c.a_name-name.ensures.0 c.a_name-name.auto.s refl
    (ready-takes c.begin_item-begun.ensures.0 c.begin_item-begun.auto.s c.requires)))

pub set_size-requires : goal.set_size-requires
set_size-requires c = pair (ready-leaves c.function_body-a.ensures.0 c.function_body-a.auto.s refl (ready-leaves c.parameters-parameters.ensures.0 c.parameters-parameters.auto.s refl (ready-leaves c.expect-open.ensures.0 refl refl (ready-leaves c.a_name-name.ensures.0 c.a_name-name.auto.s refl
    (ready-takes c.begin_item-begun.ensures.0 c.begin_item-begun.auto.s c.requires)))))
    (item-low c.free_of-lo.ensures (ready-part c.requires refl))

pub returns : goal.returns
returns c = let same = c.parameters-parameters.auto.s ∙ c.a_name-name.auto.s ∙ c.begin_item-begun.auto.s in
    leaves ((λ src l b e d f p z. function-here src _ c.free_of-lo.ensures (low c.requires) b
    (freed _ c.free_of-start.ensures c.begin_item-begun.auto.s) e d f
    (for-size _ _ c.saturating_sub-size.ensures c.free_of.ensures c.free_of-2.ensures same)
    (λ name names q. p.1 name names (ap (λ (z : ℕ). free_of z c.parameters-parameters.result) same ∙ q)) p.0 z) writing
    c.begin_item-begun.ensures with c.a_name-name.ensures with c.expect-open.ensures with c.parameters-parameters.ensures with
    c.function_body-a.ensures setting c.set_size.ensures) refl
