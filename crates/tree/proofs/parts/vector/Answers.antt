use Rattle.laws.proofs.Basics.{refl, arith}
use Rattle.tree.proofs.Steps.{goes_on_lem, adds_on, ◌then◌, pair}
use Rattle.tree.proofs.Lets.{vector-read}
use Rattle.tree.proofs.Rooms.{measured, size_small}
use Rattle.tree.proofs.Wholes.{leaves, ◌from◌, ◌with◌, ◌adding◌}
use Rattle.tree.proofs.parts.vector.Goals as goal

pub overflow_cast-size : goal.overflow_cast-size
overflow_cast-size c = let small = size_small _ c.saturating_sub-size.ensures c.free_of.ensures c.requires in omega arith

pub returns : goal.returns
returns c = leaves ((λ src l a b d. pair (goes_on_lem a then goes_on_lem b then adds_on d)
    (λ name q. vector-read src _ _ name _ q (measured _ _ c.saturating_sub-size.ensures c.free_of.ensures refl) a b d)) from
    c.expect-word.ensures with c.constant-length.ensures adding c.node.ensures) refl
