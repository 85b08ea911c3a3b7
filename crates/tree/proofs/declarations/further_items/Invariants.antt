use Rattle.std.proofs.Common.{◌-◌, []}
use Rattle.language.specs.Grammar as G
use Rattle.language.specs.Reader.{more_up_to}
use Rattle.tree.specs.Encoding.{encode_items}
use Rattle.tree.proofs.Lists.{Before}
use Rattle.tree.proofs.Loops.{SoFar}
use Rattle.tree.proofs.declarations.further_items.Given as goal

abbrev pub invariant-loop : goal.invariant-loop
invariant-loop l = SoFar (Before encode_items) (more_up_to l.n [] (G.item l.sign)) (more_up_to (l.n - l.counter) [] (G.item l.sign))
    l.initial.s l.s l.n l.initial.a l.a
