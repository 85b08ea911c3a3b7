use Rattle.std.proofs.Common.{◌-◌, []}
use Rattle.laws.proofs.Basics.{eqb}
use Rattle.language.specs.Kinds as K
use Rattle.language.specs.Grammar as G
use Rattle.language.specs.Reader.{many_up_to}
use Rattle.tree.specs.Encoding.{encode_functions}
use Rattle.tree.proofs.Lists.{Before}
use Rattle.tree.proofs.Loops.{SoFar}
use Rattle.tree.proofs.declarations.further_functions.Given as goal

abbrev pub invariant-loop : goal.invariant-loop
invariant-loop l = SoFar (Before encode_functions) (many_up_to l.n [] (λ kind. eqb kind K.AND) G.and_function) (many_up_to (l.n - l.counter) [] (λ kind. eqb kind K.AND) G.and_function)
    l.initial.s l.s l.n l.initial.a l.a
