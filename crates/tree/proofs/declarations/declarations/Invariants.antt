use Rattle.std.proofs.Common.{◌-◌, []}
use Rattle.language.specs.Binding.{is_declaration}
use Rattle.language.specs.Grammar as G
use Rattle.language.specs.Reader.{many_up_to}
use Rattle.tree.specs.Encoding.{encode_program}
use Rattle.tree.proofs.Lists.{Before}
use Rattle.tree.proofs.Loops.{SoFar}
use Rattle.tree.proofs.declarations.declarations.Given as goal

abbrev pub invariant-loop : goal.invariant-loop
invariant-loop l = SoFar (Before encode_program) (many_up_to l.n [] is_declaration G.declared) (many_up_to (l.n - l.counter) [] is_declaration G.declared)
    l.initial.s l.s l.n l.initial.a l.a
