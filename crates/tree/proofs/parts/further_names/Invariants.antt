use Rattle.std.proofs.Common.{◌-◌, []}
use Rattle.language.specs.Reader.{many_up_to, is_comma}
use Rattle.tree.specs.Between.{a_further_name}
use Rattle.tree.specs.Encoding.{encode_names}
use Rattle.tree.proofs.Lists.{Before}
use Rattle.tree.proofs.Loops.{SoFar}
use Rattle.tree.proofs.parts.further_names.Given as goal

abbrev pub invariant-loop : goal.invariant-loop
invariant-loop l = SoFar (Before encode_names) (many_up_to l.n [] is_comma a_further_name) (many_up_to (l.n - l.counter) [] is_comma a_further_name)
    l.initial.s l.s l.n l.initial.a l.a
