use Rattle.std.proofs.Common.{◌-◌, []}
use Rattle.language.specs.Reader.{many_up_to}
use Rattle.language.specs.Binding.{is_label}
use Rattle.language.specs.Commands as C
use Rattle.language.specs.Grammar.{within}
use Rattle.tree.specs.Encoding.{encode_labels}
use Rattle.tree.proofs.Lists.{Before}
use Rattle.tree.proofs.Loops.{SoFar}
use Rattle.tree.proofs.parts.labels.Given as goal

abbrev pub invariant-loop : goal.invariant-loop
invariant-loop l = SoFar (Before encode_labels) (many_up_to (l.n - 1) [] is_label (C.label (within l.levels))) (many_up_to (l.n - l.counter) [] is_label (C.label (within l.levels)))
    l.initial.s l.s l.n l.initial.a l.a
