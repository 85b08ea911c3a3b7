use Rattle.laws.proofs.Basics.{[]}
use Rattle.compiler.specs.Walked.{Emits}
use Rattle.compiler.specs.Repeats.{tops_code}
use Rattle.compiler.proofs.steps.tops.Given as goal

abbrev pub invariant-loop-i : goal.invariant-loop-i
invariant-loop-i l = Emits (tops_code l.first l.i) [] l.fn.text l.text l.initial.r l.r
