use Rattle.std.proofs.Common.{◌-◌, length}
use Rattle.symbols.specs.Kinds.{number_or}
use Rattle.symbols.proofs.Matching.{Going}
use Rattle.symbols.proofs.Writing.{Putting}
use Rattle.symbols.proofs.read_all.Given as goal

abbrev pub invariant-loop-found : goal.invariant-loop-found
invariant-loop-found l = record {
  brackets : Going l.text l.initial.stack l.at l.depth l.stack;
  written : Putting l.text l.initial.scratch l.at l.count (number_or l.before) l.strings l.scratch;
}

abbrev pub decreases-loop-found : goal.decreases-loop-found
decreases-loop-found l = length l.text - l.at
