use Rattle.std.proofs.Common.{◌-◌, length}
use Rattle.symbols.proofs.Scanning.{Seeking}
use Rattle.symbols.proofs.next_symbol.Given as goal

abbrev pub invariant-loop-place : goal.invariant-loop-place
invariant-loop-place l = Seeking l.text l.at l.place l.newline

abbrev pub decreases-loop-place : goal.decreases-loop-place
decreases-loop-place l = length l.text - l.place
