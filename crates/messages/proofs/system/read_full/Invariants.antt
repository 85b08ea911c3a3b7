-- What was read is within the buffer, and what is left of it falls at each turn.
use Rattle.laws.proofs.Basics.{◌-◌, ◌≤◌, length}
use Rattle.messages.proofs.system.read_full.Given as goal

abbrev pub invariant-loop-done : goal.invariant-loop-done
invariant-loop-done g l = l.done ≤ length l.buffer

abbrev pub decreases-loop-done : goal.decreases-loop-done
decreases-loop-done g l = length l.buffer - l.done
