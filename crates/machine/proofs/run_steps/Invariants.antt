use Rattle.machine.specs.State.{at}
use Rattle.machine.proofs.Runs.{Left}
use Rattle.machine.proofs.run_steps.Given as goal

-- the whole run is what is left of it, after the instructions done
abbrev pub invariant-loop-left : goal.invariant-loop-left
invariant-loop-left l = Left l.input l.budget (at l.fn.start l.fn.memory l.fn.output) l.left (at l.r l.memory l.output)

abbrev pub decreases-loop-left : goal.decreases-loop-left
decreases-loop-left l = l.left
