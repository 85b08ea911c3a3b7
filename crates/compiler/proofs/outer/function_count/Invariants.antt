use Rattle.laws.proofs.Basics.{◌-◌, ◌≤◌}
use Rattle.compiler.proofs.FunctionCounts.{Counted}
use Rattle.compiler.proofs.outer.function_count.Given as goal

abbrev pub invariant-loop-at : goal.invariant-loop-at
invariant-loop-at l = (l.n ≤ l.at) × Counted l.s l.from l.end l.at l.n

abbrev pub decreases-loop-at : goal.decreases-loop-at
decreases-loop-at l = l.end - l.at
