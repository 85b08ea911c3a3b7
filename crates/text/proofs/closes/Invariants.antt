use Rattle.std.proofs.Common.{◌-◌, ◌≡◌, drop, length}
use Rattle.text.specs.Quoted.{quoted}
use Rattle.text.specs.Parts.{is_closed}
use Rattle.text.proofs.closes.Given as goal

abbrev pub invariant-loop-width : goal.invariant-loop-width
invariant-loop-width l = is_closed (quoted l.quote 0 0 (drop l.at l.text)) ≡ is_closed (quoted l.quote 0 0 (drop l.i l.text))

abbrev pub decreases-loop-width : goal.decreases-loop-width
decreases-loop-width l = length l.text - l.i
