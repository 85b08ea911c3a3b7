-- Each turn that goes on did more instructions than the last one that had a full output, or adds to the budget; memory and output keep
-- their lengths.
use Rattle.laws.proofs.Basics.{◌+◌, ◌-◌, ◌≤◌, ◌≡◌, length}
use Rattle.messages.proofs.speaking.Console.carry_on.Given as goal

abbrev pub invariant-loop-registers : goal.invariant-loop-registers
invariant-loop-registers g l =
    (l.allowed ≤ 18446744073709551615) × (l.before ≤ 18446744073709551615) × (length l.memory ≡ length l.initial.memory)
    × (length l.output ≡ length l.initial.output)

abbrev pub decreases-loop-registers : goal.decreases-loop-registers
decreases-loop-registers g l = 18446744073709551615 - l.allowed + (18446744073709551615 - l.before)
