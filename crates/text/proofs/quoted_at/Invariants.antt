use Rattle.std.proofs.Common.{◌+◌, ◌-◌, ◌≤◌, ◌≡◌, drop, length}
use Rattle.text.specs.Quoted.{quoted}
use Rattle.text.specs.Answers.{counted}
use Rattle.text.proofs.Constants.{added}
use Rattle.text.proofs.quoted_at.Given as goal

abbrev pub invariant-loop-width : goal.invariant-loop-width
invariant-loop-width l = record {
  few : l.characters ≤ l.room;
  inside : l.at + l.characters ≤ l.i;
  rest : counted (quoted l.quote l.room 0 (drop l.at l.text))
      ≡ added l.characters (l.i - l.at) (counted (quoted l.quote (l.room - l.characters) 0 (drop l.i l.text)));
}

abbrev pub decreases-loop-width : goal.decreases-loop-width
decreases-loop-width l = length l.text - l.i
