-- The value of the acts 5 to 19, apart from the registers: what `value` in the code computes.
use Rattle.std.specs.Prelude.{ℕ}
use Rattle.machine.specs.Outcome.{Out, stop}
use Rattle.machine.specs.Acts.{Act, unlisted, indirect, negate, invert, back, finish, switch, rdch, wrch, dyadic}

-- 34 for any other act: the code asks only once the others are told apart
unfoldable pub value_of : Act → ℕ → ℕ → Out ℕ
value_of (dyadic f) b a = f b a
value_of unlisted b a = stop 34
value_of indirect b a = stop 34
value_of negate b a = stop 34
value_of invert b a = stop 34
value_of back b a = stop 34
value_of finish b a = stop 34
value_of switch b a = stop 34
value_of rdch b a = stop 34
value_of wrch b a = stop 34
