-- What the code answers for a quotient or a remainder: none where the divisor is zero.
use Rattle.std.specs.Prelude.{ℕ, cond, ◌==◌, Option, Some, None}

abbrev pub divided : ℕ → ℕ → Option ℕ
divided divisor v = cond (divisor == 0) None (Some v)
