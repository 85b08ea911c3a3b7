-- The globals' words at the start of a run, before any function is put into them (document 01, "Start").
use Rattle.std.specs.Prelude.{ℕ, List, replicate, slice_set}

-- globals 0 to 399: zero, but 13 holds 3 and 14 holds 5
unfoldable pub no_globals : List ℕ
no_globals = slice_set (slice_set (replicate 400 0) 13 3) 14 5
