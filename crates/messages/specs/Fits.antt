-- A number of bytes read is within the buffer.
use Rattle.std.specs.Prelude.{ℕ, ◌≤◌, List, length, Option, Some, None}

abbrev pub FitsBy : Option ℕ → List ℕ → Type 0
FitsBy (Some n) buffer = n ≤ length buffer
FitsBy None buffer = Unit {0}

pub record Fits (answer : Option ℕ) (buffer : List ℕ) : Type 0 where
  pub by : FitsBy answer buffer
