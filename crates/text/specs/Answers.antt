-- What the code's answers say, in the definitions' values and numbers.
use Rattle.std.specs.Prelude.{ℕ, Result, Ok, Err, length}
use Rattle.text.specs.Faults.{number_of}
use Rattle.text.specs.Quoted as Q
use Rattle.text.specs.declared.Character.{Character}
use Rattle.text.specs.declared.Character.TheVariants as C
use Rattle.text.specs.declared.Closed.{Closed}
use Rattle.text.specs.declared.Flaw.{Flaw}
use Rattle.text.specs.declared.Flaw.TheVariants as K

abbrev pub as_written : Character → Q.Character
as_written (C.Is v width) = Q.is v width
as_written C.Closing = Q.closing
as_written C.Ended = Q.ended
as_written (C.Mistake fault) = Q.mistake (number_of fault)

-- a constant with the number of its characters in place of them
pub data Found : Type 0 where
  closed : (characters width : ℕ) → Found
  unclosed : Found
  faulty : (number offset : ℕ) → Found

unfoldable pub counted : Q.Quoted → Found
counted (Q.closed cs width) = closed (length cs) width
counted Q.unclosed = unclosed
counted (Q.faulty number offset) = faulty number offset

abbrev pub found : Result Closed Flaw → Found
found (Ok c) = closed c.characters c.width
found (Err K.Unclosed) = unclosed
found (Err (K.Faulty fault offset)) = faulty (number_of fault) offset
