-- Parts of what is read between quotes, of which contracts speak.
use Rattle.std.specs.Prelude.{ℕ, ◌+◌, Option, Some, None, Bool, true, false}
use Rattle.text.specs.Quoted.{Character, is, closing, ended, mistake, Quoted, closed, unclosed, faulty}

-- a character's value; 0 where there is none
abbrev pub value_of : Character → ℕ
value_of (is v width) = v
value_of closing = 0
value_of ended = 0
value_of (mistake number) = 0

-- a character's value, if there is one
abbrev pub value_if : Character → Option ℕ
value_if (is v width) = Some v
value_if closing = None
value_if ended = None
value_if (mistake number) = None

-- whether the closing quote comes, with a fault before it or not
abbrev pub is_closed : Quoted → Bool
is_closed (closed cs n) = true
is_closed unclosed = false
is_closed (faulty k n) = true

-- with k bytes in front
abbrev pub widened : ℕ → Quoted → Quoted
widened k (closed cs n) = closed cs (k + n)
widened k unclosed = unclosed
widened k (faulty number n) = faulty number (k + n)
