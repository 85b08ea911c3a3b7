-- What `read_symbols` answers, and what scratch then holds: the symbols, three entries each (kind, value, place), and zeros. A source that is
-- too long, or scratch of fewer than three entries a byte, leaves scratch as it was; a refusal leaves zeros.
use Rattle.std.specs.Prelude.{ℕ, ◌-◌, ◌*◌, ◌≡◌, cond, List, [], ◌∷◌, ◌++◌, length, replicate, ltb, Result, Ok, Err}
use Rattle.text.specs.Faults.{number_of}
use Rattle.text.specs.Line.{line_of}
use Rattle.language.specs.Symbols.{Symbol}
use Rattle.language.specs.Source.{Symbols, good, faulty, symbols_of, too_long}
use Rattle.symbols.specs.declared.Unread.{Unread}
use Rattle.symbols.specs.declared.Unread.TheVariants.{TooLong, TooShort, Refused}

unfoldable pub entries : List Symbol → List ℕ
entries [] = []
entries (s ∷ r) = s.kind ∷ s.value ∷ s.place ∷ entries r

-- the symbols' number, or why there are none
pub data Answer : Type 0 where
  long short : Answer
  read : (count : ℕ) → Answer
  refused : (number place : ℕ) → Answer

abbrev pub answer_of : Result ℕ Unread → Answer
answer_of (Ok count) = read count
answer_of (Err TooLong) = long
answer_of (Err TooShort) = short
answer_of (Err (Refused fault place)) = refused (number_of fault) place

pub record Outcome : Type 0 where
  pub answer : Answer
  pub scratch : List ℕ

abbrev pub outcome : (room : ℕ) → Symbols → Outcome
outcome room (good ss) = record { answer = read (length ss); scratch = entries ss ++ replicate (room - length (entries ss)) 0 }
outcome room (faulty number place) = record { answer = refused number place; scratch = replicate room 0 }

unfoldable pub symbols_read : (text scratch : List ℕ) → Outcome
symbols_read text scratch =
    cond (too_long text) (record { answer = long; scratch = scratch })
    (cond (ltb (length scratch) (length text * 3)) (record { answer = short; scratch = scratch })
    (outcome (length scratch) (symbols_of text)))

-- document 01's numbers of an answer: 1 and 15 with place 0 and line 1; 0, the number of symbols, and no line; or the refusal's number, byte
-- place and line
abbrev pub numbers : (text : List ℕ) → Answer → List ℕ
numbers text long = 1 ∷ 0 ∷ 1 ∷ []
numbers text short = 15 ∷ 0 ∷ 1 ∷ []
numbers text (read count) = 0 ∷ count ∷ 0 ∷ []
numbers text (refused number place) = number ∷ place ∷ line_of text place ∷ []

pub record Reads (text scratch : List ℕ) (answer : Result ℕ Unread) (scratch' : List ℕ) : Type 0 where
  pub answers : answer_of answer ≡ (symbols_read text scratch).answer
  pub tells : numbers text (answer_of answer) ≡ numbers text (symbols_read text scratch).answer
  pub leaves : scratch' ≡ (symbols_read text scratch).scratch
