-- What `read_tree` answers, and what scratch then holds: the symbols, after them the tree (`Encoding`) if there is one, and zeros behind.
-- Scratch that is too short, or longer than an entry can count, stays as it was.
use Rattle.std.specs.Prelude.{ℕ, zero, suc, ◌+◌, ◌-◌, ◌*◌, ◌≤◌, ◌^◌, ◌≡◌, Bool, true, cond, List, [], ◌∷◌, ◌++◌, length, get_or, take, drop}
use Rattle.std.specs.Prelude.{replicate, ltb, Result, Ok, Err}
use Rattle.language.specs.Symbols.{Symbol}
use Rattle.language.specs.Reader.{Source, Out, ok, no, place_at}
use Rattle.language.specs.Tree.{Program}
use Rattle.language.specs.Grammar.{tree_of}
use Rattle.tree.specs.Encoding.{encode_program}
use Rattle.text.specs.Faults.{number_of}
use Rattle.tree.specs.declared.Unparsed.{Unparsed}
use Rattle.tree.specs.declared.Unparsed.TheVariants.{TooShort, Refused}

-- so many symbols, three entries each: kind, value, place
unfoldable pub decoded : (count : ℕ) → List ℕ → List Symbol
decoded zero s = []
decoded (suc n) s = record { kind = get_or s 0 0; value = get_or s 1 0; place = get_or s 2 0 } ∷ decoded n (drop 3 s)

-- the source that scratch holds, of a text of that length
unfoldable pub source_in : (scratch : List ℕ) → (count size : ℕ) → Source
source_in scratch count size = record { symbols = decoded count scratch; size = size }

-- eight entries a symbol and 64 are enough for the symbols and the tree
unfoldable pub too_short : (room count : ℕ) → Bool
too_short room count = cond (ltb room (count * 8 + 64)) true (ltb (2 ^ 32 - 1) room)

-- the tree's end, or why there is none
pub data Answer : Type 0 where
  short : Answer
  read : (end : ℕ) → Answer
  refused : (number place : ℕ) → Answer

abbrev pub answer_of : Result ℕ Unparsed → Answer
answer_of (Ok end) = read end
answer_of (Err TooShort) = short
answer_of (Err (Refused fault place)) = refused (number_of fault) place

abbrev pub answer_by : Source → (count : ℕ) → Out Program → Answer
answer_by src count (ok p next) = read (count * 3 + length (encode_program p))
answer_by src count (no number at) = refused number (place_at src at)

-- document 01's number, and the value with it: 0 and the tree's end; a refusal's number and place; 15 where scratch does not serve
pub record Numbers : Type 0 where
  pub number : ℕ
  pub value : ℕ

abbrev pub numbers_of : Answer → Numbers
numbers_of (read end) = record { number = 0; value = end }
numbers_of (refused number place) = record { number = number; value = place }
numbers_of short = record { number = 15; value = 0 }

abbrev pub numbers_by : Source → (count : ℕ) → Out Program → Numbers
numbers_by src count (ok p next) = record { number = 0; value = count * 3 + length (encode_program p) }
numbers_by src count (no number at) = record { number = number; value = place_at src at }

unfoldable pub tree_numbers : (scratch : List ℕ) → (count size : ℕ) → Numbers
tree_numbers scratch count size =
    cond (too_short (length scratch) count) (numbers_of short) (numbers_by (source_in scratch count size) count (tree_of (source_in scratch count size)))

unfoldable pub tree_read : (scratch : List ℕ) → (count size : ℕ) → Answer
tree_read scratch count size =
    cond (too_short (length scratch) count) short (answer_by (source_in scratch count size) count (tree_of (source_in scratch count size)))

-- these entries, and zeros up to so many
abbrev pub padded : (room : ℕ) → List ℕ → List ℕ
padded room w = w ++ replicate (room - length w) 0

abbrev pub left_by : (count : ℕ) → (scratch : List ℕ) → Out Program → List ℕ
left_by count s (ok p next) = padded (length s) (take (count * 3) s ++ encode_program p)
left_by count s (no number at) = padded (length s) (take (count * 3) s)

-- what scratch holds at the end
unfoldable pub tree_left : (scratch : List ℕ) → (count size : ℕ) → List ℕ
tree_left scratch count size =
    cond (too_short (length scratch) count) scratch (left_by count scratch (tree_of (source_in scratch count size)))

-- symbols and tree together take at most eight entries a symbol
abbrev pub Within : (most : ℕ) → Answer → Type 0
Within most short = Unit {0}
Within most (read end) = end ≤ most
Within most (refused number place) = Unit {0}

pub record ReadsTree (scratch : List ℕ) (count size : ℕ) (answer : Result ℕ Unparsed) (scratch' : List ℕ) : Type 0 where
  pub answers : answer_of answer ≡ tree_read scratch count size
  pub numbers : numbers_of (answer_of answer) ≡ tree_numbers scratch count size
  pub leaves : scratch' ≡ tree_left scratch count size
  pub room : Within (count * 8) (answer_of answer)
