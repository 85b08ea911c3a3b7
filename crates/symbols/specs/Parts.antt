-- What the parts of `read_symbols` give, beside language's own definitions.
use Rattle.std.specs.Prelude.{ℕ, zero, suc, ◌+◌, ◌*◌, ◌<◌, ◌≤◌, ◌≡◌, Bool, true, not, cond, ◌&&◌, List, [], ◌∷◌, ◌++◌, eqb, length, get_or, take}
use Rattle.std.specs.Prelude.{drop, min, false, Option, Some, None, Result, Ok, Err}
use Rattle.text.specs.Faults as F
use Rattle.language.specs.Source.{symbols_of}
use Rattle.text.specs.Line.{line_of}
use Rattle.language.specs.Symbols.{Symbol, none, fault, Scan, ends, goes_on, scan_from}
use Rattle.language.specs.Brackets as B
use Rattle.language.specs.Brackets.{Matching, matched, unmatched}
use Rattle.language.specs.Semicolons.{ends_line, begins_line, inserted}
use Rattle.symbols.specs.Kinds.{number_of}
use Rattle.symbols.specs.Read.{entries, Answer, read, refused, outcome}
use Rattle.symbols.specs.declared.kinds.Kind.{Kind}
use Rattle.symbols.specs.declared.Found.{Found}
use Rattle.symbols.specs.declared.Faulty.{Faulty}

-- ---- parts of an element

-- a value that may be large: 65,536 stands for all that are larger
abbrev pub capped : ℕ → ℕ
capped n = min n 65536

-- ---- from symbol to symbol

-- what stands next: a symbol, the end, or a fault
abbrev pub Next : Type 0
Next = Result (Option Found) Faulty

-- whether a line ends between two places
abbrev pub broken : List ℕ → (from to : ℕ) → Bool
broken text from to = not (eqb (line_of text from) (line_of text to))

abbrev pub symbol_of : (kind value place : ℕ) → Symbol
symbol_of kind value place = record { kind = kind; value = value; place = place }

-- the scan that goes on from what is found
unfoldable pub scan_by : List ℕ → Next → Scan
scan_by text (Ok (Some f)) = goes_on (symbol_of (number_of f.kind) f.value f.place) (scan_from 0 f.past (drop f.past text))
scan_by text (Ok None) = ends none
scan_by text (Err e) = ends (fault (F.number_of e.fault) e.place)

-- a symbol found from a place on: where it stands, and on what line
pub record Stands (text : List ℕ) (at : ℕ) (f : Found) : Type 0 where
  pub after : at ≤ f.place
  pub some : f.place < f.past
  pub within : f.past ≤ length text
  pub small : f.value ≤ 65535 + f.past
  pub breaks : f.newline ≡ broken text at f.place
  pub line : line_of text f.past ≡ line_of text f.place

unfoldable pub IfOne : List ℕ → ℕ → Next → Type 0
IfOne text at (Ok (Some f)) = Stands text at f
IfOne text at (Ok None) = Unit {0}
IfOne text at (Err e) = Unit {0}

pub record Finds (text : List ℕ) (at : ℕ) (answer : Next) : Type 0 where
  pub scans : scan_from 0 at (drop at text) ≡ scan_by text answer
  pub found : IfOne text at answer

-- ---- the stack of open brackets, the innermost last: whether each is $(

-- the kind that closes a bracket
abbrev pub closer : (block : Bool) → ℕ
closer true = 58
closer false = 52

abbrev pub stacked : List Bool → (depth : ℕ) → List ℕ
stacked s zero = []
stacked s (suc d) = closer (get_or s d false) ∷ stacked s d

abbrev pub wanting : List Bool → (depth : ℕ) → (block : Bool) → Option ℕ
wanting s zero block = None
wanting s (suc d) block = cond (eqb (closer block) (closer (get_or s d false))) (Some d) None

unfoldable pub as_matching : (place : ℕ) → Option ℕ → List Bool → Matching
as_matching place (Some depth) s = matched (stacked s depth)
as_matching place None s = unmatched place

unfoldable pub AtMost : ℕ → Option ℕ → Type 0
AtMost n (Some depth) = depth ≤ n
AtMost n None = Unit {0}

pub record Matches (kind : Kind) (depth : ℕ) (s : List Bool) (answer : Option ℕ) (s' : List Bool) : Type 0 where
  pub same : length s' ≡ length s
  pub gives : (value place : ℕ) → as_matching place answer s' ≡ B.bracket (stacked s depth) (symbol_of (number_of kind) value place)
  pub low : AtMost (depth + 1) answer

-- ---- writing

abbrev pub gain : (before kind : ℕ) (newline : Bool) → Bool
gain before kind newline = ends_line before && (begins_line kind && newline)

-- a symbol and the semicolon before it, if there is one, after `count` others
pub record Writes (count : ℕ) (semicolon : Bool) (kind value place : ℕ) (s : List ℕ) (count' : ℕ) (s' : List ℕ) : Type 0 where
  pub same : length s' ≡ length s
  pub counts : count' ≡ count + cond semicolon 2 1
  pub writes : take (count' * 3) s' ≡ take (count * 3) s ++ entries (inserted semicolon (symbol_of kind value place) (symbol_of kind value place ∷ []))

-- ---- the whole

abbrev pub read_all : Result ℕ Faulty → Answer
read_all (Ok count) = read count
read_all (Err e) = refused (F.number_of e.fault) e.place

-- what the symbols are, or the first fault; scratch has the symbols and zeros where there is none
pub record ReadsAll (text s : List ℕ) (answer : Result ℕ Faulty) (s' : List ℕ) : Type 0 where
  pub same : length s' ≡ length s
  pub answers : read_all answer ≡ (outcome (length s) (symbols_of text)).answer
  pub leaves : (count : ℕ) → answer ≡ Ok count → s' ≡ (outcome (length s) (symbols_of text)).scratch
