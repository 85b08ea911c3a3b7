-- What `compile` answers and leaves, for every source, scratch and text.
use Rattle.std.specs.Prelude.{Err, Ok, Result}
use Rattle.std.specs.Prelude.{ℕ, suc, ◌+◌, ◌*◌, ◌-◌, ◌/◌, ◌%◌, ◌≤◌, ◌^◌, ◌≡◌, cond, List, [], ◌∷◌, ◌++◌, length, get_or, replicate, take, eqb, ltb}
use Rattle.text.specs.Line.{refusal}
use Rattle.language.specs.Symbols.{Symbol}
use Rattle.language.specs.Source.{symbols_of, good}
use Rattle.language.specs.Reader.{ok}
use Rattle.language.specs.Grammar.{tree_of}
use Rattle.language.specs.Tree.{Program}
use Rattle.language.specs.Resolved.{Fun}
use Rattle.language.specs.Whole.{refusal_in, strings_among}
use Rattle.symbols.specs.Read.{entries, outcome}
use Rattle.tree.specs.Encoding.{encode_program}
use Rattle.tree.specs.Read.{padded}
use Rattle.writing.specs.Text.{Appends, lines}
use Rattle.language.specs.Program.{Refused, accepted, refused}
use Rattle.code.specs.Faithful.{Faithful}
use Rattle.code.specs.Placed.{Proper}
use Rattle.code.specs.Generate.{text_of, strings_code, starts_code}
use Rattle.compiler.specs.Groups.{Starting}
use Rattle.compiler.specs.Programs.{starts_of}
use Rattle.text.specs.declared.Refusal.{Refusal}

-- all refusals in document 01's order, with so many entries of scratch and room for so many bytes of text
unfoldable pub decided : (source : List ℕ) (scratch room : ℕ) → Refused
decided source scratch room = refusal_in source scratch (length (text_of source)) room

-- the text's length; or the refusal's number, place and line
abbrev pub answer_of : (source : List ℕ) → Refused → Result ℕ Refusal
answer_of source accepted = Ok (length (text_of source))
answer_of source (refused number place) = Err (refusal source number place)

-- the text, and zeros behind it; zeros where the source is refused
abbrev pub text_after : (source : List ℕ) (room : ℕ) → Refused → List ℕ
text_after source room accepted = text_of source ++ replicate (room - length (text_of source)) 0
text_after source room (refused number place) = replicate room 0

pub record Compiles (source scratch scratch' text text' : List ℕ) (answer : Result ℕ Refusal) : Type 0 where
  pub answers : answer ≡ answer_of source (decided source (length scratch) (length text))
  pub clears : scratch' ≡ replicate (length scratch) 0
  pub writes : text' ≡ text_after source (length text) (decided source (length scratch) (length text))
  -- demand 3, and the rules on the text
  pub faithful : decided source (length scratch) (length text) ≡ accepted → Faithful source (text_of source)
  pub proper : decided source (length scratch) (length text) ≡ accepted → Proper source (text_of source)

-- ---- before what is behind the text is cleared

-- the text stands at the front of its room
abbrev pub Begins : (source text' : List ℕ) → Refused → Type 0
Begins source text' accepted = (take (length (text_of source)) text' ≡ text_of source) × (length (text_of source) ≤ length text')
Begins source text' (refused number place) = Unit {0}

pub record Translates (source scratch scratch' text text' : List ℕ) (answer : Result ℕ Refusal) : Type 0 where
  pub answers : answer ≡ answer_of source (decided source (length scratch) (length text))
  pub clears : scratch' ≡ replicate (length scratch) 0
  pub begins : Begins source text' (decided source (length scratch) (length text))

-- scratch is zeros from that entry on
pub record Clean (used : ℕ) (s : List ℕ) : Type 0 where
  pub zeros : (i : ℕ) → used ≤ i → get_or s i 0 ≡ 0

-- the source is not too long, and scratch not too short
pub record Serves (source scratch : List ℕ) : Type 0 where
  pub short : length source ≤ 16384
  pub long : length source * 8 + 64 ≤ length scratch

-- what scratch of the length asked for holds: nothing yet, the symbols, the symbols and the tree
pub record Lent (source : List ℕ) (scratch : ℕ) : Type 0 where
  pub short : length source ≤ 16384
  pub asked : scratch ≡ 8 * length source + 64

pub record ReadySymbols (source s : List ℕ) (count : ℕ) : Type 0 where
  pub lent : Lent source (length s)
  pub symbols : List Symbol
  pub reads : symbols_of source ≡ good symbols
  pub counts : count ≡ length symbols
  pub stand : s ≡ (outcome (length s) (good symbols)).scratch

pub record ReadyTree (source s : List ℕ) (count end : ℕ) : Type 0 where
  pub lent : Lent source (length s)
  pub symbols : List Symbol
  pub program : Program
  pub next : ℕ
  pub reads : symbols_of source ≡ good symbols
  pub parses : tree_of (record { symbols = symbols; size = length source }) ≡ ok program next
  pub counts : count ≡ length symbols
  pub stand : s ≡ padded (length s) (entries symbols ++ encode_program program)
  pub ends : end ≡ count * 3 + length (encode_program program)
  pub room : end ≤ count * 8

-- so many symbols may have been read again: what was zeros behind them still is
pub record StaysClean (source s s' : List ℕ) (count : ℕ) : Type 0 where
  pub by : (symbols : List Symbol) → symbols_of source ≡ good symbols → count ≡ length symbols
      → {used : ℕ} → count * 3 ≤ used → Clean used s → Clean used s'

-- the strings of a source, so many
pub record AllStrings (source s s' : List ℕ) (count names first at at' : ℕ) (t t' : List ℕ) : Type 0 where
  pub clean : StaysClean source s s' count
  pub by : (symbols : List Symbol) → symbols_of source ≡ good symbols → count ≡ length symbols → names ≡ length (strings_among source symbols)
      → Appends (lines (strings_code first (strings_among source symbols))) at at' t t'

-- what follows the functions: strings, globals in which functions start, and `Z`
pub record Behind (source s s' : List ℕ) (count names functions : ℕ) (table : List ℕ) (at at' : ℕ) (t t' : List ℕ) : Type 0 where
  pub clean : StaysClean source s s' count
  pub by : (symbols : List Symbol) (fs : List Fun) → symbols_of source ≡ good symbols → count ≡ length symbols
      → names ≡ length (strings_among source symbols) → length table ≡ 400 → functions ≡ length fs → Starting table (starts_of fs)
      → Appends (lines (strings_code (suc functions) (strings_among source symbols) ++ starts_code 1 fs) ++ (90 ∷ 10 ∷ [])) at at' t t'

-- a key above all refusals'
abbrev pub NONE : ℕ
NONE = 2 ^ 37

-- the answer by the least keys of 8 to 13 and of 16, the label of START, and the end of the text
unfoldable pub by_keys : (source : List ℕ) (worst tall start at room : ℕ) → Result ℕ Refusal
by_keys source worst tall start at room =
    cond (ltb worst NONE) (Err (refusal source (worst % 32) (worst / 32)))
    (cond (ltb tall NONE) (Err (refusal source (tall % 32) (tall / 32)))
    (cond (eqb start 0) (Err (refusal source 14 0))
    (cond (ltb room at) (Err (refusal source 15 0)) (Ok at))))
