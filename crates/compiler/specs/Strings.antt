-- What is written behind the functions: the strings, and the globals in which functions start.
use Rattle.std.specs.Prelude.{ℕ, suc, ◌<◌, ◌≡◌, cond, List, [], ◌∷◌, length, get_or, drop, eqb, Option, Some, None}
use Rattle.items.specs.Item as I
use Rattle.items.specs.Render.{plain_text, character_text, characters_text}
use Rattle.text.specs.Quoted.{closed, characters_of, quoted}
use Rattle.language.specs.Kinds.{STRING}
use Rattle.language.specs.Symbols.{Symbol}
use Rattle.language.specs.Resolved.{Fun, Start, in_global}
use Rattle.language.specs.Whole.{strings_among}
use Rattle.code.specs.Generate.{strings_code, start_in, starts_code}
use Rattle.tree.specs.Read.{decoded}
use Rattle.writing.specs.Text.{Appends, line, lines}
use Rattle.compiler.specs.Groups.{Starting}
use Rattle.compiler.specs.Programs.{starts_of}

-- how many of the symbols are strings
unfoldable pub string_count : List Symbol → ℕ
string_count [] = 0
string_count (s ∷ ss) = cond (eqb s.kind STRING) (suc (string_count ss)) (string_count ss)

-- what one symbol adds to that count
unfoldable pub one_if : (kind : ℕ) → ℕ
one_if kind = cond (eqb kind STRING) 1 0

-- every string ends
pub record Ends (source : List ℕ) (place : ℕ) : Type 0 where
  pub characters : List ℕ
  pub width : ℕ
  pub closes : quoted 34 255 0 (drop (suc place) source) ≡ closed characters width

pub data AllEnd (source : List ℕ) : List Symbol → Type 0 where
  no_symbol : AllEnd source []
  and_symbol : {s : Symbol} {ss : List Symbol} → (s.kind ≡ STRING → Ends source s.place) → AllEnd source ss → AllEnd source (s ∷ ss)

-- e is the byte after the asterisk of c's escape, or 0
pub record Escapes (c e : ℕ) : Type 0 where
  pub plain : e ≡ 0 → character_text c ≡ plain_text c
  pub starred : (e ≡ 0 → ⊥) → character_text c ≡ 42 ∷ e ∷ []

-- the characters from a place on
pub record WritesCharacters (source : List ℕ) (from at at' : ℕ) (t t' : List ℕ) : Type 0 where
  pub by : (cs : List ℕ) (width : ℕ) → quoted 34 255 0 (drop from source) ≡ closed cs width → Appends (characters_text cs) at at' t t'

pub record WritesString (source : List ℕ) (place at at' : ℕ) (t t' : List ℕ) : Type 0 where
  pub by : (e : Ends source place) → Appends (line (I.string e.characters)) at at' t t'

-- the items of one symbol
unfoldable pub symbol_code : (source : List ℕ) (kind place label : ℕ) → List I.Item
symbol_code source kind place label =
    cond (eqb kind STRING) (I.label label ∷ I.string (characters_of (quoted 34 255 0 (drop (suc place) source))) ∷ []) []

pub record WritesSymbol (source : List ℕ) (kind place label at at' : ℕ) (t t' : List ℕ) : Type 0 where
  pub by : (kind ≡ STRING → Ends source place) → Appends (lines (symbol_code source kind place label)) at at' t t'

-- the strings of so many symbols in scratch, labelled from `label` on
pub record WritesStrings (source s : List ℕ) (count label at at' : ℕ) (t t' : List ℕ) : Type 0 where
  pub by : AllEnd source (decoded count s) → Appends (lines (strings_code label (strings_among source (decoded count s)))) at at' t t'

-- the global whose entry is a label, if there is one
pub record FindsGlobal (table : List ℕ) (label : ℕ) (r : Option ℕ) : Type 0 where
  pub is : (n : ℕ) → r ≡ Some n → (n < 400) × (get_or table n 0 ≡ label)
  pub none : r ≡ None → (m : ℕ) → m < 400 → get_or table m 0 ≡ label → ⊥

-- a function's start, by its label
pub record StartsAt (table : List ℕ) (label : ℕ) (start : Start) : Type 0 where
  pub is : (n : ℕ) → n < 400 → get_or table n 0 ≡ label → start ≡ in_global n
  pub has : (n : ℕ) → start ≡ in_global n → (n < 400) × (get_or table n 0 ≡ label)

pub record WritesStart (table : List ℕ) (label at at' : ℕ) (t t' : List ℕ) : Type 0 where
  pub by : (start : Start) → StartsAt table label start → Appends (lines (start_in start label [])) at at' t t'

-- the globals in which functions start, in the functions' order
pub record WritesStarts (table : List ℕ) (functions at at' : ℕ) (t t' : List ℕ) : Type 0 where
  pub by : (fs : List Fun) → length table ≡ 400 → functions ≡ length fs → Starting table (starts_of fs) → Appends (lines (starts_code 1 fs)) at at' t t'
