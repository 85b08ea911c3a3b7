-- From a source to its symbols and its tree, in the order of the refusals (document 01, "Refusal numbers": 1; 15 for scratch; 2 to 5
-- over the whole text; 6 and 7).
use Rattle.std.specs.Prelude.{ℕ, ◌+◌, ◌*◌, Bool, cond, List, [], length, ltb}
use Rattle.language.specs.Symbols.{Symbol, Fault, none, fault, scan}
use Rattle.language.specs.Brackets.{first_fault, brackets}
use Rattle.language.specs.Strings.{numbered}
use Rattle.language.specs.Semicolons.{semicolons}
use Rattle.language.specs.Tree.{Program}
use Rattle.language.specs.Reader.{Source, Out, ok, no, place_at}
use Rattle.language.specs.Grammar.{tree_of}

-- a text's symbols, or its refusal
pub data Symbols : Type 0 where
  good : List Symbol → Symbols
  faulty : (number place : ℕ) → Symbols

abbrev pub on_fault : Fault → List Symbol → Symbols
on_fault none ss = good ss
on_fault (fault number place) ss = faulty number place

unfoldable pub symbols_of : List ℕ → Symbols
symbols_of text =
    on_fault (first_fault (length text) (brackets [] (scan text).symbols) (scan text).ending) (semicolons text (numbered 0 (scan text).symbols))

-- source is at most 16,384 bytes
unfoldable pub too_long : List ℕ → Bool
too_long text = ltb 16384 (length text)

-- the scratch is under eight entries a source byte plus 64
unfoldable pub scratch_too_short : List ℕ → (scratch : ℕ) → Bool
scratch_too_short text scratch = ltb scratch (8 * length text + 64)

-- a program, or its refusal by one of 1 to 7 or by 15 for scratch
pub data Read : Type 0 where
  read : Program → Read
  refused : (number place : ℕ) → Read

-- the place is that of the symbol refused
abbrev pub on_tree : Source → Out Program → Read
on_tree s (ok p next) = read p
on_tree s (no number at) = refused number (place_at s at)

unfoldable pub read_symbols : Source → Read
read_symbols s = on_tree s (tree_of s)

abbrev pub on_symbols : (size : ℕ) → Symbols → Read
on_symbols size (good symbols) = read_symbols (record { symbols = symbols; size = size })
on_symbols size (faulty number place) = refused number place

unfoldable pub parsed : List ℕ → Read
parsed text = on_symbols (length text) (symbols_of text)

-- for 1 and 15 the place is 0
unfoldable pub read_source : List ℕ → (scratch : ℕ) → Read
read_source text scratch =
    cond (too_long text) (refused 1 0)
    (cond (scratch_too_short text scratch) (refused 15 0)
    (parsed text))
