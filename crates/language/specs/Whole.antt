-- A whole source: all its refusals in 01's order, its functions and strings, and its source run.
use Rattle.std.specs.Prelude.{ℕ, suc, ◌+◌, ◌-◌, cond, List, [], ◌∷◌, length, get_or, set, drop, eqb, leb, ltb}
use Rattle.text.specs.Quoted.{characters_of, quoted}
use Rattle.text.specs.Packed.{pairs}
use Rattle.words.specs.Globals.{no_globals}
use Rattle.language.specs.Kinds.{STRING}
use Rattle.language.specs.Symbols.{Symbol}
use Rattle.language.specs.Source as S
use Rattle.language.specs.Source.{symbols_of, read_source}
use Rattle.language.specs.Resolved.{Fun, Start, nowhere, in_global}
use Rattle.language.specs.Program.{Refused, accepted, refused, rules_refuse, Named, functions_of}
use Rattle.language.specs.State.{Cell, gone, holds, Value, State, Result, finished, ok}
use Rattle.language.specs.Run.{Placement, called, sem}

-- ---- refusals: 1; 15 for scratch; 2 to 5; 6 and 7; 8 to 13; 16; 14; 15 for text

abbrev pub on_read : List ℕ → S.Read → Refused
on_read source (S.read p) = rules_refuse source p
on_read source (S.refused number place) = refused number place

unfoldable pub refusal_of : (source : List ℕ) (scratch : ℕ) → Refused
refusal_of source scratch = on_read source (read_source source scratch)

-- all of them: the compiler supplies its text's length, and is lent room for so many bytes
abbrev pub unless_fits : (size room : ℕ) → Refused → Refused
unless_fits size room (refused number place) = refused number place
unless_fits size room accepted = cond (ltb room size) (refused 15 0) accepted

unfoldable pub refusal_in : (source : List ℕ) (scratch size room : ℕ) → Refused
refusal_in source scratch size room = unless_fits size room (refusal_of source scratch)

-- ---- what a source means: its functions in text order and its strings' characters in text order

unfoldable pub funs : List Named → List Fun
funs [] = []
funs (f ∷ fs) = f.fun ∷ funs fs

abbrev pub on_program : List ℕ → S.Read → List Fun
on_program source (S.read p) = funs (functions_of source p)
on_program source (S.refused number place) = []

unfoldable pub functions_in : List ℕ → List Fun
functions_in source = on_program source (S.parsed source)

unfoldable pub strings_among : List ℕ → List Symbol → List (List ℕ)
strings_among source [] = []
strings_among source (s ∷ ss) =
    cond (eqb s.kind STRING) (characters_of (quoted 34 255 0 (drop (suc s.place) source)) ∷ strings_among source ss) (strings_among source ss)

abbrev pub on_symbols : List ℕ → S.Symbols → List (List ℕ)
on_symbols source (S.good ss) = strings_among source ss
on_symbols source (S.faulty number place) = []

unfoldable pub strings_in : List ℕ → List (List ℕ)
strings_in source = on_symbols source (symbols_of source)

-- ---- the start of the source run

-- globals as under Machine, but functions' entries in theirs
abbrev pub with_entry : Start → (entry : ℕ) → List ℕ → List ℕ
with_entry nowhere entry gs = gs
with_entry (in_global n) entry gs = set gs n entry

unfoldable pub globals_with : List Fun → (entries : List ℕ) → List ℕ → List ℕ
globals_with [] entries gs = gs
globals_with (f ∷ fs) [] gs = gs
globals_with (f ∷ fs) (e ∷ entries) gs = globals_with fs entries (with_entry f.start e gs)

-- strings in place: byte 0 is the length, high half first
unfoldable pub string_cell : List (List ℕ) → (addresses : List ℕ) → ℕ → Cell
string_cell [] addresses b = gone
string_cell (cs ∷ strings) [] b = gone
string_cell (cs ∷ strings) (a ∷ addresses) b =
    cond (leb a b)
    (cond (ltb b (a + length (pairs (length cs) cs))) (holds (get_or (pairs (length cs) cs) (b - a) 0)) (string_cell strings addresses b))
    (string_cell strings addresses b)

unfoldable pub cells_at_start : List Fun → List (List ℕ) → Placement → ℕ → Cell
cells_at_start functions strings place b =
    cond (leb 16 b)
    (cond (ltb b 416) (holds (get_or (globals_with functions place.entries no_globals) (b - 16) 0)) (string_cell strings place.strings b))
    gone

abbrev pub at_start : List Fun → List (List ℕ) → Placement → State
at_start functions strings place = record { cells = cells_at_start functions strings place; taken = 0; output = []; steps = 0; used = 0 }

-- the run calls START, the function in global 1, 2 words above the first stack word, and ends at its return or FINISH
unfoldable pub run_with : (fuel : ℕ) → List Fun → List (List ℕ) → Placement → (memory : ℕ) (input : List ℕ) → Result Value
run_with fuel functions strings place memory input =
    called functions place memory input (sem functions place memory input fuel)
    (get_or (globals_with functions place.entries no_globals) 1 0) (place.first + 2) [] (at_start functions strings place)

-- the run ends, with no undefined act, in a state
pub data Over {A : Type 0} : Result A → State → Type 0 where
  -- START returned; its value, if it has one, is dropped
  by_return : {v : A} {s : State} → Over (ok v s) s
  by_finish : {s : State} → Over (finished s) s

pub record SourceRunEnds (source : List ℕ) (place : Placement) (memory : ℕ) (input : List ℕ) (s : State) : Type 0 where
  pub fuel : ℕ
  pub over : Over (run_with fuel (functions_in source) (strings_in source) place memory input) s
