-- The laws of all runs (`Fuel`, `Limits`, `Held`) at one program, which writes a global and a word of its string.
use Rattle.laws.proofs.Basics.{ℕ, ◌+◌, ◌<◌, ◌≡◌, refl, subst, List, [], ◌∷◌, arith}
use Rattle.text.specs.Written.{bytes}
use Rattle.text.specs.Packed.{pairs}
use Rattle.words.specs.Globals.{no_globals}
use Rattle.language.specs.Names.{same_bytes, lookup}
use Rattle.language.specs.Constants.{judge}
use Rattle.language.specs.Resolve as R
use Rattle.language.specs.Resolve.{declare_all, side_of, scope_after}
use Rattle.language.specs.Heights as H
use Rattle.language.specs.Program.{globals_after, functions_after, declared_by, resolved, after_declaration, group_of, functions_from, functions_of}
use Rattle.language.specs.State.{holds, Value, State, Result, unfinished, undefined, finished, returned, ok, bind}
use Rattle.language.specs.Run.{Placement, position_of, called, evaluated, assigned, assigned_all, sequence, declared, executed, sem}
use Rattle.language.specs.Whole.{funs, functions_in, strings_among, strings_in, globals_with, string_cell, cells_at_start, at_start, run_with}
use Rattle.language.specs.Whole.{by_return}
use Rattle.language.specs.Whole.{SourceRunEnds}
use Rattle.language.proofs.Texts.{answer}
use Rattle.language.proofs.Runs.{Held}
use Rattle.language.proofs.Fuel.{more-fuel, one_end}
use Rattle.language.proofs.Limits.{over-within}
use Rattle.language.proofs.Held.{ended-globals, ended-strings}

abbrev text : List ℕ
text = bytes "GLOBAL $( START:1; A:20 $) LET START() BE $( A := \"AB\"; A!1 := 7 $)"

abbrev place : Placement
place = record { entries = 1000 ∷ []; strings = 2000 ∷ []; first = 20000 }

-- the state that a run is over in
abbrev state_of : Result Value → State → State
state_of = elim [ unfinished ↦ λ other. other | undefined ↦ λ other. other | finished s ↦ λ other. s | returned s ↦ λ other. s | ok v s ↦ λ other. s ]

end : State
end = state_of (run_with 20 (functions_in text) (strings_in text) place 32768 []) (at_start [] [] place)

abbrev IsOver : Result Value → Type 0
IsOver = elim [ unfinished ↦ ⊥ | undefined ↦ ⊥ | finished s ↦ Unit {0} | returned s ↦ ⊥ | ok v s ↦ Unit {0} ]

-- what is computed
record Computed : Type 0 where
  ends : SourceRunEnds text place 32768 [] end
  over : run_with 20 (functions_in text) (strings_in text) place 32768 [] ≡ unfinished → ⊥
  strings : strings_in text ≡ (65 ∷ 66 ∷ []) ∷ []
  stored : end.cells 2001 ≡ holds 7
  used : end.used ≡ 20006

computed : Computed
unfolding end answer same_bytes lookup judge declare_all side_of scope_after R.expression H.height_with globals_after functions_after declared_by resolved
    after_declaration group_of functions_from functions_of funs functions_in strings_among strings_in globals_with string_cell cells_at_start run_with bind
    position_of called evaluated assigned assigned_all sequence declared executed sem no_globals pairs
computed = record { ends = record { fuel = 20; over = by_return }; over = λ e. subst IsOver e tt; strings = refl; stored = refl; used = refl }

-- with any more fuel the run is the same
any-more : (k : ℕ)
    → run_with (20 + k) (functions_in text) (strings_in text) place 32768 [] ≡ run_with 20 (functions_in text) (strings_in text) place 32768 []
any-more k = more-fuel 20 k (functions_in text) (strings_in text) place 32768 [] computed.over

-- wherever this source's run ends, the second word of its string holds 7
only_end : (s : State) → SourceRunEnds text place 32768 [] s → s.cells 2001 ≡ holds 7
only_end s e = rw (one_end e computed.ends) computed.stored

-- it ends alike in a memory of the 20,006 words that it uses
within : SourceRunEnds text place 20006 [] end
within = record {
  fuel = computed.ends.fuel;
  over = over-within 20006 (functions_in text) place 32768 (omega arith) [] computed.ends.fuel (strings_in text) computed.ends.over
      (omega (arith, computed.used));
}

-- all globals hold values, and both words of the string
globals-held : (n : ℕ) → n < 400 → Held (end.cells (16 + n))
globals-held n l =
    ended-globals (functions_in text) (strings_in text) place 32768 [] computed.ends.fuel end computed.ends.over n l (omega arith)

string-held : (i : ℕ) → i < 2 → Held (end.cells (2000 + i))
unfolding pairs
string-held i l = ended-strings (functions_in text) (strings_in text) place 32768 [] computed.ends.fuel end computed.ends.over 0 i
    (rw computed.strings (omega arith)) (rw computed.strings refl) (rw computed.strings (omega arith)) (omega arith) (omega arith)
