-- Whole texts as they are written, for the examples: their refusals and their source runs.
use Rattle.laws.proofs.Basics.{ℕ, ◌+◌, ◌≡◌, refl, List, [], ◌∷◌}
use Prim.Native.String.{String}
use Rattle.text.specs.Written.{bytes}
use Rattle.language.specs.Tree.{place_of}
use Rattle.language.specs.Names.{same_bytes, lookup, in_block}
use Rattle.language.specs.Constants.{judge}
use Rattle.language.specs.Resolve as R
use Rattle.language.specs.Resolve.{declare_all, side_of, under, scope_after, labels_of}
use Rattle.language.specs.Faults.{twice, misplaced, doubled, in_expression}
use Rattle.language.specs.Heights as H
use Rattle.language.specs.Heights.{greatest, largest_height, heights_of}
use Rattle.language.specs.Program.{Refused, accepted, refused, globals_after, manifests_after, functions_after, declared_by, resolved}
use Rattle.language.specs.Program.{function_faults, global_faults, manifest_faults, taken_after, after_declaration, among, group_name_faults}
use Rattle.language.specs.Program.{group_faults, group_of, faults_from, functions_from, faults_of_program, functions_of, height_faults, has_start}
use Rattle.language.specs.Program.{least_from, rules_refuse}
use Rattle.language.specs.Resolved.{has_case, has_default, Fun}
use Rattle.language.specs.Operators.{apply_monadic, apply_dyadic}
use Rattle.language.specs.State.{Value, State, Result, unfinished, undefined, finished, returned, ok, bind}
use Rattle.language.specs.Run.{Placement, from, selected, nth, position_of, called, arguments, evaluated, assigned, assigned_all, sequence, cases}
use Rattle.language.specs.Run.{declared, executed, turned, sem}
use Rattle.language.specs.Whole.{refusal_of, on_read, funs, functions_in, strings_among, strings_in, globals_with, string_cell, cells_at_start}
use Rattle.language.specs.Whole.{run_with}
use Rattle.words.specs.Words.{value, word_of, mul, quot, rem, below, shl, shr}
use Rattle.text.specs.Packed.{pairs}
use Rattle.words.specs.Globals.{no_globals}
use Rattle.language.proofs.Texts.{answer}

abbrev number_and_place : Refused → ℕ × ℕ
number_and_place accepted = (0, 0)
number_and_place (refused number place) = (number, place)

-- a text's refusal, with scratch enough for any text: its number and place, or 0 and 0
unfoldable pub judged_bytes : List ℕ → ℕ × ℕ
unfolding answer place_of same_bytes lookup in_block judge declare_all side_of under scope_after R.height_after labels_of R.expression twice misplaced has_case
    has_default among doubled in_expression H.count H.height_with H.of_expr heights_of greatest largest_height globals_after manifests_after functions_after
    declared_by resolved function_faults global_faults manifest_faults taken_after after_declaration group_name_faults group_faults group_of faults_from
    functions_from faults_of_program functions_of height_faults has_start least_from rules_refuse
judged_bytes text = number_and_place (on_read text (answer text))

unfoldable pub judged : String → ℕ × ℕ
unfolding judged_bytes
judged text = judged_bytes (bytes text)

-- ---- source runs, with functions' entries from 1000 on, strings from 2000 on, each with room for the longest, and the stack from 20,000 on

unfoldable every_from : {A : Type 0} (first apart : ℕ) → List A → List ℕ
every_from first apart [] = []
every_from first apart (x ∷ xs) = first ∷ every_from (first + apart) apart xs

unfoldable placed : List Fun → List (List ℕ) → Placement
unfolding every_from
placed functions strings = record { entries = every_from 1000 1 functions; strings = every_from 2000 200 strings; first = 20000 }

-- the steps, the input taken and the output of a run that ends; nothing of one that does not
pub data Told : Type 0 where
  told : (steps taken : ℕ) (output : List ℕ) → Told
  undefined-act not-over : Told

abbrev tell_state : State → Told
tell_state s = told s.steps s.taken s.output

abbrev tell : Result Value → Told
tell = elim [ unfinished ↦ not-over | undefined ↦ undefined-act | finished s ↦ tell_state s | returned s ↦ tell_state s | ok v s ↦ tell_state s ]

unfoldable pub run_of : (memory fuel : ℕ) → List ℕ → (input : List ℕ) → Result Value
unfolding answer place_of same_bytes lookup in_block judge declare_all side_of under scope_after R.height_after labels_of R.expression H.count H.height_with
    globals_after manifests_after functions_after declared_by resolved taken_after after_declaration group_of functions_from functions_of funs functions_in
    strings_among strings_in globals_with string_cell cells_at_start run_with apply_monadic apply_dyadic bind has_case has_default from selected nth position_of
    called arguments evaluated assigned assigned_all sequence cases declared executed turned sem value word_of mul quot rem below shl shr no_globals
    pairs placed
run_of memory fuel text input = run_with fuel (functions_in text) (strings_in text) (placed (functions_in text) (strings_in text)) memory input

unfoldable pub ran_bytes : (fuel : ℕ) → List ℕ → (input : List ℕ) → Told
unfolding run_of
ran_bytes fuel text input = tell (run_of 32768 fuel text input)

-- the greatest use of a run that ends, or 0
abbrev use_of : Result Value → ℕ
use_of = elim [ unfinished ↦ 0 | undefined ↦ 0 | finished s ↦ s.used | returned s ↦ s.used | ok v s ↦ s.used ]

unfoldable pub used_by : String → ℕ
unfolding run_of
used_by text = use_of (run_of 32768 100 (bytes text) [])

-- in a memory of so many words
unfoldable pub ran_in : (memory : ℕ) → String → Told
unfolding run_of
ran_in memory text = tell (run_of memory 100 (bytes text) [])

-- the empty source, with 64 scratch entries
pub empty-source : refusal_of [] 64 ≡ refused 14 0
unfolding refusal_of answer judged_bytes
empty-source = refl
