-- A closed instance of the theorem, against vacuity: a small source, its text, its image and its runs, computed.
use Rattle.laws.proofs.Basics.{ℕ, zero, suc, ◌+◌, ◌<◌, ◌≤◌, ◌≡◌, refl, List, [], ◌∷◌, ◌++◌, length, get_or, arith}
use Rattle.text.specs.Written.{bytes}
use Rattle.text.specs.declared.Refusal.{Refusal}
use Rattle.words.specs.Words.{value, word_of}
use Rattle.machine.specs.Outcome as M
use Rattle.machine.specs.Fetch.{fetch}
use Rattle.machine.specs.Acts as A
use Rattle.machine.specs.Step as S
use Rattle.machine.specs.Run.{run, steps, resume}
use Rattle.items.proofs.Rendered.{AllSound}
use Rattle.items.specs.Render.{numeral, numeral_of, operand_text, base_text, indirect_text, letter, plain_text, character_text, characters_text}
use Rattle.items.specs.Render.{render}
use Rattle.items.specs.Render.{render_lines, render_all}
use Rattle.language.specs.Heights.{count, height_with}
use Rattle.language.specs.Resolved as R
use Rattle.language.specs.Resolved.{Fun, in_global, has_default, cases_of, case_count}
use Rattle.language.specs.Run.{Placement, no_fun}
use Rattle.language.specs.Whole.{refusal_of, functions_in, strings_in, at_start, run_with, Over, by_return, SourceRunEnds}
use Rattle.language.specs.Program.{accepted}
use Rattle.language.proofs.Whole.{ran_bytes, judged_bytes}
use Rattle.code.specs.Generate.{commands_in, expr_labels, body_labels, monadic_act, dyadic_act, default_of, pairs_of, table_of, expr_code, exprs_code}
use Rattle.code.specs.Generate.{cmd_code, body_code, functions_code, strings_code, starts_code, items_of, text_of}
use Rattle.language.proofs.Formed.{FormedE, FormedA, FormedC, FormedF}
use Rattle.text.specs.Line.{refusal, line_of, newlines}
use Rattle.text.specs.Quoted.{quoted, character, by_digits, by_number, escape}
use Rattle.items.specs.Reader.{head, byte, optional, digits, digit_count, decimal}
use Rattle.items.specs.Read.{ended, quoted_character, quoted_string, negative, quotation, labelled, positive, operand, base, label_item}
use Rattle.items.specs.Read.{instruction_item}
use Rattle.items.specs.Read.{constant_item, string_item, global_item, function_of, item}
use Rattle.items.specs.Scan.{gaps, mark, trailing, body, scan}
use Rattle.assembler.specs.Words.{operand_in_range, in_range, short, size, operand_word, words}
use Rattle.text.specs.Packed.{pairs}
use Rattle.assembler.specs.Layout.{vacant, defined, address_of, noted, misplaced, fault, lay, uses, known, unknowns}
use Rattle.assembler.specs.Assemble.{globals_after, globals, program, image, refuse, accept, Assembly, assembled}
use Rattle.words.specs.Globals.{no_globals}
use Rattle.std.specs.Prelude.{Ok, Err}
use Rattle.language.specs.State.{Value, State, Result, unfinished, undefined, finished, returned, ok}
use Rattle.code.specs.Faithful.{addresses_from, placement_of, Follows}
use Rattle.code.proofs.Good.{Good}
use Rattle.code.proofs.Faithful.{faithful}

pub source : List ℕ
source = bytes "GLOBAL $( START:1; WRCH:14 $) LET START() BE WRCH('A')"

start : Fun
start = record { parameters = 0; body = R.routine (R.perform (R.call (R.global 14) (R.and (R.constant 65) R.none))); start = in_global 1 }

functions-are : functions_in source ≡ start ∷ []
unfolding source start functions_in ran_bytes
functions-are = refl

strings-are : strings_in source ≡ []
unfolding source strings_in ran_bytes
strings-are = refl

text-is : render_all (items_of (start ∷ []) []) ≡ bytes "$\n1:\nL65\nSP4\nLIG14\nK2\nX4\nG1L1\nZ\n"
unfolding start expr_code exprs_code cmd_code body_code functions_code strings_code starts_code items_of numeral numeral_of operand_text base_text indirect_text
    letter plain_text character_text characters_text render render_lines render_all
text-is = refl

sounds : AllSound (items_of (start ∷ []) [])
unfolding start expr_code exprs_code cmd_code body_code functions_code strings_code starts_code items_of
sounds = omega arith

formed : (k : ℕ) → k < 1 → FormedF 1 0 (2 + (get_or (start ∷ []) k no_fun).parameters) (get_or (start ∷ []) k no_fun).body
unfolding start FormedC FormedE FormedA
formed zero l = omega arith
formed (suc k) l = absurd (omega arith)

good : Good source
good = record { sound = rw (functions-are, strings-are) sounds; formed = rw (functions-are, strings-are) formed }

-- ---- its image, its source run and the machine's run

pub written : text_of source ≡ bytes "$\n1:\nL65\nSP4\nLIG14\nK2\nX4\nG1L1\nZ\n"
unfolding text_of
written = rw (functions-are, strings-are) text-is

-- its text, assembled with so much room for labels
unfoldable made : (room : ℕ) → Assembly
unfolding line_of newlines refusal quoted character by_number by_digits escape head byte optional digits digit_count decimal ended quoted_character
    quoted_string negative quotation labelled positive operand base label_item instruction_item constant_item string_item global_item function_of item gaps
    mark trailing body scan operand_in_range in_range short size pairs operand_word words defined address_of noted misplaced fault lay uses known unknowns
    no_globals globals_after globals program image refuse accept assembled
made room = assembled (bytes "$\n1:\nL65\nSP4\nLIG14\nK2\nX4\nG1L1\nZ\n") 512 room

pub answers : (assembled (bytes "$\n1:\nL65\nSP4\nLIG14\nK2\nX4\nG1L1\nZ\n") 512 4).answer ≡ Ok 421
unfolding made
answers = refl

tables : (assembled (bytes "$\n1:\nL65\nSP4\nLIG14\nK2\nX4\nG1L1\nZ\n") 512 4).table
    ≡ record { number = 1; address = 416 } ∷ vacant ∷ vacant ∷ vacant ∷ []
unfolding made
tables = refl

place : Placement
place = record { entries = 416 ∷ []; strings = []; first = 421 }

place_is : placement_of source (assembled (text_of source) 512 4).table 421 ≡ place
unfolding place addresses_from address_of
place_is = rw (written, tables, functions-are, strings-are) refl

abbrev last_of : Result Value → State
last_of = elim [ unfinished ↦ at_start [] [] place | undefined ↦ at_start [] [] place | finished s ↦ s | returned s ↦ s | ok v s ↦ s ]

pub final : State
final = last_of (run_with 10 (start ∷ []) [] place 512 [])

ends : Over (run_with 10 (start ∷ []) [] place 512 []) final
unfolding final start place ran_bytes
ends = by_return

pub runs : SourceRunEnds source (placement_of source (assembled (text_of source) 512 4).table 421) 512 [] final
runs = record { fuel = 10; over = rw (place_is, functions-are, strings-are) ends }

pub low : final.used + 8 ≤ 512
unfolding final start place ran_bytes
low = omega arith

pub says : final.output ≡ 65 ∷ []
unfolding final start place ran_bytes
says = refl

-- the machine's run of the image, with one byte of room and 100 instructions at most: it writes A, as the source run does
record MachineRuns : Type 0 where
  stops : (run 421 (made 4).memory [] (7 ∷ []) 100).stop ≡ 30
  counts : (run 421 (made 4).memory [] (7 ∷ []) 100).count ≡ 11
  writes : (run 421 (made 4).memory [] (7 ∷ []) 100).state.out ≡ 65 ∷ []

machine-runs : MachineRuns
unfolding made value word_of M.read M.write fetch A.indirected A.returned A.combined A.sought A.switched A.received A.sent S.keep S.stored S.called
    S.jumped S.perform S.execute S.step steps resume
machine-runs = record { stops = refl; counts = refl; writes = refl }

-- every budget and every room, by the theorem
demanded : (output : List ℕ) (budget : ℕ)
    → Follows (strings_in source) (placement_of source (assembled (text_of source) 512 4).table 421) final (length output) budget
    (run 421 (assembled (text_of source) 512 4).memory [] output budget)
demanded output budget = (faithful source good).follows 512 4 421 (rw written answers) [] final runs low output budget

-- ---- it is accepted, and without room for a label its text is refused

pub accepts : refusal_of source 1000 ≡ accepted
unfolding source refusal_of judged_bytes
accepts = refl

abbrev pub full : Refusal
full = record { number = 25; line = 2; place = 2 }

pub refuses : (assembled (bytes "$\n1:\nL65\nSP4\nLIG14\nK2\nX4\nG1L1\nZ\n") 512 0).answer ≡ Err full
unfolding made
refuses = refl

-- ---- a source with each kind of label: it is accepted, and this is its text

pub several : List ℕ
several =
    bytes "GLOBAL $( START:1; WRCH:14 $)\nLET F(X) = VALOF $( SWITCHON X INTO $( CASE 1: CASE 2: RESULTIS 66; DEFAULT: ENDCASE $); RESULTIS 67 $)\n"
    ++ bytes "AND START() BE $( LET S = \"AB\"; $( WRCH(F(1)); TEST S=0 THEN LOOP OR BREAK $) REPEAT; FOR I = 1 TO 2 DO WRCH(65) REPEATWHILE I>5 $)"

pub several-accepted : refusal_of several 4000 ≡ accepted
unfolding several refusal_of judged_bytes
several-accepted = refl

several-text : text_of several
    ≡ bytes "$\n1:\nLIP2\nX23\nD2\nDL7\nD1\nDL6\nD2\nDL6\n6:\nL66\nJL4\n7:\nJL5\n5:\nL67\nJL4\n4:\nX4\n2:\n"
    ++ (bytes "LL3\nSP2\n8:\nL1\nSP7\nLL1\nK5\nSP5\nLIG14\nK3\nLIP2\nSP3\nL0\nSP4\nLIP3\nLIP4\nX10\nFL11\nJL9\nJL12\n11:\nJL10\n12:\n9:\nJL8\n10:\n"
    ++ bytes "L1\nSP3\nL2\nSP4\n13:\nLIP3\nLIP4\nX15\nFL15\n16:\nL65\nSP7\nLIG14\nK5\n17:\nLIP3\nSP5\nL5\nSP6\nLIP5\nLIP6\nX14\n"
    ++ bytes "TL16\n18:\n14:\nLIP3\nA1\nSP3\nJL13\n15:\nX4\n3:\nC\"AB\"\nG1L2\nZ\n")
unfolding several text_of functions_in strings_in ran_bytes expr_labels body_labels count height_with has_default commands_in monadic_act dyadic_act cases_of
    case_count default_of pairs_of table_of expr_code exprs_code cmd_code body_code functions_code strings_code starts_code items_of numeral numeral_of operand_text
    base_text indirect_text letter plain_text character_text characters_text render render_lines render_all
several-text = refl
