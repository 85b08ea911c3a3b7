-- The rows that document 01 marks P under "Proved table": one table, one proved claim about the definitions.
use Rattle.laws.proofs.Basics.{ℕ, ◌+◌, ◌≤◌, ◌≡◌, refl, ◌∙◌, List, [], ◌∷◌, some, length, take, drop, le-leb}
use Prim.Native.String.{String}
use Rattle.words.specs.Words.{value, word_of, quot, rem}
use Rattle.machine.specs.Outcome.{ok}
use Rattle.machine.specs.Acts.{act_of}
use Rattle.machine.specs.Numbers.{value_of}
use Rattle.machine.specs.Run.{steps, resume, run}
use Rattle.text.specs.Written.{bytes}
use Rattle.text.specs.Quoted.{quoted, character, by_digits, by_number, escape}
use Rattle.items.specs.Reader.{head, byte, optional, digits, digit_count, decimal}
use Rattle.items.specs.Read.{ended, quoted_character, quoted_string, negative, quotation, labelled, positive, operand, base, label_item}
use Rattle.items.specs.Read.{instruction_item}
use Rattle.items.specs.Read.{constant_item, string_item, global_item, function_of, item}
use Rattle.items.specs.Scan.{gaps, mark, trailing, body, scan}
use Rattle.assembler.specs.Words.{operand_in_range, in_range, short, size, operand_word, words}
use Rattle.text.specs.Packed.{pairs}
use Rattle.assembler.specs.Layout.{defined, address_of, noted, misplaced, fault, lay, uses, known, unknowns}
use Rattle.assembler.specs.Assemble.{globals_after, globals, program, image, refuse, accept, assembled}
use Rattle.words.specs.Globals.{no_globals}
use Rattle.std.specs.Prelude.{Ok}
use Rattle.language.specs.Kinds.{NAME, NUMBER, OPEN, CLOSE, SEMICOLON, SLASH, REM}
use Rattle.language.specs.Operators.{apply_dyadic}
use Rattle.language.specs.Symbols.{Symbol}
use Rattle.language.specs.Source.{good, faulty, symbols_of}
use Rattle.language.specs.Program.{refused}
use Rattle.language.specs.Whole.{refusal_of}
use Rattle.language.proofs.Texts.{symbols_in, symbols-are}
use Rattle.language.proofs.Whole.{empty-source}

-- a memory that a run takes
record Fits (memory : List ℕ) : Type 0 where
  long : 512 ≤ length memory
  short : length memory ≤ 32768

-- a text is accepted with just these program words, from 416 on: the stack begins behind them
record Makes (text : String) (program-words : List ℕ) : Type 0 where
  accepts : (assembled (bytes text) 512 0).answer ≡ Ok (416 + length program-words)
  stand : take (length program-words) (drop 416 (assembled (bytes text) 512 0).memory) ≡ program-words

abbrev symbol : (kind value place : ℕ) → Symbol
symbol kind value place = record { kind = kind; value = value; place = place }

record ProvedTable : Type 0 where
  -- LIP2 is 6146; K4 is 49156; A-1 is 16896, 65535; "HELLO" is 1352, 17740, 19535
  load : Makes "$ LIP2 Z" (6146 ∷ [])
  call : Makes "$ K4 Z" (49156 ∷ [])
  add : Makes "$ A-1 Z" (16896 ∷ 65535 ∷ [])
  string : Makes "$ C\"HELLO\" Z" (1352 ∷ 17740 ∷ 19535 ∷ [])
  -- 7 / -2 is -3, remainder 1: of the words, of the source's / and REM, and of the machine's acts 6 and 7
  quotient : quot 7 65534 ≡ 65533
  remainder : rem 7 65534 ≡ 1
  source-quotient : apply_dyadic SLASH 7 65534 ≡ some 65533
  source-remainder : apply_dyadic REM 7 65534 ≡ some 1
  act-6 : value_of (act_of 6) 7 65534 ≡ ok 65533
  act-7 : value_of (act_of 7) 7 65534 ≡ ok 1
  -- F, newline, (X) gains a semicolon
  semicolon : symbols_of (bytes "F\n(X)") ≡ good (symbol NAME 1 0 ∷ symbol SEMICOLON 0 2 ∷ symbol OPEN 0 2 ∷ symbol NAME 1 3 ∷ symbol CLOSE 0 4 ∷ [])
  -- empty source, with 64 scratch entries: 14 at 0
  empty : refusal_of [] 64 ≡ refused 14 0
  -- 32767 passes, 32768 is 3
  largest : symbols_of (bytes "32767") ≡ good (symbol NUMBER 32767 0 ∷ [])
  too_large : symbols_of (bytes "32768") ≡ faulty 3 0
  -- budget 0 stops 31, count 0
  budget-stop : (first : ℕ) (memory input output : List ℕ) → Fits memory → (run first memory input output 0).stop ≡ 31
  budget-count : (first : ℕ) (memory input output : List ℕ) → Fits memory → (run first memory input output 0).count ≡ 0

proved-table : ProvedTable
unfolding apply_dyadic symbols_in value_of value word_of quot rem steps resume quoted character by_number by_digits escape head byte optional digits
    digit_count
    decimal ended quoted_character quoted_string negative quotation labelled positive operand base label_item instruction_item constant_item string_item
    global_item function_of item gaps mark trailing body scan operand_in_range in_range short size pairs operand_word words defined address_of noted
    misplaced fault lay uses known unknowns no_globals globals_after globals program image refuse accept assembled
proved-table = record {
  load = record { accepts = refl; stand = refl };
  call = record { accepts = refl; stand = refl };
  add = record { accepts = refl; stand = refl };
  string = record { accepts = refl; stand = refl };
  quotient = refl;
  remainder = refl;
  source-quotient = refl;
  source-remainder = refl;
  act-6 = refl;
  act-7 = refl;
  semicolon = symbols-are "F\n(X)" ∙ refl;
  empty = empty-source;
  largest = symbols-are "32767" ∙ refl;
  too_large = symbols-are "32768" ∙ refl;
  budget-stop = λ first memory input output h. simp (le-leb 512 (length memory) h.long, le-leb (length memory) 32768 h.short);
  budget-count = λ first memory input output h. simp (le-leb 512 (length memory) h.long, le-leb (length memory) 32768 h.short);
}
