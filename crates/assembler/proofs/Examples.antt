-- Worked examples by computation: whole texts, their images and their refusals.
use Rattle.laws.proofs.Basics.{ℕ, ◌≡◌, refl, List, [], ◌∷◌, ◌++◌, take, drop, replicate}
use Prim.Native.String.{String}
use Rattle.laws.proofs.Table.{Table, ◌gives◌, Each}
use Rattle.text.specs.Written.{bytes}
use Rattle.text.specs.Line.{refusal, line_of, newlines}
use Rattle.text.specs.Quoted.{quoted, character, by_digits, by_number, escape}
use Rattle.items.specs.Reader.{head, byte, optional, digits, digit_count, decimal}
use Rattle.items.specs.Read.{ended, quoted_character, quoted_string, negative, quotation, labelled, positive, operand, base, label_item}
use Rattle.items.specs.Read.{instruction_item}
use Rattle.items.specs.Read.{constant_item, string_item, global_item, function_of, item}
use Rattle.items.specs.Scan.{gaps, mark, trailing, body, scan}
use Rattle.assembler.specs.Words.{operand_in_range, in_range, short, size, operand_word, words}
use Rattle.text.specs.Packed.{pairs}
use Rattle.assembler.specs.Layout.{vacant, defined, address_of, noted, misplaced, fault, lay, uses, known, unknowns}
use Rattle.assembler.specs.Assemble.{globals_after, globals, program, image, refuse, accept, assembled, looked_up}
use Rattle.words.specs.Globals.{no_globals}
use Rattle.assembler.specs.declared.Label.{Label}
use Rattle.std.specs.Prelude.{Some, None, Result, Ok, Err}
use Rattle.text.specs.declared.Refusal.{Refusal}

-- the answer to a text, with a memory of 512 words and a table of two labels
abbrev answer : String → Result ℕ Refusal
answer text = (assembled (bytes text) 512 2).answer

abbrev refused : (number place line : ℕ) → Result ℕ Refusal
refused number place line = Err (record { number = number; place = place; line = line })

abbrev labelled-at : (number address : ℕ) → Label
labelled-at number address = record { number = number; address = address }

-- so many words from an address on that a text makes
pub record Made : Type 0 where
  pub text : String
  pub from : ℕ
  pub count : ℕ

abbrev words_of : Made → List ℕ
words_of m = take m.count (drop m.from (assembled (bytes m.text) 512 2).memory)

abbrev made : String → (from count : ℕ) → Made
made text from count = record { text = text; from = from; count = count }

abbrev made_table : Table Made (List ℕ)
made_table = made "$ LIP2 K4 A-1 C\"HELLO\" Z" 416 8 gives (6146 ∷ 49156 ∷ 16896 ∷ 65535 ∷ 1352 ∷ 17740 ∷ 19535 ∷ 0 ∷ []) ∷
    -- words 0 to 7, and globals 13 and 14
    made "$ Z" 0 9 gives (5121 ∷ 49154 ∷ 57366 ∷ 57371 ∷ 57348 ∷ 6146 ∷ 57372 ∷ 57348 ∷ 0 ∷ []) ∷
    made "$ Z" 28 4 gives (0 ∷ 3 ∷ 5 ∷ 0 ∷ []) ∷
    -- the numbers' bounds; -0 is 0
    made "$ D65535 D-32768 D-0 Z" 416 3 gives (65535 ∷ 32768 ∷ 0 ∷ []) ∷
    -- 511 is short, 512 and every label long
    made "$ L511 L512 Z" 416 3 gives (511 ∷ 512 ∷ 512 ∷ []) ∷
    made "$ D1 1: JL1 Z" 416 3 gives (1 ∷ 25088 ∷ 417 ∷ []) ∷
    made "$ D'A' L'*N' Z" 416 2 gives (65 ∷ 10 ∷ []) ∷
    -- characters by number
    made "$ D'*255' L'*000' C\"*000*255A\" Z" 416 4 gives (255 ∷ 0 ∷ 768 ∷ 65345 ∷ []) ∷
    -- a string's length comes first; a low half that no character fills is 0
    made "$ C\"AB\" C\"\" D7 Z" 416 4 gives (577 ∷ 16896 ∷ 0 ∷ 7 ∷ []) ∷
    -- the last G for a number counts, 13 and 14 too
    made "$ 1: D1 2: D2 G5L1 G5L2 G13L1 Z" 21 9 gives (417 ∷ 0 ∷ 0 ∷ 0 ∷ 0 ∷ 0 ∷ 0 ∷ 0 ∷ 416 ∷ []) ∷
    -- nothing of a refused text stays
    made "$ 1: D1 G1L1 JL7 Z" 0 418 gives replicate 418 0 ∷ []

abbrev answer-table : Table String (Result ℕ Refusal)
answer-table = "$ LIP2 K4 A-1 C\"HELLO\" Z" gives Ok 423 ∷
    -- no item at all, with gaps and comments
    "/ none\n  $ / begins\n Z / ends" gives Ok 416 ∷
    -- refused: number, place and line
    "" gives refused 20 0 1 ∷
    "L1 Z" gives refused 20 0 1 ∷
    "$ L1" gives refused 20 4 1 ∷
    "$ \tL1 Z" gives refused 20 2 1 ∷
    "$ Z\nZ" gives refused 20 4 2 ∷
    "$\nL1\nDI5 Z" gives refused 20 5 3 ∷
    -- a character above 255, or of two digits, at its item
    "$ D1 D'*256' Z" gives refused 20 5 1 ∷
    "$ C\"A*12\" Z" gives refused 20 2 1 ∷
    "$ 1: D1\n1: Z" gives refused 21 8 2 ∷
    -- 22 at the first use, GnLm too, and only where there is no other fault
    "$ 1: JL1 JL2 JL3 Z" gives refused 22 9 1 ∷
    "$ D1 G1L1 Z" gives refused 22 5 1 ∷
    "$ JL1 D65536 Z" gives refused 23 6 1 ∷
    "$ JL1" gives refused 20 5 1 ∷
    -- labels, globals and numbers out of range
    "$ JL0 Z" gives refused 23 2 1 ∷
    "$ DL40000 Z" gives refused 23 2 1 ∷
    "$ 32768: Z" gives refused 23 2 1 ∷
    "$ 1: G400L1 Z" gives refused 23 5 1 ∷
    "$ D65536 Z" gives refused 23 2 1 ∷
    "$ D99999999999999999999 Z" gives refused 23 2 1 ∷
    "$ D-32769 Z" gives refused 23 2 1 ∷
    -- room for two labels
    "$ 1: 2: 3: Z" gives refused 25 8 1 ∷
    -- the smallest number of an item's faults, and the first item in the text
    "$ 1: 2: 2: Z" gives refused 21 8 1 ∷
    "$ D65536 1: 1: Q Z" gives refused 23 2 1 ∷
    "$ 1: 1: D65536 Z" gives refused 21 5 1 ∷
    "$ Q D65536 Z" gives refused 20 2 1 ∷ []

-- a string of so many characters, and what follows it
abbrev long : ℕ → String → List ℕ
long n more = bytes "$ C\"" ++ replicate n 65 ++ bytes "\"" ++ bytes more

-- by a text's bytes and the memory's length, with a table of one label
abbrev length-table : Table (List ℕ × ℕ) (Result ℕ Refusal)
length-table = (bytes "", 511) gives refused 24 0 1 ∷ (bytes "$ Z", 32769) gives refused 24 0 1 ∷
    -- a program may fill the memory; then the first item that does not fit
    (long 191 " 1: Z", 512) gives Ok 512 ∷ (long 192 " Z", 512) gives refused 24 2 1 ∷ (long 191 "\nD1 D2 Z", 512) gives refused 24 197 2 ∷ []

pub record Labels : Type 0 where
  -- labels in text order, with their addresses; a last label may stand past the memory; none of a refused text
  pub table : (assembled (bytes "$ 7: D1 D2 3: Z") 512 3).table ≡ labelled-at 7 416 ∷ labelled-at 3 418 ∷ vacant ∷ []
  pub last-label : (assembled (long 191 " 1: Z") 512 1).table ≡ labelled-at 1 512 ∷ []
  pub no-labels : (assembled (bytes "$ 1: D1 JL7 Z") 512 2).table ≡ vacant ∷ vacant ∷ []
  -- looked up there: a label that it has, one that it lacks, and 0, which is no label's number
  pub looked-up : Each (looked_up (assembled (bytes "$ 7: D1 D2 3: Z") 512 3).table) (3 gives Some 418 ∷ 4 gives None ∷ 0 gives None ∷ [])

-- every one of them, by computation
pub examples : Each words_of made_table × Each answer answer-table × Each (λ g. (assembled g.0 g.1 1).answer) length-table × Labels
unfolding refusal line_of newlines quoted character by_number by_digits escape head byte optional digits digit_count decimal ended quoted_character
    quoted_string negative quotation labelled positive operand base label_item instruction_item constant_item string_item global_item function_of item gaps
    mark trailing body scan operand_in_range in_range short size pairs operand_word words defined address_of noted misplaced fault lay uses known unknowns
    no_globals globals_after globals program image refuse accept assembled looked_up
examples = (refl, refl, refl, record { table = refl; last-label = refl; no-labels = refl; looked-up = refl })
