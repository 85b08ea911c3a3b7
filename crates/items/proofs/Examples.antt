-- Worked examples by computation: the corners of document 01's "Assembly text".
use Rattle.laws.proofs.Basics.{ℕ, refl, List, [], ◌∷◌, true, false}
use Rattle.laws.proofs.Table.{Table, ◌gives◌, Each}
use Prim.Native.String.{String}
use Rattle.text.specs.Written.{bytes}
use Rattle.text.specs.Quoted.{quoted, character, by_digits, by_number, escape}
use Rattle.items.specs.Item.{number, address, none, P, Item, Placed, label, instruction, constant, string, global}
use Rattle.items.specs.Reader.{Got, got, nothing, head, byte, optional, digits, digit_count, decimal}
use Rattle.items.specs.Read.{ended, quoted_character, quoted_string, negative, quotation, labelled, positive, operand, base, label_item}
use Rattle.items.specs.Read.{instruction_item, constant_item, string_item, global_item, function_of, item}
use Rattle.items.specs.Scan.{gaps, whole, unreadable, Scan, mark, trailing, body, scan}
use Rattle.items.specs.Next.{Next, one, over, element_at, next_in, Start, from, not as unbegun, start_in}

abbrev at : ℕ → Item → Placed
at p i = record { place = p; item = i }

abbrev read : List Placed → Scan
read is = record { items = is; ending = whole }

abbrev stops : ℕ → List Placed → Scan
stops p is = record { items = is; ending = unreadable p }

-- ---- one item

abbrev item-table : Table String (Got Item)
item-table =
    -- each is read as it is written: what is out of range is refused later
    "LIP2" gives got (instruction 0 true P (number false 2)) 4 ∷
    "JL5\n" gives got (instruction 3 false none (address 5)) 3 ∷
    "D-0" gives got (constant (number true 0)) 3 ∷
    "D'*N'" gives got (constant (number false 10)) 5 ∷
    "D'\"'" gives got (constant (number false 34)) 4 ∷
    "DL40000" gives got (constant (address 40000)) 7 ∷
    "C\"a*\"\"" gives got (string (97 ∷ 34 ∷ [])) 6 ∷
    "G400L1" gives got (global 400 1) 6 ∷
    -- what follows a label may stand at once
    "007:X" gives got (label 7) 4 ∷
    -- unreadable; L1X does not end, and 12 has no colon
    "JL-5" gives nothing ∷ "DI5" gives nothing ∷ "-5:" gives nothing ∷ "G-1L2" gives nothing ∷ "D-" gives nothing ∷ "D''" gives nothing ∷
    "D'ab'" gives nothing ∷ "C\"" gives nothing ∷ "LP" gives nothing ∷ "\t" gives nothing ∷ "" gives nothing ∷ "L1X" gives nothing ∷
    "QL1" gives nothing ∷ "12 " gives nothing ∷ []

-- the last two are out of range alike
abbrev number-table : Table String (Got ℕ)
number-table = "65535" gives got 65535 5 ∷ "65536" gives got 65536 5 ∷ "999999999" gives got 65536 9 ∷ []

-- ---- whole texts

abbrev text-table : Table String Scan
text-table = "$ 12: LIP2 Z" gives read (at 2 (label 12) ∷ at 6 (instruction 0 true P (number false 2)) ∷ []) ∷
    -- comments before $, and directly after $ and Z; only the colon stands between two items
    "/$\n$/\nZ/Z\n " gives read [] ∷
    "$\n1:X22\nZ\n" gives read (at 2 (label 1) ∷ at 4 (instruction 7 false none (number false 22)) ∷ []) ∷
    -- $ does not end; nothing but a gap; no Z; an item after Z; a second $; an item before $
    "$Z" gives stops 0 [] ∷
    " \n" gives stops 2 [] ∷
    "$ D1 " gives stops 5 (at 2 (constant (number false 1)) ∷ []) ∷
    "$ Z D1" gives stops 4 [] ∷
    "$ $ Z" gives stops 2 [] ∷
    "D1 $ Z" gives stops 0 [] ∷ []

-- one item at a time, from past $, and from past the end
abbrev next-table : Table ℕ Next
next-table =
    1 gives one 2 (label 12) 5 ∷ 5 gives one 6 (instruction 0 true P (number false 2)) 10 ∷ 10 gives over whole ∷ 99 gives over (unreadable 99) ∷ []

abbrev start-table : Table String Start
start-table = "/\n $\n" gives from 4 ∷ " D1" gives unbegun 1 ∷ []

examples : Each (λ t. item (bytes t)) item-table × Each (λ t. decimal (bytes t)) number-table × Each (λ t. scan (bytes t)) text-table ×
    Each (next_in (bytes "$ 12: LIP2 Z")) next-table × Each (λ t. start_in (bytes t)) start-table
unfolding quoted character by_number by_digits escape head byte optional digits digit_count decimal ended quoted_character quoted_string negative quotation
    labelled positive operand base label_item instruction_item constant_item string_item global_item function_of item gaps mark trailing body scan element_at
    next_in start_in
examples = (refl, refl, refl, refl, refl)
