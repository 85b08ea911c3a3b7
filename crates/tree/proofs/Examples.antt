-- Worked examples by computation: what small texts leave in scratch, and what is refused.
use Rattle.laws.proofs.Basics.{ℕ, ◌≡◌, refl, List, [], ◌∷◌, ◌++◌, false, length, take, drop, replicate, arith}
use Prim.Native.String.{String}
use Rattle.text.specs.Written.{bytes}
use Rattle.language.specs.Kinds as K
use Rattle.language.specs.Symbols.{Symbol}
use Rattle.language.specs.Tree.{place_of}
use Rattle.language.specs.Source.{Symbols, good, faulty, symbols_of, Read, read, refused, parsed}
use Rattle.language.proofs.Texts.{symbols_in, answer, times}
use Rattle.symbols.specs.Read.{entries, outcome}
use Rattle.tree.specs.Encoding.{CALLED, SUFFIXED, DYADIC, LABELLED, MONADIC, suffixed_kind, encode_name, encode_names, encode_positive}
use Rattle.tree.specs.Encoding.{encode_constant, encode_labels, labelled, repeated, encode, encode_body, body_word, encode_functions, encode_program}
use Rattle.tree.specs.Read.{decoded, source_in, too_short, tree_read, tree_left}
use Rattle.tree.specs.Read as Answers
use Rattle.tree.specs.Read.{Answer}
use Rattle.tree.proofs.Stages.{enough, as_answer, stages}

-- the entries of a text's tree; none if it is refused
abbrev entries_of : Read → List ℕ
entries_of (read p) = encode_program p
entries_of (refused number place) = []

unfoldable tree_in : String → List ℕ
unfolding answer suffixed_kind place_of encode_name encode_names encode_positive encode_constant encode_labels labelled repeated encode encode_body body_word
    encode_functions encode_program
tree_in text = entries_of (parsed (bytes text))

-- so many entries of the body, where a text is one function without parameters: LET, the function's item and its name are eight
unfoldable body_in : (size : ℕ) → String → List ℕ
unfolding tree_in
body_in size text = take size (drop 8 (tree_in text))

-- what is answered for a text, with so many entries of scratch
abbrev then : (room size : ℕ) → Symbols → Answer
then room size (good ss) = tree_read (outcome room (good ss)).scratch (length ss) size
then room size (faulty number place) = Answers.refused number place

unfoldable answer_with : (room : ℕ) → (text : List ℕ) → Answer
unfolding tree_in decoded source_in too_short tree_read entries
answer_with room text = then room (length text) (symbols_of text)

-- ---- the whole

-- the six symbols of LET F() = 1: kind, value and place of each
abbrev six : List ℕ
six = (K.LET ∷ 3 ∷ 0 ∷ []) ++ (K.NAME ∷ 1 ∷ 4 ∷ []) ++ (K.OPEN ∷ 0 ∷ 5 ∷ []) ++ (K.CLOSE ∷ 0 ∷ 6 ∷ []) ++ (K.EQUAL ∷ 0 ∷ 8 ∷ []) ++
    (K.NUMBER ∷ 1 ∷ 10 ∷ [])

-- they stand at the beginning of scratch of 8 * 6 + 64 entries, and zeros after them
whole_before : (outcome 112 (symbols_in "LET F() = 1")).scratch ≡ six ++ replicate 94 0
unfolding symbols_in entries
whole_before = refl

-- there 18 entries of symbols and 16 of the tree end at 34
whole : tree_read (six ++ replicate 94 0) 6 11 ≡ Answers.read 34
unfolding answer_with
whole = refl

-- and these are the 16: 14 and LET, 12 and 0, the name F, the number 1, and the record of a function that is = its body
whole-entries :
    tree_in "LET F() = 1" ≡
    (14 ∷ K.LET ∷ []) ++ (12 ∷ 0 ∷ []) ++ (0 ∷ 1 ∷ 4 ∷ K.NAME ∷ []) ++ (0 ∷ 1 ∷ 10 ∷ K.NUMBER ∷ []) ++ (8 ∷ 0 ∷ 0 ∷ K.EQUAL ∷ [])
unfolding tree_in
whole-entries = refl

-- they stand behind the symbols, and zeros behind them
whole-left : tree_left (six ++ replicate 94 0) 6 11 ≡ six ++ (tree_in "LET F() = 1" ++ replicate 78 0)
unfolding answer_with tree_left
whole-left = refl

-- of LET F() = the symbols stay, and whatever stood behind them is cleared
refused-left : tree_left (take 15 six ++ replicate 89 7) 5 9 ≡ take 15 six ++ replicate 89 0
unfolding answer_with tree_left
refused-left = refl

-- ---- two labels before one command

-- a label: the size of what follows, CASE, the number, and the record with the label's place
abbrev case-48 : List ℕ
case-48 = (8 ∷ K.CASE ∷ []) ++ (0 ∷ 48 ∷ 35 ∷ K.NUMBER ∷ []) ++ (4 ∷ 0 ∷ 30 ∷ K.CASE ∷ [])

abbrev case-5 : List ℕ
case-5 = (8 ∷ K.CASE ∷ []) ++ (0 ∷ 5 ∷ 44 ∷ K.NUMBER ∷ []) ++ (4 ∷ 0 ∷ 39 ∷ K.CASE ∷ [])

-- F(): the name, a call with no arguments, and the record: a name of 4 entries, the place of F, and a call is last
abbrev called : List ℕ
called = (0 ∷ 1 ∷ 47 ∷ K.NAME ∷ []) ++ (0 ∷ K.OPEN ∷ []) ++ (6 ∷ 4 ∷ 47 ∷ CALLED ∷ [])

-- both labels stand before the call, and the record says that they take 20 entries
labels :
    body_in 44 "LET F() BE SWITCHON X INTO $( CASE 48: CASE 5: F() $)" ≡
    (0 ∷ 1 ∷ 20 ∷ K.NAME ∷ []) ++ (34 ∷ 0 ∷ []) ++ case-48 ++ case-5 ++ called ++ (30 ∷ 20 ∷ 0 ∷ LABELLED ∷ []) ++ (40 ∷ 4 ∷ 0 ∷ K.SWITCHON ∷ [])
unfolding body_in
labels = refl

-- ---- expressions

-- a chain is one record, with the place of A: A, and the items - B and - C
chain :
    body_in 20 "LET F() = A-B-C" ≡
    (0 ∷ 1 ∷ 10 ∷ K.NAME ∷ []) ++ (4 ∷ K.MINUS ∷ 0 ∷ 1 ∷ 12 ∷ K.NAME ∷ []) ++ (4 ∷ K.MINUS ∷ 0 ∷ 1 ∷ 14 ∷ K.NAME ∷ []) ++ (16 ∷ 4 ∷ 10 ∷ DYADIC ∷ [])
unfolding body_in
chain = refl

-- a call with two arguments, and an index, which is last: each has its size and its tag behind it
index-last :
    body_in 28 "LET G() = F(A,B)!C" ≡ (0 ∷ 1 ∷ 10 ∷ K.NAME ∷ []) ++ (4 ∷ 0 ∷ 0 ∷ 1 ∷ 12 ∷ K.NAME ∷ 4 ∷ 0 ∷ 0 ∷ 1 ∷ 14 ∷ K.NAME ∷ 12 ∷ K.OPEN ∷ []) ++
    (0 ∷ 1 ∷ 17 ∷ K.NAME ∷ 4 ∷ K.PLING ∷ []) ++ (24 ∷ 4 ∷ 10 ∷ SUFFIXED ∷ [])
unfolding body_in
index-last = refl

-- an index and then a call: the record's kind says so
call-last :
    body_in 22 "LET G() = F!A(B)" ≡
    (0 ∷ 1 ∷ 10 ∷ K.NAME ∷ []) ++ (0 ∷ 1 ∷ 12 ∷ K.NAME ∷ 4 ∷ K.PLING ∷ []) ++ (4 ∷ 0 ∷ 0 ∷ 1 ∷ 14 ∷ K.NAME ∷ 6 ∷ K.OPEN ∷ []) ++
    (18 ∷ 4 ∷ 10 ∷ CALLED ∷ [])
unfolding body_in
call-last = refl

-- NOT takes a shift expression: what stands after it and binds tighter than & is its operand
not :
    body_in 28 "LET F() = NOT A=B & C" ≡
    (0 ∷ 1 ∷ 14 ∷ K.NAME ∷ []) ++ (4 ∷ K.EQUAL ∷ 0 ∷ 1 ∷ 16 ∷ K.NAME ∷ []) ++ (10 ∷ 4 ∷ 14 ∷ DYADIC ∷ []) ++ (14 ∷ K.NOT ∷ 10 ∷ MONADIC ∷ []) ++
    (4 ∷ K.AMPERSAND ∷ 0 ∷ 1 ∷ 20 ∷ K.NAME ∷ []) ++ (24 ∷ 18 ∷ 10 ∷ DYADIC ∷ [])
unfolding body_in
not = refl

-- ---- refused

-- a second relation after NOT's operand, as without NOT
relation : answer_with 200 (bytes "LET F() = NOT A=B=C") ≡ Answers.refused 6 17
unfolding answer_with
relation = refl

-- an expression is wanted at the end: 6, and the place is the text's length
at-end : answer_with 136 (bytes "LET F() =") ≡ Answers.refused 6 9
unfolding answer_with
at-end = refl

-- 64 minuses nest; the 65th is 7, at its place
levels-64 : answer_with 648 (bytes "LET F()=" ++ (times 64 (bytes "-") ++ bytes "A")) ≡ Answers.read 482
unfolding answer_with times
levels-64 = refl

levels-65 : answer_with 656 (bytes "LET F()=" ++ (times 65 (bytes "-") ++ bytes "A")) ≡ Answers.refused 7 72
unfolding answer_with times
levels-65 = refl

-- one entry fewer than 8 * 6 + 64
one-entry-short : tree_read (six ++ replicate 93 0) 6 11 ≡ Answers.short
unfolding answer_with
one-entry-short = refl

-- ---- the laws of both stages, for LET F() = 1

abbrev text : List ℕ
text = bytes "LET F() = 1"

abbrev symbols : List Symbol
symbols = decoded 6 six

symbols-are : symbols_of text ≡ good symbols
unfolding symbols_in decoded
symbols-are = refl

-- 8 * 11 + 64 entries are enough
enough-here : too_short 152 6 ≡ false
unfolding decoded
enough-here = enough text symbols 152 symbols-are (omega arith) (omega arith)

-- and with them the answer is what the definition of both stages says
stages-here : tree_read (outcome 152 (good symbols)).scratch 6 11 ≡ as_answer 6 (parsed text)
unfolding decoded
stages-here = stages text symbols 152 symbols-are (omega arith) (omega arith)
