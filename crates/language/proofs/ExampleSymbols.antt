-- Worked examples: texts and their symbols.
use Rattle.laws.proofs.Basics.{ℕ, refl, [], ◌∷◌}
use Prim.Native.String.{String}
use Rattle.language.specs.Kinds as K
use Rattle.language.specs.Symbols.{Symbol}
use Rattle.language.specs.Source.{Symbols, good}
use Rattle.laws.proofs.Table.{Table, ◌gives◌, Each}
use Rattle.language.proofs.Texts.{symbols_in}

abbrev symbol : (kind value place : ℕ) → Symbol
symbol kind value place = record { kind = kind; value = value; place = place }

unfoldable symbols_in-table : Table String Symbols
symbols_in-table =
    -- THEN is the symbol DO; REPEATED and A.1 are names
    "IF THEN DO REPEATED A.1" gives good (symbol K.IF 2 0 ∷ symbol K.DO 4 3 ∷ symbol K.DO 2 8 ∷ symbol K.NAME 8 11 ∷ symbol K.NAME 3 20 ∷ []) ∷
    -- the longest sign is taken
    "A<<=B:=C<=D" gives good (symbol K.NAME 1 0 ∷ symbol K.LEFT 0 1 ∷ symbol K.EQUAL 0 3 ∷ symbol K.NAME 1 4 ∷ symbol K.ASSIGN 0 5 ∷ symbol K.NAME 1
    7 ∷ symbol K.ATMOST 0 8 ∷ symbol K.NAME 1 10 ∷ []) ∷
    -- #178 is #17 and then 8; 12A is a number and a name; leading zeros
    "#178 12A 007" gives good (symbol K.NUMBER 15 0 ∷ symbol K.NUMBER 8 3 ∷ symbol K.NUMBER 12 5 ∷ symbol K.NAME 1 7 ∷ symbol K.NUMBER 7 9 ∷ []) ∷
    -- a character is a number; the other quote may stand as itself
    "'A' '*N' '**' '\"' '*''" gives good (symbol K.NUMBER 65 0 ∷ symbol K.NUMBER 10 4 ∷ symbol K.NUMBER 42 9 ∷ symbol K.NUMBER 34 14 ∷ symbol K.NUMBER
    39 18 ∷ []) ∷
    -- a string's value is its position among the strings
    "\"\" \"IT'S*N\" \"*\"\"" gives good (symbol K.STRING 0 0 ∷ symbol K.STRING 1 3 ∷ symbol K.STRING 2 12 ∷ []) ∷
    -- // to the line's end is no symbol; carriage return ends no line
    "A // B\nC" gives good (symbol K.NAME 1 0 ∷ symbol K.SEMICOLON 0 7 ∷ symbol K.NAME 1 7 ∷ []) ∷
    -- F, newline, (X) gains a semicolon; its place is that of the bracket
    "F\n(X)" gives good (symbol K.NAME 1 0 ∷ symbol K.SEMICOLON 0 2 ∷ symbol K.OPEN 0 2 ∷ symbol K.NAME 1 3 ∷ symbol K.CLOSE 0 4 ∷ []) ∷
    -- so does a line that ends in LOOP (document 02, Req 01)
    "LOOP\nF" gives good (symbol K.LOOP 4 0 ∷ symbol K.SEMICOLON 0 5 ∷ symbol K.NAME 1 5 ∷ []) ∷
    -- on one line, after DO, and before a dyadic operator there is none
    "F (X) DO\nA\n+B" gives good (symbol K.NAME 1 0 ∷ symbol K.OPEN 0 2 ∷ symbol K.NAME 1 3 ∷ symbol K.CLOSE 0 4 ∷ symbol K.DO 2 6 ∷ symbol K.NAME 1
    9 ∷ symbol K.PLUS 0 11 ∷ symbol K.NAME 1 12 ∷ []) ∷
    -- carriage return separates and ends no line
    "A\rB" gives good (symbol K.NAME 1 0 ∷ symbol K.NAME 1 2 ∷ []) ∷
    []

symbols_in-examples : Each symbols_in symbols_in-table
unfolding symbols_in symbols_in-table
symbols_in-examples = refl
