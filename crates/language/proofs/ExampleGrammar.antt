-- Worked examples: what the grammar takes and refuses.
use Rattle.laws.proofs.Basics.{ℕ, refl, List, [], ◌∷◌, ◌++◌}
use Prim.Native.String.{String, ◌++◌ as joined}
use Rattle.text.specs.Written.{bytes}
use Rattle.laws.proofs.Table.{Table, ◌gives◌, Each}
use Rattle.language.proofs.Texts.{verdict, verdict_of, times}

unfoldable verdict-table : Table String (ℕ × ℕ)
verdict-table =
    -- a name is not looked up here
    "LET F() BE FOO()" gives (0, 0) ∷
    -- longest reading: VALOF reads the command F() + 1, which is 6 after the 1
    "LET F()=VALOF F()+1" gives (6, 19) ∷
    "LET F() BE G(VALOF F(), 3)" gives (6, 25) ∷
    "LET F() BE $( LET A = B -C := 1 $)" gives (6, 27) ∷
    -- a right list stops when it is as long as its left list
    "LET F() BE $( LET B, C = VALOF A := 1, 2 $)" gives (0, 0) ∷
    -- a newline before a dyadic operator is allowed
    "LET F() BE $( A\n!B := 1 $)" gives (0, 0) ∷
    -- 6 is at the first symbol that cannot follow
    "LET F() BE $( A, B := 1; C := 2 $)" gives (6, 23) ∷
    "LET F() BE $( A := 1, 2 $)" gives (6, 20) ∷
    "LET F() BE $( A; B() $)" gives (6, 15) ∷
    "LET F() BE $( A + F(); B() $)" gives (6, 21) ∷
    "LET F() BE $( (F()); B() $)" gives (6, 19) ∷
    "LET F() BE (F())()" gives (0, 0) ∷
    "LET F() BE $( LET G() = 1 $)" gives (6, 19) ∷
    "LET F() BE $( LET V, W = VEC 10 $)" gives (6, 25) ∷
    -- declarations precede commands
    "LET F() BE $( A := 1; LET B = 2 $)" gives (6, 22) ∷
    -- a block may be empty; a semicolon after a declaration is optional, and one may precede $)
    "LET F() BE $( $( $); $( ; $); $( LET A = 1 LET B = 2;; $); A := 1; $)" gives (0, 0) ∷
    "LET F() BE $( A := 1;; $)" gives (6, 21) ∷
    "LET F() BE $( ; A := 1 $)" gives (6, 16) ∷
    -- an empty list of GLOBAL, MANIFEST or INTO is 6 at its $)
    "GLOBAL $( $)" gives (6, 10) ∷
    "MANIFEST $( $)" gives (6, 12) ∷
    "LET F() BE SWITCHON A INTO $( $)" gives (6, 30) ∷
    -- after a GLOBAL name stands a colon, after a MANIFEST name =
    "GLOBAL $( A = 1 $)" gives (6, 12) ∷
    -- AND joins functions, and nothing stands between
    "LET A() = 1; AND B() = 2" gives (6, 13) ∷
    -- one semicolon may follow a declaration
    "GLOBAL $( A:1; B:-M; $); MANIFEST $( M=TRUE $) LET A() BE B(1) AND B(X) = X" gives (0, 0) ∷
    "LET A() = 1;; LET B() = 2" gives (6, 12) ∷
    -- labels may follow one another, and an empty command may follow them
    "LET F() BE SWITCHON A INTO $( CASE 1: CASE -2: F(); DEFAULT: $)" gives (0, 0) ∷
    -- CASE 1: REPEAT is 6: no command stands before it
    "LET F() BE SWITCHON A INTO $( CASE 1: REPEAT $)" gives (6, 38) ∷
    -- a constant has at most one minus, no plus, no brackets
    "LET F() BE $( LET V = VEC +1 $)" gives (6, 26) ∷
    "LET F() BE $( LET V = VEC --1 $)" gives (6, 27) ∷
    "LET F() BE $( LET V = VEC (1) $)" gives (6, 26) ∷
    -- every command
    joined (joined "LET F() BE $( TEST A DO F() OR G(); IF A DO F(); UNLESS A THEN F(); WHILE A DO F(); UNTIL A DO F(); FOR I = 1 TO 9 BY -1 DO F(); "
    "F() REPEAT; F() REPEATWHILE A; F() REPEATUNTIL A; SWITCHON A INTO $( DEFAULT: ENDCASE $); A, !B := 1, 2; RESULTIS 1; BREAK; LOOP; ")
    "RETURN; FINISH $)" gives (0, 0) ∷
    -- a symbol wanted at the end has the text's length
    "LET F() BE TEST A DO F()" gives (6, 24) ∷
    -- an empty command takes no REPEAT, but the IF around it does
    "LET F() BE SWITCHON A INTO $( IF B DO CASE 1: REPEAT $)" gives (0, 0) ∷
    -- NOT is one of the bindings: what cannot follow its operand without it cannot follow with it
    "LET F() = NOT A >> 5 = 14" gives (6, 21) ∷
    "LET F() = NOT A = B = C" gives (6, 20) ∷
    "LET F() = A & NOT B = C = A" gives (6, 24) ∷
    -- where NOT begins the right operand of a tighter operator, what follows belongs to the operators around
    "LET F() = A = NOT B = C ~= D" gives (6, 24) ∷
    -- an empty command at the end of a VALOF: a symbol that begins no command belongs to what is outside
    "LET F() = VALOF CASE 1: * 2" gives (0, 0) ∷
    -- an expression may be a left side, so what cannot follow is the semicolon
    "LET F() BE $( A = 1; RETURN $)" gives (6, 19) ∷
    []

verdict-examples : Each verdict verdict-table
unfolding verdict verdict-table
verdict-examples = refl

unfoldable verdict_of-table : Table (List ℕ) (ℕ × ℕ)
verdict_of-table =
    -- 64 brackets nest, and the 65th is 7; so with commands
    (bytes "LET F()=" ++ (times 64 (bytes "(") ++ (bytes "A" ++ times 64 (bytes ")")))) gives (0, 0) ∷
    (bytes "LET F()=" ++ (times 65 (bytes "(") ++ (bytes "A" ++ times 65 (bytes ")")))) gives (7, 72) ∷
    (bytes "LET F() BE " ++ (times 63 (bytes "IF A DO ") ++ bytes "RETURN")) gives (0, 0) ∷
    (bytes "LET F() BE " ++ (times 64 (bytes "IF A DO ") ++ bytes "RETURN")) gives (7, 523) ∷
    -- a 65th level that could not begin there at all is 6
    (bytes "LET F()=" ++ (times 64 (bytes "-") ++ bytes "-A")) gives (7, 72) ∷
    (bytes "LET F()=" ++ (times 64 (bytes "-") ++ bytes "*A")) gives (6, 72) ∷
    -- REPEAT forms and labels open no level, but a REPEATWHILE's condition stands in its command's level
    (bytes "LET F() BE " ++ (times 63 (bytes "IF A DO ") ++ bytes "RETURN REPEAT REPEATWHILE A")) gives (0, 0) ∷
    (bytes "LET F() BE " ++ (times 63 (bytes "IF A DO ") ++ bytes "RETURN REPEATWHILE (A)")) gives (7, 534) ∷
    (bytes "LET F() BE " ++ (times 63 (bytes "IF A DO ") ++ bytes "CASE 1: DEFAULT: RETURN")) gives (0, 0) ∷
    -- a constant's minus opens a level, and so does VALOF, before its command
    (bytes "LET F() BE " ++ (times 63 (bytes "IF A DO ") ++ bytes "$( LET V = VEC -1 $)")) gives (7, 530) ∷
    (bytes "LET F()=" ++ (times 32 (bytes "VALOF RESULTIS ") ++ bytes "1")) gives (0, 0) ∷
    (bytes "LET F()=" ++ (times 33 (bytes "VALOF RESULTIS ") ++ bytes "1")) gives (7, 488) ∷
    []

verdict_of-examples : Each verdict_of verdict_of-table
unfolding verdict_of verdict_of-table times
verdict_of-examples = refl
