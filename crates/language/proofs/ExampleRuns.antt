-- Worked examples of source runs: their steps, input taken and output, and every kind of undefined act.
use Rattle.laws.proofs.Basics.{ℕ, ◌≡◌, refl, List, [], ◌∷◌, ◌++◌}
use Prim.Native.String.{String, ◌++◌ as joined}
use Rattle.text.specs.Written.{bytes}
use Rattle.laws.proofs.Table.{Table, ◌gives◌, Each}
use Rattle.language.proofs.Whole.{used_by, ran_in, ran_bytes, Told, told, undefined-act, not-over}

-- what a run writes; a run that does not end writes nothing that could be taken for it
abbrev written : Told → List ℕ
written = elim [ told steps taken output ↦ output | undefined-act ↦ bytes "undefined act" | not-over ↦ bytes "not over" ]

-- what START does, in a text that declares RDCH, WRCH and A, on an input
abbrev started : String × String → Told
started (command, input) = ran_bytes 100 (bytes "GLOBAL $( START:1; RDCH:13; WRCH:14; A:20 $) LET START() BE " ++ bytes command) (bytes input)

unfoldable written-table : Table (String × String) (List ℕ)
written-table =
    -- Both of two CASE labels before one command reach it: on the input 48,5 the comma becomes a space
    (
      joined "$( LET C = RDCH() WHILE C >= 0 DO $( "
          "SWITCHON C INTO $( CASE ',': CASE '.': WRCH('*S'); ENDCASE; DEFAULT: WRCH(C) $); C := RDCH() $) $)",
      "48,5",
    )
    gives bytes "48 5" ∷
    ("$( SWITCHON RDCH() INTO $( CASE ',': CASE '.': WRCH('X') $); SWITCHON RDCH() INTO $( CASE ',': CASE '.': WRCH('Y') $) $)", ",.")
    gives bytes "XY" ∷
    -- CASE labels fall through; with no match DEFAULT
    (
      joined "$( SWITCHON 2 INTO $( CASE 1: WRCH('A'); CASE 2: WRCH('B'); DEFAULT: WRCH('C'); CASE 3: WRCH('D') $); SWITCHON 7 INTO $( "
          "CASE 1: WRCH('E'); DEFAULT: WRCH('F') $); SWITCHON 7 INTO $( CASE 1: WRCH('G') $) $)",
      "",
    ) gives bytes "BCDF" ∷
    -- a function that calls itself
    ("WRCH(48 + FACT(3)) AND FACT(N) = VALOF TEST N = 0 DO RESULTIS 1 OR RESULTIS N * FACT(N - 1)", "") gives bytes "6" ∷
    -- FOR with a negative BY tests >=
    ("FOR I = '3' TO '1' BY -1 DO WRCH(I)", "") gives bytes "321" ∷
    -- a FOR that is over at once
    ("FOR I = 2 TO 1 DO WRCH('X')", "") gives bytes "" ∷
    -- LOOP goes to the next test, or step
    ("$( LET N = '0' WHILE N < '4' DO $( N := N + 1; IF N = '2' DO LOOP; WRCH(N) $) $)", "") gives bytes "134" ∷
    ("FOR I = '1' TO '4' DO $( IF I = '2' DO LOOP; WRCH(I) $)", "") gives bytes "134" ∷
    ("$( LET N = '0' UNTIL N = '4' DO $( N := N + 1; IF N = '2' DO LOOP; WRCH(N) $) $)", "") gives bytes "134" ∷
    ("$( LET N = '0' $( N := N + 1; IF N = '2' DO LOOP; IF N = '4' DO BREAK; WRCH(N) $) REPEAT $)", "") gives bytes "13" ∷
    ("$( LET N = '0' $( N := N + 1; IF N = '2' DO LOOP; WRCH(N) $) REPEATWHILE N < '4' $)", "") gives bytes "134" ∷
    ("$( LET N = '0' $( N := N + 1; IF N = '2' DO LOOP; WRCH(N) $) REPEATUNTIL N = '4' $)", "") gives bytes "134" ∷
    -- BREAK leaves the loop
    ("$( LET N = '0' $( N := N + 1; IF N = '3' DO BREAK; WRCH(N) $) REPEAT; WRCH('E') $)", "") gives bytes "12E" ∷
    -- UNTIL and UNLESS turn the test
    ("$( LET N = '0' UNTIL N = '2' DO $( N := N + 1; UNLESS N = '1' DO WRCH(N) $) $)", "") gives bytes "2" ∷
    -- RETURN in a VALOF leaves the VALOF, the expression and the routine
    ("$( F(); WRCH('E') $) AND F() BE $( WRCH('A'); WRCH(VALOF $( RETURN $)); WRCH('B') $)", "") gives bytes "AE" ∷
    -- VEC and @
    ("$( LET V = VEC 3; LET P = @V; V!2 := 'K'; WRCH(!(!P + 2)); V := @A; !V := 'L'; WRCH(A) $)", "") gives bytes "KL" ∷
    -- a string's bytes: the length first, high half first; changed and read again
    ("$( LET T = \"AB\"; WRCH(T!0); WRCH(T!1 >> 8); T!0 := (T!0 & #177400) | 'Z'; WRCH(T!0); WRCH(48 + (T!0 >> 8)) $)", "") gives bytes "ABZ2" ∷
    -- in lists each pair in turn
    ("$( LET B, C = 'P', 'Q'; B, C := C, B; WRCH(B); WRCH(C) $)", "") gives bytes "QQ" ∷
    -- RDCH gives -1 at the end, and takes nothing
    ("IF RDCH() = -1 DO WRCH('E')", "") gives bytes "E" ∷
    -- FINISH ends the run from anywhere
    ("$( F(); WRCH('X') $) AND F() BE $( WRCH('F'); FINISH $)", "") gives bytes "F" ∷
    -- relations are signed, and wrap
    ("$( IF -1 < 0 DO WRCH('A'); IF 32767 + 1 < 0 DO WRCH('B'); IF #177777 = -1 DO WRCH('C') $)", "") gives bytes "ABC" ∷
    -- a parameter that is given no argument may be stored
    ("F('A') AND F(X, Y) BE $( Y := 'B'; WRCH(X); WRCH(Y) $)", "") gives bytes "AB" ∷
    -- an absent value may be dropped
    ("$( G(); WRCH('E') $) AND G() = F() AND F() BE RETURN", "") gives bytes "E" ∷
    []

written-examples : Each (λ row. written (started row)) written-table
unfolding ran_bytes written-table
written-examples = refl

-- steps, input taken and output, and undefined acts
unfoldable told-table : Table (String × String) Told
told-table =
    -- A := 1 is 2 steps
    ("A := 1", "") gives told 2 0 (bytes "") ∷
    -- !A := 1 is 3 more than what makes A an address: A := @A, 2
    ("$( A := @A; !A := 1 $)", "") gives told 6 0 (bytes "") ∷
    -- @A!B is 3
    ("A := @A!A", "") gives told 4 0 (bytes "") ∷
    -- a call command is one step; its argument and its function are expressions
    ("WRCH('A')", "") gives told 3 0 (bytes "A") ∷
    -- FOR: the command, two expressions, its name, and a turn and an assignment of 2 for each of two turns
    ("FOR I = 1 TO 2 DO A := I", "") gives told 10 0 (bytes "") ∷
    -- a block, a value with its name
    ("$( LET B = 1 $)", "") gives told 3 0 (bytes "") ∷
    -- a block, a vector's name, and nothing for its constant
    ("$( LET B = VEC 1 $)", "") gives told 2 0 (bytes "") ∷
    -- REPEATWHILE: its body is begun, and a turn counted, each time round; and the test
    ("$( A := A + 1 $) REPEATWHILE A < 2", "") gives told 18 0 (bytes "") ∷
    -- division by zero
    ("A := 1 / A", "") gives undefined-act ∷ ("A := 1 REM A", "") gives undefined-act ∷
    -- reading an address that is no global, string word or live named word
    ("A := !0", "") gives undefined-act ∷
    -- writing one
    ("!1 := 2", "") gives undefined-act ∷
    -- a string ends at its last word
    ("A := \"AB\"!2", "") gives undefined-act ∷
    -- a block's words are live no longer once it is left
    ("$( LET P = VALOF $( LET B, C = 1, 2; RESULTIS @C $); A := !P $)", "") gives undefined-act ∷
    -- reading a stack word not stored since its declaration
    ("$( LET V = VEC 1; A := V!0 $)", "") gives undefined-act ∷
    -- an argument that was not given
    ("F() AND F(X) BE A := X", "") gives undefined-act ∷
    -- calling a number that is no entry
    ("$( A := 7; A() $)", "") gives undefined-act ∷
    -- using a routine's value
    ("A := F() AND F() BE RETURN", "") gives undefined-act ∷
    -- or that of a VALOF ended without RESULTIS
    ("A := VALOF $( $)", "") gives undefined-act ∷
    -- WRCH with no argument reads a parameter not stored
    ("WRCH()", "") gives undefined-act ∷
    -- a frame word past the memory
    ("$( LET V = VEC 4000; START() $)", "") gives undefined-act ∷
    []

told-examples : Each started told-table
unfolding ran_bytes told-table
told-examples = refl

-- the greatest use: START's frame is at 20002, V takes 12 words from word 2 on, and A!B on a left side is evaluated above the right side
vector-use : used_by "GLOBAL $( START:1 $) LET START() BE $( LET V = VEC 10; V!0 := 1 $)" ≡ 20018
unfolding used_by
vector-use = refl

-- a memory that ends there is enough, and one word less is not
just_enough : ran_in 20018 "GLOBAL $( START:1 $) LET START() BE $( LET V = VEC 10; V!0 := 1 $)" ≡ told 6 0 []
unfolding ran_in
just_enough = refl

too-little : ran_in 20017 "GLOBAL $( START:1 $) LET START() BE $( LET V = VEC 10; V!0 := 1 $)" ≡ undefined-act
unfolding ran_in
too-little = refl

-- the frames of RDCH and WRCH count: a call at height 2 of START reaches two words for its links and one for the argument
write-use : used_by "GLOBAL $( START:1; WRCH:14 $) LET START() BE WRCH(65)" ≡ 20007
unfolding used_by
write-use = refl
