-- Worked examples of refusals 8 to 14 and 16: the number and place of a whole text's refusal, or 0 and 0.
use Rattle.laws.proofs.Basics.{ℕ, ◌≡◌, refl, [], ◌∷◌}
use Prim.Native.String.{String}
use Rattle.text.specs.Line.{newlines, line_of}
use Rattle.text.specs.Written.{bytes}
use Rattle.laws.proofs.Table.{Table, ◌gives◌, Each}
use Rattle.language.proofs.Whole.{judged}

unfoldable judged-table : Table String (ℕ × ℕ)
judged-table =
    -- 8: name unknown
    "LET START() BE FOO()" gives (8, 15) ∷
    -- an unknown name in a constant
    "GLOBAL $( START:-FOO $)" gives (8, 17) ∷
    -- a local list is known after the whole list
    "GLOBAL $( START:1; RDCH:13; WRCH:14; A:20 $) LET START() BE $( LET B, C = 1, B; C := B $)" gives (8, 77) ∷
    -- a FOR name is not known in its own bounds
    "GLOBAL $( START:1; RDCH:13; WRCH:14; A:20 $) LET START() BE FOR I = 1 TO I DO A := I" gives (8, 73) ∷
    -- 9: name twice in one list
    "LET F(X, Y, X) BE RETURN" gives (9, 12) ∷
    -- or block
    "GLOBAL $( START:1; RDCH:13; WRCH:14; A:20 $) LET START() BE $( LET B = 1; LET B = 2; A := B $)" gives (9, 78) ∷
    -- only a function may repeat a name outermost, and only a global's
    "LET F() BE RETURN LET F() BE RETURN" gives (9, 22) ∷
    -- a manifest may not
    "LET F() BE RETURN MANIFEST $( F = 1 $)" gives (9, 30) ∷
    -- two functions in one global
    "GLOBAL $( START:1; GO:1 $) LET START() BE RETURN LET GO() BE RETURN" gives (9, 53) ∷
    -- 10: left side is no local, parameter, global or ! form
    "GLOBAL $( START:1; RDCH:13; WRCH:14; A:20 $) LET START() BE 1 := 2" gives (10, 60) ∷
    -- at the side with its brackets; the unknown name in it comes later
    "GLOBAL $( START:1; RDCH:13; WRCH:14; A:20 $) LET START() BE (FOO) := 1" gives (10, 60) ∷
    -- an unknown name alone is 8: the same place, the smaller number
    "GLOBAL $( START:1; RDCH:13; WRCH:14; A:20 $) LET START() BE FOO := 1" gives (8, 60) ∷
    -- so for @
    "GLOBAL $( START:1; RDCH:13; WRCH:14; A:20 $) LET START() BE A := @A(1)" gives (10, 66) ∷
    -- @ of @
    "GLOBAL $( START:1; RDCH:13; WRCH:14; A:20 $) LET START() BE A := @@A" gives (10, 66) ∷
    -- a function's name is none of these
    "GLOBAL $( START:1; RDCH:13; WRCH:14; A:20 $) LET START() BE $( F := 1 $) AND F() BE RETURN" gives (10, 63) ∷
    -- 11: constant's known name no manifest, at the constant
    "GLOBAL $( START:1; RDCH:13; WRCH:14; A:20 $) LET START() BE $( LET B = 1; LET V = VEC -B; V!0 := B $)" gives (11, 86) ∷
    -- global not 0 to 399
    "GLOBAL $( X:400 $)" gives (11, 12) ∷
    -- a range is of the signed value
    "GLOBAL $( X:#177777 $)" gives (11, 12) ∷
    -- VEC not 0 to 4095
    "GLOBAL $( START:1; RDCH:13; WRCH:14; A:20 $) LET START() BE $( LET V = VEC 4096; V!0 := 1 $)" gives (11, 75) ∷
    -- BY 0
    "GLOBAL $( START:1; RDCH:13; WRCH:14; A:20 $) LET START() BE FOR I = 1 TO 2 BY FALSE DO A := I" gives (11, 78) ∷
    -- 12: CASE doubled: the same word, at the later label
    "GLOBAL $( START:1; RDCH:13; WRCH:14; A:20 $) LET START() BE SWITCHON A INTO $( CASE 'A': A := 1; CASE 65: A := 2 $)" gives (12, 97) ∷
    -- DEFAULT doubled
    "GLOBAL $( START:1; RDCH:13; WRCH:14; A:20 $) LET START() BE SWITCHON A INTO $( DEFAULT: A := 1; DEFAULT: A := 2 $)" gives (12, 96) ∷
    -- outside SWITCHON
    "GLOBAL $( START:1; RDCH:13; WRCH:14; A:20 $) LET START() BE CASE 1: A := 2" gives (12, 60) ∷
    -- elsewhere than before commands of that list itself
    "GLOBAL $( START:1; RDCH:13; WRCH:14; A:20 $) LET START() BE SWITCHON A INTO $( CASE 1: $( CASE 2: A := 2 $) $)" gives (12, 90) ∷
    -- 13: nothing here to leave
    "GLOBAL $( START:1; RDCH:13; WRCH:14; A:20 $) LET START() BE BREAK" gives (13, 60) ∷
    -- BREAK, LOOP and ENDCASE don't reach out of a VALOF
    "GLOBAL $( START:1; RDCH:13; WRCH:14; A:20 $) LET START() BE WHILE A DO A := VALOF $( LOOP $)" gives (13, 85) ∷
    -- ENDCASE
    "GLOBAL $( START:1; RDCH:13; WRCH:14; A:20 $) LET START() BE WHILE A DO ENDCASE" gives (13, 71) ∷
    -- RESULTIS stands only in a VALOF
    "GLOBAL $( START:1; RDCH:13; WRCH:14; A:20 $) LET START() BE RESULTIS 1" gives (13, 60) ∷
    -- RETURN only in a routine
    "LET F() = VALOF $( RETURN $)" gives (13, 19) ∷
    -- 16: height over 8,192 words, at the function's name
    "GLOBAL $( START:1; RDCH:13; WRCH:14; A:20 $) LET START() BE $( LET V = VEC 4095; LET W = VEC 4090; A := V!0 + W!0 $)" gives (16, 49) ∷
    -- a height of 8,192 words is not
    "GLOBAL $( START:1; RDCH:13; WRCH:14; A:20 $) LET START() BE $( LET V = VEC 4095; LET W = VEC 4091; A := 1 $)" gives (0, 0) ∷
    "GLOBAL $( START:1; RDCH:13; WRCH:14; A:20 $) LET START() BE $( LET V = VEC 4095; LET W = VEC 4092; A := 1 $)" gives (16, 49) ∷
    -- 14: no function in global 1, whatever START means; at 0
    "LET START() BE RETURN" gives (14, 0) ∷
    -- the name START means nothing
    "GLOBAL $( GO:1 $) LET GO() BE RETURN" gives (0, 0) ∷
    -- 8 to 13 are one stage: the smallest place
    "GLOBAL $( START:1; RDCH:13; WRCH:14; A:20 $) LET START() BE $( 1 := FOO; BREAK $)" gives (10, 63) ∷
    -- and come before 16
    "GLOBAL $( START:1; RDCH:13; WRCH:14; A:20 $) LET START() BE $( LET V = VEC 4095; LET W = VEC 4095; V!0 := FOO $)" gives (8, 106) ∷
    -- with M = -1, CASE -M is good and is 1
    "GLOBAL $( START:1; RDCH:13; WRCH:14; A:20 $) MANIFEST $( M = -1 $) LET START() BE SWITCHON A INTO $( CASE -M: A := 1; CASE 1: A := 2 $)" gives
    (12, 118) ∷
    -- RETURN may stand in a VALOF of a routine
    "GLOBAL $( START:1; RDCH:13; WRCH:14; A:20 $) LET START() BE A := VALOF $( RETURN $)" gives (0, 0) ∷
    -- BREAK may leave a switch that lies between
    "GLOBAL $( START:1; RDCH:13; WRCH:14; A:20 $) LET START() BE WHILE A DO SWITCHON A INTO $( CASE 1: BREAK $)" gives (0, 0) ∷
    []

judged-examples : Each judged judged-table
unfolding judged judged-table
judged-examples = refl

-- `refused 8 at 15 line 1`
line-one : line_of (bytes "LET START() BE FOO()") 15 ≡ 1
unfolding line_of newlines
line-one = refl
