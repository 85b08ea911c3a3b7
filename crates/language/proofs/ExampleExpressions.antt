-- Worked examples: how expressions group.
use Rattle.laws.proofs.Basics.{ℕ, refl, [], ◌∷◌}
use Prim.Native.String.{String}
use Rattle.text.specs.Written.{bytes}
use Rattle.language.specs.Kinds as K
use Rattle.laws.proofs.Table.{Table, ◌gives◌, Each}
use Rattle.language.proofs.Texts.{verdict}
use Rattle.language.proofs.Shapes.{Shape, named, number, one, two, called, none, and, grouped}

abbrev A : Shape
A = named (bytes "A")

abbrev B : Shape
B = named (bytes "B")

abbrev C : Shape
C = named (bytes "C")

abbrev D : Shape
D = named (bytes "D")

unfoldable grouped-table : Table String Shape
grouped-table =
    -- calls and dyadic ! group left
    "A!B(C,D)" gives called (two K.PLING A B) (and C (and D none)) ∷
    -- monadic ! and @ take what follows their operand's primary
    "!A!B" gives one K.PLING (two K.PLING A B) ∷
    "@A(B)*C" gives two K.STAR (one K.AT (called A (and B none))) C ∷
    -- * / REM, then + -, each group left
    "A/B*C REM D" gives two K.REM (two K.STAR (two K.SLASH A B) C) D ∷
    "A-B-C*D" gives two K.MINUS (two K.MINUS A B) (two K.STAR C D) ∷
    -- monadic + and - take * / REM
    "-A*B+C" gives two K.PLUS (one K.MINUS (two K.STAR A B)) C ∷
    -- one relation, of sums
    "A+B<=C-D" gives two K.ATMOST (two K.PLUS A B) (two K.MINUS C D) ∷
    -- a shift's right operand is arithmetic
    "A=B<<C+D>>A" gives two K.RIGHT (two K.LEFT (two K.EQUAL A B) (two K.PLUS C D)) A ∷
    -- NOT takes shifts, not &
    "NOT A<<B&C" gives two K.AMPERSAND (one K.NOT (two K.LEFT A B)) C ∷
    -- as a tighter operator's right operand it reaches as far, and what follows belongs to the operators around
    "A + NOT B = C = A" gives two K.EQUAL (two K.PLUS A (one K.NOT (two K.EQUAL B C))) A ∷
    -- NOT's operand is a shift expression, whose first operand may begin with NOT
    "NOT NOT A = B = C" gives one K.NOT (two K.EQUAL (one K.NOT (two K.EQUAL A B)) C) ∷
    "NOT A=B&C" gives two K.AMPERSAND (one K.NOT (two K.EQUAL A B)) C ∷
    -- & binds tighter than |
    "A&B|C&D" gives two K.BAR (two K.AMPERSAND A B) (two K.AMPERSAND C D) ∷
    -- a monadic operator or NOT may begin any operand, and reaches as far as its own binding lets it
    "A * - B * C" gives two K.STAR A (one K.MINUS (two K.STAR B C)) ∷
    "A * NOT B + C" gives two K.STAR A (one K.NOT (two K.PLUS B C)) ∷
    "A!-B*C" gives two K.PLING A (one K.MINUS (two K.STAR B C)) ∷
    "A=NOT B=C" gives two K.EQUAL A (one K.NOT (two K.EQUAL B C)) ∷
    -- brackets group
    "A*(B+C)" gives two K.STAR A (two K.PLUS B C) ∷
    -- a relation after a shift, or a second relation, cannot follow
    "14=A>>5" gives two K.RIGHT (two K.EQUAL (number 14) A) (number 5) ∷
    []

grouped-examples : Each grouped grouped-table
unfolding grouped grouped-table
grouped-examples = refl

unfoldable verdict-table : Table String (ℕ × ℕ)
verdict-table = "LET F()=A>>5=14" gives (6, 12) ∷
    "LET F()=A=B=C" gives (6, 11) ∷
    -- VALOF is a primary
    "LET F()=1+VALOF RESULTIS 2" gives (0, 0) ∷
    -- an operand wanted at the end, and before a symbol
    "LET F()=A+" gives (6, 10) ∷
    "LET F()=A+;" gives (6, 10) ∷
    []

verdict-examples : Each verdict verdict-table
unfolding verdict verdict-table
verdict-examples = refl
