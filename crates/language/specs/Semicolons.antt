-- Inserted semicolons (document 01, "Inserted semicolon"): between symbols on different lines, the first from one list of kinds, the
-- second from another. LOOP is in the first by document 02, Req 01.
use Rattle.std.specs.Prelude.{ℕ, Bool, true, false, not, ◌&&◌, List, [], ◌∷◌, eqb}
use Rattle.text.specs.Line.{line_of}
use Rattle.language.specs.Kinds as K
use Rattle.language.specs.Kinds.{member}
use Rattle.language.specs.Symbols.{Symbol}

-- the first symbol; 'c' is a number
abbrev pub firsts : List ℕ
firsts =
    K.BREAK ∷ K.LOOP ∷ K.RETURN ∷ K.FINISH ∷ K.ENDCASE ∷ K.REPEAT ∷ K.CLOSE ∷ K.END ∷ K.NAME ∷ K.STRING ∷ K.NUMBER ∷ K.TRUE ∷ K.FALSE ∷ []

-- the second
abbrev pub seconds : List ℕ
seconds =
    K.TEST ∷ K.FOR ∷ K.IF ∷ K.UNLESS ∷ K.UNTIL ∷ K.WHILE ∷ K.SWITCHON ∷ K.RESULTIS ∷ K.CASE ∷ K.DEFAULT ∷ K.BREAK ∷ K.LOOP ∷
    K.ENDCASE ∷ K.RETURN ∷ K.FINISH ∷ K.BEGIN ∷ K.OPEN ∷ K.VALOF ∷ K.NAME ∷ []

unfoldable pub ends_line : (kind : ℕ) → Bool
ends_line kind = member kind firsts

unfoldable pub begins_line : (kind : ℕ) → Bool
begins_line kind = member kind seconds

unfoldable pub lines_differ : List ℕ → Symbol → Symbol → Bool
lines_differ text a b = not (eqb (line_of text a.place) (line_of text b.place))

-- a semicolon is inserted between two symbols. Its place and line are those of the second
unfoldable pub gains : List ℕ → Symbol → Symbol → Bool
gains text a b = ends_line a.kind && (begins_line b.kind && lines_differ text a b)

abbrev pub semicolon : Symbol → Symbol
semicolon s = record { kind = K.SEMICOLON; value = 0; place = s.place }

abbrev pub inserted : Bool → Symbol → List Symbol → List Symbol
inserted true s more = semicolon s ∷ more
inserted false s more = more

unfoldable pub semicolons_after : List ℕ → Symbol → List Symbol → List Symbol
semicolons_after text before [] = []
semicolons_after text before (s ∷ r) = inserted (gains text before s) s (s ∷ semicolons_after text s r)

unfoldable pub semicolons : List ℕ → List Symbol → List Symbol
semicolons text [] = []
semicolons text (s ∷ r) = s ∷ semicolons_after text s r
