-- Which symbols stand where: how operators bind, and which symbols begin what (document 01, "Grammar": "Binding, tightest first").
use Rattle.std.specs.Prelude.{ℕ, Bool, true, cond, [], ◌∷◌, eqb}
use Rattle.language.specs.Kinds as K
use Rattle.language.specs.Kinds.{member}

-- the binding of a dyadic operator, tightest first: 1 for * / REM, 2 for + -, 3 for a relation, 4 for << >>, 6 for &, 7 for |;
-- 0 for any other symbol. 5 is the binding of NOT. (A primary, then calls and dyadic !, then monadic ! and @ bind tighter than these.)
unfoldable pub binding_of : (kind : ℕ) → ℕ
binding_of kind =
    cond (member kind (K.STAR ∷ K.SLASH ∷ K.REM ∷ [])) 1
    (cond (member kind (K.PLUS ∷ K.MINUS ∷ [])) 2
    (cond (member kind (K.EQUAL ∷ K.UNEQUAL ∷ K.LESS ∷ K.ATMOST ∷ K.MORE ∷ K.ATLEAST ∷ [])) 3
    (cond (member kind (K.LEFT ∷ K.RIGHT ∷ [])) 4
    (cond (eqb kind K.AMPERSAND) 6
    (cond (eqb kind K.BAR) 7
    0)))))

abbrev pub RELATION : ℕ
RELATION = 3

-- NOT binds more loosely than the shifts, and takes one shift expression
abbrev pub NEGATION : ℕ
NEGATION = 5

-- the loosest binding: that of a whole expression
abbrev pub LOOSEST : ℕ
LOOSEST = 7

-- the monadic operators and NOT
unfoldable pub is_monadic : (kind : ℕ) → Bool
is_monadic kind = member kind (K.PLING ∷ K.AT ∷ K.PLUS ∷ K.MINUS ∷ K.NOT ∷ [])

-- how loosely the operators in the operand of a monadic operator may bind: ! and @ take none of those above, + and - take * / REM,
-- NOT takes all up to the shifts
unfoldable pub reach_of : (kind : ℕ) → ℕ
reach_of kind =
    cond (member kind (K.PLING ∷ K.AT ∷ [])) 0
    (cond (member kind (K.PLUS ∷ K.MINUS ∷ [])) 1
    4)

-- what follows a primary: a call's arguments, or dyadic !
unfoldable pub is_suffix : (kind : ℕ) → Bool
is_suffix kind = member kind (K.OPEN ∷ K.PLING ∷ [])

unfoldable pub is_label : (kind : ℕ) → Bool
is_label kind = member kind (K.CASE ∷ K.DEFAULT ∷ [])

-- IF, UNLESS, WHILE and UNTIL
unfoldable pub is_guard : (kind : ℕ) → Bool
is_guard kind = member kind (K.IF ∷ K.UNLESS ∷ K.WHILE ∷ K.UNTIL ∷ [])

unfoldable pub is_leave : (kind : ℕ) → Bool
is_leave kind = member kind (K.ENDCASE ∷ K.BREAK ∷ K.LOOP ∷ K.RETURN ∷ K.FINISH ∷ [])

unfoldable pub is_repeat : (kind : ℕ) → Bool
is_repeat kind = member kind (K.REPEAT ∷ K.REPEATWHILE ∷ K.REPEATUNTIL ∷ [])

-- what may follow the first expression of an assignment
unfoldable pub goes_on_assignment : (kind : ℕ) → Bool
goes_on_assignment kind = member kind (K.COMMA ∷ K.ASSIGN ∷ [])

unfoldable pub is_declaration : (kind : ℕ) → Bool
is_declaration kind = member kind (K.GLOBAL ∷ K.MANIFEST ∷ K.LET ∷ [])

-- the symbols that begin an expression; any expression may begin a command, and so may the others
unfoldable pub begins_expression : (kind : ℕ) → Bool
begins_expression kind =
    member kind
    (K.NUMBER ∷ K.STRING ∷ K.TRUE ∷ K.FALSE ∷ K.NAME ∷ K.OPEN ∷ K.VALOF ∷ K.PLING ∷ K.AT ∷ K.PLUS ∷ K.MINUS ∷ K.NOT ∷ [])

unfoldable pub begins_command : (kind : ℕ) → Bool
begins_command kind =
    cond (begins_expression kind) true
    (cond (is_guard kind) true
    (cond (is_leave kind) true
    (member kind (K.TEST ∷ K.FOR ∷ K.SWITCHON ∷ K.RESULTIS ∷ K.BEGIN ∷ []))))
