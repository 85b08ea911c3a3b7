-- What the operators make of words (document 01, "The source run", first paragraph), by their symbol kinds.
use Rattle.std.specs.Prelude.{ℕ, cond, eqb}
use Rattle.std.proofs.Math.Option.{Option, none, some}
use Rattle.words.specs.Words.{add, sub, neg, complement, mul, quot, rem, eq, ne, lt, ge, gt, le, conj, disj, shl, shr}
use Rattle.language.specs.Kinds.{PLUS, MINUS, STAR, SLASH, REM, EQUAL, UNEQUAL, LESS, ATMOST, MORE, ATLEAST, LEFT, RIGHT, AMPERSAND, BAR, NOT}

-- monadic + - and NOT
unfoldable pub apply_monadic : (operator : ℕ) → ℕ → ℕ
apply_monadic o v = cond (eqb o MINUS) (neg v) (cond (eqb o NOT) (complement v) v)

-- dyadic operators; a division by zero gives none
unfoldable pub apply_dyadic : (operator : ℕ) → ℕ → ℕ → Option ℕ
apply_dyadic o v w =
    cond (eqb o STAR) (some (mul v w))
    (cond (eqb o SLASH) (cond (eqb w 0) none (some (quot v w)))
    (cond (eqb o REM) (cond (eqb w 0) none (some (rem v w)))
    (cond (eqb o PLUS) (some (add v w))
    (cond (eqb o MINUS) (some (sub v w))
    (cond (eqb o EQUAL) (some (eq v w))
    (cond (eqb o UNEQUAL) (some (ne v w))
    (cond (eqb o LESS) (some (lt v w))
    (cond (eqb o ATMOST) (some (le v w))
    (cond (eqb o MORE) (some (gt v w))
    (cond (eqb o ATLEAST) (some (ge v w))
    (cond (eqb o LEFT) (some (shl v w))
    (cond (eqb o RIGHT) (some (shr v w))
    (cond (eqb o AMPERSAND) (some (conj v w))
    (cond (eqb o BAR) (some (disj v w)) none))))))))))))))
