-- A property of what the resolver makes by cases: it holds if it holds in each case.
use Rattle.laws.proofs.Basics.{ℕ, Bool, true, false, cond, eqb}
use Rattle.laws.proofs.Cases.{by_cond}
use Rattle.language.specs.Kinds.{BREAK, LOOP, ENDCASE, RETURN, PLING, AT}
use Rattle.language.specs.Resolve.{Side, side, no_side, side_of, address_of, resolved_monadic, leaving}
use Rattle.language.specs.Resolved as R
use Rattle.language.specs.Resolved.{Expr, Cmd}

pub by-monadic : (P : Expr → Type 0) (o : ℕ) (e : Expr) → P (R.contents e) → P (address_of (side_of e)) → P (R.unary o e) → P (resolved_monadic o e)
by-monadic P o e p q r = by_cond P (eqb o PLING) p (by_cond P (eqb o AT) q r)

pub by-leaving : (P : Cmd → Type 0) (w : ℕ) → P R.break → P R.loop → P R.endcase → P R.return → P R.finish → P (leaving w)
by-leaving P w b l e r f = by_cond P (eqb w BREAK) b (by_cond P (eqb w LOOP) l (by_cond P (eqb w ENDCASE) e (by_cond P (eqb w RETURN) r f)))

-- WHILE, UNTIL, or IF and UNLESS
pub by-guard : (P : Cmd → Type 0) (e : Expr) (c : Cmd) (sense a b : Bool) → P (R.while true e c) → P (R.while false e c) → P (R.when sense e c)
    → P (cond a (R.while true e c) (cond b (R.while false e c) (R.when sense e c)))
by-guard P e c sense a b p q r = by_cond P a p (by_cond P b q r)

-- four forms can be left sides
module _
    (P : Expr → Side → Type 0) (l : (k : ℕ) → P (R.local k) (side (R.to_local k))) (g : (n : ℕ) → P (R.global n) (side (R.to_global n)))
    (c : (e : Expr) → P (R.contents e) (side (R.to_contents e))) (i : (a b : Expr) → P (R.index a b) (side (R.to_index a b)))
    (n : (e : Expr) → P e no_side) where
  pub by_side : (e : Expr) → P e (side_of e)
  unfolding side_of
  by_side (R.local k) = l k
  by_side (R.global k) = g k
  by_side (R.contents e) = c e
  by_side (R.index a b) = i a b
  by_side (R.constant v) = n _
  by_side (R.function k) = n _
  by_side (R.string k) = n _
  by_side (R.address_of_local k) = n _
  by_side (R.address_of_global k) = n _
  by_side (R.address_of_contents e) = n _
  by_side (R.address_of_index a b) = n _
  by_side (R.unary o e) = n _
  by_side (R.binary o a b) = n _
  by_side (R.call e es) = n _
  by_side (R.valof e) = n _
