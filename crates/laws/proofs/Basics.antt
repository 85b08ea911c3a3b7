-- What nearly every proof names, so that a file brings it in by one line: numbers, equations, lists, truth values, choices, their laws in
-- the toolchain's libraries, and the sets of laws that `omega` and `search` are handed.
pub use Prim.Native.Nat.{ℕ, zero, suc, ◌+◌, ◌-◌, ◌*◌, ◌/◌, ◌%◌, ◌^◌, ◌<◌, ◌≤◌, suc-le-suc, zero-le, min, max}
pub use mathlib.Core.Path.{◌≡◌, refl, sym, ap, subst, ◌∙◌}
pub use mathlib.Core.List.{List, [], ◌∷◌, ◌++◌, append_assoc, append-nil, map}
pub use mathlib.Core.Bool.{Bool, true, false, not, ◌&&◌, cond}
pub use mathlib.Core.Logic.{◌⊎◌, inl, inr, ⊎_elim}
pub use mathlib.Core.Option.{Option, some, none}
pub use lib.ListN.{length, get_or, set, take, drop, replicate, length-append, length-set, length-take, length-drop, length-replicate, length-map}
pub use lib.ListN.{get_or-replicate, drop_of_length-le, take-append-drop, replicate-append-replicate, get_or-append as List·getD-append}
pub use lib.ListN.{get_or-eq_default as List·getD-eq-default}
pub use lib.Seq.{length-take-le, take_at, take-suc-set, take-length, drop_at, drop-cons, drop-drop, drop-append-add, get_or-take, get_or-drop}
pub use lib.Seq.{get_or-set_same, get_or-set_other, get_or-append-add, get_or-append_seam, ext_get_or, set_at, sets, sets-eq, length-sets}
pub use lib.Dec.{eqb, ltb, leb, lit<, lit≤}
pub use native.Mathlib.Nat.{le_refl, le_trans, lt_of_lt_of_le, lt_of_le_of_lt, eq-or-lt_of_le, add-zero, zero-add, sub-zero, suc-add}
pub use native.Mathlib.Numerals.{add-one}
pub use native.Mathlib.Omega.{arith}
pub use borrow.Author.Tests.{eqb-true, eqb-false, eq-eqb, ne_eqb, ltb-true, ltb-false, lt-ltb, le-ltb, leb-true, leb-false, le-leb, lt-leb}
pub use borrow.Author.Tests.{not-true, not-false}
use borrow.Author.Rules.{scaled_Fits}

-- What `search` is handed for a need that is trivial or is linear arithmetic: of the toolchain's set of this name what needs here ask for,
-- and nothing of floats, signed numbers and what arrays hold. Each rule is tried at each need, so a shorter set is faster.
pub ruleset needs = (tt, lit<, lit≤, zero-le, le_refl, length-set, scaled_Fits, leb-false, ltb-false, arith)

-- one more on the other side
pub add-shift : (n m : ℕ) → n + suc m ≡ suc n + m
add-shift n m = omega arith
