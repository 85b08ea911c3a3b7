-- The acts by their numbers, and the functions by theirs: what a `match` on a number answers.
use Rattle.laws.proofs.Basics.{ℕ, ◌≡◌, refl, sym, subst, ◌∙◌, List, [], ◌∷◌, Bool, true, false, cond, eqb}
use Rattle.laws.proofs.Cases.{by_cases}
use lib.Dec.{T as IsT}
use Rattle.words.specs.Answers.{divided}
use Rattle.std.proofs.Common.{Option, Result, Ok, Err}
use Rattle.std.specs.Option.{ok_or}
use Rattle.machine.specs.Outcome.{Out, ok, stop}
use Rattle.machine.specs.State.{State}
use Rattle.machine.specs.Acts.{Act, unlisted, indirect, negate, invert, back, finish, switch, rdch, wrch, dyadic, acts, act_of, combined}
use Rattle.machine.specs.Step.{keep, perform, Function, L, S, A, J, T, F, K, X, functions, function_of, execute}
use Rattle.machine.specs.Numbers.{value_of}
use Rattle.machine.specs.Answers.{out_of, Steps}
use Rattle.machine.specs.declared.Registers.{Registers}
use Rattle.machine.specs.declared.stops.Stop.{Stop}
use Rattle.machine.specs.declared.stops.Stop.TheVariants.{ZeroDivisor}
use Rattle.machine.specs.declared.Progress.{Progress}
use Rattle.machine.specs.declared.Progress.TheVariants as R
use Rattle.machine.proofs.Table.{Absent, rule}
use Rattle.machine.proofs.Laws.{kept_ok, kept_err}

-- the numbers that the matches of `dyadic_act`, `perform` and `execute` list, the last first
abbrev dyads : List ℕ
dyads = 19 ∷ 18 ∷ 17 ∷ 16 ∷ 15 ∷ 14 ∷ 13 ∷ 12 ∷ 11 ∷ 10 ∷ 9 ∷ 8 ∷ 7 ∷ 6 ∷ 5 ∷ []

abbrev others : List ℕ
others = 28 ∷ 27 ∷ 23 ∷ 22 ∷ 4 ∷ 3 ∷ 2 ∷ 1 ∷ []

abbrev letters : List ℕ
letters = 6 ∷ 5 ∷ 4 ∷ 3 ∷ 2 ∷ 1 ∷ 0 ∷ []

-- ---- acts 5 to 19

-- the value of the act of number n is that of the number k that n is
pub dyadic_act_is : {n : ℕ} {r : Out ℕ} (b a k : ℕ) → n ≡ k → r ≡ value_of (act_of k) b a → r ≡ value_of (act_of n) b a
dyadic_act_is b a k e q = rw e q

quotient-word : (a v : ℕ) → out_of (ok_or (divided a v) ZeroDivisor) ≡ cond (eqb a 0) (stop 33) (ok v)
quotient-word a v = by_cases (eqb a 0) (λ e. simp e) (λ e. simp e)

pub dyadic_act_divides : {n : ℕ} {r : Result ℕ Stop} {d : Option ℕ} (b a k v : ℕ) → n ≡ k → d ≡ divided a v → r ≡ ok_or d ZeroDivisor
    → cond (eqb a 0) (stop 33) (ok v) ≡ value_of (act_of k) b a → out_of r ≡ value_of (act_of n) b a
dyadic_act_divides b a k v e hd hr q = rw (e, hr, hd) (quotient-word a v ∙ q)

is_not_dyadic : Act → Bool
is_not_dyadic unlisted = true
is_not_dyadic indirect = true
is_not_dyadic negate = true
is_not_dyadic invert = true
is_not_dyadic back = true
is_not_dyadic finish = true
is_not_dyadic switch = true
is_not_dyadic rdch = true
is_not_dyadic wrch = true
is_not_dyadic (dyadic f) = false

not-dyadic : (o : Act) (b a : ℕ) → is_not_dyadic o ≡ true → value_of o b a ≡ stop 34
unfolding is_not_dyadic value_of
not-dyadic unlisted b a e = refl
not-dyadic indirect b a e = refl
not-dyadic negate b a e = refl
not-dyadic invert b a e = refl
not-dyadic back b a e = refl
not-dyadic finish b a e = refl
not-dyadic switch b a e = refl
not-dyadic rdch b a e = refl
not-dyadic wrch b a e = refl
not-dyadic (dyadic f) b a e = absurd (subst IsT (sym e) tt)

pub dyadic_act_not : {n : ℕ} (b a : ℕ) → Absent n dyads → stop 34 ≡ value_of (act_of n) b a
unfolding is_not_dyadic
dyadic_act_not {n} b a h = simp (not-dyadic (act_of n) b a (rule is_not_dyadic unlisted refl dyads acts tt n h))

-- ---- all acts

-- the act of number n is that of the number k that n is
pub act_at : {n : ℕ} {d : Result Progress Stop} {m o : List ℕ} (input : List ℕ) (s : State) (k : ℕ) → n ≡ k
    → Steps s (perform input (act_of k) s) d m o → Steps s (perform input (act_of n) s) d m o
act_at input s k e h = rw e h

is_valued : Act → Bool
is_valued unlisted = true
is_valued indirect = false
is_valued negate = false
is_valued invert = false
is_valued back = false
is_valued finish = false
is_valued switch = false
is_valued rdch = false
is_valued wrch = false
is_valued (dyadic f) = true

valued : (o : Act) (input : List ℕ) (s : State) → is_valued o ≡ true → perform input o s ≡ keep s (combined (value_of o) s.regs)
unfolding is_valued value_of perform combined keep
valued unlisted input s e = refl
valued indirect input s e = absurd (subst IsT (sym e) tt)
valued negate input s e = absurd (subst IsT (sym e) tt)
valued invert input s e = absurd (subst IsT (sym e) tt)
valued back input s e = absurd (subst IsT (sym e) tt)
valued finish input s e = absurd (subst IsT (sym e) tt)
valued switch input s e = absurd (subst IsT (sym e) tt)
valued rdch input s e = absurd (subst IsT (sym e) tt)
valued wrch input s e = absurd (subst IsT (sym e) tt)
valued (dyadic f) input s e = refl

module _ {n : ℕ} (input : List ℕ) (s : State) (h : Absent n others) where
  is-valued : perform input (act_of n) s ≡ keep s (combined (value_of (act_of n)) s.regs)
  unfolding is_valued
  is-valued = valued (act_of n) input s (rule is_valued unlisted refl others acts tt n h)

  pub combined_ok : {a : Result Registers Stop} {r : Registers} → out_of a ≡ combined (value_of (act_of n)) s.regs → a ≡ Ok r → Steps s (perform input (act_of n) s) (Ok (R.Done r)) s.mem s.out
  combined_ok p q = rw is-valued (kept_ok s _ p q)

  pub combined_err : {a : Result Registers Stop} {d : Result Progress Stop} {k : Stop} → out_of a ≡ combined (value_of (act_of n)) s.regs → a ≡ Err k
      → d ≡ Err k → Steps s (perform input (act_of n) s) d s.mem s.out
  combined_err p q e = rw (is-valued, e) (kept_err s _ p q)

-- ---- the functions

pub function_at : {f : ℕ} {d : Result Progress Stop} {m o : List ℕ} (input : List ℕ) (x : ℕ) (s : State) (k : ℕ) → f ≡ k
    → Steps s (execute input (function_of k) x s) d m o → Steps s (execute input (function_of f) x s) d m o
function_at input x s k e h = rw e h

is_x : Function → Bool
is_x = elim [ L ↦ false | S ↦ false | A ↦ false | J ↦ false | T ↦ false | F ↦ false | K ↦ false | X ↦ true ]

is_x_lem : (k : Function) → is_x k ≡ true → k ≡ X
unfolding is_x
is_x_lem L e = absurd (subst IsT (sym e) tt)
is_x_lem S e = absurd (subst IsT (sym e) tt)
is_x_lem A e = absurd (subst IsT (sym e) tt)
is_x_lem J e = absurd (subst IsT (sym e) tt)
is_x_lem T e = absurd (subst IsT (sym e) tt)
is_x_lem F e = absurd (subst IsT (sym e) tt)
is_x_lem K e = absurd (subst IsT (sym e) tt)
is_x_lem X e = refl

pub function_x : {f : ℕ} {d : Result Progress Stop} {m o : List ℕ} (input : List ℕ) (x : ℕ) (s : State) → Absent f letters
    → Steps s (perform input (act_of x) s) d m o → Steps s (execute input (function_of f) x s) d m o
unfolding is_x execute
function_x {f} input x s a h = rw (is_x_lem (function_of f) (rule is_x X refl letters functions tt f a)) h
