-- A tree without refusals, after it is resolved: it is formed, and, for refusal 13, has BREAK and LOOP in loops, ENDCASE in a SWITCHON and
-- RESULTIS in a VALOF only.
use Rattle.laws.proofs.Basics.{ℕ, ◌+◌, ◌≡◌, refl, ◌∙◌, List, [], ◌∷◌, ◌++◌, Bool, true, false, cond, length, eqb, arith, ne_eqb}
use Rattle.laws.proofs.Cases.{by_cases, by_equal, by_cond, contradiction}
use Rattle.language.specs.Kinds.{member, IF, UNLESS, WHILE, UNTIL, REPEATWHILE, BREAK, LOOP, ENDCASE, RETURN}
use Rattle.language.specs.Binding.{is_guard}
use Rattle.language.specs.Tree as T
use Rattle.language.specs.Tree.{Label, Expression, Expressions, Suffixes, Operations, Command, Commands, Unlabelled, Repeats}
use Rattle.language.specs.Names as N
use Rattle.language.specs.Names.{Found, Scope, opened, declared, lookup}
use Rattle.language.specs.Constants.{Fault, fault, for_vector, judged_word}
use Rattle.language.specs.Resolve as E
use Rattle.language.specs.Resolve.{declare_all, of_meaning, side_of, target_of, address_of, under, pair_up, values_before, scope_after, labels_before}
use Rattle.language.specs.Resolve.{leaving}
use Rattle.language.specs.Resolved as R
use Rattle.language.specs.Resolved.{Expr, Exprs, Target, Pairs, Cmd, Cmds, Cases, Locals, Body}
use Rattle.language.specs.Faults.{Leavable, in_loop, in_switch, in_valof, repeated, unless, leaves, in_expression, in_suffixes, in_operations}
use Rattle.language.specs.Faults.{in_expressions, in_right_sides, in_sides, in_command, in_case, in_repeats, in_unlabelled, in_locals, in_commands}
use Rattle.language.specs.Faults.{in_cases}
use Rattle.language.specs.Heights as H
use Rattle.language.proofs.Formed.{FormedE, FormedA, FormedC, FormedB, FormedS, FormedL}
use Rattle.language.proofs.Resolving.{Scoped, scoped-up, lookup-known, declared-all, under_more, formed-name, formed-monadic, formed-leaving}
use Rattle.language.proofs.Resolving.{Sides, formed-pairs, formed-values, formed-labels, formed-by, vector-size, count_same, height-same}
use Rattle.language.proofs.Resolving.{scope-after, few-cases, open-scoped, for-scope, vector-scope, before-fine}
use Rattle.language.proofs.Cases.{by-monadic, by_side}
use Rattle.language.specs.Fine.{Fine, FineList, FineSuffixes, FineOperations, FineCommand, FineCommands, FineUnlabelled, FineRepeats}
use Rattle.language.specs.Fine.{FineLocals}

-- ---- no refusal at all is none on either side

pub none_left : (xs ys : List Fault) → xs ++ ys ≡ [] → xs ≡ []
none_left [] ys h = refl
none_left (x ∷ xs) ys h = cc

pub none_right : (xs ys : List Fault) → xs ++ ys ≡ [] → ys ≡ []
none_right [] ys h = h
none_right (x ∷ xs) ys h = cc

unless-true : (b : Bool) (place : ℕ) → unless b (fault place 13) ≡ [] → b ≡ true
unless-true true place h = refl
unless-true false place h = cc

pub ruleset nones = (none_left, none_right)

-- whether a loop, a SWITCHON and a VALOF are there to be left
unfoldable mutual
  pub LeavesE : Expr → Type 0
  LeavesE (R.constant v) = Unit {0}
  LeavesE (R.local k) = Unit {0}
  LeavesE (R.global n) = Unit {0}
  LeavesE (R.function k) = Unit {0}
  LeavesE (R.string k) = Unit {0}
  LeavesE (R.address_of_local k) = Unit {0}
  LeavesE (R.address_of_global n) = Unit {0}
  LeavesE (R.address_of_contents e) = LeavesE e
  LeavesE (R.address_of_index a b) = LeavesE a × LeavesE b
  LeavesE (R.contents e) = LeavesE e
  LeavesE (R.index a b) = LeavesE a × LeavesE b
  LeavesE (R.unary o e) = LeavesE e
  LeavesE (R.binary o a b) = LeavesE a × LeavesE b
  LeavesE (R.call e es) = LeavesA es × LeavesE e
  LeavesE (R.valof c) = LeavesC false false true c

  pub LeavesA : Exprs → Type 0
  LeavesA R.none = Unit {0}
  LeavesA (R.and e es) = LeavesE e × LeavesA es

  pub LeavesT : Target → Type 0
  LeavesT (R.to_local k) = Unit {0}
  LeavesT (R.to_global n) = Unit {0}
  LeavesT (R.to_contents e) = LeavesE e
  LeavesT (R.to_index a b) = LeavesE a × LeavesE b

  pub LeavesP : Pairs → Type 0
  LeavesP R.no_pairs = Unit {0}
  LeavesP (R.pair t e ps) = LeavesE e × LeavesT t × LeavesP ps

  pub LeavesC : (loop switch valof : Bool) → Cmd → Type 0
  LeavesC a b v R.empty = Unit {0}
  LeavesC a b v (R.assign ps) = LeavesP ps
  LeavesC a b v (R.perform e) = LeavesE e
  LeavesC a b v (R.test e c d) = LeavesE e × LeavesC a b v c × LeavesC a b v d
  LeavesC a b v (R.when sense e c) = LeavesE e × LeavesC a b v c
  LeavesC a b v (R.while sense e c) = LeavesE e × LeavesC true b v c
  LeavesC a b v (R.repeat c) = LeavesC true b v c
  LeavesC a b v (R.repeat_while sense c e) = LeavesC true b v c × LeavesE e
  LeavesC a b v (R.for first limit by c) = LeavesE first × LeavesE limit × LeavesC true b v c
  LeavesC a b v (R.switch e cs) = LeavesE e × LeavesS a true v cs
  LeavesC a b v (R.resultis e) = LeavesE e × (v ≡ true)
  LeavesC a b v R.break = a ≡ true
  LeavesC a b v R.loop = a ≡ true
  LeavesC a b v R.endcase = b ≡ true
  LeavesC a b v R.return = Unit {0}
  LeavesC a b v R.finish = Unit {0}
  LeavesC a b v (R.block ls cs) = LeavesL ls × LeavesB a b v cs

  pub LeavesB : (loop switch valof : Bool) → Cmds → Type 0
  LeavesB a b v R.no_cmds = Unit {0}
  LeavesB a b v (R.and_cmd c cs) = LeavesC a b v c × LeavesB a b v cs

  pub LeavesS : (loop switch valof : Bool) → Cases → Type 0
  LeavesS a b v R.no_cases = Unit {0}
  LeavesS a b v (R.cases ls c cs) = LeavesC a b v c × LeavesS a b v cs

  pub LeavesL : Locals → Type 0
  LeavesL R.no_locals = Unit {0}
  LeavesL (R.vector n ls) = LeavesL ls
  LeavesL (R.value e ls) = LeavesE e × LeavesL ls

abbrev pub LeavesF : Body → Type 0
LeavesF (R.expression e) = LeavesE e
LeavesF (R.routine c) = LeavesC false false false c

-- with what may be left
abbrev Leave : Leavable → Cmd → Type 0
Leave l c = LeavesC l.loop l.switch l.valof c

leave-name : (x : Found) → LeavesE (of_meaning x)
unfolding LeavesE
leave-name N.unknown = tt
leave-name (N.known (N.local k)) = tt
leave-name (N.known (N.global n)) = tt
leave-name (N.known (N.manifest v)) = tt
leave-name (N.known (N.function k)) = tt

leave-address : (e : Expr) → LeavesE e → LeavesE (address_of (side_of e))
unfolding LeavesE
leave-address e p = by_side (λ e x. LeavesE e → LeavesE (address_of x)) (λ _ _. tt) (λ _ _. tt) (λ _ p. p) (λ _ _ p. p) (λ _ _. tt) e p

leave-target : (e : Expr) → LeavesE e → LeavesT (target_of (side_of e))
unfolding LeavesE
leave-target e p = by_side (λ e x. LeavesE e → LeavesT (target_of x)) (λ _ _. tt) (λ _ _. tt) (λ _ p. p) (λ _ _ p. p) (λ _ _. tt) e p

leave-monadic : (o : ℕ) (e : Expr) → LeavesE e → LeavesE (E.resolved_monadic o e)
unfolding LeavesE
leave-monadic o e p = by-monadic LeavesE o e p (leave-address e p) p

leave-leaving : (l : Leavable) (w : ℕ) → leaves l w ≡ true → Leave l (leaving w)
unfolding LeavesE
leave-leaving l w h = by_cases (eqb w BREAK) (λ e. rw e (rw e at h)) (λ e. rw e (by_cases (eqb w LOOP) (λ f. rw f (rw (e, f) at h)) (λ f. rw f
    (by_cases (eqb w ENDCASE) (λ g. rw g (rw (e, f, g) at h)) (λ g. rw g (by_cond (Leave l) (eqb w RETURN) tt tt))))))

leave-pairs : (l r : Exprs) → LeavesA l → LeavesA r → LeavesP (pair_up l r)
unfolding LeavesE
leave-pairs R.none r p q = tt
leave-pairs (R.and e es) R.none p q = tt
leave-pairs (R.and e es) (R.and d ds) p q = (q.0, leave-target e p.0, leave-pairs es ds p.1 q.1)

leave-values : (es : Exprs) (ls : Locals) → LeavesA es → LeavesL ls → LeavesL (values_before es ls)
unfolding LeavesE
leave-values R.none ls p q = q
leave-values (R.and e es) ls p q = (p.0, leave-values es ls p.1 q)

again : (rs : Repeats) (l : Leavable) (x : Cmd) → Leave (in_loop l) x → Leave (in_loop (repeated rs l)) x
again T.no_repeats l x p = p
again (T.repeat rs) l x p = p
again (T.repeat_on w e rs) l x p = p

-- formed, and leaves only what is there
abbrev Both : (functions strings : ℕ) → Leavable → ℕ → Cmd → Type 0
Both functions strings l h c = FormedC functions strings h c × Leave l c

-- IF and UNLESS are no loops, WHILE and UNTIL are
good-guard : (functions strings : ℕ) (l : Leavable) (h w : ℕ) (e : Expr) (c : Cmd) {x y : List Fault} → is_guard w ≡ true
    → FormedE functions strings h e × LeavesE e → cond (eqb w IF) x (cond (eqb w UNLESS) x y) ≡ []
    → (x ≡ [] → FormedC functions strings h c × Leave l c) → (y ≡ [] → FormedC functions strings h c × Leave (in_loop l) c)
    → Both functions strings l h (cond (eqb w WHILE) (R.while true e c) (cond (eqb w UNTIL) (R.while false e c) (R.when (eqb w IF) e c)))
unfolding FormedE LeavesE is_guard member
good-guard functions strings l h w e c {x} {y} g p n f k =
    by_equal w IF (λ q. let m : x ≡ [] = rw q at n in rw q ((p.0, (f m).0), (p.1, (f m).1))) (λ a.
    by_equal w UNLESS (λ q. let m : x ≡ [] = rw q at n in rw q ((p.0, (f m).0), (p.1, (f m).1))) (λ b.
    let m : y ≡ [] = rw (ne_eqb w IF a, ne_eqb w UNLESS b) at n in
    by_equal w WHILE (λ q. rw q ((p.0, (k m).0), (p.1, (k m).1))) (λ d.
    by_equal w UNTIL (λ q. rw q ((p.0, (k m).0), (p.1, (k m).1))) (λ o.
    let z : false ≡ true = rw (ne_eqb w IF a, ne_eqb w UNLESS b, ne_eqb w WHILE d, ne_eqb w UNTIL o) at g in contradiction cc))))

-- ---- a tree without refusals: it is formed, and leaves only what is there

module _ (functions strings : ℕ) (text : List ℕ) where
  abbrev GoodE : ℕ → Expr → Type 0
  GoodE h e = FormedE functions strings h e × LeavesE e

  abbrev GoodC : Leavable → ℕ → Cmd → Type 0
  GoodC = Both functions strings

  mutual
    unfolding E.expression Fine FormedE LeavesE in_expression Sides under

    pub good-e : (s : Scope) (l : Leavable) (h : ℕ) (e : Expression) → Scoped functions h s → Fine strings e → in_expression text s l h e ≡ []
        → GoodE h (E.expression text s h e)
    good-e s l h (T.number place v) sc f n = (f, tt)
    good-e s l h (T.string place k) sc f n = (f, tt)
    good-e s l h (T.name x) sc f n =
        (formed-name functions strings text h (lookup text s x) (lookup-known functions h text s x sc), leave-name (lookup text s x))
    good-e s l h (T.bracketed place e) sc f n = good-e s l h e sc f n
    good-e s l h (T.valof place c) sc f n = good-c s (in_valof l) h c sc f n
    good-e s l h (T.monadic place o e) sc f n =
        let p = good-e s l h e sc f (search nones) in (formed-monadic functions strings text h o _ p.0, leave-monadic o _ p.1)
    good-e s l h (T.suffixed e ss) sc f n =
        good-x s l h ss sc f.1 (search nones) _ (good-e s l (under ss h) e (scoped-up functions s (under_more ss h) sc) f.0 (search nones))
    good-e s l h (T.dyadic e os) sc f n = good-o s l h os sc f.1 (search nones) _ (good-e s l h e sc f.0 (search nones))

    good-x : (s : Scope) (l : Leavable) (h : ℕ) (ss : Suffixes) → Scoped functions h s → FineSuffixes strings ss → in_suffixes text s l h ss ≡ []
        → (x : Expr) → GoodE (under ss h) x → GoodE h (E.suffixes text s h x ss)
    good-x s l h T.no_suffixes sc f n x p = p
    good-x s l h (T.call es ss) sc f n x p = let g : ℕ = under ss h + 2 in
        let a = good-a s l g es (scoped-up functions s (omega (arith, under_more ss h)) sc) f.0 (search nones) in
        good-x s l h ss sc f.1 (search nones) (R.call x (E.expressions text s g es))
        ((a.0, rw (count_same functions strings text s g es) p.0), (a.1, p.1))
    good-x s l h (T.index e ss) sc f n x p = let g : ℕ = under ss h + 1 in
        let d = good-e s l g e (scoped-up functions s (omega (arith, under_more ss h)) sc) f.0 (search nones) in
        good-x s l h ss sc f.1 (search nones) (R.index x (E.expression text s g e)) ((p.0, d.0), (p.1, d.1))

    good-o : (s : Scope) (l : Leavable) (h : ℕ) (os : Operations) → Scoped functions h s → FineOperations strings os → in_operations text s l h os ≡ []
        → (x : Expr) → GoodE h x → GoodE h (E.operations text s h x os)
    good-o s l h T.no_operations sc f n x p = p
    good-o s l h (T.operation o e os) sc f n x p = let d = good-e s l (h + 1) e (scoped-up functions s (omega arith) sc) f.0 (search nones) in
        good-o s l h os sc f.1 (search nones) (R.binary o x (E.expression text s (h + 1) e)) ((p.0, d.0), (p.1, d.1))

    good-a : (s : Scope) (l : Leavable) (h : ℕ) (es : Expressions) → Scoped functions h s → FineList strings es → in_expressions text s l h es ≡ []
        → FormedA functions strings h (E.expressions text s h es) × LeavesA (E.expressions text s h es)
    good-a s l h T.no_expressions sc f n = (tt, tt)
    good-a s l h (T.and_expression e es) sc f n = let p = good-e s l h e sc f.0 (search nones) in
        let q = good-a s l (h + 1) es (scoped-up functions s (omega arith) sc) f.1 (search nones) in ((p.0, q.0), (p.1, q.1))

    good_right : (s : Scope) (l : Leavable) (h : ℕ) (es : Expressions) → Scoped functions h s → FineList strings es → in_right_sides text s l h es ≡ []
        → Sides functions strings text h (E.sides text s h es) × LeavesA (E.sides text s h es)
    good_right s l h T.no_expressions sc f n = (tt, tt)
    good_right s l h (T.and_expression e es) sc f n = let p = good-e s l h e sc f.0 (search nones) in
        let q = good_right s l h es sc f.1 (search nones) in ((p.0, q.0), (p.1, q.1))

    good-sides : (s : Scope) (l : Leavable) (h : ℕ) (es : Expressions) → Scoped functions h s → FineList strings es → in_sides text s l h es ≡ []
        → Sides functions strings text h (E.sides text s h es) × LeavesA (E.sides text s h es)
    good-sides s l h T.no_expressions sc f n = (tt, tt)
    good-sides s l h (T.and_expression e es) sc f n = let p = good-e s l h e sc f.0 (search nones) in
        let q = good-sides s l h es sc f.1 (search nones) in ((p.0, q.0), (p.1, q.1))

    pub good-c : (s : Scope) (l : Leavable) (h : ℕ) (c : Command) → Scoped functions h s → FineCommand strings c → in_command text s l h c ≡ []
        → GoodC l h (E.command text s h c)
    good-c s l h (T.command ls u rs) sc f n = good-r s l h rs sc f.2 (search nones) _ (good-u s (repeated rs l) h u sc f.1 (search nones))

    good-case : (s : Scope) (l : Leavable) (h : ℕ) (c : Command) → Scoped functions h s → FineCommand strings c → in_case text s l h c ≡ []
        → GoodC l h (E.command text s h c)
    good-case s l h (T.command ls u rs) sc f n = good-r s l h rs sc f.2 (search nones) _ (good-u s (repeated rs l) h u sc f.1 (search nones))

    good-r : (s : Scope) (l : Leavable) (h : ℕ) (rs : Repeats) → Scoped functions h s → FineRepeats strings rs → in_repeats text s l h rs ≡ []
        → (x : Cmd) → GoodC (repeated rs l) h x → GoodC l h (E.repeats text s h x rs)
    good-r s l h T.no_repeats sc f n x p = p
    good-r s l h (T.repeat rs) sc f n x p = good-r s l h rs sc f n (R.repeat x) (p.0, again rs l x p.1)
    good-r s l h (T.repeat_on w e rs) sc f n x p = let q = good-e s l h e sc f.0 (search nones) in
        good-r s l h rs sc f.1 (search nones) (R.repeat_while (eqb w REPEATWHILE) x (E.expression text s h e))
        ((p.0, q.0), (again rs l x p.1, q.1))

    good-u : (s : Scope) (l : Leavable) (h : ℕ) (u : Unlabelled) → Scoped functions h s → FineUnlabelled strings u → in_unlabelled text s l h u ≡ []
        → GoodC l h (E.unlabelled text s h u)
    good-u s l h T.empty sc f n = (tt, tt)
    good-u s l h (T.assignment left right) sc f n =
        let p = good-sides s l (h + 1) left (scoped-up functions s (omega arith) sc) f.0 (search nones) in
        let q = good_right s l h right sc f.1 (search nones) in
        let xs : Exprs = E.sides text s (h + 1) left in
        let ys : Exprs = E.sides text s h right in (formed-pairs functions strings text h xs ys p.0 q.0, leave-pairs xs ys p.1 q.1)
    good-u s l h (T.call_command e) sc f n = good-e s l h e sc f.0 n
    good-u s l h (T.test e c d) sc f n = let p = good-e s l h e sc f.0 (search nones) in let q = good-c s l h c sc f.1 (search nones) in
        let r = good-c s l h d sc f.2 (search nones) in ((p.0, q.0, r.0), (p.1, q.1, r.1))
    good-u s l h (T.guarded w e c) sc f n = let p = good-e s l h e sc f.0 (search nones) in
        good-guard functions strings l h w (E.expression text s h e) (E.command text s h c) f.2 p (search nones)
        (λ q. good-c s l h c sc f.1 q) (λ q. good-c s (in_loop l) h c sc f.1 q)
    good-u s l h (T.for x e d k c) sc f n = let p = good-e s l h e sc f.0 (search nones) in
        let q = good-e s l (h + 1) d (scoped-up functions s (omega arith) sc) f.1 (search nones) in
        let s' : Scope = declared (opened s) x (N.local h) in
        let r = good-c s' (in_loop l) (h + 2) c (for-scope functions strings text s h x sc) f.3 (search nones) in
        ((p.0, q.0, r.0, formed-by functions strings text s h sc k f.2), (p.1, q.1, r.1))
    good-u s l h (T.switchon e cs) sc f n = let p = good-e s l h e sc f.0 (search nones) in
        let q = good-s s (in_switch l) h [] cs sc f.1 (search nones) in ((p.0, q.0, few-cases functions strings text s h cs f.2), (p.1, q.1))
    good-u s l h (T.resultis place e) sc f n =
        let p = good-e s l h e sc f (search nones) in (p.0, (p.1, unless-true l.valof place (search nones)))
    good-u s l h (T.leave w place) sc f n = (formed-leaving functions strings text h w, leave-leaving l w (unless-true (leaves l w) place n))
    good-u s l h (T.block ls cs) sc f n = let o = open-scoped functions strings text s h sc in
        let p = good-l (opened s) l h ls o f.0 (search nones) in
        let sc' = scope-after functions strings text (opened s) h o ls in
        let q = good-b (scope_after text (opened s) h ls) l (E.height_after text (opened s) h ls) cs sc' f.1 (search nones) in
        ((p.0, rw (height-same functions strings text (opened s) h ls f.0) q.0), (p.1, q.1))

    good-l : (s : Scope) (l : Leavable) (h : ℕ) (ls : T.Locals) → Scoped functions h s → FineLocals strings ls → in_locals text s l h ls ≡ []
        → FormedL functions strings h (E.locals text s h ls) × LeavesL (E.locals text s h ls)
    good-l s l h T.no_locals sc f n = (tt, tt)
    good-l s l h (T.vector x k ls) sc f n = let m : ℕ = h + 2 + judged_word (for_vector text s k) in
        let p = good-l (declared s x (N.local h)) l m ls (vector-scope functions strings text s h x _ sc) f.1 (search nones) in
        ((p.0, vector-size functions strings text s k), p.1)
    good-l s l h (T.values ns es ls) sc f n =
        let z : H.count (E.expressions text s h es) ≡ length ns = count_same functions strings text s h es ∙ f.2 in
        let p = good-a s l h es sc f.0 (search nones) in
        let q = good-l (declare_all s h ns) l (h + length ns) ls (declared-all functions s h ns sc) f.1 (search nones) in
        let ls' : Locals = E.locals text (declare_all s h ns) (h + length ns) ls in
        let xs : Exprs = E.expressions text s h es in
        (formed-values functions strings text h xs ls' p.0 (rw z q.0), leave-values xs ls' p.1 q.1)

    good-b : (s : Scope) (l : Leavable) (h : ℕ) (cs : Commands) → Scoped functions h s → FineCommands strings cs → in_commands text s l h cs ≡ []
        → FormedB functions strings h (E.commands text s h cs) × LeavesB l.loop l.switch l.valof (E.commands text s h cs)
    good-b s l h T.no_commands sc f n = (tt, tt)
    good-b s l h (T.and_command c cs) sc f n = let p = good-c s l h c sc f.0 (search nones) in
        let q = good-b s l h cs sc f.1 (search nones) in ((p.0, q.0), (p.1, q.1))

    good-s : (s : Scope) (l : Leavable) (h : ℕ) (d : List Label) (cs : Commands) → Scoped functions h s → FineCommands strings cs
        → in_cases text s l h d cs ≡ []
        → FormedS functions strings h (E.case_list text s h cs) × LeavesS l.loop l.switch l.valof (E.case_list text s h cs)
    good-s s l h d T.no_commands sc f n = (tt, tt)
    good-s s l h d (T.and_command c cs) sc f n = let p = good-case s l h c sc f.0 (search nones) in
        let q = good-s s l h (d ++ labels_before c) cs sc f.1 (search nones) in
        ((p.0, q.0, formed-labels functions strings text s h sc (labels_before c) (before-fine functions strings text c f.0)), (p.1, q.1))
