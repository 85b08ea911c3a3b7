-- The code of formed functions whose heights and labels are bounded can be written and read back.
use Rattle.laws.proofs.Basics.{ℕ, suc, ◌+◌, ◌<◌, ◌≤◌, ◌≡◌, refl, List, [], ◌∷◌, ◌++◌, Bool, true, false, ◌&&◌, cond, eqb, leb, arith, leb-true}
use Rattle.laws.proofs.Basics.{le-leb}
use Rattle.laws.proofs.Cases.{by_cases, by_cond, contradiction}
use Rattle.items.specs.Item.{Operand, number, address, Item, label, instruction, constant, string, global}
use Rattle.items.proofs.Sound.{Sound, SoundOperand, SoundString}
use Rattle.items.proofs.Rendered.{AllSound}
use Rattle.assembler.specs.Words.{operand_in_range, in_range}
use Rattle.language.specs.Kinds.{MINUS, NOT, STAR, SLASH, REM, PLUS, EQUAL, UNEQUAL, LESS, ATMOST, MORE, ATLEAST, LEFT, RIGHT, AMPERSAND, BAR}
use Rattle.language.specs.Resolved as R
use Rattle.language.specs.Resolved.{CaseLabel, Expr, Exprs, Target, Pairs, Cmd, Cmds, Cases, Locals, has_default}
use Rattle.language.specs.Heights.{count, height_with, of_expr, of_exprs, of_target, of_pairs, of_cmd, of_cmds, of_cases, of_locals}
use Rattle.code.specs.Generate.{Exits, in_loop, in_switch, in_valof, nowhere_else, monadic_act, dyadic_act, limit_act, commands_in, expr_labels}
use Rattle.code.specs.Generate.{exprs_labels, target_labels, pairs_labels, cmd_labels, cmds_labels, cases_labels, locals_labels, default_of, pairs_of}
use Rattle.code.specs.Generate.{table_of, expr_code, exprs_code, target_code, pairs_code, cmd_code, cmds_code, cases_code, locals_code}
use Rattle.language.proofs.Leaving.{LeavesE, LeavesA, LeavesT, LeavesP, LeavesC, LeavesB, LeavesS, LeavesL}
use Rattle.language.proofs.Formed.{FormedCases, FormedE, FormedA, FormedT, FormedP, FormedC, FormedB, FormedS, FormedL}

-- ---- items whose labels lie from 1 up to some number, and whose other numbers are in range

pub record Within (T n : ℕ) : Type 0 where
  pub first : 1 ≤ n
  pub last : n < T

abbrev pub RightOperand : ℕ → Operand → Type 0
RightOperand T (number true n) = ⊥
RightOperand T (number false n) = n ≤ 65535
RightOperand T (address n) = Within T n

pub record RightInstruction (T f : ℕ) (x : Operand) : Type 0 where
  pub eight : f < 8
  pub right : RightOperand T x

pub record RightGlobal (T n m : ℕ) : Type 0 where
  pub global : n < 400
  pub start : Within T m

abbrev pub Right : ℕ → Item → Type 0
Right T (label n) = Within T n
Right T (instruction f i b x) = RightInstruction T f x
Right T (constant x) = RightOperand T x
Right T (string cs) = SoundString cs
Right T (global n m) = RightGlobal T n m

pub data Sounds (T : ℕ) : List Item → Type 0 where
  s-none : Sounds T []
  s-more : {x : Item} {xs : List Item} → Right T x → Sounds T xs → Sounds T (x ∷ xs)

pub sounds-both : {T : ℕ} {xs ys : List Item} → Sounds T xs → Sounds T ys → Sounds T (xs ++ ys)
sounds-both s-none q = q
sounds-both (s-more p r) q = s-more p (sounds-both r q)

-- they can be written and read back, and are in range
module _ (T : ℕ) (low : T ≤ 32768) where
  operand_sound : (x : Operand) → RightOperand T x → SoundOperand x
  operand_sound = elim [ number true n ↦ λ p. absurd p | number false n ↦ λ p. omega arith | address n ↦ λ p. omega (arith, p.last) ]

  right-sound : (x : Item) → Right T x → Sound x
  right-sound (label n) p = omega (arith, p.last)
  right-sound (instruction f i b x) p = record { eight = p.eight; sound = operand_sound x p.right }
  right-sound (constant x) p = operand_sound x p
  right-sound (string cs) p = p
  right-sound (global n m) p = record { first = omega (arith, p.global); second = omega (arith, p.start.last) }

  label-range : (n : ℕ) → Within T n → (leb 1 n && leb n 32767) ≡ true
  label-range n p = rw (le-leb 1 n p.first, le-leb n 32767 (omega (arith, p.last)))

  operand-range : (x : Operand) → RightOperand T x → operand_in_range x ≡ true
  unfolding operand_in_range
  operand-range = elim [ number true n ↦ λ p. absurd p | number false n ↦ λ p. le-leb n 65535 p | address n ↦ λ p. label-range n p ]

  pub right-range : (x : Item) → Right T x → in_range x ≡ true
  unfolding in_range
  right-range (label n) p = label-range n p
  right-range (instruction f i b x) p = operand-range x p.right
  right-range (constant x) p = operand-range x p
  right-range (string cs) p = refl
  right-range (global n m) p =
      rw (le-leb n 399 (omega (arith, p.global)), le-leb 1 m p.start.first, le-leb m 32767 (omega (arith, p.start.last)))

  pub all_sound : {xs : List Item} → Sounds T xs → AllSound xs
  all_sound s-none = tt
  all_sound (s-more {x = x} p q) = (right-sound x p, all_sound q)

-- s-more, by the item that stands there
item : {T : ℕ} {x : Item} {xs : List Item} → Right T x → Sounds T xs → Sounds T (x ∷ xs)
item p q = s-more p q

-- so many labels from a first one on
pub record Span (T n m : ℕ) : Type 0 where
  pub one : 1 ≤ n
  pub room : n + m ≤ T

pub span : {T n m : ℕ} → 1 ≤ n → n + m ≤ T → Span T n m
span o r = record { one = o; room = r }

-- ---- heights

unfoldable pub Low : List ℕ → Type 0
Low [] = Unit {0}
Low (x ∷ xs) = (x ≤ 8192) × Low xs

low-left : (xs ys : List ℕ) → Low (xs ++ ys) → Low xs
unfolding Low
low-left [] ys p = tt
low-left (x ∷ xs) ys p = (p.0, low-left xs ys p.1)

low-right : (xs ys : List ℕ) → Low (xs ++ ys) → Low ys
unfolding Low
low-right [] ys p = p
low-right (x ∷ xs) ys p = low-right xs ys p.1

low-head : (x : ℕ) (xs : List ℕ) → Low (x ∷ xs) → x ≤ 8192
unfolding Low
low-head x xs p = p.0

low-tail : (x : ℕ) (xs : List ℕ) → Low (x ∷ xs) → Low xs
unfolding Low
low-tail x xs p = p.1

ruleset lows = (low-left, low-right, low-head, low-tail)

-- ---- small numbers of acts

act-small : (o : ℕ) → dyadic_act o ≤ 19
unfolding dyadic_act
act-small o =
    pick STAR 5 _ refl (pick SLASH 6 _ refl (pick REM 7 _ refl (pick PLUS 8 _ refl (pick MINUS 9 _ refl (pick EQUAL 10 _ refl (pick UNEQUAL 11 _ refl
    (pick LESS 12 _ refl (pick ATMOST 15 _ refl (pick MORE 14 _ refl (pick ATLEAST 13 _ refl (pick LEFT 16 _ refl (pick RIGHT 17 _ refl
    (pick AMPERSAND 18 _ refl (pick BAR 19 _ refl (omega arith)))))))))))))))
  where
    pick : (k x y : ℕ) → leb x 19 ≡ true → y ≤ 19 → cond (eqb o k) x y ≤ 19
    pick k x y p q = by_cond (λ n. n ≤ 19) (eqb o k) (leb-true x 19 p) q

limit-small : (by : ℕ) → limit_act by ≤ 19
limit-small by = by_cases (leb 32768 by) (λ outcome. rw outcome (omega arith)) (λ outcome. rw outcome (omega arith))

sense-small : (b : Bool) (x y : ℕ) → x < 8 → y < 8 → cond b x y < 8
sense-small b x y p q = by_cond (λ n. n < 8) b p q

sound-monadic : {T : ℕ} (o : ℕ) → Sounds T (monadic_act o)
unfolding monadic_act
sound-monadic {T} o = by_cond (Sounds T) (eqb o MINUS) (item (omega arith) s-none) (by_cond (Sounds T) (eqb o NOT) (item (omega arith) s-none) s-none)

-- ---- labels that are left to

pub record Near (T : ℕ) (a b v : Bool) (x : Exits) : Type 0 where
  pub break : a ≡ true → Within T x.break
  pub loop : a ≡ true → Within T x.loop
  pub endcase : b ≡ true → Within T x.endcase
  pub result : v ≡ true → Within T x.result

near-loop : {T : ℕ} {a b v : Bool} {x : Exits} {n m : ℕ} → Within T n × Within T m → Near T a b v x → Near T true b v (in_loop n m x)
near-loop l q = record { break = λ _. l.1; loop = λ _. l.0; endcase = q.endcase; result = q.result }

near-switch : {T : ℕ} {a b v : Bool} {x : Exits} {m : ℕ} → Within T m → Near T a b v x → Near T a true v (in_switch m x)
near-switch l q = record { break = q.break; loop = q.loop; endcase = λ _. l; result = q.result }

near-valof : {T m : ℕ} → Within T m → Near T false false true (in_valof m)
near-valof l = record { break = λ e. contradiction cc; loop = λ e. contradiction cc; endcase = λ e. contradiction cc; result = λ _. l }

pub near_none : {T : ℕ} → Near T false false false nowhere_else
near_none = record { break = λ e. contradiction cc; loop = λ e. contradiction cc; endcase = λ e. contradiction cc; result = λ e. contradiction cc }

sound-pairs-of : {T : ℕ} (l : ℕ) → Within T l → (ls : List CaseLabel) → FormedCases ls → Sounds T (pairs_of l ls)
unfolding pairs_of FormedCases
sound-pairs-of l m [] f = s-none
sound-pairs-of l m (R.case v ∷ ls) f = let w : v < 65536 = f.0 in item (omega arith) (item m (sound-pairs-of l m ls f.1))
sound-pairs-of l m (R.default ∷ ls) f = sound-pairs-of l m ls f

default-near : {T : ℕ} (l e : ℕ) (cs : Cases) → Span T l (commands_in cs) → Within T e → Within T (default_of l e cs)
unfolding default_of commands_in
default-near l e R.no_cases p q = q
default-near {T} l e (R.cases ls c cs) p q = by_cond (Within T) (has_default ls) (omega arith) (default-near (suc l) e cs (omega arith) q)

module _ (T functions strings : ℕ) (few : suc functions + strings ≤ T) where
  sound-table : (l h : ℕ) (cs : Cases) → Span T l (commands_in cs) → FormedS functions strings h cs → Sounds T (table_of l cs)
  unfolding table_of commands_in FormedE
  sound-table l h R.no_cases p f = s-none
  sound-table l h (R.cases ls c cs) p f = sounds-both (sound-pairs-of l (omega arith) ls f.2) (sound-table (suc l) h cs (omega arith) f.1)

  mutual
    unfolding expr_code expr_labels FormedE LeavesE of_expr Low commands_in count height_with

    pub sound-e : (h n : ℕ) (e : Expr) → h ≤ 8192 → Span T n (expr_labels e) → FormedE functions strings h e → Low (of_expr h e) → LeavesE e
        → Sounds T (expr_code (suc functions) h n e)
    sound-e h n (R.constant v) l m f w y = let z : v < 65536 = f in item (omega arith) s-none
    sound-e h n (R.local k) l m f w y = let z : k < h = f in item (omega arith) s-none
    sound-e h n (R.global k) l m f w y = let z : k < 400 = f in item (omega arith) s-none
    sound-e h n (R.function k) l m f w y = let z : k < functions = f in item (omega arith) s-none
    sound-e h n (R.string k) l m f w y = let z : k < strings = f in item (omega arith) s-none
    sound-e h n (R.address_of_local k) l m f w y = let z : k < h = f in item (omega arith) s-none
    sound-e h n (R.address_of_global k) l m f w y = let z : k < 400 = f in item (omega arith) s-none
    sound-e h n (R.address_of_contents e) l m f w y = sound-e h n e l m f w y
    sound-e h n (R.address_of_index a b) l m f w y = sounds-both (sound-e h n a l (omega arith) f.0 (search lows) y.0) (item (omega arith)
        (sounds-both (sound-e (h + 1) (n + expr_labels a) b (search lows) (omega arith) f.1 (search lows) y.1) (item (omega arith) s-none)))
    sound-e h n (R.contents e) l m f w y = sounds-both (sound-e h n e l m f w y) (item (omega arith) s-none)
    sound-e h n (R.index a b) l m f w y = sounds-both (sound-e h n a l (omega arith) f.0 (search lows) y.0) (item (omega arith)
        (sounds-both (sound-e (h + 1) (n + expr_labels a) b (search lows) (omega arith) f.1 (search lows) y.1)
        (item (omega arith) (item (omega arith) s-none))))
    sound-e h n (R.unary o e) l m f w y = sounds-both (sound-e h n e l m f w y) (sound-monadic o)
    sound-e h n (R.binary o a b) l m f w y = sounds-both (sound-e h n a l (omega arith) f.0 (search lows) y.0) (item (omega arith)
        (sounds-both (sound-e (h + 1) (n + expr_labels a) b (search lows) (omega arith) f.1 (search lows) y.1)
        (item (omega arith) (item (omega arith) (item (omega arith) (item (omega (arith, act-small o)) s-none))))))
    sound-e h n (R.call e es) l m f w y = sounds-both (sound-a (h + 2) n es (search lows) (omega arith) f.0 (search lows) y.0)
        (sounds-both (sound-e (h + 2 + count es) (n + exprs_labels es) e (high (h + 2) es (search lows) (search lows)) (omega arith) f.1
        (search lows) y.1) (item (omega arith) s-none))
    sound-e h n (R.valof c) l m f w y =
        sounds-both (sound-c h (n + 1) _ c l (omega arith) (near-valof (omega arith)) f w y) (item (omega arith) s-none)

    -- the height after arguments
    high : (h : ℕ) (es : Exprs) → h ≤ 8192 → Low (of_exprs h es) → h + count es ≤ 8192
    high h R.none l w = omega arith
    high h (R.and e es) l w = omega (arith, high (h + 1) es (search lows) (search lows))

    sound-a : (h n : ℕ) (es : Exprs) → h ≤ 8192 → Span T n (exprs_labels es) → FormedA functions strings h es → Low (of_exprs h es) → LeavesA es
        → Sounds T (exprs_code (suc functions) h n es)
    sound-a h n R.none l m f w y = s-none
    sound-a h n (R.and e es) l m f w y = sounds-both (sound-e h n e l (omega arith) f.0 (search lows) y.0)
        (item (omega arith) (sound-a (h + 1) (n + expr_labels e) es (search lows) (omega arith) f.1 (search lows) y.1))

    sound-t : (h n : ℕ) (t : Target) → h ≤ 8192 → Span T n (target_labels t) → FormedT functions strings h t → Low (of_target h t) → LeavesT t
        → Sounds T (target_code (suc functions) h n t)
    sound-t h n (R.to_local k) l m f w y = let z : k < h + 1 = f in item (omega arith) s-none
    sound-t h n (R.to_global k) l m f w y = let z : k < 400 = f in item (omega arith) s-none
    sound-t h n (R.to_contents e) l m f w y = item (omega arith) (sounds-both (sound-e (h + 1) n e w.0 m f w.1 y)
        (item (omega arith) (item (omega arith) (item (omega arith) s-none))))
    sound-t h n (R.to_index a b) l m f w y =
        item (omega arith) (sounds-both (sound-e (h + 1) n a (search lows) (omega arith) f.0 (search lows) y.0) (item (omega arith)
        (sounds-both (sound-e (h + 2) (n + expr_labels a) b (search lows) (omega arith) f.1 (search lows) y.1)
        (item (omega arith) (item (omega arith) (item (omega arith) (item (omega arith) s-none)))))))

    sound-p : (h n : ℕ) (ps : Pairs) → h ≤ 8192 → Span T n (pairs_labels ps) → FormedP functions strings h ps → Low (of_pairs h ps) → LeavesP ps
        → Sounds T (pairs_code (suc functions) h n ps)
    sound-p h n R.no_pairs l m f w y = s-none
    sound-p h n (R.pair t e ps) l m f w y = sounds-both (sound-e h n e l (omega arith) f.0 (search lows) y.0)
        (sounds-both (sound-t h (n + expr_labels e) t l (omega arith) f.1 (search lows) y.1)
        (sound-p h (n + expr_labels e + target_labels t) ps l (omega arith) f.2 (search lows) y.2))

    pub sound-c : {a b v : Bool} (h n : ℕ) (x : Exits) (c : Cmd) → h ≤ 8192 → Span T n (cmd_labels c) → Near T a b v x → FormedC functions strings h c
        → Low (of_cmd h c) → LeavesC a b v c → Sounds T (cmd_code (suc functions) h n x c)
    sound-c h n x R.empty l m q f w y = s-none
    sound-c h n x (R.assign ps) l m q f w y = sound-p h n ps l m f w y
    sound-c h n x (R.perform e) l m q f w y = sound-e h n e l m f w y
    sound-c h n x (R.test e c d) l m q f w y = sounds-both (sound-e h (n + 2) e l (omega arith) f.0 (search lows) y.0) (item (omega arith)
        (sounds-both (sound-c h (n + 2 + expr_labels e) x c l (omega arith) q f.1 (search lows) y.1) (item (omega arith) (item (omega arith)
        (sounds-both (sound-c h (n + 2 + expr_labels e + cmd_labels c) x d l (omega arith) q f.2 (search lows) y.2)
        (item (omega arith) s-none))))))
    sound-c h n x (R.when sense e c) l m q f w y = sounds-both (sound-e h (n + 1) e l (omega arith) f.0 (search lows) y.0)
        (item (omega (arith, sense-small sense 5 4 (omega arith) (omega arith)))
        (sounds-both (sound-c h (n + 1 + expr_labels e) x c l (omega arith) q f.1 (search lows) y.1) (item (omega arith) s-none)))
    sound-c h n x (R.while sense e c) l m q f w y = item (omega arith) (sounds-both (sound-e h (n + 2) e l (omega arith) f.0 (search lows) y.0)
        (item (omega (arith, sense-small sense 5 4 (omega arith) (omega arith)))
        (sounds-both (sound-c h (n + 2 + expr_labels e) _ c l (omega arith) (near-loop (omega arith) q) f.1 (search lows) y.1)
        (item (omega arith) (item (omega arith) s-none)))))
    sound-c h n x (R.repeat c) l m q f w y = item (omega arith) (sounds-both (sound-c h (n + 3) _ c l (omega arith) (near-loop (omega arith) q) f w y)
        (item (omega arith) (item (omega arith) (item (omega arith) s-none))))
    sound-c h n x (R.repeat_while sense c e) l m q f w y =
        item (omega arith) (sounds-both (sound-c h (n + 3) _ c l (omega arith) (near-loop (omega arith) q) f.0 (search lows) y.0)
        (item (omega arith) (sounds-both (sound-e h (n + 3 + cmd_labels c) e l (omega arith) f.1 (search lows) y.1)
        (item (omega (arith, sense-small sense 4 5 (omega arith) (omega arith))) (item (omega arith) s-none)))))
    sound-c h n x (R.for first limit by c) l m q f w y = let z : by < 65536 = f.3 in
        sounds-both (sound-e h (n + 3) first l (omega arith) f.0 (search lows) y.0) (item (omega arith)
        (sounds-both (sound-e (h + 1) (n + 3 + expr_labels first) limit (search lows) (omega arith) f.1 (search lows) y.1)
        (item (omega arith) (item (omega arith) (item (omega arith) (item (omega arith) (item (omega (arith, limit-small by)) (item (omega arith)
        (sounds-both (sound-c (h + 2) (n + 3 + expr_labels first + expr_labels limit) _ c (search lows) (omega arith) (near-loop (omega arith) q) f.2
        (search lows) y.2)
        (item (omega arith) (item (omega arith) (item (omega arith) (item (omega arith) (item (omega arith) (item (omega arith) s-none)))))))))))))))
    sound-c h n x (R.switch e cs) l m q f w y = sounds-both (sound-e h n e l (omega arith) f.0 (search lows) y.0)
        (item (omega arith) (item (omega (arith, f.2)) (item (default-near _ _ cs (omega arith) (omega arith))
        (sounds-both (sound-table _ h cs (omega arith) f.1)
        (sounds-both (sound-s h _ _ _ cs l (omega arith) (omega arith) (near-switch (omega arith) q) f.1 (search lows) y.1)
        (item (omega arith) s-none))))))
    sound-c h n x (R.resultis e) l m q f w y = sounds-both (sound-e h n e l m f w y.0) (item (omega (arith, q.result y.1)) s-none)
    sound-c h n x R.break l m q f w y = item (omega (arith, q.break y)) s-none
    sound-c h n x R.loop l m q f w y = item (omega (arith, q.loop y)) s-none
    sound-c h n x R.endcase l m q f w y = item (omega (arith, q.endcase y)) s-none
    sound-c h n x R.return l m q f w y = item (omega arith) s-none
    sound-c h n x R.finish l m q f w y = item (omega arith) s-none
    sound-c h n x (R.block ls cs) l m q f w y = sounds-both (sound-l h n ls l (omega arith) f.0 (search lows) y.0)
        (sound-b (height_with h ls) (n + locals_labels ls) x cs (after-low h ls l (search lows)) (omega arith) q f.1 (search lows) y.1)

    after-low : (h : ℕ) (ls : Locals) → h ≤ 8192 → Low (of_locals h ls) → height_with h ls ≤ 8192
    after-low h R.no_locals l w = l
    after-low h (R.vector k ls) l w = after-low (h + 2 + k) ls w.0 w.1
    after-low h (R.value e ls) l w = after-low (h + 1) ls (search lows) (search lows)

    sound-b : {a b v : Bool} (h n : ℕ) (x : Exits) (cs : Cmds) → h ≤ 8192 → Span T n (cmds_labels cs) → Near T a b v x → FormedB functions strings h cs
        → Low (of_cmds h cs) → LeavesB a b v cs → Sounds T (cmds_code (suc functions) h n x cs)
    sound-b h n x R.no_cmds l m q f w y = s-none
    sound-b h n x (R.and_cmd c cs) l m q f w y = sounds-both (sound-c h n x c l (omega arith) q f.0 (search lows) y.0)
        (sound-b h (n + cmd_labels c) x cs l (omega arith) q f.1 (search lows) y.1)

    sound-s : {a b v : Bool} (h t n : ℕ) (x : Exits) (cs : Cases) → h ≤ 8192 → Span T t (commands_in cs) → Span T n (cases_labels cs) → Near T a b v x
        → FormedS functions strings h cs → Low (of_cases h cs) → LeavesS a b v cs → Sounds T (cases_code (suc functions) h t n x cs)
    sound-s h t n x R.no_cases l k m q f w y = s-none
    sound-s h t n x (R.cases ls c cs) l k m q f w y = item (omega arith) (sounds-both (sound-c h n x c l (omega arith) q f.0 (search lows) y.0)
        (sound-s h (suc t) (n + cmd_labels c) x cs l (omega arith) (omega arith) q f.1 (search lows) y.1))

    sound-l : (h n : ℕ) (ls : Locals) → h ≤ 8192 → Span T n (locals_labels ls) → FormedL functions strings h ls → Low (of_locals h ls) → LeavesL ls
        → Sounds T (locals_code (suc functions) h n ls)
    sound-l h n R.no_locals l m f w y = s-none
    sound-l h n (R.vector k ls) l m f w y = item (omega arith) (item (omega arith) (sound-l (h + 2 + k) n ls w.0 m f.0 w.1 y))
    sound-l h n (R.value e ls) l m f w y = sounds-both (sound-e h n e l (omega arith) f.0 (search lows) y.0)
        (item (omega arith) (sound-l (h + 1) (n + expr_labels e) ls (search lows) (omega arith) f.1 (search lows) y.1))
