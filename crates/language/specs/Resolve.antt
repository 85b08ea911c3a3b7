-- From a tree to the resolved tree. Where there is an error a stand-in is given: the tree is total, and Faults has the errors.
-- The height is carried along, since the words of locals are counted from it (document 01, "Places").
use Rattle.std.specs.Prelude.{ℕ, ◌+◌, true, false, cond, List, [], ◌∷◌, length, eqb}
use Rattle.std.proofs.Math.Option.{Option, none, some}
use Rattle.language.specs.Kinds.{IF, WHILE, UNTIL, REPEATWHILE, BREAK, LOOP, ENDCASE, RETURN, PLING, AT}
use Rattle.language.specs.Tree as T
use Rattle.language.specs.Tree.{Name, Constant, Label, Expression, Expressions, Suffixes, Operations, Command, Commands, Unlabelled, Repeats}
use Rattle.language.specs.Names as N
use Rattle.language.specs.Names.{Scope, opened, declared, lookup}
use Rattle.language.specs.Constants.{Judged, good, refused, judge, for_vector, for_by, judged_word}
use Rattle.language.specs.Resolved as R
use Rattle.language.specs.Resolved.{Expr, Exprs, Target, Pairs, Cmd, Cmds, Cases, CaseLabel, Locals}

-- ---- names

-- names declared one after another, at frame words from an offset on
unfoldable pub declare_all : Scope → (offset : ℕ) → List Name → Scope
declare_all s offset [] = s
declare_all s offset (n ∷ ns) = declare_all (declared s n (N.local offset)) (offset + 1) ns

abbrev pub of_meaning : N.Found → Expr
of_meaning N.unknown = R.constant 0
of_meaning (N.known (N.local k)) = R.local k
of_meaning (N.known (N.global n)) = R.global n
of_meaning (N.known (N.manifest v)) = R.constant v
of_meaning (N.known (N.function k)) = R.function k

-- ---- what may be assigned to, and what @ may take: a local, parameter, global or ! form

pub data Side : Type 0 where
  side : Target → Side
  no_side : Side

unfoldable pub side_of : Expr → Side
side_of (R.local k) = side (R.to_local k)
side_of (R.global n) = side (R.to_global n)
side_of (R.contents e) = side (R.to_contents e)
side_of (R.index a b) = side (R.to_index a b)
side_of (R.constant v) = no_side
side_of (R.function k) = no_side
side_of (R.string k) = no_side
side_of (R.address_of_local k) = no_side
side_of (R.address_of_global n) = no_side
side_of (R.address_of_contents e) = no_side
side_of (R.address_of_index a b) = no_side
side_of (R.unary o e) = no_side
side_of (R.binary o a b) = no_side
side_of (R.call e es) = no_side
side_of (R.valof c) = no_side

abbrev pub target_of : Side → Target
target_of (side t) = t
target_of no_side = R.to_local 0

abbrev pub address_of : Side → Expr
address_of (side (R.to_local k)) = R.address_of_local k
address_of (side (R.to_global n)) = R.address_of_global n
address_of (side (R.to_contents e)) = R.address_of_contents e
address_of (side (R.to_index a b)) = R.address_of_index a b
address_of no_side = R.constant 0

abbrev pub resolved_monadic : (operator : ℕ) → Expr → Expr
resolved_monadic o e = cond (eqb o PLING) (R.contents e) (cond (eqb o AT) (address_of (side_of e)) (R.unary o e))

-- ---- heights

-- the height at which a primary is evaluated, given what follows it: a call's function stands above its arguments
unfoldable pub under : Suffixes → ℕ → ℕ
under T.no_suffixes h = h
under (T.call es ss) h = under ss h + 2 + T.count es
under (T.index e ss) h = under ss h

-- the scope and the height after declarations: each local takes the next word, VEC n its name's word and n+1 more.
-- A list's names are known after the whole list
unfoldable pub scope_after : List ℕ → Scope → ℕ → T.Locals → Scope
scope_after text s h T.no_locals = s
scope_after text s h (T.vector n c ls) = scope_after text (declared s n (N.local h)) (h + 2 + judged_word (for_vector text s c)) ls
scope_after text s h (T.values ns es ls) = scope_after text (declare_all s h ns) (h + length ns) ls

unfoldable pub height_after : List ℕ → Scope → ℕ → T.Locals → ℕ
height_after text s h T.no_locals = h
height_after text s h (T.vector n c ls) = height_after text (declared s n (N.local h)) (h + 2 + judged_word (for_vector text s c)) ls
height_after text s h (T.values ns es ls) = height_after text (declare_all s h ns) (h + length ns) ls

-- ---- lists

abbrev pub pair_up : (left right : Exprs) → Pairs
pair_up R.none right = R.no_pairs
pair_up (R.and l ls) R.none = R.no_pairs
pair_up (R.and l ls) (R.and r rs) = R.pair (target_of (side_of l)) r (pair_up ls rs)

abbrev pub values_before : Exprs → Locals → Locals
values_before R.none ls = ls
values_before (R.and e es) ls = R.value e (values_before es ls)

-- the labels whose constants are good
abbrev pub good_case : Judged → List CaseLabel → List CaseLabel
good_case (good v) ls = R.case v ∷ ls
good_case (refused fs) ls = ls

abbrev pub labels_before : Command → List Label
labels_before (T.command ls u rs) = ls

unfoldable pub labels_of : List ℕ → Scope → List Label → List CaseLabel
labels_of text s [] = []
labels_of text s (T.case place c ∷ ls) = good_case (judge text s c) (labels_of text s ls)
labels_of text s (T.default place ∷ ls) = R.default ∷ labels_of text s ls

abbrev pub by_of : List ℕ → Scope → Option Constant → ℕ
by_of text s none = 1
by_of text s (some c) = judged_word (for_by text s c)

abbrev pub leaving : (word : ℕ) → Cmd
leaving w =
    cond (eqb w BREAK) R.break
    (cond (eqb w LOOP) R.loop
    (cond (eqb w ENDCASE) R.endcase
    (cond (eqb w RETURN) R.return R.finish)))

-- ---- the tree. `h` is the height at which a part is evaluated or run

unfoldable mutual
  pub expression : List ℕ → Scope → ℕ → Expression → Expr
  expression text s h (T.number place v) = R.constant v
  expression text s h (T.string place k) = R.string k
  expression text s h (T.name n) = of_meaning (lookup text s n)
  expression text s h (T.bracketed place e) = expression text s h e
  expression text s h (T.valof place c) = R.valof (command text s h c)
  expression text s h (T.monadic place o e) = resolved_monadic o (expression text s h e)
  expression text s h (T.suffixed e ss) = suffixes text s h (expression text s (under ss h) e) ss
  expression text s h (T.dyadic e os) = operations text s h (expression text s h e) os

  -- what is so far, and then each suffix
  pub suffixes : List ℕ → Scope → ℕ → Expr → Suffixes → Expr
  suffixes text s h e T.no_suffixes = e
  suffixes text s h e (T.call es ss) = suffixes text s h (R.call e (expressions text s (under ss h + 2) es)) ss
  suffixes text s h e (T.index d ss) = suffixes text s h (R.index e (expression text s (under ss h + 1) d)) ss

  -- operators group left; a right operand is evaluated one word above
  pub operations : List ℕ → Scope → ℕ → Expr → Operations → Expr
  operations text s h e T.no_operations = e
  operations text s h e (T.operation o d os) = operations text s h (R.binary o e (expression text s (h + 1) d)) os

  -- arguments and first values: each one word above the one before
  pub expressions : List ℕ → Scope → ℕ → Expressions → Exprs
  expressions text s h T.no_expressions = R.none
  expressions text s h (T.and_expression e es) = R.and (expression text s h e) (expressions text s (h + 1) es)

  -- the sides of an assignment: each pair in turn, at the same height
  pub sides : List ℕ → Scope → ℕ → Expressions → Exprs
  sides text s h T.no_expressions = R.none
  sides text s h (T.and_expression e es) = R.and (expression text s h e) (sides text s h es)

  pub command : List ℕ → Scope → ℕ → Command → Cmd
  command text s h (T.command ls u rs) = repeats text s h (unlabelled text s h u) rs

  pub repeats : List ℕ → Scope → ℕ → Cmd → Repeats → Cmd
  repeats text s h c T.no_repeats = c
  repeats text s h c (T.repeat rs) = repeats text s h (R.repeat c) rs
  repeats text s h c (T.repeat_on w e rs) = repeats text s h (R.repeat_while (eqb w REPEATWHILE) c (expression text s h e)) rs

  pub unlabelled : List ℕ → Scope → ℕ → Unlabelled → Cmd
  unlabelled text s h T.empty = R.empty
  unlabelled text s h (T.assignment left right) = R.assign (pair_up (sides text s (h + 1) left) (sides text s h right))
  unlabelled text s h (T.call_command e) = R.perform (expression text s h e)
  unlabelled text s h (T.test e c d) = R.test (expression text s h e) (command text s h c) (command text s h d)
  unlabelled text s h (T.guarded w e c) =
      cond (eqb w WHILE) (R.while true (expression text s h e) (command text s h c))
      (cond (eqb w UNTIL) (R.while false (expression text s h e) (command text s h c))
      (R.when (eqb w IF) (expression text s h e) (command text s h c)))
  unlabelled text s h (T.for n first limit by c) =
      R.for (expression text s h first) (expression text s (h + 1) limit) (by_of text s by)
      (command text (declared (opened s) n (N.local h)) (h + 2) c)
  unlabelled text s h (T.switchon e cs) = R.switch (expression text s h e) (case_list text s h cs)
  unlabelled text s h (T.resultis place e) = R.resultis (expression text s h e)
  unlabelled text s h (T.leave w place) = leaving w
  unlabelled text s h (T.block ls cs) =
      R.block (locals text (opened s) h ls) (commands text (scope_after text (opened s) h ls) (height_after text (opened s) h ls) cs)

  pub locals : List ℕ → Scope → ℕ → T.Locals → Locals
  locals text s h T.no_locals = R.no_locals
  locals text s h (T.vector n c ls) =
      R.vector (judged_word (for_vector text s c)) (locals text (declared s n (N.local h)) (h + 2 + judged_word (for_vector text s c)) ls)
  locals text s h (T.values ns es ls) = values_before (expressions text s h es) (locals text (declare_all s h ns) (h + length ns) ls)

  pub commands : List ℕ → Scope → ℕ → Commands → Cmds
  commands text s h T.no_commands = R.no_cmds
  commands text s h (T.and_command c cs) = R.and_cmd (command text s h c) (commands text s h cs)

  pub case_list : List ℕ → Scope → ℕ → Commands → Cases
  case_list text s h T.no_commands = R.no_cases
  case_list text s h (T.and_command c cs) = R.cases (labels_of text s (labels_before c)) (command text s h c) (case_list text s h cs)
