-- How many symbols a tree is written with at least, inserted semicolons apart.
use Rattle.laws.proofs.Basics.{ℕ, ◌+◌, ◌≤◌, ◌≡◌, refl, List, [], ◌∷◌, Bool, true, false, cond, Option, some, none, length, arith}
use Rattle.laws.proofs.Cases.{by_cases, contradiction}
use Rattle.language.specs.Tree as T
use Rattle.language.specs.Fine.{EmptyAfterLabels}
use Rattle.language.specs.Tree.{Constant, Label, Expression, Expressions, Suffixes, Operations, Command, Commands, Unlabelled, Repeats, Locals}
use Rattle.language.specs.Tree.{Body, Function, Declaration, Program}

unfoldable pub labels_tokens : List Label → ℕ
labels_tokens [] = 0
labels_tokens (T.case place k ∷ ls) = 3 + labels_tokens ls
labels_tokens (T.default place ∷ ls) = 2 + labels_tokens ls

abbrev pub by_tokens : Option Constant → ℕ
by_tokens none = 0
by_tokens (some k) = 2

abbrev pub begun : Unlabelled → Bool
begun T.empty = false
begun (T.assignment l r) = true
begun (T.call_command e) = true
begun (T.test e c d) = true
begun (T.guarded w e c) = true
begun (T.for n e d k c) = true
begun (T.switchon e cs) = true
begun (T.resultis place e) = true
begun (T.leave w place) = true
begun (T.block ls cs) = true

-- a command that is not empty is one symbol at least
abbrev pub started : Unlabelled → ℕ
started u = cond (begun u) 1 0

not-begun : (u : Unlabelled) → begun u ≡ false → u ≡ T.empty
not-begun T.empty e = refl
not-begun (T.assignment l r) e = cc
not-begun (T.call_command x) e = cc
not-begun (T.test x c d) e = cc
not-begun (T.guarded w x c) e = cc
not-begun (T.for n x d k c) e = cc
not-begun (T.switchon x cs) e = cc
not-begun (T.resultis place x) e = cc
not-begun (T.leave w place) e = cc
not-begun (T.block ls cs) e = cc

pub begun-not-empty : (u : Unlabelled) → begun u ≡ true → u ≡ T.empty → ⊥
begun-not-empty u e z = let b : begun T.empty ≡ true = rw z at e in contradiction cc

pub labels-tokens : (ls : List Label) → length ls ≤ labels_tokens ls
unfolding labels_tokens
labels-tokens [] = omega arith
labels-tokens (T.case place x ∷ ls) = omega (arith, labels-tokens ls)
labels-tokens (T.default place ∷ ls) = omega (arith, labels-tokens ls)

-- a command has a label or a symbol of its own
pub not-bare : {ls : List Label} {u : Unlabelled} {rs : Repeats} → EmptyAfterLabels ls u rs → 1 ≤ labels_tokens ls + started u
not-bare {ls} {u} f = by_cases (begun u) (λ e. rw e (omega arith)) (λ e. rw e (omega (arith, f.labels (not-begun u e), labels-tokens ls)))

-- a REPEAT form is counted as so many
module _ (loops : ℕ) where
  unfoldable mutual
    pub tokens : Expression → ℕ
    tokens (T.number place v) = 1
    tokens (T.string place k) = 1
    tokens (T.name n) = 1
    tokens (T.bracketed place e) = 2 + tokens e
    tokens (T.valof place c) = 1 + command_tokens c
    tokens (T.monadic place o e) = 1 + tokens e
    tokens (T.suffixed e ss) = tokens e + suffixes_tokens ss
    tokens (T.dyadic e os) = tokens e + operations_tokens os

    pub list_tokens : Expressions → ℕ
    list_tokens T.no_expressions = 0
    list_tokens (T.and_expression e es) = tokens e + list_tokens es

    pub suffixes_tokens : Suffixes → ℕ
    suffixes_tokens T.no_suffixes = 0
    suffixes_tokens (T.call es ss) = 2 + list_tokens es + suffixes_tokens ss
    suffixes_tokens (T.index e ss) = 1 + tokens e + suffixes_tokens ss

    pub operations_tokens : Operations → ℕ
    operations_tokens T.no_operations = 0
    operations_tokens (T.operation o e os) = 1 + tokens e + operations_tokens os

    pub command_tokens : Command → ℕ
    command_tokens (T.command ls u rs) = labels_tokens ls + unlabelled_tokens u + repeats_tokens rs

    pub commands_tokens : Commands → ℕ
    commands_tokens T.no_commands = 0
    commands_tokens (T.and_command c cs) = command_tokens c + commands_tokens cs

    pub unlabelled_tokens : Unlabelled → ℕ
    unlabelled_tokens T.empty = 0
    unlabelled_tokens (T.assignment left right) = 1 + list_tokens left + list_tokens right
    unlabelled_tokens (T.call_command e) = tokens e
    unlabelled_tokens (T.test e c d) = 3 + tokens e + command_tokens c + command_tokens d
    unlabelled_tokens (T.guarded w e c) = 2 + tokens e + command_tokens c
    unlabelled_tokens (T.for n e d k c) = 5 + tokens e + tokens d + by_tokens k + command_tokens c
    unlabelled_tokens (T.switchon e cs) = 3 + tokens e + commands_tokens cs
    unlabelled_tokens (T.resultis place e) = 1 + tokens e
    unlabelled_tokens (T.leave w place) = 1
    unlabelled_tokens (T.block ls cs) = 1 + locals_tokens ls + commands_tokens cs

    pub repeats_tokens : Repeats → ℕ
    repeats_tokens T.no_repeats = 0
    repeats_tokens (T.repeat rs) = loops + repeats_tokens rs
    repeats_tokens (T.repeat_on w e rs) = loops + tokens e + repeats_tokens rs

    pub locals_tokens : Locals → ℕ
    locals_tokens T.no_locals = 0
    locals_tokens (T.vector n k ls) = 5 + locals_tokens ls
    locals_tokens (T.values ns es ls) = 2 + length ns + list_tokens es + locals_tokens ls

  -- an expression takes a symbol at least, and so does a command that is not empty
  pub some-tokens : (e : Expression) → 1 ≤ tokens e
  unfolding tokens
  some-tokens (T.number place v) = omega arith
  some-tokens (T.string place k) = omega arith
  some-tokens (T.name n) = omega arith
  some-tokens (T.bracketed place e) = omega arith
  some-tokens (T.valof place c) = omega arith
  some-tokens (T.monadic place o e) = omega arith
  some-tokens (T.suffixed e ss) = omega (arith, some-tokens e)
  some-tokens (T.dyadic e os) = omega (arith, some-tokens e)

  pub begun-tokens : (u : Unlabelled) → begun u ≡ true → 1 ≤ unlabelled_tokens u
  unfolding tokens
  begun-tokens T.empty e = contradiction cc
  begun-tokens (T.assignment l r) e = omega arith
  begun-tokens (T.call_command x) e = some-tokens x
  begun-tokens (T.test x c d) e = omega arith
  begun-tokens (T.guarded w x c) e = omega arith
  begun-tokens (T.for n x d k c) e = omega arith
  begun-tokens (T.switchon x cs) e = omega arith
  begun-tokens (T.resultis place x) e = omega arith
  begun-tokens (T.leave w place) e = omega arith
  begun-tokens (T.block ls cs) e = omega arith

  pub started-tokens : (u : Unlabelled) → started u ≤ unlabelled_tokens u
  started-tokens u = by_cases (begun u) (λ e. rw e (begun-tokens u e)) (λ e. rw e (omega arith))

-- ---- a function is written with four symbols more than its parameters and body: its name, brackets, and = or BE

module _ (loops : ℕ) where
  abbrev pub body_tokens : Body → ℕ
  body_tokens (T.value e) = tokens loops e
  body_tokens (T.routine c) = command_tokens loops c

  unfoldable pub functions_tokens : List Function → ℕ
  functions_tokens [] = 0
  functions_tokens (f ∷ fs) = 4 + length f.parameters + body_tokens f.body + functions_tokens fs

  abbrev pub declaration_tokens : Declaration → ℕ
  declaration_tokens (T.globals is) = 0
  declaration_tokens (T.manifests is) = 0
  declaration_tokens (T.functions fs) = functions_tokens fs

  unfoldable pub program_tokens : Program → ℕ
  program_tokens [] = 0
  program_tokens (d ∷ ds) = declaration_tokens d + program_tokens ds
