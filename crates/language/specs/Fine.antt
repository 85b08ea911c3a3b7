-- What is known of a tree that was read, whatever its names mean: numbers are words, as are places and widths of the names declared,
-- strings are among those of the text, words are those of their forms, lists match in length, and what may not be empty is not. Only
-- private functions' contracts cite it; that every tree that is read is fine is proved in `proofs/ReadTokens.antt`.
use Rattle.std.specs.Prelude.{ℕ, ◌+◌, ◌≤◌, ◌<◌, ◌≡◌, true, false, List, [], ◌∷◌, length}
use Rattle.std.proofs.Math.Option.{Option, none, some}
use Rattle.language.specs.Binding.{is_guard, is_leave}
use Rattle.language.specs.Tree as T
use Rattle.language.specs.Tree.{Name, Constant, Label, Expression, Expressions, Suffixes, Operations, Command, Commands, Unlabelled, Repeats}
use Rattle.language.specs.Tree.{Locals, Body, Function, Declaration, Item, Program, is_call, count}

-- the labels before the commands of a list
unfoldable pub label_count : Commands → ℕ
label_count T.no_commands = 0
label_count (T.and_command (T.command ls u rs) cs) = length ls + label_count cs

pub record FineName (n : Name) : Type 0 where
  pub place : n.place < 65536
  pub width : n.width < 65536

unfoldable pub FineNames : List Name → Type 0
FineNames [] = Unit {0}
FineNames (n ∷ ns) = FineName n × FineNames ns

-- a constant's number is a word, and a name without a minus stands at the constant's place
pub record FineConstant (c : Constant) : Type 0 where
  pub small : (v : ℕ) → c.simple ≡ T.literal v → v < 65536
  pub place : (n : Name) → c.simple ≡ T.known n → c.minus ≡ false → c.place ≡ n.place

abbrev pub FineBy : Option Constant → Type 0
FineBy none = Unit {0}
FineBy (some k) = FineConstant k

unfoldable pub FineLabels : List Label → Type 0
FineLabels [] = Unit {0}
FineLabels (T.case place k ∷ ls) = FineConstant k × FineLabels ls
FineLabels (T.default place ∷ ls) = FineLabels ls

-- empty commands stand only after CASE or DEFAULT, and take no REPEAT form
pub record EmptyAfterLabels (ls : List Label) (u : Unlabelled) (rs : Repeats) : Type 0 where
  pub labels : u ≡ T.empty → 1 ≤ length ls
  pub alone : u ≡ T.empty → rs ≡ T.no_repeats

-- in a text of so many strings
module _ (strings : ℕ) where
  unfoldable mutual
    pub Fine : Expression → Type 0
    Fine (T.number place v) = v < 65536
    Fine (T.string place k) = k < strings
    Fine (T.name n) = Unit {0}
    Fine (T.bracketed place e) = Fine e
    Fine (T.valof place c) = FineCommand c
    Fine (T.monadic place o e) = Fine e
    Fine (T.suffixed e ss) = Fine e × FineSuffixes ss × (ss ≡ T.no_suffixes → ⊥)
    Fine (T.dyadic e os) = Fine e × FineOperations os × (os ≡ T.no_operations → ⊥)

    pub FineList : Expressions → Type 0
    FineList T.no_expressions = Unit {0}
    FineList (T.and_expression e es) = Fine e × FineList es

    pub FineSuffixes : Suffixes → Type 0
    FineSuffixes T.no_suffixes = Unit {0}
    FineSuffixes (T.call es ss) = FineList es × FineSuffixes ss
    FineSuffixes (T.index e ss) = Fine e × FineSuffixes ss

    pub FineOperations : Operations → Type 0
    FineOperations T.no_operations = Unit {0}
    FineOperations (T.operation o e os) = Fine e × FineOperations os

    pub FineCommand : Command → Type 0
    FineCommand (T.command ls u rs) = FineLabels ls × FineUnlabelled u × FineRepeats rs × EmptyAfterLabels ls u rs

    pub FineCommands : Commands → Type 0
    FineCommands T.no_commands = Unit {0}
    FineCommands (T.and_command c cs) = FineCommand c × FineCommands cs

    pub FineUnlabelled : Unlabelled → Type 0
    FineUnlabelled T.empty = Unit {0}
    -- lists beside := match in length
    FineUnlabelled (T.assignment left right) = FineList left × FineList right × (1 ≤ count left) × (count left ≡ count right)
    FineUnlabelled (T.call_command e) = Fine e × (is_call e ≡ true)
    FineUnlabelled (T.test e c d) = Fine e × FineCommand c × FineCommand d
    FineUnlabelled (T.guarded w e c) = Fine e × FineCommand c × (is_guard w ≡ true)
    FineUnlabelled (T.for n e d k c) = Fine e × Fine d × FineBy k × FineCommand c × FineName n
    FineUnlabelled (T.switchon e cs) = Fine e × FineCommands cs × (label_count cs ≤ 65535)
    FineUnlabelled (T.resultis place e) = Fine e
    FineUnlabelled (T.leave w place) = is_leave w ≡ true
    FineUnlabelled (T.block ls cs) = FineLocals ls × FineCommands cs

    pub FineRepeats : Repeats → Type 0
    FineRepeats T.no_repeats = Unit {0}
    FineRepeats (T.repeat rs) = FineRepeats rs
    FineRepeats (T.repeat_on w e rs) = Fine e × FineRepeats rs

    pub FineLocals : Locals → Type 0
    FineLocals T.no_locals = Unit {0}
    FineLocals (T.vector n k ls) = FineConstant k × FineLocals ls × FineName n
    -- lists beside = match in length
    FineLocals (T.values ns es ls) = FineList es × FineLocals ls × (count es ≡ length ns) × FineNames ns

  abbrev pub FineBody : Body → Type 0
  FineBody (T.value e) = Fine e
  FineBody (T.routine c) = FineCommand c

  pub record FineFunction (f : Function) : Type 0 where
    pub name : FineName f.name
    pub parameters : FineNames f.parameters
    pub body : FineBody f.body

  unfoldable pub FineFunctions : List Function → Type 0
  FineFunctions [] = Unit {0}
  FineFunctions (f ∷ fs) = FineFunction f × FineFunctions fs

  pub record FineItem (i : Item) : Type 0 where
    pub name : FineName i.name
    pub constant : FineConstant i.constant

  unfoldable pub FineItems : List Item → Type 0
  FineItems [] = Unit {0}
  FineItems (i ∷ is) = FineItem i × FineItems is

  abbrev pub FineDeclaration : Declaration → Type 0
  FineDeclaration (T.globals is) = FineItems is
  FineDeclaration (T.manifests is) = FineItems is
  FineDeclaration (T.functions fs) = FineFunctions fs

  unfoldable pub FineProgram : Program → Type 0
  FineProgram [] = Unit {0}
  FineProgram (d ∷ ds) = FineDeclaration d × FineProgram ds
