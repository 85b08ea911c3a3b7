-- Items of a list by their ends, the labels before each command of a list, and what the functions on them ensure.
use Rattle.std.specs.Prelude.{ℕ, suc, ◌+◌, ◌-◌, ◌/◌, ◌%◌, ◌≤◌, ◌<◌, ◌^◌, ◌≡◌, Bool, cond, List, [], ◌∷◌, ◌++◌, length, get_or}
use Rattle.items.specs.Item as I
use Rattle.language.specs.Kinds as K
use Rattle.language.specs.Tree as T
use Rattle.language.specs.Tree.{Constant, Label, Commands}
use Rattle.language.specs.Names.{Scope}
use Rattle.language.specs.Constants.{Fault, good, judge}
use Rattle.language.specs.Resolved.{CaseLabel, has_case, has_default}
use Rattle.language.specs.Resolve.{labels_before, labels_of}
use Rattle.language.specs.Faults.{doubled_label, doubled, misplaced}
use Rattle.language.specs.Fine.{FineConstant}
use Rattle.code.specs.Generate as G
use Rattle.tree.specs.Encoding.{LABELLED, encode_constant}
use Rattle.compiler.specs.Scope.{Shows}
use Rattle.compiler.specs.declared.steps.State.{State}
use Rattle.compiler.specs.declared.labels.Span.{Span}
use Rattle.compiler.specs.Walked.{Did, Emits, Faulted}
use Rattle.compiler.specs.Walks.{Holds}
use Rattle.compiler.specs.Commands.{nothing}

-- ---- items

-- the items of a list, each by where it ends
pub data Row {A : Type 0} (P : ℕ → A → Type 0) (s : List ℕ) (end : ℕ) : ℕ → List A → Type 0 where
  no_more : {at : ℕ} → end ≡ at → Row P s end at []
  and_more : {at : ℕ} {x : A} {xs : List A} → at + 2 + get_or s at 0 ≤ end → P (at + 2 + get_or s at 0) x → Row P s end (at + 2 + get_or s at 0) xs
      → Row P s end at (x ∷ xs)

pub record NextItem (s : List ℕ) (at end r : ℕ) : Type 0 where
  pub further : at < r
  pub within : r ≤ end
  pub is : at + 2 + get_or s at 0 ≤ end → r ≡ at + 2 + get_or s at 0

-- ---- labels

-- a label whose record ends there
pub data LabelAt (s : List ℕ) (end : ℕ) : Label → Type 0 where
  a_case : {place lo : ℕ} {c : Constant} → get_or s (end - 1) 0 ≡ K.CASE → get_or s (end - 2) 0 ≡ place → Holds s lo (encode_constant c)
      → end - 4 ≡ lo + length (encode_constant c) → FineConstant c
      → LabelAt s end (T.case place c)
  a_default : {place : ℕ} → get_or s (end - 1) 0 ≡ K.DEFAULT → get_or s (end - 2) 0 ≡ place → LabelAt s end (T.default place)

-- the labels of a command that ends there
pub record CommandAt (s : List ℕ) (end : ℕ) (ls : List Label) : Type 0 where
  pub bare : (get_or s (end - 1) 0 ≡ LABELLED → ⊥) → ls ≡ []
  pub inside : get_or s (end - 1) 0 ≡ LABELLED → end - 4 - get_or s (end - 4) 0 + get_or s (end - 3) 0 ≤ end - 4
  pub row : get_or s (end - 1) 0 ≡ LABELLED → Row (LabelAt s) s (end - 4 - get_or s (end - 4) 0 + get_or s (end - 3) 0) (end - 4 - get_or s (end - 4) 0) ls

pub record Spans (s : List ℕ) (end : ℕ) (r : Span) : Type 0 where
  pub by : (ls : List Label) → CommandAt s end ls → Row (LabelAt s) s r.to r.from ls
  pub small : r.to < 2 ^ 32

-- items between two places, and the names in scope
pub record Listed {A : Type 0} (P : ℕ → A → Type 0) (s : List ℕ) (from end top : ℕ) : Type 0 where
  pub base : ℕ
  pub scope : Scope
  pub shows : Shows s top scope
  pub all : List A
  pub row : Row P s end from all

-- the labels of the commands of a list, command by command, and all of them
unfoldable pub marks : Commands → List (List Label)
marks T.no_commands = []
marks (T.and_command c cs) = labels_before c ∷ marks cs

unfoldable pub flat : List (List Label) → List Label
flat [] = []
flat (ls ∷ lss) = ls ++ flat lss

-- ---- labels before no command of a list after INTO

pub record MisplacesLabel (text s : List ℕ) (end top : ℕ) (st st' : State) : Type 0 where
  pub by : (sc : Scope) (l : Label) → Shows s top sc → LabelAt s end l → (t : List ℕ) → Did (misplaced text sc (l ∷ [])) nothing 0 t t st st'

-- ---- the words after X23

-- how many of the labels are CASE
unfoldable pub case_items : List Label → ℕ
case_items [] = 0
case_items (T.case place c ∷ ls) = suc (case_items ls)
case_items (T.default place ∷ ls) = case_items ls

pub record CountsLabel (s : List ℕ) (end r : ℕ) : Type 0 where
  pub by : (l : Label) → LabelAt s end l → r ≡ case_items (l ∷ [])
  pub few : r ≤ 1

pub record CountsCases (s : List ℕ) (from end r : ℕ) : Type 0 where
  pub by : (ls : List Label) → Row (LabelAt s) s end from ls → r ≡ case_items ls
  pub few : r < 2 ^ 32

pub record CountsAll (s : List ℕ) (from end r : ℕ) : Type 0 where
  pub by : (lss : List (List Label)) → Row (CommandAt s) s end from lss → r ≡ case_items (flat lss)

pub record HasDefault (s : List ℕ) (from end : ℕ) (r : Bool) : Type 0 where
  pub by : (ls : List Label) → Row (LabelAt s) s end from ls → (text : List ℕ) (sc : Scope) → r ≡ has_default (labels_of text sc ls)

-- the label of the first command with DEFAULT, where they are labelled from `l` on
unfoldable pub default_among : List ℕ → Scope → (l done : ℕ) → List (List Label) → ℕ
default_among text sc l done [] = done
default_among text sc l done (ls ∷ lss) = cond (has_default (labels_of text sc ls)) l (default_among text sc (l + 1) done lss)

pub record FindsDefault (s : List ℕ) (from end first done r : ℕ) : Type 0 where
  pub by : (lss : List (List Label)) → Row (CommandAt s) s end from lss → (text : List ℕ) (sc : Scope) → r ≡ default_among text sc first done lss

-- every constant is good
pub data Sound (text : List ℕ) (sc : Scope) : List Label → Type 0 where
  no_label : Sound text sc []
  good_case : {place : ℕ} {c : Constant} {ls : List Label} (v : ℕ) → judge text sc c ≡ good v → Sound text sc ls → Sound text sc (T.case place c ∷ ls)
  any_default : {place : ℕ} {ls : List Label} → Sound text sc ls → Sound text sc (T.default place ∷ ls)

unfoldable pub table_among : List ℕ → Scope → (l : ℕ) → List (List Label) → List I.Item
table_among text sc l [] = []
table_among text sc l (ls ∷ lss) = G.pairs_of l (labels_of text sc ls) ++ table_among text sc (l + 1) lss

-- no refusals and no labels more
pub record Still (st st' : State) : Type 0 where
  pub worst : st'.worst ≡ st.worst
  pub label : st'.label ≡ st.label

pub record WritesPair (text s : List ℕ) (end top l : ℕ) (t t' : List ℕ) (st st' : State) : Type 0 where
  pub still : Still st st'
  pub by : (sc : Scope) (x : Label) → Shows s top sc → LabelAt s end x → Sound text sc (x ∷ [])
      → Emits (G.pairs_of l (labels_of text sc (x ∷ []))) [] t t' st st'

pub record WritesPairs (text s : List ℕ) (from end top l : ℕ) (t t' : List ℕ) (st st' : State) : Type 0 where
  pub still : Still st st'
  pub by : (y : Listed (LabelAt s) s from end top) → Sound text y.scope y.all
      → Emits (G.pairs_of l (labels_of text y.scope y.all)) [] t t' st st'

pub record WritesAll (text s : List ℕ) (from end top l : ℕ) (t t' : List ℕ) (st st' : State) : Type 0 where
  pub still : Still st st'
  pub by : (y : Listed (CommandAt s) s from end top) → Sound text y.scope (flat y.all)
      → Emits (table_among text y.scope l y.all) [] t t' st st'

-- ---- a label after those before it, which are marked

-- flag i, of eight in an entry
abbrev pub flag : List ℕ → ℕ → ℕ
flag seen i = get_or seen (i / 8) 0 / 2 ^ (i % 8) % 2

-- flag v is 1 where CASE v is among the labels, flag 65536 where DEFAULT is, and else 0
pub record Marks (seen : List ℕ) (ls : List CaseLabel) : Type 0 where
  pub long : length seen ≡ 8193
  pub cases : (v : ℕ) → v < 65536 → flag seen v ≡ cond (has_case v ls) 1 0
  pub default : flag seen 65536 ≡ cond (has_default ls) 1 0

-- a flag becomes 1; where it was 1, 12 stands at the place
pub record Notes (i place : ℕ) (seen seen' : List ℕ) (st st' : State) : Type 0 where
  pub long : length seen' ≡ length seen
  pub here : i / 8 < length seen → flag seen' i ≡ 1
  pub other : (k : ℕ) → (k ≡ i → ⊥) → flag seen' k ≡ flag seen k
  pub fresh : i / 8 < length seen → flag seen i ≡ 0 → st' ≡ st
  pub again : (flag seen i ≡ 0 → ⊥) → Faulted place 12 st st'

-- these labels are marked now, and those were the refusals
pub record Marked (text : List ℕ) (sc : Scope) (ls : List Label) (fs : List Fault) (seen' : List ℕ) (st st' : State) : Type 0 where
  pub marks : Marks seen' (labels_of text sc ls)
  pub did : (t : List ℕ) → Did fs nothing 0 t t st st'

pub record JudgesLabel (text s : List ℕ) (end top : ℕ) (seen seen' : List ℕ) (st st' : State) : Type 0 where
  pub by : (sc : Scope) (before : List Label) (l : Label) → Shows s top sc → LabelAt s end l → Marks seen (labels_of text sc before)
      → Marked text sc (before ++ (l ∷ [])) (doubled_label text sc (labels_of text sc before) l) seen' st st'

pub record JudgesCommand (text s : List ℕ) (from end top : ℕ) (seen seen' : List ℕ) (st st' : State) : Type 0 where
  pub by : (y : Listed (LabelAt s) s from end top) (before : List Label) → Marks seen (labels_of text y.scope before)
      → Marked text y.scope (before ++ y.all) (doubled text y.scope before y.all) seen' st st'

-- of all labels, after those before
unfoldable pub faults_among : List ℕ → Scope → (before : List Label) → List (List Label) → List Fault
faults_among text sc before [] = []
faults_among text sc before (ls ∷ lss) = doubled text sc before ls ++ faults_among text sc (before ++ ls) lss
