-- Labels and constants of commands: what is refused in them, and the words after a SWITCHON's X23.
use Rattle.std.specs.Prelude.{ℕ, ◌+◌, ◌≤◌, ◌<◌, ◌^◌, ◌≡◌, List, [], ◌∷◌, ◌++◌, length}
use Rattle.std.proofs.Math.Option.{Option, none, some}
use Rattle.items.specs.Item as I
use Rattle.language.specs.Tree as T
use Rattle.language.specs.Tree.{Constant, Label, Commands}
use Rattle.language.specs.Names.{Scope}
use Rattle.language.specs.Constants.{Fault, Judged, good, for_by}
use Rattle.language.specs.Resolved.{Cases, case_count}
use Rattle.language.specs.Resolve.{labels_before, case_list}
use Rattle.language.specs.Faults.{doubled, misplaced}
use Rattle.code.specs.Generate as G
use Rattle.tree.specs.Encoding.{encode_commands, encode_labels, encode_by}
use Rattle.compiler.specs.Scope.{Shows}
use Rattle.compiler.specs.declared.steps.State.{State}
use Rattle.language.specs.Fine.{FineLabels, FineBy}
use Rattle.compiler.specs.Fine.{FineCs}
use Rattle.compiler.specs.Walked.{Did, Emits}
use Rattle.compiler.specs.Walks.{Holds}
use Rattle.compiler.specs.Commands.{nothing}
use Rattle.compiler.specs.Locals.{Verdict, Says, Fitting}

-- refusals 8, 11 and 12 of the labels alone, after those before
unfoldable pub label_faults : List ℕ → Scope → (before : List Label) → Commands → List Fault
label_faults text s before T.no_commands = []
label_faults text s before (T.and_command c cs) = doubled text s before (labels_before c) ++ label_faults text s (before ++ labels_before c) cs

-- a list of commands stands from `from` on, below it the scope
pub record ReadyLabels (s : List ℕ) (from end top : ℕ) : Type 0 where
  pub base : ℕ
  pub scope : Scope
  pub commands : Commands
  pub lies : Holds s from (encode_commands commands)
  pub ends : end ≡ from + length (encode_commands commands)
  pub above : base ≤ from
  pub small : end < 2 ^ 32
  pub shows : Shows s top scope
  pub fine : FineCs commands

-- their refusals
pub record JudgesLabels (text s : List ℕ) (from end top : ℕ) (st st' : State) : Type 0 where
  pub by : (y : ReadyLabels s from end top) (t : List ℕ) → Did (label_faults text y.scope [] y.commands) nothing 0 t t st st'

-- X23, how many numbers, the default's address, and each number with its address. The commands of the list are labelled from `first` on,
-- and the SWITCHON ends at `done`
abbrev pub table_items : (first done : ℕ) → Cases → List I.Item
table_items first done cs = G.X 23 ∷ G.D (case_count cs) ∷ G.DL (G.default_of first done cs) ∷ G.table_of first cs

-- the words are these where nothing is refused in the labels; in any case there are no refusals and no labels more
pub record WritesTable (text s : List ℕ) (from end top first done : ℕ) (t t' : List ℕ) (st st' : State) : Type 0 where
  pub worst : st'.worst ≡ st.worst
  pub label : st'.label ≡ st.label
  pub by : (y : ReadyLabels s from end top) (h : ℕ) → label_faults text y.scope [] y.commands ≡ []
      → Emits (table_items first done (case_list text y.scope h y.commands)) [] t t' st st'

-- ---- labels that stand before no command of a list after INTO

pub record ReadyMisplaced (s : List ℕ) (from end top : ℕ) : Type 0 where
  pub base : ℕ
  pub scope : Scope
  pub labels : List Label
  pub lies : Holds s from (encode_labels labels)
  pub ends : end ≡ from + length (encode_labels labels)
  pub above : base ≤ from
  pub small : end < 2 ^ 32
  pub shows : Shows s top scope
  pub fine : FineLabels labels

pub record Misplaces (text s : List ℕ) (from end top : ℕ) (st st' : State) : Type 0 where
  pub by : (y : ReadyMisplaced s from end top) (t : List ℕ) → Did (misplaced text y.scope y.labels) nothing 0 t t st st'

-- ---- the constant of BY, which is 1 where there is none

abbrev pub by_judged : List ℕ → Scope → Option Constant → Judged
by_judged text s none = good 1
by_judged text s (some c) = for_by text s c

pub record JudgesBy (text s : List ℕ) (from end top : ℕ) (r : Verdict) : Type 0 where
  pub by : (sc : Scope) (k : Option Constant) → Shows s top sc → FineBy k → Holds s from (encode_by k) → end ≡ from + length (encode_by k)
      → Says r (by_judged text sc k)
  pub fits : Fitting r
