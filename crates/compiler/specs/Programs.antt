-- The walk of a whole program.
use Rattle.std.specs.Prelude.{ℕ, ◌+◌, ◌*◌, ◌≤◌, ◌<◌, ◌^◌, ◌≡◌, Bool, List, [], ◌∷◌, ◌++◌, length, replicate}
use Rattle.language.specs.Kinds as K
use Rattle.language.specs.Tree as T
use Rattle.language.specs.Tree.{Declaration, Program}
use Rattle.language.specs.Constants.{Fault}
use Rattle.language.specs.Resolved.{Start, Fun}
use Rattle.language.proofs.Depth.{declaration_depth, program_depth}
use Rattle.language.specs.Fine.{FineDeclaration}
use Rattle.tree.specs.Encoding.{encode_items, encode_functions, encode_program}
use Rattle.compiler.specs.Scope.{Shows, Keeps}
use Rattle.compiler.specs.Fine.{STRINGS}
use Rattle.compiler.specs.Items.{Items}
use Rattle.compiler.specs.Walks.{Holds}
use Rattle.compiler.specs.Walked.{Did, least, AllFit}
use Rattle.language.specs.Program.{Walk, begin, after_declaration, declaration_faults, declaration_functions, faults_from, functions_from}
use Rattle.language.specs.Program.{height_faults}
use Rattle.language.specs.Program.{Named}
use Rattle.language.specs.Whole.{funs}
use Rattle.compiler.specs.Groups.{FineDs, Small, Taken, Starting, functions_says}
use Rattle.compiler.specs.declared.program.Done.{Done}
use Rattle.compiler.specs.declared.program.Progress.{Progress}

unfoldable pub starts_of : List Fun → List Start
starts_of [] = []
starts_of (f ∷ fs) = f.start ∷ starts_of fs

-- ---- one declaration

-- what stands after the size and the tag of a declaration, and the tag
abbrev pub encode_declared : Declaration → List ℕ
encode_declared (T.globals is) = encode_items is
encode_declared (T.manifests is) = encode_items is
encode_declared (T.functions fs) = encode_functions fs

abbrev pub declared_word : Declaration → ℕ
declared_word (T.globals is) = K.GLOBAL
declared_word (T.manifests is) = K.MANIFEST
declared_word (T.functions fs) = K.LET

-- what is known between declarations
pub record Stands (base : ℕ) (s table : List ℕ) (w : Walk) (l : Progress) : Type 0 where
  pub shows : Shows s l.top w.scope
  pub globals : Small w.scope
  pub free : Taken table w.taken
  pub many : l.functions ≡ w.functions
  pub some : 0 < l.done.state.label
  pub low : l.done.state.high ≡ 0

-- these faults are found, and where there are none these functions are written, the first with label l, their heights judged
pub record Yields (strings l : ℕ) (fs : List Fault) (gs : List Named) (most : ℕ) (t t' : List ℕ) (d d' : Done) : Type 0 where
  pub did : Did fs (functions_says strings l (funs gs)) most t t' d.state d'.state
  pub tall : fs ≡ [] → d'.tall ≡ least d.tall (height_faults gs)
  pub fits : AllFit (height_faults gs)

-- items of GLOBAL or MANIFEST: no function is walked
pub record NamedItems (g : Bool) (text s s' : List ℕ) (from end : ℕ) (l r : Progress) : Type 0 where
  pub known : Items g text s s' from end l.top l.done.state (record { top = r.top; state = r.done.state })
  pub low : r.done.state.high ≡ 0
  pub functions : r.functions ≡ l.functions
  pub tall : r.done.tall ≡ l.done.tall

-- the declaration stands from `from` on, behind its size and its tag
pub record ReadyDeclaration (s table : List ℕ) (from end tag left strings : ℕ) (l : Progress) : Type 0 where
  pub base : ℕ
  pub walk : Walk
  pub part : Declaration
  pub stands : Stands base s table walk l
  pub lies : Holds s from (encode_declared part)
  pub ends : end ≡ from + length (encode_declared part)
  pub word : tag ≡ declared_word part
  pub above : base ≤ from
  pub long : base ≤ length s
  pub small : end < 2 ^ 32
  pub room : l.top * 2 + length (encode_declared part) + 2 ≤ base * 2
  pub height : 4100 * length (encode_declared part) ≤ 2 ^ 29
  pub label : l.done.state.label + 2 * length (encode_declared part) ≤ 2 ^ 29
  pub few : l.functions + length (encode_declared part) < 2 ^ 29
  pub names : strings < 2 ^ 32
  pub shallow : declaration_depth part ≤ left
  pub fine : FineDeclaration STRINGS part

-- the walk goes on behind the declaration
pub record WalkedOn (text : List ℕ) (w : Walk) (p : Declaration) (base strings : ℕ) (s s' table table' t t' : List ℕ) (l r : Progress) : Type 0 where
  pub stands : Stands base s' table' (after_declaration text w p) r
  pub keeps : Keeps base l.top s s'
  pub up : (l.top ≤ r.top) × (r.top * 2 ≤ l.top * 2 + length (encode_declared p))
  pub yields : Yields strings (w.functions + 1) (declaration_faults text w p) (declaration_functions text w p) (2 * length (encode_declared p))
      t t' l.done r.done
  pub starting : declaration_faults text w p ≡ [] → (ss : List Start) → length ss ≡ w.functions → Starting table ss
      → Starting table' (ss ++ starts_of (funs (declaration_functions text w p)))

pub record GaveDeclaration (text s s' table table' : List ℕ) (from end tag left strings : ℕ) (t t' : List ℕ) (l r : Progress) : Type 0 where
  pub by : (y : ReadyDeclaration s table from end tag left strings l) → WalkedOn text y.walk y.part y.base strings s s' table table' t t' l r

-- ---- all of them

-- the tree stands from `base` on, up to `end`; nothing is in scope yet; the first inner label is d's
pub record ReadyProgram (s table : List ℕ) (base end left strings : ℕ) (d : Done) : Type 0 where
  pub program : Program
  pub lies : Holds s base (encode_program program)
  pub ends : end ≡ base + length (encode_program program)
  pub long : base ≤ length s
  pub small : end < 2 ^ 32
  pub room : length (encode_program program) ≤ base * 2
  pub height : 4100 * length (encode_program program) + 2 ≤ 2 ^ 29
  pub label : d.state.label + 2 * length (encode_program program) ≤ 2 ^ 29
  pub some : 0 < d.state.label
  pub names : strings < 2 ^ 29
  pub shallow : program_depth program ≤ left
  pub fine : FineDs program
  pub low : d.state.high ≡ 0
  pub empty : table ≡ replicate 400 0

pub record Walked (text : List ℕ) (p : Program) (base strings : ℕ) (s s' table table' t t' : List ℕ) (d d' : Done) : Type 0 where
  pub did : Did (faults_from text begin p) (functions_says strings 1 (funs (functions_from text begin p))) (2 * length (encode_program p)) t t'
      d.state d'.state
  pub tall : faults_from text begin p ≡ [] → d'.tall ≡ least d.tall (height_faults (functions_from text begin p))
  pub fits : AllFit (height_faults (functions_from text begin p))
  pub starting : faults_from text begin p ≡ [] → Starting table' (starts_of (funs (functions_from text begin p)))
  pub long : length table' ≡ 400
  pub keeps : Keeps base 0 s s'

pub record GaveProgram (text s s' table table' : List ℕ) (base end left strings : ℕ) (t t' : List ℕ) (d d' : Done) : Type 0 where
  pub by : (y : ReadyProgram s table base end left strings d) → Walked text y.program base strings s s' table table' t t' d d'
