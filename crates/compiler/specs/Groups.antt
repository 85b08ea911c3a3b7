-- Functions: the names of a group, the globals in which they start, and each function's code.
use Rattle.std.specs.Prelude.{ℕ, suc, ◌+◌, ◌*◌, ◌≤◌, ◌<◌, ◌^◌, ◌≡◌, true, false, not, List, [], ◌∷◌, ◌++◌, length, get_or, set, eqb}
use Rattle.items.specs.Item as I
use Rattle.language.specs.Kinds as K
use Rattle.language.specs.Tree as T
use Rattle.language.specs.Tree.{Name, Function, Program}
use Rattle.language.proofs.Depth.{body_depth, functions_depth}
use Rattle.language.specs.Names as N
use Rattle.language.specs.Names.{Scope, lookup}
use Rattle.language.specs.Resolved.{Start, nowhere, in_global, Fun}
use Rattle.language.specs.Heights.{heights_of, of_body}
use Rattle.code.specs.Generate as G
use Rattle.language.specs.Program.{among}
use Rattle.tree.specs.Encoding.{closed, encode_name, encode_names, encode_body, body_word, encode_functions, encode_program}
use Rattle.compiler.specs.Scope.{Shows, Keeps, found, name_at}
use Rattle.language.specs.Fine.{FineBody, FineFunction, FineFunctions, FineProgram}
use Rattle.compiler.specs.Fine.{STRINGS}
use Rattle.compiler.specs.Walks.{Holds, Ready, Gave, Result}
use Rattle.compiler.specs.Walked.{Did, Code, least, AllFit}
use Rattle.compiler.specs.Commands.{nothing}
use Rattle.compiler.specs.declared.steps.State.{State}
use Rattle.compiler.specs.declared.steps.Here.{Here}
use Rattle.language.specs.Whole.{funs}
use Rattle.language.specs.Program.{Named, body_of, body_faults, start_of, with_function, functions_after, taken_after, group_name_faults}
use Rattle.language.specs.Program.{group_faults}
use Rattle.language.specs.Program.{function_faults, resolved, group_of, height_faults, name_fault, also_taken}
use Rattle.compiler.specs.declared.outer.Known.{Known}
use Rattle.compiler.specs.declared.program.Done.{Done}

-- ---- the table of globals: of each, the label of the function that starts there, or 0

-- every global in scope has a place in the table
unfoldable pub Small : Scope → Type 0
Small N.outermost = Unit {0}
Small (N.opened s) = Small s
Small (N.declared s n (N.local k)) = Small s
Small (N.declared s n (N.global m)) = (m < 400) × Small s
Small (N.declared s n (N.manifest v)) = Small s
Small (N.declared s n (N.function k)) = Small s

-- the globals that are taken
pub record Taken (table : List ℕ) (ns : List ℕ) : Type 0 where
  pub long : length table ≡ 400
  pub free : (n : ℕ) → n < 400 → among n ns ≡ false → get_or table n 0 ≡ 0
  pub used : (n : ℕ) → n < 400 → among n ns ≡ true → 0 < get_or table n 0

-- where the functions of a group start
unfoldable pub starts_in : List ℕ → (k : ℕ) → Scope → List Function → List Start
starts_in text k s [] = []
starts_in text k s (f ∷ fs) =
    start_of (lookup text s f.name) ∷ starts_in text (k + 1) (with_function s f.name k (start_of (lookup text s f.name))) fs

-- function l, from 0, starts in n if n's entry is its label
pub record Starting (table : List ℕ) (ss : List Start) : Type 0 where
  pub is : (n l : ℕ) → n < 400 → get_or table n 0 ≡ suc l → get_or ss l nowhere ≡ in_global n
  pub has : (n l : ℕ) → get_or ss l nowhere ≡ in_global n → get_or table n 0 ≡ suc l

-- 9 at a function's name, by what it means
pub record NameFaults (table : List ℕ) (m place : ℕ) (st st' : State) : Type 0 where
  pub by : (f : N.Found) (ns : List ℕ) → m ≡ found f → Taken table ns → ((n : ℕ) → f ≡ N.known (N.global n) → n < 400) → (t : List ℕ)
      → Did (name_fault place ns f) nothing 0 t t st st'

-- the table where function k starts there
abbrev pub started : List ℕ → (k : ℕ) → Start → List ℕ
started table k nowhere = table
started table k (in_global n) = set table n (k + 1)

-- a function's name: its global is taken, or it is pushed
pub record Enters (s s' table table' : List ℕ) (top leaf m k r : ℕ) : Type 0 where
  pub long : (length s' ≡ length s) × (length table' ≡ length table)
  pub by : (f : N.Found) (base : ℕ) (sc : Scope) (ns : List ℕ) (name : Name) → m ≡ found f → Shows s top sc → base ≤ length s → top + 2 ≤ base
      → name_at s leaf ≡ name → Taken table ns → ((n : ℕ) → f ≡ N.known (N.global n) → n < 400)
      → Shows s' r (with_function sc name k (start_of f)) × Keeps base top s s' × Taken table' (also_taken (start_of f) ns) × (top ≤ r) × (r ≤ top + 2)
      × (table' ≡ started table k (start_of f))

abbrev pub encode_function : Function → List ℕ
encode_function f =
    closed (encode_name f.name ++ (encode_names f.parameters ++ encode_body f.body)) (length (encode_names f.parameters)) 0
    (body_word f.body)

abbrev pub function_depth : Function → ℕ
function_depth f = body_depth f.body

abbrev pub FineB : T.Body → Type 0
FineB b = FineBody STRINGS b

abbrev pub FineF : Function → Type 0
FineF f = FineFunction STRINGS f

abbrev pub FineFs : List Function → Type 0
FineFs fs = FineFunctions STRINGS fs

-- ---- the names of a group

pub record ReadyGroup (s table : List ℕ) (from end top k : ℕ) : Type 0 where
  pub base : ℕ
  pub scope : Scope
  pub taken : List ℕ
  pub functions : List Function
  pub lies : Holds s from (encode_functions functions)
  pub ends : end ≡ from + length (encode_functions functions)
  pub above : base ≤ from
  pub long : base ≤ length s
  pub small : end < 2 ^ 32
  pub shows : Shows s top scope
  pub room : top + 2 * length functions ≤ base
  pub globals : Small scope
  pub free : Taken table taken
  pub few : k + length functions < 2 ^ 29
  pub fine : FineFs functions

pub record GroupKnown (text s s' table table' : List ℕ) (base : ℕ) (sc : Scope) (ns : List ℕ) (fs : List Function) (top k : ℕ) (st : State)
    (r : Known) : Type 0 where
  pub shows : Shows s' r.top (functions_after text k sc fs)
  pub keeps : Keeps base top s s'
  pub up : (top ≤ r.top) × (r.top ≤ top + 2 * length fs)
  pub taken : Taken table' (taken_after text k sc ns fs)
  pub did : (t : List ℕ) → Did (group_name_faults text k sc ns fs) nothing 0 t t st r.state
  pub starting : group_name_faults text k sc ns fs ≡ [] → (ss : List Start) → length ss ≡ k → Starting table ss
      → Starting table' (ss ++ starts_in text k sc fs)

pub record GroupNames (text s s' table table' : List ℕ) (from end top k : ℕ) (st : State) (r : Known) : Type 0 where
  pub by : (y : ReadyGroup s table from end top k) → GroupKnown text s s' table table' y.base y.scope y.taken y.functions top k st r

-- ---- a function, and the functions of a group

abbrev pub body_says : (text : List ℕ) → Here → Scope → T.Body → ℕ → Code
body_says text x sc b n = let r = body_of text sc x.height b in record {
  items = G.body_code x.strings x.height n r;
  heights = of_body x.height r;
  labels = G.body_labels r;
}

-- the word before a body, and whether RETURN may stand in it
pub record ReadyBody (s : List ℕ) (end : ℕ) (x : Here) (st : State) (word : ℕ) : Type 0 where
  pub ready : Ready encode_body body_depth FineB s end x st
  pub word_is : word ≡ body_word ready.tree
  pub routine_is : x.routine ≡ not (eqb word K.EQUAL)

pub record GaveBody (text s s' : List ℕ) (end word : ℕ) (x : Here) (t t' : List ℕ) (st st' : State) : Type 0 where
  pub by : (y : ReadyBody s end x st word) → let z = y.ready in
      Result (body_faults text z.scope x.height z.tree) (body_says text x z.scope z.tree) (length (encode_body z.tree))
      z.base x s s' t t' st st'

abbrev pub function_says : (text : List ℕ) → (strings label : ℕ) → Scope → Function → ℕ → Code
function_says text strings l sc f n = let r = resolved text sc nowhere f in record {
  items = I.label l ∷ (G.body_code strings (2 + r.parameters) n r.body ++ (G.X 4 ∷ []));
  heights = heights_of r;
  labels = G.body_labels r.body;
}

abbrev pub ReadyF : List ℕ → ℕ → Here → State → Type 0
ReadyF = Ready encode_function function_depth FineF

abbrev pub GaveF : (text s s' : List ℕ) → (label end : ℕ) → Here → (t t' : List ℕ) → (st st' : State) → Type 0
GaveF text s s' l end x t t' st st' =
    Gave encode_function function_depth FineF (λ sc f. function_faults text sc f)
    (λ sc f. function_says text x.strings l sc f) s s' end x t t' st st'

-- labels of the inner parts
unfoldable pub inner_labels : List Fun → ℕ
inner_labels [] = 0
inner_labels (f ∷ fs) = G.body_labels f.body + inner_labels fs

abbrev pub functions_says : (strings l : ℕ) → List Fun → ℕ → Code
functions_says strings l fs n = record { items = G.functions_code strings l n fs; heights = []; labels = inner_labels fs }

-- The names of the group are in scope already, with two entries each. A function has at least ten, so the room that is left serves each
-- function by itself, though not the whole group.
pub record ReadyFs (s : List ℕ) (from end : ℕ) (x : Here) (d : Done) : Type 0 where
  pub base : ℕ
  pub scope : Scope
  pub functions : List Function
  pub lies : Holds s from (encode_functions functions)
  pub ends : end ≡ from + length (encode_functions functions)
  pub above : base ≤ from
  pub long : base ≤ length s
  pub small : end < 2 ^ 32
  pub shows : Shows s x.top scope
  pub room : x.top * 2 + length (encode_functions functions) + 2 ≤ base * 2 + 4 * length functions
  pub height : x.height + 4100 * length (encode_functions functions) ≤ 2 ^ 29
  pub label : d.state.label + 2 * length (encode_functions functions) ≤ 2 ^ 29
  pub some : 0 < d.state.label
  pub strings : x.strings < 2 ^ 32
  pub shallow : functions_depth functions ≤ x.left
  pub fine : FineFs functions
  pub low : d.state.high ≡ 0

-- heights are folded for each function by itself: 16 in `tall`
pub record GroupWalked (text : List ℕ) (sc : Scope) (fs : List Function) (gs : List Named) (l base : ℕ) (x : Here) (s s' t t' : List ℕ) (d d' : Done)
    : Type 0 where
  pub result : Result (group_faults text sc fs) (functions_says x.strings l (funs gs)) (length (encode_functions fs)) base x s s' t t'
      d.state d'.state
  pub tall : group_faults text sc fs ≡ [] → d'.tall ≡ least d.tall (height_faults gs)
  pub fits : AllFit (height_faults gs)
  pub low : d'.state.high ≡ 0

-- `before` is the scope before the group: by it the functions' starts are known
pub record GaveFs (text s s' : List ℕ) (from end l : ℕ) (x : Here) (t t' : List ℕ) (d d' : Done) : Type 0 where
  pub by : (y : ReadyFs s from end x d) → (before : Scope) (k : ℕ) →
      GroupWalked text y.scope y.functions (group_of text k before y.scope y.functions) l y.base x s s' t t' d d'

-- ---- the declarations

abbrev pub FineDs : Program → Type 0
FineDs p = FineProgram STRINGS p

-- how many functions there are
unfoldable pub function_count : Program → ℕ
function_count [] = 0
function_count (T.globals is ∷ p) = function_count p
function_count (T.manifests is ∷ p) = function_count p
function_count (T.functions fs ∷ p) = length fs + function_count p

pub record CountsFunctions (s : List ℕ) (from end n : ℕ) : Type 0 where
  pub by : (p : Program) → Holds s from (encode_program p) → end ≡ from + length (encode_program p) → n ≡ function_count p

pub record CountsGroup (s : List ℕ) (from end n : ℕ) : Type 0 where
  pub by : (fs : List Function) → Holds s from (encode_functions fs) → end ≡ from + length (encode_functions fs) → n ≡ length fs
