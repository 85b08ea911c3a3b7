-- A whole program: its declarations in order, its functions resolved, and the refusals 8 to 14 and 16 (document 01).
use Rattle.std.specs.Prelude.{ℕ, ◌+◌, Bool, true, false, cond, List, [], ◌∷◌, ◌++◌, length, eqb, ltb}
use Rattle.language.specs.Tree as T
use Rattle.language.specs.Tree.{Name, Item, Function, Declaration, Program}
use Rattle.language.specs.Names as N
use Rattle.language.specs.Names.{Scope, outermost, opened, declared, lookup, in_block, on_found}
use Rattle.language.specs.Constants.{Fault, fault, judge, for_global, judged_word, faults_of}
use Rattle.language.specs.Resolved as R
use Rattle.language.specs.Resolved.{Body, Fun, Start, nowhere, in_global}
use Rattle.language.specs.Resolve.{declare_all, expression, command}
use Rattle.language.specs.Faults.{twice, in_expression, in_command}
use Rattle.language.specs.Heights.{largest_height}

-- ---- the outermost scope. Each item of GLOBAL and MANIFEST is known from its end on

unfoldable pub globals_after : List ℕ → Scope → List Item → Scope
globals_after text s [] = s
globals_after text s (i ∷ is) = globals_after text (declared s i.name (N.global (judged_word (for_global text s i.constant)))) is

unfoldable pub manifests_after : List ℕ → Scope → List Item → Scope
manifests_after text s [] = s
manifests_after text s (i ∷ is) = manifests_after text (declared s i.name (N.manifest (judged_word (judge text s i.constant)))) is

-- a function whose name is a declared global starts in that global's word; the name still means the global
abbrev pub start_of : N.Found → Start
start_of N.unknown = nowhere
start_of (N.known (N.global n)) = in_global n
start_of (N.known (N.local k)) = nowhere
start_of (N.known (N.manifest v)) = nowhere
start_of (N.known (N.function k)) = nowhere

abbrev pub with_function : Scope → Name → (position : ℕ) → Start → Scope
with_function s n k (in_global m) = s
with_function s n k nowhere = declared s n (N.function k)

-- functions are known in their whole LET..AND group and after it; `k` is the number of functions before
unfoldable pub functions_after : List ℕ → (k : ℕ) → Scope → List Function → Scope
functions_after text k s [] = s
functions_after text k s (f ∷ fs) = functions_after text (k + 1) (with_function s f.name k (start_of (lookup text s f.name))) fs

unfoldable pub declared_by : List ℕ → (k : ℕ) → Scope → Declaration → Scope
declared_by text k s (T.globals is) = globals_after text s is
declared_by text k s (T.manifests is) = manifests_after text s is
declared_by text k s (T.functions fs) = functions_after text k s fs

abbrev pub function_count : Declaration → ℕ
function_count (T.globals is) = 0
function_count (T.manifests is) = 0
function_count (T.functions fs) = length fs

-- ---- functions, in the scope of their group. The parameters are a block of their own

abbrev pub inside : Scope → Function → Scope
inside s f = declare_all (opened s) 2 f.parameters

abbrev pub body_of : List ℕ → Scope → (height : ℕ) → T.Body → Body
body_of text s h (T.value e) = R.expression (expression text s h e)
body_of text s h (T.routine c) = R.routine (command text s h c)

unfoldable pub resolved : List ℕ → Scope → Start → Function → Fun
resolved text s start f =
    record { parameters = length f.parameters; body = body_of text (inside s f) (2 + length f.parameters) f.body; start = start }

abbrev pub body_faults : List ℕ → Scope → (height : ℕ) → T.Body → List Fault
body_faults text s h (T.value e) = in_expression text s (record { loop = false; switch = false; valof = false; routine = false }) h e
body_faults text s h (T.routine c) = in_command text s (record { loop = false; switch = false; valof = false; routine = true }) h c

unfoldable pub function_faults : List ℕ → Scope → Function → List Fault
function_faults text s f = twice text (opened s) 2 f.parameters ++ body_faults text (inside s f) (2 + length f.parameters) f.body

-- ---- refusals of names at the outermost level: only a function may repeat a name there, and only a global's

unfoldable pub global_faults : List ℕ → Scope → List Item → List Fault
global_faults text s [] = []
global_faults text s (i ∷ is) =
    faults_of (for_global text s i.constant) ++ on_found (in_block text s i.name) [] (fault i.name.place 9)
    ++ global_faults text (declared s i.name (N.global (judged_word (for_global text s i.constant)))) is

unfoldable pub manifest_faults : List ℕ → Scope → List Item → List Fault
manifest_faults text s [] = []
manifest_faults text s (i ∷ is) =
    faults_of (judge text s i.constant) ++ on_found (in_block text s i.name) [] (fault i.name.place 9)
    ++ manifest_faults text (declared s i.name (N.manifest (judged_word (judge text s i.constant)))) is

-- the globals in which functions start, so far
abbrev pub also_taken : Start → List ℕ → List ℕ
also_taken nowhere ns = ns
also_taken (in_global n) ns = n ∷ ns

unfoldable pub among : ℕ → List ℕ → Bool
among v [] = false
among v (w ∷ ws) = cond (eqb v w) true (among v ws)

-- 9: a name that is no global's, or two functions in one global
abbrev pub name_fault : (place : ℕ) → List ℕ → N.Found → List Fault
name_fault place taken N.unknown = []
name_fault place taken (N.known (N.global n)) = cond (among n taken) (fault place 9) []
name_fault place taken (N.known (N.local k)) = fault place 9
name_fault place taken (N.known (N.manifest v)) = fault place 9
name_fault place taken (N.known (N.function k)) = fault place 9

-- ---- the walk of the declarations

-- where the walk stands: the names so far, the number of functions, and the globals in which they start
pub record Walk : Type 0 where
  pub scope : Scope
  pub functions : ℕ
  pub taken : List ℕ

unfoldable pub taken_after : List ℕ → (k : ℕ) → Scope → List ℕ → List Function → List ℕ
taken_after text k s taken [] = taken
taken_after text k s taken (f ∷ fs) =
    taken_after text (k + 1) (with_function s f.name k (start_of (lookup text s f.name))) (also_taken (start_of (lookup text s f.name)) taken) fs

abbrev pub taken_by : List ℕ → Walk → Declaration → List ℕ
taken_by text w (T.globals is) = w.taken
taken_by text w (T.manifests is) = w.taken
taken_by text w (T.functions fs) = taken_after text w.functions w.scope w.taken fs

unfoldable pub after_declaration : List ℕ → Walk → Declaration → Walk
after_declaration text w d =
    record { scope = declared_by text w.functions w.scope d; functions = w.functions + function_count d; taken = taken_by text w d }

unfoldable pub group_name_faults : List ℕ → (k : ℕ) → Scope → List ℕ → List Function → List Fault
group_name_faults text k s taken [] = []
group_name_faults text k s taken (f ∷ fs) =
    name_fault f.name.place taken (lookup text s f.name)
    ++ group_name_faults text (k + 1) (with_function s f.name k (start_of (lookup text s f.name)))
    (also_taken (start_of (lookup text s f.name)) taken) fs

unfoldable pub group_faults : List ℕ → Scope → List Function → List Fault
group_faults text s [] = []
group_faults text s (f ∷ fs) = function_faults text s f ++ group_faults text s fs

abbrev pub declaration_faults : List ℕ → Walk → Declaration → List Fault
declaration_faults text w (T.globals is) = global_faults text w.scope is
declaration_faults text w (T.manifests is) = manifest_faults text w.scope is
declaration_faults text w (T.functions fs) =
    group_name_faults text w.functions w.scope w.taken fs ++ group_faults text (functions_after text w.functions w.scope fs) fs

-- the functions of a group with their names: resolved in the scope `s` of the whole group, each started by its name in the scope before it
pub record Named : Type 0 where
  pub name : Name
  pub fun : Fun

unfoldable pub group_of : List ℕ → (k : ℕ) → (before s : Scope) → List Function → List Named
group_of text k before s [] = []
group_of text k before s (f ∷ fs) =
    record { name = f.name; fun = resolved text s (start_of (lookup text before f.name)) f }
    ∷ group_of text (k + 1) (with_function before f.name k (start_of (lookup text before f.name))) s fs

abbrev pub declaration_functions : List ℕ → Walk → Declaration → List Named
declaration_functions text w (T.globals is) = []
declaration_functions text w (T.manifests is) = []
declaration_functions text w (T.functions fs) = group_of text w.functions w.scope (functions_after text w.functions w.scope fs) fs

unfoldable pub faults_from : List ℕ → Walk → Program → List Fault
faults_from text w [] = []
faults_from text w (d ∷ ds) = declaration_faults text w d ++ faults_from text (after_declaration text w d) ds

unfoldable pub functions_from : List ℕ → Walk → Program → List Named
functions_from text w [] = []
functions_from text w (d ∷ ds) = declaration_functions text w d ++ functions_from text (after_declaration text w d) ds

abbrev pub begin : Walk
begin = record { scope = outermost; functions = 0; taken = [] }

-- refusals 8 to 13, and the functions in text order
unfoldable pub faults_of_program : List ℕ → Program → List Fault
faults_of_program text p = faults_from text begin p

unfoldable pub functions_of : List ℕ → Program → List Named
functions_of text p = functions_from text begin p

-- the largest height of each function, in text order
unfoldable pub largest_heights : List Named → List ℕ
largest_heights [] = []
largest_heights (f ∷ fs) = largest_height f.fun ∷ largest_heights fs

-- 16: height over 8,192 words, at the function's name
unfoldable pub height_faults : List Named → List Fault
height_faults [] = []
height_faults (f ∷ fs) = cond (ltb 8192 (largest_height f.fun)) (fault f.name.place 16) [] ++ height_faults fs

-- 14: no function in global 1
abbrev pub starts_in_one : Start → Bool
starts_in_one nowhere = false
starts_in_one (in_global n) = eqb n 1

unfoldable pub has_start : List Named → Bool
has_start [] = false
has_start (f ∷ fs) = cond (starts_in_one f.fun.start) true (has_start fs)

-- ---- the refusal of a stage: the smallest place, then the smallest number

pub data Refused : Type 0 where
  accepted : Refused
  refused : (number place : ℕ) → Refused

abbrev pub before : Fault → Fault → Bool
before f g = cond (ltb f.place g.place) true (cond (eqb f.place g.place) (ltb f.number g.number) false)

unfoldable pub least_from : Fault → List Fault → Fault
least_from f [] = f
least_from f (g ∷ gs) = least_from (cond (before g f) g f) gs

abbrev pub least_or : List Fault → Refused → Refused
least_or [] other = other
least_or (f ∷ fs) other = refused (least_from f fs).number (least_from f fs).place

-- 8 to 13; 16; then 14, at place 0
unfoldable pub rules_refuse : List ℕ → Program → Refused
rules_refuse text p =
    least_or (faults_of_program text p)
    (least_or (height_faults (functions_of text p))
    (cond (has_start (functions_of text p)) accepted (refused 14 0)))
