-- Constants and declarations of locals.
use Rattle.std.specs.Prelude.{ℕ, ◌+◌, ◌*◌, ◌-◌, ◌≤◌, ◌<◌, ◌^◌, ◌≡◌, Bool, List, [], ◌∷◌, ◌++◌, length, get_or, leb, Result, Ok, Err}
use Rattle.text.specs.Faults.{number_of}
use Rattle.language.specs.Tree as T
use Rattle.language.specs.Tree.{Name, Constant, Expressions}
use Rattle.language.proofs.Depth.{expressions_depth, locals_depth}
use Rattle.language.specs.Names as N
use Rattle.language.specs.Names.{Scope, declared}
use Rattle.language.specs.Constants.{Fault, fault, Judged, good, refused, judge, within, for_vector, judged_word, faults_of, of_found}
use Rattle.language.specs.Resolved as R
use Rattle.language.specs.Resolve.{expressions, locals, declare_all, scope_after, height_after}
use Rattle.language.specs.Heights.{of_exprs, of_locals}
use Rattle.code.specs.Generate as G
use Rattle.language.specs.Faults.{in_expressions, in_locals, twice}
use Rattle.tree.specs.Encoding.{closed, encode_name, encode_names, encode_constant, encode_expressions, encode_locals}
use Rattle.compiler.specs.Scope.{Shows, Keeps, found}
use Rattle.compiler.specs.declared.steps.State.{State}
use Rattle.compiler.specs.declared.steps.Here.{Here}
use Rattle.compiler.specs.declared.steps.Placed.{Placed}
use Rattle.compiler.specs.declared.steps.Refused.{Refused}
use Rattle.compiler.specs.Walked.{leavable, Did, Code}
use Rattle.compiler.specs.Fine.{FineEs, FineLs}
use Rattle.language.specs.Fine.{FineName, FineNames, FineConstant}
use Rattle.compiler.specs.Walks.{Holds, Ready}
use Rattle.compiler.specs.Commands.{nothing}

-- ---- constants

-- a constant's word, or what is refused in it
abbrev pub Verdict : Type 0
Verdict = Result ℕ Refused

-- the word, with 0 where it is refused
abbrev pub word_of : Verdict → ℕ
word_of (Ok v) = v
word_of (Err e) = 0

-- its place and number fit the one number of a refusal
abbrev pub Fitting : Verdict → Type 0
Fitting (Ok v) = Unit {0}
Fitting (Err e) = (e.place < 2 ^ 32) × (number_of e.fault < 32)

-- what a verdict says
pub data Says : Verdict → Judged → Type 0 where
  says_good : {v : ℕ} → Says (Ok v) (good v)
  says_refused : {e : Refused} → Says (Err e) (refused (fault e.place (number_of e.fault)))

pub record NamedConstant (m : ℕ) (minus : Bool) (name place : ℕ) (r : Verdict) : Type 0 where
  pub by : (c : Constant) (n : Name) (f : N.Found) → m ≡ found f → c.minus ≡ minus → c.place ≡ place → n.place ≡ name → Says r (of_found c n f)
  pub fits : Fitting r
  pub low : word_of r < 2 ^ 30

-- whatever constant ends there
pub record Judges (text s : List ℕ) (end top : ℕ) (r : Verdict) : Type 0 where
  pub by : (sc : Scope) (lo : ℕ) (c : Constant) → Shows s top sc → FineConstant c → Holds s lo (encode_constant c)
      → end ≡ lo + length (encode_constant c) → Says r (judge text sc c)
  pub fits : Fitting r
  -- it is a meaning's word
  pub low : word_of r < 2 ^ 30

-- 11 where it is greater than that
pub record JudgesMost (most : ℕ) (text s : List ℕ) (end top : ℕ) (r : Verdict) : Type 0 where
  pub by : (sc : Scope) (lo : ℕ) (c : Constant) → Shows s top sc → FineConstant c → Holds s lo (encode_constant c)
      → end ≡ lo + length (encode_constant c)
      → Says r (within c (λ v. leb v most) (judge text sc c))
  pub fits : Fitting r
  pub small : word_of r ≤ most

pub record Blames (j : Verdict) (st st' : State) : Type 0 where
  pub by : (x : Judged) → Says j x → (t : List ℕ) → Did (faults_of x) nothing 0 t t st st'

-- ---- one declaration of locals

pub data Local : Type 0 where
  a_vector : Name → Constant → Local
  some_values : List Name → Expressions → Local

abbrev pub with_local : Local → T.Locals → T.Locals
with_local (a_vector n c) ls = T.vector n c ls
with_local (some_values ns es) ls = T.values ns es ls

unfoldable pub encode_local : Local → List ℕ
encode_local (a_vector n c) = closed (encode_name n ++ encode_constant c) (length (encode_name n)) 0 6
encode_local (some_values ns es) = closed (encode_names ns ++ encode_expressions es) (length (encode_names ns)) 0 3

unfoldable pub local_depth : Local → ℕ
local_depth (a_vector n c) = 0
local_depth (some_values ns es) = expressions_depth es

unfoldable pub FineLocal : Local → Type 0
FineLocal (a_vector n c) = FineConstant c × FineName n
FineLocal (some_values ns es) = (length ns ≡ T.count es) × FineEs es × FineNames ns

unfoldable pub scope_with : List ℕ → Scope → ℕ → Local → Scope
scope_with text sc h (a_vector n c) = declared sc n (N.local h)
scope_with text sc h (some_values ns es) = declare_all sc h ns

unfoldable pub height_with : List ℕ → Scope → ℕ → Local → ℕ
height_with text sc h (a_vector n c) = h + 2 + judged_word (for_vector text sc c)
height_with text sc h (some_values ns es) = h + length ns

unfoldable pub faults_l : List ℕ → Scope → Here → Local → List Fault
faults_l text sc x (a_vector n c) = faults_of (for_vector text sc c) ++ twice text sc x.height (n ∷ [])
faults_l text sc x (some_values ns es) = in_expressions text sc (leavable x) x.height es ++ twice text sc x.height ns

unfoldable pub local_says : List ℕ → Scope → Here → Local → ℕ → Code
local_says text sc x (a_vector n c) k = let h = x.height in
    record { items = G.LP (h + 1) ∷ G.SP h ∷ []; heights = (h + 2 + judged_word (for_vector text sc c)) ∷ []; labels = 0 }
local_says text sc x (some_values ns es) k = let h = x.height in let rs = expressions text sc h es in
    record { items = G.exprs_code x.strings h k rs; heights = of_exprs h rs; labels = G.exprs_labels rs }

abbrev pub ReadyLocal : List ℕ → ℕ → Here → State → Type 0
ReadyLocal = Ready encode_local local_depth FineLocal

pub record VectorKind (s : List ℕ) (end : ℕ) : Type 0 where
  pub is : get_or s (end - 1) 0 ≡ 6

-- after declarations of so many entries: the scope and the height are those
pub record After (sc : Scope) (h n base : ℕ) (x : Here) (s s' : List ℕ) (r : Placed) : Type 0 where
  pub shows : Shows s' r.top sc
  pub height : r.height ≡ h
  pub keeps : Keeps base x.top s s'
  pub above : x.top ≤ r.top
  pub room : r.top * 2 ≤ x.top * 2 + n
  pub tall : r.height ≤ x.height + 4100 * n

pub record LocalDone (text : List ℕ) (sc : Scope) (l : Local) (base : ℕ) (x : Here) (s s' t t' : List ℕ) (st : State) (r : Placed) : Type 0 where
  pub after : After (scope_with text sc x.height l) (height_with text sc x.height l) (length (encode_local l)) base x s s' r
  pub did : Did (faults_l text sc x l) (local_says text sc x l) (2 * length (encode_local l)) t t' st r.done

pub record GaveLocal (text s s' : List ℕ) (end : ℕ) (x : Here) (t t' : List ℕ) (st : State) (r : Placed) : Type 0 where
  pub by : (y : ReadyLocal s end x st) → LocalDone text y.scope y.tree y.base x s s' t t' st r

-- ---- all of them, from `from` on

abbrev pub locals_says : Here → (h : ℕ) → R.Locals → ℕ → Code
locals_says x h ls n = record { items = G.locals_code x.strings h n ls; heights = of_locals h ls; labels = G.locals_labels ls }

pub record ReadyLocals (s : List ℕ) (from end : ℕ) (x : Here) (st : State) : Type 0 where
  pub ready : Ready encode_locals locals_depth FineLs s end x st
  pub starts : ready.lo ≡ from

pub record LocalsDone (text : List ℕ) (sc : Scope) (ls : T.Locals) (base : ℕ) (x : Here) (s s' t t' : List ℕ) (st : State) (r : Placed) : Type 0 where
  pub after : After (scope_after text sc x.height ls) (height_after text sc x.height ls) (length (encode_locals ls)) base x s s' r
  pub did : Did (in_locals text sc (leavable x) x.height ls) (locals_says x x.height (locals text sc x.height ls))
      (2 * length (encode_locals ls)) t t' st r.done

pub record GaveLocals (text s s' : List ℕ) (from end : ℕ) (x : Here) (t t' : List ℕ) (st : State) (r : Placed) : Type 0 where
  pub by : (y : ReadyLocals s from end x st) → let z = y.ready in LocalsDone text z.scope z.tree z.base x s s' t t' st r
