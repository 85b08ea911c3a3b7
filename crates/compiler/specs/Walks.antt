-- What the functions of the walk ask and ensure.
use Rattle.std.specs.Prelude.{ℕ, suc, max, ◌+◌, ◌*◌, ◌≤◌, ◌<◌, ◌^◌, ◌≡◌, List, [], ◌∷◌, ◌++◌, length, get_or}
use Rattle.language.specs.Tree as T
use Rattle.language.specs.Tree.{Expression, Expressions, Suffixes, Operations}
use Rattle.language.proofs.Depth.{depth, expressions_depth, suffixes_depth, operations_depth}
use Rattle.language.specs.Names.{Scope}
use Rattle.language.specs.Constants.{Fault}
use Rattle.language.specs.Resolve.{expression, expressions, suffixes, under}
use Rattle.items.specs.Item as I
use Rattle.language.specs.Heights.{of_expr, of_exprs}
use Rattle.code.specs.Generate.{expr_code, exprs_code, expr_labels, exprs_labels, SP, LIP, AIP, X, dyadic_act}
use Rattle.language.specs.Faults.{in_expression, in_expressions, in_suffixes, in_operations}
use Rattle.tree.specs.Encoding.{encode, encode_expressions, encode_suffixes, encode_operations}
use Rattle.compiler.specs.Scope.{Shows, Keeps}
use Rattle.compiler.specs.declared.steps.State.{State}
use Rattle.compiler.specs.declared.steps.Here.{Here}
use Rattle.compiler.specs.Fine.{FineE, FineEs, FineSs, FineOs}
use Rattle.compiler.specs.Walked.{raised, leavable, Did, Code, expr_says, exprs_says}

-- x stands in s from lo on
pub record Holds (s : List ℕ) (lo : ℕ) (x : List ℕ) : Type 0 where
  pub at : (i : ℕ) → i < length x → get_or s (lo + i) 0 ≡ get_or x i 0

-- between lo and end stands a tree; the names in scope stand below it, with room for as many names as it may have, and so for labels
-- and heights; and it is no deeper than what is left
pub record Ready {A : Type 0} (enc : A → List ℕ) (deep : A → ℕ) (Fine : A → Type 0) (s : List ℕ) (end : ℕ) (here : Here) (st : State) : Type 0 where
  pub base : ℕ
  pub lo : ℕ
  pub tree : A
  pub scope : Scope
  pub lies : Holds s lo (enc tree)
  pub ends : end ≡ lo + length (enc tree)
  pub above : base ≤ lo
  pub long : base ≤ length s
  pub small : end < 2 ^ 32
  pub shows : Shows s here.top scope
  pub room : here.top * 2 + length (enc tree) ≤ base * 2
  pub height : here.height + 4100 * length (enc tree) ≤ 2 ^ 29
  pub label : st.label + 2 * length (enc tree) ≤ 2 ^ 29
  pub some : 0 < st.label
  pub strings : here.strings < 2 ^ 32
  pub shallow : deep tree ≤ here.left
  pub fine : Fine tree

-- what the walk of a tree of n entries leaves
pub record Result (fs : List Fault) (code : ℕ → Code) (n base : ℕ) (here : Here) (s s' t t' : List ℕ) (st st' : State) : Type 0 where
  pub keeps : Keeps base here.top s s'
  pub did : Did fs code (2 * n) t t' st st'

pub record Gave {A : Type 0} (enc : A → List ℕ) (deep : A → ℕ) (Fine : A → Type 0) (fs : Scope → A → List Fault) (code : Scope → A → ℕ → Code)
    (s s' : List ℕ) (end : ℕ) (here : Here) (t t' : List ℕ) (st st' : State) : Type 0 where
  pub by : (y : Ready enc deep Fine s end here st)
      → Result (fs y.scope y.tree) (code y.scope y.tree) (length (enc y.tree)) y.base here s s' t t' st st'

-- ---- an expression

abbrev pub faults_e : List ℕ → Here → Scope → Expression → List Fault
faults_e text here sc e = in_expression text sc (leavable here) here.height e

abbrev pub code_e : List ℕ → Here → Scope → Expression → ℕ → Code
code_e text here sc e = expr_says here.strings here.height (expression text sc here.height e)

abbrev pub ReadyE : List ℕ → ℕ → Here → State → Type 0
ReadyE = Ready encode depth FineE

abbrev pub GaveE : (text s s' : List ℕ) → ℕ → Here → (t t' : List ℕ) → (st st' : State) → Type 0
GaveE text s s' end here t t' st st' = Gave encode depth FineE (faults_e text here) (code_e text here) s s' end here t t' st st'

-- ---- arguments and first values, one word above another; the list starts at `from`

pub record ReadyArgs (s : List ℕ) (from end : ℕ) (here : Here) (st : State) : Type 0 where
  pub ready : Ready encode_expressions expressions_depth FineEs s end here st
  pub starts : ready.lo ≡ from

pub record GaveArgs (text s s' : List ℕ) (from end : ℕ) (here : Here) (t t' : List ℕ) (st st' : State) : Type 0 where
  pub by : (y : ReadyArgs s from end here st) → let z = y.ready in
      Result (in_expressions text z.scope (leavable here) here.height z.tree)
      (exprs_says here.strings here.height (expressions text z.scope here.height z.tree))
      (length (encode_expressions z.tree)) z.base here s s' t t' st st'

-- ---- operations, after the first operand; the list starts at `from`

-- the code after that of the first operand
unfoldable pub chain_code : (text : List ℕ) → Scope → (strings h : ℕ) → Operations → ℕ → List I.Item
chain_code text sc strings h T.no_operations n = []
chain_code text sc strings h (T.operation o d os) n = let e = expression text sc (h + 1) d in
    SP h ∷ (expr_code strings (h + 1) n e ++ (SP (h + 1) ∷ LIP h ∷ LIP (h + 1) ∷ X (dyadic_act o) ∷ chain_code text sc strings h os (n + expr_labels e)))

unfoldable pub chain_heights : (text : List ℕ) → Scope → (h : ℕ) → Operations → List ℕ
chain_heights text sc h T.no_operations = []
chain_heights text sc h (T.operation o d os) = (h + 1) ∷ (of_expr (h + 1) (expression text sc (h + 1) d) ++ chain_heights text sc h os)

unfoldable pub chain_labels : (text : List ℕ) → Scope → (h : ℕ) → Operations → ℕ
chain_labels text sc h T.no_operations = 0
chain_labels text sc h (T.operation o d os) = expr_labels (expression text sc (h + 1) d) + chain_labels text sc h os

abbrev pub chain_says : List ℕ → Here → Scope → Operations → ℕ → Code
chain_says text here sc os n = record {
  items = chain_code text sc here.strings here.height os n;
  heights = chain_heights text sc here.height os;
  labels = chain_labels text sc here.height os;
}

pub record ReadyChain (s : List ℕ) (from end : ℕ) (here : Here) (st : State) : Type 0 where
  pub ready : Ready encode_operations operations_depth FineOs s end here st
  pub starts : ready.lo ≡ from

pub record GaveChain (text s s' : List ℕ) (from end : ℕ) (here : Here) (t t' : List ℕ) (st st' : State) : Type 0 where
  pub by : (y : ReadyChain s from end here st) → let z = y.ready in
      Result (in_operations text z.scope (leavable here) here.height z.tree) (chain_says text here z.scope z.tree)
      (length (encode_operations z.tree)) z.base here s s' t t' st st'

-- ---- a primary, which ends at `middle`, with what follows it

pub record Applied : Type 0 where
  pub primary : Expression
  pub suffixes : Suffixes

abbrev pub encode_applied : Applied → List ℕ
encode_applied a = encode a.primary ++ encode_suffixes a.suffixes

abbrev pub deep_applied : Applied → ℕ
deep_applied a = max (depth a.primary) (suffixes_depth a.suffixes)

abbrev pub FineApplied : Applied → Type 0
FineApplied a = FineE a.primary × FineSs a.suffixes

abbrev pub faults_a : List ℕ → Here → Scope → Applied → List Fault
faults_a text here sc a =
    in_expression text sc (leavable here) (under a.suffixes here.height) a.primary
    ++ in_suffixes text sc (leavable here) here.height a.suffixes

abbrev pub code_a : List ℕ → Here → Scope → Applied → ℕ → Code
code_a text here sc a =
    expr_says here.strings here.height
    (suffixes text sc here.height (expression text sc (under a.suffixes here.height) a.primary) a.suffixes)

pub record ReadySuffixes (s : List ℕ) (middle end : ℕ) (here : Here) (st : State) : Type 0 where
  pub ready : Ready encode_applied deep_applied FineApplied s end here st
  pub parts : middle ≡ ready.lo + length (encode ready.tree.primary)

pub record GaveSuffixes (text s s' : List ℕ) (middle end : ℕ) (here : Here) (t t' : List ℕ) (st st' : State) : Type 0 where
  pub by : (y : ReadySuffixes s middle end here st) → let z = y.ready in
      Result (faults_a text here z.scope z.tree) (code_a text here z.scope z.tree) (length (encode_applied z.tree)) z.base
      here s s' t t' st st'

-- an index after what is in A
abbrev pub code_indexed : List ℕ → Here → Scope → Expression → ℕ → Code
code_indexed text here sc e n = let b = expression text sc (here.height + 1) e in record {
  items = SP here.height ∷ (expr_code here.strings (here.height + 1) n b ++ (AIP here.height ∷ X 1 ∷ []));
  heights = (here.height + 1) ∷ of_expr (here.height + 1) b;
  labels = expr_labels b;
}

pub record GaveIndexed (text s s' : List ℕ) (end : ℕ) (here : Here) (t t' : List ℕ) (st st' : State) : Type 0 where
  pub by : (y : ReadyE s end (raised 1 here) st)
      → Result (faults_e text (raised 1 here) y.scope y.tree) (code_indexed text here y.scope y.tree) (length (encode y.tree)) y.base
      here s s' t t' st st'

-- the arguments of a call
abbrev pub code_passed : List ℕ → Here → Scope → Expressions → ℕ → Code
code_passed text here sc es n = let rs = expressions text sc (here.height + 2) es in record {
  items = exprs_code here.strings (here.height + 2) n rs;
  heights = (here.height + 2) ∷ of_exprs (here.height + 2) rs;
  labels = exprs_labels rs;
}

pub record GavePassed (text s s' : List ℕ) (from end : ℕ) (here : Here) (t t' : List ℕ) (st st' : State) : Type 0 where
  pub by : (y : ReadyArgs s from end (raised 2 here) st) → let z = y.ready in
      Result (in_expressions text z.scope (leavable here) (here.height + 2) z.tree) (code_passed text here z.scope z.tree)
      (length (encode_expressions z.tree)) z.base here s s' t t' st st'

-- items stand one after another up to `end`, each with its size and a tag in front: so many of them
pub data Items (s : List ℕ) (end : ℕ) : (from n : ℕ) → Type 0 where
  no_item : {from : ℕ} → end ≤ from → Items s end from 0
  an_item : {from n : ℕ} → from < end → Items s end (from + 2 + get_or s from 0) n → Items s end from (suc n)

pub record Counts (s : List ℕ) (from end n : ℕ) : Type 0 where
  pub by : (m : ℕ) → Items s end from m → n ≡ m
