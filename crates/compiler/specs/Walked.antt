-- What the walk does: faults, and where there are none, items, heights and labels.
use Rattle.std.specs.Prelude.{ℕ, ◌+◌, ◌*◌, ◌-◌, ◌≤◌, ◌<◌, ◌^◌, ◌≡◌, false, not, cond, List, [], ◌∷◌, get_or, eqb, ltb}
use Rattle.items.specs.Item as I
use Rattle.language.specs.Names.{Found, on_found}
use Rattle.language.specs.Constants.{Fault, fault}
use Rattle.language.specs.Resolved.{Expr, Exprs}
use Rattle.language.specs.Resolve.{of_meaning}
use Rattle.language.specs.Heights.{of_expr, of_exprs, greatest}
use Rattle.code.specs.Generate.{expr_code, exprs_code, expr_labels, exprs_labels, Exits, JL}
use Rattle.language.specs.Faults.{Leavable, unless}
use Rattle.writing.specs.Text.{Appends, lines}
use Rattle.compiler.specs.Scope.{found}
use Rattle.compiler.specs.declared.steps.State.{State}
use Rattle.compiler.specs.declared.steps.Here.{Here}
use Rattle.compiler.specs.declared.steps.Node.{Node}
use Rattle.compiler.specs.declared.steps.Ways.{Ways}

-- ---- where the walk stands

abbrev pub inside : Here → Here
inside x = record { top = x.top; height = x.height; left = x.left - 1; strings = x.strings; routine = x.routine }

abbrev pub raised : ℕ → Here → Here
raised k x = record { top = x.top; height = x.height + k; left = x.left; strings = x.strings; routine = x.routine }

abbrev pub marked : Here → Here
marked x = record { top = x.top + 2; height = x.height; left = x.left; strings = x.strings; routine = x.routine }

abbrev pub placed : (top height : ℕ) → Here → Here
placed t h x = record { top = t; height = h; left = x.left; strings = x.strings; routine = x.routine }

-- an expression has no way out but RETURN in a VALOF: what it may leave besides is of no account
abbrev pub leavable : Here → Leavable
leavable x = record { loop = false; switch = false; valof = false; routine = x.routine }

abbrev pub leavable_by : Ways → Here → Leavable
leavable_by w x = record { loop = not (eqb w.after 0); switch = not (eqb w.done 0); valof = not (eqb w.result 0); routine = x.routine }

abbrev pub exits : Ways → Exits
exits w = record { break = w.after; loop = w.next; endcase = w.done; result = w.result }

abbrev pub in_valof : (end : ℕ) → Ways
in_valof end = record { after = 0; next = 0; done = 0; result = end }

abbrev pub in_loop : (next end : ℕ) → Ways → Ways
in_loop next end w = record { after = end; next = next; done = w.done; result = w.result }

abbrev pub in_switch : (end : ℕ) → Ways → Ways
in_switch end w = record { after = w.after; next = w.next; done = end; result = w.result }

-- a node: what stands before its record, which is size, value, place and kind
pub record NodeAt (s : List ℕ) (end : ℕ) (n : Node) : Type 0 where
  pub inner : n.inner ≡ end - 4
  pub start : n.start ≡ end - 4 - get_or s (end - 4) 0
  pub value : n.value ≡ get_or s (end - 3) 0
  pub place : n.place ≡ get_or s (end - 2) 0
  pub kind : n.kind ≡ get_or s (end - 1) 0
  pub value_fits : n.value < 2 ^ 32
  pub place_fits : n.place < 2 ^ 32

-- ---- what is done

-- the least of faults, each by one number
abbrev pub key : Fault → ℕ
key f = f.place * 32 + f.number

unfoldable pub least : ℕ → List Fault → ℕ
least x [] = x
least x (f ∷ fs) = least (cond (ltb (key f) x) (key f) x) fs

-- places and numbers fit the one number: so the least number is the least fault's
pub data AllFit : List Fault → Type 0 where
  no_fit : AllFit []
  and_fit : {f : Fault} {fs : List Fault} → f.place < 2 ^ 32 → f.number < 32 → AllFit fs → AllFit (f ∷ fs)

-- what is written: items, heights that are reached, and how many labels are used
pub record Code : Type 0 where
  pub items : List I.Item
  pub heights : List ℕ
  pub labels : ℕ

pub record Wrote (c : Code) (t t' : List ℕ) (st st' : State) : Type 0 where
  pub text : Appends (lines c.items) st.at st'.at t t'
  pub high : st'.high ≡ greatest st.high c.heights
  pub label : st'.label ≡ st.label + c.labels

-- these faults are found, at most so many labels used, and where there are no faults, the code is written, which may depend on its first
-- label
pub record Did (fs : List Fault) (code : ℕ → Code) (most : ℕ) (t t' : List ℕ) (st st' : State) : Type 0 where
  pub worst : st'.worst ≡ least st.worst fs
  pub fits : AllFit fs
  pub few : st'.label ≤ st.label + most
  pub grows : st.label ≤ st'.label
  pub clean : fs ≡ [] → Wrote (code st.label) t t' st st'

-- items are written and heights reached, with no faults and no labels
pub record Emits (items : List I.Item) (heights : List ℕ) (t t' : List ℕ) (st st' : State) : Type 0 where
  pub text : Appends (lines items) st.at st'.at t t'
  pub high : st'.high ≡ greatest st.high heights
  pub worst : st'.worst ≡ st.worst
  pub label : st'.label ≡ st.label

pub record Reached (h : ℕ) (st st' : State) : Type 0 where
  pub by : (t : List ℕ) → Emits [] (h ∷ []) t t st st'

pub record Faulted (place number : ℕ) (st st' : State) : Type 0 where
  pub by : (code : ℕ → Code) (t : List ℕ) → Did (fault place number) code 0 t t st st'

abbrev pub expr_says : (strings h : ℕ) → Expr → ℕ → Code
expr_says strings h e n = record { items = expr_code strings h n e; heights = of_expr h e; labels = expr_labels e }

abbrev pub exprs_says : (strings h : ℕ) → Exprs → ℕ → Code
exprs_says strings h es n = record { items = exprs_code strings h n es; heights = of_exprs h es; labels = exprs_labels es }

-- whatever m stands for
pub record Means (m place : ℕ) (t t' : List ℕ) (st st' : State) : Type 0 where
  pub by : (strings h : ℕ) (f : Found) → m ≡ found f → Did (on_found f (fault place 8) []) (expr_says strings h (of_meaning f)) 0 t t' st st'

pub record Fresh (k : ℕ) (st st' : State) : Type 0 where
  pub at : st'.at ≡ st.at
  pub worst : st'.worst ≡ st.worst
  pub high : st'.high ≡ st.high
  pub label : st'.label ≡ st.label + k

-- a jump, or 13
pub record LeavesTo (to place : ℕ) (t t' : List ℕ) (st st' : State) : Type 0 where
  pub did : Did (unless (not (eqb to 0)) (fault place 13)) (λ n. record { items = JL to ∷ []; heights = []; labels = 0 }) 0 t t' st st'
