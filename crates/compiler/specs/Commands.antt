-- What the functions of the walk for commands, sides and declarations ask and ensure.
use Rattle.std.specs.Prelude.{ℕ, max, ◌+◌, ◌*◌, ◌-◌, ◌≤◌, ◌<◌, ◌^◌, ◌≡◌, cond, List, [], ◌∷◌, ◌++◌, length, get_or, eqb}
use Rattle.language.specs.Kinds.{AT, WHILE, UNTIL, REPEATWHILE}
use Rattle.language.specs.Tree as T
use Rattle.language.specs.Tree.{Name, Expression, Commands, Unlabelled, Repeats, place_of}
use Rattle.language.proofs.Depth.{depth, command_depth, commands_depth, unlabelled_depth, repeats_depth}
use Rattle.language.specs.Names as N
use Rattle.language.specs.Names.{Scope}
use Rattle.language.specs.Constants.{Fault, fault}
use Rattle.language.specs.Resolved.{Expr, Target, Pairs, Cmd, Cmds, Cases}
use Rattle.language.specs.Resolve.{leaving, expression, command, unlabelled, repeats, commands, case_list, side_of, target_of, address_of, of_meaning}
use Rattle.language.specs.Resolve.{resolved_monadic, declare_all}
use Rattle.language.specs.Heights.{of_expr, of_target, of_pairs, of_cmd, of_cmds, of_cases}
use Rattle.code.specs.Generate as G
use Rattle.language.specs.Faults.{Leavable, unless, leaves, in_expression, in_command, in_case, in_unlabelled, in_repeats, in_commands, twice}
use Rattle.language.specs.Faults.{repeated}
use Rattle.language.specs.Faults.{unless_side}
use Rattle.tree.specs.Encoding as O
use Rattle.tree.specs.Encoding.{encode, encode_command, encode_commands, encode_unlabelled, encode_repeats, encode_names}
use Rattle.compiler.specs.Scope.{Shows, Keeps, found}
use Rattle.compiler.specs.declared.steps.State.{State}
use Rattle.compiler.specs.declared.steps.Here.{Here}
use Rattle.compiler.specs.declared.steps.Ways.{Ways}
use Rattle.compiler.specs.Walked.{raised, leavable, leavable_by, exits, Did, Emits, Code}
use Rattle.compiler.specs.Repeats.{conditions, forms_says}
use Rattle.language.specs.Fine.{FineNames}
use Rattle.compiler.specs.Fine.{FineE, FineC, FineCs, FinePlain, FineRs}
use Rattle.compiler.specs.Walks.{Holds, Ready, Result, Gave}

-- ---- what is written

abbrev pub cmd_says : Here → Ways → Cmd → ℕ → Code
cmd_says x w c n = record { items = G.cmd_code x.strings x.height n (exits w) c; heights = of_cmd x.height c; labels = G.cmd_labels c }

abbrev pub cmds_says : Here → Ways → Cmds → ℕ → Code
cmds_says x w cs n = record { items = G.cmds_code x.strings x.height n (exits w) cs; heights = of_cmds x.height cs; labels = G.cmds_labels cs }

abbrev pub target_says : Here → Target → ℕ → Code
target_says x t n = record { items = G.target_code x.strings x.height n t; heights = of_target x.height t; labels = G.target_labels t }

abbrev pub pairs_says : Here → Pairs → ℕ → Code
pairs_says x ps n = record { items = G.pairs_code x.strings x.height n ps; heights = of_pairs x.height ps; labels = G.pairs_labels ps }

abbrev pub expr_says : Here → Expr → ℕ → Code
expr_says x e n = record { items = G.expr_code x.strings x.height n e; heights = of_expr x.height e; labels = G.expr_labels e }

-- ---- commands

abbrev pub ReadyC : List ℕ → ℕ → Here → State → Type 0
ReadyC = Ready encode_command command_depth FineC

-- a command anywhere: its labels are misplaced
abbrev pub GaveC : (text s s' : List ℕ) → ℕ → Here → Ways → (t t' : List ℕ) → (st st' : State) → Type 0
GaveC text s s' end x w t t' st st' =
    Gave encode_command command_depth FineC (λ sc c. in_command text sc (leavable_by w x) x.height c)
    (λ sc c. cmd_says x w (command text sc x.height c)) s s' end x t t' st st'

-- a command of the list after INTO, its labels aside
abbrev pub GaveCase : (text s s' : List ℕ) → ℕ → Here → Ways → (t t' : List ℕ) → (st st' : State) → Type 0
GaveCase text s s' end x w t t' st st' =
    Gave encode_command command_depth FineC (λ sc c. in_case text sc (leavable_by w x) x.height c)
    (λ sc c. cmd_says x w (command text sc x.height c)) s s' end x t t' st st'

-- a command without labels and REPEAT forms
abbrev pub ReadyU : List ℕ → ℕ → Here → State → Type 0
ReadyU = Ready encode_unlabelled unlabelled_depth FinePlain

abbrev pub GaveU : (text s s' : List ℕ) → ℕ → Here → Ways → (t t' : List ℕ) → (st st' : State) → Type 0
GaveU text s s' end x w t t' st st' =
    Gave encode_unlabelled unlabelled_depth FinePlain (λ sc u. in_unlabelled text sc (leavable_by w x) x.height u)
    (λ sc u. cmd_says x w (unlabelled text sc x.height u)) s s' end x t t' st st'

-- a list of commands, from `from` on
pub record ReadyList (s : List ℕ) (from end : ℕ) (x : Here) (st : State) : Type 0 where
  pub ready : Ready encode_commands commands_depth FineCs s end x st
  pub starts : ready.lo ≡ from

pub record GaveList (text s s' : List ℕ) (from end : ℕ) (x : Here) (w : Ways) (t t' : List ℕ) (st st' : State) : Type 0 where
  pub by : (y : ReadyList s from end x st) → let z = y.ready in
      Result (in_commands text z.scope (leavable_by w x) x.height z.tree) (cmds_says x w (commands text z.scope x.height z.tree))
      (length (encode_commands z.tree)) z.base x s s' t t' st st'

-- BREAK, LOOP, ENDCASE, RETURN or FINISH, or 13
pub record GoesAway (x : Here) (w : Ways) (word place : ℕ) (t t' : List ℕ) (st st' : State) : Type 0 where
  pub did : Did (unless (leaves (leavable_by w x) word) (fault place 13)) (cmd_says x w (leaving word)) 0 t t' st st'

-- ---- left sides and the operand of @

-- a left side's parts are found at one word above the right side, which is in A
abbrev pub GaveSide : (text s s' : List ℕ) → (end place : ℕ) → Here → (t t' : List ℕ) → (st st' : State) → Type 0
GaveSide text s s' end place x t t' st st' =
    Gave encode depth FineE
    (λ sc e. in_expression text sc (leavable x) (x.height + 1) e ++ unless_side place (side_of (expression text sc (x.height + 1) e)))
    (λ sc e. target_says x (target_of (side_of (expression text sc (x.height + 1) e)))) s s' end (raised 1 x) t t' st st'

abbrev pub GaveAddress : (text s s' : List ℕ) → (end place : ℕ) → Here → (t t' : List ℕ) → (st st' : State) → Type 0
GaveAddress text s s' end place x t t' st st' =
    Gave encode depth FineE
    (λ sc e. in_expression text sc (leavable x) x.height e ++ unless_side place (side_of (expression text sc x.height e)))
    (λ sc e. expr_says x (address_of (side_of (expression text sc x.height e)))) s s' end x t t' st st'

-- of a word at an index there is no fault 10, whatever the place
abbrev pub GaveAddressIndex : (text s s' : List ℕ) → (end : ℕ) → Here → (t t' : List ℕ) → (st st' : State) → Type 0
GaveAddressIndex text s s' end x t t' st st' = (place : ℕ) → GaveAddress text s s' end place x t t' st st'

abbrev pub GaveSideIndex : (text s s' : List ℕ) → (end : ℕ) → Here → (t t' : List ℕ) → (st st' : State) → Type 0
GaveSideIndex text s s' end x t t' st st' = (place : ℕ) → GaveSide text s s' end place x t t' st st'

-- with 10 there is nothing written to speak of
pub record GaveRefused (text s s' : List ℕ) (end place : ℕ) (x : Here) (t t' : List ℕ) (st st' : State) : Type 0 where
  pub by : (c : Scope → Expression → ℕ → Code)
      → Gave encode depth FineE (λ sc e. in_expression text sc (leavable x) x.height e ++ fault place 10) c s s' end x t t' st st'

pub record IndexKind (s : List ℕ) (end : ℕ) : Type 0 where
  pub is : get_or s (end - 1) 0 ≡ 129

pub record BlockKind (s : List ℕ) (end : ℕ) : Type 0 where
  pub is : get_or s (end - 1) 0 ≡ 57

-- whatever m stands for
pub record AddressOf (m name place : ℕ) (t t' : List ℕ) (st st' : State) : Type 0 where
  pub by : (x : Here) (f : N.Found) → m ≡ found f
      → Did (N.on_found f (fault name 8) [] ++ unless_side place (side_of (of_meaning f))) (expr_says x (address_of (side_of (of_meaning f)))) 0 t t' st st'

pub record StoreTo (m name place : ℕ) (t t' : List ℕ) (st st' : State) : Type 0 where
  pub by : (x : Here) (f : N.Found) → m ≡ found f
      → Did (N.on_found f (fault name 8) [] ++ unless_side place (side_of (of_meaning f))) (target_says x (target_of (side_of (of_meaning f)))) 0 t t' st st'

-- an operand with a monadic operator before it
abbrev pub GaveMonadic : (text s s' : List ℕ) → (operator end : ℕ) → Here → (t t' : List ℕ) → (st st' : State) → Type 0
GaveMonadic text s s' o end x t t' st st' =
    Gave encode depth FineE
    (λ sc e. in_expression text sc (leavable x) x.height e
    ++ cond (eqb o AT) (unless_side (place_of e) (side_of (expression text sc x.height e))) [])
    (λ sc e. expr_says x (resolved_monadic o (expression text sc x.height e))) s s' end x t t' st st'

-- ---- a command with REPEAT forms after it

pub record Repeated : Type 0 where
  pub body : Unlabelled
  pub forms : Repeats

abbrev pub encode_repeated : Repeated → List ℕ
encode_repeated r = O.repeated (encode_unlabelled r.body) (encode_repeats r.forms)

abbrev pub deep_repeated : Repeated → ℕ
deep_repeated r = max (unlabelled_depth r.body) (repeats_depth r.forms)

abbrev pub FineRepeated : Repeated → Type 0
FineRepeated r = FinePlain r.body × FineRs r.forms

abbrev pub ReadyR : List ℕ → ℕ → Here → State → Type 0
ReadyR = Ready encode_repeated deep_repeated FineRepeated

abbrev pub faults_r : List ℕ → Here → Ways → Scope → Repeated → List Fault
faults_r text x w sc r =
    in_unlabelled text sc (repeated r.forms (leavable_by w x)) x.height r.body
    ++ in_repeats text sc (leavable_by w x) x.height r.forms

abbrev pub GaveR : (text s s' : List ℕ) → ℕ → Here → Ways → (t t' : List ℕ) → (st st' : State) → Type 0
GaveR text s s' end x w t t' st st' =
    Gave encode_repeated deep_repeated FineRepeated (faults_r text x w)
    (λ sc r. cmd_says x w (repeats text sc x.height (unlabelled text sc x.height r.body) r.forms)) s s' end x t t' st st'

-- the forms alone, from the innermost out, from `from` on; the innermost one's labels start at `own`. All their own labels are taken
-- before the command, so only their conditions take more
pub record ReadyForms (s : List ℕ) (from end : ℕ) (x : Here) (st : State) : Type 0 where
  pub before : State
  pub ready : Ready encode_repeats repeats_depth FineRs s end x before
  pub starts : ready.lo ≡ from
  pub label : st.label + 2 * conditions ready.tree ≤ 2 ^ 29
  pub some : 0 < st.label

pub record GaveForms (text s s' : List ℕ) (from end own : ℕ) (x : Here) (t t' : List ℕ) (st st' : State) : Type 0 where
  pub by : (y : ReadyForms s from end x st) → let z = y.ready in
      Result (in_repeats text z.scope (leavable x) x.height z.tree) (forms_says text x z.scope own z.tree) (conditions z.tree)
      z.base x s s' t t' st st'

-- one of them: a condition of so many entries that ends there, or none after REPEAT alone
abbrev pub form_says : List ℕ → Here → Scope → (word own : ℕ) → Expression → ℕ → Code
form_says text x sc word own e n = let r = expression text sc x.height e in record {
  items = G.expr_code x.strings x.height n r ++ (G.jump_when (eqb word REPEATWHILE) own ∷ []);
  heights = of_expr x.height r;
  labels = G.expr_labels r;
}

pub record GaveForm (text s s' : List ℕ) (end size word own : ℕ) (x : Here) (t t' : List ℕ) (st st' : State) : Type 0 where
  pub plain : size ≡ 0 → (s' ≡ s) × Emits (G.JL own ∷ []) [] t t' st st'
  pub on : (size ≡ 0 → ⊥) → Gave encode depth FineE (λ sc e. in_expression text sc (leavable x) x.height e) (λ sc e. form_says text x sc word own e)
      s s' end x t t' st st'

pub record ReadyForm (s : List ℕ) (end size : ℕ) (x : Here) (st : State) : Type 0 where
  pub on : (size ≡ 0 → ⊥) → Ready encode depth FineE s end x st

-- ---- a command of a kind

pub record KindIs (k : ℕ) (s : List ℕ) (end : ℕ) : Type 0 where
  pub is : get_or s (end - 1) 0 ≡ k

-- WHILE and UNTIL
pub data WhileWord : ℕ → Type 0 where
  a_while : WhileWord WHILE
  an_until : WhileWord UNTIL

pub record WhileKind (s : List ℕ) (end : ℕ) : Type 0 where
  pub word : WhileWord (get_or s (end - 1) 0)

-- ---- the list after INTO, from `from` on: its commands without their labels. They are labelled from `l` on

unfoldable pub cases_faults : List ℕ → Scope → Leavable → ℕ → Commands → List Fault
cases_faults text s l h T.no_commands = []
cases_faults text s l h (T.and_command c cs) = in_case text s l h c ++ cases_faults text s l h cs

abbrev pub cases_says : Here → Ways → (l : ℕ) → Cases → ℕ → Code
cases_says x w l cs n = record {
  items = G.cases_code x.strings x.height l n (exits w) cs;
  heights = of_cases x.height cs;
  labels = G.cases_labels cs;
}

-- the entries of the commands themselves: the label of each is taken before all of them
unfoldable pub entries_in : Commands → ℕ
entries_in T.no_commands = 0
entries_in (T.and_command c cs) = length (encode_command c) + entries_in cs

pub record ReadyCases (s : List ℕ) (from end : ℕ) (x : Here) (st : State) : Type 0 where
  pub before : State
  pub ready : Ready encode_commands commands_depth FineCs s end x before
  pub starts : ready.lo ≡ from
  pub label : st.label + 2 * entries_in ready.tree ≤ 2 ^ 29
  pub some : 0 < st.label

pub record GaveCases (text s s' : List ℕ) (from end l : ℕ) (x : Here) (w : Ways) (t t' : List ℕ) (st st' : State) : Type 0 where
  pub by : (y : ReadyCases s from end x st) → let z = y.ready in
      Result (cases_faults text z.scope (leavable_by w x) x.height z.tree) (cases_says x w l (case_list text z.scope x.height z.tree))
      (entries_in z.tree) z.base x s s' t t' st st'

-- ---- names declared one after another at frame words from a height on; their leaves stand from `from` on

abbrev pub nothing : ℕ → Code
nothing n = record { items = []; heights = []; labels = 0 }

pub record ReadyNames (s : List ℕ) (from end top height : ℕ) : Type 0 where
  pub base : ℕ
  pub scope : Scope
  pub names : List Name
  pub lies : Holds s from (encode_names names)
  pub ends : end ≡ from + length (encode_names names)
  pub above : base ≤ from
  pub long : base ≤ length s
  pub small : end < 2 ^ 32
  pub shows : Shows s top scope
  pub room : top + 2 * length names ≤ base
  pub heights : height + length names ≤ 2 ^ 29
  pub fine : FineNames names

pub record Declared (text s s' : List ℕ) (base : ℕ) (sc : Scope) (ns : List Name) (top height : ℕ) (st st' : State) : Type 0 where
  pub shows : Shows s' (top + 2 * length ns) (declare_all sc height ns)
  pub keeps : Keeps base top s s'
  pub did : (t : List ℕ) → Did (twice text sc height ns) nothing 0 t t st st'

pub record Declares (text s s' : List ℕ) (from end top height : ℕ) (st st' : State) : Type 0 where
  pub by : (y : ReadyNames s from end top height) → Declared text s s' y.base y.scope y.names top height st st'

-- 9 where a name means something in its block already
pub record Again (m place : ℕ) (st st' : State) : Type 0 where
  pub by : (f : N.Found) → m ≡ found f → (t : List ℕ) → Did (N.on_found f [] (fault place 9)) nothing 0 t t st st'

-- ---- IF and UNLESS

pub data WhenWord : ℕ → Type 0 where
  an_if : WhenWord 16
  an_unless : WhenWord 17

pub record WhenKind (s : List ℕ) (end : ℕ) : Type 0 where
  pub word : WhenWord (get_or s (end - 1) 0)
