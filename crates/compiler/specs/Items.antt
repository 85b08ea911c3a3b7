-- GLOBAL and MANIFEST: items known one after another. One loop serves both: `g` says whether they are globals.
use Rattle.std.specs.Prelude.{ℕ, ◌+◌, ◌*◌, ◌≤◌, ◌<◌, ◌^◌, ◌≡◌, Bool, cond, List, length}
use Rattle.language.specs.Tree as T
use Rattle.language.specs.Tree.{Item}
use Rattle.language.specs.Names as N
use Rattle.language.specs.Names.{Scope}
use Rattle.language.specs.Constants.{Fault, Judged, judge, for_global}
use Rattle.tree.specs.Encoding.{encode_constant, encode_items}
use Rattle.compiler.specs.Scope.{Shows, Keeps}
use Rattle.compiler.specs.Walks.{Holds}
use Rattle.compiler.specs.Walked.{Did}
use Rattle.compiler.specs.Commands.{nothing}
use Rattle.compiler.specs.declared.steps.State.{State}
use Rattle.language.specs.Fine.{FineConstant, FineItems}
use Rattle.compiler.specs.Fine.{STRINGS}
use Rattle.compiler.specs.Locals.{Verdict, Says, Fitting, word_of}
use Rattle.language.specs.Program.{globals_after, manifests_after, global_faults, manifest_faults}
use Rattle.compiler.specs.declared.outer.Known.{Known}

unfoldable pub judged : (g : Bool) → List ℕ → Scope → T.Constant → Judged
judged g text s c = cond g (for_global text s c) (judge text s c)

unfoldable pub meaning : (g : Bool) → ℕ → N.Meaning
meaning g v = cond g (N.global v) (N.manifest v)

-- the scope after items, and their faults
unfoldable pub after : Bool → List ℕ → Scope → List Item → Scope
after g text s is = cond g (globals_after text s is) (manifests_after text s is)

unfoldable pub faults : Bool → List ℕ → Scope → List Item → List Fault
faults g text s is = cond g (global_faults text s is) (manifest_faults text s is)

abbrev pub FineIs : List Item → Type 0
FineIs is = FineItems STRINGS is

-- an item's constant
pub record JudgesItem (g : Bool) (text s : List ℕ) (end top : ℕ) (r : Verdict) : Type 0 where
  pub by : (sc : Scope) (lo : ℕ) (c : T.Constant) → Shows s top sc → FineConstant c → Holds s lo (encode_constant c)
      → end ≡ lo + length (encode_constant c) → Says r (judged g text sc c)
  pub fits : Fitting r
  pub low : word_of r < 2 ^ 30

pub record ReadyItems (s : List ℕ) (from end top : ℕ) : Type 0 where
  pub base : ℕ
  pub scope : Scope
  pub items : List Item
  pub lies : Holds s from (encode_items items)
  pub ends : end ≡ from + length (encode_items items)
  pub above : base ≤ from
  pub long : base ≤ length s
  pub small : end < 2 ^ 32
  pub shows : Shows s top scope
  pub room : top + 2 * length items ≤ base
  pub fine : FineIs items

pub record ItemsKnown (g : Bool) (text s s' : List ℕ) (base : ℕ) (sc : Scope) (is : List Item) (top : ℕ) (st : State) (r : Known) : Type 0 where
  pub moved : r.top ≡ top + 2 * length is
  pub shows : Shows s' r.top (after g text sc is)
  pub keeps : Keeps base top s s'
  pub did : (t : List ℕ) → Did (faults g text sc is) nothing 0 t t st r.state

pub record Items (g : Bool) (text s s' : List ℕ) (from end top : ℕ) (st : State) (r : Known) : Type 0 where
  pub by : (y : ReadyItems s from end top) → ItemsKnown g text s s' y.base y.scope y.items top st r
