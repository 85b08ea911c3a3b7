-- The names of functions, and the table of globals.
use Rattle.laws.proofs.Basics.{ℕ, ◌+◌, ◌*◌, ◌/◌, ◌%◌, ◌<◌, ◌≤◌, ◌≡◌, refl, ap, ◌∙◌, List, [], ◌∷◌, Bool, true, false, length, get_or, set, length-set}
use Rattle.laws.proofs.Basics.{get_or-set_same, get_or-set_other, eqb, arith, eqb-true, eqb-false}
use Rattle.laws.proofs.Cases.{by_cases, contradiction}
use Rattle.compiler.proofs.Language.{Function, nowhere, encode_functions}
use Rattle.language.specs.Names as N
use Rattle.language.specs.Program.{among, start_of, name_fault}
use Rattle.compiler.proofs.Vocabulary.{PushedName, code, found, State, Did, Faulted, Holds, Taken, NameFaults, Enters, encode_function}
use Rattle.compiler.proofs.Vocabulary.{CountsGroup}
use Rattle.compiler.specs.Walks.{Items, no_item}
use Rattle.compiler.proofs.Common.{means-unknown, means-global, keeps-all, pushed-keeps, pushed-name, did_none, First, first_of}
use Rattle.compiler.specs.Commands.{nothing}
use Rattle.compiler.proofs.Vocabulary.{Counts}
use Rattle.compiler.proofs.Counting.{item-first}

-- ---- 9 at a function's name

module _ {table : List ℕ} {m place : ℕ} {st : State} where
  pub fault-unknown : m ≡ 0 → NameFaults table m place st st
  fault-unknown z = record { by = λ f ns e k b t. rw (means-unknown f e z) (did_none 0) }

  pub fault-free : {x : ℕ} → m % 4 ≡ 2 → (m ≡ 0 → ⊥) → x ≡ get_or table (m / 4) 0 → x ≡ 0 → NameFaults table m place st st
  fault-free q z ex e0 = record {
    by = λ f ns e k b t. let g = means-global f e q in by_cases (among (m / 4) ns)
        (λ a. absurd (omega (arith, k.used (m / 4) (b (m / 4) g) a))) (λ a. rw (g, a) (did_none 0));
  }

  pub fault-so : {r : State} → (m ≡ 0 → ⊥) → (m % 4 ≡ 2 → get_or table (m / 4) 0 ≡ 0 → ⊥) → Faulted place 9 st r → NameFaults table m place st r
  unfolding found code
  fault-so {r} z n2 fa = record { by = by }
    where
      by : (f : N.Found) (ns : List ℕ) → m ≡ found f → Taken table ns → ((n : ℕ) → f ≡ N.known (N.global n) → n < 400) → (t : List ℕ)
          → Did (name_fault place ns f) nothing 0 t t st r
      by N.unknown ns q k b t = absurd (z q)
      by (N.known (N.local i)) ns q k b t = fa.by nothing t
      by (N.known (N.global n)) ns q k b t = let e : m / 4 ≡ n = omega arith in
          by_cases (among n ns) (λ a. rw a (fa.by nothing t)) (λ a. absurd (n2 (omega arith) (rw (e, k.free n (b n refl) a))))
      by (N.known (N.manifest i)) ns q k b t = fa.by nothing t
      by (N.known (N.function i)) ns q k b t = fa.by nothing t

-- ---- a name is entered

taken_more : {table : List ℕ} {ns : List ℕ} {n v : ℕ} → Taken table ns → n < 400 → 0 < v → Taken (set table n v) (n ∷ ns)
unfolding among
taken_more {table} {ns} {n} {v} k l p = record {
  long = length-set table n v ∙ k.long;
  free = λ i li a. by_cases (eqb i n) (λ q. let w : ◌≡◌ {A = Bool} true false = rw q at a in contradiction cc)
      (λ q. get_or-set_other table n i v 0 (eqb-false i n q) ∙ k.free i li (rw q at a));
  used = λ i li a. by_cases (eqb i n) (λ q. rw (eqb-true i n q, get_or-set_same table n v 0 (omega arith)) p)
      (λ q. rw (get_or-set_other table n i v 0 (eqb-false i n q)) (k.used i li (rw q at a)));
}

-- a name that is no global's starts nowhere
starts-nowhere : {m : ℕ} (f : N.Found) → m ≡ found f → (m % 4 ≡ 2 → ⊥) → start_of f ≡ nowhere
unfolding found code
starts-nowhere N.unknown q n = refl
starts-nowhere (N.known (N.local i)) q n = refl
starts-nowhere (N.known (N.manifest i)) q n = refl
starts-nowhere (N.known (N.function i)) q n = refl
starts-nowhere (N.known (N.global i)) q n = absurd (n (omega arith))

pub enters-global : {s table table' : List ℕ} {top leaf m k n v : ℕ} → m % 4 ≡ 2 → n ≡ m / 4 → v ≡ k + 1 → table' ≡ set table n v
    → Enters s s table table' top leaf m k top
enters-global {table = table} {n = n} {v} e en ev et = record {
  long = (refl, ap length et ∙ length-set table n v);
  by = λ f base sc ns name q sh l r nm tk b. let g = means-global f q e in let lo = b _ g in
      rw (g, et, en) (sh, keeps-all, taken_more tk lo (omega arith), omega arith, omega arith, rw ev);
}

pub enters-name : {s s' table : List ℕ} {top leaf m k x : ℕ} → (m % 4 ≡ 2 → ⊥) → PushedName s s' top leaf x → x ≡ k * 4 + 4 → length s' ≡ length s
    → Enters s s' table table top leaf m k (top + 2)
unfolding code
enters-name {k = k} e pu ex el = record {
  long = (el, refl);
  by = λ f base sc ns name q sh l r nm tk b. let s = rw nm at (pushed-name pu r l (N.function k) sh ex tt) in
      rw (starts-nowhere f q e) (s, pushed-keeps pu.pushed r l, tk, omega arith, omega arith, refl);
}

pub enters-far : {s table : List ℕ} {top leaf m k n : ℕ} → m % 4 ≡ 2 → n ≡ m / 4 → length table ≤ n → Enters s s table table top leaf m k top
enters-far e en l₀ =
    record { long = (refl, refl); by = λ f base sc ns name q sh l r nm tk b. absurd (omega (arith, b _ (means-global f q e), tk.long)) }

-- ---- how many functions a group has

abbrev pub IsFunction : (s : List ℕ) (at end : ℕ) → List Function → Type 0
IsFunction = First encode_functions encode_function (λ f. 0) (λ f fs. f ∷ fs)

pub is-function : {s : List ℕ} {at end : ℕ} (fs : List Function) → Holds s at (encode_functions fs) → end ≡ at + length (encode_functions fs) → at < end
    → IsFunction s at end fs
unfolding encode_functions
is-function [] h e l = absurd (omega arith)
is-function (f ∷ fs) h e l = first_of encode_functions encode_function (λ f. 0) (λ f fs. f ∷ fs) f fs h e

pub no-function : {at end : ℕ} (fs : List Function) → end ≡ at + length (encode_functions fs) → end ≤ at → fs ≡ []
unfolding encode_functions
no-function [] e l = refl
no-function (f ∷ fs) e l = absurd (omega arith)

function-items : {s : List ℕ} {at end : ℕ} (fs : List Function) → Holds s at (encode_functions fs) → end ≡ at + length (encode_functions fs)
    → Items s end at (length fs)
unfolding encode_functions
function-items {at = at} [] h e = no_item {from = at} (omega arith)
function-items {at = at} (f ∷ fs) h e =
    item-first (encode_function f) (encode_functions fs) h e (λ r q. function-items {at = at + 2 + length (encode_function f)} fs r q)

pub counts-group : {s : List ℕ} {from end n : ℕ} → Counts s from end n → CountsGroup s from end n
counts-group c = record { by = λ fs h e. c.by (length fs) (function-items fs h e) }
