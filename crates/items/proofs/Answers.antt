-- From the code's answers back to the values that they stand for: for callers of `start_in` and `next_in`.
use Rattle.laws.proofs.Basics.{ℕ, ◌≡◌, refl, List, length}
use Rattle.std.specs.Prelude.{Result, Ok, Err}
use Rattle.laws.proofs.Cases.{contradiction}
use Rattle.items.specs.Item as I
use Rattle.items.specs.Scan.{whole, unreadable}
use Rattle.items.specs.Next as N
use Rattle.items.specs.Answers.{as_item, as_next, as_start}
use Rattle.items.specs.declared.Item.{Item}
use Rattle.items.specs.declared.Item.TheVariants as C
use Rattle.items.specs.declared.Next.{Next}
use Rattle.items.specs.declared.Next.TheVariants as M
use Rattle.items.specs.declared.Unreadable.{Unreadable}

-- ---- what stands next

-- an item that was read, as the code has it
pub record OneRead (n : N.Next) (place : ℕ) (r : Item) (past : ℕ) : Type 0 where
  pub value : I.Item
  pub same : r ≡ as_item value
  pub next : n ≡ N.one place value past

pub when-one : (n : N.Next) {r : Next} → r ≡ as_next n → {p q : ℕ} {i : Item} → r ≡ M.One p i q → OneRead n p i q
unfolding as_next
when-one (N.one a x b) e k = record { value = x; same = cc; next = cc }
when-one (N.over whole) e k = contradiction cc
when-one (N.over (unreadable a)) e k = contradiction cc

pub when_whole : (n : N.Next) {r : Next} → r ≡ as_next n → r ≡ M.Whole → n ≡ N.over whole
unfolding as_next
when_whole (N.one a x b) e k = contradiction cc
when_whole (N.over whole) e k = refl
when_whole (N.over (unreadable a)) e k = contradiction cc

pub when-unreadable : (n : N.Next) {r : Next} → r ≡ as_next n → {p : ℕ} → r ≡ M.Unreadable p → n ≡ N.over (unreadable p)
unfolding as_next
when-unreadable (N.one a x b) e k = contradiction cc
when-unreadable (N.over whole) e k = contradiction cc
when-unreadable (N.over (unreadable a)) e k = cc

pub when-from : (s : N.Start) {r : Result ℕ Unreadable} → r ≡ as_start s → {p : ℕ} → r ≡ Ok p → s ≡ N.from p
unfolding as_start
when-from (N.from a) e k = cc
when-from (N.not a) e k = contradiction cc

pub when-not-begun : (s : N.Start) {r : Result ℕ Unreadable} → r ≡ as_start s → {u : Unreadable} → r ≡ Err u → s ≡ N.not u.place
unfolding as_start
when-not-begun (N.from a) e k = contradiction cc
when-not-begun (N.not a) e k = cc

-- ---- an item

pub record StringKept (x : I.Item) (n : ℕ) : Type 0 where
  pub characters : List ℕ
  pub same_length : n ≡ length characters
  pub item : x ≡ I.string characters

pub when-string : (x : I.Item) {r : Item} {n : ℕ} → r ≡ as_item x → r ≡ C.String n → StringKept x n
unfolding as_item
when-string (I.label a) e k = contradiction cc
when-string (I.instruction f i b x) e k = contradiction cc
when-string (I.constant x) e k = contradiction cc
when-string (I.string cs) e k = record { characters = cs; same_length = cc; item = refl }
when-string (I.global a b) e k = contradiction cc
