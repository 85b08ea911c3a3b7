-- An assignment: two lists, walked at once.
use Rattle.std.specs.Prelude.{ℕ, max, ◌+◌, ◌≡◌, List, ◌++◌, length}
use Rattle.language.specs.Tree as T
use Rattle.language.specs.Tree.{Expressions}
use Rattle.language.proofs.Depth.{expressions_depth}
use Rattle.language.specs.Resolve.{sides, pair_up}
use Rattle.language.specs.Faults.{in_sides, in_right_sides}
use Rattle.tree.specs.Encoding.{encode_sides, encode_first, encode_expressions}
use Rattle.compiler.specs.declared.steps.State.{State}
use Rattle.compiler.specs.declared.steps.Here.{Here}
use Rattle.compiler.specs.Fine.{FineEs}
use Rattle.compiler.specs.Walked.{leavable}
use Rattle.compiler.specs.Walks.{Ready, Result}
use Rattle.compiler.specs.Commands.{pairs_says}

pub record Both : Type 0 where
  pub left : Expressions
  pub right : Expressions

abbrev pub encode_both : Both → List ℕ
encode_both b = encode_sides b.left ++ encode_expressions b.right

abbrev pub deep_both : Both → ℕ
deep_both b = max (expressions_depth b.left) (expressions_depth b.right)

abbrev pub FineBoth : Both → Type 0
FineBoth b = (T.count b.left ≡ T.count b.right) × FineEs b.left × FineEs b.right

-- `left` is the first left side's end, `right` where the right sides start
pub record ReadyAssign (s : List ℕ) (left right end : ℕ) (x : Here) (st : State) : Type 0 where
  pub ready : Ready encode_both deep_both FineBoth s end x st
  pub first : left ≡ ready.lo + length (encode_first ready.tree.left)
  pub second : right ≡ ready.lo + length (encode_sides ready.tree.left)

pub record GaveAssign (text s s' : List ℕ) (left right end : ℕ) (x : Here) (t t' : List ℕ) (st st' : State) : Type 0 where
  pub by : (y : ReadyAssign s left right end x st) → let z = y.ready in let h = x.height in let b = z.tree in
      Result (in_sides text z.scope (leavable x) (h + 1) b.left ++ in_right_sides text z.scope (leavable x) h b.right)
      (pairs_says x (pair_up (sides text z.scope (h + 1) b.left) (sides text z.scope h b.right)))
      (length (encode_both b)) z.base x s s' t t' st st'
