-- The walk over expressions and commands: one proof, since they call one another. Its measures stand in `Ranks`, its answers in the others.
mod Ranks
mod Expressions
mod Calls
mod Sides
mod Loops
mod Choices
mod Blocks
mod Commands
use Rattle.compiler.proofs.walk.+walk as cycle
use cycle.{statement}
use cycle.Tie.{close}
use Ranks.{rank, address, applied, args, assign, bare, block, cases, chain, command, expr, for-to, form, forms, indexed, list, local, locals}
use Ranks.{located, monadic, passed, plain, refuse, repeated, side, stored, switch, test, when, while-do}
use Expressions.{expr-ok, chain-ok, monadic-ok}
use Calls.{applied-ok, args_ok, indexed-ok, passed_ok}
use Sides.{address-ok, located-ok, refuse-ok, side-ok, stored_ok, assign-ok}
use Loops.{while-do-ok, for-to-ok, form-ok, forms-ok, repeated-ok}
use Choices.{when-ok, test-ok, switch-ok, cases-ok}
use Blocks.{block-ok, list-ok, local-ok, locals-ok}
use Commands.{command-ok, bare-ok, plain_ok}

pub
    +walk_spec : {M : Type 1} → statement M
+walk_spec =
    close (rank address).measure (rank applied).measure (rank args).measure (rank assign).measure (rank bare).measure (rank block).measure
    (rank cases).measure (rank chain).measure (rank command).measure (rank expr).measure (rank for-to).measure (rank form).measure
    (rank forms).measure (rank indexed).measure (rank list).measure (rank local).measure (rank locals).measure (rank located).measure
    (rank monadic).measure (rank passed).measure (rank plain).measure (rank refuse).measure (rank repeated).measure (rank side).measure
    (rank stored).measure (rank switch).measure (rank test).measure (rank when).measure (rank while-do).measure address-ok applied-ok args_ok
    assign-ok bare-ok block-ok cases-ok chain-ok command-ok expr-ok for-to-ok form-ok forms-ok indexed-ok list-ok local-ok locals-ok located-ok
    monadic-ok passed_ok plain_ok refuse-ok repeated-ok side-ok stored_ok switch-ok test-ok when-ok while-do-ok
