use Rattle.tree.proofs.Helpers.{next_fits, refused-fits, refused-leaves}
use Rattle.tree.proofs.Symbols.{expect-ok, expect-other, expect-end, expect-refused}
use Rattle.tree.proofs.scratch.expect.Goals as goal
use Rattle.tree.proofs.scratch.expect.Goals.{else-at-n-via-then-at-n+else-s-at, else-at-n-via-else-at-n}

pub returns-in-Refused : goal.returns-in-Refused
returns-in-Refused c = (refused-leaves c.in-Refused.is c.requires.0, λ src l. expect-refused src _ c.in-Refused.is)

pub returns-then-s-at : goal.returns-then-s-at
returns-then-s-at c = (next_fits c.requires.0 c.in-Read.is c.if-at-n.true, λ src l. expect-ok l c.in-Read.is c.if-at-n.true c.if-s-at.true)

pub returns-else-at-n : goal.returns-else-at-n
returns-else-at-n c = (
  refused-fits c.requires.0,
  λ src l. elim c.else-at-n.branch [
    | else-at-n-via-then-at-n+else-s-at w ↦ expect-other l c.in-Read.is w.if-at-n.true w.if-s-at.false
    | else-at-n-via-else-at-n w ↦ expect-end l c.in-Read.is w.if-at-n.false c.requires.1
  ],
)
