use Rattle.tree.proofs.Names.{optional-here, optional-not}
use Rattle.tree.proofs.scratch.optional.Goals as goal

pub returns-then-kind_here-kind : goal.returns-then-kind_here-kind
returns-then-kind_here-kind c = optional-here _ c.kind_here.ensures c.if-kind_here-kind.true c.expect.ensures

pub returns-else-kind_here-kind : goal.returns-else-kind_here-kind
returns-else-kind_here-kind c = optional-not _ c.kind_here.ensures c.if-kind_here-kind.false c.requires.0
