use Rattle.tree.proofs.Helpers.{refused-fits, refused-leaves, refuses-read, refuses-refused}
use Rattle.tree.proofs.scratch.refuse.Goals as goal

pub returns-in-Read : goal.returns-in-Read
returns-in-Read c = (refused-fits c.requires, refuses-read c.in-Read.is)

pub returns-in-Refused : goal.returns-in-Refused
returns-in-Refused c = (refused-leaves c.in-Refused.is c.requires, refuses-refused c.in-Refused.is)
