use Rattle.language.specs.Semicolons.{ends_line}
use Rattle.language.specs.Kinds.{member}
use Rattle.symbols.proofs.gains.Goals as goal

pub returns-in-None : goal.returns-in-None
unfolding ends_line member
returns-in-None c = rw c.in-None.is
