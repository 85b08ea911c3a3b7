use Rattle.language.specs.Semicolons.{begins_line}
use Rattle.language.specs.Kinds.{member}
use Rattle.symbols.proofs.Tests.{marked}
use Rattle.symbols.proofs.kinds.Kind.begins_line.Goals as goal

pub returns : goal.returns
unfolding begins_line member
returns c = rw (← c.number.ensures.0) (marked begins_line 62 c.number.result c.number.ensures.1)
