use Rattle.compiler.proofs.Scoping.{pushed-leaf}
use Rattle.compiler.proofs.scope.push_name.Goals as goal

pub returns : goal.returns
returns c = rw (← c.encode.ensures) (search pushed-leaf)
