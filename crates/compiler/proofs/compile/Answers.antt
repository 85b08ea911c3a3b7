use Rattle.compiler.proofs.Clearing.{compiles-accepted}
use Rattle.compiler.proofs.compile.Goals as goal

pub returns-in-Ok : goal.returns-in-Ok
returns-in-Ok c = search compiles-accepted
