use Rattle.compiler.proofs.Judging.{blame-none, blame-some}
use Rattle.compiler.proofs.steps.blame.Goals as goal

pub returns-in-Ok : goal.returns-in-Ok
returns-in-Ok c = rw c.in-Ok.is blame-none

pub wrong-requires : goal.wrong-requires
wrong-requires c = rw c.in-Err.is at c.requires

pub returns-in-Err : goal.returns-in-Err
returns-in-Err c = rw c.in-Err.is (blame-some c.wrong.ensures)
