use Rattle.machine.proofs.Runs.{step_one}
use Rattle.machine.proofs.Registers.step.Goals as goal

pub returns : goal.returns
returns c = step_one _ _ _ _ c.fetch.ensures c.in_ok-f.was c.execute.ensures
