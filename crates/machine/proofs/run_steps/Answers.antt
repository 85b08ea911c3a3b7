use Rattle.machine.proofs.Runs.{left_finish, left_stop}
use Rattle.machine.proofs.run_steps.Goals as goal

pub returns-in-Err : goal.returns-in-Err
returns-in-Err c = left_stop _ _ _ _ _ _ _ c.loop-left.invariant c.loop-left-test.true c.step.ensures c.in-Err.is c.number.ensures

pub returns-in-Ok-Finished : goal.returns-in-Ok-Finished
returns-in-Ok-Finished c =
    left_finish _ _ _ _ _ _ _ c.loop-left.invariant c.loop-left-test.true c.step.ensures (cc) c.number-in-Ok-Finished.ensures
