use Rattle.std.proofs.Common.{arith, ◌≤◌, length}
use Rattle.std.proofs.lemmas.Grind.{common_steps}
use Rattle.machine.proofs.Runs.{resume_refused, resume_goes}
use Rattle.machine.proofs.resume.Goals as goal

pub returns-then-not-contains : goal.returns-then-not-contains
returns-then-not-contains c = resume_refused _ _ _ _ _ (λ a b. grind (arith, common_steps)) c.number.ensures

pub returns : goal.returns
returns c = let a : 512 ≤ length c.args.memory.now = grind (arith, common_steps) in
    let b : length c.args.memory.now ≤ 32768 = grind (arith, common_steps) in
    resume_goes _ _ _ _ _ a b c.run_steps.ensures
