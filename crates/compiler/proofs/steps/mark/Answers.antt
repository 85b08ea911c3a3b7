use Rattle.compiler.proofs.Done.{emits_one}
use Rattle.compiler.proofs.steps.mark.Goals as goal

pub returns : goal.returns
returns c = search emits_one
