use Rattle.compiler.proofs.StartTexts.{start-put, start_none}
use Rattle.compiler.proofs.strings.start.Goals as goal

pub returns-in-Some : goal.returns-in-Some
returns-in-Some c = search start-put

pub returns-in-None : goal.returns-in-None
returns-in-None c = search start_none
