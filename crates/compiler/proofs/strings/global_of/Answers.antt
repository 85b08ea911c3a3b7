use Rattle.compiler.proofs.StartTexts.{passed-begin, passed-next, passed-found, passed-end}
use Rattle.compiler.proofs.strings.global_of.Goals as goal

pub loop-n-init : goal.loop-n-init
loop-n-init c = passed-begin

pub returns-then-entry-label : goal.returns-then-entry-label
returns-then-entry-label c = search passed-found

pub loop-n-preserved : goal.loop-n-preserved
loop-n-preserved c = search passed-next

pub returns : goal.returns
returns c = search passed-end
