use Rattle.compiler.proofs.StartTexts.{starts-begin, starts-next, starts-end}
use Rattle.compiler.proofs.strings.starts.Goals as goal

pub loop-k-init : goal.loop-k-init
loop-k-init c = starts-begin

pub loop-k-preserved : goal.loop-k-preserved
loop-k-preserved c = search starts-next

pub returns : goal.returns
returns c = search starts-end
