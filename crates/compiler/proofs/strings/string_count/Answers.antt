use Rattle.laws.proofs.Basics.{arith}
use Rattle.compiler.proofs.StringTexts.{one_if-small, counted-begin, counted_next, counted-end}
use Rattle.compiler.proofs.strings.string_count.Goals as goal

pub loop-i-init : goal.loop-i-init
loop-i-init c = counted-begin

pub overflow_add-n : goal.overflow_add-n
overflow_add-n c = omega (arith, one_if-small c.entry.result)

pub loop-i-preserved : goal.loop-i-preserved
loop-i-preserved c = search counted_next

pub returns : goal.returns
returns c = search counted-end
