use Rattle.laws.proofs.Basics.{arith}
use Rattle.compiler.proofs.Repeating.{tops-none, tops_next, tops-all}
use Rattle.compiler.proofs.steps.tops.Goals as goal

pub loop-i-init : goal.loop-i-init
loop-i-init c = tops-none _

pub loop-i-preserved : goal.loop-i-preserved
loop-i-preserved c = search tops_next

pub returns : goal.returns
returns c = tops-all _ _ _ c.loop-i-test.false (omega arith) c.loop-i.invariant
