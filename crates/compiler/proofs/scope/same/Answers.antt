use Rattle.laws.proofs.Basics.{arith}
use Rattle.compiler.proofs.Scoping.{other_length, same-starts, same-goes_on, same-differs, same-ends}
use Rattle.compiler.proofs.scope.same.Goals as goal

pub returns-then-a-b : goal.returns-then-a-b
returns-then-a-b c = other_length _ _ c.if-a-b.true

pub loop-i-init : goal.loop-i-init
loop-i-init c = same-starts _ _ c.if-a-b.false

pub returns-then-a-i : goal.returns-then-a-i
returns-then-a-i c = same-differs _ _ _ c.loop-i.invariant c.loop-i-test.true (omega arith) (omega arith) c.if-a-i.true

pub loop-i-preserved : goal.loop-i-preserved
loop-i-preserved c = same-goes_on _ _ _ c.loop-i.invariant c.loop-i-test.true (omega arith) (omega arith) c.if-a-i.false

pub returns : goal.returns
returns c = same-ends _ _ _ c.loop-i.invariant (omega arith)
