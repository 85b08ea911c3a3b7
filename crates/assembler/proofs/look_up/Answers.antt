use Rattle.assembler.proofs.Lookup.{looked-zero, looked-at, looked-on, looked-past}
use Rattle.assembler.proofs.look_up.Goals as goal

pub returns-then-number-eq0 : goal.returns-then-number-eq0
returns-then-number-eq0 c = looked-zero c.args.labels.now c.args.number c.if-number-eq0.true

pub loop-label-preserved : goal.loop-label-preserved
loop-label-preserved c =
    looked-on c.args.labels.now c.args.number c.loop-label.label-index c.loop-label.invariant c.loop-label-test.true c.if-label-number.false

pub returns-then-label-number : goal.returns-then-label-number
returns-then-label-number c = looked-at c.args.labels.now c.args.number c.loop-label.label-index c.loop-label.invariant
    c.loop-label-test.true c.if-label-number.true c.if-number-eq0.false

pub returns : goal.returns
returns c = looked-past c.args.labels.now c.args.number c.loop-label.label-index c.loop-label.invariant c.loop-label-test.false
