use Rattle.std.proofs.Common.{sym, ◌∙◌, arith}
use Rattle.text.proofs.Quotes.{is-inside, mistake-inside}
use Rattle.text.proofs.Constants.{closes-next, closes-mistake, closes-end, closes-never}
use Rattle.text.proofs.closes.Goals as goal

pub overflow_add-i : goal.overflow_add-i
overflow_add-i c = omega (arith, is-inside c.args.quote c.args.text.now c.loop-width.i (sym c.in-Is.ensures))

pub loop-width-smaller-in-Is : goal.loop-width-smaller-in-Is
loop-width-smaller-in-Is c = omega (arith, is-inside c.args.quote c.args.text.now c.loop-width.i (sym c.in-Is.ensures))

pub loop-width-preserved-in-Is : goal.loop-width-preserved-in-Is
loop-width-preserved-in-Is c = c.loop-width.invariant ∙ closes-next c.args.quote c.args.text.now c.loop-width.i (sym c.in-Is.ensures)

pub returns-in-Closing : goal.returns-in-Closing
returns-in-Closing c = sym (c.loop-width.invariant ∙ closes-end c.args.quote c.args.text.now c.loop-width.i (sym c.in-Closing.ensures))

pub returns-in-Ended : goal.returns-in-Ended
returns-in-Ended c = sym (c.loop-width.invariant ∙ closes-never c.args.quote c.args.text.now c.loop-width.i (sym c.in-Ended.ensures))

pub overflow_add-i-in-Mistake : goal.overflow_add-i-in-Mistake
overflow_add-i-in-Mistake c = omega (arith, mistake-inside c.args.quote c.args.text.now c.loop-width.i (sym c.in-Mistake.ensures))

pub loop-width-smaller : goal.loop-width-smaller
loop-width-smaller c = omega (arith, mistake-inside c.args.quote c.args.text.now c.loop-width.i (sym c.in-Mistake.ensures))

pub loop-width-preserved : goal.loop-width-preserved
loop-width-preserved c = c.loop-width.invariant ∙ closes-mistake c.args.quote c.args.text.now c.loop-width.i (sym c.in-Mistake.ensures)
