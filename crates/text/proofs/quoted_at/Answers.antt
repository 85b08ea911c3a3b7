use Rattle.std.proofs.Common.{sym, ◌∙◌, arith}
use Rattle.text.proofs.Quotes.{is-inside, closing-inside}
use Rattle.text.proofs.Constants.{constant-start, constant-next, constant-end, constant-unclosed, constant-mistake, constant-full}
use Rattle.text.proofs.quoted_at.Goals as goal

pub loop-width-init : goal.loop-width-init
loop-width-init c = record { few = omega arith; inside = omega arith; rest = constant-start c.args.quote c.args.room c.args.text.now c.args.at }

pub returns-then-characters-room : goal.returns-then-characters-room
returns-then-characters-room c =
    c.fault_at.ensures ∙ constant-full c.args.quote c.args.room c.args.text.now c.args.at c.loop-width.i c.loop-width.characters (sym c.in-Is.ensures) c.if-characters-room.true ∙ sym c.loop-width.invariant.rest

pub overflow_add-i : goal.overflow_add-i
overflow_add-i c = omega (arith, is-inside c.args.quote c.args.text.now c.loop-width.i (sym c.in-Is.ensures))

pub loop-width-smaller : goal.loop-width-smaller
loop-width-smaller c = omega (arith, is-inside c.args.quote c.args.text.now c.loop-width.i (sym c.in-Is.ensures))

pub loop-width-preserved : goal.loop-width-preserved
loop-width-preserved c = record {
  few = omega arith;
  inside = omega (arith, is-inside c.args.quote c.args.text.now c.loop-width.i (sym c.in-Is.ensures));
  rest = c.loop-width.invariant.rest ∙ constant-next c.args.quote c.args.room c.args.text.now c.args.at c.loop-width.i c.loop-width.characters (sym c.in-Is.ensures) (omega arith) (omega arith);
}

pub overflow_add-result : goal.overflow_add-result
overflow_add-result c = omega (arith, closing-inside c.args.quote c.args.text.now c.loop-width.i (sym c.in-Closing.ensures))

pub returns-in-Closing : goal.returns-in-Closing
returns-in-Closing c = constant-end c.args.quote c.args.room c.args.text.now c.args.at c.loop-width.i c.loop-width.characters (sym c.in-Closing.ensures) ∙ sym c.loop-width.invariant.rest

pub returns-in-Ended : goal.returns-in-Ended
returns-in-Ended c = constant-unclosed c.args.quote c.args.room c.args.text.now c.args.at c.loop-width.i c.loop-width.characters (sym c.in-Ended.ensures) ∙ sym c.loop-width.invariant.rest

pub returns-in-Mistake : goal.returns-in-Mistake
returns-in-Mistake c =
    c.fault_at-in-Mistake.ensures ∙ constant-mistake c.args.quote c.args.room c.args.text.now c.args.at c.loop-width.i c.loop-width.characters (sym c.in-Mistake.ensures) ∙ sym c.loop-width.invariant.rest
