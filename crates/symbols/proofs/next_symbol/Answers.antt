use Rattle.laws.proofs.Basics.{refl, sym, ap, ◌∙◌, arith}
use Rattle.std.specs.Prelude.{Ok}
use Rattle.symbols.specs.Answers.{element_of}
use Rattle.symbols.proofs.Scanning.{seek-end, seek-wrong, seek-symbol, gap-inside, symbol-inside, wrong-inside, seek-gap, at-rest}
use Rattle.symbols.proofs.next_symbol.Goals as goal
use Rattle.symbols.proofs.next_symbol.Goals.{then-newline, else-newline}

pub overflow_add-result : goal.overflow_add-result
overflow_add-result c = omega (
  arith,
  symbol-inside c.args.text.now c.loop-place.place c.loop-place-test.true
      (sym (at-rest c.args.text.now c.loop-place.place c.element_at.ensures) ∙ ap element_of (c.in-Ok-Symbol.is ∙ ap Ok c.in-Ok-Symbol.field-0-is)),
)

pub returns-in-Ok-Symbol : goal.returns-in-Ok-Symbol
returns-in-Ok-Symbol c = seek-symbol _ _ _ c.loop-place.invariant c.loop-place-test.true
    (sym (ap element_of (c.in-Ok-Symbol.is ∙ ap Ok c.in-Ok-Symbol.field-0-is)) ∙ at-rest c.args.text.now c.loop-place.place c.element_at.ensures)

pub overflow_add-place : goal.overflow_add-place
overflow_add-place c = omega (
  arith,
  gap-inside _ _ _ c.loop-place.invariant c.loop-place-test.true
      (sym (ap element_of (c.in-Ok-Gap.is ∙ ap Ok c.in-Ok-Gap.field-0-is)) ∙ at-rest c.args.text.now c.loop-place.place c.element_at.ensures),
)

pub loop-place-smaller : goal.loop-place-smaller
loop-place-smaller c = omega (
  arith,
  gap-inside _ _ _ c.loop-place.invariant c.loop-place-test.true
      (sym (ap element_of (c.in-Ok-Gap.is ∙ ap Ok c.in-Ok-Gap.field-0-is)) ∙ at-rest c.args.text.now c.loop-place.place c.element_at.ensures),
)

pub loop-place-preserved : goal.loop-place-preserved
loop-place-preserved c = let s = seek-gap _ _ _ c.loop-place.invariant c.loop-place-test.true
    (sym (ap element_of (c.in-Ok-Gap.is ∙ ap Ok c.in-Ok-Gap.field-0-is)) ∙ at-rest c.args.text.now c.loop-place.place c.element_at.ensures) in elim c.if-newline.branch [
      | then-newline w ↦ rw (w.newline-is, w.if-newline.true) (rw w.if-newline.true at s)
      | else-newline w ↦ rw w.newline-is (rw w.if-newline.false at s)
    ]

pub overflow_add-result-in-Err : goal.overflow_add-result-in-Err
overflow_add-result-in-Err c = omega (
  arith,
  wrong-inside c.args.text.now c.loop-place.place c.loop-place-test.true
      (sym (at-rest c.args.text.now c.loop-place.place c.element_at.ensures) ∙ ap element_of c.in-Err.is),
)

pub returns-in-Err : goal.returns-in-Err
returns-in-Err c = seek-wrong _ _ _ c.loop-place.invariant c.loop-place-test.true (sym (ap element_of c.in-Err.is) ∙ at-rest c.args.text.now c.loop-place.place c.element_at.ensures) refl

pub returns : goal.returns
returns c = seek-end _ _ _ c.loop-place.invariant c.loop-place-test.false
