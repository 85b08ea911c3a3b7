use Rattle.laws.proofs.Basics.{⊎_elim, arith}
use Rattle.text.proofs.Answers.{when-is, when-closing, when-ended, when-mistake}
use Rattle.text.proofs.Quotes.{is-inside}
use Rattle.compiler.proofs.StringTexts.{spelling-begin, spelling-next, spelling-end, spelling-ended, spelling-mistake}
use Rattle.compiler.proofs.strings.characters.Goals as goal

pub loop-c-init : goal.loop-c-init
loop-c-init c = spelling-begin

pub overflow_add-i : goal.overflow_add-i
overflow_add-i c = omega (arith, is-inside 34 c.args.source.now c.loop-c.i (when-is _ c.character_at-one.ensures c.in-Is.is))

pub loop-c-smaller : goal.loop-c-smaller
loop-c-smaller c = omega (arith, is-inside 34 c.args.source.now c.loop-c.i (when-is _ c.character_at-one.ensures c.in-Is.is))

pub loop-c-preserved : goal.loop-c-preserved
loop-c-preserved c = search (spelling-next, when-is)

pub returns-in-Closing : goal.returns-in-Closing
returns-in-Closing c = let one = c.character_at-one.ensures in
    ⊎_elim (λ e. spelling-end (when-closing _ one e) c.loop-c.invariant) (⊎_elim (λ e. spelling-ended (when-ended _ one e) c.loop-c.invariant)
    (λ e. spelling-mistake (when-mistake _ one e.1) c.loop-c.invariant)) c.in-Closing.is
