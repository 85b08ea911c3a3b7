use Rattle.laws.proofs.Basics.{◌+◌, ⊎_elim, arith}
use Rattle.text.proofs.Answers.{when-is, when-closing, when-ended, when-mistake}
use Rattle.assembler.proofs.Strings.{not-ended, no-mistake, past-character, spells-end, second-not-ended, second-no-mistake}
use Rattle.assembler.proofs.Strings.{spells-odd, spells-on}
use Rattle.assembler.proofs.write_string.Goals as goal

pub returns-in-Ended : goal.returns-in-Ended
returns-in-Ended c = let q = c.loop-memory.invariant.spelling.quoting in
    absurd (⊎_elim (λ e. not-ended _ _ q (when-ended _ c.character_at-one.ensures e))
    (λ e. no-mistake _ _ q (when-mistake _ c.character_at-one.ensures e.1)) c.in-Ended.is)

pub returns-in-Closing : goal.returns-in-Closing
returns-in-Closing c = spells-end _ _ _ _ _ _ _ _ _ c.loop-memory.invariant (when-closing _ c.character_at-one.ensures c.in-Closing.is) c.pair.ensures

pub overflow_add-place : goal.overflow_add-place
overflow_add-place c = let one = when-is _ c.character_at-one.ensures c.in-Is.is in
    omega (arith, (past-character c.args.text.now c.loop-memory.place one).0)

pub returns-in-Ended-two : goal.returns-in-Ended-two
returns-in-Ended-two c =
    let one = when-is _ c.character_at-one.ensures c.in-Is.is in
    let l = c.loop-memory.invariant in
    let two = c.character_at-two.ensures in
    ⊎_elim (λ e. absurd (second-not-ended _ _ _ _ _ _ _ _ _ l one c.pair-in-Is.ensures (when-ended _ two e)))
    (⊎_elim (λ e. absurd (second-no-mistake _ _ _ _ _ _ _ _ _ l one c.pair-in-Is.ensures (when-mistake _ two e.1)))
    (λ e. spells-odd _ _ _ _ _ _ _ _ _ l one c.pair-in-Is.ensures (when-closing _ two e))) c.in-Ended-two.is

pub overflow_add-place-in-Is-two : goal.overflow_add-place-in-Is-two
overflow_add-place-in-Is-two c = let two = when-is _ c.character_at-two.ensures c.in-Is-two.is in
    omega (arith, (past-character c.args.text.now (c.loop-memory.place + c.in-Is.width) two).0)

pub loop-memory-smaller : goal.loop-memory-smaller
loop-memory-smaller c = let text = c.args.text.now in
    let one = when-is _ c.character_at-one.ensures c.in-Is.is in
    let two = when-is _ c.character_at-two.ensures c.in-Is-two.is in
    omega (arith, past-character text c.loop-memory.place one, past-character text (c.loop-memory.place + c.in-Is.width) two)

pub loop-memory-preserved : goal.loop-memory-preserved
loop-memory-preserved c =
    let one = when-is _ c.character_at-one.ensures c.in-Is.is in
    let two = when-is _ c.character_at-two.ensures c.in-Is-two.is in
    spells-on _ _ _ _ _ _ _ _ _ c.loop-memory.invariant one c.pair-in-Is.ensures two c.from-high.ensures (omega arith)
