use Rattle.laws.proofs.Basics.{refl}
use Rattle.compiler.proofs.Translating.{too_long_lem, too_short_lem, serves}
use Rattle.compiler.proofs.attempt.Goals as goal

pub returns-then-too_long : goal.returns-then-too_long
returns-then-too_long c = rw c.refused.ensures (too_long_lem c.too_long.ensures c.clear_from.ensures c.if-too_long.true refl)

pub returns-then-scratch_too_short : goal.returns-then-scratch_too_short
returns-then-scratch_too_short c = rw c.refused-then-scratch_too_short.ensures
    (too_short_lem c.too_long.ensures c.clear_from-then-scratch_too_short.ensures c.if-too_long.false c.scratch_too_short.ensures c.if-scratch_too_short.true refl)

pub in_part-requires : goal.in_part-requires
in_part-requires c = search serves
