use Rattle.laws.proofs.Basics.{refl, arith}
use Rattle.std.proofs.lemmas.Grind.{common_steps}
use Rattle.symbols.proofs.Reading.{short-text, long, short, reads-symbols, reads-fault}
use Rattle.symbols.proofs.read_symbols.Goals as goal

pub returns-then-too_long : goal.returns-then-too_long
returns-then-too_long c = long _ _ c.too_long.ensures c.if-too_long.true

pub overflow_mul-text : goal.overflow_mul-text
overflow_mul-text c = omega (arith, short-text _ c.too_long.ensures c.if-too_long.false)

pub returns-then-scratch-text : goal.returns-then-scratch-text
returns-then-scratch-text c = short _ _ (short-text _ c.too_long.ensures c.if-too_long.false) c.if-scratch-text.true

pub read_all-requires-clause-text_len_bound : goal.read_all-requires-clause-text_len_bound
read_all-requires-clause-text_len_bound c = (short-text _ c.too_long.ensures c.if-too_long.false, refl)

pub returns-in-Ok : goal.returns-in-Ok
returns-in-Ok c = reads-symbols _ _ (short-text _ c.too_long.ensures c.if-too_long.false) c.if-scratch-text.false c.read_all.ensures c.in-Ok.is

pub returns-in-Err : goal.returns-in-Err
returns-in-Err c = reads-fault _ _ (short-text _ c.too_long.ensures c.if-too_long.false) c.if-scratch-text.false c.read_all.ensures c.in-Err.is (grind (arith, common_steps))
