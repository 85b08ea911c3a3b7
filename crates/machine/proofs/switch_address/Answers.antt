use Rattle.std.proofs.Common.{rules}
use Rattle.machine.proofs.Laws.{sought_stops, sought_goes}
use Rattle.machine.proofs.switch_address.Goals as goal

pub returns-in_err-word_at : goal.returns-in_err-word_at
returns-in_err-word_at c = sought_stops _ _ _ _ _ _ c.loop.invariant c.loop-test.true c.word_at.ensures c.in_err-word_at.was (search rules)

pub loop-preserved : goal.loop-preserved
loop-preserved c = sought_goes _ _ _ _ _ _ c.loop.invariant c.loop-test.true c.word_at.ensures c.in_ok-word_at.was c.if-branch-a.false c.sum-i.ensures
