use Rattle.std.proofs.Common.{arith}
use Rattle.std.proofs.lemmas.Grind.{common_steps}
use Rattle.machine.specs.Fetch.{fetch}
use Rattle.machine.proofs.Fetching.{fetch_sp}
use Rattle.machine.proofs.Registers.fetch.Goals as goal

pub returns-in_err-w : goal.returns-in_err-w
unfolding fetch
returns-in_err-w c = grind (arith, common_steps)

pub returns-in-20 : goal.returns-in-20
returns-in-20 c = fetch_sp _ _ c.word_at.ensures c.in_ok-w.was c.sum-past.ensures c.in-20.is c.sum-in-20.ensures c.fetched-in-20.ensures
