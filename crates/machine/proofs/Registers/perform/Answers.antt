use Rattle.std.proofs.Common.{rules}
use Rattle.machine.proofs.Numbers.{combined_ok, combined_err}
use Rattle.machine.proofs.Registers.perform.Goals as goal

pub returns-in_err-combine-in_default : goal.returns-in_err-combine-in_default
returns-in_err-combine-in_default c = combined_err {n = c.args.n} _ _ (search rules) c.combine.ensures c.in_err-combine-in_default.was (search rules)

pub returns-in_ok-combine-in_default : goal.returns-in_ok-combine-in_default
returns-in_ok-combine-in_default c = search (combined_ok, c.in_ok-combine-in_default.was)
