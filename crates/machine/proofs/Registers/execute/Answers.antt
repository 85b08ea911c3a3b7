use Rattle.std.proofs.Common.{rules}
use Rattle.machine.proofs.Numbers.{function_x}
use Rattle.machine.proofs.Registers.execute.Goals as goal

pub returns-in_default : goal.returns-in_default
returns-in_default c = search (rules, function_x)
