use Rattle.machine.proofs.Numbers.{dyadic_act_not}
use Rattle.machine.proofs.dyadic_act.Goals as goal

pub returns-in_default : goal.returns-in_default
returns-in_default c = search dyadic_act_not
