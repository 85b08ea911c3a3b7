use Rattle.std.proofs.Common.{rules}
use Rattle.tree.proofs.Leaves.{positive-number, positive-true, positive-false, positive-name}
use Rattle.tree.proofs.parts.positive.Goals as goal

pub returns-in-60 : goal.returns-in-60
returns-in-60 c = positive-number c.value_here-value.ensures c.in-60.is c.leaf.ensures

pub returns-in-9 : goal.returns-in-9
returns-in-9 c = positive-true c.value_here-value.ensures c.in-9.is c.leaf-in-9.ensures

pub returns-in-10 : goal.returns-in-10
returns-in-10 c = positive-false c.value_here-value.ensures c.in-10.is c.leaf-in-10.ensures

pub returns-in_default : goal.returns-in_default
returns-in_default c = positive-name c.value_here-value.ensures (search rules) c.leaf-in_default.ensures
