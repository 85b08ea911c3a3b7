use Rattle.std.proofs.Common.{rules}
use Rattle.tree.proofs.Leaves.{number_read, string-read, name-read, true-read, false-read, other-read}
use Rattle.tree.proofs.parts.atom.Goals as goal

pub returns-in-60 : goal.returns-in-60
returns-in-60 c = number_read c.value_here-value.ensures c.in-60.is c.leaf.ensures

pub returns-in-61 : goal.returns-in-61
returns-in-61 c = string-read c.value_here-value.ensures c.in-61.is c.leaf-in-61.ensures

pub returns-in-9 : goal.returns-in-9
returns-in-9 c = true-read c.value_here-value.ensures c.in-9.is c.leaf-in-9.ensures

pub returns-in-10 : goal.returns-in-10
returns-in-10 c = false-read c.value_here-value.ensures c.in-10.is c.leaf-in-10.ensures

pub returns-in-59 : goal.returns-in-59
returns-in-59 c = name-read c.value_here-value.ensures c.in-59.is c.leaf-in-59.ensures

pub returns-in_default : goal.returns-in_default
returns-in_default c = other-read (search rules) c.refuse.ensures
