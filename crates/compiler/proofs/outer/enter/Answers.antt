use Rattle.laws.proofs.Basics.{refl, arith}
use Rattle.compiler.proofs.GroupLaws.{enters-global, enters-far, enters-name}
use Rattle.compiler.proofs.outer.enter.Goals as goal

pub returns-then-n-table : goal.returns-then-n-table
returns-then-n-table c = enters-global (omega (arith, c.in-Some.ensures)) (omega (arith, c.in-Some.ensures)) refl refl

pub returns-else-n-table : goal.returns-else-n-table
returns-else-n-table c = enters-far (omega (arith, c.in-Some.ensures)) (omega (arith, c.in-Some.ensures)) c.if-n-table.false

pub returns-in-None : goal.returns-in-None
returns-in-None c = enters-name c.in-None.ensures c.push_name.ensures refl c.push_name.auto.s
