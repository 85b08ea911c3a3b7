use Rattle.laws.proofs.Basics.{arith}
use Rattle.compiler.proofs.Scoping.{code-some}
use Rattle.compiler.proofs.outer.global_in.Goals as goal

pub returns-in-Some-Global : goal.returns-in-Some-Global
returns-in-Some-Global c = code-some c.in-Some-Global.is (rw c.in-Some-Global.is at c.in-Some-Global.field-0-is)

pub returns-in-None : goal.returns-in-None
returns-in-None c = rw c.in-None.is (λ e. omega arith)

pub returns-in-Some-Local : goal.returns-in-Some-Local
returns-in-Some-Local c = let q = code-some c.in-Some-Local.is (rw c.in-Some-Local.is at c.in-Some-Local.field-0-is) in λ e. omega (arith, q)

pub returns-in-Some-Manifest : goal.returns-in-Some-Manifest
returns-in-Some-Manifest c = let q = code-some c.in-Some-Manifest.is (rw c.in-Some-Manifest.is at c.in-Some-Manifest.field-0-is) in λ e. omega (arith, q)

pub returns-in-Some-Function : goal.returns-in-Some-Function
returns-in-Some-Function c = let q = code-some c.in-Some-Function.is (rw c.in-Some-Function.is at c.in-Some-Function.field-0-is) in λ e. omega (arith, q)
