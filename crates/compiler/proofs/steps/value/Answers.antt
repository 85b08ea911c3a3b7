use Rattle.laws.proofs.Basics.{refl}
use Rattle.compiler.proofs.Scoping.{code-some}
use Rattle.compiler.proofs.Done.{value-unknown, value-local, value-global, value-manifest, value-function}
use Rattle.compiler.proofs.steps.value.Goals as goal

pub returns-in-None : goal.returns-in-None
returns-in-None c = rw c.in-None.is (value-unknown _ c.wrong.ensures)

pub returns-in-Some-Local : goal.returns-in-Some-Local
returns-in-Some-Local c = rw (code-some c.in-Some-Local.is (rw c.in-Some-Local.is at c.in-Some-Local.field-0-is)) (search value-local)

pub returns-in-Some-Global : goal.returns-in-Some-Global
returns-in-Some-Global c = rw (code-some c.in-Some-Global.is (rw c.in-Some-Global.is at c.in-Some-Global.field-0-is)) (search value-global)

pub returns-in-Some-Manifest : goal.returns-in-Some-Manifest
returns-in-Some-Manifest c = rw (code-some c.in-Some-Manifest.is (rw c.in-Some-Manifest.is at c.in-Some-Manifest.field-0-is)) (search value-manifest)

pub returns-in-Some-Function : goal.returns-in-Some-Function
returns-in-Some-Function c = rw (code-some c.in-Some-Function.is (rw c.in-Some-Function.is at c.in-Some-Function.field-0-is)) (value-function _ _ refl c.put_to.ensures)
