use Rattle.laws.proofs.Basics.{refl}
use Rattle.compiler.proofs.Declarations.{again-not, again-so}
use Rattle.compiler.proofs.Scoping.{entry-not}
use Rattle.compiler.proofs.steps.again.Goals as goal

pub returns-in-None : goal.returns-in-None
returns-in-None c = rw c.in-None.is (again-not refl)

pub returns-in-Some : goal.returns-in-Some
returns-in-Some c = rw c.in-Some.is (again-so (entry-not _) c.wrong.ensures)
