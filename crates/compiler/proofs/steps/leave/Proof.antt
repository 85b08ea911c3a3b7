use Rattle.compiler.proofs.Done.{leaves-wrong, leaves_jump}
use Rattle.laws.proofs.Basics.{needs}
use Rattle.compiler.proofs.steps.leave.Tie as tie

pub leave_spec : {M : Type 1} → Rattle.compiler.proofs.steps.leave.Statement.statement M
leave_spec = tie.close (tie.spec (search needs) (λ c. search leaves-wrong) (search needs) (search needs) (λ c. search leaves_jump))
