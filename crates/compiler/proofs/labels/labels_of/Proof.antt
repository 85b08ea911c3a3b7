use Rattle.compiler.proofs.Switching.{spans-bare, spans-none, spans-is}
use Rattle.laws.proofs.Basics.{needs}
use Rattle.compiler.proofs.labels.labels_of.Tie as tie

pub labels_of_spec : {M : Type 1} → Rattle.compiler.proofs.labels.labels_of.Statement.statement M
labels_of_spec = tie.close (tie.spec (search needs) (λ c. search spans-bare) (search needs) (λ c. search spans-none) (λ c. search spans-is))
