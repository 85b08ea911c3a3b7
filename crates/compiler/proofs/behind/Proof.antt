use Rattle.compiler.proofs.Answering.{behind-gave}
use Rattle.laws.proofs.Basics.{needs}
use Rattle.compiler.proofs.behind.Tie as tie

pub behind_spec : {M : Type 1} → Rattle.compiler.proofs.behind.Statement.statement M
behind_spec = tie.close (tie.spec (search needs) (search needs) (search needs) (search needs) (search needs) (search needs) (λ c. search behind-gave))
