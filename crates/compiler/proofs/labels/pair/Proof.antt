use Rattle.compiler.proofs.Switching.{pair-not, pair_is}
use Rattle.laws.proofs.Basics.{needs}
use Rattle.compiler.proofs.labels.pair.Tie as tie

pub pair_spec : {M : Type 1} → Rattle.compiler.proofs.labels.pair.Statement.statement M
pair_spec =
    tie.close (tie.spec (search needs) (λ c. search pair-not) (search needs) (search needs) (search needs) (search needs) (search needs) (λ c. search pair_is))
