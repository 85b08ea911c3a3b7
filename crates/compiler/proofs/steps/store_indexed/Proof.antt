use Rattle.compiler.proofs.Done.{emits_then}
use Rattle.laws.proofs.Basics.{needs}
use Rattle.compiler.proofs.steps.store_indexed.Tie as tie

pub store_indexed_spec : {M : Type 1} → Rattle.compiler.proofs.steps.store_indexed.Statement.statement M
store_indexed_spec = tie.close (tie.spec (search needs) (search needs) (search needs) (search needs)
    (λ c. emits_then c.put-a.ensures c.store_through.ensures))
