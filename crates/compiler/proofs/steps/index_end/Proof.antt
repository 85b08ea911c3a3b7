use Rattle.compiler.proofs.Done.{emits_then}
use Rattle.laws.proofs.Basics.{needs}
use Rattle.compiler.proofs.steps.index_end.Tie as tie

pub index_end_spec : {M : Type 1} → Rattle.compiler.proofs.steps.index_end.Statement.statement M
index_end_spec = tie.close (tie.spec (search needs) (search needs) (search needs)
    (λ c. emits_then c.put-a.ensures c.put.ensures))
