use Rattle.compiler.proofs.Done.{emits_then}
use Rattle.laws.proofs.Basics.{needs}
use Rattle.compiler.proofs.steps.store_through.Tie as tie

pub store_through_spec : {M : Type 1} → Rattle.compiler.proofs.steps.store_through.Statement.statement M
store_through_spec = tie.close (tie.spec (search needs) (search needs) (search needs) (search needs) (search needs) (search needs)
    -- returns
    (λ c. emits_then c.put-a.ensures
    (emits_then c.put-b.ensures c.put.ensures)))
