use Rattle.compiler.proofs.Done.{emits_then}
use Rattle.laws.proofs.Basics.{needs}
use Rattle.compiler.proofs.steps.operate.Tie as tie

pub operate_spec : {M : Type 1} → Rattle.compiler.proofs.steps.operate.Statement.statement M
operate_spec = tie.close (tie.spec (search needs) (search needs) (search needs) (search needs) (search needs) (search needs) (search needs)
    -- returns
    (λ c. emits_then c.put-a.ensures
    (emits_then c.put-b.ensures
    (emits_then c.put-c.ensures c.put.ensures))))
