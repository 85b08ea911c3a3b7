use Rattle.compiler.proofs.Done.{emits_then}
use Rattle.laws.proofs.Basics.{needs}
use Rattle.compiler.proofs.steps.vector_code.Tie as tie

pub vector_code_spec : {M : Type 1} → Rattle.compiler.proofs.steps.vector_code.Statement.statement M
vector_code_spec = tie.close (tie.spec (search needs) (search needs) (search needs) (search needs) (search needs) (search needs) (search needs)
    (λ c. emits_then c.put-a.ensures (emits_then c.put-b.ensures
    (c.reached.ensures.by _))))
