use Rattle.compiler.proofs.Done.{emits_then}
use Rattle.laws.proofs.Basics.{needs}
use Rattle.compiler.proofs.steps.keep.Tie as tie

pub keep_spec : {M : Type 1} → Rattle.compiler.proofs.steps.keep.Statement.statement M
keep_spec = tie.close (tie.spec (search needs) (search needs) (search needs) (search needs)
    (λ c. emits_then c.put-a.ensures (c.reached.ensures.by _)))
