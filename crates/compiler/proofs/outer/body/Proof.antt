use Rattle.compiler.proofs.Bodies.{ready-value, ready-routine, gave-value, gave-routine}
use Rattle.laws.proofs.Basics.{needs}
use Rattle.compiler.proofs.outer.body.Tie as tie

pub body_spec : {M : Type 1} → Rattle.compiler.proofs.outer.body.Statement.statement M
body_spec = tie.close (tie.spec (λ c κs. search ready-value) (search needs) (search needs) (λ c. search gave-value) (λ c κs. search ready-routine)
    (search needs) (search needs) (λ c. search gave-routine))
