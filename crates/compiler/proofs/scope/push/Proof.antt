use Rattle.laws.proofs.Basics.{length-set, arith, needs}
use Rattle.compiler.proofs.scope.push.Tie as tie

pub push_spec : {M : Type 1} → Rattle.compiler.proofs.scope.push.Statement.statement M
push_spec =
    tie.close (tie.spec (search needs) (search needs) (search needs) (search needs) (search needs) (search needs) (λ c. simp length-set (omega arith))
    (search needs) (search needs))
