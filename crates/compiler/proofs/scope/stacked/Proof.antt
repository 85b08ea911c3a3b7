use Rattle.laws.proofs.Basics.{refl, arith, needs}
use Rattle.compiler.proofs.scope.stacked.Tie as tie

pub stacked_spec : {M : Type 1} → Rattle.compiler.proofs.scope.stacked.Statement.statement M
stacked_spec = tie.close (tie.spec (search needs) (search needs) (λ c. omega (arith, c.shared_slice_known-1.given c.args.i))
    (λ c. (refl, omega (arith, c.shared_slice_known-1.given c.args.i))))
