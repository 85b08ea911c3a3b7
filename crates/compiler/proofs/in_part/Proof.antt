use Rattle.laws.proofs.Basics.{sym, length-take-le, arith, needs}
use Rattle.compiler.proofs.Translating.{front-lent, front-inside, more-scratch}
use Rattle.compiler.proofs.in_part.Tie as tie

pub in_part_spec : {M : Type 1} → Rattle.compiler.proofs.in_part.Statement.statement M
in_part_spec = tie.close (tie.spec (λ c. omega arith) (λ c. omega arith) (λ c. search front-inside) (λ c. sym (search (length-take-le, front-inside)))
    (λ c κs. search front-lent) (λ c κs. search front-inside) (search needs) (search needs) (λ c. search more-scratch))
