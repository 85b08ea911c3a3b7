use Rattle.compiler.proofs.Aways.{away-break, away-loop, away-endcase, away-return, away-finish, away-nowhere, away-no-routine}
use Rattle.laws.proofs.Basics.{needs}
use Rattle.compiler.proofs.steps.away.Tie as tie

pub away_spec : {M : Type 1} → Rattle.compiler.proofs.steps.away.Statement.statement M
away_spec = tie.close (tie.spec (search needs) (search needs) (λ c. search away-nowhere) (search needs) (search needs) (search needs) (search needs)
    (λ c. search away-return) (search needs) (search needs) (search needs) (λ c. search away-break) (search needs) (λ c. search away-loop)
    (search needs) (λ c. search away-endcase) (λ c. search away-no-routine) (search needs) (λ c. search away-finish))
