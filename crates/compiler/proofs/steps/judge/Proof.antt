use Rattle.compiler.proofs.Judging.{judge-number, judge-name, judge-negative, judge-negated}
use Rattle.laws.proofs.Basics.{needs}
use Rattle.compiler.proofs.steps.judge.Tie as tie

pub judge_spec : {M : Type 1} → Rattle.compiler.proofs.steps.judge.Statement.statement M
judge_spec = tie.close (tie.spec (search needs) (λ c. search judge-number) (search needs) (search needs) (λ c. search judge-name) (search needs)
    (λ c. search judge-negative) (search needs) (search needs) (search needs) (search needs) (λ c. search judge-negated))
