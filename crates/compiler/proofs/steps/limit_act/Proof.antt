use Rattle.laws.proofs.Basics.{le-leb, lt-leb}
use Rattle.compiler.proofs.steps.limit_act.Tie as tie

pub limit_act_spec : {M : Type 1} → Rattle.compiler.proofs.steps.limit_act.Statement.statement M
limit_act_spec = tie.close (tie.spec (λ c. rw (le-leb _ _ c.if-by-ge32768.true)) (λ c. rw (lt-leb _ _ c.if-by-ge32768.false)))
