use Rattle.laws.proofs.Basics.{eq-eqb, ne_eqb}
use Rattle.compiler.proofs.steps.jump_when.Tie as tie

pub jump_when_spec : {M : Type 1} → Rattle.compiler.proofs.steps.jump_when.Statement.statement M
jump_when_spec = tie.close (tie.spec (λ c. rw (eq-eqb _ _ c.if-word-eq-REPEATWHILE.true)) (λ c. rw (ne_eqb _ _ c.if-word-eq-REPEATWHILE.false)))
