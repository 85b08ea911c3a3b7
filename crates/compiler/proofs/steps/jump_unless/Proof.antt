use Rattle.laws.proofs.Basics.{eq-eqb, ne_eqb}
use Rattle.compiler.proofs.steps.jump_unless.Tie as tie

pub jump_unless_spec : {M : Type 1} → Rattle.compiler.proofs.steps.jump_unless.Statement.statement M
jump_unless_spec = tie.close (tie.spec (λ c. rw (eq-eqb _ _ c.if-word-wants.true)) (λ c. rw (ne_eqb _ _ c.if-word-wants.false)))
