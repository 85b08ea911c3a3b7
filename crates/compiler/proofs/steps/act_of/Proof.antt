use Rattle.laws.proofs.Basics.{ne_eqb}
use Rattle.code.specs.Generate.{dyadic_act}
use Rattle.compiler.proofs.steps.act_of.Tie as tie

pub act_of_spec : {M : Type 1} → Rattle.compiler.proofs.steps.act_of.Statement.statement M
unfolding dyadic_act
act_of_spec = tie.close (tie.spec (λ c. rw c.in-37.is) (λ c. rw c.in-38.is) (λ c. rw c.in-12.is) (λ c. rw c.in-35.is)
    (λ c. rw c.in-36.is) (λ c. rw c.in-39.is) (λ c. rw c.in-40.is) (λ c. rw c.in-41.is) (λ c. rw c.in-42.is)
    (λ c. rw c.in-43.is) (λ c. rw c.in-44.is) (λ c. rw c.in-45.is) (λ c. rw c.in-46.is) (λ c. rw c.in-47.is)
    (λ c. rw c.in-48.is) (λ c. search ne_eqb))
