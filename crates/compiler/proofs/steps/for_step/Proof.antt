use Rattle.laws.proofs.Basics.{◌∙◌, arith, needs}
use Rattle.compiler.proofs.Done.{emits_then}
use Rattle.compiler.proofs.steps.for_step.Tie as tie

pub for_step_spec : {M : Type 1} → Rattle.compiler.proofs.steps.for_step.Statement.statement M
for_step_spec = tie.close (tie.spec (search needs) (search needs) (search needs) (search needs) (search needs) (search needs)
    (λ c. let put : tie.After-put-b = search in let start : tie.Start = search in omega arith) (search needs)
    -- same-length
    (λ c. c.mark.auto.text ∙ c.put_to-e.auto.text ∙ c.put-d.auto.text ∙ c.put-c.auto.text
    ∙ c.put-b.auto.text ∙ c.mark-a.auto.text)
    -- returns
    (λ c. emits_then c.mark-a.ensures (emits_then c.put-b.ensures
    (emits_then c.put-c.ensures (emits_then c.put-d.ensures
    (emits_then c.put_to-e.ensures c.mark.ensures))))))
