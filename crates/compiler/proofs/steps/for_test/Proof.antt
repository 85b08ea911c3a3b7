use Rattle.laws.proofs.Basics.{◌∙◌, arith, needs}
use Rattle.compiler.proofs.Done.{emits_then}
use Rattle.compiler.proofs.Fors.{act-is}
use Rattle.compiler.proofs.steps.for_test.Tie as tie

pub for_test_spec : {M : Type 1} → Rattle.compiler.proofs.steps.for_test.Statement.statement M
for_test_spec = tie.close (tie.spec (search needs) (search needs) (search needs) (search needs) (search needs) (search needs)
    (λ c. let start : tie.Start = search in omega arith) (search needs)
    -- same-length
    (λ c. c.put_to.auto.text ∙ c.put-d.auto.text ∙ c.put-c.auto.text ∙ c.put-b.auto.text ∙ c.mark-a.auto.text)
    -- returns
    (λ c. emits_then c.mark-a.ensures (emits_then c.put-b.ensures
    (emits_then c.put-c.ensures (emits_then (act-is c.limit_act.ensures c.put-d.ensures)
    c.put_to.ensures)))))
