use Rattle.laws.proofs.Basics.{ℕ, ap, get_or, refl, ◌∙◌, arith}
use Rattle.compiler.proofs.Scoping.{code-some}
use Rattle.compiler.proofs.GroupLaws.{fault-unknown, fault-free, fault-so}
use Rattle.compiler.proofs.outer.name_fault.Goals as goal

pub returns-in-None : goal.returns-in-None
returns-in-None c = rw c.in-None.is (fault-unknown refl)

pub returns-then-entry-eq0 : goal.returns-then-entry-eq0
returns-then-entry-eq0 c = let q = code-some c.in-Some-Global.is (rw c.in-Some-Global.is at c.in-Some-Global.field-0-is) in
    fault-free (omega (arith, q)) (λ z. omega (arith, q)) (c.entry.ensures.0 ∙ ap (λ (i : ℕ). get_or c.args.table.now i 0) (omega (arith, q)))
    c.if-entry-eq0.true

pub returns-else-entry-eq0 : goal.returns-else-entry-eq0
returns-else-entry-eq0 c = let q = code-some c.in-Some-Global.is (rw c.in-Some-Global.is at c.in-Some-Global.field-0-is) in fault-so (λ z. omega (arith, q))
    (λ a b. c.if-entry-eq0.false (c.entry.ensures.0 ∙ ap (λ (i : ℕ). get_or c.args.table.now i 0) (omega (arith, q)) ∙ b)) c.wrong.ensures

pub returns-in-Some-Local : goal.returns-in-Some-Local
returns-in-Some-Local c = let q = code-some c.in-Some-Local.is (rw c.in-Some-Local.is at c.in-Some-Local.field-0-is) in fault-so (λ z. omega (arith, q)) (λ a b. absurd (omega (arith, q))) (search)

pub returns-in-Some-Manifest : goal.returns-in-Some-Manifest
returns-in-Some-Manifest c = let q = code-some c.in-Some-Manifest.is (rw c.in-Some-Manifest.is at c.in-Some-Manifest.field-0-is) in fault-so (λ z. omega (arith, q)) (λ a b. absurd (omega (arith, q))) (search)

pub returns-in-Some-Function : goal.returns-in-Some-Function
returns-in-Some-Function c = let q = code-some c.in-Some-Function.is (rw c.in-Some-Function.is at c.in-Some-Function.field-0-is) in fault-so (λ z. omega (arith, q)) (λ a b. absurd (omega (arith, q))) (search)
