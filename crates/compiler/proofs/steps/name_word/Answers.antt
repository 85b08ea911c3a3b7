use Rattle.laws.proofs.Basics.{refl, arith}
use Rattle.compiler.proofs.Scoping.{code-some}
use Rattle.language.specs.Heights.{of_expr, of_target}
use Rattle.code.specs.Generate as G
use Rattle.compiler.proofs.Sides.{of-local, of-global, of-unknown, of_other, say_address, say_target}
use Rattle.compiler.proofs.steps.name_word.Goals as goal

pub returns-in-None : goal.returns-in-None
returns-in-None c = rw c.in-None.is (
  λ e. record { by = search (of-unknown say_address) },
  λ e. record { by = search (of-unknown say_target) },
)

pub returns-in-Some-Local : goal.returns-in-Some-Local
unfolding G.expr_code of_expr G.expr_labels G.target_code of_target G.target_labels
returns-in-Some-Local c = let q = code-some c.in-Some-Local.is (rw c.in-Some-Local.is at c.in-Some-Local.field-0-is) in (
  λ e. record { by = rw q (of-local say_address G.LP (λ x k n. refl) _ _ (rw e at c.put.ensures)) },
  λ e. record { by = rw q (of-local say_target G.SP (λ x k n. refl) _ _ (rw e at c.put.ensures)) },
)

pub returns-in-Some-Global : goal.returns-in-Some-Global
unfolding G.expr_code of_expr G.expr_labels G.target_code of_target G.target_labels
returns-in-Some-Global c = let q = code-some c.in-Some-Global.is (rw c.in-Some-Global.is at c.in-Some-Global.field-0-is) in (
  λ e. record { by = rw q (of-global say_address G.LG (λ x k n. refl) _ _ (rw e at c.put-in-Some-Global.ensures)) },
  λ e. record { by = rw q (of-global say_target G.SG (λ x k n. refl) _ _ (rw e at c.put-in-Some-Global.ensures)) },
)

pub returns-in-Some-Manifest : goal.returns-in-Some-Manifest
returns-in-Some-Manifest c = let q = code-some c.in-Some-Manifest.is (rw c.in-Some-Manifest.is at c.in-Some-Manifest.field-0-is) in (
  λ e. record { by = of_other say_address _ _ (λ z. omega (arith, q)) (λ z. omega (arith, q)) (λ z. omega (arith, q)) (search) refl },
  λ e. record { by = of_other say_target _ _ (λ z. omega (arith, q)) (λ z. omega (arith, q)) (λ z. omega (arith, q)) (search) refl },
)

pub returns-in-Some-Function : goal.returns-in-Some-Function
returns-in-Some-Function c = let q = code-some c.in-Some-Function.is (rw c.in-Some-Function.is at c.in-Some-Function.field-0-is) in (
  λ e. record { by = of_other say_address _ _ (λ z. omega (arith, q)) (λ z. omega (arith, q)) (λ z. omega (arith, q)) (search) refl },
  λ e. record { by = of_other say_target _ _ (λ z. omega (arith, q)) (λ z. omega (arith, q)) (λ z. omega (arith, q)) (search) refl },
)
