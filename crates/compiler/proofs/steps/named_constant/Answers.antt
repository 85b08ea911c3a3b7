use Rattle.laws.proofs.Basics.{ap, ◌∙◌, arith, refl}
use Rattle.language.specs.Constants.{signed}
use Rattle.compiler.proofs.Scoping.{code-some}
use Rattle.compiler.proofs.Judging.{named-unknown, named-manifest, named_other}
use Rattle.compiler.proofs.steps.named_constant.Goals as goal

pub returns-in-None : goal.returns-in-None
returns-in-None c = rw c.in-None.is (named-unknown c.args.minus (c.requires.0, c.requires.1, omega arith) refl)

pub returns-in-Some-Manifest : goal.returns-in-Some-Manifest
returns-in-Some-Manifest c = let q = code-some c.in-Some-Manifest.is (rw c.in-Some-Manifest.is at c.in-Some-Manifest.field-0-is) in
    named-manifest c.args.minus c.requires (omega (arith, q)) (c.signed.ensures ∙ ap (signed c.args.minus) (omega (arith, q)))

pub returns-in-Some-Local : goal.returns-in-Some-Local
returns-in-Some-Local c = let q = code-some c.in-Some-Local.is (rw c.in-Some-Local.is at c.in-Some-Local.field-0-is) in named_other c.args.minus c.requires (λ z. omega (arith, q)) (λ z. omega (arith, q))

pub returns-in-Some-Global : goal.returns-in-Some-Global
returns-in-Some-Global c = let q = code-some c.in-Some-Global.is (rw c.in-Some-Global.is at c.in-Some-Global.field-0-is) in named_other c.args.minus c.requires (λ z. omega (arith, q)) (λ z. omega (arith, q))

pub returns-in-Some-Function : goal.returns-in-Some-Function
returns-in-Some-Function c = let q = code-some c.in-Some-Function.is (rw c.in-Some-Function.is at c.in-Some-Function.field-0-is) in named_other c.args.minus c.requires (λ z. omega (arith, q)) (λ z. omega (arith, q))
