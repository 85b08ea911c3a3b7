use Rattle.laws.proofs.Basics.{refl, arith}
use Rattle.items.specs.Render.{character_text}
use Rattle.compiler.proofs.StringTexts.{escapes, no-escape}
use Rattle.compiler.proofs.strings.escape_of.Tie as tie

pub escape_of_spec : {M : Type 1} → Rattle.compiler.proofs.strings.escape_of.Statement.statement M
unfolding character_text
escape_of_spec =
    tie.close (tie.spec (λ c. escapes 10 78 c.in-10.is (λ z. omega arith) refl) (λ c. escapes 9 84 c.in-9.is (λ z. omega arith) refl)
    (λ c. escapes 8 66 c.in-8.is (λ z. omega arith) refl) (λ c. escapes 12 80 c.in-12.is (λ z. omega arith) refl)
    (λ c. escapes 13 67 c.in-13.is (λ z. omega arith) refl) (λ c. escapes 42 42 c.in-42.is (λ z. omega arith) refl)
    (λ c. escapes 34 34 c.in-34.is (λ z. omega arith) refl) (λ c. no-escape c.in_default.in_default-own.rest))
