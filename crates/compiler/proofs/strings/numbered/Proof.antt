use Rattle.laws.proofs.Basics.{needs}
use Rattle.compiler.proofs.StringTexts.{four_bytes}
use Rattle.compiler.proofs.strings.numbered.Tie as tie

pub numbered_spec : {M : Type 1} → Rattle.compiler.proofs.strings.numbered.Statement.statement M
numbered_spec =
    tie.close (tie.spec (search needs) (search needs) (search needs) (search needs) (search needs) (search needs) (search needs) (search needs)
    (λ c. search four_bytes))
