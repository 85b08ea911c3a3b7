use Rattle.laws.proofs.Basics.{needs}
use Rattle.compiler.proofs.StringTexts.{two_bytes}
use Rattle.compiler.proofs.strings.opening.Tie as tie

pub opening_spec : {M : Type 1} → Rattle.compiler.proofs.strings.opening.Statement.statement M
opening_spec = tie.close (tie.spec (search needs) (search needs) (search needs) (λ c. search two_bytes))
