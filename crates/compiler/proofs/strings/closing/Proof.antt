use Rattle.laws.proofs.Basics.{needs}
use Rattle.compiler.proofs.StringTexts.{two_bytes}
use Rattle.compiler.proofs.strings.closing.Tie as tie

pub closing_spec : {M : Type 1} → Rattle.compiler.proofs.strings.closing.Statement.statement M
closing_spec = tie.close (tie.spec (search needs) (search needs) (search needs) (λ c. search two_bytes))
