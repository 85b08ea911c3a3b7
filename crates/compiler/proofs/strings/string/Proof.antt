use Rattle.laws.proofs.Basics.{needs}
use Rattle.compiler.proofs.StringTexts.{string-put}
use Rattle.compiler.proofs.strings.string.Tie as tie

pub string_spec : {M : Type 1} → Rattle.compiler.proofs.strings.string.Statement.statement M
string_spec = tie.close (tie.spec (search needs) (search needs) (search needs) (search needs) (search needs) (search needs) (search needs)
    (λ c. search string-put))
