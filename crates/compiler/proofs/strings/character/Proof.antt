use Rattle.laws.proofs.Basics.{needs}
use Rattle.compiler.proofs.StringTexts.{put-plain, put-starred}
use Rattle.compiler.proofs.strings.character.Tie as tie

pub character_spec : {M : Type 1} → Rattle.compiler.proofs.strings.character.Statement.statement M
character_spec = tie.close (tie.spec (search needs) (search needs) (search needs) (λ c. search put-plain) (search needs) (search needs) (search needs)
    (λ c. search put-starred))
