use Rattle.compiler.proofs.Rows.{misplaced-default, misplaced-case}
use Rattle.laws.proofs.Basics.{needs}
use Rattle.compiler.proofs.labels.misplaced_label.Tie as tie

pub misplaced_label_spec : {M : Type 1} → Rattle.compiler.proofs.labels.misplaced_label.Statement.statement M
misplaced_label_spec =
    tie.close (tie.spec (search needs) (search needs) (λ c. search misplaced-default) (search needs) (search needs) (λ c. search misplaced-case))
