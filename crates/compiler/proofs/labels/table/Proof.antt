use Rattle.compiler.proofs.Switching.{table-gave}
use Rattle.laws.proofs.Basics.{needs}
use Rattle.compiler.proofs.labels.table.Tie as tie

pub table_spec : {M : Type 1} → Rattle.compiler.proofs.labels.table.Statement.statement M
table_spec = tie.close (tie.spec (search needs) (search needs) (search needs) (search needs) (search needs)
    (λ c κs. (c.requires.0, c.requires.1)) (search needs)
    -- returns
    (λ c. table-gave _ c.put-a.ensures c.count_all-n.ensures c.put_word-b.ensures
    c.default_of-to.ensures c.put_address-c.ensures c.all_pairs.ensures))
