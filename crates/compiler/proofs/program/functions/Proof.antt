-- `functions` meets its contract: names, then functions, by the laws of `Levels`.
use Rattle.laws.proofs.Basics.{arith, needs}
use Rattle.compiler.proofs.GroupLaws.{counts-group}
use Rattle.compiler.proofs.Levels.{ready-group, ready-fs, gave-group}
use Rattle.compiler.proofs.program.functions.Tie as tie

pub functions_spec : {M : Type 1} → Rattle.compiler.proofs.program.functions.Statement.statement M
functions_spec =
    tie.close (tie.spec (search needs) (λ c κs. search ready-group) (search needs) (search needs) (λ c κs. (search ready-fs, omega arith))
    (λ c. let counted : tie.After-count-n = search in let start : tie.Start = search in omega arith) (search needs) (search needs) (search needs)
    -- returns
    (λ c. let named : tie.After-group_names-k = search in let counted : tie.After-count-n = search in
    gave-group (counts-group counted.count-n.ensures.0) named.group_names-k.ensures
    c.level.ensures (search)))
