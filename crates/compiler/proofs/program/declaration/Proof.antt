-- `declaration` meets its contract: by the tag, a group of functions or items.
use Rattle.laws.proofs.Basics.{needs}
use Rattle.compiler.proofs.Levels.{ready-items, gave-items, ready-let, gave-let}
use Rattle.compiler.proofs.program.declaration.Tie as tie

pub declaration_spec : {M : Type 1} → Rattle.compiler.proofs.program.declaration.Statement.statement M
declaration_spec = tie.close (tie.spec (λ c κs. search ready-let) (search needs) (search needs) (search needs) (λ c. search gave-let)
    (λ c κs. (search ready-items, search needs)) (search needs) (λ c. search gave-items))
