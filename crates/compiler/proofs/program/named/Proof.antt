-- `named` meets its contract: `items` has done it all but taken the height away.
use Rattle.laws.proofs.Basics.{refl, needs}
use Rattle.compiler.proofs.Levels.{items-flat}
use Rattle.compiler.proofs.program.named.Tie as tie

pub named_spec : {M : Type 1} → Rattle.compiler.proofs.program.named.Statement.statement M
named_spec = tie.close (tie.spec (λ c κs. search needs) (λ c κs. search needs) (λ c. search needs)
    -- returns
    (λ c. record {
      known = items-flat c.requires.1 c.level.ensures
          c.items-k.ensures;
      low = rw c.level.ensures;
      functions = refl;
      tall = refl;
    }))
