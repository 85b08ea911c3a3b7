use Rattle.compiler.proofs.ItemLaws.{item-global, item-manifest}
use Rattle.laws.proofs.Basics.{needs}
use Rattle.compiler.proofs.outer.item_constant.Tie as tie

pub item_constant_spec : {M : Type 1} → Rattle.compiler.proofs.outer.item_constant.Statement.statement M
item_constant_spec = tie.close (tie.spec (search needs) (λ c. search item-global) (search needs) (λ c. search item-manifest))
