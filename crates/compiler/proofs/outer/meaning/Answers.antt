use Rattle.laws.proofs.Basics.{refl}
use Rattle.compiler.proofs.ItemLaws.{meaning-global, meaning-manifest}
use Rattle.compiler.proofs.outer.meaning.Goals as goal

pub returns-then-global : goal.returns-then-global
returns-then-global c = meaning-global _ c.if-global.true refl

pub returns-else-global : goal.returns-else-global
returns-else-global c = meaning-manifest _ c.if-global.false refl
