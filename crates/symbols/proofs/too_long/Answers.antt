use Rattle.std.proofs.Common.{refl}
use Rattle.language.specs.Source.{too_long}
use Rattle.symbols.proofs.too_long.Goals as goal

pub returns : goal.returns
unfolding too_long
returns c = refl
