use Rattle.tree.proofs.Names.{a-name-read}
use Rattle.tree.proofs.parts.a_name.Goals as goal

pub returns : goal.returns
returns c = (c.leaf.ensures.0, λ src l. a-name-read l (c.value_here-value.ensures src l) (c.leaf.ensures.1 src l))
