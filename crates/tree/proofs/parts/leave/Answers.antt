use Rattle.tree.proofs.Leaves.{leave-read}
use Rattle.tree.proofs.parts.leave.Goals as goal

pub returns : goal.returns
returns c = (c.leaf.ensures.0, λ src l k. leave-read k (c.leaf.ensures.1 src l))
