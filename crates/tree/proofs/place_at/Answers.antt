use Rattle.tree.proofs.Decoded.{lies, place-past}
use Rattle.tree.proofs.place_at.Goals as goal

pub returns-then-at-n : goal.returns-then-at-n
returns-then-at-n c = (lies _ _ _).places _ c.if-at-n.true

pub returns-else-at-n : goal.returns-else-at-n
returns-else-at-n c = place-past _ _ _ _ c.if-at-n.false
