use Rattle.tree.proofs.Constants.{constant-negative, constant-positive}
use Rattle.tree.proofs.parts.constant.Goals as goal

pub returns-then-kind-eq-MINUS : goal.returns-then-kind-eq-MINUS
returns-then-kind-eq-MINUS c = constant-negative _ c.kind_here-kind.ensures c.if-kind-eq-MINUS.true c.negative.ensures

pub returns-else-kind-eq-MINUS : goal.returns-else-kind-eq-MINUS
returns-else-kind-eq-MINUS c = constant-positive _ c.kind_here-kind.ensures c.if-kind-eq-MINUS.false c.positive.ensures
