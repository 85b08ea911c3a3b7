use Rattle.laws.proofs.Basics.{refl, arith}
use Rattle.compiler.proofs.Doubling.{list-begin, list-next, list-end}
use Rattle.compiler.proofs.labels.doubled.Goals as goal

pub loop-at-init : goal.loop-at-init
loop-at-init c = (refl, λ y. search list-begin)

pub next_item-next-requires : goal.next_item-next-requires
next_item-next-requires c = omega arith

pub doubled_in-r-requires : goal.doubled_in-r-requires
doubled_in-r-requires c = c.labels_of-l.ensures.small

pub loop-at-preserved : goal.loop-at-preserved
loop-at-preserved c = (
  omega arith,
  λ y. list-next _ _ c.loop-at-test.true c.next_item-next.ensures c.labels_of-l.ensures c.doubled_in-r.ensures y (c.loop-at.invariant.1 y),
)

pub returns : goal.returns
returns c = list-end _ _ c.loop-at-test.false c.loop-at.invariant.1
