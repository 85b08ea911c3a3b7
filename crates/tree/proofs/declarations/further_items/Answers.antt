use Rattle.laws.proofs.Basics.{[], refl, arith}
use Rattle.language.specs.Grammar as G
use Rattle.language.specs.Reader.{more_up_to}
use Rattle.tree.proofs.Loops.{before-first, so-starts, list-spents, list-ends, list-semicolon-ends, list-goes-on}
use Rattle.tree.proofs.Programs.{no-item-words}
use Rattle.tree.proofs.Rooms.{takes_none, ready-leaves}
use Rattle.tree.proofs.Steps.{pair}
use Rattle.tree.proofs.declarations.further_items.Goals as goal

pub loop-init : goal.loop-init
loop-init c = so-starts (λ t. more_up_to t [] (G.item c.args.sign)) c.requires.0 before-first (omega arith)

pub kind_here-here-requires : goal.kind_here-here-requires
kind_here-here-requires c = omega arith

pub expect-requires : goal.expect-requires
expect-requires c = omega arith

pub returns-then-here-eq-END : goal.returns-then-here-eq-END
returns-then-here-eq-END c = list-ends _ _ _ c.loop.invariant c.kind_here-here.ensures no-item-words c.if-here-eq-END.true c.expect.ensures (omega arith)

pub expect-semicolon-requires : goal.expect-semicolon-requires
expect-semicolon-requires c = omega arith

pub kind_here-kind-requires : goal.kind_here-kind-requires
kind_here-kind-requires c = omega arith

pub expect-requires-then-kind-eq-END : goal.expect-requires-then-kind-eq-END
expect-requires-then-kind-eq-END c = omega arith

pub returns-then-kind-eq-END : goal.returns-then-kind-eq-END
returns-then-kind-eq-END c = list-semicolon-ends _ _ _ c.loop.invariant c.kind_here-here.ensures no-item-words c.if-here-eq-END.false
    c.expect-semicolon.ensures c.kind_here-kind.ensures c.if-kind-eq-END.true c.expect-then-kind-eq-END.ensures (omega arith)

pub one_item-a-requires : goal.one_item-a-requires
one_item-a-requires c = pair (ready-leaves c.expect-semicolon.ensures.0 refl refl (omega arith)) (omega arith)

pub loop-preserved : goal.loop-preserved
loop-preserved c = list-goes-on _ _ _ c.loop.invariant c.kind_here-here.ensures c.if-here-eq-END.false c.expect-semicolon.ensures
    c.kind_here-kind.ensures c.if-kind-eq-END.false (takes_none c.one_item-a.ensures.0) c.one_item-a.auto.s
    c.one_item-a.ensures.1 (omega arith) (omega arith)

pub refuse-requires : goal.refuse-requires
refuse-requires c = omega arith

pub returns : goal.returns
returns c = list-spents _ _ _ c.loop.invariant c.refuse.ensures (omega arith)
