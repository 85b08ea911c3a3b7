use Rattle.std.proofs.Common.{rules}
use Rattle.tree.proofs.Constants.{negative-shut, negative-number, negative-true, negative-false, negative-name}
use Rattle.tree.proofs.parts.negative.Goals as goal

pub returns-then-levels-eq0 : goal.returns-then-levels-eq0
returns-then-levels-eq0 c = negative-shut _ c.if-levels-eq0.true c.refuse.ensures

pub returns-in-60 : goal.returns-in-60
returns-in-60 c = negative-number _ c.place_here-place.ensures c.if-levels-eq0.false c.expect-minus.ensures c.kind_here-kind.ensures c.value_here-value.ensures
    c.in-60.is c.negated.ensures

pub returns-in-9 : goal.returns-in-9
returns-in-9 c = negative-true _ c.place_here-place.ensures c.if-levels-eq0.false c.expect-minus.ensures c.kind_here-kind.ensures c.value_here-value.ensures
    c.in-9.is c.negated-in-9.ensures

pub returns-in-10 : goal.returns-in-10
returns-in-10 c = negative-false _ c.place_here-place.ensures c.if-levels-eq0.false c.expect-minus.ensures c.kind_here-kind.ensures c.value_here-value.ensures
    c.in-10.is c.negated-in-10.ensures

pub returns-in_default : goal.returns-in_default
returns-in_default c = negative-name _ c.place_here-place.ensures c.if-levels-eq0.false c.expect-minus.ensures c.kind_here-kind.ensures c.value_here-value.ensures
    (search rules) c.negated_name.ensures
