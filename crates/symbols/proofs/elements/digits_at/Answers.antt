use Rattle.laws.proofs.Basics.{sym, ◌∙◌}
use Rattle.symbols.proofs.Numbers.{digits-stop, digits_more, digits-end}
use Rattle.symbols.proofs.elements.digits_at.Goals as goal

pub returns-then-not-is_digit : goal.returns-then-not-is_digit
returns-then-not-is_digit c = digits-stop c.loop-count.invariant c.loop-count-test.true c.from-c.ensures (sym c.is_digit.ensures ∙ c.if-not-is_digit.true)

pub loop-count-preserved : goal.loop-count-preserved
loop-count-preserved c = digits_more c.loop-count.invariant c.loop-count-test.true c.from-c.ensures c.requires.0
    (sym c.is_digit.ensures ∙ c.if-not-is_digit.false) c.and_digit-value.ensures

pub returns : goal.returns
returns c = digits-end c.loop-count.invariant c.loop-count-test.false
