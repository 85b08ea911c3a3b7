use Rattle.laws.proofs.Basics.{arith}
use Rattle.compiler.proofs.StringTexts.{one_if-small, listing-begin, listing-next, listing-end}
use Rattle.compiler.proofs.strings.strings.Goals as goal

pub loop-i-init : goal.loop-i-init
loop-i-init c = (omega arith, listing-begin)

pub overflow_add-number : goal.overflow_add-number
overflow_add-number c = omega (arith, one_if-small c.entry-kind.result)

pub loop-i-preserved : goal.loop-i-preserved
loop-i-preserved c = (
  omega (arith, one_if-small c.entry-kind.result),
  listing-next c.loop-i-test.true c.entry-kind.ensures.0 c.entry-place.ensures.0 c.one_if-number.ensures c.string_symbol-x.ensures
      c.loop-i.invariant.1,
)

pub returns : goal.returns
returns c = search listing-end
