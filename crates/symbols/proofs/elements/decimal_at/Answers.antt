use Rattle.symbols.proofs.Numbers.{a-decimal, no-decimal}
use Rattle.symbols.proofs.elements.decimal_at.Goals as goal

pub returns-then-number-gt32767 : goal.returns-then-number-gt32767
returns-then-number-gt32767 c = rw c.refused_here.ensures (no-decimal _ c.digits_at-number.ensures.1 c.if-number-gt32767.true)

pub returns : goal.returns
returns c = a-decimal _ c.digits_at-number.ensures.1 c.digits_at-number.ensures.0 c.if-number-gt32767.false
