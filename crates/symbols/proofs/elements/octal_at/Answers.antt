use Rattle.laws.proofs.Basics.{arith}
use Rattle.symbols.proofs.Runs.{digits-run, run-within}
use Rattle.symbols.proofs.Numbers.{no-digits, an-octal, no-octal}
use Rattle.symbols.proofs.elements.octal_at.Goals as goal

pub returns-then-number-lt1 : goal.returns-then-number-lt1
returns-then-number-lt1 c = rw c.refused_here.ensures (no-digits _ c.digits_at-number.ensures.0 c.if-number-lt1.true)

pub overflow_add-result : goal.overflow_add-result
overflow_add-result c = let bytes = c.args.bytes.now in omega (arith, c.digits_at-number.ensures.0, run-within (digits-run 8) bytes)

pub returns-then-number-le65535 : goal.returns-then-number-le65535
returns-then-number-le65535 c = an-octal _ c.digits_at-number.ensures.0 c.if-number-lt1.false c.digits_at-number.ensures.1 c.if-number-le65535.true

pub returns : goal.returns
returns c = rw c.refused_here-2.ensures
    (no-octal _ c.digits_at-number.ensures.0 c.if-number-lt1.false c.digits_at-number.ensures.1 c.if-number-le65535.false)
