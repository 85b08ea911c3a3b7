use Rattle.symbols.proofs.Numbers.{Digits}
use Rattle.symbols.proofs.elements.digits_at.Given as goal

abbrev pub invariant-loop-count : goal.invariant-loop-count
invariant-loop-count l = Digits l.base l.bytes l.value l.count
