use Rattle.symbols.proofs.Writing.{writes_one, writes-two}
use Rattle.symbols.proofs.write.Goals as goal

pub returns-then-semicolon : goal.returns-then-semicolon
returns-then-semicolon c = rw c.if-semicolon.true (writes-two _ _ _ _ _ (rw c.if-semicolon.true at c.requires.0) c.put.ensures c.put-then-semicolon.ensures)

pub returns : goal.returns
returns c = rw c.if-semicolon.false (writes_one _ _ _ _ _ (rw c.if-semicolon.false at c.requires.0) c.put-2.ensures)
