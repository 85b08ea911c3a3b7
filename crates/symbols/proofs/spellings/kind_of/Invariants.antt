use Rattle.symbols.proofs.Spelling.{Searching}
use Rattle.symbols.proofs.spellings.kind_of.Given as goal

abbrev pub invariant-loop-row : goal.invariant-loop-row
invariant-loop-row l = Searching l.word l.row-items l.compared l.row-index
