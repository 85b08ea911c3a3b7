use Rattle.std.proofs.Common.{rules}
use Rattle.words.proofs.Laws.{quot_is}
use Rattle.words.proofs.quotient.Goals as goal

pub returns : goal.returns
returns c = search (rules, quot_is)
