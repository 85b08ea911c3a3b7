use Rattle.std.proofs.Common.{rules}
use Rattle.words.proofs.Laws.{rem_is}
use Rattle.words.proofs.remainder.Goals as goal

pub returns : goal.returns
returns c = search (rules, rem_is)
