use Rattle.laws.proofs.Basics.{arith}
use Rattle.language.proofs.Candidates.{compared-at-most-three}
use Rattle.symbols.proofs.word_kind.Goals as goal

pub returns-clause-compared_value : goal.returns-clause-compared_value
returns-clause-compared_value c = (c.kind_of.ensures.compared_value, omega (arith, c.kind_of.ensures.compared_value, compared-at-most-three c.args.word.now))
