use Rattle.laws.proofs.Basics.{refl}
use Rattle.compiler.proofs.Judging.{vector-names, vector-gave}
use Rattle.compiler.proofs.steps.vector.Goals as goal

pub declare-b-requires : goal.declare-b-requires
declare-b-requires c = vector-names _ c.node_at-n.ensures c.requires.1.is refl c.requires.0

pub returns : goal.returns
returns c = vector-gave _ c.node_at-n.ensures c.requires.1.is c.args.source.now refl c.judge_most-j.ensures c.blame-a.ensures c.declare-b.ensures
    c.word_of-size.ensures c.vector_code-c.ensures refl
