use Rattle.laws.proofs.Basics.{◌∙◌}
use Rattle.assembler.proofs.Assembling.{assembles-not}
use Rattle.assembler.proofs.assemble.Goals as goal

pub returns-in-Err : goal.returns-in-Err
returns-in-Err c =
    assembles-not c.args.text.now c.args.memory.now c.args.labels.now c.clear.ensures.words c.clear.ensures.labels _ _ _ c.passes.ensures c.in-Err.is
    c.clear-in-Err.ensures.words c.clear-in-Err.ensures.labels (c.refuse.ensures ∙ rw c.number.ensures)
