use Rattle.std.proofs.Common.{arith}
use Rattle.std.proofs.lemmas.Grind.{common_steps}
use Rattle.items.specs.Read.{constant_item}
use Rattle.items.specs.Answers.{as_item}
use Rattle.items.proofs.Elements.{operand_both}
use Rattle.items.proofs.read_constant.Goals as goal

pub returns-clause-reads : goal.returns-clause-reads
unfolding constant_item as_item
returns-clause-reads c = grind (arith, common_steps, operand_both c.in_ok-operand.operand.value)
