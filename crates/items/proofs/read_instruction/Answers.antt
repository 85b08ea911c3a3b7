use Rattle.std.proofs.Common.{arith}
use Rattle.std.proofs.lemmas.Grind.{common_steps}
use Rattle.items.specs.Read.{instruction_item}
use Rattle.items.specs.Answers.{as_item}
use Rattle.items.proofs.Elements.{operand_both, base_both}
use Rattle.items.proofs.read_instruction.Goals as goal

pub returns-clause-reads : goal.returns-clause-reads
unfolding instruction_item as_item
returns-clause-reads c = rw (← operand_both c.in_ok-operand.operand.value, ← base_both c.read_base-base.result.value) (grind (arith, common_steps))
