use Rattle.laws.proofs.Basics.{arith}
use Rattle.assembler.specs.Words.{in_range, size}
use Rattle.assembler.specs.Passes.{operand_of, listed}
use Rattle.assembler.proofs.Writing.{constant-unknown, constant-known}
use Rattle.assembler.proofs.write_constant.Goals as goal

pub value-requires : goal.value-requires
unfolding in_range
value-requires c = c.requires.ranged

pub returns-in_err-memory : goal.returns-in_err-memory
returns-in_err-memory c = rw c.from_residual.ensures
    (constant-unknown (operand_of c.args.x) (listed c.args.index.now) c.args.at c.args.memory.now c.requires c.value.ensures c.in_err-memory.was)

pub bounds-memory-at : goal.bounds-memory-at
unfolding size
bounds-memory-at c = omega arith

pub returns : goal.returns
returns c =
    constant-known (operand_of c.args.x) (listed c.args.index.now) c.args.at c.args.memory.now c.requires c.value.ensures c.in_ok-memory.was
