use Rattle.assembler.proofs.Cleared.{fixed-is}
use Rattle.assembler.proofs.write_start.Goals as goal

pub returns : goal.returns
returns c = rw c.copy_from_slice.ensures.after (fixed-is c.args.memory.now c.requires.0 c.requires.1)
