use Rattle.laws.proofs.Basics.{arith}
use Rattle.assembler.proofs.Indexing.{found_none, found_at}
use Rattle.assembler.proofs.Index.find.Goals as goal

pub returns-in-0 : goal.returns-in-0
returns-in-0 c = found_none c.args.self.now c.args.number c.in-0.is

pub returns-in_default : goal.returns-in_default
returns-in_default c = found_at c.args.self.now c.args.number (λ e. omega arith)
