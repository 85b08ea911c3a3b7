use Rattle.laws.proofs.Basics.{arith}
use Rattle.assembler.specs.Passes.{listed}
use Rattle.assembler.proofs.Writing.{global-range, global-unknown, global-known}
use Rattle.assembler.proofs.write_global.Goals as goal

pub find-requires : goal.find-requires
find-requires c = (global-range c.args.global c.args.number c.requires.ranged).1

pub returns-in_err-memory : goal.returns-in_err-memory
returns-in_err-memory c = rw c.from_residual.ensures
    (global-unknown c.args.global c.args.number (listed c.args.index.now) c.args.at c.args.memory.now c.requires c.find.ensures c.in_err-memory.was)

pub bounds-memory-global : goal.bounds-memory-global
bounds-memory-global c = omega (arith, (global-range c.args.global c.args.number c.requires.ranged).0)

pub returns : goal.returns
returns c =
    global-known c.args.global c.args.number (listed c.args.index.now) c.args.at c.args.memory.now c.requires c.find.ensures c.in_ok-memory.was
