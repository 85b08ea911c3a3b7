use Rattle.laws.proofs.Basics.{arith}
use Rattle.assembler.proofs.Noting.{note-label, note-other}
use Rattle.assembler.proofs.Index.note.Goals as goal

pub bounds-self-number : goal.bounds-self-number
bounds-self-number c = (c.requires.free _ c.in-Label.is).0

pub overflow_cast-labels : goal.overflow_cast-labels
overflow_cast-labels c = omega (arith, (c.requires.free _ c.in-Label.is).0)

pub bounds-labels-self : goal.bounds-labels-self
bounds-labels-self c = (c.requires.free _ c.in-Label.is).1

pub returns-in-Label : goal.returns-in-Label
returns-in-Label c = note-label c.args.at c.args.item c.args.labels.now c.args.self.now c.requires c.in-Label.is

pub returns-in_default : goal.returns-in_default
returns-in_default c = note-other c.args.at c.args.item c.args.labels.now c.args.self.now c.requires (λ n e. c.in_default.not-Label n e)
