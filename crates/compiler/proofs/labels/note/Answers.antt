use Rattle.laws.proofs.Basics.{refl, arith}
use Rattle.compiler.proofs.Flags.{flag-fits, mark-is}
use Rattle.compiler.proofs.Doubling.{note-first, note-again, note-none}
use Rattle.compiler.proofs.labels.note.Goals as goal

pub returns-then-seen-at : goal.returns-then-seen-at
returns-then-seen-at c = search note-none

pub returns-then-seen-at-eq1 : goal.returns-then-seen-at-eq1
returns-then-seen-at-eq1 c = note-again refl (mark-is c.args.i) (λ z. omega arith) c.wrong.ensures

pub overflow_add-seen : goal.overflow_add-seen
overflow_add-seen c = omega (arith, flag-fits c.args.seen.now c.args.i refl (mark-is c.args.i) (omega arith) (omega arith))

pub returns : goal.returns
returns c = note-first (omega arith) refl (mark-is c.args.i) (omega arith) refl
