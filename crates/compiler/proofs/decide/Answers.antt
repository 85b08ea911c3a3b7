use Rattle.laws.proofs.Basics.{ap, ◌∙◌}
use Rattle.std.specs.Prelude.{Err}
use Rattle.compiler.proofs.Deciding.{by-worst, by-tall, by-none, by-past, by_end}
use Rattle.compiler.proofs.decide.Goals as goal

pub returns-then-worst-lt-NONE : goal.returns-then-worst-lt-NONE
returns-then-worst-lt-NONE c = ap Err c.refuse.ensures ∙ (search by-worst)

pub returns-then-tall-lt-NONE : goal.returns-then-tall-lt-NONE
returns-then-tall-lt-NONE c = ap Err c.refuse-then-tall-lt-NONE.ensures ∙ (search by-tall)

pub returns-then-start-eq0 : goal.returns-then-start-eq0
returns-then-start-eq0 c = c.refused.ensures ∙ (search by-none)

pub returns-then-room-at : goal.returns-then-room-at
returns-then-room-at c = c.refused-then-room-at.ensures ∙ (search by-past)

pub returns : goal.returns
returns c = search by_end
