use Rattle.laws.proofs.Basics.{◌∙◌, length, lt-ltb}
use Rattle.language.specs.Source.{scratch_too_short}
use Rattle.symbols.proofs.Tests.{room-short, room-rest}
use Rattle.symbols.proofs.scratch_too_short.Goals as goal

pub returns-then-room-lt64 : goal.returns-then-room-lt64
unfolding scratch_too_short
returns-then-room-lt64 c = lt-ltb _ _ c.if-room-lt64.true ∙ room-short _ (length c.args.text.now) c.if-room-lt64.true

pub returns-else-room-lt64 : goal.returns-else-room-lt64
unfolding scratch_too_short
returns-else-room-lt64 c = room-rest _ (length c.args.text.now) c.if-room-lt64.false
