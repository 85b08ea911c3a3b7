use Rattle.symbols.specs.declared.kinds.Kind.TheVariants as V
use Rattle.symbols.proofs.Matching.{match-open, match-close, match-other, opens-round, opens-block, closes-round, closes-block, unlike-brackets}
use Rattle.std.proofs.Common.{true, false, refl}
use Rattle.symbols.proofs.bracket.Goals as goal

pub returns-in-Open : goal.returns-in-Open
returns-in-Open c = match-open _ _ V.Open false opens-round c.in-Open.is c.requires c.opening.ensures.0 c.opening.ensures.1

pub returns-in-Begin : goal.returns-in-Begin
returns-in-Begin c = match-open _ _ V.Begin true opens-block c.in-Begin.is c.requires c.opening-in-Begin.ensures.0 c.opening-in-Begin.ensures.1

pub returns-in-Close : goal.returns-in-Close
returns-in-Close c = match-close _ _ V.Close false refl closes-round c.in-Close.is c.closing.ensures

pub returns-in-End : goal.returns-in-End
returns-in-End c = match-close _ _ V.End true refl closes-block c.in-End.is c.closing-in-End.ensures

pub returns-in_default : goal.returns-in_default
returns-in_default c = match-other _ _ c.args.kind
    (unlike-brackets c.args.kind c.in_default.not-Open c.in_default.not-Begin c.in_default.not-Close c.in_default.not-End)
