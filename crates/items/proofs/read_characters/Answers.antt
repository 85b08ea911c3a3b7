use Rattle.std.proofs.Common.{ap}
use Rattle.text.proofs.Answers.{Counted, when-closed}
use Rattle.text.specs.Quoted.{quoted}
use Rattle.items.specs.Read.{as_string, quoted_string}
use Rattle.items.proofs.Elements.{no_string, closed_within}
use Rattle.items.proofs.read_characters.Goals as goal

pub returns-in_default-clause-reads : goal.returns-in_default-clause-reads
returns-in_default-clause-reads c = no_string _ _ c.in_default.ensures

pub returns-clause-reads : goal.returns-clause-reads
unfolding quoted_string
returns-clause-reads c = let s : Counted (quoted 34 255 0 c.args.bytes.now) c.in-Ok.field-0.characters c.in-Ok.field-0.width = when-closed _ c.in-Ok.ensures in
    record { characters = s.characters; reading = ap as_string s.is; count = s.count }

pub returns-clause-within : goal.returns-clause-within
returns-clause-within c = closed_within _ 34 255 c.in-Ok.ensures
