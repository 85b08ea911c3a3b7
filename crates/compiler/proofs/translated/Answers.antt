use Rattle.laws.proofs.Basics.{refl, ap, ◌∙◌}
use Rattle.std.specs.Prelude.{Err}
use Rattle.compiler.proofs.Translating.{ready-symbols, symbols-answer, never-short, never-long}
use Rattle.compiler.proofs.translated.Goals as goal

pub parsed-requires : goal.parsed-requires
parsed-requires c = ready-symbols c.requires c.read_symbols.ensures c.read_symbols.auto.scratch c.in-Ok.is

pub returns-in-Err-Refused : goal.returns-in-Err-Refused
returns-in-Err-Refused c = rw c.refused.ensures (symbols-answer c.requires c.read_symbols.ensures (c.in-Err-Refused.is ∙ ap Err c.in-Err-Refused.field-0-is) refl)

pub returns-in-Err-TooShort : goal.returns-in-Err-TooShort
returns-in-Err-TooShort c = absurd (never-short c.requires c.read_symbols.ensures (c.in-Err-TooShort.is ∙ ap Err c.in-Err-TooShort.field-0-is))

pub returns-in-Err-TooLong : goal.returns-in-Err-TooLong
returns-in-Err-TooLong c = absurd (never-long c.requires c.read_symbols.ensures (c.in-Err-TooLong.is ∙ ap Err c.in-Err-TooLong.field-0-is))
