use Rattle.std.proofs.Common.{sym, ◌∙◌, ap}
use Rattle.items.specs.Answers.{operand_of}
use Rattle.items.specs.Parts.{as_got}
use Rattle.items.proofs.Elements.{no_character, a_character, no_value, closed_within}
use Rattle.items.proofs.read_quoted.Goals as goal

pub returns-in_default-clause-reads : goal.returns-in_default-clause-reads
returns-in_default-clause-reads c = sym (no_character _ _ c.in_default.ensures)

pub returns-in_err-value-clause-reads : goal.returns-in_err-value-clause-reads
returns-in_err-value-clause-reads c = ap (as_got operand_of) c.from_residual.ensures ∙ sym (no_value _ c.in-Ok.ensures c.in_err-value.ensures)

pub returns-clause-reads : goal.returns-clause-reads
returns-clause-reads c = rw c.from.ensures (sym (a_character _ c.in-Ok.ensures c.in_ok-value.ensures))

pub returns-clause-within : goal.returns-clause-within
returns-clause-within c = closed_within _ 39 1 c.in-Ok.ensures
