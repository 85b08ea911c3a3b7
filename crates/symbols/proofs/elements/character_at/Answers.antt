use Rattle.std.specs.Prelude.{Err}
use Rattle.laws.proofs.Basics.{sym, ap, ◌∙◌, arith}
use Rattle.text.specs.Answers.{found}
use Rattle.text.proofs.Answers.{when-closed, when-unclosed, when-faulty}
use Rattle.text.proofs.Quotes.{fault-within}
use Rattle.text.proofs.Constants.{closed-inside}
use Rattle.symbols.proofs.Quotations.{no-character, a-character, character-unclosed, character-faulty}
use Rattle.symbols.proofs.elements.character_at.Goals as goal

pub overflow_add-result : goal.overflow_add-result
overflow_add-result c = let args = c.args in
    omega (arith, closed-inside 39 1 args.bytes.now 0 (when-closed _ (ap found (sym c.in-Ok.is) ∙ c.quoted_at.ensures)))

pub overflow_add-result-in-Err-Faulty : goal.overflow_add-result-in-Err-Faulty
overflow_add-result-in-Err-Faulty c = let args = c.args in
    omega (arith, fault-within 39 1 0 args.bytes.now (when-faulty _ (sym (ap found (c.in-Err-Faulty.is ∙ ap Err c.in-Err-Faulty.field-0-is)) ∙ c.quoted_at.ensures)))

pub returns-then-constant-eq0 : goal.returns-then-constant-eq0
returns-then-constant-eq0 c = rw c.refused_here.ensures
    (no-character c.args.bytes.now (when-closed _ (ap found (sym c.in-Ok.is) ∙ c.quoted_at.ensures)) c.if-constant-eq0.true)

pub returns-else-constant-eq0 : goal.returns-else-constant-eq0
returns-else-constant-eq0 c = a-character c.args.bytes.now (when-closed _ (ap found (sym c.in-Ok.is) ∙ c.quoted_at.ensures)) c.if-constant-eq0.false
    (c.from.ensures ∙ c.value_at-value.ensures)

pub returns-in-Err-Unclosed : goal.returns-in-Err-Unclosed
returns-in-Err-Unclosed c = rw c.refused_here-in-Err-Unclosed.ensures (character-unclosed c.args.bytes.now (when-unclosed _ (sym (ap found (c.in-Err-Unclosed.is ∙ ap Err c.in-Err-Unclosed.field-0-is)) ∙ c.quoted_at.ensures)))

pub returns-in-Err-Faulty : goal.returns-in-Err-Faulty
returns-in-Err-Faulty c = character-faulty c.args.bytes.now (when-faulty _ (sym (ap found (c.in-Err-Faulty.is ∙ ap Err c.in-Err-Faulty.field-0-is)) ∙ c.quoted_at.ensures))
