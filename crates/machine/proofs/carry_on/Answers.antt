use Rattle.std.proofs.Common.{rules, sym, ◌∙◌}
use Rattle.machine.proofs.Parts.{carry_whole, carry_fits, carry_rest}
use Rattle.machine.proofs.carry_on.Goals as goal

pub returns-then-first-number : goal.returns-then-first-number
returns-then-first-number c = carry_whole _ _ _ _ _ (λ z. c.if-first-number.true (z ∙ sym c.number.ensures))

pub overflow_add-result : goal.overflow_add-result
overflow_add-result c = carry_fits _ c.args.first _ _ _ c.allowed-more.ensures c.resume-rest.ensures (search rules)

pub returns : goal.returns
returns c = carry_rest _ _ _ _ _ c.allowed-more.ensures c.resume-rest.ensures (c.if-first-number.false ∙ c.number.ensures)
