use Rattle.laws.proofs.Basics.{sym, ◌∙◌, length-set, arith}
use Rattle.assembler.specs.Words.{in_range}
use Rattle.assembler.specs.Passes.{listed}
use Rattle.assembler.proofs.Writing.{short-below, first_fits, second_fits, instruction-unknown, instruction-short, instruction-long}
use Rattle.assembler.proofs.write_instruction.Goals as goal

pub value-requires : goal.value-requires
unfolding in_range
value-requires c = c.requires.ranged

pub returns-in_err-operand : goal.returns-in_err-operand
returns-in_err-operand c = rw c.from_residual.ensures
    (instruction-unknown _ _ _ _ (listed c.args.index.now) _ _ c.requires c.value.ensures c.in_err-operand.was)

pub short-requires : goal.short-requires
unfolding in_range
short-requires c = c.requires.ranged

pub overflow_add-memory : goal.overflow_add-memory
overflow_add-memory c = omega (
  arith,
  short-below (listed c.args.index.now) _ c.value.ensures c.in_ok-operand.was (sym c.short.ensures ∙ c.if-short.true),
)

pub bounds-memory-at : goal.bounds-memory-at
bounds-memory-at c = first_fits _ _ _ _ _ c.requires.fits

pub returns-then-short : goal.returns-then-short
returns-then-short c = instruction-short _ _ _ _ (listed c.args.index.now) _ _ c.requires c.value.ensures c.head-word.ensures.0
    c.in_ok-operand.was (sym c.short.ensures ∙ c.if-short.true)

pub bounds-memory-at-2 : goal.bounds-memory-at-2
bounds-memory-at-2 c = first_fits _ _ _ _ _ c.requires.fits

pub bounds-memory-at-3 : goal.bounds-memory-at-3
bounds-memory-at-3 c = rw length-set (second_fits _ _ _ _ _ (sym c.short.ensures ∙ c.if-short.false) c.requires.fits)

pub returns : goal.returns
returns c = instruction-long _ _ _ _ (listed c.args.index.now) _ _ c.requires c.value.ensures c.head-word.ensures.0
    c.in_ok-operand.was (sym c.short.ensures ∙ c.if-short.false)
