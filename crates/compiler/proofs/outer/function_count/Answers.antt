use Rattle.laws.proofs.Basics.{⊎_elim, arith}
use Rattle.compiler.proofs.GroupLaws.{counts-group}
use Rattle.compiler.proofs.FunctionCounts.{counted-begin, counted-group, counted-past, counted-other, counted-end}
use Rattle.compiler.proofs.outer.function_count.Goals as goal

pub loop-at-init : goal.loop-at-init
loop-at-init c = (omega arith, counted-begin)

pub overflow_add-n : goal.overflow_add-n
overflow_add-n c = omega arith

pub loop-at-preserved-then-next-end : goal.loop-at-preserved-then-next-end
loop-at-preserved-then-next-end c = (
  omega arith,
  counted-group c.loop-at-test.true c.entry.ensures.0 c.entry-in-loop-at.ensures.0 c.loop-at.invariant.1 c.if-entry-eq-LET.true
      (counts-group c.count-n.ensures.0),
)

pub loop-at-preserved : goal.loop-at-preserved
loop-at-preserved c = (
  omega arith,
  ⊎_elim (λ e. counted-past c.loop-at-test.true c.entry.ensures.0 c.entry-in-loop-at.ensures.0 c.loop-at.invariant.1 e.1)
      (λ e. counted-other c.loop-at-test.true c.entry.ensures.0 c.entry-in-loop-at.ensures.0 c.loop-at.invariant.1 e) c.else-entry-eq-LET.either,
)

pub returns : goal.returns
returns c = search counted-end
