use Rattle.std.proofs.lemmas.Result.{err_from_is_err_and}
use Rattle.compiler.proofs.Judging.{most-refused, most-big, most-fits}
use Rattle.compiler.proofs.steps.judge_most.Goals as goal

pub returns-in_err-word : goal.returns-in_err-word
returns-in_err-word c = let p = err_from_is_err_and c.from_residual.result c.from_residual.ensures.1 in
    rw (p.1, p.2) (most-refused _ (rw c.in_err-word.was at c.judge.ensures))

pub returns-then-most-word : goal.returns-then-most-word
returns-then-most-word c = most-big _ (rw c.in_ok-word.was at c.judge.ensures) c.if-most-word.true c.saturating_sub.ensures c.entry.ensures.0 c.entry.ensures.1

pub returns : goal.returns
returns c = most-fits _ (rw c.in_ok-word.was at c.judge.ensures) c.if-most-word.false
