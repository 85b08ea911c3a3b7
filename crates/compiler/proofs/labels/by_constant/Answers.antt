use Rattle.std.proofs.lemmas.Result.{err_from_is_err_and}
use Rattle.compiler.proofs.Rows.{by-none, by-refused, by-judged, by_zero}
use Rattle.compiler.proofs.labels.by_constant.Goals as goal

pub returns-then-end-from : goal.returns-then-end-from
returns-then-end-from c = search by-none

pub returns-in_err-word : goal.returns-in_err-word
returns-in_err-word c = let p = err_from_is_err_and c.from_residual.result c.from_residual.ensures.1 in
    rw (p.1, p.2) (by-refused _ c.if-end-from.false (rw c.in_err-word.was at c.judge.ensures))

pub returns-then-word-eq0 : goal.returns-then-word-eq0
returns-then-word-eq0 c = by_zero _ c.if-end-from.false (rw c.in_ok-word.was at c.judge.ensures) c.if-word-eq0.true c.saturating_sub.ensures
    c.entry.ensures.0 c.entry.ensures.1

pub returns : goal.returns
returns c = by-judged _ c.if-end-from.false (rw c.in_ok-word.was at c.judge.ensures) c.if-word-eq0.false
