use Rattle.laws.proofs.Basics.{◌-◌, ◌*◌, ◌^◌, ◌≤◌, List, arith, needs}
use Rattle.language.specs.Tree.{Label}
use Rattle.compiler.specs.Labels.{CommandAt, Row}
use Rattle.compiler.proofs.Switching.{commands, CountPart, count-begin, count_next, count-end}
use Rattle.compiler.proofs.labels.count_all.Tie as tie

abbrev invariant-loop : tie.invariant-loop-at
invariant-loop s from end at₀ n₀ at n =
    (n ≤ at * 2 ^ 32) × ((lss : List (List Label)) → Row (CommandAt s) s end from lss → CountPart (commands s) s end at n lss)

pub count_all_spec : {M : Type 1} → Rattle.compiler.proofs.labels.count_all.Statement.statement M
count_all_spec = tie.close (tie.spec invariant-loop (λ s from end at₀ n₀ at n. end - at) (λ c. (omega arith, λ lss r. search count-begin)) (search needs)
    (λ c κs. omega arith) (λ c _. c.labels_of-l.ensures.small) (λ c. omega arith) (λ c. omega arith)
    -- loop-again
    (λ c. (
      omega arith,
      (
          λ lss r. count_next (commands _) c.args.s.now _ _ c.loop-at-test.true
          c.next_item-next.ensures (λ ls q. c.count_cases-n.ensures.by ls (c.labels_of-l.ensures.by ls q)) lss
          (c.loop-at.invariant.1 lss r)),
    ))
    (λ c. record {
      by = λ lss r. count-end (commands _) _ c.args.end c.loop-at-test.false lss (c.loop-at.invariant.1 lss r);
    }))
