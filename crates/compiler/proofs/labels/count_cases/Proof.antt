use Rattle.laws.proofs.Basics.{◌-◌, ◌≤◌, List, arith, needs}
use Rattle.language.specs.Tree.{Label}
use Rattle.compiler.specs.Labels.{LabelAt, Row}
use Rattle.compiler.proofs.Switching.{labels, CountPart, count-begin, count_next, count-end}
use Rattle.compiler.proofs.labels.count_cases.Tie as tie

abbrev invariant-loop : tie.invariant-loop-at
invariant-loop s from end at₀ n₀ at n = (n ≤ at) × (n ≤ end) × ((ls : List Label) → Row (LabelAt s) s end from ls → CountPart (labels s) s end at n ls)

pub count_cases_spec : {M : Type 1} → Rattle.compiler.proofs.labels.count_cases.Statement.statement M
count_cases_spec =
    tie.close (tie.spec invariant-loop (λ s from end at₀ n₀ at n. end - at) (λ c. (omega arith, omega arith, λ ls r. search count-begin)) (search needs)
    (search needs) (λ c. omega arith) (λ c. omega arith)
    (λ c. (omega arith, omega arith, λ ls r. search (count_next, labels, c.loop-at.invariant.2))) (λ c. record {
      few = omega arith;
      by = λ ls r. count-end (labels _) c.args.s.now _ c.loop-at-test.false ls (c.loop-at.invariant.2 ls r);
    }))
