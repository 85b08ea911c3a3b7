use Rattle.laws.proofs.Basics.{◌+◌, ◌-◌, ◌≤◌, arith, needs}
use Rattle.compiler.proofs.Counting.{Counting, count-begin, count_next, count-end}
use Rattle.compiler.proofs.steps.count.Tie as tie

abbrev invariant-loop : tie.invariant-loop-at
invariant-loop s from end at₀ n₀ at n = (n + from ≤ at) × (n ≤ end - from) × Counting s from end at n

pub count_spec : {M : Type 1} → Rattle.compiler.proofs.steps.count.Statement.statement M
count_spec = tie.close (tie.spec invariant-loop (λ s from end at₀ n₀ at n. end - at) (λ c. (omega arith, omega arith, count-begin)) (λ c. omega arith) (search needs)
    (λ c. omega arith) (λ c. omega arith) (λ c. omega arith) (λ c. (omega arith, omega arith, search count_next)) (λ c. (search count-end, c.loop-at.invariant.1)))
