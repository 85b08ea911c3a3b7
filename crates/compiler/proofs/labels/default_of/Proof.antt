use Rattle.laws.proofs.Basics.{◌+◌, ◌-◌, ◌≤◌, List, arith, needs}
use Rattle.language.specs.Tree.{Label}
use Rattle.compiler.specs.Labels.{CommandAt, Row}
use Rattle.compiler.proofs.Switching.{DefaultPart, default-begin, default-found, default-next, default-end}
use Rattle.compiler.proofs.labels.default_of.Tie as tie

abbrev invariant-loop : tie.invariant-loop-at
invariant-loop s from end first done at₀ k₀ at k =
    (k ≤ first + at) × ((lss : List (List Label)) → Row (CommandAt s) s end from lss → DefaultPart s end first done at k lss)

pub default_of_spec : {M : Type 1} → Rattle.compiler.proofs.labels.default_of.Statement.statement M
default_of_spec =
    tie.close (tie.spec invariant-loop (λ s from end first done at₀ k₀ at k. end - at) (λ c. (omega arith, λ lss r. search default-begin)) (search needs)
    (λ c κs. omega arith) (λ c _. c.labels_of-l.ensures.small) (λ c. search default-found) (λ c. omega arith) (λ c. omega arith)
    (λ c. (omega arith, λ lss r. search (default-next, c.loop-at.invariant.1)))
    (λ c. default-end _ _ _ _ c.loop-at.k c.loop-at-test.false c.loop-at.invariant.1))
