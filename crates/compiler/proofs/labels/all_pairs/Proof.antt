use Rattle.laws.proofs.Basics.{◌+◌, ◌-◌, ◌≤◌, ◌≡◌, length, arith, needs}
use Rattle.compiler.specs.Labels.{CommandAt, Listed, Sound, Still, flat}
use Rattle.compiler.proofs.Switching.{still-here, still-then, TablePart, table-begin, table-next, table-end}
use Rattle.compiler.proofs.labels.all_pairs.Tie as tie

abbrev invariant-loop : tie.invariant-loop-at
invariant-loop source s from end top text₀ first at₀ k₀ r₀ text at k r = (length text ≡ length text₀) × Still r₀ r × (k ≤ first + at) ×
    ((y : Listed (CommandAt s) s from end top) → Sound source y.scope (flat y.all) → TablePart source first text₀ r₀ y text at k r)

pub all_pairs_spec : {M : Type 1} → Rattle.compiler.proofs.labels.all_pairs.Statement.statement M
all_pairs_spec =
    tie.close (tie.spec invariant-loop (λ source s from end top text₀ first at₀ k₀ r₀ text at k r. end - at) (λ c. search (needs, still-here, table-begin))
    (search needs) (λ c κs. omega arith) (λ c _. c.labels_of-l.ensures.small) (λ c. omega arith) (λ c. omega arith)
    -- loop-again
    (λ c. (
      omega arith,
      search still-then,
      omega arith,
      (
          λ y so. table-next _ _ _ _ c.loop-at-test.true
          c.next_item-next.ensures c.labels_of-l.ensures c.pairs-r.ensures y
          (c.loop-at.invariant.3 y so)),
    )) (search needs)
    (λ c. table-end _ _ _ c.args.st _ c.loop-at-test.false c.loop-at.invariant.1 c.loop-at.invariant.3))
