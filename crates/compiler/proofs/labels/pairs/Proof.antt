use Rattle.laws.proofs.Basics.{◌-◌, ◌≡◌, refl, length, arith, needs}
use Rattle.compiler.specs.Labels.{LabelAt, Listed, Sound, Still}
use Rattle.compiler.proofs.Switching.{still-here, still-then, PairsPart, pairs-begin, pairs_next, pairs_end}
use Rattle.compiler.proofs.labels.pairs.Tie as tie

abbrev invariant-loop : tie.invariant-loop-at
invariant-loop source s from end top text₀ k at₀ r₀ text at r = (length text ≡ length text₀) × Still r₀ r ×
    ((y : Listed (LabelAt s) s from end top) → Sound source y.scope y.all → PairsPart source k text₀ r₀ y text at r)

pub pairs_spec : {M : Type 1} → Rattle.compiler.proofs.labels.pairs.Statement.statement M
pairs_spec =
    tie.close (tie.spec invariant-loop (λ source s from end top text₀ k at₀ r₀ text at r. end - at) (λ c. (refl, still-here, λ y so. search pairs-begin))
    (search needs) (λ c κs. omega arith) (λ c. omega arith)
    -- loop-again
    (λ c. (
      omega arith,
      search still-then,
      (
          λ y so. pairs_next _ _ _ _ c.loop-at-test.true
          c.next_item-next.ensures c.pair-r.ensures y (c.loop-at.invariant.2 y so)),
    )) (search needs) (λ c. search pairs_end))
