use Rattle.laws.proofs.Basics.{◌-◌, ◌≡◌, refl, length, arith, needs}
use Rattle.compiler.specs.Groups.{ReadyGroup}
use Rattle.compiler.proofs.GroupNameLaws.{GroupPart, names-begin, names-fit, names-next, names-end, Fits}
use Rattle.compiler.proofs.outer.group_names.Tie as tie

abbrev invariant-loop : tie.invariant-loop-at
invariant-loop source s₀ table₀ from end top before at₀ k₀ now-top₀ r₀ s table at k now-top r = (length s ≡ length s₀) × (length table ≡ length table₀) ×
    ((y : ReadyGroup s₀ table₀ from end top before) → GroupPart source r₀ y s table at k now-top r)

abbrev decreases-loop : tie.decreases-loop-at
decreases-loop source s₀ table₀ from end top before at₀ k₀ now-top₀ r₀ s table at k now-top r = end - at

-- what a function's name needs
fit : (c : tie.In-loop-at invariant-loop decreases-loop) → let l = c.loop-at in
    Fits c.args.source.now c.args.st c.requires l.s l.table l.at l.k l.now_top
fit c = names-fit c.args.source.now c.args.st c.loop-at-test.true c.requires (c.loop-at.invariant.2 c.requires)

pub group_names_spec : {M : Type 1} → Rattle.compiler.proofs.outer.group_names.Statement.statement M
group_names_spec =
    tie.close (tie.spec invariant-loop decreases-loop (λ c. (refl, refl, λ y. search names-begin)) (λ c. omega arith) (search needs) (λ c. omega arith)
    (λ c. omega arith) (λ c κs. omega (arith, fit (search))) (λ c. omega arith) (search needs) (λ c κs. search (needs, names-fit)) (λ c. omega arith)
    (λ c κs. let w = fit (search) in (omega arith, omega arith, w.few, w.name)) (λ c. omega (arith, fit (search))) (λ c. omega arith)
    -- loop-again
    (λ c. (
      omega arith,
      omega arith,
      λ y. names-next c.args.source.now _ c.loop-at-test.true c.entry.ensures.0 refl
          c.lookup-m.ensures.0 c.entry-place.ensures.0 c.name_fault-r.ensures c.enter-now_top.ensures
          y (c.loop-at.invariant.2 y),
    ))
    (λ c. c.loop-at.invariant.0) (λ c. c.loop-at.invariant.1) (λ c. names-end _ _ c.loop-at-test.false c.loop-at.invariant.2))
