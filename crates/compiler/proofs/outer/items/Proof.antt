use Rattle.laws.proofs.Basics.{◌+◌, ◌-◌, ◌*◌, ◌≤◌, ◌≡◌, refl, length, arith, needs}
use Rattle.compiler.specs.Items.{ReadyItems}
use Rattle.compiler.proofs.ItemLaws.{ItemsPart, items-begin, items-fit, items-next, items-end, items-out, code-small, Fits}
use Rattle.compiler.proofs.outer.items.Tie as tie

abbrev invariant-loop : tie.invariant-loop-at
invariant-loop source s₀ from end top global at₀ k₀ r₀ s at k r =
    (length s ≡ length s₀) × ((y : ReadyItems s₀ from end top) → ItemsPart global source r₀ y s at k r)

abbrev decreases-loop : tie.decreases-loop-at
decreases-loop source s₀ from end top global at₀ k₀ r₀ s at k r = end - at

-- what an item needs
fit : (c : tie.In-loop-at invariant-loop decreases-loop) → let l = c.loop-at in
    Fits c.args.global c.args.source.now c.args.st c.requires l.s l.at l.k
fit c = items-fit c.args.global c.args.source.now c.args.st c.loop-at.k c.loop-at-test.true c.requires
    (c.loop-at.invariant.1 c.requires)

out : (c : tie.At-loop-at invariant-loop decreases-loop) → c.args.top + 2 * c.loop-at.k ≤ length c.args.s.now
out c = items-out c.args.global c.args.source.now c.args.st c.loop-at.k c.requires (c.loop-at.invariant.1 c.requires)

pub items_spec : {M : Type 1} → Rattle.compiler.proofs.outer.items.Statement.statement M
items_spec = tie.close (tie.spec invariant-loop decreases-loop (λ c. (refl, λ y. search items-begin)) (λ c. omega arith) (search needs) (λ c. omega arith)
    (λ c. omega (arith, fit (search))) (λ c. omega (arith, fit (search))) (λ c κs. omega (arith, fit (search))) (λ c. omega (arith, fit (search)))
    (λ c. omega (arith, fit (search))) (λ c. omega arith) (λ c κs. omega (arith, fit (search))) (λ c. omega arith) (search needs) (search needs)
    (λ c _. c.entry-place.ensures.1) (λ c. omega (arith, fit (search))) (λ c. omega (arith, fit (search))) (λ c. omega (arith, fit (search)))
    (search needs)
    (search needs)
    -- push-name-requires
    (λ c κs. let w = fit (search) in
    let v = code-small c.args.global c.word_of.result (rw c.word_of.ensures c.item_constant-c.ensures.low) in (omega arith, omega arith, omega arith, w.name))
    (λ c. omega (arith, fit (search))) (λ c. omega arith)
    -- loop-again
    (λ c. (
      omega arith,
      λ y. items-next _ _ c.args.st _ c.loop-at-test.true c.entry.ensures.0 refl
          c.item_constant-c.ensures c.in_block-m.ensures c.entry-place.ensures.0
          c.blame-a.ensures c.again-r.ensures c.push_name.ensures c.word_of.ensures c.meaning.ensures y
          (c.loop-at.invariant.1 y),
    ))
    (λ c. omega (arith, out (search))) (λ c. omega (arith, out (search))) (search needs) (λ c. search items-end))
