-- `group` meets its contract: the loop's invariant is `GroupPart`, for every scope and number of functions before the group.
use Rattle.laws.proofs.Basics.{ℕ, ◌-◌, ◌≡◌, refl, length, arith, needs}
use Rattle.language.specs.Names.{Scope, outermost}
use Rattle.compiler.specs.Groups.{ReadyFs}
use Rattle.compiler.proofs.FunctionLists.{GroupPart, group-begin, group-ready, group-fits, group-next, group-end}
use Rattle.compiler.proofs.program.group.Tie as tie

abbrev invariant-loop : tie.invariant-loop-at
invariant-loop source s₀ from end text₀ here label at₀ l₀ r₀ tall₀ s text at l r tall = (length s ≡ length s₀) × (length text ≡ length text₀)
    × ((y : ReadyFs s₀ from end here (record { tall = tall₀; state = r₀ })) (before : Scope) (k : ℕ)
    → GroupPart source text₀ label (record { tall = tall₀; state = r₀ }) y before k s text at l (record { tall = tall; state = r }))

pub group_spec : {M : Type 1} → Rattle.compiler.proofs.program.group.Statement.statement M
group_spec = tie.close (tie.spec invariant-loop (λ source s₀ from end text₀ here label at₀ l₀ r₀ tall₀ s text at l r tall. end - at)
    (λ c. (refl, refl, λ y before k. search group-begin)) (λ c. omega arith) (search needs) (λ c. omega arith)
    -- function-requires
    (λ c κs. group-ready _ _ _ _ c.loop-at-test.true c.entry.ensures.0 refl c.requires.0
    (c.loop-at.invariant.2 c.requires.0 outermost 0))
    (λ c. omega arith) (search needs) (λ c _. c.entry-place.ensures.1) (search needs)
    -- add-l
    (λ c. let fits = group-fits _ _ _ _ c.loop-at-test.true c.entry.ensures.0 refl c.requires.0
    (c.loop-at.invariant.2 c.requires.0 outermost 0) in omega arith)
    (λ c. omega arith)
    -- loop-again
    (λ c. (
      omega arith,
      omega arith,
      λ y before k. group-next _ _ _ _ c.loop-at-test.true c.entry.ensures.0 refl y
          (c.loop-at.invariant.2 y before k) c.function-a.ensures c.entry-place.ensures.0
          c.entry-place.ensures.1 c.too_tall-tall.ensures c.level-r.ensures,
    )) (search needs) (search needs) (λ c. group-end _ _ _ _ c.loop-at-test.false c.loop-at.invariant.2))
