-- `program` meets its contract: the loop's invariant is `ProgramPart`.
use Rattle.laws.proofs.Basics.{◌-◌, ◌≡◌, refl, ◌∙◌, length, arith, needs}
use Rattle.compiler.specs.Programs.{ReadyProgram}
use Rattle.compiler.proofs.ProgramLoop.{ProgramPart, program-begin, program-ready, program-next, program-end}
use Rattle.compiler.proofs.program.program.Tie as tie

abbrev invariant-loop : tie.invariant-loop-at
invariant-loop source s₀ table₀ base end left strings text₀ at₀ l₀ s table text at l =
    (length s ≡ length s₀) × (length table ≡ length table₀) × (length text ≡ length text₀)
    × ((y : ReadyProgram s₀ table₀ base end left strings l₀.done) → ProgramPart source text₀ l₀.done y s table text at l)

pub program_spec : {M : Type 1} → Rattle.compiler.proofs.program.program.Statement.statement M
program_spec = tie.close (tie.spec invariant-loop (λ source s₀ table₀ base end left strings text₀ at₀ l₀ s table text at l. end - at)
    (λ c. (refl, refl, refl, λ y. search program-begin)) (λ c. omega arith) (search needs) (λ c. omega arith) (λ c. omega arith) (search needs)
    (λ c. omega arith)
    -- declaration-requires
    (λ c κs. program-ready _ _ _ c.loop-at-test.true c.entry.ensures.0 refl c.entry-tag.ensures.0 c.requires
    (c.loop-at.invariant.3 c.requires))
    (λ c. omega arith)
    -- loop-again
    (λ c. (
      omega arith,
      c.declaration-l.auto.table ∙ c.loop-at.invariant.1,
      omega arith,
      λ y. program-next _ _ _
          c.loop-at-test.true c.entry.ensures.0 refl c.entry-tag.ensures.0 y (c.loop-at.invariant.3 y)
          c.declaration-l.ensures,
    )) (search needs) (search needs) (search needs) (λ c. search program-end))
