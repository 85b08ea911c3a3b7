use Rattle.laws.proofs.Basics.{◌≤◌, sym, ap, ◌∙◌, arith, needs}
use Rattle.language.specs.Names.{Scope, in_block}
use Rattle.compiler.specs.Scope.{Shows, name_at, found}
use Rattle.compiler.proofs.Scoping.{shows_low, Left, left-all, left-then, in-outer, in-open, in-other, in-found}
use Rattle.compiler.proofs.scope.in_block.Tie as tie

abbrev invariant-loop : tie.invariant-loop-at
invariant-loop source s top leaf width place last at₀ at =
    (at ≤ top) × ((sc : Scope) → Shows s top sc → Left (λ (k : Scope). in_block source k (name_at s leaf)) s at sc)

pub in_block_spec : {M : Type 1} → Rattle.compiler.proofs.scope.in_block.Statement.statement M
unfolding found
in_block_spec = tie.close (tie.spec invariant-loop (λ source s top leaf width place last at₀ at. at)
    (λ c. record { by = λ sc h. absurd (omega (arith, c.if-s-top.true, shows_low h)) }) (search needs) (search needs) (search needs) (search needs)
    (λ c _. (c.entry-place.ensures.1, c.entry-width.ensures.1)) (λ c. (omega arith, λ sc h. left-all _ sc h)) (λ c. omega arith)
    (λ c κs. omega arith)
    -- returns-2
    (λ c. record {
      by = λ sc h. let l = c.loop-at.invariant.1 sc h in sym (ap found (l.same ∙ in-open _ _ c.args.leaf _
          c.loop-at-test.true c.stacked-m.ensures.0 l.shows c.if-m-eq0.true));
    })
    (λ c κs. omega arith) (λ c κs. omega arith)
    -- decode-requires
    (λ c κs. omega (arith, c.if-m-eq0.false))
    -- returns-3
    (λ c. rw c.decode.ensures (record {
      by = λ sc h. let l = c.loop-at.invariant.1 sc h in in-found _ _ _ _ c.loop-at-test.true
          c.stacked-m.ensures.0 c.if-m-eq0.false c.stacked.ensures.0 c.entry-width.ensures.0
          c.entry-place.ensures.0 l.shows (sym c.if-spelt.true ∙ c.spelt.ensures) ∙ ap found (sym l.same);
    }))
    (λ c. omega arith)
    -- loop-again
    (λ c. (
      omega arith,
      (
          λ sc h. let l = c.loop-at.invariant.1 sc h in left-then _ sc l (in-other _ _ c.args.leaf _ c.loop-at-test.true
          c.stacked-m.ensures.0 c.if-m-eq0.false c.stacked.ensures.0 c.entry-width.ensures.0
          c.entry-place.ensures.0 l.shows (sym c.if-spelt.false ∙ c.spelt.ensures))),
    ))
    (λ c. (record { by = λ sc h. let l = c.loop-at.invariant.1 sc h in sym (ap found (l.same ∙ in-outer _ _ _ _ l.shows (omega arith))) })))
