use Rattle.laws.proofs.Basics.{◌≤◌, ◌≡◌, sym, ap, ◌∙◌, arith, needs}
use Rattle.language.specs.Names.{Scope, lookup}
use Rattle.compiler.specs.Scope.{Shows, name_at, found}
use Rattle.compiler.proofs.Scoping.{shows_low, Left, left-all, left-then, at-outer, at_open, at_other, at-found}
use Rattle.compiler.proofs.scope.lookup.Tie as tie

abbrev invariant-loop : tie.invariant-loop-at
invariant-loop source s top leaf width place last at₀ at =
    (at ≤ at₀) × (at ≤ top) × ((sc : Scope) → Shows s top sc → Left (λ (k : Scope). lookup source k (name_at s leaf)) s at sc)

abbrev invariant-search : tie.invariant-search
invariant-search source s top leaf width place last at₀ at =
    (at ≤ top) × ((sc : Scope) → Shows s top sc → Left (λ (k : Scope). lookup source k (name_at s leaf)) s at sc)

abbrev decreases-search : tie.decreases-search
decreases-search source s top leaf width place last at₀ at = at

pub lookup_spec : {M : Type 1} → Rattle.compiler.proofs.scope.lookup.Statement.statement M
unfolding found
lookup_spec = tie.close (tie.spec invariant-loop (λ source s top leaf width place last at₀ at. at) invariant-search decreases-search
    (λ c. (record { by = λ sc h. absurd (omega (arith, c.if-s-top.true, shows_low h)) }, omega arith)) (search needs) (search needs) (search needs)
    (search needs) (λ c _. (c.entry-place.ensures.1, c.entry-width.ensures.1)) (λ c. (omega arith, λ sc h. left-all _ sc h))
    (λ c. (omega arith, c.search.invariant.0, c.search.invariant.1))
    -- returns-2
    (λ c. (
      (record {
        by = λ sc h. let l = c.loop-at.invariant.2 sc h in sym (ap found (l.same ∙ at-outer _ c.args.s.now _ _ l.shows
            c.if-at-lt2.true));
      }),
      omega arith,
    ))
    (λ c. omega arith) (λ c κs. omega arith) (λ c. omega arith)
    -- search-again
    (λ c. (
      omega arith,
      (λ sc h. let l = c.loop-at.invariant.2 sc h in
          left-then _ sc l (at_open _ _ _ _ c.if-at-lt2.false c.stacked.ensures.0 l.shows c.if-stacked-eq0.true)),
    ))
    (λ c κs. omega arith) (λ c κs. omega arith) (λ c. omega arith)
    -- loop-again
    (λ c. (
      omega arith,
      omega arith,
      (
          λ sc h. let l = c.loop-at.invariant.2 sc h in left-then _ sc l (at_other _ _ c.args.leaf _ c.if-at-lt2.false
          c.stacked.ensures.0 c.if-stacked-eq0.false c.stacked-in-loop-at.ensures.0 c.entry-width.ensures.0
          c.entry-place.ensures.0 l.shows (sym c.if-spelt.false ∙ c.spelt.ensures))),
    ))
    (λ c. omega arith) (λ c κs. omega arith)
    -- decode-requires
    (λ c κs. let z : c.stacked-2.result ≡ 0 → ⊥ = λ e. c.if-stacked-eq0.false (c.stacked.ensures.0 ∙ sym c.stacked-2.ensures.0 ∙ e) in omega arith)
    -- returns-3
    (λ c. rw c.decode.ensures (
      record {
        by = λ sc h. let l = c.loop-at.invariant.2 sc h in at-found _ _ c.args.leaf _ c.if-at-lt2.false
            c.stacked-2.ensures.0 (λ e. c.if-stacked-eq0.false (c.stacked.ensures.0 ∙ sym c.stacked-2.ensures.0 ∙ e))
            c.stacked-in-loop-at.ensures.0 c.entry-width.ensures.0 c.entry-place.ensures.0 l.shows
            (sym c.if-spelt.true ∙ c.spelt.ensures) ∙ ap found (sym l.same);
      },
      c.stacked-2.ensures.1,
    )))
