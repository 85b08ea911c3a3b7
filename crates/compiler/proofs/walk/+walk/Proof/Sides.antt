-- What @ and := take: an address, a left side, an assignment.
use Rattle.compiler.proofs as proofs
use proofs.steps as steps
use Rattle.compiler.proofs.walk.+walk as cycle
use Rattle.laws.proofs.Basics.{ℕ, ◌-◌, ◌^◌, ◌<◌, ◌≡◌, refl, ap, ◌∙◌, [], length, arith, needs}
use Rattle.compiler.proofs.Assigning.{AssignPart, assign-begin, assign-is, assign-right, assign-left, assign-next, assign_end}
use Rattle.compiler.proofs.Sides.{side-open, side-refused, side-name, side-part, side-pling, side_left, side_right, side-index-gave}
use Rattle.compiler.proofs.Sides.{gave-side-at, gave-refused-at, monadic-part, refuse-gave, address-open, address-pling, address-refused}
use Rattle.compiler.proofs.Sides.{address-name, address-left, address-right, address-index-gave, gave-address-at}
use Rattle.compiler.specs.Assigns.{ReadyAssign}
use Rattle.compiler.proofs.Vocabulary.{Here, raised}
use Rattle.compiler.proofs.Calls.{suffixes-ready-at, suffixes-gave-at}
use Rattle.compiler.proofs.Expressions.{bracket-part, ready_at, gave_at, left_at, some_left}
use cycle.Proof.Ranks.{rank, at, less, below, calls, both, four, eight, nine, eleven, address, applied, assign, expr, located, refuse, side, stored}

abbrev address-cs : ℕ → cycle.Lts-address.Claims
address-cs t = eight (steps.node_at.Reads.Asked, steps.node_at.Reads.Learnt) (steps.inside.Reads.Asked, steps.inside.Reads.Learnt) (calls address t)
    (proofs.scope.lookup.Reads.Asked, proofs.scope.lookup.Reads.Learnt) (steps.name_word.Reads.Asked, steps.name_word.Reads.Learnt)
    (calls located t) (calls expr t) (calls refuse t)

pub address-ok : {M : Type 1} (t : ℕ) → cycle.Lts-address.Closed (address-cs t) (at address t) (rank address).post M
address-ok t = cycle.Lts-address.spec (address-cs t) (at address t) (rank address).post (λ c κs. omega arith) (λ c κs. omega arith)
    (λ c κs. (omega (arith, left_at, some_left), (search (ready_at, bracket-part), omega arith))) (λ c κs. omega arith) (λ c κs. omega arith)
    (λ c κs. search needs) (λ c κs. omega arith)
    (λ c κs. both (let falls = c.requires.0 in
    omega (arith, left_at, some_left)) (search (ready_at, monadic-part)))
    (λ c. omega arith) (λ c. omega arith) (λ c. search (address-pling, gave_at)) (λ c κs. search needs) (λ c κs. search needs) (λ c. omega arith)
    (λ c. omega arith) (λ c. search (address-open, gave-address-at)) (λ c. omega arith) (λ c. omega arith) (λ c. search (address-name, c.name_word.ensures.0 refl))
    (λ c. omega arith) (λ c. omega arith) (λ c. c.located.ensures
    c.args.place)
    (λ c. omega arith) (λ c. omega arith)
    -- returns-5
    (λ c. address-refused _ _ _ c.node_at-n.ensures (omega (arith, c.in-128.is)) (λ e v. c.if-n-eq-PLING.false v)
    c.refuse.ensures)
    (λ c. omega arith) (λ c. omega arith)
    -- returns-6
    (λ c. address-refused _ _ _ c.node_at-n.ensures c.in_default.in_default-own.rest.0 (λ e v. c.in_default.in_default-own.rest.1 e)
    c.refuse-in_default.ensures)

abbrev located-cs : ℕ → cycle.Lts-located.Claims
located-cs t = nine (steps.node_at.Reads.Asked, steps.node_at.Reads.Learnt) less
    (proofs.scope.entry.Reads.Asked, proofs.scope.entry.Reads.Learnt) (steps.inside.Reads.Asked, steps.inside.Reads.Learnt) (calls applied t)
    (steps.keep.Reads.Asked, steps.keep.Reads.Learnt) (steps.raised.Reads.Asked, steps.raised.Reads.Learnt) (calls expr t)
    (steps.put.Reads.Asked, steps.put.Reads.Learnt)

pub located-ok : {M : Type 1} (t : ℕ) → cycle.Lts-located.Closed (located-cs t) (at located t) (rank located).post M
located-ok t =
    cycle.Lts-located.spec (located-cs t) (at located t) (rank located).post (λ c κs. omega arith) (λ c κs. omega arith) (λ c κs. omega arith)
    (λ c κs. omega arith) (λ c κs. omega arith) (λ c. omega arith)
    -- applied-requires
    (λ c κs. both (omega (arith, c.requires.0, left_at, some_left, c.requires.1.0.small)) (suffixes-ready-at c.inside-deep.ensures
    (address-left _ c.node_at-n.ensures c.requires.1.1 refl c.saturating_sub-inner.ensures c.entry.ensures.0
    c.saturating_sub-start.ensures c.requires.1.0)))
    -- keep-requires
    (λ c κs. omega (arith, c.requires.1.0.height))
    -- raised-requires
    (λ c κs. omega (arith, c.requires.1.0.height, ap (λ (x : Here). x.height) c.inside-deep.ensures))
    -- expr-requires
    (λ c κs. both (omega (arith, c.requires.0, left_at, some_left)) (ready_at (c.raised.ensures ∙ ap (raised 1) c.inside-deep.ensures)
    (address-right _ c.node_at-n.ensures c.requires.1.1 refl c.saturating_sub-inner.ensures c.entry.ensures.0
    c.saturating_sub-start.ensures _ (suffixes-gave-at c.inside-deep.ensures c.applied-a.ensures) c.keep-b.ensures
    c.requires.1.0)))
    (λ c κs. omega arith)
    -- same-length
    (λ c. c.expr-c.auto.s
    ∙ c.applied-a.auto.s)
    -- same-length-2
    (λ c. c.put.auto.text ∙ c.expr-c.auto.text ∙ c.keep-b.auto.text ∙ c.applied-a.auto.text)
    -- returns
    (λ c. address-index-gave _ c.node_at-n.ensures c.requires.1.1 refl c.saturating_sub-inner.ensures c.entry.ensures.0
    c.saturating_sub-start.ensures _ (suffixes-gave-at c.inside-deep.ensures c.applied-a.ensures) c.keep-b.ensures
    (gave_at _ (c.raised.ensures ∙ ap (raised 1) c.inside-deep.ensures) c.expr-c.ensures)
    c.put.ensures)

abbrev refuse-cs : ℕ → cycle.Lts-refuse.Claims
refuse-cs t = (below expr t, (rank expr).post, steps.wrong.Reads.Asked, steps.wrong.Reads.Learnt)

pub refuse-ok : {M : Type 1} (t : ℕ) → cycle.Lts-refuse.Closed (refuse-cs t) (at refuse t) (rank refuse).post M
refuse-ok t = cycle.Lts-refuse.spec (refuse-cs t) (at refuse t) (rank refuse).post (λ c κs. search needs) (λ c κs. omega arith) (λ c. omega arith)
    (λ c. omega arith) (λ c. search refuse-gave)

abbrev side-cs : ℕ → cycle.Lts-side.Claims
side-cs t = eleven (steps.node_at.Reads.Asked, steps.node_at.Reads.Learnt) (steps.inside.Reads.Asked, steps.inside.Reads.Learnt) (calls side t)
    (proofs.scope.lookup.Reads.Asked, proofs.scope.lookup.Reads.Learnt) (steps.name_word.Reads.Asked, steps.name_word.Reads.Learnt) (calls stored t)
    (steps.keep.Reads.Asked, steps.keep.Reads.Learnt) (steps.raised.Reads.Asked, steps.raised.Reads.Learnt) (calls expr t)
    (steps.store_through.Reads.Asked, steps.store_through.Reads.Learnt) (calls refuse t)

pub side-ok : {M : Type 1} (t : ℕ) → cycle.Lts-side.Closed (side-cs t) (at side t) (rank side).post M
side-ok t = cycle.Lts-side.spec (side-cs t) (at side t) (rank side).post (λ c κs. omega arith) (λ c κs. omega arith)
    -- side-requires
    (λ c κs. both (omega (arith, left_at, some_left)) (both
    (ready_at (ap (raised 1) c.inside.ensures) (bracket-part _ c.node_at-n.ensures c.in-51.is c.requires.1.0))
    c.requires.1.1))
    (λ c κs. omega arith) (λ c κs. omega arith) (λ c κs. search needs) (λ c κs. omega arith) (λ c κs. omega arith)
    -- raised-requires
    (λ c κs. let height = c.requires.1.0.height in let same-height = ap (λ (x : Here). x.height) c.inside-then-n-eq-PLING.ensures in omega arith)
    -- expr-requires
    (λ c κs. both (omega (arith, c.requires.0, left_at, some_left)) (ready_at (c.raised.ensures ∙ ap (raised 1) c.inside-then-n-eq-PLING.ensures)
    (side-part [] 0 _ c.node_at-n.ensures c.in-128.is c.keep-a.ensures c.requires.1.0)))
    -- store-through-requires
    (λ c κs. omega (arith, c.requires.1.0.height))
    (λ c. omega arith) (λ c. omega arith)
    -- returns
    (λ c. side-pling _ _ _ c.node_at-n.ensures c.in-128.is c.keep-a.ensures c.if-n-eq-PLING.true
    (gave_at _ (c.raised.ensures ∙ ap (raised 1) c.inside-then-n-eq-PLING.ensures) c.expr-b.ensures)
    c.store_through.ensures)
    (λ c κs. omega arith)
    (λ c κs. both (omega (arith, c.requires.0, left_at))
    (search ready_at)) (λ c κs. omega arith) (λ c κs. (omega (arith, left_at), (search ready_at, omega arith))) (λ c. omega arith) (λ c. omega arith)
    (λ c. search (side-open, gave-side-at)) (λ c. omega arith) (λ c. omega arith) (λ c. search (side-name, c.name_word.ensures.1 refl)) (λ c. omega arith) (λ c. omega arith)
    (λ c. c.stored.ensures
    c.args.place)
    (λ c. omega arith) (λ c. omega arith)
    -- returns-5
    (λ c. side-refused _ _ _ _ c.node_at-n.ensures (omega (arith, c.in-128.is)) (λ e v. c.if-n-eq-PLING.false v)
    (gave-refused-at c.raised-in-128.ensures c.refuse.ensures))
    (λ c. omega arith) (λ c. omega arith)
    -- returns-6
    (λ c. side-refused _ _ _ _ c.node_at-n.ensures c.in_default.in_default-own.rest.0 (λ e v. c.in_default.in_default-own.rest.1 e)
    (gave-refused-at c.raised-in_default.ensures c.refuse-in_default.ensures))

abbrev stored-cs : ℕ → cycle.Lts-stored.Claims
stored-cs t = nine (steps.node_at.Reads.Asked, steps.node_at.Reads.Learnt) less
    (proofs.scope.entry.Reads.Asked, proofs.scope.entry.Reads.Learnt) (steps.inside.Reads.Asked, steps.inside.Reads.Learnt)
    (steps.raised.Reads.Asked, steps.raised.Reads.Learnt) (steps.keep.Reads.Asked, steps.keep.Reads.Learnt) (calls applied t) (calls expr t)
    (steps.store_indexed.Reads.Asked, steps.store_indexed.Reads.Learnt)

pub stored_ok : {M : Type 1} (t : ℕ) → cycle.Lts-stored.Closed (stored-cs t) (at stored t) (rank stored).post M
stored_ok t = cycle.Lts-stored.spec (stored-cs t) (at stored t) (rank stored).post (λ c κs. omega arith) (λ c κs. omega arith) (λ c κs. omega arith)
    (λ c κs. omega arith) (λ c κs. omega arith)
    (λ c κs. let height = c.requires.1.0.height in
    let same-height = ap (λ (x : Here). x.height) c.inside.ensures in omega arith) (λ c κs. omega arith)
    -- add-applied
    (λ c. omega (arith, c.node_at-n.ensures.value_fits, c.node_at-n.ensures.start, c.requires.1.0.small))
    -- applied-requires
    (λ c κs. both (let falls = c.requires.0 in let left = left_at c.raised-up.ensures in let left2 = left_at c.inside.ensures in
    let some = some_left c.requires.1.0 in let small = c.requires.1.0.small in let inner = c.node_at-n.ensures.inner in
    let minus_is = c.saturating_sub-inner.ensures in let minus2-is = c.saturating_sub-start.ensures in
    omega arith) (suffixes-ready-at (c.raised-up.ensures ∙ ap (raised 1) c.inside.ensures)
    (side_left _ c.node_at-n.ensures c.requires.1.1 refl c.saturating_sub-inner.ensures c.entry.ensures.0
    c.saturating_sub-start.ensures [] c.keep-a.ensures c.requires.1.0)))
    -- add-keep
    (λ c. omega (arith, c.requires.1.0.height))
    -- keep-requires-2
    (λ c κs. omega (arith, c.requires.1.0.height))
    -- raised-requires-2
    (λ c κs. let height = c.requires.1.0.height in let same-height = ap (λ (x : Here). x.height) c.raised-up.ensures in
    let same-height2 = ap (λ (x : Here). x.height) c.inside.ensures in omega arith)
    -- expr-requires
    (λ c κs. both (let falls = c.requires.0 in let left = left_at c.raised.ensures in let left2 = left_at c.raised-up.ensures in
    let left3 = left_at c.inside.ensures in let some = some_left c.requires.1.0 in
    omega arith) (ready_at (c.raised.ensures ∙ ap (raised 1) (c.raised-up.ensures ∙ ap (raised 1) c.inside.ensures))
    (side_right _ c.node_at-n.ensures c.requires.1.1 refl c.saturating_sub-inner.ensures c.entry.ensures.0
    c.saturating_sub-start.ensures _ c.keep-a.ensures
    (suffixes-gave-at (c.raised-up.ensures ∙ ap (raised 1) c.inside.ensures) c.applied-b.ensures)
    c.keep-c.ensures c.requires.1.0)))
    -- store-indexed-requires
    (λ c κs. omega (arith, c.requires.1.0.height))
    -- same-length
    (λ c. c.expr-d.auto.s
    ∙ c.applied-b.auto.s)
    -- same-length-2
    (λ c. c.store_indexed.auto.text ∙ c.expr-d.auto.text ∙ c.keep-c.auto.text
    ∙ c.applied-b.auto.text ∙ c.keep-a.auto.text)
    -- returns
    (λ c. side-index-gave _ c.node_at-n.ensures c.requires.1.1 refl c.saturating_sub-inner.ensures c.entry.ensures.0
    c.saturating_sub-start.ensures _ c.keep-a.ensures
    (suffixes-gave-at (c.raised-up.ensures ∙ ap (raised 1) c.inside.ensures) c.applied-b.ensures)
    c.keep-c.ensures (gave_at _ (c.raised.ensures
    ∙ ap (raised 1) (c.raised-up.ensures ∙ ap (raised 1) c.inside.ensures)) c.expr-d.ensures)
    c.store_indexed.ensures)

abbrev assign-cs : ℕ → cycle.Lts-assign.Claims
assign-cs t =
    four (proofs.scope.entry.Reads.Asked, proofs.scope.entry.Reads.Learnt) (calls expr t) (steps.node_at.Reads.Asked, steps.node_at.Reads.Learnt)
    (calls side t)

abbrev assign-Inv-loop : cycle.Lts-assign.invariant-loop-at
assign-Inv-loop source s₀ left right end text₀ here l₀ at₀ r₀ s text l at r =
    (length s ≡ length s₀) × (length text ≡ length text₀) × ((y : ReadyAssign s₀ left right end here r₀) → AssignPart source text₀ y s text l at r)

abbrev assign-μ-loop : cycle.Lts-assign.decreases-loop-at
assign-μ-loop source s₀ left right end text₀ here l₀ at₀ r₀ s text l at r = end - at

-- the left sides stand below the right ones
assign-low : (t : ℕ) (c : cycle.Lts-assign.In-loop-at (assign-cs t) (at assign t) (rank assign).post assign-Inv-loop assign-μ-loop)
    → c.loop-at.l < 2 ^ 32
assign-low t c = let y = c.requires.1 in let p = c.loop-at.invariant.2 y in
    omega (arith, (assign-is _ _ c.loop-at-test.true refl refl y p), y.ready.small, p.starts, c.loop-at-test.true)

pub assign-ok : {M : Type 1} (t : ℕ) → cycle.Lts-assign.Closed (assign-cs t) (at assign t) (rank assign).post M
assign-ok t = cycle.Lts-assign.spec (assign-cs t) (at assign t) (rank assign).post assign-Inv-loop assign-μ-loop (λ c. search (needs, assign-begin))
    (λ c. omega arith) (λ c κs. omega arith) (λ c. omega (arith, c.entry.ensures.1))
    -- expr-requires
    (λ c κs. both (omega arith) (assign-right _ _ c.loop-at-test.true c.entry.ensures.0 refl c.requires.1
    (c.loop-at.invariant.2 c.requires.1)))
    (λ c κs. omega arith)
    -- side-requires
    (λ c κs. both (omega (arith, c.requires.0)) (both
    (assign-left _ _ c.loop-at-test.true c.entry.ensures.0 refl c.expr-a.ensures c.requires.1
    (c.loop-at.invariant.2 c.requires.1)) c.node_at-n.ensures.place_fits))
    (λ c. omega (arith, assign-low t (search))) (λ c κs. omega arith) (λ c. omega (arith, assign-low t (search)))
    -- loop-less
    (λ c. omega (arith, c.loop-at-test.true))
    -- loop-again
    (λ c. (
      omega arith,
      omega arith,
      λ y. assign-next _ _ c.loop-at-test.true c.entry.ensures.0 refl c.expr-a.ensures _
          c.node_at-n.ensures c.side-r.ensures c.entry-in-loop-at.ensures.0 refl y (c.loop-at.invariant.2 y),
    ))
    (λ c. omega arith) (λ c. omega arith) (λ c. assign_end _ _ c.loop-at-test.false c.loop-at.invariant.2)
