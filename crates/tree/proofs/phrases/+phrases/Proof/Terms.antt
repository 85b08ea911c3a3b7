-- Operands: primaries with their suffixes, arguments and lists of expressions.
use Rattle.tree.proofs.phrases.+phrases as cycle
use Rattle.language.specs.Tree as T
use Rattle.language.specs.Expressions as E
use Rattle.language.specs.Commands as C
use Rattle.laws.proofs.Basics.{ℕ, ◌+◌, ◌-◌, ◌≤◌, refl, sym, ◌∙◌, arith, eq-eqb, ne_eqb}
use Rattle.language.specs.Binding.{is_suffix}
use Rattle.language.specs.Grammar.{within, readers}
use Rattle.language.specs.Reader.{many_up_to, is_comma}
use Rattle.tree.proofs.Chains.{suffixed-one, suffixed-more, EndedSoFar, suffix-first, suffix-next, suffix_last, no-suffix-ended}
use Rattle.tree.proofs.Chains.{CountedSoFar, expression-first, expression-next, expression-last, no-expression-counted, no-expression-words}
use Rattle.tree.proofs.Choices.{at-any, bracketed-shut, valof-shut, arguments-shut, subscript-monadic, subscript-primary, primary-bracketed}
use Rattle.tree.proofs.Choices.{primary-valof, primary-atom, suffix-arguments, suffix-index}
use Rattle.tree.proofs.Classes.{monadic-positive}
use Rattle.tree.proofs.Helpers.{low}
use Rattle.tree.proofs.Lets.{value-turn, value-last, value-next}
use Rattle.tree.proofs.Lists.{Before}
use Rattle.tree.proofs.Loops.{SoFar, before-first, before_last, wordless, so-begins, so-starts, so-turns, so-ends, many-turns, many-ends, many-spent}
use Rattle.tree.proofs.Readers.{bracketed-read, valof-read, argument-read, index_read, arguments-read, no_arguments, some-arguments}
use Rattle.tree.proofs.Readers.{further-reads}
use Rattle.tree.proofs.Rooms.{past-symbol, past-part, past-expression, taken, room-left, leaves-less, ready-leaves, ready-takes, ◌plus◌}
use Rattle.tree.proofs.Rooms.{ready-part, item-low, size_small, measured}
use Rattle.tree.proofs.Steps.{pair, again}
use Rattle.tree.proofs.Symbols.{lies-still}
use Rattle.tree.specs.Between.{a_further}
use Rattle.tree.specs.Encoding.{encode_expressions}
use Rattle.tree.specs.Reads.{Encodes}
use Rattle.tree.proofs.Wholes.{leaves, takes, of-kind, ◌from◌, ◌writing◌, ◌with◌, ◌adding◌, ◌setting◌}
use cycle.Proof.Ranks.{Calls, also-rank, arg-rank, at, atom, begin-item, below, call-rank, calls-10, calls-2, calls-3, calls-4, calls-5, calls-6}
use cycle.Proof.Ranks.{close-item, cmd-rank, expect, expr_rank, free-of, index-rank, is-monadic, is-suffix, unary-rank, kind-here, saturating-sub, monad-rank}
use cycle.Proof.Ranks.{nest-rank, node, pass-rank, place_here, place_of, refuse, rest-rank, set-size, suffixed-kind, tail-rank, tails-rank, unit-rank}
use cycle.Proof.Ranks.{valof-rank, whole-rank}

abbrev pub whole-cs : ℕ → Calls cycle.Lts-whole.Claims
whole-cs t = calls-10 free-of (below unit-rank t) kind-here is-suffix saturating-sub place_of (below tail-rank t) (below tails-rank t) suffixed-kind node

pub whole-ok : {M : Type 1} (t : ℕ) → cycle.Lts-whole.Closed (whole-cs t).claims (at whole-rank t) whole-rank.post M
whole-ok t = cycle.Lts-whole.spec (whole-cs t).claims (at whole-rank t) whole-rank.post (λ c κs. tt) (λ c κs. omega arith)
    (λ c κs. let e = c.unit-primary in past-part refl e.ensures e.auto.s) (λ c κs. tt) (λ c κs. tt) (λ c κs. tt)
    (λ c κs. c.kind_here-kind.ensures.0) (λ c κs. pair (omega arith) c.place_of-place.ensures.0)
    -- tails-requires
    (λ c κs. pair (omega (arith, c.requires.0)) (past-part refl c.tail-first.ensures c.tail-first.auto.s))
    -- cast-node
    (λ c. let small = size_small _ c.saturating_sub-size.ensures.1 c.free_of.ensures.1
    c.place_of-place.ensures.0 in omega arith)
    (λ c κs. tt)
    -- node-requires
    (λ c κs. let tail = c.tail-first in
    ready-leaves c.tails-last.ensures.1.0 c.tails-last.auto.s refl
    (ready-leaves tail.ensures.1.0 tail.auto.s refl tail.ensures.0.1))
    -- same-length
    (λ c. c.node.auto.s ∙ c.tails-last.auto.s ∙ c.tail-first.auto.s ∙ c.unit-primary.auto.s)
    -- returns
    (λ c. leaves ((λ src l d. let l₁ = lies-still l c.unit-primary.ensures.1.0.kept in
    suffixed-more l₁ _ _ (c.kind_here-kind.ensures.1 src l₁) d (sym c.is_suffix.ensures.1 ∙ c.if-is_suffix.true)
    c.free_of-lo.ensures.1 (measured _ _ c.saturating_sub-size.ensures.1 c.free_of.ensures.1 c.unit-primary.auto.s)
    c.place_of-place.ensures.1 c.suffixed_kind.ensures.1) from c.unit-primary.ensures.1 with of-kind
    c.kind_here-kind.ensures.1 c.tail-first.ensures.1 with c.tails-last.ensures.1 adding c.node.ensures.1) refl)
    (λ c. omega arith)
    -- returns-2
    (λ c. leaves ((λ src l d. let l₁ = lies-still l c.unit-primary.ensures.1.0.kept in
    suffixed-one l₁ 0 _ (c.kind_here-kind.ensures.1 src l₁) d (sym c.is_suffix.ensures.1 ∙ c.if-is_suffix.false)) from
    c.unit-primary.ensures.1) refl)

abbrev pub unit-cs : ℕ → Calls cycle.Lts-unit.Claims
unit-cs t = calls-4 kind-here (below nest-rank t) (below valof-rank t) atom

pub unit_ok : {M : Type 1} (t : ℕ) → cycle.Lts-unit.Closed (unit-cs t).claims (at unit-rank t) unit-rank.post M
unit_ok t =
    cycle.Lts-unit.spec (unit-cs t).claims (at unit-rank t) unit-rank.post (λ c κs. omega arith) (λ c κs. omega arith) (λ c κs. omega arith)
    (λ c κs. omega arith) (λ c. omega arith)
    (λ c. primary-bracketed _ c.kind_here-kind.ensures.1 c.in-51.is
    c.nest.ensures.1) (λ c. omega arith)
    (λ c. primary-valof _ c.kind_here-kind.ensures.1 c.in-7.is
    c.valof.ensures.1) (λ c. omega arith)
    (λ c. primary-atom _ c.kind_here-kind.ensures.1 c.in_default.in_default-own.rest
    c.atom.ensures.1)

abbrev pub nest-cs : ℕ → Calls cycle.Lts-nest.Claims
nest-cs t = calls-6 refuse free-of place_here expect (below expr_rank t) node

pub nest-ok : {M : Type 1} (t : ℕ) → cycle.Lts-nest.Closed (nest-cs t).claims (at nest-rank t) nest-rank.post M
nest-ok t = cycle.Lts-nest.spec (nest-cs t).claims (at nest-rank t) nest-rank.post (λ c κs. omega arith) (λ c. omega arith)
    (λ c. bracketed-shut _ c.if-levels-eq0.true c.refuse.ensures.1) (λ c κs. tt) (λ c κs. omega arith) (λ c κs. omega arith)
    (λ c. omega arith) (λ c κs. pair (omega arith) (pair (past-symbol refl c.expect-open.ensures) (omega arith)))
    (λ c κs. let e = c.expr-inner in pair (past-expression refl e.ensures e.auto.s) (omega arith))
    (λ c κs. past-symbol refl c.expect-a.ensures) (λ c. omega arith)
    -- returns-2
    (λ c. leaves
    ((λ src l. bracketed-read l _ _ c.free_of-lo.ensures.1 (c.place_here-place.ensures.1 src l) c.if-levels-eq0.false) from
    c.expect-open.ensures.1 with c.expr-inner.ensures.1 with c.expect-a.ensures.1 adding c.node.ensures.1) refl)

abbrev pub valof-cs : ℕ → Calls cycle.Lts-valof.Claims
valof-cs t = calls-6 refuse free-of place_here expect (below cmd-rank t) node

pub valof-ok : {M : Type 1} (t : ℕ) → cycle.Lts-valof.Closed (valof-cs t).claims (at valof-rank t) valof-rank.post M
valof-ok t = cycle.Lts-valof.spec (valof-cs t).claims (at valof-rank t) valof-rank.post (λ c κs. omega arith) (λ c. omega arith)
    (λ c. valof-shut _ c.if-levels-eq0.true c.refuse.ensures.1) (λ c κs. tt) (λ c κs. omega arith) (λ c κs. omega arith)
    (λ c. omega arith) (λ c κs. pair (omega arith) (past-symbol refl c.expect-word.ensures))
    (λ c κs. ready-leaves c.cmd-a.ensures.1.0 c.cmd-a.auto.s refl
    (past-symbol refl c.expect-word.ensures)) (λ c. omega arith)
    -- returns-2
    (λ c. leaves ((λ src l. valof-read l _ _ c.free_of-lo.ensures.1 (c.place_here-place.ensures.1 src l) c.if-levels-eq0.false) from
    c.expect-word.ensures.1 with c.cmd-a.ensures.1 adding c.node.ensures.1) refl)

abbrev pub tail-cs : ℕ → Calls cycle.Lts-tail.Claims
tail-cs t = calls-2 (below call-rank t) (below index-rank t)

pub tail-ok : {M : Type 1} (t : ℕ) → cycle.Lts-tail.Closed (tail-cs t).claims (at tail-rank t) tail-rank.post M
tail-ok t = cycle.Lts-tail.spec (tail-cs t).claims (at tail-rank t) tail-rank.post (λ c κs. omega arith) (λ c κs. omega arith) (λ c. omega arith)
    (λ c. suffix-arguments _ c.if-kind-eq-OPEN.true c.call.ensures.1) (λ c. omega arith)
    (λ c. suffix-index _ c.if-kind-eq-OPEN.false c.index.ensures.1)

abbrev pub tails-cs : ℕ → Calls cycle.Lts-tails.Claims
tails-cs t = calls-3 kind-here is-suffix (below tail-rank t)

abbrev tails-inv : cycle.Lts-tails.invariant-loop
tails-inv s₀ n levels first call₀ a₀ counter₀ s call a counter =
    SoFar (EndedSoFar call₀ call) (many_up_to (n - 1) T.no_suffixes is_suffix (E.suffix (within levels)))
    (many_up_to (n - counter) T.no_suffixes is_suffix (E.suffix (within levels))) s₀ s n a₀ a

abbrev tails-turns : cycle.Lts-tails.decreases-loop
tails-turns s₀ n levels first call₀ a₀ counter₀ s call a counter = n - counter

pub tails-ok : {M : Type 1} (t : ℕ) → cycle.Lts-tails.Closed (tails-cs t).claims (at tails-rank t) tails-rank.post M
tails-ok t = cycle.Lts-tails.spec (tails-cs t).claims (at tails-rank t) tails-rank.post tails-inv tails-turns
    (λ c. so-begins c.requires.1 suffix-first)
    (λ c κs. ready-leaves c.loop.invariant.room c.loop.invariant.same refl c.requires.1) (λ c κs. tt) (λ c. omega arith)
    -- returns
    (λ c. many-ends _ _ _ _ suffix_last no-suffix-ended refl c.loop.invariant
    c.kind_here-kind.ensures.1 (sym c.is_suffix.ensures.1 ∙ c.if-not-is_suffix.true))
    (λ c κs. pair (omega arith) (ready-leaves c.loop.invariant.room c.loop.invariant.same refl c.requires.1))
    (λ c. omega arith) (λ c. omega arith)
    -- loop-again
    (λ c. many-turns _ _ _ _ suffix-next c.loop.invariant c.kind_here-kind.ensures.1 (sym c.is_suffix.ensures.1 ∙ c.if-not-is_suffix.false)
    c.tail-a.ensures.1 c.tail-a.auto.s (omega arith) (omega arith))
    (λ c. omega arith)
    (λ c. many-spent _ _ _ _ suffix_last no-suffix-ended refl c.loop.invariant (omega arith))

abbrev pub call-cs : ℕ → Calls cycle.Lts-call.Claims
call-cs t = calls-5 refuse free-of expect (below pass-rank t) close-item

pub call_ok : {M : Type 1} (t : ℕ) → cycle.Lts-call.Closed (call-cs t).claims (at call-rank t) call-rank.post M
call_ok t = cycle.Lts-call.spec (call-cs t).claims (at call-rank t) call-rank.post (λ c κs. omega arith) (λ c. omega arith)
    (λ c. arguments-shut _ c.if-levels-eq0.true c.refuse.ensures.1) (λ c κs. tt) (λ c κs. omega arith) (λ c. omega arith)
    (λ c κs. pair (omega arith) (past-symbol refl c.expect-open.ensures)) (λ c κs. let pass = c.pass-a in
    ready-leaves pass.ensures.1.0 pass.auto.s refl (ready-part pass.ensures.0.1 refl)) (λ c. omega arith)
    -- returns-2
    (λ c. leaves ((λ src l. arguments-read src _ _ c.free_of-lo.ensures.1 c.if-levels-eq0.false) from c.expect-open.ensures.1 with
    c.pass-a.ensures.1 adding c.close_item.ensures.1) refl)

abbrev pub pass-cs : ℕ → Calls cycle.Lts-pass.Claims
pass-cs t = calls-4 kind-here expect (below arg-rank t) (below also-rank t)

pub pass-ok : {M : Type 1} (t : ℕ) → cycle.Lts-pass.Closed (pass-cs t).claims (at pass-rank t) pass-rank.post M
pass-ok t = cycle.Lts-pass.spec (pass-cs t).claims (at pass-rank t) pass-rank.post (λ c κs. omega arith) (λ c κs. omega arith) (λ c. omega arith)
    (λ c. (
      leaves-less c.expect.ensures.1.0 refl,
      λ src l. no_arguments src _ (c.kind_here-kind.ensures.1 src l)
          c.if-kind-eq-CLOSE.true (c.expect.ensures.1.1 src l),
    )) (λ c κs. omega arith) (λ c κs. let arg = c.arg-first in
    pair (omega arith) (ready-takes arg.ensures.1.0 arg.auto.s (ready-part arg.ensures.0.1 refl)))
    (λ c κs. let e = c.also-last in pair (past-part refl e.ensures e.auto.s) (omega arith)) (λ c. omega arith)
    -- returns-2
    (λ c. pair (room-left
    (taken c.arg-first.ensures.1.0 plus c.also-last.ensures.1.0 plus c.expect-2.ensures.1.0) refl)
    (λ src l. (let l₁ = lies-still l c.arg-first.ensures.1.0.kept in let l₂ = lies-still l₁ c.also-last.ensures.1.0.kept in
    some-arguments src _ (c.kind_here-kind.ensures.1 src l) 0 l.count c.if-kind-eq-CLOSE.false (c.arg-first.ensures.1.1 src l)
    (again (Encodes encode_expressions) (λ es w h. record { same = h.same }) (c.also-last.ensures.1.1 src l₁)) (c.expect-2.ensures.1.1 src l₂))))

abbrev pub arg-cs : ℕ → Calls cycle.Lts-arg.Claims
arg-cs t = calls-4 free-of begin-item (below expr_rank t) set-size

pub arg-ok : {M : Type 1} (t : ℕ) → cycle.Lts-arg.Closed (arg-cs t).claims (at arg-rank t) arg-rank.post M
arg-ok t = cycle.Lts-arg.spec (arg-cs t).claims (at arg-rank t) arg-rank.post (λ c κs. tt) (λ c κs. omega arith)
    (λ c κs. let begin-item = c.begin_item-begun in
    pair (omega arith) (pair (ready-takes begin-item.ensures.1.0 begin-item.auto.s begin-item.ensures.0) (omega arith)))
    -- set-size-requires
    (λ c κs. pair (past-expression refl c.expr-a.ensures c.expr-a.auto.s)
    (item-low c.free_of-lo.ensures.1 (ready-part c.begin_item-begun.ensures.0 refl)))
    (λ c. omega arith)
    -- returns
    (λ c. takes ((λ src l. argument-read src _ _ c.free_of-lo.ensures.1 (low c.begin_item-begun.ensures.0)) writing
    c.begin_item-begun.ensures.1 with c.expr-a.ensures.1 setting c.set_size.ensures.1) refl)

abbrev pub also-cs : ℕ → Calls cycle.Lts-also.Claims
also-cs t = calls-3 kind-here expect (below arg-rank t)

abbrev also-inv : cycle.Lts-also.invariant-loop-count
also-inv s₀ n levels a₀ count₀ s a count =
    SoFar (CountedSoFar count) (many_up_to n T.no_expressions is_comma (a_further levels)) (many_up_to (n - count) T.no_expressions is_comma (a_further levels))
    s₀ s n a₀ a × (count ≤ n)

abbrev also-turns : cycle.Lts-also.decreases-loop-count
also-turns s₀ n levels a₀ count₀ s a count = n - count

pub also-ok : {M : Type 1} (t : ℕ) → cycle.Lts-also.Closed (also-cs t).claims (at also-rank t) also-rank.post M
also-ok t = cycle.Lts-also.spec (also-cs t).claims (at also-rank t) also-rank.post also-inv also-turns
    (λ c. (so-starts (λ u. many_up_to u T.no_expressions is_comma (a_further c.args.levels)) c.requires.1 expression-first (omega arith), omega arith))
    (λ c κs. ready-leaves c.loop-count.invariant.0.room c.loop-count.invariant.0.same refl
    c.requires.1) (λ c. omega arith)
    (λ c. many-ends _ _ _ _ (expression-last refl) no-expression-counted refl c.loop-count.invariant.0
    c.kind_here-kind.ensures.1 (ne_eqb _ _ c.if-kind-ne-COMMA.true)) (λ c κs. pair c.kind_here-kind.ensures.0 (omega arith))
    (λ c κs. pair (omega arith) (past-symbol refl c.expect-comma.ensures)) (λ c. omega arith) (λ c. omega arith)
    -- loop-again
    (λ c. pair (many-turns _ _ _ _ expression-next c.loop-count.invariant.0 c.kind_here-kind.ensures.1 (eq-eqb _ _ c.if-kind-ne-COMMA.false)
    (at-any (further-reads _ c.expect-comma.ensures.1 c.arg-a.ensures.1)) c.arg-a.auto.s (omega arith) (omega arith)) (omega arith))
    (λ c. omega arith) (λ c. many-spent _ _ _ _ (expression-last (omega arith)) no-expression-counted refl c.loop-count.invariant.0 (omega arith))

abbrev pub rest-cs : ℕ → Calls cycle.Lts-rest.Claims
rest-cs t = calls-2 expect (below arg-rank t)

abbrev rest-inv : cycle.Lts-rest.invariant-loop
rest-inv s₀ n levels number a₀ counter₀ s a counter =
    SoFar (Before encode_expressions) (C.further (readers (within levels)) number) (C.further (readers (within levels)) (number - counter)) s₀ s n a₀ a

abbrev rest-turns : cycle.Lts-rest.decreases-loop
rest-turns s₀ n levels number a₀ counter₀ s a counter = number - counter

pub rest_ok : {M : Type 1} (t : ℕ) → cycle.Lts-rest.Closed (rest-cs t).claims (at rest-rank t) rest-rank.post M
rest_ok t =
    cycle.Lts-rest.spec (rest-cs t).claims (at rest-rank t) rest-rank.post rest-inv rest-turns (λ c. so-starts (λ u. C.further (readers (within c.args.levels)) u) c.requires.1 before-first (omega arith))
    (λ c κs. pair (ready-leaves c.loop.invariant.room c.loop.invariant.same refl
    c.requires.1) (omega arith))
    (λ c κs. pair (omega arith) (past-symbol refl c.expect-comma.ensures)) (λ c. omega arith) (λ c. omega arith)
    -- loop-again
    (λ c. so-turns c.loop.invariant
    (C.further (readers (within c.args.levels)) (c.args.number - (c.loop.counter + 1))) value-next
    (further-reads _ c.expect-comma.ensures.1 c.arg-a.ensures.1) c.arg-a.auto.s
    (λ src l at free e. value-turn c.args.levels src (c.args.number - c.loop.counter) at (omega arith) (omega arith)))
    (λ c. omega arith) (λ c. so-ends c.loop.invariant T.no_expressions before_last (wordless no-expression-words)
    (λ src l at free e. value-last c.args.levels src _ at (omega arith)))

abbrev pub index-cs : ℕ → Calls cycle.Lts-index.Claims
index-cs t = calls-4 free-of expect (below unary-rank t) close-item

pub index_ok : {M : Type 1} (t : ℕ) → cycle.Lts-index.Closed (index-cs t).claims (at index-rank t) index-rank.post M
index_ok t = cycle.Lts-index.spec (index-cs t).claims (at index-rank t) index-rank.post (λ c κs. tt) (λ c κs. omega arith)
    (λ c κs. pair (omega arith) (past-symbol refl c.expect-pling.ensures))
    (λ c κs. ready-leaves c.unary-a.ensures.1.0 c.unary-a.auto.s refl
    (past-symbol refl c.expect-pling.ensures)) (λ c. omega arith)
    -- returns
    (λ c. leaves
    ((λ src l. index_read src _ _ c.free_of-lo.ensures.1) from c.expect-pling.ensures.1 with c.unary-a.ensures.1 adding
    c.close_item.ensures.1) refl)

abbrev pub unary-cs : ℕ → Calls cycle.Lts-unary.Claims
unary-cs t = calls-4 kind-here is-monadic (below monad-rank t) (below unit-rank t)

pub unary-ok : {M : Type 1} (t : ℕ) → cycle.Lts-unary.Closed (unary-cs t).claims (at unary-rank t) unary-rank.post M
unary-ok t = cycle.Lts-unary.spec (unary-cs t).claims (at unary-rank t) unary-rank.post (λ c κs. omega arith) (λ c κs. tt)
    -- monad-requires
    (λ c κs. pair (omega arith) (pair c.requires.1 (monadic-positive _ c.is_monadic.ensures.1 c.if-is_monadic.true)))
    (λ c κs. omega arith) (λ c. omega arith)
    -- returns
    (λ c. subscript-monadic _ c.kind_here-kind.ensures.1 c.is_monadic.ensures.1 c.if-is_monadic.true c.monad.ensures.1)
    (λ c. omega arith)
    -- returns-2
    (λ c. subscript-primary _ c.kind_here-kind.ensures.1 c.is_monadic.ensures.1 c.if-is_monadic.false c.unit.ensures.1)
