-- Loops, switches and blocks: lists of commands and of local declarations.
use Rattle.tree.proofs.phrases.+phrases as cycle
use Rattle.language.specs.Kinds as K
use Rattle.language.specs.Tree as T
use Rattle.language.specs.Commands as C
use Rattle.laws.proofs.Basics.{ℕ, ◌+◌, ◌-◌, refl, sym, ap, ◌∙◌, eqb, arith, eq-eqb, ne_eqb}
use Rattle.language.specs.Grammar.{within, readers}
use Rattle.language.specs.Reader.{many_up_to, more_up_to}
use Rattle.tree.proofs.Blocks.{for-read, switchon-read, block_read, listed-read, no-command-words, no-commands, semicolon-commands}
use Rattle.tree.proofs.Blocks.{some-commands}
use Rattle.tree.proofs.Choices.{at-any}
use Rattle.tree.proofs.Helpers.{low, low-past}
use Rattle.tree.proofs.Lets.{values-read, one_name, vector-is, vector-not, given-vector, given-values, no-local-words, local-read}
use Rattle.tree.proofs.Lists.{Before}
use Rattle.tree.proofs.Loops.{SoFar, before-first, before-next, before_last, wordless, so-starts, many-turns, many-ends, many-spent}
use Rattle.tree.proofs.Loops.{list-spents, list-ends, list-semicolon-ends, list-goes-on}
use Rattle.tree.proofs.Rooms.{for-size, past-symbol, past-part, past-expression, left, taken, room-left, room-taken, takes-more, takes_none}
use Rattle.tree.proofs.Rooms.{ready-leaves, ready-takes, ◌plus◌, ◌less◌, ready-part, item-low, size_small, freed, measured}
use Rattle.tree.proofs.Steps.{pair, goes_on_lem, adds_on, ◌then◌}
use Rattle.tree.proofs.Symbols.{lies-still}
use Rattle.tree.specs.Encoding.{encode_commands, encode_locals}
use Rattle.tree.specs.Reads.{free_of}
use Rattle.tree.proofs.Wholes.{leaves, takes, ◌from◌, ◌writing◌, ◌with◌, ◌taking◌, ◌adding◌, ◌setting◌}
use cycle.Proof.Ranks.{Calls, a-name, arg-rank, at, begin-item, below, block-rank, calls-2, calls-4, calls-6, calls-7, calls-8, calls-9, cmd-rank}
use cycle.Proof.Ranks.{expect, expr_rank, free-of, further-names, init-rank, is-vector, item-rank, kind-here, lets-rank, list-rank, local-rank, saturating-sub}
use cycle.Proof.Ranks.{node, optional, optional-by, pick-rank, refuse, rest-rank, set-size, step-rank, till-rank, vector}

abbrev pub step-cs : ℕ → Calls cycle.Lts-step.Claims
step-cs t = calls-8 free-of expect a-name (below expr_rank t) optional-by saturating-sub (below cmd-rank t) node

pub step_ok : {M : Type 1} (t : ℕ) → cycle.Lts-step.Closed (step-cs t).claims (at step-rank t) step-rank.post M
step_ok t = cycle.Lts-step.spec (step-cs t).claims (at step-rank t) step-rank.post (λ c κs. tt) (λ c κs. omega arith)
    (λ c κs. past-symbol refl c.expect-word.ensures)
    (λ c κs. let e = c.a_name-name in pair (ready-leaves e.ensures.1.0 e.auto.s refl e.ensures.0) (omega arith))
    (λ c κs. pair (omega arith) (pair (past-symbol refl c.expect-equal.ensures) (omega arith)))
    (λ c κs. let e = c.expr-first in pair (past-expression refl e.ensures e.auto.s) (omega arith))
    -- expr-requires-2
    (λ c κs. pair (omega (arith, c.requires.0)) (pair (past-symbol refl c.expect-to.ensures) (omega arith)))
    (λ c κs. let e = c.expr-limit in past-expression refl e.ensures e.auto.s) (λ c κs. tt) (λ c κs. tt) (λ c κs. tt)
    (λ c κs. let e = c.optional_by-by in
    pair (ready-leaves e.ensures.1.0 e.auto.s refl e.ensures.0) (omega arith))
    -- cmd-requires
    (λ c κs. pair (omega (arith, c.requires.0)) (past-symbol refl c.expect-then.ensures))
    -- cast-node
    (λ c. let small = size_small _ c.saturating_sub-size.ensures.1 c.free_of.ensures.1
    c.expect-then.ensures.0.0 in omega arith)
    (λ c κs. ready-leaves c.cmd-a.ensures.1.0 c.cmd-a.auto.s refl
    (past-symbol refl c.expect-then.ensures))
    -- same-length
    (λ c. c.node.auto.s ∙ c.cmd-a.auto.s ∙ c.optional_by-by.auto.s ∙ c.expr-limit.auto.s ∙ c.expr-first.auto.s
    ∙ c.a_name-name.auto.s)
    -- returns
    (λ c. let same = c.optional_by-by.auto.s ∙ c.expr-limit.auto.s ∙ c.expr-first.auto.s ∙ c.a_name-name.auto.s in
    leaves ((λ src l a b e d f g h i j. for-read l _ _ c.free_of-lo.ensures.1 a b e d f g h i j
    (for-size _ _ c.saturating_sub-size.ensures.1 c.free_of.ensures.1 c.free_of-2.ensures.1 same)) from c.expect-word.ensures.1
    with c.a_name-name.ensures.1 with c.expect-equal.ensures.1 with c.expr-first.ensures.1 with c.expect-to.ensures.1 with
    c.expr-limit.ensures.1 with c.optional_by-by.ensures.1 with c.expect-then.ensures.1 with c.cmd-a.ensures.1 adding
    c.node.ensures.1) refl)

abbrev pub pick-cs : ℕ → Calls cycle.Lts-pick.Claims
pick-cs t = calls-7 free-of expect (below expr_rank t) saturating-sub (below item-rank t) (below list-rank t) node

pub pick-ok : {M : Type 1} (t : ℕ) → cycle.Lts-pick.Closed (pick-cs t).claims (at pick-rank t) pick-rank.post M
pick-ok t = cycle.Lts-pick.spec (pick-cs t).claims (at pick-rank t) pick-rank.post (λ c κs. tt) (λ c κs. omega arith)
    (λ c κs. pair (omega arith) (pair (past-symbol refl c.expect-word.ensures) (omega arith))) (λ c κs. tt) (λ c κs. tt)
    (λ c κs. let e = c.expr-value in pair (past-expression refl e.ensures e.auto.s) (omega arith))
    (λ c κs. pair (past-symbol refl c.expect-into.ensures) (omega arith))
    (λ c κs. pair (omega arith) (past-symbol refl c.expect-begin.ensures))
    -- list-requires
    (λ c κs. pair (omega (arith, c.requires.0)) (ready-takes c.item-first.ensures.1.0 c.item-first.auto.s c.item-first.ensures.0.1))
    -- cast-node
    (λ c. let small = size_small _ c.saturating_sub-size.ensures.1 c.free_of.ensures.1 c.expect-into.ensures.0.0 in omega arith)
    (λ c κs. let list = c.list-a in ready-leaves list.ensures.1.0 list.auto.s refl list.ensures.0.1)
    (λ c. c.node.auto.s ∙ c.list-a.auto.s ∙ c.item-first.auto.s ∙ c.expr-value.auto.s)
    -- returns
    (λ c. leaves ((λ src l a b e d f g. switchon-read l _ _ c.free_of-lo.ensures.1 a b e d f g
    (measured _ _ c.saturating_sub-size.ensures.1 c.free_of.ensures.1 c.expr-value.auto.s)) from c.expect-word.ensures.1 with
    c.expr-value.ensures.1 with c.expect-into.ensures.1 with c.expect-begin.ensures.1 taking c.item-first.ensures.1 with
    c.list-a.ensures.1 adding c.node.ensures.1) refl)

abbrev pub item-cs : ℕ → Calls cycle.Lts-item.Claims
item-cs t = calls-4 free-of begin-item (below cmd-rank t) set-size

pub item_ok : {M : Type 1} (t : ℕ) → cycle.Lts-item.Closed (item-cs t).claims (at item-rank t) item-rank.post M
item_ok t = cycle.Lts-item.spec (item-cs t).claims (at item-rank t) item-rank.post (λ c κs. tt) (λ c κs. omega arith)
    (λ c κs. let begin-item = c.begin_item-begun in
    pair (omega arith) (ready-takes begin-item.ensures.1.0 begin-item.auto.s begin-item.ensures.0))
    -- set-size-requires
    (λ c κs. pair (past-part refl c.cmd-a.ensures c.cmd-a.auto.s)
    (item-low c.free_of-lo.ensures.1 (ready-part c.begin_item-begun.ensures.0 refl)))
    (λ c. omega arith)
    -- returns
    (λ c. takes ((λ src l. listed-read src _ _ c.free_of-lo.ensures.1 (low c.begin_item-begun.ensures.0)) writing
    c.begin_item-begun.ensures.1 with c.cmd-a.ensures.1 setting c.set_size.ensures.1) refl)

abbrev pub list-cs : ℕ → Calls cycle.Lts-list.Claims
list-cs t = calls-4 kind-here expect (below item-rank t) refuse

abbrev list-inv : cycle.Lts-list.invariant-loop
list-inv s₀ n levels a₀ counter₀ s a counter = SoFar (Before encode_commands) (more_up_to n T.no_commands (C.listed (readers (within levels))))
    (more_up_to (n - counter) T.no_commands (C.listed (readers (within levels)))) s₀ s n a₀ a

abbrev list-turns : cycle.Lts-list.decreases-loop
list-turns s₀ n levels a₀ counter₀ s a counter = n - counter

pub list-ok : {M : Type 1} (t : ℕ) → cycle.Lts-list.Closed (list-cs t).claims (at list-rank t) list-rank.post M
list-ok t =
    cycle.Lts-list.spec (list-cs t).claims (at list-rank t) list-rank.post list-inv list-turns (λ c. so-starts (λ u. more_up_to u T.no_commands (C.listed (readers (within c.args.levels)))) c.requires.1 before-first (omega arith))
    (λ c κs. ready-leaves c.loop.invariant.room c.loop.invariant.same refl c.requires.1)
    (λ c κs. pair c.kind_here-here.ensures.0 (omega arith)) (λ c. omega arith)
    -- returns
    (λ c. list-ends _ _ _ c.loop.invariant c.kind_here-here.ensures.1 no-command-words c.if-here-eq-END.true c.expect.ensures.1 (omega arith))
    (λ c κs. pair c.kind_here-here.ensures.0 (omega arith)) (λ c κs. past-symbol refl c.expect-semicolon.ensures)
    (λ c κs. pair c.kind_here-kind.ensures.0 (omega arith)) (λ c. omega arith)
    -- returns-2
    (λ c.
    list-semicolon-ends _ _ _ c.loop.invariant c.kind_here-here.ensures.1 no-command-words c.if-here-eq-END.false c.expect-semicolon.ensures.1
    c.kind_here-kind.ensures.1 c.if-kind-eq-END.true c.expect-then-kind-eq-END.ensures.1 (omega arith))
    (λ c κs. pair (omega arith) (past-symbol refl c.expect-semicolon.ensures)) (λ c. omega arith) (λ c. omega arith)
    -- loop-again
    (λ c. list-goes-on _ _ _ c.loop.invariant c.kind_here-here.ensures.1 c.if-here-eq-END.false c.expect-semicolon.ensures.1
    c.kind_here-kind.ensures.1 c.if-kind-eq-END.false (takes-more c.item-a.ensures.1.0 refl) c.item-a.auto.s
    c.item-a.ensures.1.1 (omega arith) (omega arith))
    (λ c κs. ready-leaves c.loop.invariant.room c.loop.invariant.same refl c.requires.1)
    (λ c. omega arith) (λ c. list-spents _ _ _ c.loop.invariant c.refuse.ensures.1 (omega arith))

abbrev pub till-cs : ℕ → Calls cycle.Lts-till.Claims
till-cs t = calls-4 kind-here expect (below item-rank t) (below list-rank t)

pub till-ok : {M : Type 1} (t : ℕ) → cycle.Lts-till.Closed (till-cs t).claims (at till-rank t) till-rank.post M
till-ok t =
    cycle.Lts-till.spec (till-cs t).claims (at till-rank t) till-rank.post (λ c κs. omega arith) (λ c κs. omega arith) (λ c κs. omega arith)
    (λ c κs. pair (past-symbol refl c.expect-semicolon.ensures) (omega arith)) (λ c κs. omega arith)
    (λ c κs. let item = c.item-first in
    pair (omega arith) (ready-takes item.ensures.1.0 item.auto.s item.ensures.0.1)) (λ c. omega arith)
    (λ c. no-commands _ c.kind_here-kind.ensures.1 c.in-58.is c.expect.ensures.1)
    (λ c. omega arith)
    (λ c. semicolon-commands _ c.kind_here-kind.ensures.1 c.in-54.is
    c.expect-semicolon.ensures.1 c.expect-in-54.ensures.1) (λ c. omega arith)
    -- returns-3
    (λ c. some-commands _ c.kind_here-kind.ensures.1 c.in_default.in_default-own.rest c.item-first.ensures.1
    c.list.ensures.1)

abbrev pub block-cs : ℕ → Calls cycle.Lts-block.Claims
block-cs t = calls-6 free-of expect (below lets-rank t) saturating-sub (below till-rank t) node

pub block-ok : {M : Type 1} (t : ℕ) → cycle.Lts-block.Closed (block-cs t).claims (at block-rank t) block-rank.post M
block-ok t = cycle.Lts-block.spec (block-cs t).claims (at block-rank t) block-rank.post (λ c κs. tt) (λ c κs. omega arith)
    (λ c κs. pair (omega arith) (past-symbol refl c.expect-begin.ensures)) (λ c κs. tt) (λ c κs. tt)
    -- till-requires
    (λ c κs. pair (omega arith) (ready-leaves c.lets-locals.ensures.1.0
    c.lets-locals.auto.s refl
    (past-symbol refl c.expect-begin.ensures)))
    -- cast-node
    (λ c. let small = size_small _ c.saturating_sub-size.ensures.1 c.free_of.ensures.1 (ready-part c.till-a.ensures.0.1 refl) in omega arith)
    (λ c κs. let till = c.till-a in
    ready-leaves till.ensures.1.0 till.auto.s refl (ready-part till.ensures.0.1 refl))
    (λ c. omega arith)
    -- returns
    (λ c. leaves ((λ src l a b e. block_read l _ _ c.free_of-lo.ensures.1 a b e
    (measured _ _ c.saturating_sub-size.ensures.1 c.free_of.ensures.1 c.lets-locals.auto.s)) from c.expect-begin.ensures.1 with
    c.lets-locals.ensures.1 with c.till-a.ensures.1 adding c.node.ensures.1) refl)

abbrev pub lets-cs : ℕ → Calls cycle.Lts-lets.Claims
lets-cs t = calls-2 kind-here (below local-rank t)

abbrev lets-inv : cycle.Lts-lets.invariant-loop
lets-inv s₀ n levels a₀ counter₀ s a counter =
    SoFar (Before encode_locals) (many_up_to n T.no_locals (λ kind. eqb kind K.LET) (C.local (readers (within levels))))
    (many_up_to (n - counter) T.no_locals (λ kind. eqb kind K.LET) (C.local (readers (within levels)))) s₀ s n a₀ a

abbrev lets-turns : cycle.Lts-lets.decreases-loop
lets-turns s₀ n levels a₀ counter₀ s a counter = n - counter

pub lets-ok : {M : Type 1} (t : ℕ) → cycle.Lts-lets.Closed (lets-cs t).claims (at lets-rank t) lets-rank.post M
lets-ok t =
    cycle.Lts-lets.spec (lets-cs t).claims (at lets-rank t) lets-rank.post lets-inv lets-turns
    (λ c. so-starts (λ u. many_up_to u T.no_locals (λ kind. eqb kind K.LET) (C.local (readers (within c.args.levels)))) c.requires.1 before-first
    (omega arith))
    (λ c κs. ready-leaves c.loop.invariant.room c.loop.invariant.same refl c.requires.1)
    (λ c. omega arith) (λ c. many-ends _ _ _ _ before_last (wordless no-local-words) refl c.loop.invariant
    c.kind_here-kind.ensures.1 (ne_eqb _ _ c.if-kind-ne-LET.true))
    (λ c κs. pair (omega arith) (ready-leaves c.loop.invariant.room c.loop.invariant.same refl c.requires.1))
    (λ c. omega arith) (λ c. omega arith)
    -- loop-again
    (λ c. many-turns _ _ _ _ before-next c.loop.invariant c.kind_here-kind.ensures.1 (eq-eqb _ _ c.if-kind-ne-LET.false)
    (at-any c.local-a.ensures.1) c.local-a.auto.s (omega arith) (omega arith))
    (λ c. omega arith) (λ c. many-spent _ _ _ _ before_last (wordless no-local-words) refl c.loop.invariant (omega arith))

abbrev pub local-cs : ℕ → Calls cycle.Lts-local.Claims
local-cs t = calls-9 free-of expect begin-item a-name further-names saturating-sub (below init-rank t) optional set-size

pub local-ok : {M : Type 1} (t : ℕ) → cycle.Lts-local.Closed (local-cs t).claims (at local-rank t) local-rank.post M
local-ok t = cycle.Lts-local.spec (local-cs t).claims (at local-rank t) local-rank.post (λ c κs. tt) (λ c κs. omega arith)
    (λ c κs. past-symbol refl c.expect-word.ensures) (λ c κs. tt)
    (λ c κs. let begin-item = c.begin_item-begun in
    ready-takes begin-item.ensures.1.0 begin-item.auto.s begin-item.ensures.0)
    (λ c κs. let e = c.a_name-first in ready-leaves e.ensures.1.0 e.auto.s refl e.ensures.0) (λ c κs. tt) (λ c κs. tt)
    (λ c κs. tt) (λ c κs. let e = c.further_names-names in
    pair (ready-leaves e.ensures.1.0 e.auto.s refl e.ensures.0) (omega arith))
    -- init-requires
    (λ c κs. pair (omega (
      arith,
      c.requires.0,
    )) (past-symbol refl c.expect-equal.ensures))
    (λ c κs. let init = c.init-value in
    pair (ready-takes init.ensures.1.0 init.auto.s init.ensures.0.1) (omega arith))
    -- set-size-requires
    (λ c κs. pair (ready-leaves c.optional-a.ensures.1.0 refl refl c.optional-a.ensures.0.0)
    (item-low c.free_of-lo.ensures.1 c.expect-word.ensures.0.0))
    -- same-length
    (λ c. c.set_size.auto.s ∙ c.init-value.auto.s ∙ c.further_names-names.auto.s ∙ c.a_name-first.auto.s
    ∙ c.begin_item-begun.auto.s)
    -- returns
    (λ c. pair (room-left (left c.expect-word.ensures.1.0 less c.begin_item-begun.ensures.1.0
    plus c.a_name-first.ensures.1.0 plus c.further_names-names.ensures.1.0 plus c.expect-equal.ensures.1.0 less
    c.init-value.ensures.1.0 plus c.optional-a.ensures.1.0 plus c.set_size.ensures.1.0) refl) (λ src l. (let l₁ =
    lies-still l c.begin_item-begun.ensures.1.0.kept in let l₂ = lies-still l₁ c.a_name-first.ensures.1.0.kept in let l₃ = lies-still
    l₂ c.further_names-names.ensures.1.0.kept in let l₄ = lies-still l₃ c.init-value.ensures.1.0.kept in local-read src _ _
    l.count c.free_of-lo.ensures.1 (low-past c.requires.1 c.expect-word.ensures.1.0) (freed _ c.free_of-start.ensures.1
    c.begin_item-begun.auto.s) (omega (
      arith,
      c.saturating_sub-further.ensures.1,
      freed _ c.free_of.ensures.1 (c.further_names-names.auto.s ∙ c.a_name-first.auto.s ∙ c.begin_item-begun.auto.s),
      freed _ c.free_of-2.ensures.1 (c.further_names-names.auto.s ∙ c.a_name-first.auto.s ∙ c.begin_item-begun.auto.s),
    )) (c.expect-word.ensures.1.1 src l)
    c.begin_item-begun.ensures.1.1 (c.a_name-first.ensures.1.1 src l₁) (c.further_names-names.ensures.1.1 src l₂)
    (c.expect-equal.ensures.1.1 src l₃) (λ name names q e. (c.init-value.ensures.1.1 src l₃).1 name names q (ap (λ (z : ℕ). free_of z
    c.expect-equal.result) (c.further_names-names.auto.s ∙ c.a_name-first.auto.s ∙ c.begin_item-begun.auto.s) ∙ e))
    (c.init-value.ensures.1.1 src l₃).0 (c.optional-a.ensures.1.1 src l₄) c.set_size.ensures.1.1)))

abbrev pub init-cs : ℕ → Calls cycle.Lts-init.Claims
init-cs t = calls-8 kind-here is-vector vector free-of saturating-sub (below arg-rank t) (below rest-rank t) node

pub init-ok : {M : Type 1} (t : ℕ) → cycle.Lts-init.Closed (init-cs t).claims (at init-rank t) init-rank.post M
init-ok t = cycle.Lts-init.spec (init-cs t).claims (at init-rank t) init-rank.post (λ c κs. omega arith) (λ c κs. tt) (λ c κs. omega arith)
    (λ c. omega arith)
    -- returns
    (λ c. let v = vector-is c.kind_here-kind.result c.args.further (sym
    c.is_vector.ensures.1 ∙ c.if-is_vector.true) in pair (takes_none c.vector.ensures.1.0) (λ src l. pair
    (c.vector.ensures.1.1 src l).0 (λ name names q e. given-vector src _ (c.kind_here-kind.ensures.1 src l) name names (omega (
      arith,
      q,
      v.1,
    )) v.0 ((c.vector.ensures.1.1 src l).1 name (e ∙ ap (λ (z : ℕ). c.args.start + z) (one_name name names (omega (
      arith,
      q,
      v.1,
    ))))))))
    (λ c κs. tt) (λ c κs. tt) (λ c κs. omega arith) (λ c κs. let arg = c.arg-first in
    pair (omega arith) (ready-takes arg.ensures.1.0 arg.auto.s (ready-part arg.ensures.0.1 refl)))
    -- cast-node
    (λ c. let small = size_small _ c.saturating_sub-size.ensures.1 c.free_of.ensures.1 (ready-part c.arg-first.ensures.0.1 refl) in omega arith)
    -- node-requires
    (λ c κs. ready-leaves c.rest-last.ensures.1.0 c.rest-last.auto.s refl (ready-takes c.arg-first.ensures.1.0 c.arg-first.auto.s c.requires.1))
    (λ c. omega arith)
    -- returns-2
    (λ c. pair (room-taken (taken c.arg-first.ensures.1.0 plus c.rest-last.ensures.1.0 less c.node.ensures.1.0) refl)
    (λ src l. let l₁ = lies-still l c.arg-first.ensures.1.0.kept in
    pair (goes_on_lem (c.arg-first.ensures.1.1 src l) then goes_on_lem (c.rest-last.ensures.1.1 src l₁) then adds_on c.node.ensures.1.1)
    (λ name names q e. given-values src _ (c.kind_here-kind.ensures.1 src l) name names
    (λ z. vector-not c.kind_here-kind.result c.args.further (sym c.is_vector.ensures.1 ∙ c.if-is_vector.false)
    (omega (arith, q, z))) (values-read src _ _ name names _ q e (measured _ _ c.saturating_sub-size.ensures.1 c.free_of.ensures.1 refl)
    (c.arg-first.ensures.1.1 src l) (c.rest-last.ensures.1.1 src l₁) c.node.ensures.1.1))))
