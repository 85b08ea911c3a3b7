-- Commands with their labels and REPEAT forms, and those that hold no list of commands.
use Rattle.tree.proofs.phrases.+phrases as cycle
use Rattle.language.specs.Tree as T
use Rattle.language.specs.Commands as C
use Rattle.laws.proofs.Basics.{ℕ, ◌-◌, refl, sym, ap, ◌∙◌, arith}
use Rattle.language.specs.Binding.{is_repeat}
use Rattle.language.specs.Grammar.{within, readers}
use Rattle.language.specs.Reader.{many_up_to}
use Rattle.tree.proofs.Assignments.{assignment-read, assignment-first, call-alone, no_call}
use Rattle.tree.proofs.Blocks.{body-shut, body_open, body-none, body-empty, command-plain, labelled-read}
use Rattle.tree.proofs.Classes.{guard-positive, repeat-positive, leave-positive}
use Rattle.tree.proofs.Commands.{resultis-read, guarded-read, test_read, repeat_read, repeat-on-read, no-repeat-words, repeated-one}
use Rattle.tree.proofs.Commands.{repeated-more, unlabelled-test, unlabelled-resultis, unlabelled-for, unlabelled-switchon, unlabelled-block}
use Rattle.tree.proofs.Commands.{unlabelled-guarded, unlabelled-leave, unlabelled-other}
use Rattle.tree.proofs.Helpers.{low-past}
use Rattle.tree.proofs.Lists.{Before}
use Rattle.tree.proofs.Loops.{SoFar, before-first, before-next, before_last, wordless, so-begins, many-turns, many-ends, many-spent}
use Rattle.tree.proofs.Rooms.{past-symbol, past-part, past-expression, left, room-left, ready-leaves, ready-takes, ◌plus◌, ◌less◌, ready-part}
use Rattle.tree.proofs.Rooms.{item-low, size_small, measured}
use Rattle.tree.proofs.Steps.{pair, goes_on_lem, adds_on, refuses-on, ◌then◌}
use Rattle.tree.proofs.Symbols.{lies-still}
use Rattle.tree.specs.Encoding.{encode_repeats}
use Rattle.tree.specs.Reads.{free_of}
use Rattle.tree.proofs.Wholes.{leaves, of-kind, ◌from◌, ◌with◌, ◌adding◌, ◌setting◌}
use cycle.Proof.Ranks.{Calls, calls-3, also-rank, arg-rank, at, bare-rank, begin-item, begins-command, below, block-rank, body-rank, calls-11, calls-4}
use cycle.Proof.Ranks.{calls-5, calls-6, calls-7, calls-8, cases-rank, cmd-rank, expect, expr_rank, form-rank, forms-rank, free-of, give-rank}
use cycle.Proof.Ranks.{goes-on-assignment, is_call, is-guard, is-label, is-leave, is-repeat, kind-here, label, labels, leave, saturating-sub, node, pick-rank}
use cycle.Proof.Ranks.{place_here, plain-rank, redo-rank, refuse, rest-rank, set-rank, set-size, step-rank, test-rank, when-rank}

abbrev pub cmd-cs : ℕ → Calls cycle.Lts-cmd.Claims
cmd-cs t = calls-4 kind-here is-label (below cases-rank t) (below body-rank t)

pub cmd-ok : {M : Type 1} (t : ℕ) → cycle.Lts-cmd.Closed (cmd-cs t).claims (at cmd-rank t) cmd-rank.post M
cmd-ok t =
    cycle.Lts-cmd.spec (cmd-cs t).claims (at cmd-rank t) cmd-rank.post (λ c κs. omega arith) (λ c κs. tt) (λ c κs. omega arith) (λ c. omega arith)
    -- returns
    (λ c. pair c.cases.ensures.1.0 (λ src l. c.cases.ensures.1.1 src l (c.kind_here-kind.ensures.1 src l)
    (sym c.is_label.ensures.1 ∙ c.if-is_label.true)))
    (λ c κs. omega arith) (λ c. omega arith)
    -- returns-2
    (λ c. command-plain _ c.kind_here-kind.ensures.1 c.is_label.ensures.1 c.if-is_label.false c.body.ensures.1)

abbrev pub cases-cs : ℕ → Calls cycle.Lts-cases.Claims
cases-cs t = calls-6 free-of label labels saturating-sub (below body-rank t) node

pub cases-ok : {M : Type 1} (t : ℕ) → cycle.Lts-cases.Closed (cases-cs t).claims (at cases-rank t) cases-rank.post M
cases-ok t = cycle.Lts-cases.spec (cases-cs t).claims (at cases-rank t) cases-rank.post (λ c κs. tt) (λ c κs. omega arith)
    (λ c κs. let e = c.label-first in ready-leaves e.ensures.1.0 e.auto.s refl e.ensures.0) (λ c κs. tt) (λ c κs. tt)
    (λ c κs. let e = c.labels-last in
    pair (omega arith) (ready-leaves e.ensures.1.0 e.auto.s refl e.ensures.0))
    -- cast-node
    (λ c. let small = size_small _ c.saturating_sub-size.ensures.1 c.free_of.ensures.1 c.body-a.ensures.0.1 in omega arith)
    -- node-requires
    (λ c κs. ready-leaves c.body-a.ensures.1.0 c.body-a.auto.s refl (ready-leaves c.labels-last.ensures.1.0 c.labels-last.auto.s refl
    (ready-leaves c.label-first.ensures.1.0 c.label-first.auto.s refl c.label-first.ensures.0)))
    (λ c. omega arith)
    -- returns
    (λ c. pair
    (room-left (left c.label-first.ensures.1.0 plus c.labels-last.ensures.1.0 plus c.body-a.ensures.1.0 less
    c.node.ensures.1.0) refl) (λ src l k q. (let l₁ = lies-still l c.label-first.ensures.1.0.kept in
    let l₂ = lies-still l₁ c.labels-last.ensures.1.0.kept in
    labelled-read l _ _ k q c.free_of-lo.ensures.1
    (measured _ _ c.saturating_sub-size.ensures.1 c.free_of.ensures.1 (c.labels-last.auto.s ∙ c.label-first.auto.s))
    (c.label-first.ensures.1.1 src l k) (c.labels-last.ensures.1.1 src l₁) (c.body-a.ensures.1.1 src l₂) c.node.ensures.1.1)))

abbrev pub body-cs : ℕ → Calls cycle.Lts-body.Claims
body-cs t = calls-4 kind-here begins-command refuse (below redo-rank t)

pub body_ok : {M : Type 1} (t : ℕ) → cycle.Lts-body.Closed (body-cs t).claims (at body-rank t) body-rank.post M
body_ok t = cycle.Lts-body.spec (body-cs t).claims (at body-rank t) body-rank.post (λ c κs. omega arith) (λ c κs. tt) (λ c κs. omega arith)
    (λ c. omega arith)
    -- returns
    (λ c. body-shut _ _ c.kind_here-kind.ensures.1 c.begins_command.ensures.1 c.if-begins_command.true c.if-levels-eq0.true
    c.refuse.ensures.1)
    (λ c. omega arith) (λ c κs. omega arith) (λ c. omega arith)
    -- returns-2
    (λ c. body_open _ _ c.kind_here-kind.ensures.1 c.begins_command.ensures.1 c.if-begins_command.true c.if-levels-eq0.false
    c.redo.ensures.1)
    (λ c. omega arith)
    -- returns-3
    (λ c. body-empty _ _ c.kind_here-kind.ensures.1 c.begins_command.ensures.1 c.if-begins_command.false c.requires.1 c.if-labelled.true)
    (λ c κs. omega arith) (λ c. omega arith)
    -- returns-4
    (λ c. body-none _ _ c.kind_here-kind.ensures.1 c.begins_command.ensures.1 c.if-begins_command.false c.if-labelled.false
    c.refuse-2.ensures.1)

abbrev pub redo-cs : ℕ → Calls cycle.Lts-redo.Claims
redo-cs t = calls-8 free-of (below plain-rank t) kind-here is-repeat saturating-sub (below form-rank t) (below forms-rank t) node

pub redo-ok : {M : Type 1} (t : ℕ) → cycle.Lts-redo.Closed (redo-cs t).claims (at redo-rank t) redo-rank.post M
redo-ok t = cycle.Lts-redo.spec (redo-cs t).claims (at redo-rank t) redo-rank.post (λ c κs. tt) (λ c κs. omega arith)
    (λ c κs. let e = c.plain-body in past-part refl e.ensures e.auto.s) (λ c κs. tt) (λ c κs. tt) (λ c κs. tt)
    -- form-requires
    (λ c κs. pair (omega (arith, c.requires.0)) (pair c.kind_here-kind.ensures.0
    (repeat-positive _ c.is_repeat.ensures.1 c.if-is_repeat.true)))
    -- forms-requires
    (λ c κs. pair (omega (arith, c.requires.0)) (past-expression refl c.form-first.ensures c.form-first.auto.s))
    -- cast-node
    (λ c. let small = size_small _ c.saturating_sub-size.ensures.1 c.free_of.ensures.1 c.form-first.ensures.0.1.0 in omega arith)
    -- node-requires
    (λ c κs. ready-leaves c.forms-last.ensures.1.0 c.forms-last.auto.s refl (ready-leaves c.form-first.ensures.1.0 c.form-first.auto.s refl
    (ready-leaves c.plain-body.ensures.1.0 c.plain-body.auto.s refl c.plain-body.ensures.0.1)))
    (λ c. omega arith)
    -- returns
    (λ c. leaves ((λ src l d. let l₁ = lies-still l c.plain-body.ensures.1.0.kept in
    repeated-more l₁ _ _ (c.kind_here-kind.ensures.1 src l₁) d (sym c.is_repeat.ensures.1 ∙ c.if-is_repeat.true)
    c.free_of-lo.ensures.1 (measured _ _ c.saturating_sub-size.ensures.1 c.free_of.ensures.1 c.plain-body.auto.s)) from
    c.plain-body.ensures.1 with of-kind c.kind_here-kind.ensures.1
    c.form-first.ensures.1 with c.forms-last.ensures.1 adding c.node.ensures.1) refl)
    (λ c. omega arith)
    -- returns-2
    (λ c. leaves ((λ src l d. let l₁ = lies-still l c.plain-body.ensures.1.0.kept in
    repeated-one l₁ 0 _ (c.kind_here-kind.ensures.1 src l₁) d (sym c.is_repeat.ensures.1 ∙ c.if-is_repeat.false)) from
    c.plain-body.ensures.1) refl)

abbrev pub forms-cs : ℕ → Calls cycle.Lts-forms.Claims
forms-cs t = calls-3 kind-here is-repeat (below form-rank t)

abbrev forms-inv : cycle.Lts-forms.invariant-loop
forms-inv s₀ n levels a₀ counter₀ s a counter =
    SoFar (Before encode_repeats) (many_up_to (n - 1) T.no_repeats is_repeat (C.repeat_form (readers (within levels))))
    (many_up_to (n - counter) T.no_repeats is_repeat (C.repeat_form (readers (within levels)))) s₀ s n a₀ a

abbrev forms-turns : cycle.Lts-forms.decreases-loop
forms-turns s₀ n levels a₀ counter₀ s a counter = n - counter

pub forms-ok : {M : Type 1} (t : ℕ) → cycle.Lts-forms.Closed (forms-cs t).claims (at forms-rank t) forms-rank.post M
forms-ok t = cycle.Lts-forms.spec (forms-cs t).claims (at forms-rank t) forms-rank.post forms-inv forms-turns
    (λ c. so-begins c.requires.1 before-first)
    (λ c κs. ready-leaves c.loop.invariant.room c.loop.invariant.same refl c.requires.1) (λ c κs. tt) (λ c. omega arith)
    -- returns
    (λ c. many-ends _ _ _ _ before_last (wordless no-repeat-words) refl c.loop.invariant
    c.kind_here-kind.ensures.1 (sym c.is_repeat.ensures.1 ∙ c.if-not-is_repeat.true))
    -- form-requires
    (λ c κs. pair (omega arith) (pair (ready-leaves c.loop.invariant.room c.loop.invariant.same refl c.requires.1)
    (repeat-positive _ c.is_repeat.ensures.1 c.if-not-is_repeat.false)))
    (λ c. omega arith) (λ c. omega arith)
    -- loop-again
    (λ c. many-turns _ _ _ _ before-next c.loop.invariant c.kind_here-kind.ensures.1 (sym c.is_repeat.ensures.1 ∙ c.if-not-is_repeat.false)
    c.form-a.ensures.1 c.form-a.auto.s (omega arith) (omega arith))
    (λ c. omega arith)
    (λ c. many-spent _ _ _ _ before_last (wordless no-repeat-words) refl c.loop.invariant (omega arith))

abbrev pub form-cs : ℕ → Calls cycle.Lts-form.Claims
form-cs t = calls-5 free-of expect begin-item (below expr_rank t) set-size

pub form-ok : {M : Type 1} (t : ℕ) → cycle.Lts-form.Closed (form-cs t).claims (at form-rank t) form-rank.post M
form-ok t = cycle.Lts-form.spec (form-cs t).claims (at form-rank t) form-rank.post (λ c κs. tt) (λ c κs. omega arith)
    (λ c κs. past-symbol refl c.expect-word.ensures) (λ c. omega arith)
    -- returns
    (λ c.
    leaves ((λ src l x y k. repeat_read src 0 _ k c.if-kind-eq-REPEAT.true x y) from c.expect-word.ensures.1 adding c.begin_item-begun.ensures.1)
    refl)
    (λ c κs. let begin-item = c.begin_item-begun in
    pair (omega arith) (pair (ready-takes begin-item.ensures.1.0 begin-item.auto.s begin-item.ensures.0) (omega arith)))
    -- set-size-requires
    (λ c κs. pair (past-expression refl c.expr-a.ensures c.expr-a.auto.s)
    (item-low c.free_of-lo.ensures.1 c.expect-word.ensures.0.0))
    (λ c. omega arith)
    -- returns-2
    (λ c. leaves ((λ src l w x y z k. repeat-on-read src _ _ k c.free_of-lo.ensures.1 c.if-kind-eq-REPEAT.false
    (low-past c.expect-word.ensures.0.0 c.expect-word.ensures.1.0) w x y z) from c.expect-word.ensures.1 adding
    c.begin_item-begun.ensures.1 with c.expr-a.ensures.1 setting c.set_size.ensures.1) refl)

abbrev pub plain-cs : ℕ → Calls cycle.Lts-plain.Claims
plain-cs t =
    calls-11 kind-here is-guard (below when-rank t) is-leave leave (below test-rank t) (below step-rank t) (below pick-rank t) (below give-rank t)
    (below block-rank t) (below bare-rank t)

pub plain_ok : {M : Type 1} (t : ℕ) → cycle.Lts-plain.Closed (plain-cs t).claims (at plain-rank t) plain-rank.post M
plain_ok t = cycle.Lts-plain.spec (plain-cs t).claims (at plain-rank t) plain-rank.post (λ c κs. omega arith) (λ c κs. tt)
    -- when-requires
    (λ c κs. pair (omega arith) (pair c.requires.1 (guard-positive _ c.is_guard.ensures.1 c.if-is_guard.true)))
    (λ c. omega arith)
    -- returns
    (λ c. unlabelled-guarded _ c.kind_here-kind.ensures.1 c.is_guard.ensures.1 c.if-is_guard.true c.when.ensures.1)
    (λ c κs. tt)
    -- leave-requires
    (λ c κs. pair c.requires.1 (leave-positive _ c.is_leave.ensures.1 c.if-is_leave.true))
    (λ c. omega arith)
    -- returns-2
    (λ c. unlabelled-leave _ c.kind_here-kind.ensures.1 c.is_guard.ensures.1 c.if-is_guard.false c.is_leave.ensures.1
    c.if-is_leave.true c.leave.ensures.1)
    (λ c κs. omega arith) (λ c κs. omega arith) (λ c κs. omega arith) (λ c κs. omega arith) (λ c κs. omega arith) (λ c κs. omega arith)
    (λ c. omega arith)
    (λ c. unlabelled-test _ c.kind_here-kind.ensures.1
    c.in-13.is c.test.ensures.1) (λ c. omega arith)
    (λ c. unlabelled-for _ c.kind_here-kind.ensures.1
    c.in-23.is c.step.ensures.1) (λ c. omega arith)
    (λ c. unlabelled-switchon _ c.kind_here-kind.ensures.1
    c.in-26.is c.pick.ensures.1) (λ c. omega arith)
    (λ c. unlabelled-resultis _ c.kind_here-kind.ensures.1
    c.in-8.is c.give.ensures.1) (λ c. omega arith)
    (λ c. unlabelled-block _ c.kind_here-kind.ensures.1
    c.in-57.is c.block.ensures.1) (λ c. omega arith)
    -- returns-8
    (λ c. unlabelled-other _ c.kind_here-kind.ensures.1 c.is_guard.ensures.1 c.if-is_guard.false c.is_leave.ensures.1
    c.if-is_leave.false c.in_default.in_default-own.rest c.bare.ensures.1)

abbrev pub test-cs : ℕ → Calls cycle.Lts-test.Claims
test-cs t = calls-5 free-of expect (below expr_rank t) (below cmd-rank t) node

pub test-ok : {M : Type 1} (t : ℕ) → cycle.Lts-test.Closed (test-cs t).claims (at test-rank t) test-rank.post M
test-ok t = cycle.Lts-test.spec (test-cs t).claims (at test-rank t) test-rank.post (λ c κs. tt) (λ c κs. omega arith)
    (λ c κs. pair (omega arith) (pair (past-symbol refl c.expect-word.ensures) (omega arith)))
    (λ c κs. let e = c.expr-condition in pair (past-expression refl e.ensures e.auto.s) (omega arith))
    (λ c κs. pair (omega arith) (past-symbol refl c.expect-then.ensures))
    (λ c κs. let e = c.cmd-first in pair (past-part refl e.ensures e.auto.s) (omega arith))
    (λ c κs. pair (omega arith) (past-symbol refl c.expect-or.ensures))
    (λ c κs. ready-leaves c.cmd-a.ensures.1.0 c.cmd-a.auto.s refl
    (past-symbol refl c.expect-or.ensures)) (λ c. omega arith)
    -- returns
    (λ c. leaves ((λ src l. test_read l _ _ c.free_of-lo.ensures.1) from c.expect-word.ensures.1 with c.expr-condition.ensures.1 with
    c.expect-then.ensures.1 with c.cmd-first.ensures.1 with c.expect-or.ensures.1 with c.cmd-a.ensures.1 adding
    c.node.ensures.1) refl)

abbrev pub when-cs : ℕ → Calls cycle.Lts-when.Claims
when-cs t = calls-5 free-of expect (below expr_rank t) (below cmd-rank t) node

pub when-ok : {M : Type 1} (t : ℕ) → cycle.Lts-when.Closed (when-cs t).claims (at when-rank t) when-rank.post M
when-ok t = cycle.Lts-when.spec (when-cs t).claims (at when-rank t) when-rank.post (λ c κs. tt) (λ c κs. omega arith)
    (λ c κs. pair (omega arith) (pair (past-symbol refl c.expect-word.ensures) (omega arith)))
    (λ c κs. let e = c.expr-condition in pair (past-expression refl e.ensures e.auto.s) (omega arith))
    (λ c κs. pair (omega arith) (past-symbol refl c.expect-then.ensures))
    (λ c κs. ready-leaves c.cmd-a.ensures.1.0 c.cmd-a.auto.s refl
    (past-symbol refl c.expect-then.ensures)) (λ c. omega arith)
    -- returns
    (λ c. leaves ((λ src l v w x y z k. guarded-read l _ _ c.free_of-lo.ensures.1 k v w x y z) from c.expect-word.ensures.1 with
    c.expr-condition.ensures.1 with c.expect-then.ensures.1 with c.cmd-a.ensures.1 adding c.node.ensures.1) refl)

abbrev pub give-cs : ℕ → Calls cycle.Lts-give.Claims
give-cs t = calls-5 free-of place_here expect (below expr_rank t) node

pub give-ok : {M : Type 1} (t : ℕ) → cycle.Lts-give.Closed (give-cs t).claims (at give-rank t) give-rank.post M
give-ok t = cycle.Lts-give.spec (give-cs t).claims (at give-rank t) give-rank.post (λ c κs. tt) (λ c κs. omega arith) (λ c κs. omega arith)
    (λ c κs. pair (omega arith) (pair (past-symbol refl c.expect-word.ensures) (omega arith)))
    (λ c κs. ready-leaves c.expr-a.ensures.1.0 c.expr-a.auto.s refl
    (past-symbol refl c.expect-word.ensures)) (λ c. omega arith)
    -- returns
    (λ c. leaves ((λ src l. resultis-read l _ _ c.free_of-lo.ensures.1 (c.place_here-place.ensures.1 src l)) from c.expect-word.ensures.1
    with c.expr-a.ensures.1 adding c.node.ensures.1) refl)

abbrev pub bare-cs : ℕ → Calls cycle.Lts-bare.Claims
bare-cs t = calls-7 free-of (below expr_rank t) kind-here goes-on-assignment (below set-rank t) is_call refuse

pub bare-ok : {M : Type 1} (t : ℕ) → cycle.Lts-bare.Closed (bare-cs t).claims (at bare-rank t) bare-rank.post M
bare-ok t = cycle.Lts-bare.spec (bare-cs t).claims (at bare-rank t) bare-rank.post (λ c κs. tt) (λ c κs. omega arith)
    (λ c κs. let e = c.expr-first in past-expression refl e.ensures e.auto.s) (λ c κs. tt)
    (λ c κs. pair (omega arith) c.kind_here-kind.ensures.0) (λ c. omega arith)
    -- returns
    (λ c. pair (room-left (left c.expr-first.ensures.1.0 plus c.set.ensures.1.0) refl)
    (λ src l. (let l₁ = lies-still l c.expr-first.ensures.1.0.kept in
    assignment-first src _ _ (c.kind_here-kind.ensures.1 src l₁) (c.expr-first.ensures.1.1 src l) c.free_of-lo.ensures.1
    (sym c.goes_on_assignment.ensures.1 ∙ c.if-goes_on_assignment.true) (c.set.ensures.1.1 src l₁).0
    (λ e q. (c.set.ensures.1.1 src l₁).1 e (ap (λ (z : ℕ). free_of z c.expr-first.result) c.expr-first.auto.s ∙ q)))))
    (λ c κs. c.kind_here-kind.ensures.0) (λ c. omega arith)
    -- returns-2
    (λ c. pair c.expr-first.ensures.1.0 (λ src l. (let l₁ = lies-still l c.expr-first.ensures.1.0.kept in
    call-alone src 0 _ (c.kind_here-kind.ensures.1 src l₁) (c.expr-first.ensures.1.1 src l) c.is_call.ensures.1
    (sym c.goes_on_assignment.ensures.1 ∙ c.if-goes_on_assignment.false) c.if-is_call.true)))
    (λ c κs. c.is_call.ensures.0) (λ c. omega arith)
    -- returns-3
    (λ c. pair (room-left (left c.expr-first.ensures.1.0 plus c.refuse.ensures.1.0) refl)
    (λ src l. (let l₁ = lies-still l c.expr-first.ensures.1.0.kept in
    no_call src 0 _ (c.kind_here-kind.ensures.1 src l₁) (c.expr-first.ensures.1.1 src l) c.is_call.ensures.1
    (sym c.goes_on_assignment.ensures.1 ∙ c.if-goes_on_assignment.false) c.if-is_call.false c.refuse.ensures.1.1
    (refuses-on c.refuse.ensures.1.1))))

abbrev pub set-cs : ℕ → Calls cycle.Lts-set.Claims
set-cs t = calls-7 free-of saturating-sub (below also-rank t) expect (below arg-rank t) (below rest-rank t) node

pub set-ok : {M : Type 1} (t : ℕ) → cycle.Lts-set.Closed (set-cs t).claims (at set-rank t) set-rank.post M
set-ok t =
    cycle.Lts-set.spec (set-cs t).claims (at set-rank t) set-rank.post (λ c κs. tt) (λ c κs. tt) (λ c κs. omega arith) (λ c κs. tt) (λ c κs. tt)
    (λ c κs. let e = c.also-left in pair (past-part refl e.ensures e.auto.s) (omega arith))
    (λ c κs. pair (omega arith) (past-symbol refl c.expect-word.ensures))
    -- rest-requires
    (λ c κs. pair (omega (arith, c.requires.0)) (ready-takes c.arg-first.ensures.1.0 c.arg-first.auto.s (ready-part c.arg-first.ensures.0.1 refl)))
    -- cast-node
    (λ c. let small = size_small _ c.saturating_sub-size.ensures.1 c.free_of.ensures.1 c.also-left.ensures.0.1 in omega arith)
    -- cast-node-2
    (λ c. let small = size_small _ c.saturating_sub-all.ensures.1 c.free_of-2.ensures.1
    c.expect-word.ensures.0.0 in omega arith)
    -- node-requires
    (λ c κs. ready-leaves c.rest-last.ensures.1.0 c.rest-last.auto.s refl
    (ready-takes c.arg-first.ensures.1.0 c.arg-first.auto.s (past-symbol refl c.expect-word.ensures)))
    (λ c. omega arith)
    -- returns
    (λ c. pair (room-left (left c.also-left.ensures.1.0 plus c.expect-word.ensures.1.0 less c.arg-first.ensures.1.0 plus
    c.rest-last.ensures.1.0 less c.node.ensures.1.0) refl)
    (λ src l. let l₁ = lies-still l c.also-left.ensures.1.0.kept in let l₂ = lies-still l₁ c.arg-first.ensures.1.0.kept in
    pair (goes_on_lem (c.also-left.ensures.1.1 src l) then goes_on_lem (c.expect-word.ensures.1.1 src l₁) then goes_on_lem
    (c.arg-first.ensures.1.1 src l₁) then goes_on_lem (c.rest-last.ensures.1.1 src l₂) then adds_on c.node.ensures.1.1)
    (λ e q. assignment-read src _ _ _ e l.count q (measured _ _ c.saturating_sub-size.ensures.1 c.free_of.ensures.1 refl)
    (measured _ _ c.saturating_sub-all.ensures.1 c.free_of-2.ensures.1 c.also-left.auto.s) (c.also-left.ensures.1.1 src l)
    (c.expect-word.ensures.1.1 src l₁) (c.arg-first.ensures.1.1 src l₁) (c.rest-last.ensures.1.1 src l₂) c.node.ensures.1.1)))
