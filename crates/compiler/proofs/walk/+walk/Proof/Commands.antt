-- A command: its labels, and then by its kind.
use Rattle.compiler.proofs as proofs
use proofs.steps as steps
use Rattle.compiler.proofs.walk.+walk as cycle
use Rattle.compiler.proofs.Labelled.{labelled-labels, labelled-bare, labelled-gave, unlabelled-gave, bare-empty, labelled-rest}
use Rattle.compiler.proofs.Labelled.{bare-labelled, bare-part, bare-gave, command-some, gave-r-at}
use Rattle.compiler.proofs.Conditions.{while-guards}
use Rattle.compiler.proofs.Aways.{performed-part, performed-gave, away-gave}
use Rattle.laws.proofs.Basics.{ℕ, refl, arith, needs}
use Rattle.compiler.proofs.Assigning.{assigned-part, assigned-gave}
use Rattle.compiler.proofs.Guards.{when-guards}
use Rattle.compiler.proofs.Commands.{result-part, result-gave}
use Rattle.compiler.proofs.Expressions.{ready_at, left_at}
use cycle.Proof.Ranks.{rank, at, calls, both, three, eleven, assign, bare, block, command, expr, for-to, plain, repeated, switch, test, when}
use cycle.Proof.Ranks.{while-do}
use cycle.Lts-plain.{in_default-via-then-kind-lt16 as low, in_default-via-else-kind-lt16+else-kind-lt18+else-kind-lt20 as high}

abbrev command-cs : ℕ → cycle.Lts-command.Claims
command-cs t =
    three (steps.node_at.Reads.Asked, steps.node_at.Reads.Learnt) (proofs.labels.misplaced.Reads.Asked, proofs.labels.misplaced.Reads.Learnt)
    (calls bare t)

pub command-ok : {M : Type 1} (t : ℕ) → cycle.Lts-command.Closed (command-cs t) (at command t) (rank command).post M
command-ok t = cycle.Lts-command.spec (command-cs t) (at command t) (rank command).post (λ c κs. omega arith) (λ c. omega arith)
    (λ c κs. (labelled-labels _ c.node_at-n.ensures c.if-n-eq-LABELLED.true refl
    c.requires.1).small)
    -- bare-requires
    (λ c κs. both (omega (arith, c.requires.0)) (labelled-bare _ c.node_at-n.ensures c.if-n-eq-LABELLED.true refl _
    c.misplaced-a.ensures c.requires.1))
    (λ c. omega arith) (λ c. omega arith) (λ c. search labelled-gave) (λ c κs. search needs) (λ c. omega arith) (λ c. omega arith)
    (λ c. search unlabelled-gave)

abbrev bare-cs : ℕ → cycle.Lts-bare.Claims
bare-cs t = three (steps.node_at.Reads.Asked, steps.node_at.Reads.Learnt) (steps.inside.Reads.Asked, steps.inside.Reads.Learnt) (calls repeated t)

pub bare-ok : {M : Type 1} (t : ℕ) → cycle.Lts-bare.Closed (bare-cs t) (at bare t) (rank bare).post M
bare-ok t = cycle.Lts-bare.spec (bare-cs t) (at bare t) (rank bare).post (λ c κs. omega arith) (λ c. omega arith) (λ c. omega arith)
    (λ c. search bare-empty) (λ c κs. omega arith)
    -- repeated-requires
    (λ c κs. both (omega (arith, c.requires.0, left_at, command-some))
    (ready_at c.inside.ensures (labelled-rest _ c.node_at-n.ensures c.if-n-eq-LABELLED.true refl c.if-n.false
    c.requires.1)))
    (λ c. omega arith) (λ c. omega arith)
    -- returns-2
    (λ c. bare-labelled _ c.node_at-n.ensures c.if-n-eq-LABELLED.true refl c.if-n.false _ _
    (gave-r-at _ c.inside.ensures refl c.repeated.ensures))
    (λ c κs. omega arith)
    (λ c κs. both (omega (arith, c.requires.0, left_at, command-some))
    (search (ready_at, bare-part))) (λ c. omega arith) (λ c. omega arith) (λ c. search (bare-gave, gave-r-at))

abbrev plain-cs : ℕ → cycle.Lts-plain.Claims
plain-cs t =
    eleven (steps.node_at.Reads.Asked, steps.node_at.Reads.Learnt) (calls expr t) (steps.leave.Reads.Asked, steps.leave.Reads.Learnt)
    (calls block t) (calls assign t) (calls test t) (calls for-to t) (calls switch t)
    (calls when t) (calls while-do t) (steps.away.Reads.Asked, steps.away.Reads.Learnt)

pub plain_ok : {M : Type 1} (t : ℕ) → cycle.Lts-plain.Closed (plain-cs t) (at plain t) (rank plain).post M
plain_ok t = cycle.Lts-plain.spec (plain-cs t) (at plain t) (rank plain).post (λ c κs. omega arith) (λ c κs. search (needs, result-part))
    (λ c κs. omega arith) (λ c κs. search needs) (λ c. omega arith) (λ c. omega arith) (λ c κs. search (needs, assigned-part))
    (λ c κs. search needs) (λ c κs. (omega arith, (search needs, record { is = cc })))
    (λ c κs. (omega arith, (search needs, record { is = cc }))) (λ c κs. search (needs, performed-part))
    (λ c κs. search (needs, when-guards))
    (λ c κs. search (needs, while-guards))
    (λ c _. c.node_at-n.ensures.place_fits)
    (λ c. omega arith) (λ c. omega arith) (λ c. search result-gave) (λ c. omega arith) (λ c. omega arith)
    (λ c. c.block.ensures) (λ c. omega arith) (λ c. omega arith) (λ c. search assigned-gave) (λ c. omega arith)
    (λ c. omega arith) (λ c. c.test.ensures) (λ c. omega arith) (λ c. omega arith)
    (λ c. c.for_to.ensures) (λ c. omega arith) (λ c. omega arith)
    (λ c. c.switch.ensures) (λ c. omega arith) (λ c. omega arith) (λ c. search performed-gave) (λ c. omega arith)
    (λ c. omega arith)
    (λ c. c.when.ensures) (λ c. omega arith) (λ c. omega arith)
    (λ c. c.while_do.ensures) (λ c. omega arith) (λ c. omega arith)
    (λ c. elim c.in_default.branch [
      | low w ↦ away-gave _ c.args.ways _ c.node_at-n.ensures (λ e. omega arith) (λ e. omega arith) (λ e. omega arith) (λ e. omega arith) (λ e. omega arith) (λ e. omega arith)
          (λ e. omega arith) (λ e. omega arith) (λ e. omega arith) (λ e. omega arith) (λ e. omega arith) c.away.ensures
      | high w ↦ away-gave _ c.args.ways _ c.node_at-n.ensures (λ e. omega arith) (λ e. omega arith) (λ e. omega arith) (λ e. omega arith) (λ e. omega arith) (λ e. omega arith)
          (λ e. omega arith) (λ e. omega arith) (λ e. omega arith) (λ e. omega arith) (λ e. omega arith) c.away.ensures
    ])
