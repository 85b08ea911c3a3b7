-- Expressions and commands: one proof, since they call one another. Its measures stand in `Ranks`, its answers in the others.
mod Ranks
mod Chains
mod Terms
mod Forms
mod Blocks
use Rattle.tree.proofs.phrases.+phrases.{statement}
use Rattle.tree.proofs.phrases.+phrases.Tie.{close}
use Ranks.{also-rank, arg-rank, bare-rank, block-rank, body-rank, call-rank, cases-rank, cmd-rank, expr_rank, form-rank, forms-rank, give-rank}
use Ranks.{index-rank, init-rank, item-rank, unary-rank, lets-rank, list-rank, local-rank, monad-rank, nest-rank, op-rank, pass-rank, pick-rank}
use Ranks.{plain-rank, redo-rank, rest-rank, run-rank, set-rank, step-rank, tail-rank, tails-rank, term-rank, test-rank, till-rank, unit-rank}
use Ranks.{valof-rank, when-rank, whole-rank}
use Chains.{expr-cs, expr-ok, monad-cs, monad-ok, op-cs, op_ok, run-cs, run_ok, term-cs, term-ok}
use Terms.{also-cs, also-ok, arg-cs, arg-ok, call-cs, call_ok, index-cs, index_ok, unary-cs, unary-ok, nest-cs, nest-ok, pass-cs, pass-ok, rest-cs}
use Terms.{rest_ok, tail-cs, tail-ok, tails-cs, tails-ok, unit-cs, unit_ok, valof-cs, valof-ok, whole-cs, whole-ok}
use Forms.{bare-cs, bare-ok, body-cs, body_ok, cases-cs, cases-ok, cmd-cs, cmd-ok, form-cs, form-ok, forms-cs, forms-ok, give-cs, give-ok, plain-cs}
use Forms.{plain_ok, redo-cs, redo-ok, set-cs, set-ok, test-cs, test-ok, when-cs, when-ok}
use Blocks.{block-cs, block-ok, init-cs, init-ok, item-cs, item_ok, lets-cs, lets-ok, list-cs, list-ok, local-cs, local-ok, pick-cs, pick-ok, step-cs}
use Blocks.{step_ok, till-cs, till-ok}
use Rattle.tree.proofs.Asked.{knowing}

pub +phrases_spec :
    {M : Type 1} → statement M
+phrases_spec =
    close also-rank.measure arg-rank.measure bare-rank.measure block-rank.measure body-rank.measure call-rank.measure
    cases-rank.measure cmd-rank.measure expr_rank.measure form-rank.measure forms-rank.measure give-rank.measure
    index-rank.measure init-rank.measure item-rank.measure lets-rank.measure list-rank.measure
    local-rank.measure monad-rank.measure nest-rank.measure op-rank.measure pass-rank.measure pick-rank.measure
    plain-rank.measure redo-rank.measure rest-rank.measure run-rank.measure set-rank.measure step-rank.measure tail-rank.measure
    tails-rank.measure term-rank.measure test-rank.measure till-rank.measure unary-rank.measure unit-rank.measure
    valof-rank.measure when-rank.measure whole-rank.measure (λ t. knowing (also-cs t).callees _ (also-ok t))
    (λ t. knowing (arg-cs t).callees _ (arg-ok t))
    (λ t. knowing (bare-cs t).callees _ (bare-ok t)) (λ t. knowing (block-cs t).callees _ (block-ok t))
    (λ t. knowing (body-cs t).callees _ (body_ok t)) (λ t. knowing (call-cs t).callees _ (call_ok t))
    (λ t. knowing (cases-cs t).callees _ (cases-ok t)) (λ t. knowing (cmd-cs t).callees _ (cmd-ok t))
    (λ t. knowing (expr-cs t).callees _ (expr-ok t)) (λ t. knowing (form-cs t).callees _ (form-ok t))
    (λ t. knowing (forms-cs t).callees _ (forms-ok t)) (λ t. knowing (give-cs t).callees _ (give-ok t))
    (λ t. knowing (index-cs t).callees _ (index_ok t)) (λ t. knowing (init-cs t).callees _ (init-ok t))
    (λ t. knowing (item-cs t).callees _ (item_ok t))
    (λ t. knowing (lets-cs t).callees _ (lets-ok t)) (λ t. knowing (list-cs t).callees _ (list-ok t))
    (λ t. knowing (local-cs t).callees _ (local-ok t)) (λ t. knowing (monad-cs t).callees _ (monad-ok t))
    (λ t. knowing (nest-cs t).callees _ (nest-ok t)) (λ t. knowing (op-cs t).callees _ (op_ok t)) (λ t. knowing (pass-cs t).callees _ (pass-ok t))
    (λ t. knowing (pick-cs t).callees _ (pick-ok t)) (λ t. knowing (plain-cs t).callees _ (plain_ok t))
    (λ t. knowing (redo-cs t).callees _ (redo-ok t)) (λ t. knowing (rest-cs t).callees _ (rest_ok t))
    (λ t. knowing (run-cs t).callees _ (run_ok t)) (λ t. knowing (set-cs t).callees _ (set-ok t)) (λ t. knowing (step-cs t).callees _ (step_ok t))
    (λ t. knowing (tail-cs t).callees _ (tail-ok t)) (λ t. knowing (tails-cs t).callees _ (tails-ok t))
    (λ t. knowing (term-cs t).callees _ (term-ok t)) (λ t. knowing (test-cs t).callees _ (test-ok t))
    (λ t. knowing (till-cs t).callees _ (till-ok t)) (λ t. knowing (unary-cs t).callees _ (unary-ok t))
    (λ t. knowing (unit-cs t).callees _ (unit_ok t))
    (λ t. knowing (valof-cs t).callees _ (valof-ok t)) (λ t. knowing (when-cs t).callees _ (when-ok t))
    (λ t. knowing (whole-cs t).callees _ (whole-ok t))
