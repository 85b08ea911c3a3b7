use Rattle.laws.proofs.Basics.{refl}
use Rattle.tree.proofs.Steps.{goes_on_lem, adds_on, ◌then◌, pair}
use Rattle.tree.proofs.Programs.{body-value, body-routine}
use Rattle.tree.proofs.Wholes.{leaves, ◌from◌, ◌with◌, ◌adding◌}
use Rattle.tree.proofs.declarations.function_body.Goals as goal

pub returns-then-kind-eq-EQUAL : goal.returns-then-kind-eq-EQUAL
returns-then-kind-eq-EQUAL c = leaves ((λ src l a b d. pair (goes_on_lem a then goes_on_lem b then adds_on d)
    (λ name names e q. body-value src (c.kind_here-kind.ensures src l) _ _ name names e q c.if-kind-eq-EQUAL.true a b d)) from c.expect-equal.ensures
    with c.expr-value.ensures adding c.node.ensures) refl

pub returns : goal.returns
returns c = leaves ((λ src l a b d. pair (goes_on_lem a then goes_on_lem b then adds_on d)
    (λ name names e q. body-routine src (c.kind_here-kind.ensures src l) _ _ name names e q c.if-kind-eq-EQUAL.false a b d)) from
    c.expect-word.ensures with c.cmd-routine.ensures adding c.node-2.ensures) refl
