use Rattle.laws.proofs.Basics.{refl}
use Rattle.tree.proofs.Programs.{no-parameters, some-parameters}
use Rattle.tree.proofs.Wholes.{leaves, ◌from◌, ◌with◌}
use Rattle.tree.proofs.declarations.parameters.Goals as goal

pub returns-then-kind-eq-CLOSE : goal.returns-then-kind-eq-CLOSE
returns-then-kind-eq-CLOSE c = (c.expect.ensures.0, λ src l. no-parameters src (c.kind_here-kind.ensures src l) c.if-kind-eq-CLOSE.true (c.expect.ensures.1 src l))

pub returns : goal.returns
returns c = leaves ((λ src l. some-parameters src (c.kind_here-kind.ensures src l) l.count c.if-kind-eq-CLOSE.false) from c.a_name-first.ensures with
    c.further_names-last.ensures with c.expect-2.ensures) refl
