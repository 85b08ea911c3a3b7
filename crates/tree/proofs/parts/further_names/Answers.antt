use Rattle.laws.proofs.Basics.{[], refl, arith, eq-eqb, ne_eqb}
use Rattle.language.specs.Reader.{many_up_to, is_comma}
use Rattle.tree.specs.Between.{a_further_name}
use Rattle.tree.proofs.Choices.{at-any}
use Rattle.tree.proofs.Loops.{before-first, before-next, before_last, wordless, so-starts, many-turns, many-ends, many-spent}
use Rattle.tree.proofs.Names.{no-name-words, further-name-reads}
use Rattle.tree.proofs.parts.further_names.Goals as goal

pub loop-init : goal.loop-init
loop-init c = so-starts (λ t. many_up_to t [] is_comma a_further_name) c.requires before-first (omega arith)

pub kind_here-kind-requires : goal.kind_here-kind-requires
kind_here-kind-requires c = omega arith

pub returns-then-kind-ne-COMMA : goal.returns-then-kind-ne-COMMA
returns-then-kind-ne-COMMA c = many-ends _ _ _ _ before_last (wordless no-name-words) refl c.loop.invariant c.kind_here-kind.ensures
    (ne_eqb _ _ c.if-kind-ne-COMMA.true)

pub expect-comma-requires : goal.expect-comma-requires
expect-comma-requires c = omega arith

pub a_name-a-requires : goal.a_name-a-requires
a_name-a-requires c = omega arith

pub loop-preserved : goal.loop-preserved
loop-preserved c = many-turns _ _ _ _ before-next c.loop.invariant c.kind_here-kind.ensures (eq-eqb _ _ c.if-kind-ne-COMMA.false)
    (at-any (further-name-reads c.expect-comma.ensures c.a_name-a.ensures)) c.a_name-a.auto.s (omega arith) (omega arith)

pub returns : goal.returns
returns c = many-spent _ _ _ _ before_last (wordless no-name-words) refl c.loop.invariant (omega arith)
