use Rattle.laws.proofs.Basics.{[], eqb, refl, arith, eq-eqb, ne_eqb}
use Rattle.language.specs.Kinds as K
use Rattle.language.specs.Grammar as G
use Rattle.language.specs.Reader.{many_up_to}
use Rattle.tree.proofs.Choices.{at-any}
use Rattle.tree.proofs.Loops.{before-first, before-next, before_last, wordless, so-starts, many-turns, many-ends, many-spent}
use Rattle.tree.proofs.Programs.{no-function-words, and-function-reads}
use Rattle.tree.proofs.Rooms.{ready-leaves}
use Rattle.tree.proofs.declarations.further_functions.Goals as goal

pub loop-init : goal.loop-init
loop-init c = so-starts (λ t. many_up_to t [] (λ kind. eqb kind K.AND) G.and_function) c.requires before-first (omega arith)

pub kind_here-kind-requires : goal.kind_here-kind-requires
kind_here-kind-requires c = omega arith

pub returns-then-kind-ne-AND : goal.returns-then-kind-ne-AND
returns-then-kind-ne-AND c = many-ends _ _ _ _ before_last (wordless no-function-words) refl c.loop.invariant c.kind_here-kind.ensures
    (ne_eqb _ _ c.if-kind-ne-AND.true)

pub expect-word-requires : goal.expect-word-requires
expect-word-requires c = omega arith

pub function-a-requires : goal.function-a-requires
function-a-requires c = ready-leaves c.expect-word.ensures.0 refl refl (omega arith)

pub loop-preserved : goal.loop-preserved
loop-preserved c = many-turns _ _ _ _ before-next c.loop.invariant c.kind_here-kind.ensures (eq-eqb _ _ c.if-kind-ne-AND.false)
    (at-any (and-function-reads c.expect-word.ensures c.function-a.ensures)) c.function-a.auto.s (omega arith) (omega arith)

pub returns : goal.returns
returns c = many-spent _ _ _ _ before_last (wordless no-function-words) refl c.loop.invariant (omega arith)
