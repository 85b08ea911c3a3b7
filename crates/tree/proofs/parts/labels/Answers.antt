use Rattle.laws.proofs.Basics.{refl, sym, ◌∙◌, arith}
use Rattle.tree.proofs.Cases.{no-label-words}
use Rattle.tree.proofs.Loops.{before-first, before-next, before_last, wordless, so-begins, many-turns, many-ends, many-spent}
use Rattle.tree.proofs.parts.labels.Goals as goal

pub loop-init : goal.loop-init
loop-init c = so-begins c.requires before-first

pub kind_here-kind-requires : goal.kind_here-kind-requires
kind_here-kind-requires c = omega arith

pub returns-then-not-is_label : goal.returns-then-not-is_label
returns-then-not-is_label c = many-ends _ _ _ _ before_last (wordless no-label-words) refl c.loop.invariant c.kind_here-kind.ensures
    (sym c.is_label.ensures ∙ c.if-not-is_label.true)

pub label-a-requires : goal.label-a-requires
label-a-requires c = omega arith

pub loop-preserved : goal.loop-preserved
loop-preserved c = many-turns _ _ _ _ before-next c.loop.invariant c.kind_here-kind.ensures (sym c.is_label.ensures ∙ c.if-not-is_label.false)
    c.label-a.ensures c.label-a.auto.s (omega arith) (omega arith)

pub returns : goal.returns
returns c = many-spent _ _ _ _ before_last (wordless no-label-words) refl c.loop.invariant (omega arith)
