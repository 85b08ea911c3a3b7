use Rattle.laws.proofs.Basics.{[], refl, sym, ◌∙◌, arith}
use Rattle.language.specs.Binding.{is_declaration}
use Rattle.language.specs.Grammar as G
use Rattle.language.specs.Reader.{many_up_to}
use Rattle.tree.proofs.Loops.{before-first, before-next, before_last, wordless, so-starts, many-turns, many-ends, many-spent}
use Rattle.tree.proofs.Programs.{declaration-positive, no-program-words}
use Rattle.tree.proofs.Steps.{pair}
use Rattle.tree.proofs.declarations.declarations.Goals as goal

pub loop-init : goal.loop-init
loop-init c = so-starts (λ t. many_up_to t [] is_declaration G.declared) c.requires before-first (omega arith)

pub kind_here-kind-requires : goal.kind_here-kind-requires
kind_here-kind-requires c = omega arith

pub returns-then-not-is_declaration : goal.returns-then-not-is_declaration
returns-then-not-is_declaration c = many-ends _ _ _ _ before_last (wordless no-program-words) refl c.loop.invariant c.kind_here-kind.ensures
    (sym c.is_declaration.ensures ∙ c.if-not-is_declaration.true)

pub declared-a-requires : goal.declared-a-requires
declared-a-requires c = pair (omega arith) (declaration-positive _ c.is_declaration.ensures c.if-not-is_declaration.false)

pub loop-preserved : goal.loop-preserved
loop-preserved c = many-turns _ _ _ _ before-next c.loop.invariant c.kind_here-kind.ensures (sym c.is_declaration.ensures ∙ c.if-not-is_declaration.false)
    (c.declared-a.ensures.0, λ src l k. c.declared-a.ensures.1 src l k (sym c.is_declaration.ensures ∙ c.if-not-is_declaration.false))
    c.declared-a.auto.s (omega arith) (omega arith)

pub returns : goal.returns
returns c = many-spent _ _ _ _ before_last (wordless no-program-words) refl c.loop.invariant (omega arith)
