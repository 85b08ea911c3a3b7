use Rattle.laws.proofs.Basics.{ℕ, refl, subst, arith}
use Rattle.compiler.proofs.Declarations.{NamesPart, names-begin, names-next, names-end, names-fit}
use Rattle.compiler.proofs.steps.declare.Goals as goal

pub loop-k-init : goal.loop-k-init
loop-k-init c = λ y. subst (λ (a : ℕ). NamesPart c.args.source.now c.args.st y c.args.s.now a 0 c.args.st) (omega arith) (names-begin _ _ y)

pub push_name-requires : goal.push_name-requires
push_name-requires c = let w = names-fit c.args.source.now c.loop-k.k (omega arith) c.requires (c.loop-k.invariant c.requires) in
    (omega arith, omega arith, omega arith, w.4)

pub loop-k-preserved : goal.loop-k-preserved
loop-k-preserved c = λ y. names-next _ _ (omega arith) (omega arith) c.in_block-m.ensures c.entry-place.ensures.0 c.again-r.ensures c.push_name.ensures
    refl y (c.loop-k.invariant y)

pub returns : goal.returns
returns c = names-end _ _ (omega arith) c.loop-k.invariant
