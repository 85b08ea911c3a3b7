use Rattle.laws.proofs.Basics.{sym, ◌∙◌, arith}
use Rattle.tree.proofs.Decoded.{lies, starts, tree-short, tree-read, tree-refused}
use Rattle.tree.proofs.read_tree.Goals as goal

pub returns-then-too_short : goal.returns-then-too_short
returns-then-too_short c = tree-short _ _ _ (sym c.too_short.ensures ∙ c.if-too_short.true)

pub overflow_mul-start : goal.overflow_mul-start
overflow_mul-start c = let h = starts c.args.scratch.now c.args.count (sym c.too_short.ensures ∙ c.if-too_short.false) in omega (arith, h.wide, h.small)

pub program-requires : goal.program-requires
program-requires c = starts _ _ (sym c.too_short.ensures ∙ c.if-too_short.false)

pub place_at-place-requires : goal.place_at-place-requires
place_at-place-requires c = let h = starts c.args.scratch.now c.args.count (sym c.too_short.ensures ∙ c.if-too_short.false) in
    omega (arith, h.wide, c.program.auto.s)

pub returns-in-Read : goal.returns-in-Read
returns-in-Read c = tree-read (sym c.too_short.ensures ∙ c.if-too_short.false) c.program.auto.s (c.program.ensures.1 _ (lies _ _ _))
    c.program.ensures.0 c.in-Read.is c.clear_from.ensures

pub returns-in-Refused : goal.returns-in-Refused
returns-in-Refused c = tree-refused (sym c.too_short.ensures ∙ c.if-too_short.false) c.program.auto.s (c.program.ensures.1 _ (lies _ _ _))
    c.in-Refused.is c.program.ensures.0.kept c.place_at-place.ensures c.clear_from-in-Refused.ensures
