use Rattle.laws.proofs.Basics.{refl, sym, ap, ◌∙◌, length-take-le, arith}
use Rattle.std.specs.Prelude.{Err}
use Rattle.compiler.proofs.Translating.{tree-room, symbols-room, ready-tree, tree-answer, never-unfit}
use Rattle.compiler.proofs.parsed.Goals as goal

pub overflow_mul-count : goal.overflow_mul-count
overflow_mul-count c = omega (arith, tree-room c.requires)

pub overflow_add-count : goal.overflow_add-count
overflow_add-count c = omega (arith, tree-room c.requires)

pub slice_bounds-read_tree-end : goal.slice_bounds-read_tree-end
slice_bounds-read_tree-end c = search tree-room

pub slice_bounds-read_tree-end-2 : goal.slice_bounds-read_tree-end-2
slice_bounds-read_tree-end-2 c = sym (search (length-take-le, tree-room))

pub walked-requires : goal.walked-requires
walked-requires c = search ready-tree

pub overflow_mul-count-in-Err-Refused : goal.overflow_mul-count-in-Err-Refused
overflow_mul-count-in-Err-Refused c = omega (arith, tree-room c.requires)

pub slice_bounds-clear_from-end : goal.slice_bounds-clear_from-end
slice_bounds-clear_from-end c = search symbols-room

pub slice_bounds-clear_from-end-in-Err-Refused : goal.slice_bounds-clear_from-end-in-Err-Refused
slice_bounds-clear_from-end-in-Err-Refused c = sym (search (length-take-le, symbols-room))

pub returns-in-Err-Refused : goal.returns-in-Err-Refused
returns-in-Err-Refused c = rw c.refused.ensures (tree-answer c.requires c.read_tree.ensures
    (c.in-Err-Refused.is ∙ ap Err c.in-Err-Refused.field-0-is) refl c.clear_from.ensures)

pub returns-in-Err-TooShort : goal.returns-in-Err-TooShort
returns-in-Err-TooShort c = absurd (never-unfit c.requires c.read_tree.ensures (c.in-Err-TooShort.is ∙ ap Err c.in-Err-TooShort.field-0-is))
