use Rattle.laws.proofs.Basics.{refl, sym, ◌∙◌, length-take-le, arith, needs}
use Rattle.compiler.proofs.Answering.{end-inside, few-symbols, few_labels, ready-behind, ready-program, translates}
use Rattle.compiler.proofs.walked.Goals as goal

pub function_count-functions-requires : goal.function_count-functions-requires
function_count-functions-requires c = omega (arith, few-symbols c.requires)

pub string_count-names-requires : goal.string_count-names-requires
string_count-names-requires c = omega (arith, few-symbols c.requires)

pub overflow_add-d : goal.overflow_add-d
overflow_add-d c = omega (arith, few_labels c.requires c.function_count-functions.ensures c.string_count-names.ensures)

pub overflow_add-d-2 : goal.overflow_add-d-2
overflow_add-d-2 c = omega (arith, few_labels c.requires c.function_count-functions.ensures c.string_count-names.ensures)

pub overflow_add-functions : goal.overflow_add-functions
overflow_add-functions c = omega (arith, few_labels c.requires c.function_count-functions.ensures c.string_count-names.ensures)

pub program-e-requires : goal.program-e-requires
program-e-requires c = search ready-program

pub behind-last-requires : goal.behind-last-requires
behind-last-requires c = ready-behind c.requires c.function_count-functions.ensures c.string_count-names.ensures (search needs)

pub slice_bounds-clear_from-end : goal.slice_bounds-clear_from-end
slice_bounds-clear_from-end c = end-inside c.requires (search needs)

pub slice_bounds-clear_from-end-2 : goal.slice_bounds-clear_from-end-2
slice_bounds-clear_from-end-2 c = sym (length-take-le _ _ (end-inside c.requires (search needs)))

pub returns : goal.returns
returns c = translates c.requires c.function_count-functions.ensures c.string_count-names.ensures c.opening-at.ensures
    c.program-e.ensures refl c.behind-last.ensures c.entry.ensures.0
    (c.behind-last.auto.text ∙ (c.program-e.auto.text ∙ c.opening-at.auto.text)) c.decide.ensures
    (c.behind-last.auto.s ∙ c.program-e.auto.s) c.clear_from.ensures
