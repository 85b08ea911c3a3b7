-- What the laws of the walk speak of: where it stands, what it asks and what it does.
pub use Rattle.compiler.specs.declared.steps.State.{State}
pub use Rattle.compiler.specs.declared.steps.Here.{Here}
pub use Rattle.compiler.specs.declared.steps.Node.{Node}
pub use Rattle.compiler.specs.declared.steps.Ways.{Ways}
pub use Rattle.compiler.specs.Walked.{AllFit, Code, Did, Emits, Faulted, Fresh, LeavesTo, Means, NodeAt, Reached, and_fit, exits, expr_says}
pub use Rattle.compiler.specs.Walked.{exprs_says, in_loop, in_switch, in_valof, inside, key, leavable, leavable_by, marked, no_fit, placed, raised}
unfoldable pub use Rattle.compiler.specs.Walked.{least}
pub use Rattle.compiler.specs.Walks.{Counts, GaveArgs, GaveChain, GaveE, GaveIndexed, GavePassed, GaveSuffixes, Holds, Ready, ReadyArgs}
pub use Rattle.compiler.specs.Walks.{ReadyChain, ReadyE, ReadySuffixes, Result, chain_says, code_a, code_e, encode_applied, faults_e}
unfoldable pub use Rattle.compiler.specs.Walks.{chain_code, chain_heights, chain_labels}
pub use Rattle.compiler.specs.Scope.{Keeps, Looked, Pushed, PushedName, Shows, Told, Worded, name_at, named, nothing}
unfoldable pub use Rattle.compiler.specs.Scope.{code, found}
pub use Rattle.compiler.specs.Fine.{FineC, FineCs, FineE, FineEs, FineLs, FineOs, FinePlain, FineRs, FineSs, STRINGS}
pub use Rattle.compiler.specs.Commands.{Again, Declares, FineRepeated, GaveC, GaveCase, GaveCases, GaveForm, GaveForms, GaveList, GaveR, GaveU}
pub use Rattle.compiler.specs.Commands.{GoesAway, ReadyC, ReadyCases, ReadyForm, ReadyForms, ReadyList, ReadyNames, ReadyR, ReadyU, cases_says}
pub use Rattle.compiler.specs.Commands.{Repeated, cmd_says, cmds_says, deep_repeated, encode_repeated, form_says}
unfoldable pub use Rattle.compiler.specs.Commands.{cases_faults, entries_in}
pub use Rattle.compiler.specs.Switching.{JudgesBy, JudgesLabels, Misplaces, ReadyLabels, ReadyMisplaced, WritesTable, by_judged, table_items}
unfoldable pub use Rattle.compiler.specs.Switching.{label_faults}
pub use Rattle.compiler.specs.Groups.{CountsFunctions, CountsGroup, Enters, FineB, FineDs, FineF, FineFs, GaveBody, GaveF, GaveFs, GroupNames}
pub use Rattle.compiler.specs.Groups.{NameFaults, ReadyBody, ReadyF, ReadyFs, ReadyGroup, Starting, Taken, body_says, encode_function}
pub use Rattle.compiler.specs.Groups.{function_depth, function_says, functions_says, started}
unfoldable pub use Rattle.compiler.specs.Groups.{Small, function_count, inner_labels, starts_in}
pub use Rattle.compiler.specs.Programs.{GaveDeclaration, GaveProgram, ReadyDeclaration, ReadyProgram, Stands, Yields, declared_word}
pub use Rattle.compiler.specs.Programs.{encode_declared}
unfoldable pub use Rattle.compiler.specs.Programs.{starts_of}
pub use Rattle.compiler.specs.declared.steps.Refused.{Refused}
pub use Rattle.compiler.specs.Locals.{Verdict}
