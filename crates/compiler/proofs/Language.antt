-- What the laws say of the language: trees, names, constants, faults, what is resolved and how high, and how trees stand in scratch.
pub use Rattle.language.specs.Tree.{Command, Commands, Constant, Declaration, Expression, Expressions, Function, Item, Label, Locals, Name}
pub use Rattle.language.specs.Tree.{Operations, Program, Repeats, Simple, Suffixes, Unlabelled}
unfoldable pub use Rattle.language.specs.Tree.{ends_in_call, is_call, place_of}
pub use Rattle.language.specs.Names.{Found, Meaning, Scope, declared, function, global, known, local, manifest, on_found, opened, outermost}
pub use Rattle.language.specs.Names.{same_name}
pub use Rattle.language.specs.Names.{unknown}
unfoldable pub use Rattle.language.specs.Names.{in_block, lookup, same_bytes}
pub use Rattle.language.specs.Constants.{Fault, Judged, fault, faults_of, for_vector, good, judged_word, of_found, of_simple, refused, signed, within}
unfoldable pub use Rattle.language.specs.Constants.{judge}
pub use Rattle.language.specs.Fine.{FineBy, FineConstant, FineDeclaration, FineItem, FineName}
unfoldable pub use Rattle.language.specs.Fine.{Fine, FineCommand, FineCommands, FineFunctions, FineItems, FineLabels, FineList, FineLocals, FineNames}
unfoldable pub use Rattle.language.specs.Fine.{FineOperations, FineProgram, FineRepeats, FineSuffixes, FineUnlabelled}
pub use Rattle.language.specs.Resolved.{CaseLabel, Cmd, Expr, Fun, Start, in_global, nowhere}
unfoldable pub use Rattle.language.specs.Resolved.{case_count, cases_of, has_case, has_default}
pub use Rattle.language.specs.Resolve.{Side, address_of, by_of, good_case, labels_before, no_side, of_meaning, pair_up, resolved_monadic, side}
pub use Rattle.language.specs.Resolve.{target_of}
pub use Rattle.language.specs.Resolve.{values_before}
unfoldable pub use Rattle.language.specs.Resolve.{case_list, command, commands, declare_all, expression, expressions, height_after, labels_of, locals}
unfoldable pub use Rattle.language.specs.Resolve.{operations, repeats, scope_after, side_of, sides, suffixes, under, unlabelled}
pub use Rattle.language.specs.Faults.{Leavable, by_faults, doubled_case, doubled_label, unless, unless_side}
unfoldable pub use Rattle.language.specs.Faults.{doubled, in_case, in_cases, in_command, in_commands, in_expression, in_expressions, in_locals, in_operations}
unfoldable pub use Rattle.language.specs.Faults.{in_repeats, in_right_sides, in_sides, in_suffixes, in_unlabelled, misplaced, twice}
unfoldable pub use Rattle.language.specs.Heights.{greatest, heights_of, largest_height, of_cases, of_cmd, of_cmds, of_expr, of_exprs, of_locals, of_pairs}
unfoldable pub use Rattle.language.specs.Heights.{of_target}
unfoldable pub use Rattle.language.proofs.Depth.{body_depth, command_depth, commands_depth, declaration_depth, depth, expressions_depth, functions_depth}
unfoldable pub use Rattle.language.proofs.Depth.{locals_depth, operations_depth, program_depth, repeats_depth, suffixes_depth, unlabelled_depth}
pub use Rattle.tree.specs.Encoding.{behind, closed}
unfoldable pub use Rattle.tree.specs.Encoding.{body_word, encode, encode_body, encode_by, encode_command, encode_commands, encode_constant}
unfoldable pub use Rattle.tree.specs.Encoding.{encode_expressions, encode_first, encode_functions, encode_items, encode_labels, encode_locals, encode_name}
unfoldable pub use Rattle.tree.specs.Encoding.{encode_names, encode_negative, encode_operations, encode_positive, encode_program, encode_repeats}
unfoldable pub use Rattle.tree.specs.Encoding.{encode_sides, encode_suffixes, encode_unlabelled, labelled, suffixed_kind}
