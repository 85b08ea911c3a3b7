-- Texts as they are written, for the examples: what the definitions give for a text in quotes.
use Rattle.laws.proofs.Basics.{ℕ, zero, suc, ◌≡◌, refl, List, [], ◌++◌}
use Rattle.text.specs.Line.{line_of, newlines}
use Rattle.text.specs.Quoted as Q
use Rattle.text.specs.Quoted.{quoted, by_digits, by_number, escape}
use Prim.Native.String.{String}
use Rattle.text.specs.Written.{bytes}
use Rattle.language.specs.Bytes.{class_of}
use Rattle.language.specs.Kinds.{reserved, signs, member}
use Rattle.language.specs.Symbols as S
use Rattle.language.specs.Symbols.{begins, word_width, kind_in, kind_of, word, digits, value_of, decimal, octal, string, sign_in, to_line_end}
use Rattle.language.specs.Symbols.{comment}
use Rattle.language.specs.Symbols.{sign, sign_or_comment, by_class, scan_from, scan}
use Rattle.language.specs.Brackets.{closing, bracket, brackets}
use Rattle.language.specs.Strings.{numbered}
use Rattle.language.specs.Semicolons.{ends_line, begins_line, lines_differ, gains, semicolons_after, semicolons}
use Rattle.language.specs.Tree.{with_suffixes, with_operations, ends_in_call, is_call, count}
use Rattle.language.specs.Reader.{unexpected, any, here, the, optional, a_name, many_up_to, many, more_up_to, items, further_items, one_up_to_close}
use Rattle.language.specs.Reader.{up_to_close}
use Rattle.language.specs.Binding.{binding_of, is_monadic, reach_of, is_suffix, is_label, is_guard, is_leave, is_repeat, goes_on_assignment}
use Rattle.language.specs.Binding.{is_declaration, begins_expression, begins_command}
use Rattle.language.specs.Expressions as E
use Rattle.language.specs.Expressions.{index, suffix, suffixed, operand, operation, most_of, operations, chain, products, sums, relations}
use Rattle.language.specs.Commands as C
use Rattle.language.specs.Commands.{further_name, local, semicolon_end, commands_to_end, block, further_side, assignment, call_command}
use Rattle.language.specs.Grammar as G
use Rattle.language.specs.Grammar.{declaration, declared, whole, program, tree_of}
use Rattle.language.specs.Source.{Symbols, symbols_of, Read, read, refused, too_long, scratch_too_short, read_symbols, parsed, read_source}

-- a text's symbols, or its refusal
unfoldable pub symbols_in : String → Symbols
unfolding quoted Q.character by_number by_digits escape newlines line_of class_of reserved signs begins word_width kind_in kind_of word digits value_of
    decimal octal S.character string sign_in to_line_end comment sign sign_or_comment by_class scan_from scan closing bracket brackets member ends_line
    begins_line lines_differ gains semicolons_after semicolons numbered symbols_of
symbols_in text = symbols_of (bytes text)

-- the program of some bytes, or its refusal, with scratch enough for any text
unfoldable pub answer : List ℕ → Read
unfolding symbols_in with_suffixes with_operations ends_in_call is_call count unexpected any here
    the optional a_name many_up_to many more_up_to items further_items one_up_to_close up_to_close binding_of is_monadic reach_of is_suffix is_label is_guard is_leave
    is_repeat goes_on_assignment is_declaration begins_expression begins_command E.opening E.numeral E.truth E.quotation E.named E.bracketed E.valof
    E.primary E.monadic E.arguments E.subscript E.index E.suffix E.suffixed E.operand E.operation E.most_of E.operations E.chain E.products E.sums
    E.relations E.shifts E.negations E.conjunctions E.disjunctions E.expression E.literal E.truth_literal E.known E.simple E.positive E.negative
    E.constant C.test C.guarded C.by C.optional_by C.for C.listed C.switchon C.resultis C.leave C.further C.vector C.values C.given C.further_name
    C.local C.semicolon_end C.commands_to_end C.block C.further_side C.assignment C.call_command C.after_expression C.assignment_or_call C.unlabelled C.repeat
    C.repeat_on C.repeat_form C.repeated C.empty_command C.case C.default C.label C.after_labels C.command G.within G.item G.globals G.manifests G.value
    G.routine G.body G.parameter G.function G.and_function G.functions G.declaration G.declared G.whole G.program G.tree_of too_long scratch_too_short
    read_symbols parsed read_source
answer text = read_source text 131136

unfoldable pub program_in : String → Read
unfolding answer
program_in text = answer (bytes text)

-- a refusal's number and place; 0 and 0 for none
abbrev pub number_and_place : Read → ℕ × ℕ
number_and_place (read p) = (0, 0)
number_and_place (refused number place) = (number, place)

unfoldable pub verdict : String → ℕ × ℕ
unfolding answer
verdict text = number_and_place (answer (bytes text))

unfoldable pub verdict_of : List ℕ → ℕ × ℕ
unfolding answer
verdict_of text = number_and_place (answer text)

-- some bytes a number of times over
unfoldable pub times : ℕ → List ℕ → List ℕ
times zero bs = []
times (suc n) bs = bs ++ times n bs

-- these are the definitions', for texts in quotes
pub symbols-are : (text : String) → symbols_of (bytes text) ≡ symbols_in text
unfolding symbols_in
symbols-are text = refl
