-- The depth of a tree: how many expressions and commands lie inside one another. Lists add nothing, and a command's labels and REPEAT
-- forms are part of it. Every recursion on trees takes the depth left; Depths and CommandDepths bound it by the levels.
use Rattle.laws.proofs.Basics.{ℕ, suc, max, List, [], ◌∷◌}
use Rattle.language.specs.Tree as T
use Rattle.language.specs.Tree.{Expression, Expressions, Suffixes, Operations, Command, Commands, Unlabelled, Repeats, Locals, Body, Function}
use Rattle.language.specs.Tree.{Declaration, Program}

unfoldable mutual
  pub depth : Expression → ℕ
  depth (T.number place v) = 1
  depth (T.string place n) = 1
  depth (T.name n) = 1
  depth (T.bracketed place e) = suc (depth e)
  depth (T.valof place c) = suc (command_depth c)
  depth (T.monadic place o e) = suc (depth e)
  depth (T.suffixed e ss) = suc (max (depth e) (suffixes_depth ss))
  depth (T.dyadic e os) = suc (max (depth e) (operations_depth os))

  pub expressions_depth : Expressions → ℕ
  expressions_depth T.no_expressions = 0
  expressions_depth (T.and_expression e es) = max (depth e) (expressions_depth es)

  pub suffixes_depth : Suffixes → ℕ
  suffixes_depth T.no_suffixes = 0
  suffixes_depth (T.call es ss) = max (expressions_depth es) (suffixes_depth ss)
  suffixes_depth (T.index e ss) = max (depth e) (suffixes_depth ss)

  pub operations_depth : Operations → ℕ
  operations_depth T.no_operations = 0
  operations_depth (T.operation o e os) = max (depth e) (operations_depth os)

  pub command_depth : Command → ℕ
  command_depth (T.command ls u rs) = suc (max (unlabelled_depth u) (repeats_depth rs))

  pub commands_depth : Commands → ℕ
  commands_depth T.no_commands = 0
  commands_depth (T.and_command c cs) = max (command_depth c) (commands_depth cs)

  pub unlabelled_depth : Unlabelled → ℕ
  unlabelled_depth T.empty = 0
  unlabelled_depth (T.assignment ls rs) = max (expressions_depth ls) (expressions_depth rs)
  unlabelled_depth (T.call_command e) = depth e
  unlabelled_depth (T.test e c d) = max (depth e) (max (command_depth c) (command_depth d))
  unlabelled_depth (T.guarded w e c) = max (depth e) (command_depth c)
  unlabelled_depth (T.for n e d k c) = max (depth e) (max (depth d) (command_depth c))
  unlabelled_depth (T.switchon e cs) = max (depth e) (commands_depth cs)
  unlabelled_depth (T.resultis place e) = depth e
  unlabelled_depth (T.leave w place) = 0
  unlabelled_depth (T.block ls cs) = max (locals_depth ls) (commands_depth cs)

  pub repeats_depth : Repeats → ℕ
  repeats_depth T.no_repeats = 0
  repeats_depth (T.repeat rs) = repeats_depth rs
  repeats_depth (T.repeat_on w e rs) = max (depth e) (repeats_depth rs)

  pub locals_depth : Locals → ℕ
  locals_depth T.no_locals = 0
  locals_depth (T.vector n c ls) = locals_depth ls
  locals_depth (T.values ns es ls) = max (expressions_depth es) (locals_depth ls)

-- of a program: the deepest body of its functions
unfoldable pub body_depth : Body → ℕ
body_depth (T.value e) = depth e
body_depth (T.routine c) = command_depth c

unfoldable pub functions_depth : List Function → ℕ
functions_depth [] = 0
functions_depth (f ∷ fs) = max (body_depth f.body) (functions_depth fs)

unfoldable pub declaration_depth : Declaration → ℕ
declaration_depth (T.globals xs) = 0
declaration_depth (T.manifests xs) = 0
declaration_depth (T.functions fs) = functions_depth fs

unfoldable pub program_depth : Program → ℕ
program_depth [] = 0
program_depth (d ∷ ds) = max (declaration_depth d) (program_depth ds)
