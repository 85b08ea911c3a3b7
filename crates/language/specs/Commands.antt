-- Commands (document 01, "Grammar"). A command opens a level at its first symbol after its labels; what stands in it, the REPEAT
-- forms after it included, is read with the readers inside that level.
use Rattle.std.specs.Prelude.{ℕ, zero, suc, ◌+◌, cond, List, [], ◌∷◌, length, eqb}
use Rattle.std.proofs.Math.Option.{Option, none, some}
use Rattle.language.specs.Kinds as K
use Rattle.language.specs.Binding.{LOOSEST, is_label, is_guard, is_leave, is_repeat, goes_on_assignment, begins_command}
use Rattle.language.specs.Tree as T
use Rattle.language.specs.Tree.{Name, Constant, Label, Expression, Expressions, no_expressions, and_expression, Command, Commands, no_commands}
use Rattle.language.specs.Tree.{and_command, Unlabelled, Repeats, no_repeats, Locals, no_locals, is_call, count}
use Rattle.language.specs.Reader.{ok, Reader, ◌>>=◌, return, kind_at, is, unexpected, any, the, optional, a_name, many, items, further_items}
use Rattle.language.specs.Expressions.{Readers, Inside, opening, constant}

module _ (r : Readers) where
  -- TEST expression DO command OR command
  unfoldable pub test : Reader Unlabelled
  test = do
    _ ← the K.TEST
    e ← r.expression LOOSEST
    _ ← the K.DO
    c ← r.command
    _ ← the K.OR
    d ← r.command
    return (T.test e c d)

  -- IF expression DO command, and so UNLESS, WHILE and UNTIL
  unfoldable pub guarded : Reader Unlabelled
  guarded = do
    x ← any
    e ← r.expression LOOSEST
    _ ← the K.DO
    c ← r.command
    return (T.guarded x.kind e c)

  -- BY constant
  unfoldable pub by : Reader (Option Constant)
  by = do
    _ ← the K.BY
    c ← r.constant
    return (some c)

  unfoldable pub optional_by : Reader (Option Constant)
  optional_by s at = cond (is K.BY s at) (by s at) (ok none at)

  -- FOR name = expression TO expression [BY constant] DO command
  unfoldable pub for : Reader Unlabelled
  for = do
    _ ← the K.FOR
    n ← a_name
    _ ← the K.EQUAL
    e ← r.expression LOOSEST
    _ ← the K.TO
    d ← r.expression LOOSEST
    k ← optional_by
    _ ← the K.DO
    c ← r.command
    return (T.for n e d k c)

  unfoldable pub listed : Reader (Commands → Commands)
  listed = do
    c ← r.command
    return (and_command c)

  -- SWITCHON expression INTO $( command { ; command } [;] $)
  unfoldable pub switchon : Reader Unlabelled
  switchon = do
    _ ← the K.SWITCHON
    e ← r.expression LOOSEST
    _ ← the K.INTO
    _ ← the K.BEGIN
    cs ← items no_commands listed
    return (T.switchon e cs)

  -- RESULTIS expression
  unfoldable pub resultis : Reader Unlabelled
  resultis = do
    place ← the K.RESULTIS
    e ← r.expression LOOSEST
    return (T.resultis place e)

  -- BREAK | LOOP | ENDCASE | RETURN | FINISH
  unfoldable pub leave : Reader Unlabelled
  leave = do
    x ← any
    return (T.leave x.kind x.place)

  -- {, expression}, so many of them
  unfoldable pub further : (number : ℕ) → Reader Expressions
  further zero = return no_expressions
  further (suc n) = do
    _ ← the K.COMMA
    e ← r.expression LOOSEST
    es ← further n
    return (and_expression e es)

  -- VEC constant
  unfoldable pub vector : Name → Reader (Locals → Locals)
  vector n = do
    _ ← the K.VEC
    c ← r.constant
    return (T.vector n c)

  -- expression {, expression}, as many as names
  unfoldable pub values : (first : Name) (more : List Name) → Reader (Locals → Locals)
  values n ns = do
    e ← r.expression LOOSEST
    es ← further (length ns)
    return (T.values (n ∷ ns) (and_expression e es))

  -- what a local declaration gives its names. VEC stands only after one name
  unfoldable pub given : (first : Name) (more : List Name) → Reader (Locals → Locals)
  given n [] s at = cond (is K.VEC s at) (vector n s at) (values n [] s at)
  given n (m ∷ ns) s at = values n (m ∷ ns) s at

  unfoldable pub further_name : Reader (List Name → List Name)
  further_name = do
    n ← a_name
    return (n ∷◌)

  -- LET ( name = VEC constant | name {, name} = expression {, expression} ) [;]
  unfoldable pub local : Reader (Locals → Locals)
  local = do
    _ ← the K.LET
    n ← a_name
    ns ← further_items [] further_name
    _ ← the K.EQUAL
    put ← given n ns
    _ ← optional K.SEMICOLON
    return put

  unfoldable pub semicolon_end : Reader Commands
  semicolon_end = do
    _ ← the K.SEMICOLON
    _ ← the K.END
    return no_commands

  -- [ command { ; command } ] [;] $)
  unfoldable pub commands_to_end : Reader Commands
  commands_to_end s at =
      cond (is K.END s at) (ok no_commands (at + 1))
      (cond (is K.SEMICOLON s at) (semicolon_end s at)
      (items no_commands listed s at))

  -- $( { LET local [;] } [ command { ; command } ] [;] $)
  unfoldable pub block : Reader Unlabelled
  block = do
    _ ← the K.BEGIN
    ls ← many no_locals (λ kind. eqb kind K.LET) local
    cs ← commands_to_end
    return (T.block ls cs)

  unfoldable pub further_side : Reader (Expressions → Expressions)
  further_side = do
    e ← r.expression LOOSEST
    return (and_expression e)

  -- {, expression} := expression {, expression}, after the first expression; as many right as left
  unfoldable pub assignment : Expression → Reader Unlabelled
  assignment e = do
    es ← further_items no_expressions further_side
    _ ← the K.ASSIGN
    d ← r.expression LOOSEST
    ds ← further (count es)
    return (T.assignment (and_expression e es) (and_expression d ds))

  -- a call is the outermost form of an unbracketed expression
  unfoldable pub call_command : Expression → Reader Unlabelled
  call_command e s at = cond (is_call e) (ok (T.call_command e) at) (unexpected s at)

  unfoldable pub after_expression : Expression → Reader Unlabelled
  after_expression e s at = cond (goes_on_assignment (kind_at s at)) (assignment e s at) (call_command e s at)

  unfoldable pub assignment_or_call : Reader Unlabelled
  assignment_or_call = do
    e ← r.expression LOOSEST
    after_expression e

  -- a command without its labels and REPEAT forms, by its first symbol
  unfoldable pub unlabelled : Reader Unlabelled
  unlabelled s at =
      cond (is K.TEST s at) (test s at)
      (cond (is_guard (kind_at s at)) (guarded s at)
      (cond (is K.FOR s at) (for s at)
      (cond (is K.SWITCHON s at) (switchon s at)
      (cond (is K.RESULTIS s at) (resultis s at)
      (cond (is_leave (kind_at s at)) (leave s at)
      (cond (is K.BEGIN s at) (block s at)
      (assignment_or_call s at)))))))

  -- REPEAT
  unfoldable pub repeat : Reader (Repeats → Repeats)
  repeat = do
    _ ← the K.REPEAT
    return T.repeat

  -- REPEATWHILE expression | REPEATUNTIL expression
  unfoldable pub repeat_on : Reader (Repeats → Repeats)
  repeat_on = do
    x ← any
    e ← r.expression LOOSEST
    return (T.repeat_on x.kind e)

  unfoldable pub repeat_form : Reader (Repeats → Repeats)
  repeat_form s at = cond (is K.REPEAT s at) (repeat s at) (repeat_on s at)

  -- unlabelled { REPEAT form }, after the labels. REPEAT forms take the smallest command before them
  unfoldable pub repeated : List Label → Reader Command
  repeated ls = do
    u ← unlabelled
    rs ← many no_repeats is_repeat repeat_form
    return (T.command ls u rs)

-- empty commands stand only after CASE or DEFAULT
unfoldable pub empty_command : List Label → Reader Command
empty_command [] s at = unexpected s at
empty_command (l ∷ ls) s at = ok (T.command (l ∷ ls) T.empty no_repeats) at

module _ (inner : Inside) where
  -- CASE constant :
  unfoldable pub case : Reader Label
  case = do
    place ← the K.CASE
    c ← constant inner
    _ ← the K.COLON
    return (T.case place c)

  -- DEFAULT :
  unfoldable pub default : Reader Label
  default = do
    place ← the K.DEFAULT
    _ ← the K.COLON
    return (T.default place)

  unfoldable pub label : Reader (List Label → List Label)
  label = do
    l ← λ s at. cond (is K.CASE s at) (case s at) (default s at)
    return (l ∷◌)

  -- after labels, a symbol that can begin a command begins one
  unfoldable pub after_labels : List Label → Reader Command
  after_labels ls s at = cond (begins_command (kind_at s at)) (opening inner (λ r. repeated r ls) s at) (empty_command ls s at)

  -- { CASE constant : | DEFAULT : } ( unlabelled { REPEAT form } | empty )
  unfoldable pub command : Reader Command
  command = do
    ls ← many [] is_label label
    after_labels ls
