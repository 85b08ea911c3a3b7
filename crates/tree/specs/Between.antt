-- What the code reads and writes between two of the grammar's forms: parts of them, and what is said of their words.
use Rattle.std.specs.Prelude.{ℕ, ◌+◌, ◌-◌, ◌<◌, ◌≡◌, Bool, cond, List, [], ◌∷◌, ◌++◌, length, take, eqb}
use Rattle.language.specs.Kinds as K
use Rattle.language.specs.Tree.{place_of, Name, Expression, Expressions, and_expression, count, is_call, Suffixes, ends_in_call, Unlabelled, leave}
use Rattle.language.specs.Tree.{empty, Repeats, no_repeats, Locals, Body, Item, Function, Declaration, globals, manifests, functions, Program}
use Rattle.language.specs.Binding.{RELATION, LOOSEST, is_repeat, begins_command}
use Rattle.language.specs.Expressions.{Readers, opening, numeral, quotation, truth, named, expression}
use Rattle.language.specs.Commands.{unlabelled, repeat_form}
use Rattle.language.specs.Grammar.{within, readers, function, and_function, item as item_of}
use Rattle.tree.specs.Encoding.{closed, item, encode, encode_name, encode_names, body_word, encode_program, encode_expressions, encode_suffixes}
use Rattle.tree.specs.Encoding.{encode_unlabelled, encode_repeats, encode_locals, encode_body, repeated}
use Rattle.language.specs.Reader.{ok, Reader, ◌>>=◌, return, is, unexpected, any, the, a_name, many, items, kind_at}
use Rattle.tree.specs.declared.scratch.State.{State}
use Rattle.tree.specs.declared.scratch.State.TheVariants.{Read}

-- the binding of the right operands: those of a shift are sums
unfoldable pub right_of : (binding : ℕ) → ℕ
right_of binding = cond (eqb binding 4) 2 (binding - 1)

-- how many operations may follow the first, of n symbols
unfoldable pub further_most : (binding n : ℕ) → ℕ
further_most binding n = cond (eqb binding RELATION) 0 (n - 1)

-- number | string | TRUE | FALSE | name
unfoldable pub atomic : Reader Expression
atomic s at =
    cond (is K.NUMBER s at) (numeral s at)
    (cond (is K.STRING s at) (quotation s at)
    (cond (is K.TRUE s at) (truth 65535 s at)
    (cond (is K.FALSE s at) (truth 0 s at)
    (cond (is K.NAME s at) (named s at)
    (unexpected s at)))))

-- an argument
unfoldable pub an_argument : (levels : ℕ) → Reader (Expressions → Expressions)
an_argument levels = do
  e ← expression (within levels) LOOSEST
  return (and_expression e)

unfoldable pub a_further : (levels : ℕ) → Reader (Expressions → Expressions)
a_further levels = do
  _ ← the K.COMMA
  an_argument levels

-- a command and the REPEAT forms after it, as a pair
pub record Repeated : Type 0 where
  pub body : Unlabelled
  pub forms : Repeats

unfoldable pub repeated_by : Readers → Reader Repeated
repeated_by r = do
  u ← unlabelled r
  rs ← many no_repeats is_repeat (repeat_form r)
  return (record { body = u; forms = rs })

unfoldable pub repeated_only : (levels : ℕ) → Reader Repeated
repeated_only levels = repeated_by (readers (within levels))

-- the same at the symbol that opens its level
unfoldable pub opened : (levels : ℕ) → Reader Repeated
opened levels = opening (within levels) repeated_by

-- the same, or after labels an empty command
unfoldable pub body_after : (labelled : Bool) → (levels : ℕ) → Reader Repeated
body_after labelled levels s at =
    cond (begins_command (kind_at s at)) (opened levels s at)
    (cond labelled (ok (record { body = empty; forms = no_repeats }) at) (unexpected s at))

unfoldable pub encode_repeated_only : Repeated → List ℕ
encode_repeated_only c = repeated (encode_unlabelled c.body) (encode_repeats c.forms)

-- BREAK | LOOP | ENDCASE | RETURN | FINISH
unfoldable pub leaving : Reader Unlabelled
leaving = do
  x ← any
  return (leave x.kind x.place)

-- , name
unfoldable pub a_further_name : Reader (List Name → List Name)
a_further_name = do
  _ ← the K.COMMA
  n ← a_name
  return (n ∷◌)

-- a suffix that is a call or is not, and the suffixes after another: whether the last of all is a call, where `before` says so of
-- the one before them
pub record PrependsSuffix (call : Bool) (put : Suffixes → Suffixes) (words : List ℕ) : Type 0 where
  pub puts : (rest : Suffixes) → encode_suffixes (put rest) ≡ words ++ encode_suffixes rest
  pub some : 0 < length words
  pub ends : (b : Bool) (rest : Suffixes) → ends_in_call b (put rest) ≡ ends_in_call call rest

pub record Ended (before last : Bool) (ss : Suffixes) (words : List ℕ) : Type 0 where
  pub same : words ≡ encode_suffixes ss
  pub ends : ends_in_call before ss ≡ last

-- an expression of a list, and a list's expressions: how many they are
pub record PrependsOne (put : Expressions → Expressions) (words : List ℕ) : Type 0 where
  pub puts : (rest : Expressions) → encode_expressions (put rest) ≡ words ++ encode_expressions rest
  pub one : (rest : Expressions) → count (put rest) ≡ count rest + 1

pub record Counted (number : ℕ) (es : Expressions) (words : List ℕ) : Type 0 where
  pub same : words ≡ encode_expressions es
  pub many : count es ≡ number

-- whether the expression that is read last is a call
pub record CallHere (s : List ℕ) (r : State) (call : Bool) : Type 0 where
  pub here : (at free : ℕ) (before : List ℕ) (e : Expression) → r ≡ Read at free → take free s ≡ before ++ encode e → call ≡ is_call e

-- the place of the expression that is read last
pub record PlaceHere (s : List ℕ) (r : State) (place : ℕ) : Type 0 where
  pub here : (at free : ℕ) (before : List ℕ) (e : Expression) → r ≡ Read at free → take free s ≡ before ++ encode e → place ≡ place_of e

-- the words of an assignment after its first side, and of a local after its names
pub record After (e : Expression) (u : Unlabelled) (words : List ℕ) : Type 0 where
  pub same : encode_unlabelled u ≡ encode e ++ words

pub record Gives (names : List Name) (put : Locals → Locals) (words : List ℕ) : Type 0 where
  pub puts : (rest : Locals) → encode_locals (put rest) ≡ item K.LET (encode_names names ++ words) ++ encode_locals rest

-- the words of a function after its name and its parameters
pub record Bodies (name : Name) (parameters : List Name) (b : Body) (words : List ℕ) : Type 0 where
  pub same :
      closed (encode_name name ++ (encode_names parameters ++ encode_body b)) (length (encode_names parameters)) 0 (body_word b)
      ≡ encode_name name ++ (encode_names parameters ++ words)

-- $( item { ; item } [;] $)
unfoldable pub item_list : (sign : ℕ) → Reader (List Item)
item_list sign = do
  _ ← the K.BEGIN
  items [] (item_of sign)

-- function { AND function }
unfoldable pub function_list : Reader (List Function)
function_list = do
  put ← function
  fs ← many [] (λ kind. eqb kind K.AND) and_function
  return (put fs)

-- what stands after a declaration's word
unfoldable pub globals_after : Reader Declaration
globals_after = do
  xs ← item_list K.COLON
  return (globals xs)

unfoldable pub manifests_after : Reader Declaration
manifests_after = do
  xs ← item_list K.EQUAL
  return (manifests xs)

unfoldable pub functions_after : Reader Declaration
functions_after = do
  fs ← function_list
  return (functions fs)

unfoldable pub declaration_after : (kind : ℕ) → Reader Declaration
declaration_after kind s at =
    cond (eqb kind K.GLOBAL) (globals_after s at)
    (cond (eqb kind K.MANIFEST) (manifests_after s at)
    (functions_after s at))

-- a declaration's words stand in an item whose tag is its word
pub record Declares (kind : ℕ) (d : Declaration) (words : List ℕ) : Type 0 where
  pub same : (rest : Program) → encode_program (d ∷ rest) ≡ item kind words ++ encode_program rest
