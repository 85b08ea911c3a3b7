-- Programs (document 01, "Grammar"), and the recursion on levels.
-- A text that is refused 6 is refused at the first symbol that cannot follow those before it, and 7 at the symbol that would open a
-- 65th level, if that symbol may stand there at all; the first of these is the answer, since a reader never goes back.
use Rattle.std.specs.Prelude.{ℕ, zero, suc, cond, List, [], ◌∷◌, eqb}
use Rattle.language.specs.Kinds as K
use Rattle.language.specs.Binding.{LOOSEST, is_declaration}
use Rattle.language.specs.Tree as T
use Rattle.language.specs.Tree.{Item, Body, Function, Declaration, Program}
use Rattle.language.specs.Reader.{Source, Out, ok, Reader, ◌>>=◌, return, is, unexpected, the, optional, a_name, many, items, up_to_close}
use Rattle.language.specs.Expressions.{Readers, Inside, shut, inside, expression, constant}
use Rattle.language.specs.Commands.{command}

-- the readers for what may stand inside further levels
abbrev pub readers : Inside → Readers
readers inner = record { expression = expression inner; command = command inner; constant = constant inner }

-- what may stand inside a level, with so many levels left
unfoldable pub within : (levels : ℕ) → Inside
within zero = shut
within (suc n) = inside (readers (within n))

-- commands, brackets and expressions nest to 64 levels
abbrev pub outermost : Inside
outermost = within 64

-- name : constant, in GLOBAL; name = constant, in MANIFEST
unfoldable pub item : (sign : ℕ) → Reader (List Item → List Item)
item sign = do
  n ← a_name
  _ ← the sign
  c ← constant outermost
  return (record { name = n; constant = c } ∷◌)

-- GLOBAL $( name : constant { ; name : constant } [;] $)
unfoldable pub globals : Reader Declaration
globals = do
  _ ← the K.GLOBAL
  _ ← the K.BEGIN
  xs ← items [] (item K.COLON)
  return (T.globals xs)

-- MANIFEST $( name = constant { ; name = constant } [;] $)
unfoldable pub manifests : Reader Declaration
manifests = do
  _ ← the K.MANIFEST
  _ ← the K.BEGIN
  xs ← items [] (item K.EQUAL)
  return (T.manifests xs)

-- = expression
unfoldable pub value : Reader Body
value = do
  _ ← the K.EQUAL
  e ← expression outermost LOOSEST
  return (T.value e)

-- BE command
unfoldable pub routine : Reader Body
routine = do
  _ ← the K.BE
  c ← command outermost
  return (T.routine c)

unfoldable pub body : Reader Body
body s at = cond (is K.EQUAL s at) (value s at) (routine s at)

unfoldable pub parameter : Reader (List T.Name → List T.Name)
parameter = do
  n ← a_name
  return (n ∷◌)

-- name ( [name {, name}] ) ( = expression | BE command ). No level is open before the bracket, so it is always given its own
unfoldable pub function : Reader (List Function → List Function)
function = do
  n ← a_name
  _ ← the K.OPEN
  ps ← up_to_close [] parameter
  b ← body
  return (record { name = n; parameters = ps; body = b } ∷◌)

unfoldable pub and_function : Reader (List Function → List Function)
and_function = do
  _ ← the K.AND
  function

-- LET function { AND function }
unfoldable pub functions : Reader Declaration
functions = do
  _ ← the K.LET
  put ← function
  fs ← many [] (λ kind. eqb kind K.AND) and_function
  return (T.functions (put fs))

unfoldable pub declaration : Reader Declaration
declaration s at =
    cond (is K.GLOBAL s at) (globals s at)
    (cond (is K.MANIFEST s at) (manifests s at)
    (functions s at))

-- declaration [;]
unfoldable pub declared : Reader (Program → Program)
declared = do
  d ← declaration
  _ ← optional K.SEMICOLON
  return (d ∷◌)

-- nothing stands after the program
unfoldable pub whole : Program → Reader Program
whole p s at = cond (is K.NOTHING s at) (ok p at) (unexpected s at)

-- { declaration [;] }
unfoldable pub program : Reader Program
program = do
  p ← many [] is_declaration declared
  whole p

-- the program that a source is, or its refusal 6 or 7
unfoldable pub tree_of : Source → Out Program
tree_of s = program s 0
