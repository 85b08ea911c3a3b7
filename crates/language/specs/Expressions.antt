-- Expressions and constants (document 01, "Grammar").
-- Each definition reads one form, and the form stands in the comment before it: { } for any number, [ ] for at most one, | for a
-- choice.
--
-- Levels. A command, a round bracket, VALOF, a monadic operator and NOT each open a level, and commands, brackets and expressions
-- nest to 64 levels in all. What stands inside a level is read by the readers for one level less. `Inside` has them, or says
-- that no level is left: then what would open one is refused 7 at its first symbol. Nothing else makes the grammar go round in a
-- circle, so the only recursion on it is `within` in Grammar, on the number of levels left.
use Rattle.std.specs.Prelude.{ℕ, true, false, cond, [], ◌∷◌, length, get_or, eqb}
use Rattle.language.specs.Kinds as K
use Rattle.language.specs.Binding.{binding_of, RELATION, LOOSEST, is_monadic, reach_of, is_suffix}
use Rattle.language.specs.Tree as T
use Rattle.language.specs.Tree.{Simple, Constant, Expression, no_expressions, and_expression, Suffixes, no_suffixes, Operations, no_operations}
use Rattle.language.specs.Tree.{Command, with_suffixes, with_operations}
use Rattle.language.specs.Reader.{Source, no, Reader, ◌>>=◌, return, kind_at, is, unexpected, any, here, the, a_name, many_up_to, many, up_to_close}

-- the readers at some number of levels left: of expressions, by the loosest binding that their operators may have, of commands and
-- of constants
pub record Readers : Type 0 where
  pub expression : (binding : ℕ) → Reader Expression
  pub command : Reader Command
  pub constant : Reader Constant

-- what may stand one level further in: nothing, or what these read
pub data Inside : Type 0 where
  shut : Inside
  inside : Readers → Inside

-- a form whose first symbol, which stands here, opens a level
unfoldable pub opening : {A : Type 0} → Inside → (Readers → Reader A) → Reader A
opening shut form s at = no 7 at
opening (inside r) form s at = form r s at

unfoldable pub numeral : Reader Expression
numeral = do
  x ← any
  return (T.number x.place x.value)

-- TRUE, which is 65535, or FALSE, which is 0
unfoldable pub truth : (value : ℕ) → Reader Expression
truth value = do
  x ← any
  return (T.number x.place value)

unfoldable pub quotation : Reader Expression
quotation = do
  x ← any
  return (T.string x.place x.value)

unfoldable pub named : Reader Expression
named = do
  n ← a_name
  return (T.name n)

-- ---- operators of one binding with their operands

-- operator operand
unfoldable pub operation : Reader Expression → Reader (Operations → Operations)
operation right = do
  x ← any
  e ← right
  return (T.operation x.kind e)

-- { operator operand }, for the operators of one binding. There is at most one relation
unfoldable pub most_of : (binding : ℕ) → Source → ℕ
most_of binding s = cond (eqb binding RELATION) 1 (length s.symbols)

unfoldable pub operations : (binding : ℕ) → Reader Expression → Reader Operations
operations binding right s at =
    many_up_to (most_of binding s) no_operations (λ kind. eqb (binding_of kind) binding) (operation right) s at

-- operand { operator operand }
unfoldable pub chain : (binding : ℕ) → (left right : Reader Expression) → Reader Expression
chain binding left right = do
  e ← left
  os ← operations binding right
  return (with_operations e os)

-- ---- expressions, inside so many levels

module _ (inner : Inside) where
  -- ( expression )
  unfoldable pub bracketed : Reader Expression
  bracketed =
      opening inner (λ r. do
        place ← the K.OPEN
        e ← r.expression LOOSEST
        _ ← the K.CLOSE
        return (T.bracketed place e))

  -- VALOF command
  unfoldable pub valof : Reader Expression
  valof =
      opening inner (λ r. do
        place ← the K.VALOF
        c ← r.command
        return (T.valof place c))

  -- number | string | TRUE | FALSE | name | ( expression ) | VALOF command
  unfoldable pub primary : Reader Expression
  primary s at =
      cond (is K.NUMBER s at) (numeral s at)
      (cond (is K.STRING s at) (quotation s at)
      (cond (is K.TRUE s at) (truth 65535 s at)
      (cond (is K.FALSE s at) (truth 0 s at)
      (cond (is K.NAME s at) (named s at)
      (cond (is K.OPEN s at) (bracketed s at)
      (cond (is K.VALOF s at) (valof s at)
      (unexpected s at)))))))

  -- ! @ + - or NOT, and its operand, which reaches as far as the operator's own binding lets it
  unfoldable pub monadic : Reader Expression
  monadic =
      opening inner (λ r. do
        x ← any
        e ← r.expression (reach_of x.kind)
        return (T.monadic x.place x.kind e))

  -- ( [expression {, expression}] ), after what is called
  unfoldable pub arguments : Reader (Suffixes → Suffixes)
  arguments =
      opening inner (λ r. do
        _ ← the K.OPEN
        es ← up_to_close no_expressions (do e ← r.expression LOOSEST; return (and_expression e))
        return (T.call es))

  -- a monadic operator may begin any operand, that of dyadic ! too
  unfoldable pub subscript : Reader Expression
  subscript s at = cond (is_monadic (kind_at s at)) (monadic s at) (primary s at)

  -- ! primary
  unfoldable pub index : Reader (Suffixes → Suffixes)
  index = do
    _ ← the K.PLING
    e ← subscript
    return (T.index e)

  unfoldable pub suffix : Reader (Suffixes → Suffixes)
  suffix s at = cond (is K.OPEN s at) (arguments s at) (index s at)

  -- primary { ( arguments ) | ! primary }
  unfoldable pub suffixed : Reader Expression
  suffixed = do
    e ← primary
    ss ← many no_suffixes is_suffix suffix
    return (with_suffixes e ss)

  -- an operand of the dyadic operators that bind tightest
  unfoldable pub operand : Reader Expression
  operand s at = cond (is_monadic (kind_at s at)) (monadic s at) (suffixed s at)

  unfoldable pub products : Reader Expression
  products = chain 1 operand operand

  unfoldable pub sums : Reader Expression
  sums = chain 2 products products

  unfoldable pub relations : Reader Expression
  relations = chain 3 sums sums

  -- the right operand of a shift is arithmetic
  unfoldable pub shifts : Reader Expression
  shifts = chain 4 relations sums

  -- NOT and a shift expression, or a shift expression: after NOT's operand only & and | can follow
  unfoldable pub negations : Reader Expression
  negations s at = cond (is K.NOT s at) (monadic s at) (shifts s at)

  unfoldable pub conjunctions : Reader Expression
  conjunctions = chain 6 negations negations

  unfoldable pub disjunctions : Reader Expression
  disjunctions = chain 7 conjunctions conjunctions

  -- an expression whose dyadic operators bind no more loosely than that
  unfoldable pub expression : (binding : ℕ) → Reader Expression
  expression binding =
      get_or (operand ∷ products ∷ sums ∷ relations ∷ shifts ∷ negations ∷ conjunctions ∷ []) binding disjunctions

-- Constants. number | TRUE | FALSE | name
unfoldable pub literal : Reader Simple
literal = do
  x ← any
  return (T.literal x.value)

unfoldable pub truth_literal : (value : ℕ) → Reader Simple
truth_literal value = do
  _ ← any
  return (T.literal value)

unfoldable pub known : Reader Simple
known = do
  n ← a_name
  return (T.known n)

unfoldable pub simple : Reader Simple
simple s at =
    cond (is K.NUMBER s at) (literal s at)
    (cond (is K.TRUE s at) (truth_literal 65535 s at)
    (cond (is K.FALSE s at) (truth_literal 0 s at)
    (known s at)))

unfoldable pub positive : Reader Constant
positive = do
  place ← here
  x ← simple
  return (record { place = place; minus = false; simple = x })

module _ (inner : Inside) where
  -- a constant's minus opens a level too
  unfoldable pub negative : Reader Constant
  negative =
      opening inner (λ _. do
        place ← the K.MINUS
        x ← simple
        return (record { place = place; minus = true; simple = x }))

  -- [-] ( number | TRUE | FALSE | name )
  unfoldable pub constant : Reader Constant
  constant s at = cond (is K.MINUS s at) (negative s at) (positive s at)
