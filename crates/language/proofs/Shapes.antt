-- How the expression of a text groups, for the examples.
use Rattle.laws.proofs.Basics.{ℕ, List, [], ◌∷◌, take, drop}
use Prim.Native.String.{String, ◌++◌}
use Rattle.text.specs.Written.{bytes}
use Rattle.language.specs.Kinds.{PLING}
use Rattle.language.specs.Tree as T
use Rattle.language.specs.Tree.{Expression, Expressions, Suffixes, Operations, Declaration, Function, Body, Program}
use Rattle.language.specs.Source.{Read, read, refused}
use Rattle.language.proofs.Texts.{program_in}

-- How an expression groups: without its places and brackets, dyadic operators with two operands each
mutual
  pub data Shape : Type 0 where
    named : (spelling : List ℕ) → Shape
    number : ℕ → Shape
    string : ℕ → Shape
    value_of_command : Shape
    one : (operator : ℕ) → Shape → Shape
    two : (operator : ℕ) → Shape → Shape → Shape
    called : Shape → Shapes → Shape

  pub data Shapes : Type 0 where
    none : Shapes
    and : Shape → Shapes → Shapes

module _ (text : List ℕ) where
  unfoldable mutual
    pub shape : Expression → Shape
    shape (T.number place v) = number v
    shape (T.string place n) = string n
    shape (T.name n) = named (take n.width (drop n.place text))
    shape (T.bracketed place e) = shape e
    shape (T.valof place c) = value_of_command
    shape (T.monadic place o e) = one o (shape e)
    shape (T.suffixed e ss) = with_each ss (shape e)
    shape (T.dyadic e os) = with_all os (shape e)

    pub shapes : Expressions → Shapes
    shapes T.no_expressions = none
    shapes (T.and_expression e es) = and (shape e) (shapes es)

    pub with_each : Suffixes → Shape → Shape
    with_each T.no_suffixes x = x
    with_each (T.call es ss) x = with_each ss (called x (shapes es))
    with_each (T.index e ss) x = with_each ss (two PLING x (shape e))

    pub with_all : Operations → Shape → Shape
    with_all T.no_operations x = x
    with_all (T.operation o e os) x = with_all os (two o x (shape e))

  -- of a program that is one function with a value
  abbrev pub body_shape : Body → Shape
  body_shape (T.value e) = shape e
  body_shape (T.routine c) = value_of_command

  abbrev pub function_shape : List Function → Shape
  function_shape [] = value_of_command
  function_shape (f ∷ fs) = body_shape f.body

  abbrev pub declaration_shape : Declaration → Shape
  declaration_shape (T.globals xs) = value_of_command
  declaration_shape (T.manifests xs) = value_of_command
  declaration_shape (T.functions fs) = function_shape fs

  abbrev pub program_shape : Program → Shape
  program_shape [] = value_of_command
  program_shape (d ∷ ds) = declaration_shape d

  abbrev pub read_shape : Read → Shape
  read_shape (read p) = program_shape p
  read_shape (refused n place) = value_of_command

-- the shape of an expression, as the body of a function
unfoldable pub grouped : String → Shape
unfolding program_in shape
grouped text = read_shape (bytes ("LET F()=" ++ text)) (program_in ("LET F()=" ++ text))
