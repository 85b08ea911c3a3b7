-- Trees: what the grammar reads (document 01, "Grammar").
-- Operators and words stand by their symbol kinds. Chains and lists are lists, not nests: the operators of one binding level
-- with their operands, grouping left; what follows a primary; arguments; commands; REPEAT forms. So a tree is no deeper than a
-- small multiple of its levels. Every list that holds expressions or commands has a type of its own here.
-- A tree has the places that refusals 8 to 16 need: an expression's first symbol (`place_of`, brackets included), a constant's,
-- a label's word, a name, and the words that leave something.
use Rattle.std.specs.Prelude.{ℕ, suc, Bool, true, false, List}
use Rattle.std.proofs.Math.Option.{Option}

-- a name: where it stands and how many bytes it has. Names are compared by their bytes in the text
pub record Name : Type 0 where
  pub place : ℕ
  pub width : ℕ

-- a constant: a number, TRUE, FALSE, a manifest name, or one of these negated. TRUE is the number 65535, FALSE 0.
-- Its place is that of its first symbol
pub data Simple : Type 0 where
  literal : (value : ℕ) → Simple
  known : Name → Simple

pub record Constant : Type 0 where
  pub place : ℕ
  pub minus : Bool
  pub simple : Simple

-- CASE with its constant, or DEFAULT, before a command; with the word's place
pub data Label : Type 0 where
  case : (place : ℕ) → Constant → Label
  default : (place : ℕ) → Label

mutual
  pub data Expression : Type 0 where
    -- a number, a character, TRUE or FALSE
    number : (place value : ℕ) → Expression
    -- a string, by its position among the text's strings
    string : (place position : ℕ) → Expression
    name : Name → Expression
    -- an expression in round brackets
    bracketed : (place : ℕ) → Expression → Expression
    valof : (place : ℕ) → Command → Expression
    -- ! @ + - or NOT before its operand
    monadic : (place operator : ℕ) → Expression → Expression
    -- a primary and what follows it
    suffixed : Expression → Suffixes → Expression
    -- operators of one binding level: the first operand, then operators with their right operands
    dyadic : Expression → Operations → Expression

  pub data Expressions : Type 0 where
    no_expressions : Expressions
    and_expression : Expression → Expressions → Expressions

  -- calls, with their arguments, and dyadic !, in the order of the text: the last one is the outermost
  pub data Suffixes : Type 0 where
    no_suffixes : Suffixes
    call : Expressions → Suffixes → Suffixes
    index : Expression → Suffixes → Suffixes

  pub data Operations : Type 0 where
    no_operations : Operations
    operation : (operator : ℕ) → Expression → Operations → Operations

  -- a command with its labels before it and the REPEAT forms after it
  pub data Command : Type 0 where
    command : List Label → Unlabelled → Repeats → Command

  pub data Commands : Type 0 where
    no_commands : Commands
    and_command : Command → Commands → Commands

  pub data Unlabelled : Type 0 where
    -- an empty command, after labels only
    empty : Unlabelled
    -- as many right sides as left sides
    assignment : (left right : Expressions) → Unlabelled
    -- an expression whose outermost form is a call
    call_command : Expression → Unlabelled
    test : Expression → (then or : Command) → Unlabelled
    -- IF, UNLESS, WHILE or UNTIL
    guarded : (word : ℕ) → Expression → Command → Unlabelled
    for : Name → (first limit : Expression) → (by : Option Constant) → Command → Unlabelled
    switchon : Expression → Commands → Unlabelled
    resultis : (place : ℕ) → Expression → Unlabelled
    -- BREAK, LOOP, ENDCASE, RETURN or FINISH
    leave : (word place : ℕ) → Unlabelled
    block : Locals → Commands → Unlabelled

  pub data Repeats : Type 0 where
    no_repeats : Repeats
    repeat : Repeats → Repeats
    -- REPEATWHILE or REPEATUNTIL
    repeat_on : (word : ℕ) → Expression → Repeats → Repeats

  -- the LET declarations at the head of a block
  pub data Locals : Type 0 where
    no_locals : Locals
    vector : Name → Constant → Locals → Locals
    -- as many values as names
    values : List Name → Expressions → Locals → Locals

-- a function gives the value of an expression, a routine (BE) runs a command
pub data Body : Type 0 where
  value : Expression → Body
  routine : Command → Body

pub record Function : Type 0 where
  pub name : Name
  pub parameters : List Name
  pub body : Body

-- a name with its constant
pub record Item : Type 0 where
  pub name : Name
  pub constant : Constant

pub data Declaration : Type 0 where
  globals : List Item → Declaration
  manifests : List Item → Declaration
  -- the functions that LET and AND join
  functions : List Function → Declaration

abbrev pub Program : Type 0
Program = List Declaration

-- the place of an expression's first symbol
unfoldable pub place_of : Expression → ℕ
place_of (number place v) = place
place_of (string place n) = place
place_of (name n) = n.place
place_of (bracketed place e) = place
place_of (valof place c) = place
place_of (monadic place o e) = place
place_of (suffixed e ss) = place_of e
place_of (dyadic e os) = place_of e

-- a primary or an operand with nothing after it stands for itself
unfoldable pub with_suffixes : Expression → Suffixes → Expression
with_suffixes e no_suffixes = e
with_suffixes e (call es ss) = suffixed e (call es ss)
with_suffixes e (index d ss) = suffixed e (index d ss)

unfoldable pub with_operations : Expression → Operations → Expression
with_operations e no_operations = e
with_operations e (operation o d os) = dyadic e (operation o d os)

-- whether an expression's outermost form is a call: the last thing that follows its primary
unfoldable pub ends_in_call : (sofar : Bool) → Suffixes → Bool
ends_in_call b no_suffixes = b
ends_in_call b (call es ss) = ends_in_call true ss
ends_in_call b (index e ss) = ends_in_call false ss

unfoldable pub is_call : Expression → Bool
is_call (number place v) = false
is_call (string place n) = false
is_call (name n) = false
is_call (bracketed place e) = false
is_call (valof place c) = false
is_call (monadic place o e) = false
is_call (suffixed e ss) = ends_in_call false ss
is_call (dyadic e os) = false

unfoldable pub count : Expressions → ℕ
count no_expressions = 0
count (and_expression e es) = suc (count es)
