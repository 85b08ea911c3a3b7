-- Resolved trees: a program with every name replaced by what it means. The source run and the code are of these.
-- Operators stand by their symbol kinds. Brackets are gone, and chains are nested: `A + B + C` is a binary form of a binary form.
use Rattle.std.specs.Prelude.{ℕ, suc, ◌+◌, Bool, true, false, cond, List, [], ◌∷◌, eqb}

-- before a command of the list after INTO
pub data CaseLabel : Type 0 where
  case : (value : ℕ) → CaseLabel
  default : CaseLabel

-- whether a number has its CASE among labels, and whether DEFAULT is there
unfoldable pub has_case : ℕ → List CaseLabel → Bool
has_case v [] = false
has_case v (case w ∷ ls) = cond (eqb v w) true (has_case v ls)
has_case v (default ∷ ls) = has_case v ls

unfoldable pub has_default : List CaseLabel → Bool
has_default [] = false
has_default (case w ∷ ls) = has_default ls
has_default (default ∷ ls) = true

-- how many numbers the labels have
unfoldable pub cases_of : List CaseLabel → ℕ
cases_of [] = 0
cases_of (case v ∷ ls) = suc (cases_of ls)
cases_of (default ∷ ls) = cases_of ls

mutual
  pub data Expr : Type 0 where
    -- a number, character, TRUE, FALSE or manifest name
    constant : (value : ℕ) → Expr
    local : (offset : ℕ) → Expr
    global : (number : ℕ) → Expr
    -- a function's entry, and the address of a string, by their positions in the text
    function : (position : ℕ) → Expr
    string : (position : ℕ) → Expr
    -- @ of a name; of !e, which is e; and of a!b
    address_of_local : (offset : ℕ) → Expr
    address_of_global : (number : ℕ) → Expr
    address_of_contents : Expr → Expr
    address_of_index : Expr → Expr → Expr
    -- !e and a!b
    contents : Expr → Expr
    index : Expr → Expr → Expr
    -- + - NOT before an operand, and between two
    unary : (operator : ℕ) → Expr → Expr
    binary : (operator : ℕ) → Expr → Expr → Expr
    call : (callee : Expr) (arguments : Exprs) → Expr
    valof : Cmd → Expr

  pub data Exprs : Type 0 where
    none : Exprs
    and : Expr → Exprs → Exprs

  -- a left side: a local, a global, !e or a!b
  pub data Target : Type 0 where
    to_local : (offset : ℕ) → Target
    to_global : (number : ℕ) → Target
    to_contents : Expr → Target
    to_index : Expr → Expr → Target

  -- left sides with their right sides
  pub data Pairs : Type 0 where
    no_pairs : Pairs
    pair : Target → Expr → Pairs → Pairs

  pub data Cmd : Type 0 where
    empty : Cmd
    assign : Pairs → Cmd
    -- a call whose value, if it has one, is dropped
    perform : (call : Expr) → Cmd
    test : Expr → (then or : Cmd) → Cmd
    -- IF runs its command where the value is true, UNLESS where it is false; so WHILE and UNTIL, REPEATWHILE and REPEATUNTIL
    when : (sense : Bool) → Expr → Cmd → Cmd
    while : (sense : Bool) → Expr → Cmd → Cmd
    repeat : Cmd → Cmd
    repeat_while : (sense : Bool) → Cmd → Expr → Cmd
    for : (first limit : Expr) (by : ℕ) → Cmd → Cmd
    switch : Expr → Cases → Cmd
    resultis : Expr → Cmd
    break loop endcase return finish : Cmd
    block : Locals → Cmds → Cmd

  pub data Cmds : Type 0 where
    no_cmds : Cmds
    and_cmd : Cmd → Cmds → Cmds

  pub data Cases : Type 0 where
    no_cases : Cases
    cases : List CaseLabel → Cmd → Cases → Cases

  -- one name after another: a vector's, with its constant, or one with its first value
  pub data Locals : Type 0 where
    no_locals : Locals
    vector : (size : ℕ) → Locals → Locals
    value : Expr → Locals → Locals

-- how many numbers all the labels of a list after INTO have
unfoldable pub case_count : Cases → ℕ
case_count no_cases = 0
case_count (cases ls c cs) = cases_of ls + case_count cs

pub data Body : Type 0 where
  expression : Expr → Body
  routine : Cmd → Body

-- a function, with the global in whose word it starts, if its name is one
pub data Start : Type 0 where
  nowhere : Start
  in_global : (number : ℕ) → Start

pub record Fun : Type 0 where
  pub parameters : ℕ
  pub body : Body
  pub start : Start
