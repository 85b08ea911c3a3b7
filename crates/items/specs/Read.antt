-- Reading one item at the head of some bytes.
use Rattle.std.specs.Prelude.{ℕ, suc, Bool, true, false, cond, List, [], ◌∷◌, drop, eqb, ltb}
use Rattle.text.specs.Quoted.{Quoted, closed, unclosed, faulty, quoted}
use Rattle.items.specs.Item.{Operand, number, address, Base, none, P, G, Item, label, instruction, constant, string, global}
use Rattle.items.specs.Reader.{Got, got, nothing, Reader, wide, ◌>>=◌, return, head, byte, optional, is_digit, decimal}

-- an item ends at a blank, a newline, a comment or the end (256, as `head` has it)
unfoldable pub ended : Reader Bool
ended bytes =
    cond (eqb (head bytes) 32) (got true 0)
    (cond (eqb (head bytes) 10) (got true 0)
    (cond (eqb (head bytes) 47) (got true 0)
    (cond (eqb (head bytes) 256) (got true 0) nothing)))

-- one character between single quotes, not none and at most one, from past the first quote on
abbrev pub as_character : Quoted → Got Operand
as_character (closed [] n) = nothing
as_character (closed (c ∷ cs) n) = got (number false c) n
as_character unclosed = nothing
as_character (faulty k n) = nothing

unfoldable pub quoted_character : Reader Operand
quoted_character bytes = as_character (quoted 39 1 0 bytes)

-- at most 255 characters between double quotes, from past the first quote on
abbrev pub as_string : Quoted → Got Item
as_string (closed cs n) = got (string cs) n
as_string unclosed = nothing
as_string (faulty k n) = nothing

unfoldable pub quoted_string : Reader Item
quoted_string bytes = as_string (quoted 34 255 0 bytes)

-- a decimal (- allowed), a quoted character, or L and a label
unfoldable pub negative : Reader Operand
negative = do
  _ ← byte 45
  n ← decimal
  return (number true n)

unfoldable pub quotation : Reader Operand
quotation = do
  _ ← byte 39
  quoted_character

unfoldable pub labelled : Reader Operand
labelled = do
  _ ← byte 76
  n ← decimal
  return (address n)

unfoldable pub positive : Reader Operand
positive = do
  n ← decimal
  return (number false n)

unfoldable pub operand : Reader Operand
operand bytes =
    cond (eqb (head bytes) 45) (negative bytes)
    (cond (eqb (head bytes) 39) (quotation bytes)
    (cond (eqb (head bytes) 76) (labelled bytes)
    (positive bytes)))

-- P or G if any
unfoldable pub base : Reader Base
base bytes =
    cond (eqb (head bytes) 80) (got P 1)
    (cond (eqb (head bytes) 71) (got G 1)
    (got none 0))

-- n:
unfoldable pub label_item : Reader Item
label_item = do
  n ← decimal
  _ ← byte 58
  return (label n)

-- what follows a function's letter
unfoldable pub instruction_item : ℕ → Reader Item
instruction_item f = do
  i ← optional 73
  b ← base
  x ← operand
  _ ← ended
  return (instruction f i b x)

-- what follows D
unfoldable pub constant_item : Reader Item
constant_item = do
  x ← operand
  _ ← ended
  return (constant x)

-- what follows C
unfoldable pub string_item : Reader Item
string_item = do
  _ ← byte 34
  s ← quoted_string
  _ ← ended
  return s

-- what follows G
unfoldable pub global_item : Reader Item
global_item = do
  n ← decimal
  _ ← byte 76
  m ← decimal
  _ ← ended
  return (global n m)

-- the functions' letters, L S A J T F K X, by number; 8 for any other byte
abbrev pub index_of : ℕ → List ℕ → ℕ
index_of c [] = 0
index_of c (d ∷ r) = cond (eqb c d) 0 (suc (index_of c r))

unfoldable pub function_of : ℕ → ℕ
function_of c = index_of c (76 ∷ 83 ∷ 65 ∷ 74 ∷ 84 ∷ 70 ∷ 75 ∷ 88 ∷ [])

-- what follows the byte at the head
abbrev pub past : Reader Item → Reader Item
past r bytes = wide 1 (r (drop 1 bytes))

-- one item, by its first byte: a digit, D, C, G or a function's letter
unfoldable pub item : Reader Item
item bytes =
    cond (is_digit (head bytes)) (label_item bytes)
    (cond (eqb (head bytes) 68) (past constant_item bytes)
    (cond (eqb (head bytes) 67) (past string_item bytes)
    (cond (eqb (head bytes) 71) (past global_item bytes)
    (cond (ltb (function_of (head bytes)) 8) (past (instruction_item (function_of (head bytes))) bytes)
    nothing))))
