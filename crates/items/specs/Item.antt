-- The items of MINICODE text (document 01, "Assembly text").
use Rattle.std.specs.Prelude.{ℕ, min, Bool, List}

-- A number as it is written: with a minus or not, and its size. A size above 65,535 is out of range however large it is,
-- and stands as 65,536. A quoted character is its number.
pub data Operand : Type 0 where
  number : (minus : Bool) (size : ℕ) → Operand
  address : (label : ℕ) → Operand

-- what is added to an operand: nothing, P or G
pub data Base : Type 0 where
  none P G : Base

pub data Item : Type 0 where
  -- n:
  label : ℕ → Item
  -- one of LSAJTFKX by its number 0 to 7, then I if any, then P or G if any, and the operand
  instruction : (function : ℕ) (indirect : Bool) → Base → Operand → Item
  -- D and an operand: one word
  constant : Operand → Item
  -- C"..": the characters
  string : List ℕ → Item
  -- GnLm: global n holds the address of label m
  global : (n m : ℕ) → Item

-- an item and the place of its first byte
pub record Placed : Type 0 where
  pub place : ℕ
  pub item : Item

abbrev pub capped : ℕ → ℕ
capped n = min n 65536
