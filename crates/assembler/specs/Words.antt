-- What an item means: its size, its words, and the numbers it may hold (document 01, "Machine" and "Assembly text").
use Rattle.std.specs.Prelude.{ℕ, suc, ◌+◌, ◌*◌, ◌/◌, Bool, true, false, cond, ◌&&◌, List, [], ◌∷◌, length, leb, ltb}
use Rattle.words.specs.Words.{neg}
use Rattle.text.specs.Packed.{packed}
use Rattle.items.specs.Item.{Operand, number, address, Base, none, P, G, Item, label, instruction, constant, string, global}

-- numbers -32768 to 65535, labels 1 to 32767, globals 0 to 399: any other is refused 23
abbrev pub label_in_range : ℕ → Bool
label_in_range n = leb 1 n && leb n 32767

unfoldable pub operand_in_range : Operand → Bool
operand_in_range (number true size) = leb size 32768
operand_in_range (number false size) = leb size 65535
operand_in_range (address n) = label_in_range n

unfoldable pub in_range : Item → Bool
in_range (label n) = label_in_range n
in_range (instruction f i b x) = operand_in_range x
in_range (constant x) = operand_in_range x
in_range (string cs) = true
in_range (global n m) = leb n 399 && label_in_range m

-- a number's word
abbrev pub signed : Bool → ℕ → ℕ
signed true size = neg size
signed false size = size

-- an operand 0 to 511 is short, others and all labels long
unfoldable pub short : Operand → Bool
short (number minus size) = ltb (signed minus size) 512
short (address n) = false

-- the number of program words that an item makes
unfoldable pub size : Item → ℕ
size (label n) = 0
size (instruction f i b x) = cond (short x) 1 2
size (constant x) = 1
size (string cs) = suc (length cs / 2)
size (global n m) = 0

-- I is 4096, P 2048, G 1024
abbrev pub indirect_bit : Bool → ℕ
indirect_bit true = 4096
indirect_bit false = 0

abbrev pub base_bit : Base → ℕ
base_bit none = 0
base_bit P = 2048
base_bit G = 1024

-- an item's program words, where `at` gives a label's address
module _ (at : ℕ → ℕ) where
  unfoldable pub operand_word : Operand → ℕ
  operand_word (number minus size) = signed minus size
  operand_word (address n) = at n

  -- function x 8192; D, which says that the operand is the next word, is 512
  unfoldable pub words : Item → List ℕ
  words (label n) = []
  words (instruction f i b x) =
      cond (short x)
      ((f * 8192 + indirect_bit i + base_bit b + operand_word x) ∷ [])
      ((f * 8192 + indirect_bit i + base_bit b + 512) ∷ operand_word x ∷ [])
  words (constant x) = operand_word x ∷ []
  words (string cs) = packed cs
  words (global n m) = []
