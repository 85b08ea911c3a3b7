-- The canonical text of items: what a lister and the compiler write.
use Rattle.std.specs.Prelude.{ℕ, zero, suc, ◌+◌, ◌/◌, ◌%◌, Bool, true, false, cond, ◌&&◌, List, [], ◌∷◌, ◌++◌, get_or, eqb, leb, ltb}
use Rattle.items.specs.Item.{Operand, number, address, Base, none, P, G, Item, label, instruction, constant, string, global}

-- the last digit after those of n / 10; fuel above n is enough
unfoldable pub numeral : (fuel n : ℕ) → List ℕ
numeral zero n = []
numeral (suc k) n = cond (ltb n 10) ((48 + n) ∷ []) (numeral k (n / 10) ++ ((48 + n % 10) ∷ []))

unfoldable pub numeral_of : ℕ → List ℕ
numeral_of n = numeral (suc n) n

unfoldable pub operand_text : Operand → List ℕ
operand_text (number true size) = 45 ∷ numeral_of size
operand_text (number false size) = numeral_of size
operand_text (address n) = 76 ∷ numeral_of n

unfoldable pub base_text : Base → List ℕ
base_text none = []
base_text P = 80 ∷ []
base_text G = 71 ∷ []

unfoldable pub indirect_text : Bool → List ℕ
indirect_text true = 73 ∷ []
indirect_text false = []

-- L S A J T F K X
unfoldable pub letter : ℕ → ℕ
letter f = get_or (76 ∷ 83 ∷ 65 ∷ 74 ∷ 84 ∷ 70 ∷ 75 ∷ 88 ∷ []) f 0

-- a character that has no escape of its own: as it stands from 32 to 126, else by its number
unfoldable pub plain_text : ℕ → List ℕ
plain_text c = cond (leb 32 c && leb c 126) (c ∷ []) (42 ∷ (48 + c / 100) ∷ (48 + c / 10 % 10) ∷ (48 + c % 10) ∷ [])

-- a character of a string, by its escape where it needs one
unfoldable pub character_text : ℕ → List ℕ
character_text c =
    cond (eqb c 10) (42 ∷ 78 ∷ [])
    (cond (eqb c 9) (42 ∷ 84 ∷ [])
    (cond (eqb c 8) (42 ∷ 66 ∷ [])
    (cond (eqb c 12) (42 ∷ 80 ∷ [])
    (cond (eqb c 13) (42 ∷ 67 ∷ [])
    (cond (eqb c 42) (42 ∷ 42 ∷ [])
    (cond (eqb c 34) (42 ∷ 34 ∷ [])
    (plain_text c)))))))

unfoldable pub characters_text : List ℕ → List ℕ
characters_text [] = []
characters_text (c ∷ cs) = character_text c ++ characters_text cs

unfoldable pub render : Item → List ℕ
render (label n) = numeral_of n ++ (58 ∷ [])
render (instruction f i b x) = letter f ∷ (indirect_text i ++ (base_text b ++ operand_text x))
render (constant x) = 68 ∷ operand_text x
render (string cs) = 67 ∷ 34 ∷ (characters_text cs ++ (34 ∷ []))
render (global n m) = 71 ∷ (numeral_of n ++ (76 ∷ numeral_of m))

-- each item on a line, and Z
unfoldable pub render_lines : List Item → List ℕ
render_lines [] = 90 ∷ 10 ∷ []
render_lines (i ∷ is) = render i ++ (10 ∷ render_lines is)

unfoldable pub render_all : List Item → List ℕ
render_all is = 36 ∷ 10 ∷ render_lines is
