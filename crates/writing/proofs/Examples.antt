-- Worked examples by computation: what is written with room and without.
use Rattle.laws.proofs.Basics.{◌≡◌, refl, [], ◌∷◌, true, false}
use Rattle.items.specs.Item.{label, instruction, constant, P, number, address}
use Rattle.items.specs.Render.{render, operand_text, indirect_text, base_text, letter, numeral_of, numeral}
use Rattle.writing.specs.Text.{over, upto, line, lines}

-- 7: and LIP12 and DL305, each on a line
three : lines (label 7 ∷ instruction 0 true P (number false 12) ∷ constant (address 305) ∷ [])
    ≡ 55 ∷ 58 ∷ 10 ∷ 76 ∷ 73 ∷ 80 ∷ 49 ∷ 50 ∷ 10 ∷ 68 ∷ 76 ∷ 51 ∷ 48 ∷ 53 ∷ 10 ∷ []
unfolding lines line render operand_text indirect_text base_text letter numeral_of numeral
three = refl

-- three bytes over four leave the fourth, and the place is 3
room : over (55 ∷ 58 ∷ 10 ∷ []) (0 ∷ 0 ∷ 0 ∷ 9 ∷ []) ≡ 55 ∷ 58 ∷ 10 ∷ 9 ∷ []
unfolding over
room = refl

in-room : upto 4 3 ≡ 3
unfolding upto
in-room = refl

-- over two only two are written, and the place is the room and one, as it is for any longer text
short : over (55 ∷ 58 ∷ 10 ∷ []) (0 ∷ 0 ∷ []) ≡ 55 ∷ 58 ∷ []
unfolding over
short = refl

past_room : upto 2 3 ≡ 3
unfolding upto
past_room = refl

far-past-room : upto 2 90 ≡ 3
unfolding upto
far-past-room = refl
