-- Constants between quotes, in source and in assembly alike (document 01: "Escapes in both", "Neither may hold a byte outside 32 to 126"; document
-- 02, Req 04: characters by number), and what is wrong with one, and where (document 02, Req 02).
use Rattle.std.specs.Prelude.{ℕ, zero, suc, ◌+◌, ◌-◌, ◌*◌, Bool, false, cond, ◌&&◌, List, [], ◌∷◌, eqb, leb}

-- a constant's faults: not closed; escape; byte; too long, or a character constant of no or several characters
abbrev pub UNCLOSED : ℕ
UNCLOSED = 40

abbrev pub ESCAPE : ℕ
ESCAPE = 41

abbrev pub BYTE : ℕ
BYTE = 42

abbrev pub LENGTH : ℕ
LENGTH = 43

-- what stands at the head of some bytes between quotes: a character, with the number of bytes that write it; the closing quote; a newline or the
-- end, where a constant ends that is not closed; or a mistake, which takes one byte, by the fault's number
pub data Character : Type 0 where
  is : (value width : ℕ) → Character
  closing : Character
  ended : Character
  mistake : (number : ℕ) → Character

-- an asterisk and exactly three decimal digits, 000 to 255, stand for that byte
abbrev pub digit : ℕ → Bool
digit c = cond (leb 48 c) (leb c 57) false

abbrev pub number_of : (a b c : ℕ) → ℕ
number_of a b c = (a - 48) * 100 + (b - 48) * 10 + (c - 48)

unfoldable pub by_digits : (a b c : ℕ) → Character
by_digits a b c = cond (digit a && (digit b && (digit c && leb (number_of a b c) 255))) (is (number_of a b c) 4) (mistake ESCAPE)

unfoldable pub by_number : List ℕ → Character
by_number [] = mistake ESCAPE
by_number (a ∷ []) = mistake ESCAPE
by_number (a ∷ b ∷ []) = mistake ESCAPE
by_number (a ∷ b ∷ c ∷ r) = by_digits a b c

-- *N 10, *S 32, *T 9, *B 8, *P 12, *C 13; ** *' *" themselves; or by number. From past the asterisk on
unfoldable pub escape : List ℕ → Character
escape [] = mistake ESCAPE
escape (c ∷ r) =
    cond (eqb c 78) (is 10 2)
    (cond (eqb c 83) (is 32 2)
    (cond (eqb c 84) (is 9 2)
    (cond (eqb c 66) (is 8 2)
    (cond (eqb c 80) (is 12 2)
    (cond (eqb c 67) (is 13 2)
    (cond (eqb c 42) (is 42 2)
    (cond (eqb c 39) (is 39 2)
    (cond (eqb c 34) (is 34 2) (by_number (c ∷ r))))))))))

-- a byte from 32 to 126, other than the quote and the asterisk, stands for itself
unfoldable pub character : ℕ → List ℕ → Character
character quote [] = ended
character quote (c ∷ r) =
    cond (eqb c quote) closing
    (cond (eqb c 42) (escape r)
    (cond (eqb c 10) ended
    (cond (leb 32 c) (cond (leb c 126) (is c 1) (mistake BYTE)) (mistake BYTE))))

-- a constant, from past its opening quote on: its characters, with the number of bytes taken, the closing quote included; one that is not closed;
-- or, of one that is closed, the first fault in it and the number of bytes before it
pub data Quoted : Type 0 where
  closed : (characters : List ℕ) (width : ℕ) → Quoted
  unclosed : Quoted
  faulty : (number offset : ℕ) → Quoted

-- its characters; none where there is a fault
abbrev pub characters_of : Quoted → List ℕ
characters_of (closed cs width) = cs
characters_of unclosed = []
characters_of (faulty number offset) = []

-- with one byte more in front
abbrev pub wider : Quoted → Quoted
wider (closed cs n) = closed cs (suc n)
wider unclosed = unclosed
wider (faulty k n) = faulty k (suc n)

-- with a character of one byte in front
abbrev pub after : ℕ → Quoted → Quoted
after v (closed cs n) = closed (v ∷ cs) (suc n)
after v unclosed = unclosed
after v (faulty k n) = faulty k (suc n)

-- with a fault in front: its place comes before those of the others, but the opening quote's, where a constant is not closed, before all
abbrev pub fault_before : ℕ → Quoted → Quoted
fault_before number (closed cs n) = faulty number 0
fault_before number unclosed = unclosed
fault_before number (faulty k n) = faulty number 0

-- by what stands at the head and the number of characters that there is room for, with the rest once that one's other bytes are passed over. A
-- mistake that is also one character too many is a mistake: at one place the smaller number
abbrev pub on_character : Character → (room : ℕ) → ((room over : ℕ) → Quoted) → Quoted
on_character (is v width) (suc room) more = after v (more room (width - 1))
on_character (is v width) zero more = fault_before LENGTH (more zero (width - 1))
on_character closing room more = closed [] 1
on_character ended room more = unclosed
on_character (mistake number) room more = fault_before number (more room 0)

-- at most `room` characters; `over` is the number of bytes at the head that belong to the character before them
unfoldable pub quoted : (quote room over : ℕ) → List ℕ → Quoted
quoted quote room over [] = unclosed
quoted quote room (suc k) (c ∷ r) = wider (quoted quote room k r)
quoted quote room zero (c ∷ r) = on_character (character quote (c ∷ r)) room (λ room k. quoted quote room k r)
