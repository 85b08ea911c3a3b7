-- The bytes of the source (document 01, "Symbols": "A table of 256 entries gives each byte its class").
-- A byte is a number from 0 to 255. Its class says which symbols it may start; here the classes are given by ranges, and the
-- compiler's table is proved equal to this.
use Rattle.std.specs.Prelude.{ℕ, Bool, cond, ◌&&◌, eqb, leb}

-- The classes. No symbol starts with it
abbrev pub NONE : ℕ
NONE = 0

-- a capital letter: starts a word
abbrev pub LETTER : ℕ
LETTER = 1

abbrev pub DIGIT : ℕ
DIGIT = 2

-- starts no symbol either, but may stand in a word, as letters and digits may
abbrev pub DOT : ℕ
DOT = 3

-- # starts an octal number
abbrev pub HASH : ℕ
HASH = 4

-- ' starts a character
abbrev pub QUOTE : ℕ
QUOTE = 5

-- " starts a string
abbrev pub DOUBLE : ℕ
DOUBLE = 6

-- the first byte of a sign, or of a comment
abbrev pub SIGN : ℕ
SIGN = 7

-- space, tab and carriage return
abbrev pub SEPARATOR : ℕ
SEPARATOR = 8

-- newline (10), which separates too and ends a line
abbrev pub NEWLINE : ℕ
NEWLINE = 9

abbrev pub between : (low high byte : ℕ) → Bool
between low high c = leb low c && leb c high

-- a byte's class. The signs start with $ & ( ) * + , - / : ; < = > ! @ | ~
unfoldable pub class_of : ℕ → ℕ
class_of c =
    cond (between 65 90 c) LETTER
    (cond (between 48 57 c) DIGIT
    (cond (eqb c 46) DOT
    (cond (eqb c 35) HASH
    (cond (eqb c 39) QUOTE
    (cond (eqb c 34) DOUBLE
    (cond (eqb c 32) SEPARATOR
    (cond (eqb c 9) SEPARATOR
    (cond (eqb c 13) SEPARATOR
    (cond (eqb c 10) NEWLINE
    (cond (eqb c 33) SIGN
    (cond (eqb c 36) SIGN
    (cond (eqb c 38) SIGN
    (cond (between 40 45 c) SIGN
    (cond (eqb c 47) SIGN
    (cond (between 58 62 c) SIGN
    (cond (eqb c 64) SIGN
    (cond (eqb c 124) SIGN
    (cond (eqb c 126) SIGN
    NONE))))))))))))))))))
