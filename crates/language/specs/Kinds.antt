-- The kinds of symbols, by number (document 01, "Symbols").
-- First the words, in 01's order, then the signs, in 01's order, then names, numbers and strings. 0 is no symbol: it stands
-- for the end of the text. THEN has no kind of its own: it is the symbol DO. A character is a number. The tables at the end
-- give each word and each sign its spelling.
use Rattle.std.specs.Prelude.{ℕ, Bool, true, false, cond, List, [], ◌∷◌, eqb}
use Rattle.text.specs.Written.{bytes}

-- the end of the text
abbrev pub NOTHING : ℕ
NOTHING = 0

-- the words
abbrev pub GLOBAL : ℕ
GLOBAL = 1

abbrev pub MANIFEST : ℕ
MANIFEST = 2

abbrev pub LET : ℕ
LET = 3

abbrev pub AND : ℕ
AND = 4

abbrev pub BE : ℕ
BE = 5

abbrev pub VEC : ℕ
VEC = 6

abbrev pub VALOF : ℕ
VALOF = 7

abbrev pub RESULTIS : ℕ
RESULTIS = 8

abbrev pub TRUE : ℕ
TRUE = 9

abbrev pub FALSE : ℕ
FALSE = 10

abbrev pub NOT : ℕ
NOT = 11

abbrev pub REM : ℕ
REM = 12

abbrev pub TEST : ℕ
TEST = 13

abbrev pub DO : ℕ
DO = 14

abbrev pub OR : ℕ
OR = 15

abbrev pub IF : ℕ
IF = 16

abbrev pub UNLESS : ℕ
UNLESS = 17

abbrev pub WHILE : ℕ
WHILE = 18

abbrev pub UNTIL : ℕ
UNTIL = 19

abbrev pub REPEAT : ℕ
REPEAT = 20

abbrev pub REPEATWHILE : ℕ
REPEATWHILE = 21

abbrev pub REPEATUNTIL : ℕ
REPEATUNTIL = 22

abbrev pub FOR : ℕ
FOR = 23

abbrev pub TO : ℕ
TO = 24

abbrev pub BY : ℕ
BY = 25

abbrev pub SWITCHON : ℕ
SWITCHON = 26

abbrev pub INTO : ℕ
INTO = 27

abbrev pub CASE : ℕ
CASE = 28

abbrev pub DEFAULT : ℕ
DEFAULT = 29

abbrev pub ENDCASE : ℕ
ENDCASE = 30

abbrev pub BREAK : ℕ
BREAK = 31

abbrev pub LOOP : ℕ
LOOP = 32

abbrev pub RETURN : ℕ
RETURN = 33

abbrev pub FINISH : ℕ
FINISH = 34

-- the signs
-- +
abbrev pub PLUS : ℕ
PLUS = 35

-- -
abbrev pub MINUS : ℕ
MINUS = 36

-- *
abbrev pub STAR : ℕ
STAR = 37

-- /
abbrev pub SLASH : ℕ
SLASH = 38

-- =
abbrev pub EQUAL : ℕ
EQUAL = 39

-- ~=
abbrev pub UNEQUAL : ℕ
UNEQUAL = 40

-- <
abbrev pub LESS : ℕ
LESS = 41

-- <=
abbrev pub ATMOST : ℕ
ATMOST = 42

-- >
abbrev pub MORE : ℕ
MORE = 43

-- >=
abbrev pub ATLEAST : ℕ
ATLEAST = 44

-- <<
abbrev pub LEFT : ℕ
LEFT = 45

-- >>
abbrev pub RIGHT : ℕ
RIGHT = 46

-- &
abbrev pub AMPERSAND : ℕ
AMPERSAND = 47

-- |
abbrev pub BAR : ℕ
BAR = 48

-- !
abbrev pub PLING : ℕ
PLING = 49

-- @
abbrev pub AT : ℕ
AT = 50

-- (
abbrev pub OPEN : ℕ
OPEN = 51

-- )
abbrev pub CLOSE : ℕ
CLOSE = 52

-- ,
abbrev pub COMMA : ℕ
COMMA = 53

-- ;
abbrev pub SEMICOLON : ℕ
SEMICOLON = 54

-- :
abbrev pub COLON : ℕ
COLON = 55

-- :=
abbrev pub ASSIGN : ℕ
ASSIGN = 56

-- $(
abbrev pub BEGIN : ℕ
BEGIN = 57

-- $)
abbrev pub END : ℕ
END = 58

-- names, numbers and strings
abbrev pub NAME : ℕ
NAME = 59

abbrev pub NUMBER : ℕ
NUMBER = 60

abbrev pub STRING : ℕ
STRING = 61

-- a word or a sign with its spelling
pub record Spelled : Type 0 where
  pub spelling : List ℕ
  pub kind : ℕ

-- the reserved words, in 01's order
unfoldable pub reserved : List Spelled
reserved =
    record { spelling = bytes "GLOBAL"; kind = GLOBAL } ∷
    record { spelling = bytes "MANIFEST"; kind = MANIFEST } ∷
    record { spelling = bytes "LET"; kind = LET } ∷
    record { spelling = bytes "AND"; kind = AND } ∷
    record { spelling = bytes "BE"; kind = BE } ∷
    record { spelling = bytes "VEC"; kind = VEC } ∷
    record { spelling = bytes "VALOF"; kind = VALOF } ∷
    record { spelling = bytes "RESULTIS"; kind = RESULTIS } ∷
    record { spelling = bytes "TRUE"; kind = TRUE } ∷
    record { spelling = bytes "FALSE"; kind = FALSE } ∷
    record { spelling = bytes "NOT"; kind = NOT } ∷
    record { spelling = bytes "REM"; kind = REM } ∷
    record { spelling = bytes "TEST"; kind = TEST } ∷
    record { spelling = bytes "THEN"; kind = DO } ∷
    record { spelling = bytes "DO"; kind = DO } ∷
    record { spelling = bytes "OR"; kind = OR } ∷
    record { spelling = bytes "IF"; kind = IF } ∷
    record { spelling = bytes "UNLESS"; kind = UNLESS } ∷
    record { spelling = bytes "WHILE"; kind = WHILE } ∷
    record { spelling = bytes "UNTIL"; kind = UNTIL } ∷
    record { spelling = bytes "REPEAT"; kind = REPEAT } ∷
    record { spelling = bytes "REPEATWHILE"; kind = REPEATWHILE } ∷
    record { spelling = bytes "REPEATUNTIL"; kind = REPEATUNTIL } ∷
    record { spelling = bytes "FOR"; kind = FOR } ∷
    record { spelling = bytes "TO"; kind = TO } ∷
    record { spelling = bytes "BY"; kind = BY } ∷
    record { spelling = bytes "SWITCHON"; kind = SWITCHON } ∷
    record { spelling = bytes "INTO"; kind = INTO } ∷
    record { spelling = bytes "CASE"; kind = CASE } ∷
    record { spelling = bytes "DEFAULT"; kind = DEFAULT } ∷
    record { spelling = bytes "ENDCASE"; kind = ENDCASE } ∷
    record { spelling = bytes "BREAK"; kind = BREAK } ∷
    record { spelling = bytes "LOOP"; kind = LOOP } ∷
    record { spelling = bytes "RETURN"; kind = RETURN } ∷
    record { spelling = bytes "FINISH"; kind = FINISH } ∷
    []

-- the signs, those of two bytes first, so that the first one that fits is the longest
unfoldable pub signs : List Spelled
signs =
    record { spelling = bytes "~="; kind = UNEQUAL } ∷
    record { spelling = bytes "<="; kind = ATMOST } ∷
    record { spelling = bytes ">="; kind = ATLEAST } ∷
    record { spelling = bytes "<<"; kind = LEFT } ∷
    record { spelling = bytes ">>"; kind = RIGHT } ∷
    record { spelling = bytes ":="; kind = ASSIGN } ∷
    record { spelling = bytes "$("; kind = BEGIN } ∷
    record { spelling = bytes "$)"; kind = END } ∷
    record { spelling = bytes "+"; kind = PLUS } ∷
    record { spelling = bytes "-"; kind = MINUS } ∷
    record { spelling = bytes "*"; kind = STAR } ∷
    record { spelling = bytes "/"; kind = SLASH } ∷
    record { spelling = bytes "="; kind = EQUAL } ∷
    record { spelling = bytes "<"; kind = LESS } ∷
    record { spelling = bytes ">"; kind = MORE } ∷
    record { spelling = bytes "&"; kind = AMPERSAND } ∷
    record { spelling = bytes "|"; kind = BAR } ∷
    record { spelling = bytes "!"; kind = PLING } ∷
    record { spelling = bytes "@"; kind = AT } ∷
    record { spelling = bytes "("; kind = OPEN } ∷
    record { spelling = bytes ")"; kind = CLOSE } ∷
    record { spelling = bytes ","; kind = COMMA } ∷
    record { spelling = bytes ";"; kind = SEMICOLON } ∷
    record { spelling = bytes ":"; kind = COLON } ∷
    []

-- whether a kind is one of a list
unfoldable pub member : (kind : ℕ) → List ℕ → Bool
member kind [] = false
member kind (k ∷ ks) = cond (eqb kind k) true (member kind ks)
