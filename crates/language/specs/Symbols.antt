-- From bytes to symbols (document 01, "Symbols"; what is open there is read as docs/DECISIONS.md says).
-- The text is read from left to right. At each place that belongs to no symbol before it stands an element: a symbol, a gap
-- (a separator or a comment), or neither, which is refused: 2 or 3 at that place, 40 to 43 at the byte of a constant that is wrong. A symbol
-- is its kind, its value and the place of its first byte.
-- The value of a number or character is that number, of a word its length, of a string the number of
-- its characters (Strings then puts its position among the strings there), of a sign 0. A name's bytes and a string's characters
-- are found again from the place.
use Rattle.std.specs.Prelude.{ℕ, zero, suc, ◌+◌, ◌-◌, ◌*◌, Bool, true, false, cond, ◌&&◌, List, [], ◌∷◌, length, take, drop, eqb, leb, ltb}
use Rattle.text.specs.Quoted.{UNCLOSED, LENGTH, Quoted, closed, unclosed, faulty, quoted}
use Rattle.language.specs.Bytes.{LETTER, DIGIT, DOT, HASH, QUOTE, DOUBLE, SIGN, SEPARATOR, NEWLINE, class_of}
use Rattle.language.specs.Kinds.{Spelled, NAME, NUMBER, STRING, reserved, signs}

pub record Symbol : Type 0 where
  pub kind : ℕ
  pub value : ℕ
  pub place : ℕ

-- what stands at the head of some bytes, with the number of bytes that write it; or a refusal's number, and the number of bytes before the one
-- that is wrong
pub data Element : Type 0 where
  symbol : (kind value width : ℕ) → Element
  gap : (width : ℕ) → Element
  wrong : (number offset : ℕ) → Element

-- whether some bytes begin with a spelling
unfoldable pub begins : (spelling : List ℕ) → List ℕ → Bool
begins [] bs = true
begins (s ∷ ss) [] = false
begins (s ∷ ss) (b ∷ bs) = eqb s b && begins ss bs

-- Words. A word is the longest run of capitals, digits and dots that starts with a capital
abbrev pub in_word : (class : ℕ) → Bool
in_word class = leb LETTER class && leb class DOT

unfoldable pub word_width : List ℕ → ℕ
word_width [] = 0
word_width (c ∷ r) = elim (in_word (class_of c)) [ true ↦ suc (word_width r) | false ↦ 0 ]

-- the kind of a word: it is reserved if it is one of 01's words, else a name
abbrev pub same : List ℕ → List ℕ → Bool
same ss bs = eqb (length ss) (length bs) && begins ss bs

unfoldable pub kind_in : List Spelled → List ℕ → ℕ
kind_in [] bs = NAME
kind_in (w ∷ ws) bs = elim (same w.spelling bs) [ true ↦ w.kind | false ↦ kind_in ws bs ]

unfoldable pub kind_of : List ℕ → ℕ
kind_of bs = kind_in reserved bs

unfoldable pub word : List ℕ → Element
word bs = symbol (kind_of (take (word_width bs) bs)) (word_width bs) (word_width bs)

-- Numbers. The digits of a base are the bytes from 48 (the digit 0) on; how many stand at the head, and their value
abbrev pub digit_of : (base byte : ℕ) → Bool
digit_of base c = leb 48 c && ltb c (48 + base)

unfoldable pub digits : (base : ℕ) → List ℕ → ℕ
digits base [] = 0
digits base (c ∷ r) = elim (digit_of base c) [ true ↦ suc (digits base r) | false ↦ 0 ]

unfoldable pub value_of : (base sofar : ℕ) → List ℕ → ℕ
value_of base v [] = v
value_of base v (c ∷ r) = elim (digit_of base c) [ true ↦ value_of base (v * base + (c - 48)) r | false ↦ v ]

-- decimal 0 to 32767
unfoldable pub decimal : List ℕ → Element
decimal bs = cond (leb (value_of 10 0 bs) 32767) (symbol NUMBER (value_of 10 0 bs) (digits 10 bs)) (wrong 3 0)

-- # and octal digits, at least one, to #177777; from past the # on
unfoldable pub octal : List ℕ → Element
octal bs =
    cond (leb 1 (digits 8 bs) && leb (value_of 8 0 bs) 65535)
    (symbol NUMBER (value_of 8 0 bs) (suc (digits 8 bs)))
    (wrong 3 0)

-- 'c', one character between single quotes, not none and at most one; from past the first quote on
abbrev pub as_character : Quoted → Element
as_character (closed [] n) = wrong LENGTH 0
as_character (closed (c ∷ cs) n) = symbol NUMBER c (suc n)
as_character unclosed = wrong UNCLOSED 0
as_character (faulty number n) = wrong number (suc n)

unfoldable pub character : List ℕ → Element
character bs = as_character (quoted 39 1 0 bs)

-- "..", at most 255 characters between double quotes; from past the first quote on
abbrev pub as_string : Quoted → Element
as_string (closed cs n) = symbol STRING (length cs) (suc n)
as_string unclosed = wrong UNCLOSED 0
as_string (faulty number n) = wrong number (suc n)

unfoldable pub string : List ℕ → Element
string bs = as_string (quoted 34 255 0 bs)

-- Signs. The longest sign is taken
unfoldable pub sign_in : List Spelled → List ℕ → Element
sign_in [] bs = wrong 2 0
sign_in (s ∷ ss) bs = elim (begins s.spelling bs) [ true ↦ symbol s.kind 0 (length s.spelling) | false ↦ sign_in ss bs ]

-- // comments to the line's end: the number of bytes before the newline
unfoldable pub to_line_end : List ℕ → ℕ
to_line_end [] = 0
to_line_end (c ∷ r) = elim (eqb c 10) [ true ↦ 0 | false ↦ suc (to_line_end r) ]

unfoldable pub comment : List ℕ → Element
comment bs = gap (to_line_end bs)

unfoldable pub sign : List ℕ → Element
sign bs = sign_in signs bs

unfoldable pub sign_or_comment : List ℕ → Element
sign_or_comment bs = cond (begins (47 ∷ 47 ∷ []) bs) (comment bs) (sign bs)

-- what stands at the head, by the class of the first byte
unfoldable pub by_class : (class : ℕ) → List ℕ → Element
by_class class bs =
    cond (eqb class LETTER) (word bs)
    (cond (eqb class DIGIT) (decimal bs)
    (cond (eqb class HASH) (octal (drop 1 bs))
    (cond (eqb class QUOTE) (character (drop 1 bs))
    (cond (eqb class DOUBLE) (string (drop 1 bs))
    (cond (eqb class SIGN) (sign_or_comment bs)
    (cond (eqb class SEPARATOR) (gap 1)
    (cond (eqb class NEWLINE) (gap 1)
    (wrong 2 0))))))))

-- the symbols of a text up to its first fault, and that fault if there is one
pub data Fault : Type 0 where
  none : Fault
  fault : (number place : ℕ) → Fault

pub record Scan : Type 0 where
  pub symbols : List Symbol
  pub ending : Fault

abbrev pub ends : Fault → Scan
ends f = record { symbols = []; ending = f }

abbrev pub goes_on : Symbol → Scan → Scan
goes_on s more = record { symbols = s ∷ more.symbols; ending = more.ending }

abbrev pub on_element : (place : ℕ) → Element → (ℕ → Scan) → Scan
on_element place (symbol kind value width) more =
    goes_on (record { kind = kind; value = value; place = place }) (more (width - 1))
on_element place (gap width) more = more (width - 1)
on_element place (wrong number offset) more = ends (fault number (place + offset))

-- `over` is the number of bytes at the head that belong to the element before them
unfoldable pub scan_from : (over place : ℕ) → List ℕ → Scan
scan_from over place [] = ends none
scan_from (suc k) place (c ∷ r) = scan_from k (suc place) r
scan_from zero place (c ∷ r) = on_element place (by_class (class_of c) (c ∷ r)) (λ k. scan_from k (suc place) r)

unfoldable pub scan : List ℕ → Scan
scan text = scan_from 0 0 text
