-- Worked examples: refusals 1 to 5, 40 to 43, and 15 for scratch; 0 at 0 for none.
use Rattle.laws.proofs.Basics.{ℕ, ◌≡◌, refl, List, [], ◌∷◌, ◌++◌, false, replicate}
use Prim.Native.String.{String}
use Rattle.text.specs.Written.{bytes}
use Rattle.language.specs.Source.{too_long, scratch_too_short, read_source}
use Rattle.laws.proofs.Table.{Table, ◌gives◌, Each}
use Rattle.language.proofs.Texts.{number_and_place, answer, verdict, verdict_of, times}

-- 1: a source of 16,385 bytes; one of 16,384 bytes is not too long. 15: an empty source with 63 entries of scratch; 64 are enough
unfoldable given-table : Table (List ℕ × ℕ) (ℕ × ℕ)
given-table = (replicate 16385 32, 200000) gives (1, 0) ∷ ([], 63) gives (15, 0) ∷ ([], 64) gives (0, 0) ∷ []

given-examples : Each (λ g. number_and_place (read_source g.0 g.1)) given-table
unfolding given-table read_source too_long scratch_too_short answer
given-examples = refl

long-enough : too_long (replicate 16384 32) ≡ false
unfolding too_long
long-enough = refl

unfoldable verdict-table : Table String (ℕ × ℕ)
verdict-table =
    -- 2: a byte that starts no symbol: ~ without =, $ without a bracket, a small letter, a dot
    "LET LET %" gives (2, 8) ∷
    "LET F()=A~B" gives (2, 9) ∷
    "LET F() BE $A" gives (2, 11) ∷
    "LET f()=1" gives (2, 4) ∷
    "LET F()=.A" gives (2, 8) ∷
    -- 32767 passes, 32768 is 3; -32768 is 3 too, at the number
    "LET F()=32767" gives (0, 0) ∷
    "LET F()=32768" gives (3, 8) ∷
    "LET F()=-32768" gives (3, 9) ∷
    -- #177777 passes, #200000 is 3, # without an octal digit is 3
    "LET F()=#177777" gives (0, 0) ∷
    "LET F()=#200000" gives (3, 8) ∷
    "LET F()=#8" gives (3, 8) ∷
    -- 40: not closed, at the opening quote: the text's end or a newline comes first, also after an asterisk, whatever else is wrong before it
    "LET F()=\"AB" gives (40, 8) ∷
    "LET F()=\"A\nB\"" gives (40, 8) ∷
    "LET F()=\"A*\nB\"" gives (40, 8) ∷
    "LET F()=\"A*Q\t" gives (40, 8) ∷
    "LET F()=\"AB*\"" gives (40, 8) ∷
    "LET F()='" gives (40, 8) ∷
    "LET F()='A" gives (40, 8) ∷
    "LET F()='AB\n'" gives (40, 8) ∷
    "LET F()='*'" gives (40, 8) ∷
    -- 41: an escape, at its asterisk, which alone is taken: the quote after Q closes, and so does the one that follows *" here
    "LET F()=\"A*Q\"" gives (41, 10) ∷
    "LET F()=\"*Q*\"\"" gives (41, 9) ∷
    "LET F()='*n'" gives (41, 9) ∷
    "LET F()='A*X'" gives (41, 10) ∷
    -- by number: *000 and *255 are characters; three digits above 255, and a digit that two more do not follow, are wrong at the asterisk,
    -- which alone is taken: the quote of "*12" closes, and the text's end after *1 is no closing
    "LET F()='*255'" gives (0, 0) ∷
    "LET F()=\"*000*0651\"" gives (0, 0) ∷
    "LET F()='*256'" gives (41, 9) ∷
    "LET F()=\"A*12\"" gives (41, 10) ∷
    "LET F()='*12A'" gives (41, 9) ∷
    "LET F()=\"*1" gives (40, 8) ∷
    "LET F()='*0650'" gives (43, 13) ∷
    -- 42: a byte outside 32 to 126, at that byte, a tab here
    "LET F()=\"A\tB\"" gives (42, 10) ∷
    "LET F()='\t'" gives (42, 9) ∷
    -- of several faults, the first
    "LET F()=\"A\t*Q\"" gives (42, 10) ∷
    "LET F()=\"A*Q\t\"" gives (41, 10) ∷
    "LET F()='*X\t'" gives (41, 9) ∷
    -- 43: a character constant of no characters, at its opening quote, and of several, at the second, however it is written
    "LET F()=''" gives (43, 8) ∷
    "LET F()='AB'" gives (43, 10) ∷
    "LET F()='*NB'" gives (43, 11) ∷
    "LET F()='A*N'" gives (43, 10) ∷
    "LET F()='ABC'" gives (43, 10) ∷
    "LET F()='''" gives (43, 8) ∷
    -- 5: a closing bracket with none open, one that does not match, and one still open at the end
    "LET F()) BE" gives (5, 7) ∷
    "LET F() BE $( A := (1 $) )" gives (5, 22) ∷
    "LET F() BE $( A := (1" gives (5, 21) ∷
    -- the smallest place comes first
    ") %" gives (5, 0) ∷
    "( % )" gives (2, 2) ∷
    "( \"A*Q\" )) %" gives (41, 4) ∷
    ") \"*Q\"" gives (5, 0) ∷
    -- 2 to 5 and 40 to 43 come before 6
    "LET LET LET F() BE 'A" gives (40, 19) ∷
    []

verdict-examples : Each verdict verdict-table
unfolding verdict verdict-table
verdict-examples = refl

-- a string that so many characters begin
unfoldable begun-table : Table (List ℕ × String) (ℕ × ℕ)
begun-table =
    -- 42: the byte 200
    (65 ∷ 200 ∷ [], "\"") gives (42, 10) ∷
    -- 43: at most 255 characters, at the 256th; but a 256th that is a mistake is that mistake, and one before it comes first
    (times 255 (65 ∷ []), "\"") gives (0, 0) ∷ (times 255 (65 ∷ []), "A\"") gives (43, 264) ∷ (times 255 (65 ∷ []), "*N*Q\"") gives (43, 264) ∷
    (times 255 (65 ∷ []), "\t\"") gives (42, 264) ∷ (times 255 (65 ∷ []), "*Q\"") gives (41, 264) ∷ (times 255 (65 ∷ []), "A\n\"") gives (40, 8) ∷
    (times 255 (bytes "*000"), "\"") gives (0, 0) ∷ (times 255 (bytes "*000"), "*000\"") gives (43, 1029) ∷
    (times 255 (bytes "*000"), "*300\"") gives (41, 1029) ∷
    []

begun-examples : Each (λ g. verdict_of (bytes "LET F()=\"" ++ (g.0 ++ bytes g.1))) begun-table
unfolding begun-table verdict_of times
begun-examples = refl
