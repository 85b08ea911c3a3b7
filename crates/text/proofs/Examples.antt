-- Worked examples by computation: lines, escapes and quotes (document 01, "Escapes in both").
use Rattle.laws.proofs.Basics.{ℕ, ◌≡◌, refl, [], ◌∷◌, ◌++◌, map, replicate}
use Prim.Native.String.{String}
use Rattle.text.specs.Line.{newlines, line_of}
use Rattle.text.specs.Quoted.{is, closing, ended, mistake, by_digits, by_number, escape, character, closed, unclosed, faulty, quoted}
use Rattle.text.specs.Written.{bytes}

-- a, newline, newline, b: the first newline ends line 1, b is on line 3, and so is a place past the end
lines : map (line_of (97 ∷ 10 ∷ 10 ∷ 98 ∷ [])) (0 ∷ 1 ∷ 2 ∷ 3 ∷ 9 ∷ []) ≡ 1 ∷ 1 ∷ 2 ∷ 3 ∷ 3 ∷ []
unfolding line_of newlines
lines = refl

-- N S T B P C * ' " after an asterisk; n is no escape, nor is the end
escapes : map (λ (c : ℕ). escape (c ∷ [])) (78 ∷ 83 ∷ 84 ∷ 66 ∷ 80 ∷ 67 ∷ 42 ∷ 39 ∷ 34 ∷ 110 ∷ [])
    ≡ is 10 2 ∷ is 32 2 ∷ is 9 2 ∷ is 8 2 ∷ is 12 2 ∷ is 13 2 ∷ is 42 2 ∷ is 39 2 ∷ is 34 2 ∷ mistake 41 ∷ []
unfolding escape by_number by_digits
escapes = refl

-- by number: 000, 065, 255; 256 is too large, and two digits, or a digit and what is none, are too few
numbers : map (λ (s : String). escape (bytes s)) ("000" ∷ "065" ∷ "255" ∷ "0651" ∷ "256" ∷ "999" ∷ [])
    ≡ is 0 4 ∷ is 65 4 ∷ is 255 4 ∷ is 65 4 ∷ mistake 41 ∷ mistake 41 ∷ []
unfolding escape by_number by_digits
numbers = refl

few-digits : map (λ (s : String). escape (bytes s)) ("65" ∷ "0" ∷ "06A" ∷ "6 5" ∷ "0/0" ∷ "00:" ∷ []) ≡ replicate 6 (mistake 41)
unfolding escape by_number by_digits
few-digits = refl

-- between single quotes: blank, ~ and " stand for themselves, ' closes, a newline ends what is not closed; a tab, 127 and 255 are outside 32 to 126
bounds : map (λ (c : ℕ). character 39 (c ∷ [])) (32 ∷ 126 ∷ 34 ∷ 39 ∷ 10 ∷ 9 ∷ 127 ∷ 255 ∷ [])
    ≡ is 32 1 ∷ is 126 1 ∷ is 34 1 ∷ closing ∷ ended ∷ mistake 42 ∷ mistake 42 ∷ mistake 42 ∷ []
unfolding character
bounds = refl

-- a string's characters from past its opening quote on: a*N" and what follows; the empty string
strings : map (λ (s : String). quoted 34 255 0 (bytes s)) ("a*N\"Z" ∷ "\"" ∷ []) ≡ closed (97 ∷ 10 ∷ []) 4 ∷ closed [] 1 ∷ []
unfolding quoted character escape by_number by_digits
strings = refl

-- by number between quotes: the four bytes are one character; only the asterisk of a wrong one is taken, so digits after it count as characters
by_number-examples : map (λ (s : String). quoted 34 3 0 (bytes s)) ("*000*255A\"" ∷ "*2551\"" ∷ "A*256\"" ∷ "*25\"" ∷ "*0" ∷ "ABC*065\"" ∷ "ABC*300\"" ∷ [])
    ≡ closed (0 ∷ 255 ∷ 65 ∷ []) 10 ∷ closed (255 ∷ 49 ∷ []) 6 ∷ faulty 41 1 ∷ faulty 41 0 ∷ unclosed ∷ faulty 43 3 ∷ faulty 41 3 ∷ []
unfolding quoted character escape by_number by_digits
by_number-examples = refl

-- not closed: the end; the end after an asterisk; a newline, also after an asterisk; whatever else is wrong before it
not-closed : map (λ (s : String). quoted 34 2 0 (bytes s)) ("a" ∷ "*" ∷ "a\n\"" ∷ "*\n\"" ∷ "*Q\t" ∷ "abc" ∷ "*\"" ∷ [])
    ≡ unclosed ∷ unclosed ∷ unclosed ∷ unclosed ∷ unclosed ∷ unclosed ∷ unclosed ∷ []
unfolding quoted character escape by_number by_digits
not-closed = refl

-- an escape at its asterisk, which alone it takes, so that the quote after Q closes; a byte; of several faults the first
first-fault : map (λ (s : String). quoted 34 255 0 (bytes s)) ("*Q\"" ∷ "ab*Q\"" ∷ "a\t\"" ∷ "a\t*Q\"" ∷ "a*Q\t\"" ∷ "*Q*\"" ∷ [])
    ≡ faulty 41 0 ∷ faulty 41 2 ∷ faulty 42 1 ∷ faulty 42 1 ∷ faulty 41 1 ∷ unclosed ∷ []
unfolding quoted character escape by_number by_digits
first-fault = refl

-- with room for two: the third character is too many, however it is written, unless it is a mistake itself, or one came before it
too_long : map (λ (s : String). quoted 34 2 0 (bytes s)) ("ab\"" ∷ "abc\"" ∷ "*Nb*Ncd\"" ∷ "ab*Q\"" ∷ "ab\t\"" ∷ "a*Qbc\"" ∷ "abc\t\"" ∷ [])
    ≡ closed (97 ∷ 98 ∷ []) 3 ∷ faulty 43 2 ∷ faulty 43 3 ∷ faulty 41 2 ∷ faulty 42 2 ∷ faulty 41 1 ∷ faulty 43 2 ∷ []
unfolding quoted character escape by_number by_digits
too_long = refl

-- a string of 255 characters, one of 256, and one of 256 whose last is a byte that it may not hold
longest : map (quoted 34 255 0) ((replicate 255 65 ++ (34 ∷ [])) ∷ (replicate 256 65 ++ (34 ∷ [])) ∷ (replicate 255 65 ++ (9 ∷ 34 ∷ [])) ∷ [])
    ≡ closed (replicate 255 65) 256 ∷ faulty 43 255 ∷ faulty 42 255 ∷ []
unfolding quoted character escape by_number by_digits
longest = refl
