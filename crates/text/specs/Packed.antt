-- A string as words (document 01, "Strings": "byte 0 is the length, high half first; an unused low half is 0").
use Rattle.std.specs.Prelude.{ℕ, ◌+◌, ◌*◌, List, [], ◌∷◌, length}

-- bytes in pairs, the first of them given apart
unfoldable pub pairs : (high : ℕ) → List ℕ → List ℕ
pairs high [] = (high * 256) ∷ []
pairs high (c ∷ []) = (high * 256 + c) ∷ []
pairs high (c ∷ d ∷ cs) = (high * 256 + c) ∷ pairs d cs

-- the words of a string of these characters
abbrev pub packed : List ℕ → List ℕ
packed cs = pairs (length cs) cs
