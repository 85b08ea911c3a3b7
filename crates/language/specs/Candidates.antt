-- The search of a word among the reserved words. Document 02, Req 03 coins it: a word is compared whole only with the reserved words of its own
-- length and first letter, in 01's order up to the match, and the search tells with how many. A word's kind stays what Symbols says (`kind_of`);
-- proofs/Candidates.antt has it that the candidates alone decide the kind, and that never more than three are compared.
use Rattle.std.specs.Prelude.{ℕ, suc, Bool, true, false, cond, ◌&&◌, List, [], ◌∷◌, length, get_or, eqb}
use Rattle.language.specs.Kinds.{Spelled, reserved}
use Rattle.language.specs.Symbols.{same}

-- whether two words have the same first letter and the same length
abbrev pub alike : List ℕ → List ℕ → Bool
alike ss bs = eqb (get_or ss 0 0) (get_or bs 0 0) && eqb (length ss) (length bs)

-- a word before others, if it is to be kept
abbrev pub keep : Bool → Spelled → List Spelled → List Spelled
keep true w ws = w ∷ ws
keep false w ws = ws

-- the candidates of a word: the reserved words of its length and first letter, in 01's order
unfoldable pub candidates_in : List Spelled → List ℕ → List Spelled
candidates_in [] bs = []
candidates_in (w ∷ ws) bs = keep (alike w.spelling bs) w (candidates_in ws bs)

unfoldable pub candidates : List ℕ → List Spelled
candidates bs = candidates_in reserved bs

-- how many of them are compared whole: those up to the one that is the word, it included; where none is, all
unfoldable pub compared_in : List Spelled → List ℕ → ℕ
compared_in [] bs = 0
compared_in (w ∷ ws) bs = suc (cond (same w.spelling bs) 0 (compared_in ws bs))

unfoldable pub compared : List ℕ → ℕ
compared bs = compared_in (candidates bs) bs
