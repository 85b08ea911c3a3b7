-- Lines of a text, and a refusal with its place and line (document 01, "Refusal numbers").
use Rattle.std.specs.Prelude.{ℕ, suc, cond, List, [], ◌∷◌, ◌++◌, take, eqb}
use Rattle.std.specs.Fmt.{decimal}
use Rattle.text.specs.Written.{bytes}
use Rattle.text.specs.declared.Refusal.{Refusal}

unfoldable pub newlines : List ℕ → ℕ
newlines [] = 0
newlines (c ∷ r) = cond (eqb c 10) (suc (newlines r)) (newlines r)

-- the line of a place, from 1: one more than the newlines before it
unfoldable pub line_of : List ℕ → ℕ → ℕ
line_of text place = suc (newlines (take place text))

unfoldable pub refusal : List ℕ → ℕ → ℕ → Refusal
refusal text number place = record { number = number; place = place; line = line_of text place }

-- a refusal in words
abbrev pub refusal_text : Refusal → List ℕ
refusal_text r = bytes "refused " ++ (decimal r.number ++ (bytes " at " ++ (decimal r.place ++ (bytes " line " ++ decimal r.line))))
