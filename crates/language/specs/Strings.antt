-- Strings by their positions: a string symbol's value becomes its position among the text's strings, from 0, since string constants
-- are labelled in source order (document 01, "Places"). Its characters are found again from its place.
use Rattle.std.specs.Prelude.{ℕ, suc, cond, List, [], ◌∷◌, eqb}
use Rattle.language.specs.Kinds.{STRING}
use Rattle.language.specs.Symbols.{Symbol}

abbrev pub with_value : ℕ → Symbol → Symbol
with_value v s = record { kind = s.kind; value = v; place = s.place }

unfoldable pub numbered : (strings : ℕ) → List Symbol → List Symbol
numbered k [] = []
numbered k (s ∷ r) = cond (eqb s.kind STRING) (with_value k s ∷ numbered (suc k) r) (s ∷ numbered k r)
