-- The code's table of spellings: the reserved words, by first letter.
use Rattle.std.specs.Prelude.{ℕ, suc, ◌≡◌, List, [], ◌∷◌, map, eqb, length}
use Rattle.language.specs.Kinds.{Spelled}
use Rattle.language.specs.Candidates.{keep, candidates}
use Rattle.symbols.specs.Kinds.{number_of}
use Rattle.symbols.specs.declared.spellings.Spelled as D

-- a row of a table as the definitions have it
abbrev pub spelled_of : D.Spelled → Spelled
spelled_of row = record { spelling = row.spelling.now; kind = number_of row.kind }

-- some rows of a table
unfoldable pub rows_of : List D.Spelled → List Spelled
rows_of rows = map spelled_of rows

-- those of some words that have a length
unfoldable pub of_length : (size : ℕ) → List Spelled → List Spelled
of_length size [] = []
of_length size (w ∷ ws) = keep (eqb (length w.spelling) size) w (of_length size ws)

-- some rows, those of a length, are the candidates of a word that starts with a byte
pub record Spans (byte : ℕ) (rows : List D.Spelled) : Type 0 where
  pub holds : (rest : List ℕ) → candidates (byte ∷ rest) ≡ of_length (suc (length rest)) (rows_of rows)
