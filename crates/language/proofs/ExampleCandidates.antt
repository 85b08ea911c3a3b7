-- Worked examples: the candidates of a word and how many are compared whole (document 02, Req 03).
use Rattle.laws.proofs.Basics.{ℕ, refl, List, [], ◌∷◌}
use Rattle.laws.proofs.Table.{Table, ◌gives◌, Each}
use Prim.Native.String.{String}
use Rattle.text.specs.Written.{bytes}
use Rattle.language.specs.Kinds as K
use Rattle.language.specs.Kinds.{Spelled, reserved}
use Rattle.language.specs.Symbols.{begins, kind_in, kind_of}
use Rattle.language.specs.Candidates.{candidates_in, candidates, compared_in, compared}

abbrev kinds : List Spelled → List ℕ
kinds [] = []
kinds (w ∷ ws) = w.kind ∷ kinds ws

-- the kinds of a word's candidates, how many are compared whole, and the word's kind
unfoldable found : String → List ℕ × (ℕ × ℕ)
unfolding reserved begins kind_in kind_of candidates_in candidates compared_in compared
found word = (kinds (candidates (bytes word)), (compared (bytes word), kind_of (bytes word)))

unfoldable found-table : Table String (List ℕ × (ℕ × ℕ))
found-table =
    -- no reserved word has the letter, or the letter and the length
    "X" gives ([], (0, K.NAME)) ∷
    "READ" gives ([], (0, K.NAME)) ∷
    "" gives ([], (0, K.NAME)) ∷
    -- the first candidate is the word: the second is not compared
    "REPEATWHILE" gives (K.REPEATWHILE ∷ K.REPEATUNTIL ∷ [], (1, K.REPEATWHILE)) ∷
    "REPEATUNTIL" gives (K.REPEATWHILE ∷ K.REPEATUNTIL ∷ [], (2, K.REPEATUNTIL)) ∷
    -- a reserved word that is the only one of its letter and length
    "UNTIL" gives (K.UNTIL ∷ [], (1, K.UNTIL)) ∷
    -- the worst case: TRUE, TEST and THEN (whose kind is that of DO) have a letter and a length in common
    "THEN" gives (K.TRUE ∷ K.TEST ∷ K.DO ∷ [], (3, K.DO)) ∷
    "TIME" gives (K.TRUE ∷ K.TEST ∷ K.DO ∷ [], (3, K.NAME)) ∷
    -- names that differ from a candidate only at the end
    "REPEATUNTIM" gives (K.REPEATWHILE ∷ K.REPEATUNTIL ∷ [], (2, K.NAME)) ∷
    "BREA1" gives (K.BREAK ∷ [], (1, K.NAME)) ∷
    []

found-examples : Each found found-table
unfolding found found-table
found-examples = refl
