-- Worked examples by computation: what small sources leave in scratch.
use Rattle.laws.proofs.Basics.{ℕ, ◌≡◌, refl, List, [], ◌∷◌}
use Rattle.language.specs.Source.{too_long}
use Rattle.language.proofs.Texts.{symbols_in}
use Rattle.symbols.specs.Read.{entries, Answer, short, read, refused, Outcome, outcome, symbols_read}

abbrev answering : Answer → List ℕ → Outcome
answering a s = record { answer = a; scratch = s }

-- three bytes, three symbols, nine entries: two names and the semicolon inserted between them
full : outcome 9 (symbols_in "A\nB") ≡ answering (read 3) (59 ∷ 1 ∷ 0 ∷ 54 ∷ 0 ∷ 2 ∷ 59 ∷ 1 ∷ 2 ∷ [])
unfolding symbols_in entries
full = refl

-- zeros follow; a string's value is its position
padded : outcome 15 (symbols_in "\"\"\"A\"") ≡ answering (read 2) (61 ∷ 0 ∷ 0 ∷ 61 ∷ 1 ∷ 2 ∷ 0 ∷ 0 ∷ 0 ∷ 0 ∷ 0 ∷ 0 ∷ 0 ∷ 0 ∷ 0 ∷ [])
unfolding symbols_in entries
padded = refl

-- a refusal leaves zeros
zeros : outcome 6 (symbols_in "A)") ≡ answering (refused 5 1) (0 ∷ 0 ∷ 0 ∷ 0 ∷ 0 ∷ 0 ∷ [])
unfolding symbols_in
zeros = refl

-- two entries are too few for a byte, and stay as they were
narrow : symbols_read (65 ∷ []) (7 ∷ 8 ∷ []) ≡ answering short (7 ∷ 8 ∷ [])
unfolding symbols_read too_long
narrow = refl
