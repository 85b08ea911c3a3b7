-- Tables of examples: what stands in a row, and what is expected of it. One computed test serves for all rows of a table.
use Rattle.laws.proofs.Basics.{◌≡◌, List, map}

abbrev pub Table : Type 0 → Type 0 → Type 0
Table A B = List (A × B)

infixr 68 ◌gives◌
abbrev pub ◌gives◌ : {A B : Type 0} → A → B → A × B
given gives expected = (given, expected)

-- what f gives for each row is what the row says
abbrev pub Each : {A B : Type 0} → (A → B) → Table A B → Type 0
Each f rows = map (λ row. f row.0) rows ≡ map (λ row. row.1) rows
