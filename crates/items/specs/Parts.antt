-- What the code's readers of parts answer: the part and the number of bytes that write it.
use Rattle.std.specs.Prelude.{ℕ, ◌≡◌, Bool, true, false, not, cond, List, length, eqb, ltb, Option, Some, None, MatchOption, IfSome, ◌≤◌}
use Rattle.items.specs.Item.{string}
use Rattle.items.specs.Reader as R
use Rattle.items.specs.Read.{quoted_string, function_of}
use Rattle.items.specs.declared.Part.{Part}

-- the code's answer as a definition has it, where the code holds all of the value
abbrev pub as_got : {A B : Type 0} → (A → B) → Option (Part A) → R.Got B
as_got f (Some p) = R.got (f p.value) p.width
as_got f None = R.nothing

-- a definition's value as the code answers it
abbrev pub as_part : {A B : Type 0} → (A → B) → R.Got A → Option (Part B)
as_part f (R.got v n) = Some (record { value = f v; width = n })
as_part f R.nothing = None

-- a part that was read is written by no more bytes than there are
abbrev pub Within : {A : Type 0} → List ℕ → Option (Part A) → Type 0
Within bytes r = IfSome r (λ p. p.width ≤ length bytes)

-- a string's characters, or that none are closed here: the code holds their number
pub record CharactersRead (bytes : List ℕ) (p : Part ℕ) : Type 0 where
  pub characters : List ℕ
  pub reading : quoted_string bytes ≡ R.got (string characters) p.width
  pub count : p.value ≡ length characters

abbrev pub Characters : List ℕ → Option (Part ℕ) → Type 0
Characters bytes r = MatchOption r (quoted_string bytes ≡ R.nothing) (λ p. CharactersRead bytes p)

-- a function's number, if the byte is a function's letter
abbrev pub function_in : ℕ → Option ℕ
function_in c = cond (ltb (function_of c) 8) (Some (function_of c)) None

-- a gap by its bytes: whether the byte c belongs to it, in a comment or not, and whether what follows c is in a comment
unfoldable pub in_gap : Bool → ℕ → Bool
in_gap true c = true
in_gap false c = cond (eqb c 32) true (cond (eqb c 10) true (eqb c 47))

unfoldable pub in_comment : Bool → ℕ → Bool
in_comment true c = not (eqb c 10)
in_comment false c = eqb c 47
