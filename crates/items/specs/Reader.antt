-- Readers: from some bytes to a value and the number of bytes that write it, or nothing. `do` reads one part after another.
use Rattle.std.specs.Prelude.{ℕ, suc, ◌+◌, ◌-◌, ◌*◌, Bool, true, false, cond, List, [], ◌∷◌, drop, eqb, leb}
use Rattle.items.specs.Item.{capped}

pub data Got (A : Type 0) : Type 0 where
  got : (value : A) (width : ℕ) → Got A
  nothing : Got A

abbrev pub Reader : Type 0 → Type 0
Reader A = List ℕ → Got A

abbrev pub wide : {A : Type 0} → ℕ → Got A → Got A
wide n (got a m) = got a (n + m)
wide n nothing = nothing

abbrev pub on_got : {A B : Type 0} → Got A → (A → ℕ → Got B) → Got B
on_got (got a n) f = f a n
on_got nothing f = nothing

infixl 1 ◌>>=◌
abbrev pub ◌>>=◌ : {A B : Type 0} → Reader A → (A → Reader B) → Reader B
◌>>=◌ r f bytes = on_got (r bytes) (λ a n. wide n (f a (drop n bytes)))

abbrev pub return : {A : Type 0} → A → Reader A
return a bytes = got a 0

-- the byte at the head; 256, which is no byte, at the end
unfoldable pub head : List ℕ → ℕ
head [] = 256
head (c ∷ r) = c

-- the byte c
unfoldable pub byte : ℕ → Reader Bool
byte c bytes = cond (eqb (head bytes) c) (got true 1) nothing

-- whether the byte c stands here; if so it is taken
unfoldable pub optional : ℕ → Reader Bool
optional c bytes = cond (eqb (head bytes) c) (got true 1) (got false 0)

abbrev pub is_digit : ℕ → Bool
is_digit c = cond (leb 48 c) (leb c 57) false

-- digits, one or more, as a number
unfoldable pub digits : (sofar : ℕ) → List ℕ → ℕ
digits v [] = v
digits v (c ∷ r) = cond (is_digit c) (digits (capped (v * 10 + (c - 48))) r) v

unfoldable pub digit_count : List ℕ → ℕ
digit_count [] = 0
digit_count (c ∷ r) = cond (is_digit c) (suc (digit_count r)) 0

unfoldable pub decimal : Reader ℕ
decimal bytes = cond (is_digit (head bytes)) (got (digits 0 bytes) (digit_count bytes)) nothing
