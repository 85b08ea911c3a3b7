-- What a part of an instruction gives: its value, or the number of the stop (document 01, "Stops").
-- A stop carries no state, so the instruction met is not done.
use Rattle.std.specs.Prelude.{ℕ, cond, List, length, get_or, set, ltb}

pub data Out (A : Type 0) : Type 0 where
  ok : A → Out A
  stop : ℕ → Out A

infixl 1 ◌>>=◌
abbrev pub ◌>>=◌ : {A B : Type 0} → Out A → (A → Out B) → Out B
◌>>=◌ (ok a) f = f a
◌>>=◌ (stop k) f = stop k

-- 32: an address at or past the memory
unfoldable pub read : List ℕ → ℕ → Out ℕ
read memory i = cond (ltb i (length memory)) (ok (get_or memory i 0)) (stop 32)

unfoldable pub write : List ℕ → ℕ → ℕ → Out (List ℕ)
write memory i v = cond (ltb i (length memory)) (ok (set memory i v)) (stop 32)
