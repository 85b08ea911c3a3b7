-- The fetch of an instruction and its operand (document 01, "Machine"):
-- "A word: function x 8192, I 4096, P 2048, G 1024, D 512, address 0 to 511. With D the operand is the next word.
-- Then P and G are added, then I fetches; address sums are modulo 65,536."
use Rattle.std.specs.Prelude.{ℕ, ◌/◌, ◌%◌, Bool, cond, List, eqb}
use Rattle.words.specs.Words.{add}
use Rattle.machine.specs.Outcome.{Out, ok, ◌>>=◌, read}
use Rattle.machine.specs.declared.Registers.{Registers}

-- the bit of a weight
abbrev pub bit : (weight : ℕ) → ℕ → Bool
bit weight w = eqb (w / weight % 2) 1

-- the function's number, the operand, and the address past the instruction
pub record Fetch : Type 0 where
  pub function : ℕ
  pub operand : ℕ
  pub past : ℕ

unfoldable pub fetch : Registers → List ℕ → Out Fetch
fetch r memory = do
  w ← read memory r.c
  n ← cond (bit 512 w) (read memory (add r.c 1)) (ok (w % 512))
  let sum = add (add n (cond (bit 2048 w) r.p 0)) (cond (bit 1024 w) r.g 0)
  x ← cond (bit 4096 w) (read memory sum) (ok sum)
  ok (record { function = w / 8192; operand = x; past = add r.c (cond (bit 512 w) 2 1) })
