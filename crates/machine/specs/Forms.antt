-- The fetch by its parts, as the code goes. Only private functions' contracts cite these.
use Rattle.std.specs.Prelude.{ℕ, ◌/◌, ◌%◌, cond, List}
use Rattle.words.specs.Words.{add}
use Rattle.machine.specs.Outcome.{Out, ok, ◌>>=◌, read}
use Rattle.machine.specs.Fetch.{Fetch, bit}
use Rattle.machine.specs.declared.Registers.{Registers}

-- a function with the word at i as its operand
unfoldable pub fetched_at : List ℕ → (f i past : ℕ) → Out Fetch
fetched_at memory f i past = do
  x ← read memory i
  ok (record { function = f; operand = x; past = past })

-- the function of w, its operand made from n
unfoldable pub fetched_from : Registers → List ℕ → (w n past : ℕ) → Out Fetch
fetched_from r memory w n past = do
  let sum = add (add n (cond (bit 2048 w) r.p 0)) (cond (bit 1024 w) r.g 0)
  x ← cond (bit 4096 w) (read memory sum) (ok sum)
  ok (record { function = w / 8192; operand = x; past = past })

-- the instruction at C, its word being w
unfoldable pub decoded : Registers → List ℕ → ℕ → Out Fetch
decoded r memory w = do
  n ← cond (bit 512 w) (read memory (add r.c 1)) (ok (w % 512))
  fetched_from r memory w n (add r.c (cond (bit 512 w) 2 1))
