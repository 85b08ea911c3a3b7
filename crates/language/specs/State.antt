-- The state of a source run, and what may come of a part of it (document 01, "The source run").
use Rattle.std.specs.Prelude.{ℕ, suc, cond, List, eqb, leb}

-- a word of memory: no global, string word or live named word; live, and not stored since its declaration; or stored
pub data Cell : Type 0 where
  gone : Cell
  unset : Cell
  holds : (value : ℕ) → Cell

-- a routine's call has no value, nor has a VALOF that ended without RESULTIS
pub data Value : Type 0 where
  absent : Value
  word : (value : ℕ) → Value

-- the words of memory by address, the input taken, the output so far, the steps, and the greatest use: the largest frame base and height together
pub record State : Type 0 where
  pub cells : ℕ → Cell
  pub taken : ℕ
  pub output : List ℕ
  pub steps : ℕ
  pub used : ℕ

-- a part of the run: not over within the fuel, an undefined act, FINISH, RETURN from a routine, or a result
pub data Result (A : Type 0) : Type 0 where
  unfinished : Result A
  undefined : Result A
  finished : State → Result A
  returned : State → Result A
  ok : A → State → Result A

unfoldable pub bind : {A B : Type 0} → Result A → (A → State → Result B) → Result B
bind unfinished f = unfinished
bind undefined f = undefined
bind (finished s) f = finished s
bind (returned s) f = returned s
bind (ok a s) f = f a s

-- one step more
abbrev pub step : State → State
step s = record { cells = s.cells; taken = s.taken; output = s.output; steps = suc s.steps; used = s.used }

abbrev pub with_cells : (ℕ → Cell) → State → State
with_cells c s = record { cells = c; taken = s.taken; output = s.output; steps = s.steps; used = s.used }

-- one word put anew
abbrev pub put : (address : ℕ) → Cell → State → State
put a c s = with_cells (λ b. cond (eqb b a) c (s.cells b)) s

-- the words from an address on are live no longer
abbrev pub forget : (address : ℕ) → State → State
forget a s = with_cells (λ b. cond (leb a b) gone (s.cells b)) s

-- reading a word that is gone or not stored is undefined, and so is writing one that is gone
abbrev pub read_cell : Cell → State → Result Value
read_cell gone s = undefined
read_cell unset s = undefined
read_cell (holds v) s = ok (word v) s

abbrev pub read : (address : ℕ) → State → Result Value
read a s = read_cell (s.cells a) s

abbrev pub write_cell : {A : Type 0} → Cell → Result A → Result A
write_cell gone more = undefined
write_cell unset more = more
write_cell (holds w) more = more

abbrev pub write : {A : Type 0} → (address value : ℕ) → State → (State → Result A) → Result A
write a v s more = write_cell (s.cells a) (more (put a (holds v) s))

-- using a value that is absent is undefined
abbrev pub demand : {A : Type 0} → Value → (ℕ → Result A) → Result A
demand absent more = undefined
demand (word v) more = more v
