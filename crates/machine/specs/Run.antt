-- A run by its budget (document 01, "Machine" and "Stops").
use Rattle.std.specs.Prelude.{ℕ, zero, suc, ◌+◌, ◌-◌, cond, ◌&&◌, List, length, eqb, leb}
use Rattle.machine.specs.State.{State, at, start_registers}
use Rattle.machine.specs.Step.{StepResult, done, finished, stopped, step}

-- the stop, the number of instructions done, and the state at the end: registers, memory, output, input taken, output written
pub record Outcome : Type 0 where
  pub stop : ℕ
  pub count : ℕ
  pub state : State

abbrev pub after : ℕ → Outcome → Outcome
after n o = record { stop = o.stop; count = n + o.count; state = o.state }

-- 30: finished, which is counted. On any other stop the state is the one before the instruction met
abbrev pub on_result : State → StepResult → (State → Outcome) → Outcome
on_result s (done t) more = after 1 (more t)
on_result s (finished t) more = record { stop = 30; count = 1; state = t }
on_result s (stopped k) more = record { stop = k; count = 0; state = s }

-- at most so many instructions; 31: budget
unfoldable pub steps : List ℕ → (budget : ℕ) → State → Outcome
steps input zero s = record { stop = 31; count = 0; state = s }
steps input (suc n) s = on_result s (step input s) (λ t. steps input n t)

-- From any registers and places, as they are handed in: an input place past the end reads -1 and stays, an output place past the room stops
-- 35 at the next write, and what the registers say of the last store stays until an instruction is done.
-- 24: memory of a length other than 512 to 32,768, count 0, nothing changed
unfoldable pub resume : List ℕ → (budget : ℕ) → State → Outcome
resume input n s =
    cond (leb 512 (length s.mem) && leb (length s.mem) 32768)
    (steps input n s)
    (record { stop = 24; count = 0; state = s })

-- a first part that stopped for budget, carried on from the state that it left, with counts that add up; one that stopped otherwise is the
-- whole run (document 02, Req 08)
abbrev pub carried_on : Outcome → (State → Outcome) → Outcome
carried_on o more = cond (eqb o.stop 31) (after o.count (more o.state)) o

-- the largest budget number, and the budget that is left to it after so many instructions, m at most
abbrev pub largest : ℕ
largest = 18446744073709551615

abbrev pub allowed : (count m : ℕ) → ℕ
allowed count m = cond (leb m (largest - count)) m (largest - count)

-- from the start
abbrev pub run : (first : ℕ) (memory input output : List ℕ) (budget : ℕ) → Outcome
run first memory input output n = resume input n (at (start_registers first) memory output)
