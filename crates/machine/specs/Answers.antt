-- What the code's answers say of the definitions' outcomes.
use Rattle.std.specs.Prelude.{ℕ, ◌+◌, ◌≤◌, ◌≡◌, List, Result, Ok, Err}
use Rattle.machine.specs.Stops.{number_of}
use Rattle.machine.specs.Outcome.{Out, ok, stop, ◌>>=◌}
use Rattle.machine.specs.State.{State, at, with_c}
use Rattle.machine.specs.Fetch.{Fetch}
use Rattle.machine.specs.Step as S
use Rattle.machine.specs.Run.{Outcome, resume, carried_on, largest, allowed}
use Rattle.machine.specs.declared.Registers.{Registers}
use Rattle.machine.specs.declared.Ran.{Ran}
use Rattle.machine.specs.declared.stops.Stop.{Stop}
use Rattle.machine.specs.declared.Progress.{Progress}
use Rattle.machine.specs.declared.Progress.TheVariants as T
use Rattle.machine.specs.declared.Fetched.{Fetched}

-- a part's answer: its value, or the number of the stop that it names
abbrev pub out_of : {A : Type 0} → Result A Stop → Out A
out_of (Ok a) = ok a
out_of (Err s) = stop (number_of s)

-- a fetch with registers: C goes past the instruction
abbrev pub fetched_by : Registers → (function operand past : ℕ) → Fetched
fetched_by r f x past = record { function = f; operand = x; registers = with_c past r }

abbrev pub as_fetched : Registers → Out Fetch → Out Fetched
as_fetched r o = o >>= λ (f : Fetch). ok (fetched_by r f.function f.operand f.past)

-- a step's answer, with the memory and output at exit
abbrev pub step_of : Result Progress Stop → (memory output : List ℕ) → S.StepResult
step_of (Ok (T.Done r)) memory output = S.done (at r memory output)
step_of (Ok (T.Finished r)) memory output = S.finished (at r memory output)
step_of (Err s) memory output = S.stopped (number_of s)

-- document 01's numbers of a step: 30 finished, or the stop, and 0 where the run goes on
abbrev pub number_in : S.StepResult → ℕ
number_in (S.done t) = 0
number_in (S.finished t) = 30
number_in (S.stopped k) = k

abbrev pub number_of_step : Result Progress Stop → ℕ
number_of_step (Ok (T.Done r)) = 0
number_of_step (Ok (T.Finished r)) = 30
number_of_step (Err s) = number_of s

-- an answer's registers, which a stop leaves as they were
abbrev pub registers_of : Registers → Result Progress Stop → Registers
registers_of r (Ok (T.Done t)) = t
registers_of r (Ok (T.Finished t)) = t
registers_of r (Err s) = r

-- where a step leaves the state: a stop leaves it as it was
unfoldable pub left : State → S.StepResult → State
left s (S.done t) = t
left s (S.finished t) = t
left s (S.stopped k) = s

-- an answer, and the lent memory and output at exit, are what a step from a state gives
pub record Steps (s : State) (result : S.StepResult) (answer : Result Progress Stop) (memory output : List ℕ) : Type 0 where
  pub answers : step_of answer memory output ≡ result
  pub stops : number_of_step answer ≡ number_in result
  pub leaves : registers_of s.regs answer ≡ (left s result).regs
  pub stores : memory ≡ (left s result).mem
  pub writes : output ≡ (left s result).out

-- a run's answer, and the lent memory and output at exit, are what the definition gives
pub record Ends (outcome : Outcome) (answer : Ran) (memory output : List ℕ) : Type 0 where
  pub stops : answer.stop ≡ outcome.stop
  pub counts : answer.count ≡ outcome.count
  pub leaves : answer.registers ≡ outcome.state.regs
  pub stores : memory ≡ outcome.state.mem
  pub writes : output ≡ outcome.state.out

-- a run as it came out
abbrev pub outcome_of : Ran → (memory output : List ℕ) → Outcome
outcome_of ran memory output = record { stop = ran.stop; count = ran.count; state = at ran.registers memory output }

-- a first part, as it came out, carried on with budget m in the same memory and output
pub record CarriesOn (input : List ℕ) (first : Ran) (memory output : List ℕ) (m : ℕ) (answer : Ran) (memory' output' : List ℕ) : Type 0 where
  -- any first part: with m, or what is left to the largest budget number
  pub carries : Ends (carried_on (outcome_of first memory output) (λ t. resume input (allowed first.count m) t)) answer memory' output'
  -- the first part of a run with budget n: what one run with n + m gives
  pub whole : (n : ℕ) (s : State) → n + m ≤ largest → Ends (resume input n s) first memory output
      → Ends (resume input (n + m) s) answer memory' output'
