-- The machine without the last store, as it was before document 02's Req 07: the definitions of `specs/` over registers that have no such
-- fields. `Unchanged` proves that all else is the same with it.
use Rattle.laws.proofs.Basics.{ℕ, zero, suc, ◌+◌, ◌/◌, ◌%◌, List, Bool, true, false, not, ◌&&◌, cond, length, get_or, set, eqb, ltb, leb}
use Rattle.words.specs.Words.{add, neg, complement}
use Rattle.machine.specs.Outcome.{Out, ok, stop, ◌>>=◌, read, write}
use Rattle.machine.specs.Fetch.{Fetch, bit}
use Rattle.machine.specs.Acts.{Act, unlisted, indirect, negate, invert, back, finish, switch, rdch, wrch, dyadic, act_of, sought}
use Rattle.machine.specs.Step.{Function, L, S, A, J, T, F, K, X, function_of}

-- ---- registers and state

pub record Registers : Type 0 where
  pub a : ℕ
  pub b : ℕ
  pub c : ℕ
  pub p : ℕ
  pub g : ℕ
  pub taken : ℕ
  pub written : ℕ

pub record State : Type 0 where
  pub regs : Registers
  pub mem : List ℕ
  pub out : List ℕ

abbrev pub at : Registers → List ℕ → List ℕ → State
at r m o = record { regs = r; mem = m; out = o }

abbrev pub start_registers : ℕ → Registers
start_registers first = record { a = 0; b = 0; c = 0; p = first; g = 16; taken = 0; written = 0 }

abbrev pub with_a : ℕ → Registers → Registers
with_a v r = record { a = v; b = r.b; c = r.c; p = r.p; g = r.g; taken = r.taken; written = r.written }

abbrev pub with_c : ℕ → Registers → Registers
with_c v r = record { a = r.a; b = r.b; c = v; p = r.p; g = r.g; taken = r.taken; written = r.written }

abbrev pub loaded : ℕ → Registers → Registers
loaded v r = record { a = v; b = r.a; c = r.c; p = r.p; g = r.g; taken = r.taken; written = r.written }

abbrev pub framed : (p c : ℕ) → Registers → Registers
framed p c r = record { a = r.a; b = r.b; c = c; p = p; g = r.g; taken = r.taken; written = r.written }

abbrev pub took : ℕ → Registers → Registers
took v r = record { a = v; b = r.b; c = r.c; p = r.p; g = r.g; taken = r.taken + 1; written = r.written }

abbrev pub wrote : Registers → Registers
wrote r = record { a = r.a; b = r.b; c = r.c; p = r.p; g = r.g; taken = r.taken; written = r.written + 1 }

-- ---- the fetch and the acts

unfoldable pub fetch : Registers → List ℕ → Out Fetch
fetch r memory = do
  w ← read memory r.c
  n ← cond (bit 512 w) (read memory (add r.c 1)) (ok (w % 512))
  let sum = add (add n (cond (bit 2048 w) r.p 0)) (cond (bit 1024 w) r.g 0)
  x ← cond (bit 4096 w) (read memory sum) (ok sum)
  ok (record { function = w / 8192; operand = x; past = add r.c (cond (bit 512 w) 2 1) })

unfoldable pub indirected : Registers → List ℕ → Out Registers
indirected r memory = do
  v ← read memory r.a
  ok (with_a v r)

unfoldable pub returned : Registers → List ℕ → Out Registers
returned r memory = do
  c ← read memory (add r.p 1)
  p ← read memory r.p
  ok (framed p c r)

unfoldable pub combined : (ℕ → ℕ → Out ℕ) → Registers → Out Registers
combined f r = do
  v ← f r.b r.a
  ok (with_a v r)

unfoldable pub switched : Registers → List ℕ → Out Registers
switched r memory = do
  n ← read memory r.c
  default ← read memory (add r.c 1)
  c ← sought memory r.a default n (add r.c 2)
  ok (with_c c r)

unfoldable pub received : Registers → List ℕ → Registers
received r input = cond (ltb r.taken (length input)) (took (get_or input r.taken 0) r) (with_a 65535 r)

unfoldable pub sent : State → Out State
sent s = cond (ltb s.regs.written (length s.out)) (ok (at (wrote s.regs) s.mem (set s.out s.regs.written (s.regs.a % 256))))
    (stop 35)

-- ---- one instruction

pub data StepResult : Type 0 where
  done finished : State → StepResult
  stopped : ℕ → StepResult

abbrev pub result_of : Out State → StepResult
result_of (ok s) = done s
result_of (stop k) = stopped k

unfoldable pub keep : State → Out Registers → StepResult
keep s (ok r) = done (at r s.mem s.out)
keep s (stop k) = stopped k

unfoldable pub stored : ℕ → State → Out State
stored x s = do
  m ← write s.mem x s.regs.a
  ok (at s.regs m s.out)

unfoldable pub called : ℕ → State → Out State
called x s = do
  let p = add s.regs.p x
  m ← write s.mem p s.regs.p
  n ← write m (add p 1) s.regs.c
  ok (at (framed p s.regs.a s.regs) n s.out)

unfoldable pub jumped : Bool → ℕ → Registers → Registers
jumped true x r = with_c x r
jumped false x r = r

unfoldable pub perform : List ℕ → Act → State → StepResult
perform input unlisted s = stopped 34
perform input indirect s = keep s (indirected s.regs s.mem)
perform input negate s = keep s (ok (with_a (neg s.regs.a) s.regs))
perform input invert s = keep s (ok (with_a (complement s.regs.a) s.regs))
perform input back s = keep s (returned s.regs s.mem)
perform input (dyadic f) s = keep s (combined f s.regs)
perform input finish s = finished s
perform input switch s = keep s (switched s.regs s.mem)
perform input rdch s = keep s (ok (received s.regs input))
perform input wrch s = result_of (sent s)

unfoldable pub execute : List ℕ → Function → ℕ → State → StepResult
execute input L x s = keep s (ok (loaded x s.regs))
execute input S x s = result_of (stored x s)
execute input A x s = keep s (ok (with_a (add s.regs.a x) s.regs))
execute input J x s = keep s (ok (with_c x s.regs))
execute input T x s = keep s (ok (jumped (not (eqb s.regs.a 0)) x s.regs))
execute input F x s = keep s (ok (jumped (eqb s.regs.a 0) x s.regs))
execute input K x s = result_of (called x s)
execute input X x s = perform input (act_of x) s

abbrev pub on_fetch : List ℕ → State → Out Fetch → StepResult
on_fetch input s (ok f) = execute input (function_of f.function) f.operand (at (with_c f.past s.regs) s.mem s.out)
on_fetch input s (stop k) = stopped k

unfoldable pub step : List ℕ → State → StepResult
step input s = on_fetch input s (fetch s.regs s.mem)

-- ---- a run

pub record Outcome : Type 0 where
  pub stop : ℕ
  pub count : ℕ
  pub state : State

abbrev pub after : ℕ → Outcome → Outcome
after n o = record { stop = o.stop; count = n + o.count; state = o.state }

abbrev pub on_result : State → StepResult → (State → Outcome) → Outcome
on_result s (done t) more = after 1 (more t)
on_result s (finished t) more = record { stop = 30; count = 1; state = t }
on_result s (stopped k) more = record { stop = k; count = 0; state = s }

unfoldable pub steps : List ℕ → (budget : ℕ) → State → Outcome
steps input zero s = record { stop = 31; count = 0; state = s }
steps input (suc n) s = on_result s (step input s) (λ t. steps input n t)

unfoldable pub resume : List ℕ → (budget : ℕ) → State → Outcome
resume input n s = cond (leb 512 (length s.mem) && leb (length s.mem) 32768) (steps input n s) (record { stop = 24; count = 0; state = s })

abbrev pub run : (first : ℕ) (memory input output : List ℕ) (budget : ℕ) → Outcome
run first memory input output n = resume input n (at (start_registers first) memory output)
