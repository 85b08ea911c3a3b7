-- One instruction (document 01, "Machine" and "Stops"). Checks: budget (in Run), fetch, operand, act.
use Rattle.std.specs.Prelude.{ℕ, Bool, true, false, not, List, [], ◌∷◌, get_or, eqb}
use Rattle.words.specs.Words.{add, neg, complement}
use Rattle.machine.specs.Outcome.{Out, ok, stop, ◌>>=◌, write}
use Rattle.machine.specs.State.{State, at, with_a, with_c, loaded, framed, having_stored}
use Rattle.machine.specs.Fetch.{Fetch, fetch}
use Rattle.machine.specs.Acts.{Act, unlisted, indirect, negate, invert, back, finish, switch, rdch, wrch, dyadic, act_of, indirected, returned}
use Rattle.machine.specs.Acts.{combined, switched, received, sent}
use Rattle.machine.specs.declared.Registers.{Registers}

-- an instruction is done, is done and finishes the run, or is not done because of a stop
pub data StepResult : Type 0 where
  done finished : State → StepResult
  stopped : ℕ → StepResult

abbrev pub result_of : Out State → StepResult
result_of (ok s) = done s
result_of (stop k) = stopped k

-- the state with what an act on the registers gives
unfoldable pub keep : State → Out Registers → StepResult
keep s (ok r) = done (at r s.mem s.out)
keep s (stop k) = stopped k

-- 1 S: stores A, one word
unfoldable pub stored : ℕ → State → Out State
stored x s = do
  m ← write s.mem x s.regs.a
  ok (at (having_stored x 1 s.regs) m s.out)

-- 6 K: at P+operand store P and C, two words; P becomes it; C:=A. Both words are checked before either is stored: a stop keeps the memory
unfoldable pub called : ℕ → State → Out State
called x s = do
  let p = add s.regs.p x
  m ← write s.mem p s.regs.p
  n ← write m (add p 1) s.regs.c
  ok (at (having_stored p 2 (framed p s.regs.a s.regs)) n s.out)

-- 3 J, 4 T, 5 F: C becomes the operand where the test holds
unfoldable pub jumped : Bool → ℕ → Registers → Registers
jumped true x r = with_c x r
jumped false x r = r

-- 7 X. 34: X number not listed
unfoldable pub perform : List ℕ → Act → State → StepResult
perform input unlisted s = stopped 34
perform input indirect s = keep s (indirected s.regs s.mem)
perform input negate s = keep s (ok (with_a (neg s.regs.a) s.regs))
perform input invert s = keep s (ok (with_a (complement s.regs.a) s.regs))
perform input back s = keep s (returned s.regs s.mem)
perform input (dyadic f) s = keep s (combined f s.regs)
perform input finish s = finished s
perform input switch s = keep s (switched s.regs s.mem)
perform input rdch s = keep s (ok (received s.regs input))
perform input wrch s = result_of (sent s)

pub data Function : Type 0 where
  L S A J T F K X : Function

abbrev pub functions : List Function
functions = L ∷ S ∷ A ∷ J ∷ T ∷ F ∷ K ∷ []

abbrev pub function_of : ℕ → Function
function_of n = get_or functions n X

-- what a function does with its operand, C being past the instruction
unfoldable pub execute : List ℕ → Function → ℕ → State → StepResult
execute input L x s = keep s (ok (loaded x s.regs))
execute input S x s = result_of (stored x s)
execute input A x s = keep s (ok (with_a (add s.regs.a x) s.regs))
execute input J x s = keep s (ok (with_c x s.regs))
execute input T x s = keep s (ok (jumped (not (eqb s.regs.a 0)) x s.regs))
execute input F x s = keep s (ok (jumped (eqb s.regs.a 0) x s.regs))
execute input K x s = result_of (called x s)
execute input X x s = perform input (act_of x) s

abbrev pub on_fetch : List ℕ → State → Out Fetch → StepResult
on_fetch input s (ok f) = execute input (function_of f.function) f.operand (at (with_c f.past s.regs) s.mem s.out)
on_fetch input s (stop k) = stopped k

unfoldable pub step : List ℕ → State → StepResult
step input s = on_fetch input s (fetch s.regs s.mem)
