-- One instruction, and a run of them: what `step`, `run_steps` and `resume` cite.
use Rattle.laws.proofs.Basics.{ℕ, zero, suc, ◌+◌, ◌-◌, ◌<◌, ◌≤◌, ◌≡◌, refl, sym, ap, ◌∙◌, List, length, arith, leb, leb-true, le-leb}
use Rattle.laws.proofs.Cases.{contradiction, by_cases}
use Rattle.machine.specs.Outcome.{Out, ok, stop}
use Rattle.machine.specs.State.{State, at, with_c, start_registers}
use Rattle.machine.specs.Fetch.{Fetch, fetch}
use Rattle.machine.specs.Step.{StepResult, done, finished, stopped, function_of, execute, on_fetch, step}
use Rattle.machine.specs.Run.{Outcome, after, on_result, steps, resume, run}
use Rattle.machine.specs.Stops.{number_of}
use Rattle.machine.specs.Answers.{out_of, fetched_by, as_fetched, step_of, left, Steps, Ends}
use Rattle.machine.specs.declared.Registers.{Registers}
use Rattle.machine.specs.declared.Ran.{Ran}
use Rattle.machine.specs.declared.Fetched.{Fetched}
use Rattle.machine.specs.declared.stops.Stop.{Stop}
use Rattle.machine.specs.declared.Progress.{Progress}
use Rattle.machine.specs.declared.Progress.TheVariants as T
use Rattle.machine.proofs.Laws.{steps_by}
use Rattle.std.proofs.Common.{Result, Ok, Err}

-- ---- one instruction, from the fetch's answer

-- a step said from a state with other registers
from-other : (r r' : Registers) (m out : List ℕ) (t : StepResult) {d : Result Progress Stop} {m' o' : List ℕ} → Steps (at r' m out) t d m' o'
    → Steps (at r m out) t d m' o'
unfolding left
from-other r r' m out (done t) h = steps_by _ _ h.answers h.stores h.writes
from-other r r' m out (finished t) h = steps_by _ _ h.answers h.stores h.writes
from-other r r' m out (stopped k) h = steps_by _ _ h.answers h.stores h.writes

module _ (input : List ℕ) (r : Registers) (m out : List ℕ) where
  step-from : (o : Out Fetch) → fetch r m ≡ o → step input (at r m out) ≡ on_fetch input (at r m out) o
  unfolding step
  step-from o e = simp e

  pub step_stop : {a : Result Fetched Stop} {k : Stop} → out_of a ≡ as_fetched r (fetch r m) → a ≡ Err k → Steps (at r m out) (step input (at r m out)) (Err k) m out
  unfolding left
  step_stop {k = k} p q = go (fetch r m) refl
    where
      go : (o : Out Fetch) → fetch r m ≡ o → Steps (at r m out) (step input (at r m out)) (Err k) m out
      go (ok f) e = let z : stop (number_of k) ≡ as_fetched r (ok f) = ap out_of (sym q) ∙ p ∙ ap (as_fetched r) e in contradiction cc
      go (stop l) e = let z : stop (number_of k) ≡ as_fetched r (stop l) = ap out_of (sym q) ∙ p ∙ ap (as_fetched r) e in
          let w : l ≡ number_of k = cc in rw (step-from (stop l) e, w) (steps_by _ _ refl refl refl)

  pub step_one : {a : Result Fetched Stop} {f : Fetched} {d : Result Progress Stop} {m' o' : List ℕ} → out_of a ≡ as_fetched r (fetch r m) → a ≡ Ok f
      → Steps (at f.registers m out) (execute input (function_of f.function) f.operand (at f.registers m out)) d m' o'
      → Steps (at r m out) (step input (at r m out)) d m' o'
  step_one {f = f} {d = d} {m' = m'} {o' = o'} p q h = go (fetch r m) refl
    where
      go : (o : Out Fetch) → fetch r m ≡ o → Steps (at r m out) (step input (at r m out)) d m' o'
      go (ok g) e = let z : ok f ≡ as_fetched r (ok g) = ap out_of (sym q) ∙ p ∙ ap (as_fetched r) e in
          let w : f ≡ fetched_by r g.function g.operand g.past = cc in
          rw (step-from (ok g) e) (from-other r (with_c g.past r) m out _ (rw w at h))
      go (stop l) e = let z : ok f ≡ as_fetched r (stop l) = ap out_of (sym q) ∙ p ∙ ap (as_fetched r) e in contradiction cc

-- ---- a run's first step

pub steps_first : (input : List ℕ) (n : ℕ) (s : State) → 0 < n → steps input n s ≡ on_result s (step input s) (λ t. steps input (n - 1) t)
unfolding steps
steps_first input zero s h = absurd (omega arith)
steps_first input (suc n) s h = let z : suc n - 1 ≡ n = omega arith in simp z

after-after : (a b c : ℕ) (o : Outcome) → a + b ≡ c → after a (after b o) ≡ after c o
after-after a b c o e = let z : a + (b + o.count) ≡ c + o.count = omega arith in λ i. record { stop = o.stop; count = z i; state = o.state }

-- ---- the loop: the whole run is what is left of it, after the instructions done

pub record Left (input : List ℕ) (budget : ℕ) (s₀ : State) (rest : ℕ) (s : State) : Type 0 where
  pub within : rest ≤ budget
  pub whole : steps input budget s₀ ≡ after (budget - rest) (steps input rest s)

pub left_all : (input : List ℕ) (n : ℕ) (s : State) → Left input n s n s
left_all input n s = let z : (steps input n s).count ≡ n - n + (steps input n s).count = omega arith in
    record { within = omega arith; whole = λ i. record { stop = (steps input n s).stop; count = z i; state = (steps input n s).state } }

module _ (input : List ℕ) (n : ℕ) (s₀ : State) (rest : ℕ) (r : Registers) (m out : List ℕ) (h : Left input n s₀ rest (at r m out)) where
  pub left_out : rest ≤ 0 → Ends (steps input n s₀) (record { stop = 31; count = n; registers = r }) m out
  unfolding steps
  left_out z = let e : rest ≡ 0 = omega arith in
      let q : steps input n s₀ ≡ after (n - 0) (steps input 0 (at r m out)) = rw e at h.whole in
      rw q (record { stops = refl; counts = omega arith; leaves = refl; stores = refl; writes = refl })

  module _ (pos : 0 < rest) {d : Result Progress Stop} {m' out' : List ℕ} (did : Steps (at r m out) (step input (at r m out)) d m' out') where
    -- the definition's step, from the answer
    is : {e : Result Progress Stop} → d ≡ e → step input (at r m out) ≡ step_of e m' out'
    is q = sym did.answers ∙ ap (λ (e : Result Progress Stop). step_of e m' out') q

    first : {t : StepResult} → step input (at r m out) ≡ t
        → steps input n s₀ ≡ after (n - rest) (on_result (at r m out) t (λ u. steps input (rest - 1) u))
    first e = h.whole ∙ ap (after (n - rest)) (steps_first input rest (at r m out) pos ∙
        ap (λ (t : StepResult). on_result (at r m out) t (λ u. steps input (rest - 1) u)) e)

    pub left_goes : {t : Registers} → d ≡ Ok (T.Done t) → Left input n s₀ (rest - 1) (at t m' out')
    left_goes q = let le = h.within in record {
      within = omega arith;
      whole = first (is q) ∙ after-after (n - rest) 1 (n - (rest - 1)) _ (omega arith);
    }

    pub left_finish : {t : Registers} {l : ℕ} → d ≡ Ok (T.Finished t) → l ≡ 30
        → Ends (steps input n s₀) (record { stop = l; count = n - rest + 1; registers = t }) m' out'
    left_finish q hl = rw (first (is q)) (record { stops = hl; counts = refl; leaves = refl; stores = refl; writes = refl })

    pub left_stop : {k : Stop} {l : ℕ} → d ≡ Err k → l ≡ number_of k → Ends (steps input n s₀) (record { stop = l; count = n - rest; registers = r }) m' out'
    unfolding left
    left_stop {k} q hl = let z : step input (at r m out) ≡ stopped (number_of k) = is q in
        rw (first z) (record { stops = hl; counts = omega arith; leaves = refl; stores = rw z at did.stores; writes = rw z at did.writes })

-- ---- the memory's length

module _ (input : List ℕ) (n : ℕ) (r : Registers) (m out : List ℕ) where
  refused : {k : ℕ} → resume input n (at r m out) ≡ record { stop = 24; count = 0; state = at r m out } → k ≡ 24
      → Ends (resume input n (at r m out)) (record { stop = k; count = 0; registers = r }) m out
  refused e q = rw e (record { stops = q; counts = refl; leaves = refl; stores = refl; writes = refl })

  pub resume_refused : {k : ℕ} → (512 ≤ length m → length m ≤ 32768 → ⊥) → k ≡ 24
      → Ends (resume input n (at r m out)) (record { stop = k; count = 0; registers = r }) m out
  unfolding resume
  resume_refused h q = by_cases (leb 512 (length m))
      (λ a. by_cases (leb (length m) 32768)
      (λ b. absurd (h (leb-true 512 (length m) a) (leb-true (length m) 32768 b)))
      (λ b. refused (simp (a, b)) q))
      (λ a. refused (simp a) q)

  pub resume_goes : {e : Ran} {m' out' : List ℕ} → 512 ≤ length m → length m ≤ 32768 → Ends (steps input n (at r m out)) e m' out'
      → Ends (resume input n (at r m out)) e m' out'
  unfolding resume
  resume_goes h k z = simp (le-leb 512 (length m) h, le-leb (length m) 32768 k) z

pub run_starts : (input : List ℕ) (n first : ℕ) (m out : List ℕ) {r : Registers} {e : Ran} {m' out' : List ℕ} → r ≡ start_registers first
    → Ends (resume input n (at r m out)) e m' out' → Ends (run first m input out n) e m' out'
run_starts input n first m out q h = rw q at h
