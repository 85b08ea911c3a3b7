-- What the functions' proofs cite: each part's outcome from those of its own parts.
use Rattle.laws.proofs.Basics.{ℕ, zero, suc, ◌+◌, ◌-◌, ◌<◌, ◌≤◌, ◌≡◌, refl, sym, ap, ◌∙◌, List, arith}
use Rattle.laws.proofs.Basics.{eq-eqb, ne_eqb}
use Rattle.std.proofs.Common.{Result, Ok, Err}
use Rattle.words.specs.Words.{add}
use Rattle.machine.specs.Outcome.{Out, ok, stop, read}
use Rattle.machine.specs.State.{State}
use Rattle.machine.specs.Acts.{sought}
use Rattle.machine.specs.Step.{StepResult, keep}
use Rattle.machine.specs.Stops.{number_of}
use Rattle.machine.specs.Answers.{out_of, step_of, number_in, number_of_step, registers_of, left, Steps}
use Rattle.machine.specs.declared.Registers.{Registers}
use Rattle.machine.specs.declared.stops.Stop.{Stop}
use Rattle.machine.specs.declared.Progress.{Progress}
use Rattle.machine.specs.declared.Progress.TheVariants as T

-- ---- a step, from an outcome

numbers : (d : Result Progress Stop) (m o : List ℕ) → number_of_step d ≡ number_in (step_of d m o)
numbers (Ok (T.Done r)) m o = refl
numbers (Ok (T.Finished r)) m o = refl
numbers (Err k) m o = refl

registers : (s : State) (d : Result Progress Stop) (m o : List ℕ) → registers_of s.regs d ≡ (left s (step_of d m o)).regs
unfolding left
registers s (Ok (T.Done r)) m o = refl
registers s (Ok (T.Finished r)) m o = refl
registers s (Err k) m o = refl

pub steps_by : (s : State) (t : StepResult) {d : Result Progress Stop} {m o : List ℕ} → step_of d m o ≡ t → m ≡ (left s t).mem → o ≡ (left s t).out
    → Steps s t d m o
steps_by s t {d = d} {m = m} {o = o} e f g = record {
  answers = e;
  stops = numbers d m o ∙ ap number_in e;
  leaves = registers s d m o ∙ ap (λ (u : StepResult). (left s u).regs) e;
  stores = f;
  writes = g;
}

-- an act on the registers, by its answer
module _ (s : State) (o : Out Registers) {a : Result Registers Stop} (p : out_of a ≡ o) where
  pub kept_ok : {r : Registers} → a ≡ Ok r → Steps s (keep s o) (Ok (T.Done r)) s.mem s.out
  unfolding keep left
  kept_ok q = rw (← p, q) (steps_by s _ refl refl refl)

  pub kept_err : {k : Stop} → a ≡ Err k → Steps s (keep s o) (Err k) s.mem s.out
  unfolding keep left
  kept_err q = rw (← p, q) (steps_by s _ refl refl refl)

-- ---- act 23: one pair passed, the pair found, a number past the memory

module _ (m : List ℕ) (a d : ℕ) where
  search-next : (n i : ℕ) {v j : ℕ} → 0 < n → read m i ≡ ok v → (v ≡ a → ⊥) → j ≡ add i 2 → sought m a d n i ≡ sought m a d (n - 1) j
  unfolding sought
  search-next zero i h e ne q = absurd (omega arith)
  search-next (suc k) i h e ne q = let s : suc k - 1 ≡ k = omega arith in simp (e, ne_eqb _ _ ne, q, s)

  search-hit : (n i : ℕ) {v : ℕ} → 0 < n → read m i ≡ ok v → v ≡ a → sought m a d n i ≡ read m (add i 1)
  unfolding sought
  search-hit zero i h e q = absurd (omega arith)
  search-hit (suc k) i h e q = simp (e, eq-eqb _ _ q)

  search-past : (n i : ℕ) {k : ℕ} → 0 < n → read m i ≡ stop k → sought m a d n i ≡ stop k
  unfolding sought
  search-past zero i h e = absurd (omega arith)
  search-past (suc l) i h e = simp e

-- where the whole search is what is left of it, from pair k of n on, at i
module _ (m : List ℕ) (a d n k i : ℕ) {o : Out ℕ} (inv : o ≡ sought m a d (n - k) i) where
  pub sought_none : n ≤ k → ok d ≡ o
  unfolding sought
  sought_none z = let e : n - k ≡ 0 = omega arith in let q : o ≡ sought m a d 0 i = rw e at inv in simp q

  module _ (h : k < n) {w : Result ℕ Stop} (p : out_of w ≡ read m i) where
    pub sought_stops : {s : Stop} {r : Out ℕ} → w ≡ Err s → r ≡ stop (number_of s) → r ≡ o
    sought_stops q e = e ∙ sym (inv ∙ search-past m a d (n - k) i (omega arith) (sym p ∙ ap out_of q))

    pub sought_hits : {v j : ℕ} {r : Out ℕ} → w ≡ Ok v → v ≡ a → j ≡ add i 1 → r ≡ read m j → r ≡ o
    sought_hits q e hj hr = rw hj at hr ∙ sym (inv ∙ search-hit m a d (n - k) i (omega arith) (sym p ∙ ap out_of q) e)

    pub sought_goes : {v j : ℕ} → w ≡ Ok v → (v ≡ a → ⊥) → j ≡ add i 2 → o ≡ sought m a d (n - (k + 1)) j
    sought_goes q e hj = let z : n - (k + 1) ≡ n - k - 1 = omega arith in
        rw z (inv ∙ search-next m a d (n - k) i (omega arith) (sym p ∙ ap out_of q) e hj)
