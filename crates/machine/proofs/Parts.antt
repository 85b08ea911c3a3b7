-- A run in parts (document 02, Req 08): with budget n, then carried on with m from what is left, it is the run with n + m; so in any number of
-- parts. What `carry_on` cites.
use Rattle.laws.proofs.Basics.{ℕ, zero, suc, ◌+◌, ◌-◌, ◌≤◌, ◌≡◌, refl, sym, ap, ◌∙◌, List, [], ◌∷◌, ◌&&◌, cond, length, eqb, leb, arith}
use Rattle.laws.proofs.Basics.{eq-eqb, ne_eqb, leb-true, le-leb}
use Rattle.laws.proofs.Cases.{by_cases}
use mir.Syntax.{w64}
use mir.Val.{Fits}
use Rattle.machine.specs.State.{State, at}
use Rattle.machine.specs.Step.{StepResult, done, finished, stopped, step}
use Rattle.machine.specs.Run.{Outcome, after, on_result, steps, resume, carried_on, largest, allowed}
use Rattle.machine.specs.Answers.{Ends, outcome_of, CarriesOn}
use Rattle.machine.specs.declared.Ran.{Ran}
use Rattle.machine.proofs.Budget.{resume-add}

-- ---- two parts, in the request's words

-- one run with n + m, and the two parts
pub record TwoParts (whole first second : Outcome) : Type 0 where
  -- wherever the first part stopped for budget
  pub stops : first.stop ≡ 31 → whole.stop ≡ second.stop
  pub counts : first.stop ≡ 31 → whole.count ≡ first.count + second.count
  -- registers, with the input taken, the output written and the last store; memory; output
  pub leaves : first.stop ≡ 31 → whole.state ≡ second.state
  -- if it stopped otherwise it is the whole run, and m isn't used
  pub otherwise : (first.stop ≡ 31 → ⊥) → whole ≡ first

carried-31 : (o : Outcome) (more : State → Outcome) → o.stop ≡ 31 → carried_on o more ≡ after o.count (more o.state)
carried-31 o more e = simp (eq-eqb _ _ e)

carried_other : (o : Outcome) (more : State → Outcome) → (o.stop ≡ 31 → ⊥) → carried_on o more ≡ o
carried_other o more e = simp (ne_eqb _ _ e)

pub two-parts : (input : List ℕ) (n m : ℕ) (s : State)
    → TwoParts (resume input (n + m) s) (resume input n s) (resume input m (resume input n s).state)
two-parts input n m s = let o = resume input n s in
    let more : State → Outcome = λ t. resume input m t in
    let e = resume-add input n m s in
    record {
      stops = λ z. ap (λ (w : Outcome). w.stop) (e ∙ carried-31 o more z);
      counts = λ z. ap (λ (w : Outcome). w.count) (e ∙ carried-31 o more z);
      leaves = λ z. ap (λ (w : Outcome). w.state) (e ∙ carried-31 o more z);
      otherwise = λ z. e ∙ carried_other o more z;
    }

-- ---- any number of parts

abbrev pub total : List ℕ → ℕ
total [] = 0
total (n ∷ ns) = n + total ns

-- with each budget in turn, a part after one that stopped otherwise than for budget not begun
pub in_parts : List ℕ → List ℕ → State → Outcome
in_parts input [] s = resume input 0 s
in_parts input (n ∷ ns) s = carried_on (resume input n s) (λ t. in_parts input ns t)

carried-alike : (o : Outcome) (f g : State → Outcome) → f o.state ≡ g o.state → carried_on o f ≡ carried_on o g
carried-alike o f g e = ap (λ (w : Outcome). cond (eqb o.stop 31) (after o.count w) o) e

pub parts-are-whole : (input : List ℕ) (ns : List ℕ) (s : State) → in_parts input ns s ≡ resume input (total ns) s
unfolding in_parts
parts-are-whole input [] s = refl
parts-are-whole input (n ∷ ns) s =
    carried-alike (resume input n s) (λ t. in_parts input ns t) (λ t. resume input (total ns) t) (parts-are-whole input ns (resume input n s).state)
    ∙ sym (resume-add input n (total ns) s)

-- ---- a run does no more instructions than its budget

counts-result : (s : State) (t : StepResult) (n : ℕ) (f : State → Outcome) → ((u : State) → (f u).count ≤ n) → (on_result s t f).count ≤ suc n
counts-result s (done t) n f h = let l = h t in omega arith
counts-result s (finished t) n f h = omega arith
counts-result s (stopped k) n f h = omega arith

steps-count : (input : List ℕ) (n : ℕ) (s : State) → (steps input n s).count ≤ n
unfolding steps
steps-count input zero s = omega arith
steps-count input (suc n) s = counts-result s (step input s) n (λ t. steps input n t) (λ u. steps-count input n u)

pub resume-count : (input : List ℕ) (n : ℕ) (s : State) → (resume input n s).count ≤ n
unfolding resume
resume-count input n s = by_cases (leb 512 (length s.mem) && leb (length s.mem) 32768) (λ e. rw e (steps-count input n s))
    (λ e. rw e (omega arith))

-- ---- the further budget

pub allowed_all : (count m : ℕ) → m ≤ largest - count → m ≡ allowed count m
allowed_all count m h = simp (le-leb m (largest - count) h)

allowed-fits : (count m : ℕ) → count ≤ largest → count + allowed count m ≤ largest
allowed-fits count m l = by_cases (leb m (largest - count)) (λ e. let h = leb-true m (largest - count) e in rw e (omega arith))
    (λ e. rw e (omega arith))

-- ---- `carry_on`

-- a run as it came out is the outcome
pub came-out : {o : Outcome} {ran : Ran} {memory output : List ℕ} → Ends o ran memory output → o ≡ outcome_of ran memory output
came-out e = λ i. record {
  stop = sym e.stops i;
  count = sym e.counts i;
  state = at (sym e.leaves i) (sym e.stores i) (sym e.writes i);
}

module _ (input : List ℕ) (first : Ran) (memory output : List ℕ) (m : ℕ) where
  abbrev onwards : State → Outcome
  onwards t = resume input (allowed first.count m) t

  -- from what is said of any first part to what is said of one run
  carries : {r : Ran} {memory' output' : List ℕ} → Ends (carried_on (outcome_of first memory output) onwards) r memory' output'
      → CarriesOn input first memory output m r memory' output'
  carries {r} {memory'} {output'} h = record { carries = h; whole = one }
    where
      one : (n : ℕ) (s : State) → n + m ≤ largest → Ends (resume input n s) first memory output → Ends (resume input (n + m) s) r memory' output'
      one n s l e = let c : first.count ≤ n = omega (arith, e.counts, resume-count input n s) in
          let k : m ≡ allowed first.count m = allowed_all first.count m (omega arith) in
          let is : resume input (n + m) s ≡ carried_on (outcome_of first memory output) onwards = resume-add input n m s
          ∙ ap (λ (o : Outcome). carried_on o (λ t. resume input m t)) (came-out e)
          ∙ ap (λ (b : ℕ). carried_on (outcome_of first memory output) (λ t. resume input b t)) k
          in rw is h

  -- a first part that stopped otherwise is the whole run
  pub carry_whole : (first.stop ≡ 31 → ⊥) → CarriesOn input first memory output m first memory output
  carry_whole z = carries (rw (carried_other (outcome_of first memory output) onwards z)
      (record { stops = refl; counts = refl; leaves = refl; stores = refl; writes = refl }))

  module _ {b : ℕ} (hb : b ≡ allowed first.count m) {rest : Ran} {memory' output' : List ℕ}
      (e : Ends (resume input b (at first.registers memory output)) rest memory' output') where
    pub carry_fits : Fits w64 first.count → Fits w64 (first.count + rest.count)
    carry_fits f = omega (arith, e.counts, resume-count input b (at first.registers memory output), allowed-fits first.count m (omega arith))

    pub carry_rest : first.stop ≡ 31 → CarriesOn input first memory output m
        (record { stop = rest.stop; count = first.count + rest.count; registers = rest.registers }) memory' output'
    carry_rest z =
        carries (rw (carried-31 (outcome_of first memory output) onwards z, ← hb) (record {
          stops = e.stops;
          counts = ap (λ (k : ℕ). first.count + k) e.counts;
          leaves = e.leaves;
          stores = e.stores;
          writes = e.writes;
        }))
