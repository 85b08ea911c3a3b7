-- Runs by their budgets: a run of n + m instructions is the run of n, then of m where the first stopped for budget; output only grows,
-- so that a smaller budget writes a beginning of what a larger one writes.
use Rattle.laws.proofs.Basics.{ℕ, zero, suc, ◌+◌, ◌-◌, ◌<◌, ◌≤◌, ◌≡◌, refl, ap, ◌∙◌, List, Bool, ◌&&◌, length, get_or, length-set, get_or-set_other}
use Rattle.laws.proofs.Basics.{eqb}
use Rattle.laws.proofs.Basics.{leb, le_refl, le_trans, lt_of_lt_of_le, arith, ne_eqb}
use Rattle.laws.proofs.Cases.{by_cases}
use Rattle.machine.specs.State.{State, at, start_registers}
use Rattle.machine.specs.Step.{StepResult}
use Rattle.machine.specs.Run.{Outcome, after, on_result, steps, resume, carried_on, run}
use Rattle.machine.proofs.Shape.{Shape, quiet, one_more, ends, halts, Quiet, OneMore, shape}

after-carried : (o : Outcome) (more : State → Outcome) → after 1 (carried_on o more) ≡ carried_on (after 1 o) more
after-carried o more = let r = more o.state in
    let z : 1 + (o.count + r.count) ≡ 1 + o.count + r.count = omega arith in
    by_cases (eqb o.stop 31) (λ e. rw e (λ i. record { stop = r.stop; count = z i; state = r.state })) (λ e. rw e refl)

result-carried : (s : State) {t : StepResult} → Shape s t → (f g h : State → Outcome) → ((u : State) → f u ≡ carried_on (g u) h)
    → on_result s t f ≡ carried_on (on_result s t g) h
result-carried s (quiet {t = t} q) f g h e = ap (after 1) (e t) ∙ after-carried (g t) h
result-carried s (one_more {t = t} q) f g h e = ap (after 1) (e t) ∙ after-carried (g t) h
result-carried s (ends q) f g h e = refl
result-carried s (halts {k = k} l) f g h e = rw (ne_eqb k 31 (λ z. absurd (omega arith))) refl

pub steps-add : (input : List ℕ) (n m : ℕ) (s : State) → steps input (n + m) s ≡ carried_on (steps input n s) (λ t. steps input m t)
unfolding steps
steps-add input zero m s = let e : zero + m ≡ m = omega arith in
    let z : (steps input m s).count ≡ 0 + (steps input m s).count = omega arith in
    rw e (λ i. record { stop = (steps input m s).stop; count = z i; state = (steps input m s).state })
steps-add input (suc n) m s = let e : suc n + m ≡ suc (n + m) = omega arith in
    rw e (result-carried s (shape input s) (λ t. steps input (n + m) t) (λ t. steps input n t) (λ t. steps input m t) (λ u. steps-add input n m u))

-- ---- output only grows

-- from s to t: what was written stays, what is past the written bytes keeps what it held, and what fitted the room still fits
pub record Grows (s t : State) : Type 0 where
  pub memory : length t.mem ≡ length s.mem
  pub room : length t.out ≡ length s.out
  pub place : s.regs.written ≤ t.regs.written
  pub kept : (i : ℕ) → i < s.regs.written → get_or t.out i 0 ≡ get_or s.out i 0
  pub held : (i : ℕ) → t.regs.written ≤ i → get_or t.out i 0 ≡ get_or s.out i 0
  pub within : s.regs.written ≤ length s.out → t.regs.written ≤ length s.out

pub grows-not : (s : State) → Grows s s
grows-not s = record { memory = refl; room = refl; place = le_refl s.regs.written; kept = λ i h. refl; held = λ i h. refl; within = λ h. h }

pub grows-on : {s t u : State} → Grows s t → Grows t u → Grows s u
grows-on g h = record {
  memory = h.memory ∙ g.memory;
  room = h.room ∙ g.room;
  place = le_trans g.place h.place;
  kept = λ i l. h.kept i (lt_of_lt_of_le l g.place) ∙ g.kept i l;
  held = λ i l. h.held i l ∙ g.held i (le_trans h.place l);
  within = λ l. let a = g.within l in let e = g.room in let b = h.within (omega arith) in omega arith;
}

grows-quiet : {s t : State} → Quiet s t → Grows s t
grows-quiet {s} {t} q = record {
  memory = q.memory;
  room = ap length q.output;
  place = let e = q.place in omega arith;
  kept = λ i l. ap (λ (o : List ℕ). get_or o i 0) q.output;
  held = λ i l. ap (λ (o : List ℕ). get_or o i 0) q.output;
  within = λ l. let e = q.place in omega arith;
}

grows_one : {s t : State} → OneMore s t → Grows s t
grows_one {s} {t} q = let w = s.regs.written in
    let p = q.place in
    record {
      memory = q.memory;
      room = ap length q.output ∙ length-set s.out w q.byte;
      place = omega arith;
      kept = λ i l. ap (λ (o : List ℕ). get_or o i 0) q.output ∙ get_or-set_other s.out w i q.byte 0 (λ e. absurd (omega arith));
      held = λ i l. ap (λ (o : List ℕ). get_or o i 0) q.output ∙ get_or-set_other s.out w i q.byte 0 (λ e. absurd (omega arith));
      within = λ l. let h = q.room in omega arith;
    }

grows-result : (s : State) {t : StepResult} → Shape s t → (f : State → Outcome) → ((u : State) → Grows u (f u).state)
    → Grows s (on_result s t f).state
grows-result s (quiet {t = t} q) f h = grows-on (grows-quiet q) (h t)
grows-result s (one_more {t = t} q) f h = grows-on (grows_one q) (h t)
grows-result s (ends q) f h = grows-quiet q
grows-result s (halts l) f h = grows-not s

pub steps-grow : (input : List ℕ) (n : ℕ) (s : State) → Grows s (steps input n s).state
unfolding steps
steps-grow input zero s = grows-not s
steps-grow input (suc n) s = grows-result s (shape input s) (λ t. steps input n t) (λ u. steps-grow input n u)

grows-carried : (o : Outcome) (f : State → Outcome) → Grows o.state (f o.state).state → Grows o.state (carried_on o f).state
grows-carried o f h = by_cases (eqb o.stop 31) (λ e. rw e h) (λ e. rw e (grows-not o.state))

-- a smaller budget writes a beginning of what a larger one writes
pub budget-beginning : (input : List ℕ) {n n' : ℕ} (s : State) → n ≤ n' → Grows (steps input n s).state (steps input n' s).state
budget-beginning input {n} {n'} s h = let e : n' ≡ n + (n' - n) = omega arith in
    rw (e, steps-add input n (n' - n) s) (grows-carried (steps input n s) (λ t. steps input (n' - n) t)
    (steps-grow input (n' - n) (steps input n s).state))

-- ---- the same of `resume`, whose memory keeps its length

abbrev fits : ℕ → Bool
fits n = leb 512 n && leb n 32768

pub resume-add : (input : List ℕ) (n m : ℕ) (s : State) → resume input (n + m) s ≡ carried_on (resume input n s) (λ t. resume input m t)
unfolding resume
resume-add input n m s = by_cases (fits (length s.mem)) (λ e. simp (e, (steps-grow input n s).memory) (steps-add input n m s)) (λ e. simp e)

pub resume-grows : (input : List ℕ) (n : ℕ) (s : State) → Grows s (resume input n s).state
unfolding resume
resume-grows input n s = by_cases (fits (length s.mem)) (λ e. rw e (steps-grow input n s)) (λ e. rw e (grows-not s))

-- a run from the start writes no more bytes than the output has room for
pub run-within : (first : ℕ) (memory input output : List ℕ) (n : ℕ) → (run first memory input output n).state.regs.written ≤ length output
run-within first memory input output n = (resume-grows input n (at (start_registers first) memory output)).within (omega arith)
