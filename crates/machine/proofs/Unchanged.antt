-- The last store changes nothing else (document 02, Req 07: "Word values, output and count are the same as without it"): taken off the
-- registers, every instruction and every run is that of the machine without it, whatever the registers say of the last store.
use Rattle.laws.proofs.Basics.{ℕ, zero, suc, ◌≡◌, refl, ap, ◌∙◌, List, Bool, true, false, ◌&&◌, length, ltb, leb}
use Rattle.laws.proofs.Cases.{by_cases}
use Rattle.machine.specs.Outcome.{Out, ok, stop, ◌>>=◌, read, write}
use Rattle.machine.specs.State.{State}
use Rattle.machine.specs.Fetch.{Fetch, fetch}
use Rattle.machine.specs.Acts.{Act, unlisted, indirect, negate, invert, back, finish, switch, rdch, wrch, dyadic, act_of, indirected, returned}
use Rattle.machine.specs.Acts.{combined, sought, switched, received, sent}
use Rattle.machine.specs.Step.{StepResult, done, finished, stopped, result_of, keep, stored, called, jumped, perform, Function, L, S, A, J, T, F}
use Rattle.machine.specs.Step.{K, X, function_of, execute, on_fetch, step}
use Rattle.machine.specs.Run.{Outcome, on_result, steps, resume, run}
use Rattle.machine.specs.declared.Registers.{Registers}
use Rattle.machine.proofs.Without as W

-- ---- the last store taken off

abbrev pub bare : Registers → W.Registers
bare r = record { a = r.a; b = r.b; c = r.c; p = r.p; g = r.g; taken = r.taken; written = r.written }

abbrev pub bare_state : State → W.State
bare_state s = W.at (bare s.regs) s.mem s.out

abbrev pub bare_result : StepResult → W.StepResult
bare_result (done t) = W.done (bare_state t)
bare_result (finished t) = W.finished (bare_state t)
bare_result (stopped k) = W.stopped k

abbrev pub bare_outcome : Outcome → W.Outcome
bare_outcome o = record { stop = o.stop; count = o.count; state = bare_state o.state }

-- ---- outcomes

abbrev map : {A B : Type 0} → (A → B) → Out A → Out B
map f (ok a) = ok (f a)
map f (stop k) = stop k

map-bind : {A B C : Type 0} (h : B → C) (o : Out A) (f : A → Out B) {g : A → Out C} → ((a : A) → map h (f a) ≡ g a) → map h (o >>= f) ≡ (o >>= g)
map-bind h (ok a) f e = e a
map-bind h (stop k) f e = refl

same-keep : (s : State) (o : Out Registers) {o' : Out W.Registers} → map bare o ≡ o' → bare_result (keep s o) ≡ W.keep (bare_state s) o'
unfolding keep W.keep
same-keep s (ok r) e = rw (← e) refl
same-keep s (stop k) e = rw (← e) refl

same-result : (o : Out State) {o' : Out W.State} → map bare_state o ≡ o' → bare_result (result_of o) ≡ W.result_of o'
same-result (ok s) e = rw (← e) refl
same-result (stop k) e = rw (← e) refl

-- ---- one instruction

same_received : (r : Registers) (input : List ℕ) → bare (received r input) ≡ W.received (bare r) input
unfolding received W.received
same_received r input = by_cases (ltb r.taken (length input)) (λ e. rw e refl) (λ e. rw e refl)

same-jumped : (b : Bool) (x : ℕ) (r : Registers) → bare (jumped b x r) ≡ W.jumped b x (bare r)
unfolding jumped W.jumped
same-jumped true x r = refl
same-jumped false x r = refl

same_sent : (s : State) → map bare_state (sent s) ≡ W.sent (bare_state s)
unfolding sent W.sent
same_sent s = by_cases (ltb s.regs.written (length s.out)) (λ e. rw e refl) (λ e. rw e refl)

same-perform : (input : List ℕ) (a : Act) (s : State) → bare_result (perform input a s) ≡ W.perform input a (bare_state s)
unfolding perform W.perform indirected W.indirected returned W.returned combined W.combined switched W.switched
same-perform input unlisted s = refl
same-perform input indirect s = same-keep s _ (map-bind bare (read s.mem s.regs.a) _ (λ v. refl))
same-perform input negate s = same-keep s _ refl
same-perform input invert s = same-keep s _ refl
same-perform input back s = same-keep s _ (map-bind bare (read s.mem _) _ (λ c. map-bind bare (read s.mem s.regs.p) _ (λ p. refl)))
same-perform input (dyadic f) s = same-keep s _ (map-bind bare (f s.regs.b s.regs.a) _ (λ v. refl))
same-perform input finish s = refl
same-perform input switch s = same-keep s _ (map-bind bare (read s.mem s.regs.c) _ (λ n.
    map-bind bare (read s.mem _) _ (λ d. map-bind bare (sought s.mem s.regs.a d n _) _ (λ c. refl))))
same-perform input rdch s = same-keep s _ (ap ok (same_received s.regs input))
same-perform input wrch s = same-result (sent s) (same_sent s)

same-execute : (input : List ℕ) (f : Function) (x : ℕ) (s : State) → bare_result (execute input f x s) ≡ W.execute input f x (bare_state s)
unfolding execute W.execute stored W.stored called W.called
same-execute input L x s = same-keep s _ refl
same-execute input S x s = same-result (stored x s) (map-bind bare_state (write s.mem x s.regs.a) _ (λ m. refl))
same-execute input A x s = same-keep s _ refl
same-execute input J x s = same-keep s _ refl
same-execute input T x s = same-keep s _ (ap ok (same-jumped _ x s.regs))
same-execute input F x s = same-keep s _ (ap ok (same-jumped _ x s.regs))
same-execute input K x s = same-result (called x s) (map-bind bare_state (write s.mem _ s.regs.p) _ (λ m.
    map-bind bare_state (write m _ s.regs.c) _ (λ n. refl)))
same-execute input X x s = same-perform input (act_of x) s

same-fetched : (input : List ℕ) (s : State) (o : Out Fetch) → bare_result (on_fetch input s o) ≡ W.on_fetch input (bare_state s) o
same-fetched input s (ok f) = same-execute input (function_of f.function) f.operand _
same-fetched input s (stop k) = refl

pub step-unchanged : (input : List ℕ) (s : State) → bare_result (step input s) ≡ W.step input (bare_state s)
unfolding step W.step fetch W.fetch
step-unchanged input s = same-fetched input s (fetch s.regs s.mem)

-- ---- a run, whatever its stop

same-on-result : (s : State) (t : StepResult) (f : State → Outcome) (g : W.State → W.Outcome) → ((u : State) → bare_outcome (f u) ≡ g (bare_state u))
    → bare_outcome (on_result s t f) ≡ W.on_result (bare_state s) (bare_result t) g
same-on-result s (done t) f g e = ap (W.after 1) (e t)
same-on-result s (finished t) f g e = refl
same-on-result s (stopped k) f g e = refl

pub steps-unchanged : (input : List ℕ) (n : ℕ) (s : State) → bare_outcome (steps input n s) ≡ W.steps input n (bare_state s)
unfolding steps W.steps
steps-unchanged input zero s = refl
steps-unchanged input (suc n) s = same-on-result s (step input s) (λ t. steps input n t) (λ t. W.steps input n t) (λ t. steps-unchanged input n t)
    ∙ ap (λ (t : W.StepResult). W.on_result (bare_state s) t (λ u. W.steps input n u)) (step-unchanged input s)

pub resume-unchanged : (input : List ℕ) (n : ℕ) (s : State) → bare_outcome (resume input n s) ≡ W.resume input n (bare_state s)
unfolding resume W.resume
resume-unchanged input n s = by_cases (leb 512 (length s.mem) && leb (length s.mem) 32768) (λ e. rw e (steps-unchanged input n s))
    (λ e. rw e refl)

pub run-unchanged : (first : ℕ) (memory input output : List ℕ) (n : ℕ)
    → bare_outcome (run first memory input output n) ≡ W.run first memory input output n
run-unchanged first memory input output n = resume-unchanged input n _
