-- Runs by their room: with less room for output a run does the same until it stops 35, having written a beginning.
use Rattle.laws.proofs.Basics.{ℕ, zero, suc, ◌+◌, ◌%◌, ◌<◌, ◌≤◌, ◌≡◌, refl, sym, ◌∙◌, List, length, get_or, set, length-set, get_or-set_same}
use Rattle.laws.proofs.Basics.{get_or-set_other, ltb, lt_of_lt_of_le, arith, ltb-true, lt-ltb}
use Rattle.laws.proofs.Cases.{by_cases, by_equal}
use Rattle.machine.specs.Outcome.{Out, ok, stop, ◌>>=◌, write}
use Rattle.machine.specs.State.{State, at, with_c}
use Rattle.machine.specs.Fetch.{Fetch, fetch}
use Rattle.machine.specs.Acts.{Act, unlisted, indirect, negate, invert, back, finish, switch, rdch, wrch, dyadic, act_of, combined, sent}
use Rattle.machine.specs.Step.{StepResult, done, finished, stopped, result_of, keep, stored, called, perform, Function, L, S, A, J, T, F, K, X}
use Rattle.machine.specs.Step.{function_of, execute, on_fetch, step}
use Rattle.machine.specs.Run.{Outcome, after, on_result, steps}
use Rattle.machine.specs.declared.Registers.{Registers}
use Rattle.machine.proofs.Shape.{Yields, gives, stops, yields-bind, SameWritten, yields-indirected, yields-returned, yields-switched}
use Rattle.machine.proofs.Shape.{yields-received, yields-jumped, Sound, sound-act}
use Rattle.machine.proofs.Budget.{Grows, steps-grow}

-- two outputs that agree on the bytes written, the second with at least as much room
pub record Roomier (written : ℕ) (o o' : List ℕ) : Type 0 where
  pub room : length o ≤ length o'
  pub same : (i : ℕ) → i < written → get_or o i 0 ≡ get_or o' i 0

-- two steps alike but for the output's room, or the first stopped for it
data Alike : StepResult → StepResult → Type 0 where
  both-done : (r : Registers) (m : List ℕ) {o o' : List ℕ} → Roomier r.written o o' → Alike (done (at r m o)) (done (at r m o'))
  both-finished : (r : Registers) (m : List ℕ) {o o' : List ℕ} → Roomier r.written o o' → Alike (finished (at r m o)) (finished (at r m o'))
  both_stopped : (k : ℕ) → Alike (stopped k) (stopped k)
  full : (t : StepResult) → Alike (stopped 35) t

module _ (r : Registers) {o o' : List ℕ} (h : Roomier r.written o o') where
  moved : {r' : Registers} → SameWritten r r' → Roomier r'.written o o'
  moved e = record { room = h.room; same = λ i l. h.same i (let z = e.same in omega arith) }

  alike-keep : (m : List ℕ) {p : Out Registers} → Yields (SameWritten r) p → Alike (keep (at r m o) p) (keep (at r m o') p)
  unfolding keep
  alike-keep m (gives {a = r'} e) = both-done r' m (moved e)
  alike-keep m (stops {k = k} l) = both_stopped k

  -- a memory written, and other registers that leave the output's place
  alike-memory : {r' : Registers} → SameWritten r r' → (p : Out (List ℕ))
      → Alike (result_of (p >>= λ m. ok (at r' m o))) (result_of (p >>= λ m. ok (at r' m o')))
  alike-memory {r'} e (ok m) = both-done r' m (moved e)
  alike-memory e (stop k) = both_stopped k

  alike-memories : {r' : Registers} → SameWritten r r' → (p : Out (List ℕ)) (f : List ℕ → Out (List ℕ))
      → Alike (result_of (p >>= λ m. (f m >>= λ n. ok (at r' n o)))) (result_of (p >>= λ m. (f m >>= λ n. ok (at r' n o'))))
  alike-memories e (ok m) f = alike-memory e (f m)
  alike-memories e (stop k) f = both_stopped k

  one_byte : (v : ℕ) → r.written < length o → Roomier (r.written + 1) (set o r.written v) (set o' r.written v)
  one_byte v l = record {
    room = let a = length-set o r.written v in let b = length-set o' r.written v in let c = h.room in omega arith;
    same = λ i k. by_equal i r.written
        (λ e. rw e (get_or-set_same o r.written v 0 l ∙ sym (get_or-set_same o' r.written v 0 (lt_of_lt_of_le l h.room))))
        (λ e. get_or-set_other o r.written i v 0 e ∙ h.same i (omega arith) ∙ sym (get_or-set_other o' r.written i v 0 e));
  }

  alike-sent : (m : List ℕ) → Alike (result_of (sent (at r m o))) (result_of (sent (at r m o')))
  unfolding sent
  alike-sent m = by_cases (ltb r.written (length o))
      (λ e. let l = ltb-true _ _ e in rw (e, lt-ltb r.written (length o') (lt_of_lt_of_le l h.room)) (both-done _ m (one_byte (r.a % 256) l)))
      (λ e. rw e (full _))

  alike-perform : (input : List ℕ) (a : Act) (m : List ℕ) → Sound a → Alike (perform input a (at r m o)) (perform input a (at r m o'))
  unfolding perform combined
  alike-perform input unlisted m k = both_stopped 34
  alike-perform input indirect m k = alike-keep m (yields-indirected r m)
  alike-perform input negate m k = alike-keep m (gives (record { same = refl }))
  alike-perform input invert m k = alike-keep m (gives (record { same = refl }))
  alike-perform input back m k = alike-keep m (yields-returned r m)
  alike-perform input finish m k = both-finished r m h
  alike-perform input switch m k = alike-keep m (yields-switched r m)
  alike-perform input rdch m k = alike-keep m (gives (yields-received r input))
  alike-perform input wrch m k = alike-sent m
  alike-perform input (dyadic f) m k = alike-keep m (yields-bind (k r.b r.a) (λ v _. gives (record { same = refl })))

  alike-execute : (input : List ℕ) (f : Function) (x : ℕ) (m : List ℕ) → Alike (execute input f x (at r m o)) (execute input f x (at r m o'))
  unfolding execute stored called
  alike-execute input L x m = alike-keep m (gives (record { same = refl }))
  alike-execute input S x m = alike-memory (record { same = refl }) (write m x r.a)
  alike-execute input A x m = alike-keep m (gives (record { same = refl }))
  alike-execute input J x m = alike-keep m (gives (record { same = refl }))
  alike-execute input T x m = alike-keep m (gives (yields-jumped _ x r))
  alike-execute input F x m = alike-keep m (gives (yields-jumped _ x r))
  alike-execute input K x m = alike-memories (record { same = refl }) (write m _ r.p) (λ n. write n _ r.c)
  alike-execute input X x m = alike-perform input (act_of x) m (sound-act x)

module _ (input : List ℕ) (r : Registers) (m : List ℕ) {o o' : List ℕ} (h : Roomier r.written o o') where
  alike-fetched : (p : Out Fetch) → Alike (on_fetch input (at r m o) p) (on_fetch input (at r m o') p)
  alike-fetched (ok f) = alike-execute (with_c f.past r) (record { room = h.room; same = h.same }) input (function_of f.function) f.operand m
  alike-fetched (stop k) = both_stopped k

  alike : Alike (step input (at r m o)) (step input (at r m o'))
  unfolding step
  alike = alike-fetched (fetch r m)

-- ---- a run with less room: the same but for the room, or stopped 35 having written a beginning

pub data Beginning : Outcome → Outcome → Type 0 where
  whole : (k n : ℕ) (r : Registers) (m : List ℕ) {o o' : List ℕ} → Roomier r.written o o'
      → Beginning (record { stop = k; count = n; state = at r m o }) (record { stop = k; count = n; state = at r m o' })
  cut : (n : ℕ) (s : State) (x : Outcome) → s.regs.written ≤ x.state.regs.written
      → ((i : ℕ) → i < s.regs.written → get_or s.out i 0 ≡ get_or x.state.out i 0)
      → Beginning (record { stop = 35; count = n; state = s }) x

one_later : {x y : Outcome} → Beginning x y → Beginning (after 1 x) (after 1 y)
one_later (whole k n r m h) = whole k (1 + n) r m h
one_later (cut n s x h k) = cut (1 + n) s (after 1 x) h k

result-beginning : (r : Registers) (m : List ℕ) {o o' : List ℕ} → Roomier r.written o o' → (f : State → Outcome)
    → ((r₁ : Registers) (m₁ o₁ o₂ : List ℕ) → Roomier r₁.written o₁ o₂ → Beginning (f (at r₁ m₁ o₁)) (f (at r₁ m₁ o₂)))
    → {t t' : StepResult} → Alike t t' → Grows (at r m o') (on_result (at r m o') t' f).state
    → Beginning (on_result (at r m o) t f) (on_result (at r m o') t' f)
result-beginning r m h f ih (both-done r₁ m₁ {o = o₁} {o' = o₂} k) g = one_later (ih r₁ m₁ o₁ o₂ k)
result-beginning r m h f ih (both-finished r₁ m₁ k) g = whole 30 1 r₁ m₁ k
result-beginning r m h f ih (both_stopped k) g = whole k 0 r m h
result-beginning r m {o} h f ih (full t) g = cut 0 (at r m o) _ g.place (λ i l. h.same i l ∙ sym (g.kept i l))

pub room-beginning : (input : List ℕ) (n : ℕ) (r : Registers) (m o o' : List ℕ) → Roomier r.written o o'
    → Beginning (steps input n (at r m o)) (steps input n (at r m o'))
unfolding steps
room-beginning input zero r m o o' h = whole 31 0 r m h
room-beginning input (suc n) r m o o' h =
    result-beginning r m h (λ t. steps input n t) (λ r₁ m₁ o₁ o₂ k. room-beginning input n r₁ m₁ o₁ o₂ k) (alike input r m h)
    (steps-grow input (suc n) (at r m o'))
