-- What every instruction keeps to: the numbers that it stops with, the memory's length, and what it does to the output.
use Rattle.laws.proofs.Basics.{ℕ, zero, suc, ◌+◌, ◌%◌, ◌<◌, ◌≡◌, refl, ◌∙◌, List, [], ◌∷◌, Bool, true, false, cond, length, get_or, set, length-set}
use Rattle.laws.proofs.Basics.{eqb, ltb, lit<, ltb-true}
use Rattle.laws.proofs.Cases.{by_cases, ◌&◌}
use Rattle.machine.specs.Outcome.{Out, ok, stop, ◌>>=◌, read, write}
use Rattle.machine.specs.State.{State, at, with_c}
use Rattle.machine.specs.Fetch.{Fetch, fetch, bit}
use Rattle.machine.specs.Acts.{Act, unlisted, indirect, negate, invert, back, finish, switch, rdch, wrch, dyadic, unless_zero, acts, act_of}
use Rattle.machine.specs.Acts.{indirected, returned, combined, sought, switched, received, sent}
use Rattle.machine.specs.Step.{StepResult, done, finished, stopped, result_of, keep, stored, called, jumped, perform, Function, L, S, A, J, T, F}
use Rattle.machine.specs.Step.{K, X, function_of, execute, step, on_fetch}
use Rattle.machine.specs.declared.Registers.{Registers}

-- ---- what a part gives satisfies P, or it stops with a number above 31, which is kept for the budget

pub data Yields {A : Type 0} (P : A → Type 0) : Out A → Type 0 where
  gives : {a : A} → P a → Yields P (ok a)
  stops : {k : ℕ} → 31 < k → Yields P (stop k)

pub yields-bind : {A B : Type 0} {P : A → Type 0} {Q : B → Type 0} {o : Out A} {f : A → Out B} → Yields P o → ((a : A) → P a → Yields Q (f a))
    → Yields Q (o >>= f)
yields-bind (gives p) k = k _ p
yields-bind (stops h) k = stops h

yields-cond : {A : Type 0} {P : A → Type 0} {o o' : Out A} (b : Bool) → Yields P o → Yields P o' → Yields P (cond b o o')
yields-cond true y z = y
yields-cond false y z = z

abbrev pub Any : {A : Type 0} → A → Type 0
Any a = Unit {0}

yields-read : (m : List ℕ) (i : ℕ) → Yields Any (read m i)
unfolding read
yields-read m i = yields-cond (ltb i (length m)) (gives tt) (stops (lit< tt))

-- ---- the acts on the registers leave the output's place as it is

pub record SameWritten (r r' : Registers) : Type 0 where
  pub same : r'.written ≡ r.written

pub yields-indirected : (r : Registers) (m : List ℕ) → Yields (SameWritten r) (indirected r m)
unfolding indirected
yields-indirected r m = yields-bind (yields-read m r.a) (λ v _. gives (record { same = refl }))

pub yields-returned : (r : Registers) (m : List ℕ) → Yields (SameWritten r) (returned r m)
unfolding returned
yields-returned r m = yields-bind (yields-read m _) (λ c _. yields-bind (yields-read m _) (λ p _. gives (record { same = refl })))

yields-search : (m : List ℕ) (a d n i : ℕ) → Yields Any (sought m a d n i)
unfolding sought
yields-search m a d zero i = gives tt
yields-search m a d (suc n) i = yields-bind (yields-read m i) (λ v _. yields-cond (eqb v a) (yields-read m _) (yields-search m a d n _))

pub yields-switched : (r : Registers) (m : List ℕ) → Yields (SameWritten r) (switched r m)
unfolding switched
yields-switched r m = yields-bind (yields-read m _) (λ n _. yields-bind (yields-read m _)
    (λ d _. yields-bind (yields-search m r.a d n _) (λ c _. gives (record { same = refl }))))

pub yields-received : (r : Registers) (input : List ℕ) → SameWritten r (received r input)
unfolding received
yields-received r input = by_cases (ltb r.taken (length input)) (λ e. rw e (record { same = refl })) (λ e. rw e (record { same = refl }))

pub yields-jumped : (b : Bool) (x : ℕ) (r : Registers) → SameWritten r (jumped b x r)
unfolding jumped
yields-jumped true x r = record { same = refl }
yields-jumped false x r = record { same = refl }

-- ---- the dyadic acts of the table

abbrev pub Sound : Act → Type 0
Sound unlisted = Unit {0}
Sound indirect = Unit {0}
Sound negate = Unit {0}
Sound invert = Unit {0}
Sound back = Unit {0}
Sound finish = Unit {0}
Sound switch = Unit {0}
Sound rdch = Unit {0}
Sound wrch = Unit {0}
Sound (dyadic f) = (b a : ℕ) → Yields {A = ℕ} Any (f b a)

abbrev All : {A : Type 0} → (A → Type 0) → List A → Type 0
All P [] = Unit {0}
All P (x ∷ xs) = P x × All P xs

all-at : {A : Type 0} (P : A → Type 0) (d : A) → P d → (xs : List A) → All P xs → (n : ℕ) → P (get_or xs n d)
all-at P d p [] h n = p
all-at P d p (x ∷ xs) h zero = h.0
all-at P d p (x ∷ xs) h (suc n) = all-at P d p xs h.1 n

divides : (f : ℕ → ℕ → ℕ) (b a : ℕ) → Yields {A = ℕ} Any (unless_zero f b a)
divides f b a = yields-cond (eqb a 0) (stops (lit< tt)) (gives tt)

any : (f : ℕ → ℕ → ℕ) (b a : ℕ) → Yields {A = ℕ} Any (ok (f b a))
any f b a = gives tt

sound-acts : All Sound acts
sound-acts =
    tt & tt & tt & tt & tt & any _ & divides _ & divides _ & any _ & any _ & any _ & any _ & any _ & any _ & any _ & any _ & any _ & any _ & any _
    & any _ & tt & tt & tt & tt & tt & tt & tt & tt & tt & tt

pub sound-act : (n : ℕ) → Sound (act_of n)
sound-act n = all-at Sound unlisted tt acts sound-acts n

-- ---- a step: done or finished with the output as it was, or with one byte more; or a stop above 31

pub record Quiet (s t : State) : Type 0 where
  pub memory : length t.mem ≡ length s.mem
  pub output : t.out ≡ s.out
  pub place : t.regs.written ≡ s.regs.written

pub record OneMore (s t : State) : Type 0 where
  pub memory : length t.mem ≡ length s.mem
  pub byte : ℕ
  pub room : s.regs.written < length s.out
  pub output : t.out ≡ set s.out s.regs.written byte
  pub place : t.regs.written ≡ s.regs.written + 1

pub data Shape (s : State) : StepResult → Type 0 where
  quiet : {t : State} → Quiet s t → Shape s (done t)
  one_more : {t : State} → OneMore s t → Shape s (done t)
  ends : {t : State} → Quiet s t → Shape s (finished t)
  halts : {k : ℕ} → 31 < k → Shape s (stopped k)

abbrev same : (s : State) → Quiet s s
same s = record { memory = refl; output = refl; place = refl }

shape-keep : (s : State) {o : Out Registers} → Yields (SameWritten s.regs) o → Shape s (keep s o)
unfolding keep
shape-keep s (gives e) = quiet (record { memory = refl; output = refl; place = e.same })
shape-keep s (stops h) = halts h

shape_result : {s : State} {o : Out State} → Yields (Quiet s) o → Shape s (result_of o)
shape_result (gives e) = quiet e
shape_result (stops h) = halts h

record SameLength (m m' : List ℕ) : Type 0 where
  same : length m' ≡ length m

yields-write : (m : List ℕ) (i v : ℕ) → Yields (SameLength m) (write m i v)
unfolding write
yields-write m i v = yields-cond (ltb i (length m)) (gives (record { same = length-set m i v })) (stops (lit< tt))

shape-sent : (s : State) → Shape s (result_of (sent s))
unfolding sent
shape-sent s = by_cases (ltb s.regs.written (length s.out))
    (λ e. rw e (one_more (record { memory = refl; byte = s.regs.a % 256; room = ltb-true _ _ e; output = refl; place = refl })))
    (λ e. rw e (halts (lit< tt)))

shape-perform : (input : List ℕ) (a : Act) (s : State) → Sound a → Shape s (perform input a s)
unfolding perform combined
shape-perform input unlisted s h = halts (lit< tt)
shape-perform input indirect s h = shape-keep s (yields-indirected s.regs s.mem)
shape-perform input negate s h = shape-keep s (gives (record { same = refl }))
shape-perform input invert s h = shape-keep s (gives (record { same = refl }))
shape-perform input back s h = shape-keep s (yields-returned s.regs s.mem)
shape-perform input finish s h = ends (same s)
shape-perform input switch s h = shape-keep s (yields-switched s.regs s.mem)
shape-perform input rdch s h = shape-keep s (gives (yields-received s.regs input))
shape-perform input wrch s h = shape-sent s
shape-perform input (dyadic f) s h = shape-keep s (yields-bind (h s.regs.b s.regs.a) (λ v _. gives (record { same = refl })))

shape-execute : (input : List ℕ) (f : Function) (x : ℕ) (s : State) → Shape s (execute input f x s)
unfolding execute stored called
shape-execute input L x s = shape-keep s (gives (record { same = refl }))
shape-execute input S x s =
    shape_result (yields-bind (yields-write s.mem x _) (λ m e. gives (record { memory = e.same; output = refl; place = refl })))
shape-execute input A x s = shape-keep s (gives (record { same = refl }))
shape-execute input J x s = shape-keep s (gives (record { same = refl }))
shape-execute input T x s = shape-keep s (gives (yields-jumped _ x s.regs))
shape-execute input F x s = shape-keep s (gives (yields-jumped _ x s.regs))
shape-execute input K x s = shape_result (yields-bind (yields-write s.mem _ _) (λ m e.
    yields-bind (yields-write m _ _) (λ n f. gives (record { memory = f.same ∙ e.same; output = refl; place = refl }))))
shape-execute input X x s = shape-perform input (act_of x) s (sound-act x)

yields-fetch : (r : Registers) (m : List ℕ) → Yields Any (fetch r m)
unfolding fetch
yields-fetch r m = yields-bind (yields-read m _) (λ w _.
    yields-bind (yields-cond (bit 512 w) (yields-read m _) (gives tt)) (λ n _.
    yields-bind (yields-cond (bit 4096 w) (yields-read m _) (gives tt)) (λ x _. gives tt)))

-- the fetch changes only C
from-fetched : {s : State} {c : ℕ} {t : StepResult} → Shape (at (with_c c s.regs) s.mem s.out) t → Shape s t
from-fetched (quiet q) = quiet (record { memory = q.memory; output = q.output; place = q.place })
from-fetched (one_more q) = one_more (record { memory = q.memory; byte = q.byte; room = q.room; output = q.output; place = q.place })
from-fetched (ends q) = ends (record { memory = q.memory; output = q.output; place = q.place })
from-fetched (halts h) = halts h

shape-fetched : (input : List ℕ) (s : State) (o : Out Fetch) → Yields Any o → Shape s (on_fetch input s o)
shape-fetched input s (ok f) y =
    from-fetched {c = f.past} (shape-execute input (function_of f.function) f.operand (at (with_c f.past s.regs) s.mem s.out))
shape-fetched input s (stop k) (stops h) = halts h

pub shape : (input : List ℕ) (s : State) → Shape s (step input s)
unfolding step
shape input s = shape-fetched input s _ (yields-fetch s.regs s.mem)
