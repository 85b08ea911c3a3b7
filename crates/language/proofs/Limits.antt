-- The greatest use only grows, and a run that uses no word from a limit on is the run in a memory of that many words.
use Rattle.laws.proofs.Basics.{ℕ, zero, suc, ◌+◌, ◌≤◌, ◌≡◌, refl, ap, ◌∙◌, List, [], cond, ltb, leb, le_refl, le_trans, arith, lt-ltb, le-ltb, le-leb}
use Rattle.laws.proofs.Basics.{lt-leb}
use Rattle.laws.proofs.Cases.{by_order, by_cond}
use Rattle.language.specs.Resolved.{Expr, Cmd, Fun}
use Rattle.language.specs.State.{State, Result, unfinished, undefined, finished, returned, ok}
use Rattle.language.specs.Run.{Placement, Sem, Loop, reach, called, sem}
use Rattle.language.specs.Whole.{at_start, run_with, Over, by_return, by_finish}
use Rattle.language.proofs.Runs.{after, Relation, Closed, Related, in-called, in-sem}

-- two results: the first one uses at least n, and where it uses no more than the limit the second is the same
pub data Both (limit n : ℕ) {A : Type 0} : Result A → Result A → Type 0 where
  b-unfinished : {y : Result A} → Both limit n unfinished y
  b-undefined : {y : Result A} → Both limit n undefined y
  b-finished : {s : State} {y : Result A} → n ≤ s.used → (s.used ≤ limit → y ≡ finished s) → Both limit n (finished s) y
  b-returned : {s : State} {y : Result A} → n ≤ s.used → (s.used ≤ limit → y ≡ returned s) → Both limit n (returned s) y
  b-ok : {a : A} {s : State} {y : Result A} → n ≤ s.used → (s.used ≤ limit → y ≡ ok a s) → Both limit n (ok a s) y

module _ (limit : ℕ) where
  both-from : {A : Type 0} {n k : ℕ} {x y z : Result A} → n ≤ k → (k ≤ limit → z ≡ y) → Both limit k x y → Both limit n x z
  both-from l e b-unfinished = b-unfinished
  both-from l e b-undefined = b-undefined
  both-from l e (b-finished m f) = b-finished (le_trans l m) (λ j. e (le_trans m j) ∙ f j)
  both-from l e (b-returned m f) = b-returned (le_trans l m) (λ j. e (le_trans m j) ∙ f j)
  both-from l e (b-ok m f) = b-ok (le_trans l m) (λ j. e (le_trans m j) ∙ f j)

  both-after : {A B : Type 0} {i : ℕ} {x y : Result A} {m n : State → Result B} {f g : A → State → Result B} → Both limit i x y
      → ((t : State) → Both limit t.used (m t) (n t)) → ((a : A) (t : State) → Both limit t.used (f a t) (g a t))
      → Both limit i (after x m f) (after y n g)
  both-after b-unfinished h k = b-unfinished
  both-after b-undefined h k = b-undefined
  both-after {n = n} {g = g} (b-finished l e) h k = b-finished l (λ j. ap (λ z. after z n g) (e j))
  both-after {n = n} {g = g} (b-returned {s = s} l e) h k = both-from l (λ j. ap (λ z. after z n g) (e j)) (h s)
  both-after {n = n} {g = g} (b-ok {a = a} {s = s} l e) h k = both-from l (λ j. ap (λ z. after z n g) (e j)) (k a s)

  abbrev pub Bounded : Relation
  Bounded A s x y = Both limit s.used x y

  both-reach : {A : Type 0} (memory p k : ℕ) (s : State) {f g : State → Result A} → ((u : State) → Both limit u.used (f u) (g u))
      → Both limit s.used (reach memory p k s f) (reach limit p k s g)
  both-reach memory p k s {f} {g} h = let n : ℕ = cond (ltb s.used (p + k)) (p + k) s.used in
      let u : State = record { cells = s.cells; taken = s.taken; output = s.output; steps = s.steps; used = n } in
      let grown : (s.used ≤ n) × (p + k ≤ n) = by_order s.used (p + k) (λ l. rw (lt-ltb s.used (p + k) l) (omega arith, omega arith)) (λ l.
      rw (le-ltb s.used (p + k) l) (omega arith, omega arith)) in
      by_cond (λ x. Both limit s.used x (cond (leb (p + k) limit) (g u) undefined)) (leb (p + k) memory)
      (by_order limit (p + k) (λ l. rw (lt-leb (p + k) limit l) (both-from grown.0 (λ j. absurd (omega (arith, grown.1))) (h u))) (λ l.
      rw (le-leb (p + k) limit l) (both-from grown.0 (λ j. refl) (h u))))
      b-undefined

  bounded : (memory : ℕ) → Closed 0 memory limit Bounded
  bounded memory = record {
    stops = b-undefined;
    finishes = λ {A} {s}. b-finished (le_refl s.used) (λ l. refl);
    returns = λ {A} {s}. b-returned (le_refl s.used) (λ l. refl);
    gives = λ {A} {a} {s}. b-ok (le_refl s.used) (λ l. refl);
    changes = λ c b. both-from (omega (arith, c.used)) (λ j. refl) b;
    reaches = λ p h s k. both-reach memory p h s k;
    goes_on_lem = λ b m f. both-after b m f;
  }

  over-both : {A : Type 0} {n : ℕ} {x y : Result A} {s : State} → Both limit n x y → Over x s → s.used ≤ limit → Over y s
  over-both {A = A} {n = n} {y = y} {s = s} b-unfinished o l = elim o [ ]
  over-both {A = A} {n = n} {y = y} {s = s} b-undefined o l = elim o [ ]
  over-both {A = A} {n = n} {y = y} {s = s} (b-returned _ _) o l = elim o [ ]
  over-both {s = s} (b-finished m e) by_finish l = rw (e l) by_finish
  over-both {s = s} (b-ok m e) by_return l = rw (e l) by_return

  module _ (functions : List Fun) (place : Placement) (memory : ℕ) (fits : limit ≤ memory) (input : List ℕ) where
    -- parts that agree
    pub record Agreeing (q r : Sem) : Type 0 where
      pub evaluate : (e : Expr) (p h : ℕ) (s : State) → Both limit s.used (q.evaluate e p h s) (r.evaluate e p h s)
      pub run : (c : Cmd) (p h : ℕ) (s : State) → Both limit s.used (q.run c p h s) (r.run c p h s)
      pub turn : (l : Loop) (p h : ℕ) (s : State) → Both limit s.used (q.turn l p h s) (r.turn l p h s)

    related : {q r : Sem} → Agreeing q r → Related 0 Bounded q r
    related a = record { evaluate = λ e p h s l. a.evaluate e p h s; run = λ c p h s l. a.run c p h s; turn = λ o p h s l. a.turn o p h s }

    pub both-called : (q r : Sem) → Agreeing q r → (v base : ℕ) (vs : List ℕ) (s : State)
        → Both limit s.used (called functions place memory input q v base vs s) (called functions place limit input r v base vs s)
    both-called q r parts v base vs s =
        in-called 0 memory limit Bounded (bounded memory) q r (related parts) functions place input v base vs s (omega arith)

    both-related : (fuel : ℕ) → Related 0 Bounded (sem functions place memory input fuel) (sem functions place limit input fuel)
    unfolding sem
    both-related zero = record { evaluate = λ e p h s l. b-unfinished; run = λ c p h s l. b-unfinished; turn = λ o p h s l. b-unfinished }
    both-related (suc n) = in-sem 0 memory limit Bounded (bounded memory) functions place input n n (both-related n)

    pub both-sem : (fuel : ℕ) → Agreeing (sem functions place memory input fuel) (sem functions place limit input fuel)
    both-sem fuel = record {
      evaluate = λ e p h s. (both-related fuel).evaluate e p h s (omega arith);
      run = λ c p h s. (both-related fuel).run c p h s (omega arith);
      turn = λ l p h s. (both-related fuel).turn l p h s (omega arith);
    }

    pub over-within : (fuel : ℕ) (strings : List (List ℕ)) {s : State} → Over (run_with fuel functions strings place memory input) s → s.used ≤ limit
        → Over (run_with fuel functions strings place limit input) s
    unfolding run_with
    over-within fuel strings over l = over-both (both-called _ _ (both-sem fuel) _ (place.first + 2) [] (at_start functions strings place)) over l
