-- More fuel gives the same result: a run that is over within some fuel is the same run with more, so a source run ends in one state.
use Rattle.laws.proofs.Basics.{ℕ, zero, suc, ◌+◌, ◌≤◌, ◌≡◌, refl, List, [], Bool, true, false, cond, leb, arith}
use Rattle.language.specs.Resolved.{Fun}
use Rattle.language.specs.State.{State, Result, unfinished, undefined, finished, returned, ok}
use Rattle.language.specs.Run.{Placement, called, sem}
use Rattle.language.specs.Whole.{run_with, Over, by_return, by_finish, SourceRunEnds, functions_in, strings_in}
use Rattle.language.proofs.Runs.{after, Relation, Closed, Related, in-called, in-sem}

-- the first result is not over within its fuel, or the second is the same
pub data Same {A : Type 0} : Result A → Result A → Type 0 where
  later : {y : Result A} → Same unfinished y
  same : {x : Result A} → Same x x

abbrev pub Matching : Relation
Matching A s x y = Same x y

same_after : {A B : Type 0} {x y : Result A} {m n : State → Result B} {f g : A → State → Result B} → Same x y
    → ((t : State) → Same (m t) (n t)) → ((a : A) (t : State) → Same (f a t) (g a t)) → Same (after x m f) (after y n g)
same_after later h k = later
same_after (same {x = unfinished}) h k = later
same_after (same {x = undefined}) h k = same
same_after (same {x = finished s}) h k = same
same_after (same {x = returned s}) h k = h s
same_after (same {x = ok a s}) h k = k a s

same_cond : {A : Type 0} {x y : Result A} (b : Bool) → Same x y → Same (cond b x undefined) (cond b y undefined)
same_cond true h = h
same_cond false h = same

matching : (memory : ℕ) → Closed 0 memory memory Matching
matching memory = record {
  stops = same;
  finishes = same;
  returns = same;
  gives = same;
  changes = λ c h. h;
  reaches = λ p h s k. same_cond (leb (p + h) memory) (k _);
  goes_on_lem = λ k m f. same_after k m f;
}

module _ (functions : List Fun) (place : Placement) (memory : ℕ) (input : List ℕ) where
  pub same-sem : (n m : ℕ) → n ≤ m → Related 0 Matching (sem functions place memory input n) (sem functions place memory input m)
  unfolding sem
  same-sem zero m l = record { evaluate = λ e p h s i. later; run = λ c p h s i. later; turn = λ o p h s i. later }
  same-sem (suc n) zero l = absurd (omega arith)
  same-sem (suc n) (suc m) l = in-sem 0 memory memory Matching (matching memory) functions place input n m (same-sem n m (omega arith))

  pub same-called : (n m : ℕ) → n ≤ m → (v base : ℕ) (vs : List ℕ) (s : State)
      → Same (called functions place memory input (sem functions place memory input n) v base vs s)
      (called functions place memory input (sem functions place memory input m) v base vs s)
  same-called n m l v base vs s =
      in-called 0 memory memory Matching (matching memory) _ _ (same-sem n m l) functions place input v base vs s (omega arith)

  module _ (strings : List (List ℕ)) where
    same-run : (n m : ℕ) → n ≤ m → Same (run_with n functions strings place memory input) (run_with m functions strings place memory input)
    unfolding run_with
    same-run n m l = same-called n m l _ _ [] _

-- ---- whole runs

over-same : {A : Type 0} {x y : Result A} {s : State} → Same x y → Over x s → Over y s
over-same {A = A} {y = y} {s = s} later o = elim o [ ]
over-same same o = o

over-once : {A : Type 0} {x : Result A} {s t : State} → Over x s → Over x t → s ≡ t
over-once by_return by_return = refl
over-once by_finish by_finish = refl

is_same : {A : Type 0} {x y : Result A} → Same x y → (x ≡ unfinished → ⊥) → y ≡ x
is_same later h = absurd (h refl)
is_same same h = refl

pub more-fuel : (n k : ℕ) (functions : List Fun) (strings : List (List ℕ)) (place : Placement) (memory : ℕ) (input : List ℕ)
    → (run_with n functions strings place memory input ≡ unfinished → ⊥)
    → run_with (n + k) functions strings place memory input ≡ run_with n functions strings place memory input
more-fuel n k functions strings place memory input h = is_same (same-run functions place memory input strings n (n + k) (omega arith)) h

pub one_end : {source : List ℕ} {place : Placement} {memory : ℕ} {input : List ℕ} {s t : State} → SourceRunEnds source place memory input s
    → SourceRunEnds source place memory input t → s ≡ t
one_end {source} {place} {memory} {input} {s} {t} a b = over-once (reached a (omega arith)) (reached b (omega arith))
  where
    reached : {u : State} (c : SourceRunEnds source place memory input u) → c.fuel ≤ a.fuel + b.fuel
        → Over (run_with (a.fuel + b.fuel) (functions_in source) (strings_in source) place memory input) u
    reached c l = over-same (same-run (functions_in source) place memory input (strings_in source) c.fuel (a.fuel + b.fuel) l) c.over
