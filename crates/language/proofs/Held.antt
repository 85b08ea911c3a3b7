-- A word below a call's frame that holds a value keeps holding one, whatever the call does: further frames stand above it, and elsewhere a
-- value is only written over a value. So where a source run ends, the globals and the strings, below the stack, all hold values.
use Rattle.laws.proofs.Basics.{ℕ, zero, suc, ◌+◌, ◌<◌, ◌≤◌, ◌≡◌, refl, List, [], ◌∷◌, Bool, true, false, cond, length, get_or, ltb, leb, arith}
use Rattle.laws.proofs.Basics.{lt-ltb}
use Rattle.laws.proofs.Basics.{le-ltb, le-leb}
use Rattle.laws.proofs.Cases.{by_cond}
use Rattle.text.specs.Packed.{pairs}
use Rattle.language.specs.Resolved.{Fun}
use Rattle.language.specs.State.{State, Result, unfinished, undefined, finished, returned, ok}
use Rattle.language.specs.Run.{Placement, called, sem}
use Rattle.language.specs.Whole.{at_start, cells_at_start, string_cell, run_with, Over, by_return, by_finish}
use Rattle.language.proofs.Runs.{Held, held, after, Relation, Closed, Related, in-called, in-sem}

-- what a state holds below an address another one holds too
abbrev pub Keeps : (first : ℕ) → State → State → Type 0
Keeps first s t = (a : ℕ) → a < first → Held (s.cells a) → Held (t.cells a)

-- a result whose state, if it has one, keeps what is held
pub data Kept (first : ℕ) (s : State) {A : Type 0} : Result A → Type 0 where
  k-unfinished : Kept first s unfinished
  k-undefined : Kept first s undefined
  k-finished : {t : State} → Keeps first s t → Kept first s (finished t)
  k-returned : {t : State} → Keeps first s t → Kept first s (returned t)
  k-ok : {a : A} {t : State} → Keeps first s t → Kept first s (ok a t)

pub over-keeps : {first : ℕ} {s t : State} {A : Type 0} {x : Result A} → Kept first s x → Over x t → Keeps first s t
over-keeps {first = first} {s = s} {t = t} {A = A} k-unfinished o = elim o [ ]
over-keeps {first = first} {s = s} {t = t} {A = A} k-undefined o = elim o [ ]
over-keeps {first = first} {s = s} {t = t} {A = A} (k-returned _) o = elim o [ ]
over-keeps (k-finished k) by_finish = k
over-keeps (k-ok k) by_return = k

module _ (first : ℕ) where
  kept_from : {A : Type 0} {s t : State} {x : Result A} → Keeps first s t → Kept first t x → Kept first s x
  kept_from k k-unfinished = k-unfinished
  kept_from k k-undefined = k-undefined
  kept_from k (k-finished m) = k-finished (λ a l h. m a l (k a l h))
  kept_from k (k-returned m) = k-returned (λ a l h. m a l (k a l h))
  kept_from k (k-ok m) = k-ok (λ a l h. m a l (k a l h))

  kept-after : {A B : Type 0} {s : State} {x : Result A} {m : State → Result B} {f : A → State → Result B} → Kept first s x
      → ((t : State) → Kept first t (m t)) → ((a : A) (t : State) → Kept first t (f a t)) → Kept first s (after x m f)
  kept-after k-unfinished h i = k-unfinished
  kept-after k-undefined h i = k-undefined
  kept-after (k-finished k) h i = k-finished k
  kept-after (k-returned {t = t} k) h i = kept_from k (h t)
  kept-after (k-ok {a = a} {t = t} k) h i = kept_from k (i a t)

  kept-cond : {A : Type 0} {s : State} {x : Result A} (b : Bool) → Kept first s x → Kept first s (cond b x undefined)
  kept-cond true k = k
  kept-cond false k = k-undefined

  abbrev pub Keeping : Relation
  Keeping A s x y = Kept first s x

  keeping : (memory : ℕ) → Closed first memory memory Keeping
  keeping memory = record {
    stops = k-undefined;
    finishes = k-finished (λ a l h. h);
    returns = k-returned (λ a l h. h);
    gives = k-ok (λ a l h. h);
    changes = λ c k. kept_from c.keeps k;
    reaches = λ p h s k. kept-cond (leb (p + h) memory) (kept_from (λ a l m. m) (k _));
    goes_on_lem = λ k m f. kept-after k m f;
  }

  module _ (functions : List Fun) (place : Placement) (memory : ℕ) (input : List ℕ) where
    -- in frames from `first` on
    pub kept-sem : (fuel : ℕ) → Related first Keeping (sem functions place memory input fuel) (sem functions place memory input fuel)
    unfolding sem
    kept-sem zero = record { evaluate = λ e p h s l. k-unfinished; run = λ c p h s l. k-unfinished; turn = λ o p h s l. k-unfinished }
    kept-sem (suc n) = in-sem first memory memory Keeping (keeping memory) functions place input n n (kept-sem n)

    pub kept-called : (fuel v base : ℕ) (vs : List ℕ) (s : State) → first ≤ base
        → Kept first s (called functions place memory input (sem functions place memory input fuel) v base vs s)
    kept-called fuel v base vs s l = in-called first memory memory Keeping (keeping memory) _ _ (kept-sem fuel) functions place input v base vs s l

-- ---- the start of a source run

string-held : (strings : List (List ℕ)) (addresses : List ℕ) (k i b : ℕ) → k < length strings → length addresses ≡ length strings
    → i < length (pairs (length (get_or strings k [])) (get_or strings k [])) → get_or addresses k 0 + i ≡ b → Held (string_cell strings addresses b)
unfolding string_cell
string-held [] addresses k i b l e m at = absurd (omega arith)
string-held (cs ∷ strings) [] k i b l e m at = absurd (omega arith)
string-held (cs ∷ strings) (a ∷ addresses) zero i b l e m at =
    rw (le-leb a b (omega arith), lt-ltb b (a + length (pairs (length cs) cs)) (omega arith)) held
string-held (cs ∷ strings) (a ∷ addresses) (suc k) i b l e m at = let h = string-held strings addresses k i b (omega arith) (omega arith) m at in
    by_cond Held (leb a b) (by_cond Held (ltb b (a + length (pairs (length cs) cs))) held h) h

module _ (functions : List Fun) (strings : List (List ℕ)) (place : Placement) where
  start-globals : (n : ℕ) → n < 400 → Held (cells_at_start functions strings place (16 + n))
  unfolding cells_at_start
  start-globals n l = rw (le-leb 16 (16 + n) (omega arith), lt-ltb (16 + n) 416 (omega arith)) held

  start-strings : (k i : ℕ) → k < length strings → length place.strings ≡ length strings
      → i < length (pairs (length (get_or strings k [])) (get_or strings k []))
      → 416 ≤ get_or place.strings k 0 + i → Held (cells_at_start functions strings place (get_or place.strings k 0 + i))
  unfolding cells_at_start
  start-strings k i l e m above = rw (le-leb 16 (get_or place.strings k 0 + i) (omega arith), le-ltb (get_or place.strings k 0 + i) 416 above)
      (string-held strings place.strings k i _ l e m refl)

  -- ---- and its end

  module _ (memory : ℕ) (input : List ℕ) where
    pub ended-keeps : (fuel : ℕ) (s : State) → Over (run_with fuel functions strings place memory input) s
        → Keeps place.first (at_start functions strings place) s
    unfolding run_with
    ended-keeps fuel s over =
        over-keeps (kept-called place.first functions place memory input fuel _ (place.first + 2) [] (at_start functions strings place)
        (omega arith)) over

    pub ended-globals : (fuel : ℕ) (s : State) → Over (run_with fuel functions strings place memory input) s → (n : ℕ) → n < 400
        → 16 + n < place.first → Held (s.cells (16 + n))
    ended-globals fuel s over n l below = ended-keeps fuel s over (16 + n) below (start-globals n l)

    pub ended-strings : (fuel : ℕ) (s : State) → Over (run_with fuel functions strings place memory input) s
        → (k i : ℕ) → k < length strings → length place.strings ≡ length strings
        → i < length (pairs (length (get_or strings k [])) (get_or strings k []))
        → 416 ≤ get_or place.strings k 0 + i → get_or place.strings k 0 + i < place.first → Held (s.cells (get_or place.strings k 0 + i))
    ended-strings fuel s over k i l e m above below = ended-keeps fuel s over _ below (start-strings k i l e m above)
