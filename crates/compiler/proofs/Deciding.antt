-- The least key of faults is that of the least fault, if places and numbers fit; and the answer by the least keys is that of the rules.
use Rattle.std.specs.Prelude.{Err, Ok, Result}
use Rattle.laws.proofs.Basics.{ℕ, ◌+◌, ◌*◌, ◌/◌, ◌%◌, ◌^◌, ◌<◌, ◌≤◌, ◌≡◌, refl, ap, ◌∙◌, List, [], ◌∷◌, Bool, true, false, not, cond, length, eqb}
use Rattle.laws.proofs.Basics.{ltb, arith, eqb-true, eqb-false, eq-eqb, ne_eqb, ltb-true, ltb-false, lt-ltb, le-ltb}
use Rattle.laws.proofs.Cases.{by_cases}
use mathlib.Core.Logic.{◌≢◌}
use Rattle.language.specs.Constants.{Fault}
use Rattle.compiler.specs.Walked.{key, least, AllFit, and_fit}
use Rattle.text.specs.Line.{refusal}
use Rattle.language.specs.Program.{before, least_from, least_or, Refused, accepted, refused}
use Rattle.language.specs.Whole.{unless_fits}
use Rattle.code.specs.Generate.{text_of}
use Rattle.writing.specs.Text.{upto}
use Rattle.writing.proofs.Laws.{upto-in, upto-past}
use Rattle.compiler.specs.Compiles.{NONE, by_keys, answer_of}
use Rattle.text.specs.declared.Refusal.{Refusal}

abbrev earlier : (p n q m : ℕ) → Bool
earlier p n q m = cond (ltb p q) true (cond (eqb p q) (ltb n m) false)

keys : (p n q m : ℕ) → n < 32 → m < 32 → ltb (p * 32 + n) (q * 32 + m) ≡ earlier p n q m
keys p n q m a b = by_cases (ltb p q) (λ e. rw e (lt-ltb (p * 32 + n) (q * 32 + m) (omega (arith, ltb-true p q e)))) (λ e. rw e (by_cases (eqb p q)
    (λ f. rw f (same (eqb-true p q f))) (λ f. rw f (le-ltb (p * 32 + n) (q * 32 + m) (omega (arith, ltb-false p q e, eqb-false p q f))))))
  where
    same : p ≡ q → ltb (p * 32 + n) (q * 32 + m) ≡ ltb n m
    same e = by_cases (ltb n m) (λ f. rw f (lt-ltb (p * 32 + n) (q * 32 + m) (omega (arith, ltb-true n m f))))
        (λ f. rw f (le-ltb (p * 32 + n) (q * 32 + m) (omega (arith, ltb-false n m f))))

pub least-from : (f : Fault) (fs : List Fault) → f.number < 32 → AllFit fs → least (key f) fs ≡ key (least_from f fs)
unfolding least least_from
least-from f [] a h = refl
least-from f (g ∷ gs) a (and_fit p n h) = rw (keys g.place g.number f.place f.number n a)
    (by_cases (before g f) (λ e. simp e (least-from g gs n h)) (λ e. simp e (least-from f gs a h)))

-- from a number above all keys
pub least_first : (f : Fault) (fs : List Fault) → AllFit (f ∷ fs) → least (2 ^ 37) (f ∷ fs) ≡ key (least_from f fs)
unfolding least
least_first f fs (and_fit p n h) = ap (λ (b : Bool). least (cond b (key f) (2 ^ 37)) fs) (lt-ltb (key f) (2 ^ 37) (omega arith)) ∙ least-from f fs n h

-- ---- the answer

record Fits (f : Fault) : Type 0 where
  place : f.place < 2 ^ 32
  number : f.number < 32

least_fits : (f : Fault) (fs : List Fault) → Fits f → AllFit fs → Fits (least_from f fs)
unfolding least_from
least_fits f [] a h = a
least_fits f (g ∷ gs) a (and_fit p n h) =
    by_cases (before g f) (λ e. rw e (least_fits g gs (record { place = p; number = n }) h)) (λ e. rw e (least_fits f gs a h))

-- as `answer_of`, of a text of any length
abbrev answer : List ℕ → (size : ℕ) → Refused → Result ℕ Refusal
answer source size accepted = Ok size
answer source size (refused number place) = Err (refusal source number place)

same_answer : (source : List ℕ) (r : Refused) → answer source (length (text_of source)) r ≡ answer_of source r
same_answer source accepted = refl
same_answer source (refused number place) = refl

-- the refusal that a key stands for
abbrev by_key : List ℕ → ℕ → Result ℕ Refusal
by_key source k = Err (refusal source (k % 32) (k / 32))

key-refusal : (source : List ℕ) (f : Fault) → Fits f → by_key source (key f) ≡ Err (refusal source f.number f.place)
key-refusal source f a = let n : key f % 32 ≡ f.number = omega arith in let p : key f / 32 ≡ f.place = omega arith in rw (n, p) refl

-- faults by their least key, and else what else is answered
by-least : (source : List ℕ) (k size room : ℕ) (fs : List Fault) → AllFit fs → k ≡ least NONE fs → (other : Result ℕ Refusal) (rest : Refused)
    → (fs ≡ [] → other ≡ answer source size (unless_fits size room rest))
    → cond (ltb k NONE) (by_key source k) other ≡ answer source size (unless_fits size room (least_or fs rest))
unfolding least
by-least source k size room [] a e other rest o = rw e (o refl)
by-least source k size room (f ∷ fs) (and_fit p n h) e other rest o =
    let z : k ≡ key (least_from f fs) = e ∙ least_first f fs (and_fit p n h) in let x = least_fits f fs (record { place = p; number = n }) h in
    let below : key (least_from f fs) < NONE = omega arith in
    rw (z, lt-ltb (key (least_from f fs)) NONE below) (key-refusal source (least_from f fs) x)

-- the end of the text, as far as it is told
by-room : (source : List ℕ) (at size room : ℕ) → at ≡ upto room size
    → cond (ltb room at) (Err (refusal source 15 0)) (Ok at) ≡ answer source size (unless_fits size room accepted)
by-room source at size room e =
    by_cases (ltb room size) (λ h. rw (e, upto-past room size (ltb-true room size h), lt-ltb room (room + 1) (omega arith), h))
    (λ h. rw (e, upto-in room size (ltb-false room size h), h))

by-start : (source : List ℕ) (b : Bool) (start at size room : ℕ) → eqb start 0 ≡ not b → at ≡ upto room size
    → cond (eqb start 0) (Err (refusal source 14 0)) (cond (ltb room at) (Err (refusal source 15 0)) (Ok at))
    ≡ answer source size (unless_fits size room (cond b accepted (refused 14 0)))
by-start source true start at size room e h = rw e (by-room source at size room h)
by-start source false start at size room e h = rw e refl

-- the answer by the least keys is that of the rules: 8 to 13, 16, 14, and 15 where the text is too long
pub decides : (source : List ℕ) (fs hs : List Fault) (b : Bool) (worst tall start at room : ℕ) → AllFit fs → AllFit hs → worst ≡ least NONE fs
    → (fs ≡ [] → tall ≡ least NONE hs) → (fs ≡ [] → eqb start 0 ≡ not b) → (fs ≡ [] → at ≡ upto room (length (text_of source))) → by_keys source worst
    tall start at room ≡ answer_of source (unless_fits (length (text_of source)) room (least_or fs (least_or hs (cond b accepted (refused 14 0)))))
unfolding by_keys
decides source fs hs b worst tall start at room f h w t s e =
    let size : ℕ = length (text_of source) in let last : Refused = cond b accepted (refused 14 0) in
    by-least source worst size room fs f w _ (least_or hs last)
    (λ z. by-least source tall size room hs h (t z) _ last (λ _. by-start source b start at size room (s z) (e z))) ∙ same_answer source
    (unless_fits size room (least_or fs (least_or hs last)))

-- ---- `by_keys`, case by case

module _ (source : List ℕ) (worst tall start at room : ℕ) where
  pub by-worst : worst < NONE → by_key source worst ≡ by_keys source worst tall start at room
  unfolding by_keys
  by-worst h = rw (lt-ltb worst NONE h) refl

  module _ (h : NONE ≤ worst) where
    pub by-tall : tall < NONE → by_key source tall ≡ by_keys source worst tall start at room
    unfolding by_keys
    by-tall k = rw (le-ltb worst NONE h, lt-ltb tall NONE k) refl

    module _ (k : NONE ≤ tall) where
      pub by-none : start ≡ 0 → Err (refusal source 14 0) ≡ by_keys source worst tall start at room
      unfolding by_keys
      by-none e = rw (le-ltb worst NONE h, le-ltb tall NONE k, eq-eqb start 0 e) refl

      module _ (n : start ≢ 0) where
        pub by-past : room < at → Err (refusal source 15 0) ≡ by_keys source worst tall start at room
        unfolding by_keys
        by-past l = rw (le-ltb worst NONE h, le-ltb tall NONE k, ne_eqb start 0 n, lt-ltb room at l) refl

        pub by_end : at ≤ room → Ok at ≡ by_keys source worst tall start at room
        unfolding by_keys
        by_end l = rw (le-ltb worst NONE h, le-ltb tall NONE k, ne_eqb start 0 n, le-ltb room at l) refl
