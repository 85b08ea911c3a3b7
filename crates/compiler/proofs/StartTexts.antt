-- The text of the globals in which functions start: one function by its label, and all in turn.
use Rattle.laws.proofs.Basics.{ℕ, suc, ◌+◌, ◌<◌, ◌≤◌, ◌≡◌, refl, sym, ap, ◌∙◌, List, [], ◌∷◌, ◌++◌, append_assoc, append-nil, length, get_or}
use Rattle.laws.proofs.Basics.{length-append, List·getD-eq-default, ltb, add-zero, arith, ltb-true, ltb-false}
use Rattle.std.specs.Prelude.{Option, Some, None}
use Rattle.laws.proofs.Cases.{by_cases, contradiction}
use Rattle.items.specs.Item as I
use Rattle.language.specs.Resolved.{Start, nowhere, in_global, Fun}
use Rattle.code.specs.Generate.{start_in, starts_code}
use Rattle.writing.specs.Text.{Appends, line, lines}
use Rattle.writing.proofs.Laws.{appends_then, appends_as, appends_none, lines_then}
use Rattle.compiler.proofs.Vocabulary.{Starting, starts_of}
use Rattle.compiler.specs.Strings.{FindsGlobal, StartsAt, WritesStart, WritesStarts}

-- ---- the global of a label: none of the first n entries is it

pub record Passed (table : List ℕ) (label n : ℕ) : Type 0 where
  pub none : (m : ℕ) → m < n → get_or table m 0 ≡ label → ⊥

pub passed-begin : {table : List ℕ} {label : ℕ} → Passed table label 0
passed-begin = record { none = λ m h e. omega arith }

pub passed-next : {table : List ℕ} {label n k : ℕ} → k ≡ get_or table n 0 → (k ≡ label → ⊥) → Passed table label n → Passed table label (n + 1)
passed-next {n = n} e f p = record {
  none = λ m h q. by_cases (ltb m n) (λ l. p.none m (ltb-true m n l) q) (λ l. let z : m ≡ n = omega (arith, ltb-false m n l) in f (cc));
}

pub passed-found : {table : List ℕ} {label n k : ℕ} → n < 400 → k ≡ get_or table n 0 → k ≡ label → FindsGlobal table label (Some n)
passed-found {n = n} h e f =
    record { is = λ m q. let z : n ≡ m = cc in (omega arith, rw (← z) (sym e ∙ f)); none = λ l. contradiction cc }

pub passed-end : {table : List ℕ} {label n : ℕ} → 400 ≤ n → Passed table label n → FindsGlobal table label None
passed-end h p = record { is = λ m l. contradiction cc; none = λ _ m l e. p.none m (omega arith) e }

-- ---- one function

pub start-put : {table : List ℕ} {label n at r : ℕ} {g : Option ℕ} {t t' : List ℕ} → FindsGlobal table label g → g ≡ Some n
    → Appends (line (I.global n label)) at r t t' → WritesStart table label at r t t'
unfolding lines
start-put {table} {label} {n} f h p = record { by = λ start s. rw (s.is n (f.is n h).0 (f.is n h).1) (appends_as p (append-nil (line (I.global n label)))) }

pub start_none : {table : List ℕ} {label at : ℕ} {g : Option ℕ} {t : List ℕ} → FindsGlobal table label g → g ≡ None → WritesStart table label at at t t
unfolding lines
start_none f h = record { by = elim [ nowhere ↦ λ s. appends_none | in_global m ↦ λ s. absurd (let q = s.has m refl in f.none h m q.0 q.1) ] }

-- ---- all of them: k functions are done

pub record StartsPart (k at x : ℕ) (t t' : List ℕ) (fs : List Fun) : Type 0 where
  pub done : List Fun
  pub rest : List Fun
  pub all : fs ≡ done ++ rest
  pub count : k ≡ length done
  pub text : Appends (lines (starts_code 1 done)) at x t t'

pub record StartsSoFar (table : List ℕ) (functions k at x : ℕ) (t t' : List ℕ) : Type 0 where
  pub by : (fs : List Fun) → length table ≡ 400 → functions ≡ length fs → Starting table (starts_of fs) → StartsPart k at x t t' fs

pub starts-begin : {table : List ℕ} {functions at : ℕ} {t : List ℕ} → StartsSoFar table functions 0 at at t t
unfolding starts_code lines
starts-begin = record { by = λ fs l e s. record { done = []; rest = fs; all = refl; count = refl; text = appends_none } }

starts-then : (l : ℕ) (a b : List Fun) → starts_code l (a ++ b) ≡ starts_code l a ++ starts_code (l + length a) b
unfolding starts_code
starts-then l [] b = rw (add-zero l)
starts-then l (f ∷ a) b = let z : suc l + length a ≡ l + suc (length a) = omega arith in
    let e : starts_code (suc l) (a ++ b) ≡ starts_code (suc l) a ++ starts_code (l + suc (length a)) b = starts-then (suc l) a b ∙ rw z in
    elim f.start as (λ s. start_in s l (starts_code (suc l) (a ++ b)) ≡ start_in s l (starts_code (suc l) a) ++ starts_code (l + suc (length a)) b)
    [ nowhere ↦ e | in_global n ↦ rw e ]

starts-at : (a : List Fun) (f : Fun) (b : List Fun) → get_or (starts_of (a ++ (f ∷ b))) (length a) nowhere ≡ f.start
unfolding starts_of
starts-at [] f b = refl
starts-at (x ∷ a) f b = starts-at a f b

one-start : {table : List ℕ} {k : ℕ} {ss : List Start} (s : Start) → length table ≡ 400 → Starting table ss → get_or ss k nowhere ≡ s
    → StartsAt table (suc k) s
one-start {table} {k} s l q e = record {
  is = λ n h g. sym e ∙ q.is n k h g;
  has = λ n g. let z : get_or table n 0 ≡ suc k = q.has n k (e ∙ g) in (
    by_cases (ltb n 400) (ltb-true n 400)
        (λ h. let b = ltb-false n 400 h in absurd (omega (arith, List·getD-eq-default table 0 {n = n} (omega arith)))),
    z,
  );
}

first-fun : (fs : List Fun) → 0 < length fs → (f : Fun) × (b : List Fun) × (fs ≡ f ∷ b)
first-fun [] h = absurd (omega arith)
first-fun (f ∷ b) h = (f, b, refl)

no-fun : (fs : List Fun) → length fs ≡ 0 → fs ≡ []
no-fun [] h = refl
no-fun (f ∷ b) h = absurd (omega arith)

pub starts-next : {table : List ℕ} {functions k at x r : ℕ} {t t₁ t₂ : List ℕ} → k < functions → WritesStart table (k + 1) x r t₁ t₂
    → StartsSoFar table functions k at x t t₁ → StartsSoFar table functions (k + 1) at r t t₂
unfolding starts_code
starts-next {k = k} h w q = record {
  by = λ fs l e s. let y = q.by fs l e s in let u = first-fun y.rest (omega (arith, ap length y.all, length-append y.done y.rest)) in
      let f = u.0 in let b = u.1 in let a : fs ≡ y.done ++ (f ∷ b) = y.all ∙ ap (λ (z : List Fun). y.done ++ z) u.2 in
      let j : k + 1 ≡ suc k = omega arith in
      let j' : 1 + length y.done ≡ k + 1 = omega arith in
      let g : get_or (starts_of fs) k nowhere ≡ f.start = cc (a, y.count, starts-at y.done f b) in
      record {
        done = y.done ++ (f ∷ []);
        rest = b;
        all = a ∙ sym (append_assoc y.done (f ∷ []) b);
        count = omega (arith, length-append y.done (f ∷ []));
        text = appends_as (appends_then y.text (w.by f.start (rw j (one-start f.start l s g))))
            (ap lines (starts-then 1 y.done (f ∷ []) ∙ rw j') ∙ lines_then (starts_code 1 y.done) (start_in f.start (k + 1) []));
      };
}

pub starts-end : {table : List ℕ} {functions k at x : ℕ} {t t' : List ℕ} → functions ≤ k → StartsSoFar table functions k at x t t'
    → WritesStarts table functions at x t t'
starts-end h q = record {
  by = λ fs l e s. let y = q.by fs l e s in
      let z = no-fun y.rest (omega (arith, ap length y.all, length-append y.done y.rest)) in
      appends_as y.text (simp (y.all, z, append-nil));
}
