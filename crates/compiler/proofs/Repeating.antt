-- The code of a command with REPEAT forms, and the loop over them.
use Rattle.laws.proofs.Basics.{ℕ, zero, suc, ◌+◌, ◌-◌, ◌*◌, ◌≤◌, ◌≡◌, refl, sym, ap, subst, ◌∙◌, List, [], ◌∷◌, ◌++◌, append_assoc, append-nil, eqb}
use Rattle.laws.proofs.Basics.{arith}
use Rattle.items.specs.Item as I
use Rattle.language.specs.Tree as T
use Rattle.compiler.proofs.Language.{Repeats, Scope, Cmd, expression, repeats, of_expr, of_cmd}
use Rattle.language.specs.Resolved as R
use Rattle.code.specs.Generate as G
use Rattle.code.specs.Generate.{Exits, cmd_code, cmd_labels, expr_code, expr_labels}
use Rattle.compiler.proofs.Vocabulary.{State, Emits}
use Rattle.compiler.proofs.Common.{emits_none, emits_then}
use Rattle.compiler.specs.Repeats.{forms, tops_code, forms_code, forms_heights, forms_labels, innermost}

tops-snoc : (n k : ℕ) → tops_code n (suc k) ≡ tops_code n k ++ (I.label (n + 3 * k) ∷ [])
unfolding tops_code
tops-snoc n zero = let a : n ≡ n + 3 * 0 = omega arith in cc
tops-snoc n (suc k) = let a : n + 3 + 3 * k ≡ n + 3 * suc k = omega arith in rw (tops-snoc (n + 3) k, a)

-- the loop that writes them
pub tops-none : (n : ℕ) {t : List ℕ} {st : State} → Emits (tops_code n 0) [] t t st st
unfolding tops_code
tops-none n = emits_none

pub tops_next : (n i : ℕ) {t t₁ t₂ : List ℕ} {st a b : State} → Emits (tops_code n i) [] t t₁ st a → Emits (I.label (n + 3 * i) ∷ []) [] t₁ t₂ a b
    → Emits (tops_code n (i + 1)) [] t t₂ st b
tops_next n i {t} {t₁} {t₂} {st} {a} {b} f g = let q : suc i ≡ i + 1 = omega arith in
    subst (λ (z : List I.Item). Emits z [] t t₂ st b) (sym (tops-snoc n i) ∙ ap (tops_code n) q) (emits_then f g)

pub tops-all : (n i k : ℕ) {t t' : List ℕ} {st r : State} → k ≤ i → i ≤ k → Emits (tops_code n i) [] t t' st r → Emits (tops_code n k) [] t t' st r
tops-all n i k {t} {t'} {st} {r} l m f = let q : i ≡ k = omega arith in rw q at f

in-loops : (n k a b : ℕ) (x : Exits) → G.in_loop a b (innermost n k x) ≡ G.in_loop a b x
in-loops n zero a b x = refl
in-loops n (suc k) a b x = refl

-- a loop's code behind the labels before it, with its first label among them
regrouped : (tops : List I.Item) (l : I.Item) (body : List I.Item) (j : I.Item) (test end more : List I.Item)
    → tops ++ ((l ∷ (body ++ (j ∷ (test ++ end)))) ++ more) ≡ (tops ++ (l ∷ [])) ++ (body ++ (j ∷ (test ++ (end ++ more))))
regrouped tops l body j test end more = simp append_assoc

module _ (text : List ℕ) (sc : Scope) (strings h : ℕ) where
  abbrev Whole : (n k N own m : ℕ) → Exits → Cmd → Repeats → List I.Item
  Whole n k N own m x c rs = tops_code n k ++ (cmd_code strings h N (innermost n k x) c ++ forms_code text sc strings h own rs m)

  pub repeats-code : (rs : Repeats) (c : Cmd) (n N own m : ℕ) (x : Exits) → N ≡ n + 3 * forms rs → own ≡ N - 3 → m ≡ N + cmd_labels c
      → cmd_code strings h n x (repeats text sc h c rs) ≡ Whole n (forms rs) N own m x c rs
  unfolding repeats forms forms_code tops_code cmd_code cmd_labels
  repeats-code T.no_repeats c n N own m x e eo em = let a : n ≡ N = omega arith in simp (a, append-nil)
  repeats-code (T.repeat rs) c n N own m x e eo em =
      let k = forms rs in let M = n + 3 * k in let q : M + 3 ≡ N = omega arith in let p : own ≡ M = omega arith in let r : M + (3 + cmd_labels c)
      ≡ m = omega arith in let C = cmd_code strings h N (G.in_loop (M + 1) (M + 2) x) c in let tail = I.label (M + 1) ∷ G.JL M ∷ I.label (M + 2) ∷ [] in
      let F = forms_code text sc strings h (M - 3) rs m in let i = repeats-code rs (R.repeat c) n M (M - 3) m x refl refl (sym r) in
      let a = append_assoc (tops_code n k) (I.label M ∷ []) (C ++ (I.label (M + 1) ∷ G.JL M ∷ I.label (M + 2) ∷ F)) in
      cc (i, in-loops n k (M + 1) (M + 2) x, append_assoc C tail F, a, tops-snoc n k)
  repeats-code (T.repeat_on w e rs) c n N own m x en eo em =
      let k = forms rs in let M = n + 3 * k in let q : N ≡ M + 3 = omega arith in let p : own ≡ M = omega arith in let E = expression text sc h e in
      let b = eqb w 21 in let l = M + 3 + cmd_labels c in let r : m ≡ l = omega arith in
      let r' : M + (3 + cmd_labels c + expr_labels E) ≡ m + expr_labels E = omega arith in let end = G.jump_when b M ∷ I.label (M + 2) ∷ [] in
      let F = forms_code text sc strings h (M - 3) rs (m + expr_labels E) in let X = I.label (M + 1) ∷ (expr_code strings h l E ++ end) in
      let inner = G.in_loop (M + 1) (M + 2) x in
      repeats-code rs (R.repeat_while b c E) n M (M - 3) (m + expr_labels E) x refl refl (sym r')
      ∙ ap (λ (y : Exits). tops_code n k ++ ((I.label M ∷ (cmd_code strings h (M + 3) y c ++ X)) ++ F)) (in-loops n k (M + 1) (M + 2) x)
      ∙ regrouped (tops_code n k) (I.label M) (cmd_code strings h (M + 3) inner c) (I.label (M + 1)) (expr_code strings h l E) end F
      ∙ rw (q, p, r, ← tops-snoc n k)

pub repeats-heights : (text : List ℕ) (sc : Scope) (h : ℕ) (rs : Repeats) (c : Cmd)
    → of_cmd h (repeats text sc h c rs) ≡ of_cmd h c ++ forms_heights text sc h rs
unfolding repeats forms_heights of_cmd
repeats-heights text sc h T.no_repeats c = sym (append-nil (of_cmd h c))
repeats-heights text sc h (T.repeat rs) c = repeats-heights text sc h rs (R.repeat c)
repeats-heights text sc h (T.repeat_on w e rs) c = let E = expression text sc h e in
    repeats-heights text sc h rs (R.repeat_while (eqb w 21) c E) ∙ append_assoc (of_cmd h c) (of_expr h E) (forms_heights text sc h rs)

pub repeats-labels : (text : List ℕ) (sc : Scope) (h : ℕ) (rs : Repeats) (c : Cmd)
    → cmd_labels (repeats text sc h c rs) ≡ 3 * forms rs + (cmd_labels c + forms_labels text sc h rs)
unfolding repeats forms_labels forms cmd_labels
repeats-labels text sc h T.no_repeats c = omega arith
repeats-labels text sc h (T.repeat rs) c = omega (arith, repeats-labels text sc h rs (R.repeat c))
repeats-labels text sc h (T.repeat_on w e rs) c = omega (arith, repeats-labels text sc h rs (R.repeat_while (eqb w 21) c (expression text sc h e)))
