-- Arguments: each waits in the word of its height until the call uses them all.
use Rattle.laws.proofs.Basics.{ℕ, zero, suc, ◌+◌, ◌<◌, ◌≤◌, ◌≡◌, refl, ◌∙◌, List, [], ◌∷◌, ◌++◌, append_assoc, append-nil, some, get_or, le_refl}
use Rattle.laws.proofs.Basics.{add-zero, arith}
use Rattle.laws.proofs.Cases.{contradiction}
use Rattle.language.specs.Resolved as R
use Rattle.language.specs.Resolved.{Exprs}
use Rattle.language.specs.Heights.{count}
use Rattle.language.specs.State.{gone, Value, State, Result}
use Rattle.language.specs.Run.{Sem, arguments, demand_all, nth}
use Rattle.code.specs.Generate.{expr_code, exprs_code, expr_labels}
use Rattle.code.proofs.Results.{Post, post-demand, Has, has_same}
use Rattle.code.proofs.Machine.{Mach}
use Rattle.code.proofs.Standing.{Env, Code, cut, cut-number, at-end}
use Rattle.code.proofs.Related.{Rel, Runs, then, weaken, in-a-step, reaching, raise, sink-rel, like-rel}
use Rattle.code.proofs.Steps.{step-SP}
use Rattle.language.proofs.Formed.{FormedA}
use Rattle.code.proofs.Goals.{F, S, Fits, Sims}

-- values in the words from a on, below z
pub data Loaded (m : List ℕ) (z : ℕ) : List Value → ℕ → Type 0 where
  l-none : {a : ℕ} → Loaded m z [] a
  l-more : {a b : ℕ} {x : Value} {xs : List Value} → a < z → Has x (get_or m a 0) → suc a ≡ b → Loaded m z xs b → Loaded m z (x ∷ xs) a

pub loaded-same : {m m' : List ℕ} {z a : ℕ} {xs : List Value} → Loaded m z xs a → (c : ℕ) → c ≤ a
    → ((y : ℕ) → c ≤ y → y < z → get_or m' y 0 ≡ get_or m y 0) → Loaded m' z xs a
loaded-same l-none c l f = l-none
loaded-same (l-more k q e r) c l f = l-more k (has_same q (f _ l k)) e (loaded-same r c (omega arith) f)

-- numbers in the words from a on
pub record Holding (m : List ℕ) (ws : List ℕ) (a : ℕ) : Type 0 where
  pub at : (i x : ℕ) → nth ws i ≡ some x → get_or m (a + i) 0 ≡ x

pub holding-none : (m : List ℕ) (a : ℕ) → Holding m [] a
unfolding nth
holding-none m a = record { at = λ i x e. contradiction cc }

holding-more : {m ws : List ℕ} {a b : ℕ} (w : ℕ) → get_or m a 0 ≡ w → suc a ≡ b → Holding m ws b → Holding m (w ∷ ws) a
unfolding nth
holding-more {m} {ws} {a} {b} w g e h = record { at = go }
  where
    go : (i x : ℕ) → nth (w ∷ ws) i ≡ some x → get_or m (a + i) 0 ≡ x
    go zero x q = rw (add-zero a) (g ∙ (cc))
    go (suc i) x q = let z : a + suc i ≡ b + i = omega arith in rw z (h.at i x q)

pub post-demand_all : {A : Type 0} {Q : A → State → Type 0} {L E : State → Type 0} {m : List ℕ} {z a : ℕ} {xs : List Value} (more : List ℕ → Result A)
    → Loaded m z xs a → (acc : List ℕ)
    → ((ws : List ℕ) → Holding m ws a → Post Q L E (more (acc ++ ws))) → Post Q L E (demand_all xs acc more)
post-demand_all {m = m} {a = a} more l-none acc f = rw mathlib.Core.List.append-nil at (f [] (holding-none m a))
post-demand_all more (l-more k q e r) acc f =
    post-demand q λ w g. post-demand_all more r (acc ++ (w ∷ [])) λ ws h. rw append_assoc (f (w ∷ ws) (holding-more w g e h))

module _ (Γ : Env) (fits : Fits Γ) (q : Sem) (ih : Sims Γ q) where
  pub sim-arguments : (es : Exprs) (n : ℕ) {Q : Value → Mach → Type 0} {t p h₀ h h₃ a b z : ℕ} {s : State} {v : Mach}
      (more : List Value → State → Result Value) → h₀ ≤ h → t ≤ 9 → p + (h + count es) ≡ z
      → Code Γ a (exprs_code (suc (F Γ)) h n es) b → FormedA (F Γ) (S Γ) h es
      → v.regs.c ≡ a → Rel Γ p h s v
      → ((xs : List Value) (u : State) (w : Mach) → Rel Γ p h u w → w.regs.c ≡ b → Loaded w.mem z xs (p + h) → z ≤ Γ.limit
      → ((y : ℕ) → y < p + h → s.cells y ≡ gone → get_or w.mem y 0 ≡ get_or v.mem y 0)
      → ((y : ℕ) → y < p + h → s.cells y ≡ gone → u.cells y ≡ gone)
      → Runs Γ Q t p h₀ h₃ u w (more xs u))
      → Runs Γ Q t p h₀ h₃ s v (arguments Γ.limit q es p h s more)
  unfolding arguments exprs_code FormedA count
  sim-arguments R.none n {p = p} {h = h} {s = s} {v = v} more le t9 ez k f pc r g =
      g [] s v r (pc ∙ at-end Γ k) l-none (omega (arith, r.room)) (λ y l e. refl) (λ y l e. e)
  sim-arguments (R.and e es) n {p = p} {h = h} {z = z} more le t9 ez k f pc r g = cut Γ (expr_code (suc (F Γ)) h n e) _ k λ b₁ k₁ k₂.
      cut-number Γ k₂ λ b₂ i₂ k₃.
      let up : h ≤ h + 1 = omega arith in
      weaken Γ (in-a-step Γ (then Γ le (ih.evaluate e n k₁ f.0 pc r) λ x s₁ v₁ x₁ y₁.
      reaching Γ (h + 1) (λ u. arguments Γ.limit q es p (h + 1) u (λ xs w. more (x ∷ xs) w)) λ u like l.
      step-SP Γ fits.sized le (like-rel Γ like x₁.rel) y₁.at i₂ (le_refl h) (omega arith) λ v₂ r₂ c₂ _ g₂ o₂.
      sim-arguments es (n + expr_labels e) (λ xs w. more (x ∷ xs) w) (omega arith) t9 (omega arith) k₃ f.1 c₂ (raise Γ r₂ up l)
      (λ xs u' w r₃ c₃ ld lim fr kp.
      let here : get_or w.mem (p + h) 0 ≡ v₁.regs.a = fr (p + h) (omega arith) (r₂.above (p + h) (omega arith)) ∙ g₂ in
      g (x ∷ xs) u' w (sink-rel Γ r₂ up r₃ kp) c₃ (l-more (omega arith) (has_same y₁.has here) (omega arith) ld) lim
      (λ y j e. fr y (omega arith) (like.cells y ∙ x₁.keep y j e) ∙ o₂ y (λ w. omega arith) ∙ x₁.frame y j e)
      (λ y j e. kp y (omega arith) (like.cells y ∙ x₁.keep y j e)))) (omega arith)) (omega arith)
