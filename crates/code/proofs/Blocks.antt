-- The simulation of blocks: names given their words, then the commands; on leaving, the words are live no longer.
use Rattle.laws.proofs.Basics.{ℕ, suc, ◌+◌, ◌<◌, ◌≤◌, ◌≡◌, refl, sym, ◌∙◌, get_or, le_refl, arith, le-leb, lt-leb}
use Rattle.laws.proofs.Cases.{by_order, by_equal, contradiction}
use Rattle.language.specs.Resolved as R
use Rattle.language.specs.Resolved.{Cmds, Locals}
use Rattle.language.specs.Heights.{height_with}
use Rattle.language.specs.State.{unset, holds, State, Result, step, put}
use Rattle.language.specs.Run.{Flow, Sem, executed, declared, sequence, vector_words}
use Rattle.code.specs.Generate.{expr_code, expr_labels, locals_code, locals_labels, cmd_code}
use Rattle.code.proofs.Results.{post-demand}
use Rattle.code.proofs.Machine.{Mach}
use Rattle.code.proofs.Standing.{Env, Code, cut, cut-number, at-end}
use Rattle.code.proofs.Related.{gone-holds, Like, Rel, Sim, Runs, after, then, weaken, in-a-step, lower, reaching-on, open-scope, close-scope}
use Rattle.code.proofs.Related.{put_same, put_other, ticked}
use Rattle.code.proofs.Steps.{step-LP, step-SP}
use Rattle.language.proofs.Formed.{FormedC, FormedL}
use Rattle.code.proofs.Goals.{F, S, Fits, Sims}
use Rattle.code.proofs.Commands.{GoalC, sim-sequence}

pub height-more : (h : ℕ) (ls : Locals) → h ≤ height_with h ls
unfolding height_with
height-more h R.no_locals = le_refl h
height-more h (R.vector n ls) = let e = height-more (h + 2 + n) ls in omega arith
height-more h (R.value e ls) = let k = height-more (h + 1) ls in omega arith

module _ (a n : ℕ) (s : State) (b : ℕ) where
  vector-below : b < a → (vector_words a n s).cells b ≡ s.cells b
  vector-below l = rw (lt-leb a b l) refl

  vector-above : a + n < b → (vector_words a n s).cells b ≡ s.cells b
  vector-above l = rw (le-leb a b (omega arith), lt-leb b (a + n) l) refl

  vector-at : a ≤ b → b ≤ a + n → (vector_words a n s).cells b ≡ unset
  vector-at l k = rw (le-leb a b l, le-leb b (a + n) k) refl

module _ (Γ : Env) {p h : ℕ} {s : State} {v : Mach} (r : Rel Γ p h s v) where
  -- a name's word with its first value
  pub new_word : (w : ℕ) → get_or v.mem (p + h) 0 ≡ w → p + (h + 1) ≤ Γ.limit → (u : State) → Like (put (p + h) (holds w) (step s)) u
      → Sim Γ 0 p h (h + 1) s v u v
  new_word w e l u like =
      open-scope Γ r l (omega arith) (λ a k. like.cells a ∙ put_other Γ s (p + h) (holds w) a (λ q. omega arith))
      (λ a y k g. let t = sym (like.cells a) ∙ g in
      by_equal a (p + h) (λ q. let z : holds w ≡ holds y = sym (put_same Γ s (p + h) (holds w)) ∙ (rw q at t) in rw q (e ∙ (cc)))
      (λ q. absurd (gone-holds (r.above a k) (sym (put_other Γ s (p + h) (holds w) a q) ∙ t))))
      (λ a k. like.cells a ∙ put_other Γ s (p + h) (holds w) a (λ q. omega arith) ∙ r.above a (omega arith))
      like.output like.taken (omega (arith, like.steps))

  -- a vector's name's word with its address, and its words
  pub new-vector : (n : ℕ) → get_or v.mem (p + h) 0 ≡ p + h + 1 → p + (h + 2 + n) ≤ Γ.limit → (u : State)
      → Like (put (p + h) (holds (p + h + 1)) (vector_words (p + h + 1) n s)) u → Sim Γ 0 p h (h + 2 + n) s v u v
  new-vector n e l u like =
      open-scope Γ r l (omega arith)
      (λ a k. like.cells a ∙ put_other Γ vs (p + h) (holds (p + h + 1)) a (λ q. omega arith) ∙ vector-below (p + h + 1) n s a (omega arith))
      (λ a y k g. let t = sym (like.cells a) ∙ g in
      by_equal a (p + h) (λ q. let z : holds (p + h + 1) ≡ holds y = sym (put_same Γ vs (p + h) (holds (p + h + 1))) ∙ (rw q at t) in rw q (e ∙ (cc)))
      (λ q. let o = sym (put_other Γ vs (p + h) (holds (p + h + 1)) a q) ∙ t in
      by_order (p + h + 1 + n) a (λ d. absurd (gone-holds (vector-above (p + h + 1) n s a d ∙ r.above a k) o)) (λ d.
      let z : unset ≡ holds y = sym (vector-at (p + h + 1) n s a (omega arith) d) ∙ o in contradiction cc)))
      (λ a k. like.cells a ∙ put_other Γ vs (p + h) (holds (p + h + 1)) a (λ q. omega arith) ∙ vector-above (p + h + 1) n s a (omega arith)
      ∙ r.above a (omega arith)) like.output like.taken (omega (arith, like.steps))
    where
      vs : State
      vs = vector_words (p + h + 1) n s

module _ (Γ : Env) (fits : Fits Γ) (q : Sem) (ih : Sims Γ q) where
  pub sim-locals : (ls : Locals) (n : ℕ) {Q : Flow → Mach → Type 0} {t p h₀ h h₃ a b : ℕ} {s : State} {v : Mach} (more : State → Result Flow)
      → h₀ ≤ h → t ≤ 9 → Code Γ a (locals_code (suc (F Γ)) h n ls) b → FormedL (F Γ) (S Γ) h ls → v.regs.c ≡ a → Rel Γ p h s v
      → ((u : State) (w : Mach) → Rel Γ p (height_with h ls) u w → w.regs.c ≡ b → Runs Γ Q t p h₀ h₃ u w (more u))
      → Runs Γ Q t p h₀ h₃ s v (declared Γ.limit q ls p h s more)
  unfolding declared locals_code FormedL height_with
  sim-locals R.no_locals n {s = s} {v = v} more le t9 k f pc r g = g s v r (pc ∙ at-end Γ k)
  sim-locals (R.vector m ls) n {p = p} {h = h} {s = s} more le t9 k f pc r g = cut-number Γ k λ b₁ i₁ k₁.
      cut-number Γ k₁ λ b₂ i₂ k₂.
      reaching-on Γ p (h + 2 + m) (λ u. declared Γ.limit q ls p (h + 2 + m) u more) λ u like l.
      weaken Γ (in-a-step Γ (step-LP Γ fits.sized le (ticked Γ r) pc i₁ (omega (arith, fits.sized.slack, fits.sized.most)) λ v₁ r₁ c₁ a₁.
      step-SP Γ fits.sized le r₁ c₁ i₂ (le_refl h) (omega arith) λ v₂ r₂ c₂ _ g₂ _.
      let x₂ : Sim Γ 0 p h (h + 2 + m) (step s) v₂ u v₂ = new-vector Γ r₂ m (omega (arith, g₂, a₁)) l u like in
      after Γ le x₂ (sim-locals ls n more (omega arith) t9 k₂ f.0 c₂ x₂.rel g)) (omega arith)) (omega arith)
  sim-locals (R.value e ls) n {p = p} {h = h} more le t9 k f pc r g = cut Γ (expr_code (suc (F Γ)) h n e) _ k λ b₁ k₁ k₂.
      cut-number Γ k₂ λ b₂ i₂ k₃.
      weaken Γ (in-a-step Γ (then Γ le (ih.evaluate e n k₁ f.0 pc r) λ y s₁ v₁ x₁ y₁.
      post-demand y₁.has λ w ew.
      reaching-on Γ p (h + 1) (λ u. declared Γ.limit q ls p (h + 1) u more) λ u like l.
      step-SP Γ fits.sized le x₁.rel y₁.at i₂ (le_refl h) (omega arith) λ v₂ r₂ c₂ _ g₂ _.
      let x₂ : Sim Γ 0 p h (h + 1) s₁ v₂ u v₂ = new_word Γ r₂ w (g₂ ∙ ew) l u like in
      after Γ le x₂ (sim-locals ls (n + expr_labels e) more (omega arith) t9 k₃ f.1 c₂ x₂.rel g)) (omega arith)) (omega arith)

  pub sim-block : (ls : Locals) (cs : Cmds) → GoalC Γ q (R.block ls cs)
  unfolding executed cmd_code FormedC
  sim-block ls cs p h n a b x s v k f pc r = cut Γ (locals_code (suc (F Γ)) h n ls) _ k λ b₁ k₁ k₂.
      let up : h ≤ height_with h ls = height-more h ls in
      close-scope Γ up (in-a-step Γ (sim-locals ls n (λ t. sequence q cs p (height_with h ls) t) (le_refl h) (omega arith) k₁ f.0 pc (ticked Γ r)
      λ u w r₁ c₁. lower Γ up (sim-sequence Γ fits q ih cs (n + locals_labels ls) k₂ f.1 c₁ r₁)) (omega arith))
