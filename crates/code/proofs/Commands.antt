-- The simulation of commands, but for loops, SWITCHON and blocks: one lemma for each form.
use Rattle.laws.proofs.Basics.{ℕ, suc, ◌+◌, ◌≡◌, refl, ◌∙◌, Bool, true, false, not, cond, eqb, le_refl, arith, not-true, not-false}
use Rattle.language.specs.Resolved as R
use Rattle.language.specs.Resolved.{Expr, Pairs, Cmd, Cmds}
use Rattle.language.specs.State.{State, Result, ok, step}
use Rattle.language.specs.Run.{Flow, normal, broke, looped, ended, gave, Sem, executed, sequence, onwards, is_true, same}
use Rattle.code.specs.Generate.{Exits, expr_code, expr_labels, cmd_code, cmd_labels, cmds_code}
use Rattle.code.proofs.Results.{p-returned, p-finished, post-cond, post-demand, has_same}
use Rattle.code.proofs.Machine.{Mach, leads-not}
use Rattle.code.proofs.Standing.{Env, Code, cut, cut-number, cut-address, cut-label, at-end}
use Rattle.code.proofs.Related.{Rel, Sim, Runs, at-finish, then, ending, weaken, in-a-step, over, ticked}
use Rattle.code.proofs.Steps.{step-J, step-F, step-unless}
use Rattle.language.proofs.Formed.{FormedC, FormedB}
use Rattle.code.proofs.Goals.{F, S, Fits, Where, w-normal, w-broke, w-looped, w-ended, w-gave, Sims}
use Rattle.code.proofs.Expressions.{part}
use Rattle.code.proofs.Assignments.{sim-pairs}

-- a jump where the value is not as wanted
pub as_wanted : (sense z : Bool) (k b : ℕ) → same sense (not z) ≡ true → cond z (cond sense k b) (cond sense b k) ≡ b
as_wanted true true k b e = cc
as_wanted true false k b e = refl
as_wanted false true k b e = refl
as_wanted false false k b e = cc

pub not-wanted : (sense z : Bool) (k b : ℕ) → same sense (not z) ≡ false → cond z (cond sense k b) (cond sense b k) ≡ k
not-wanted true true k b e = refl
not-wanted true false k b e = cc
not-wanted false true k b e = cc
not-wanted false false k b e = refl

module _ (Γ : Env) where
  abbrev C : Sem → Cmd → ℕ → ℕ → State → Result Flow
  C = executed Γ.limit

  abbrev pub GoalC : Sem → Cmd → Type 0
  GoalC q c = (p h n a b : ℕ) (x : Exits) (s : State) (v : Mach) → Code Γ a (cmd_code (suc (F Γ)) h n x c) b → FormedC (F Γ) (S Γ) h c
      → v.regs.c ≡ a → Rel Γ p h s v → Runs Γ (Where Γ b x) 0 p h h s v (C q c p h s)

  -- what a sequence makes of a command's end
  pub goes_on_lem : {p h b b' : ℕ} {x : Exits} {s : State} {v : Mach} (f : Flow) (more : State → Result Flow)
      → Rel Γ p h s v → Where Γ b x f v → (v.regs.c ≡ b → Runs Γ (Where Γ b' x) 0 p h h s v (more s))
      → Runs Γ (Where Γ b' x) 0 p h h s v (onwards f s more)
  goes_on_lem {h = h} normal more r (w-normal e) g = g e
  goes_on_lem {h = h} broke more r (w-broke o e) g = over Γ (le_refl h) r (w-broke o e)
  goes_on_lem {h = h} looped more r (w-looped o e) g = over Γ (le_refl h) r (w-looped o e)
  goes_on_lem {h = h} ended more r (w-ended o e) g = over Γ (le_refl h) r (w-ended o e)
  goes_on_lem {h = h} (gave y) more r (w-gave o e d) g = over Γ (le_refl h) r (w-gave o e d)

  -- the same where only a jump to the end follows
  pub to_end : {p h b b' t : ℕ} {x : Exits} {s : State} {v : Mach} (f : Flow)
      → Rel Γ p h s v → Where Γ b x f v → (v.regs.c ≡ b → Runs Γ (Where Γ b' x) t p h h s v (ok normal s))
      → Runs Γ (Where Γ b' x) t p h h s v (ok f s)
  to_end normal r (w-normal e) g = g e
  to_end {h = h} broke r (w-broke o e) g = weaken Γ (over Γ (le_refl h) r (w-broke o e)) (omega arith)
  to_end {h = h} looped r (w-looped o e) g = weaken Γ (over Γ (le_refl h) r (w-looped o e)) (omega arith)
  to_end {h = h} ended r (w-ended o e) g = weaken Γ (over Γ (le_refl h) r (w-ended o e)) (omega arith)
  to_end {h = h} (gave y) r (w-gave o e d) g = weaken Γ (over Γ (le_refl h) r (w-gave o e d)) (omega arith)

  module _ (fits : Fits Γ) (q : Sem) (ih : Sims Γ q) where
    pub sim-empty : GoalC q R.empty
    unfolding executed cmd_code
    sim-empty p h n a b x s v k f pc r = over Γ (le_refl h) r (w-normal (pc ∙ at-end Γ k))

    pub sim-assign : (ps : Pairs) → GoalC q (R.assign ps)
    unfolding executed cmd_code FormedC
    sim-assign ps p h n a b x s v k f pc r = in-a-step Γ (sim-pairs Γ fits q ih ps n k f pc (ticked Γ r)) (omega arith)

    pub sim-perform : (e : Expr) → GoalC q (R.perform e)
    unfolding executed cmd_code FormedC
    sim-perform e p h n a b x s v k f pc r =
        then Γ (le_refl h) (part Γ fits q ih e n k f pc r) λ y s₁ v₁ x₁ y₁. over Γ (le_refl h) x₁.rel (w-normal y₁.at)

    pub sim-test : (e : Expr) (c d : Cmd) → GoalC q (R.test e c d)
    unfolding executed cmd_code FormedC
    sim-test e c d p h n a b x s v k f pc r = cut Γ (expr_code (suc (F Γ)) h (n + 2) e) _ k λ b₁ k₁ k₂. cut-address Γ k₂ λ b₂ _ i₂ k₃.
        cut Γ (cmd_code (suc (F Γ)) h (n + 2 + expr_labels e) x c) _ k₃ λ b₃ k₄ k₅.
        cut-address Γ k₅ λ b₄ _ i₄ k₆.
        cut-label Γ k₆ λ e₇ k₇.
        cut Γ (cmd_code (suc (F Γ)) h (n + 2 + expr_labels e + cmd_labels c) x d) _ k₇ λ b₈ k₈ k₉.
        cut-label Γ k₉ λ e₉ l₉.
        in-a-step Γ (then Γ (le_refl h) (part Γ fits q ih e (n + 2) k₁ f.0 pc (ticked Γ r)) λ y s₁ v₁ x₁ y₁.
        post-demand y₁.has λ w ew.
        step-F Γ fits.sized (le_refl h) x₁.rel y₁.at i₂ λ v₂ r₂ c₂ _.
        post-cond (is_true w) (λ t. let z : eqb v₁.regs.a 0 ≡ false = rw ew (not-true (eqb w 0) t) in
        weaken Γ {t' = 1} (ending Γ (le_refl h) (ih.run c (n + 2 + expr_labels e) k₄ f.1 (rw z at c₂) r₂) λ g s₃ v₃ x₃ y₃.
        to_end g x₃.rel y₃ λ c₃. step-J Γ fits.sized (le_refl h) x₃.rel c₃ i₄ λ v₄ r₄ c₄ _ _.
        over Γ (le_refl h) r₄ (w-normal (c₄ ∙ e₉ ∙ at-end Γ l₉))) (omega arith))
        (λ t. let z : eqb v₁.regs.a 0 ≡ true = rw ew (not-false (eqb w 0) t) in
        weaken Γ {t' = 1} (ending Γ (le_refl h) (ih.run d (n + 2 + expr_labels e + cmd_labels c) k₈ f.2 ((rw z at c₂) ∙ e₇) r₂) λ g s₃ v₃ x₃ y₃.
        to_end g x₃.rel y₃ λ c₃. over Γ (le_refl h) x₃.rel (w-normal (c₃ ∙ at-end Γ l₉))) (omega arith))) (omega arith)

    pub sim_when : (sense : Bool) (e : Expr) (c : Cmd) → GoalC q (R.when sense e c)
    unfolding executed cmd_code FormedC
    sim_when sense e c p h n a b x s v k f pc r = cut Γ (expr_code (suc (F Γ)) h (n + 1) e) _ k λ b₁ k₁ k₂. cut-address Γ k₂ λ b₂ _ i₂ k₃.
        cut Γ (cmd_code (suc (F Γ)) h (n + 1 + expr_labels e) x c) _ k₃ λ b₃ k₄ k₅.
        cut-label Γ k₅ λ e₆ k₆.
        in-a-step Γ (then Γ (le_refl h) (part Γ fits q ih e (n + 1) k₁ f.0 pc (ticked Γ r)) λ y s₁ v₁ x₁ y₁.
        post-demand y₁.has λ w ew.
        step-unless Γ fits.sized (le_refl h) x₁.rel y₁.at sense i₂ λ v₂ r₂ c₂ _.
        post-cond (same sense (is_true w)) (λ t. let c₃ : v₂.regs.c ≡ b₂ = (rw ew at c₂) ∙ as_wanted sense (eqb w 0) _ b₂ t in
        weaken Γ {t' = 0} (ending Γ (le_refl h) (ih.run c (n + 1 + expr_labels e) k₄ f.1 c₃ r₂) λ g s₃ v₃ x₃ y₃.
        to_end g x₃.rel y₃ λ c₄. over Γ (le_refl h) x₃.rel (w-normal (c₄ ∙ at-end Γ k₆))) (omega arith))
        (λ t. let c₃ : v₂.regs.c ≡ Γ.lab n = (rw ew at c₂) ∙ not-wanted sense (eqb w 0) _ b₂ t in
        over Γ (le_refl h) r₂ (w-normal (c₃ ∙ e₆ ∙ at-end Γ k₆)))) (omega arith)

    pub sim-resultis : (e : Expr) → GoalC q (R.resultis e)
    unfolding executed cmd_code FormedC
    sim-resultis e p h n a b x s v k f pc r = cut Γ (expr_code (suc (F Γ)) h n e) _ k λ b₁ k₁ k₂. cut-address Γ k₂ λ b₂ o₂ i₂ k₃.
        in-a-step Γ (then Γ (le_refl h) (part Γ fits q ih e n k₁ f pc (ticked Γ r)) λ y s₁ v₁ x₁ y₁.
        step-J Γ fits.sized (le_refl h) x₁.rel y₁.at i₂ λ v₂ r₂ c₂ a₂ _.
        over Γ (le_refl h) r₂ (w-gave o₂ c₂ (has_same y₁.has a₂))) (omega arith)

    pub sim-break : GoalC q R.break
    unfolding executed cmd_code
    sim-break p h n a b x s v k f pc r = cut-address Γ k λ b₁ o₁ i₁ k₁.
        in-a-step Γ (step-J Γ fits.sized (le_refl h) (ticked Γ r) pc i₁ λ v₂ r₂ c₂ _ _. over Γ (le_refl h) r₂ (w-broke o₁ c₂)) (omega arith)

    pub sim-loop : GoalC q R.loop
    unfolding executed cmd_code
    sim-loop p h n a b x s v k f pc r = cut-address Γ k λ b₁ o₁ i₁ k₁.
        in-a-step Γ (step-J Γ fits.sized (le_refl h) (ticked Γ r) pc i₁ λ v₂ r₂ c₂ _ _. over Γ (le_refl h) r₂ (w-looped o₁ c₂)) (omega arith)

    pub sim-endcase : GoalC q R.endcase
    unfolding executed cmd_code
    sim-endcase p h n a b x s v k f pc r = cut-address Γ k λ b₁ o₁ i₁ k₁.
        in-a-step Γ (step-J Γ fits.sized (le_refl h) (ticked Γ r) pc i₁ λ v₂ r₂ c₂ _ _. over Γ (le_refl h) r₂ (w-ended o₁ c₂)) (omega arith)

    pub sim-return : GoalC q R.return
    unfolding executed cmd_code FormedC
    sim-return p h n a b x s v k f pc r = cut-number Γ k λ b₁ i₁ k₁. let t : Sim Γ 0 p h h s v (step s) v
        = record { n = 0; goes = leads-not Γ.input v; rel = ticked Γ r; keep = λ y l g. g; frame = λ y l g. refl; time = omega arith } in
        p-returned (record { h' = h; v' = v; sim = t; past = b₁; return = rw pc i₁ })

    pub sim-finish : GoalC q R.finish
    unfolding executed cmd_code
    sim-finish p h n a b x s v k f pc r =
        cut-number Γ k λ b₁ i₁ k₁. p-finished (at-finish Γ {past = b₁} (leads-not Γ.input v) (ticked Γ r) (rw pc i₁) (omega arith))

    pub sim-sequence : (cs : Cmds) (n : ℕ) {p h a b : ℕ} {x : Exits} {s : State} {v : Mach} → Code Γ a (cmds_code (suc (F Γ)) h n x cs) b
        → FormedB (F Γ) (S Γ) h cs
        → v.regs.c ≡ a → Rel Γ p h s v → Runs Γ (Where Γ b x) 0 p h h s v (sequence q cs p h s)
    unfolding sequence cmds_code FormedB
    sim-sequence R.no_cmds n {h = h} k f pc r = over Γ (le_refl h) r (w-normal (pc ∙ at-end Γ k))
    sim-sequence (R.and_cmd c cs) n {h = h} {x = x} k f pc r = cut Γ (cmd_code (suc (F Γ)) h n x c) _ k λ b₁ k₁ k₂.
        then Γ (le_refl h) (ih.run c n k₁ f.0 pc r) λ g s₁ v₁ x₁ y₁.
        goes_on_lem g _ x₁.rel y₁ λ c₁. sim-sequence cs (n + cmd_labels c) k₂ f.1 c₁ x₁.rel
