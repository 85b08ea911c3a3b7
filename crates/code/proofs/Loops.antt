-- The simulation of loops: WHILE and UNTIL, the REPEAT forms, and FOR in both directions. The jump back is counted with the turn's own step.
use Rattle.laws.proofs.Basics.{ℕ, suc, ◌+◌, ◌≤◌, ◌≡◌, refl, ap, ◌∙◌, List, Bool, true, false, not, cond, get_or, eqb, leb, le_refl, arith}
use Rattle.laws.proofs.Cases.{by_cases}
use Rattle.words.specs.Words as W
use Rattle.words.specs.Words.{add, below, ge, le}
use Rattle.machine.specs.Outcome.{Out}
use Rattle.machine.specs.Outcome as O
use Rattle.machine.specs.Acts as M
use Rattle.language.specs.Resolved as R
use Rattle.language.specs.Resolved.{Expr, Cmd}
use Rattle.language.specs.State.{gone, holds, State, Result, bind, read_cell}
use Rattle.language.specs.Run.{Flow, normal, broke, looped, ended, gave, Loop, whiling, repeating, repeating_while, counting, Sem, executed, turned}
use Rattle.language.specs.Run.{around, is_true, same}
use Rattle.code.specs.Generate.{Exits, in_loop, expr_code, expr_labels, cmd_code, cmd_labels, limit_act}
use Rattle.code.proofs.Results.{post-cond, post-demand, post-reading, post-write}
use Rattle.code.proofs.Machine.{Mach}
use Rattle.code.proofs.Standing.{Env, cut, cut-number, cut-address, cut-label, at-end}
use Rattle.code.proofs.Related.{Rel, Sim, Runs, after, then, weaken, in-a-step, lower, over, reaching, reaching-on, close-scope, raise}
use Rattle.code.proofs.Related.{like-rel, put_other, ticked}
use Rattle.code.proofs.Steps.{step-LIP, step-SP, step-A, step-J, step-F, step-when, step-unless, step-dyadic, cell-P}
use Rattle.language.proofs.Formed.{FormedC}
use Rattle.code.proofs.Goals.{F, Fits, Where, w-normal, w-broke, w-looped, w-ended, w-gave, Turning, at-while, at-repeat, at-repeat_while}
use Rattle.code.proofs.Goals.{at-for, inner, last_test, Sims}
use Rattle.code.proofs.Expressions.{part}
use Rattle.code.proofs.Commands.{GoalC, as_wanted, not-wanted}
use Rattle.code.proofs.Blocks.{new_word}

-- FOR's test is the machine's >= or <=
abbrev onward : (by i limit : ℕ) → Bool
onward by i limit = cond (leb 32768 by) (not (below i limit)) (not (below limit i))

limit-acts : (by i m : ℕ) → (g : ℕ → ℕ → Out ℕ) × (M.act_of (limit_act by) ≡ M.dyadic g) × (g i m ≡ O.ok (W.truth (onward by i m)))
limit-acts by i m = by_cases (leb 32768 by) (λ outcome. rw outcome (M.always ge, refl, refl)) (λ outcome. rw outcome (M.always le, refl, refl))

jump-on : (z : Bool) (k b : ℕ) → z ≡ true → cond (eqb (W.truth z) 0) k b ≡ b
jump-on true k b e = refl
jump-on false k b e = cc

jump_out : (z : Bool) (k b : ℕ) → z ≡ false → cond (eqb (W.truth z) 0) k b ≡ k
jump_out true k b e = cc
jump_out false k b e = refl

module _ (Γ : Env) where
  abbrev pub GoalT : Sem → Loop → Type 0
  GoalT q l = (p h a b : ℕ) (x : Exits) (s : State) (v : Mach) → Turning Γ x p h a b s v l → v.regs.c ≡ a → Rel Γ p (inner Γ l h) s v
      → Runs Γ (Where Γ b x) (last_test Γ l) p (inner Γ l h) (inner Γ l h) s v (turned q l p h s)

  -- what a loop makes of its body's end
  comes-round : {p h b b' nx en t : ℕ} {x : Exits} {s : State} {v : Mach} (f : Flow) (more : State → Result Flow)
      → Rel Γ p h s v → Where Γ b (in_loop nx en x) f v → Γ.lab en ≡ b' → (v.regs.c ≡ b → Runs Γ (Where Γ b' x) t p h h s v (more s))
      → (v.regs.c ≡ Γ.lab nx → Runs Γ (Where Γ b' x) t p h h s v (more s)) → Runs Γ (Where Γ b' x) t p h h s v (around f s more)
  comes-round normal more r (w-normal e) o g l = g e
  comes-round {h = h} broke more r (w-broke k e) o g l = weaken Γ (over Γ (le_refl h) r (w-normal (e ∙ o))) (omega arith)
  comes-round looped more r (w-looped k e) o g l = l e
  comes-round {h = h} ended more r (w-ended k e) o g l = weaken Γ (over Γ (le_refl h) r (w-ended k e)) (omega arith)
  comes-round {h = h} (gave y) more r (w-gave k e d) o g l = weaken Γ (over Γ (le_refl h) r (w-gave k e d)) (omega arith)

  module _ (fits : Fits Γ) (q : Sem) (ih : Sims Γ q) where
    pub turn-while : (sense : Bool) (e : Expr) (c : Cmd) → GoalT q (whiling sense e c)
    unfolding turned cmd_code FormedC
    turn-while sense e c p h a b x s v (at-while n k f) pc r = cut-label Γ k λ e₀ k₀. cut Γ (expr_code (suc (F Γ)) h (n + 2) e) _ k₀ λ b₁ k₁ k₂.
        cut-address Γ k₂ λ b₂ _ i₂ k₃.
        cut Γ (cmd_code (suc (F Γ)) h (n + 2 + expr_labels e) (in_loop n (n + 1) x) c) _ k₃ λ b₄ k₄ k₅.
        cut-address Γ k₅ λ b₆ _ i₆ k₆.
        cut-label Γ k₆ λ e₇ k₇.
        in-a-step Γ (then Γ (le_refl h) (ih.evaluate e (n + 2) k₁ f.0 pc r) λ y s₁ v₁ x₁ y₁.
        post-demand y₁.has λ w ew.
        step-unless Γ fits.sized (le_refl h) x₁.rel y₁.at sense i₂ λ v₂ r₂ c₂ _.
        post-cond (same sense (is_true w)) (λ t. let c₃ : v₂.regs.c ≡ b₂ = (rw ew at c₂) ∙ as_wanted sense (eqb w 0) _ b₂ t in
        in-a-step Γ (then Γ (le_refl h) (ih.run c (n + 2 + expr_labels e) k₄ f.1 c₃ (ticked Γ r₂)) λ g s₃ v₃ x₃ y₃.
        comes-round g _ x₃.rel y₃ (e₇ ∙ at-end Γ k₇) (λ c₄. weaken Γ {t' = 1} (step-J Γ fits.sized (le_refl h) x₃.rel c₄ i₆ λ v₅ r₅ c₅ _ _.
        ih.turn (whiling sense e c) (at-while n k f) (c₅ ∙ e₀) r₅) (omega arith))
        (λ c₄. weaken Γ {t' = 1} (ih.turn (whiling sense e c) (at-while n k f) (c₄ ∙ e₀) x₃.rel) (omega arith))) (omega arith))
        (λ t. let c₃ : v₂.regs.c ≡ Γ.lab (n + 1) = (rw ew at c₂) ∙ not-wanted sense (eqb w 0) _ b₂ t in
        over Γ (le_refl h) r₂ (w-normal (c₃ ∙ e₇ ∙ at-end Γ k₇)))) (omega arith)

    pub turn-repeat : (c : Cmd) → GoalT q (repeating c)
    unfolding turned cmd_code FormedC
    turn-repeat c p h a b x s v (at-repeat n k f) pc r = cut-label Γ k λ e₀ k₀.
        cut Γ (cmd_code (suc (F Γ)) h (n + 3) (in_loop (n + 1) (n + 2) x) c) _ k₀ λ b₁ k₁ k₂.
        cut-label Γ k₂ λ e₃ k₃.
        cut-address Γ k₃ λ b₄ _ i₄ k₄.
        cut-label Γ k₄ λ e₅ k₅.
        in-a-step Γ (then Γ (le_refl h) (ih.run c (n + 3) k₁ f pc (ticked Γ r)) λ g s₃ v₃ x₃ y₃.
        let round : v₃.regs.c ≡ b₁ → Runs Γ (Where Γ b x) 1 p h h s₃ v₃ (q.turn (repeating c) p h s₃)
        = λ c₄. step-J Γ fits.sized (le_refl h) x₃.rel c₄ i₄ λ v₅ r₅ c₅ _ _. ih.turn (repeating c) (at-repeat n k f) (c₅ ∙ e₀) r₅ in
        comes-round g _ x₃.rel y₃ (e₅ ∙ at-end Γ k₅) round (λ c₄. round (c₄ ∙ e₃))) (omega arith)

    pub turn-repeat_while : (sense : Bool) (c : Cmd) (e : Expr) → GoalT q (repeating_while sense c e)
    unfolding turned cmd_code FormedC
    turn-repeat_while sense c e p h a b x s v (at-repeat_while n k f) pc r = cut-label Γ k λ e₀ k₀.
        cut Γ (cmd_code (suc (F Γ)) h (n + 3) (in_loop (n + 1) (n + 2) x) c) _ k₀ λ b₁ k₁ k₂.
        cut-label Γ k₂ λ e₃ k₃.
        cut Γ (expr_code (suc (F Γ)) h (n + 3 + cmd_labels c) e) _ k₃ λ b₄ k₄ k₅.
        cut-address Γ k₅ λ b₆ _ i₆ k₆.
        cut-label Γ k₆ λ e₇ k₇.
        in-a-step Γ (then Γ (le_refl h) (ih.run c (n + 3) k₁ f.0 pc (ticked Γ r)) λ g s₃ v₃ x₃ y₃.
        let round : v₃.regs.c ≡ b₁ → Runs Γ (Where Γ b x) 0 p h h s₃ v₃ (bind (q.evaluate e p h s₃) _)
        = λ c₄. in-a-step Γ (then Γ (le_refl h) (ih.evaluate e (n + 3 + cmd_labels c) k₄ f.1 c₄ x₃.rel) λ y s₅ v₅ x₅ y₅.
        post-demand y₅.has λ w ew.
        step-when Γ fits.sized (le_refl h) x₅.rel y₅.at sense i₆ λ v₆ r₆ c₆ _.
        post-cond (same sense (is_true w)) (λ t. let c₇ : v₆.regs.c ≡ Γ.lab n = (rw ew at c₆) ∙ as_wanted sense (eqb w 0) b₆ _ t in
        ih.turn (repeating_while sense c e) (at-repeat_while n k f) (c₇ ∙ e₀) r₆)
        (λ t. let c₇ : v₆.regs.c ≡ b₆ = (rw ew at c₆) ∙ not-wanted sense (eqb w 0) b₆ _ t in
        over Γ (le_refl h) r₆ (w-normal (c₇ ∙ at-end Γ k₇)))) (omega arith) in
        comes-round g _ x₃.rel y₃ (e₇ ∙ at-end Γ k₇) round (λ c₄. round (c₄ ∙ e₃))) (omega arith)

    pub turn-for : (limit by : ℕ) (c : Cmd) → GoalT q (counting limit by c)
    unfolding turned
    turn-for limit by c p h a b x s v (at-for n n' k f lost kept) pc r = cut-label Γ k λ e₀ k₀. cut-number Γ k₀ λ b₁ i₁ k₁.
        cut-number Γ k₁ λ b₂ i₂ k₂.
        cut-number Γ k₂ λ b₃ i₃ k₃.
        cut-address Γ k₃ λ b₄ _ i₄ k₄.
        cut Γ (cmd_code (suc (F Γ)) (h + 2) n' (in_loop (n + 1) (n + 2) x) c) _ k₄ λ b₅ k₅ k₆.
        cut-label Γ k₆ λ e₇ k₇.
        cut-number Γ k₇ λ b₈ i₈ k₈.
        cut-number Γ k₈ λ b₉ i₉ k₉.
        cut-number Γ k₉ λ c₁ j₁ l₁.
        cut-address Γ l₁ λ c₂ _ j₂ l₂.
        cut-label Γ l₂ λ f₃ l₃.
        post-reading _ (s.cells (p + h)) s λ i gi.
        let lim = r.room in
        let act : (g : ℕ → ℕ → Out ℕ) × (M.act_of (limit_act by) ≡ M.dyadic g) × (g i limit ≡ O.ok (W.truth (onward by i limit)))
        = limit-acts by i limit in
        step-LIP Γ fits.sized (le_refl (h + 2)) r pc i₁ (omega arith) λ v₁ r₁ c₁ a₁ _ m₁.
        step-LIP Γ fits.sized (le_refl (h + 2)) r₁ c₁ i₂ (omega arith) λ v₂ r₂ c₂ a₂ d₂ m₂.
        let left : v₂.regs.b ≡ i = d₂ ∙ a₁ ∙ r.vals (p + h) i gi in
        let right : v₂.regs.a ≡ limit = a₂ ∙ ap (λ (m : List ℕ). get_or m (p + (h + 1)) 0) m₁ ∙ kept in
        let val : act.0 v₂.regs.b v₂.regs.a ≡ O.ok (W.truth (onward by i limit)) = rw (left, right) act.2 in
        step-dyadic Γ fits.sized (le_refl (h + 2)) r₂ c₂ act.0 i₃ act.1 val λ v₃ r₃ c₃ a₃ m₃.
        step-F Γ fits.sized (le_refl (h + 2)) r₃ c₃ i₄ λ v₄ r₄ c₄ m₄.
        let mem₄ : v₄.mem ≡ v.mem = m₄ ∙ m₃ ∙ m₂ ∙ m₁ in
        post-cond (onward by i limit) (λ t. let c₅ : v₄.regs.c ≡ b₄ = (rw a₃ at c₄) ∙ jump-on (onward by i limit) _ b₄ t in
        in-a-step Γ (then Γ (le_refl (h + 2)) (ih.run c n' k₅ f c₅ (ticked Γ r₄)) λ g s₆ v₆ x₆ y₆.
        let lost₆ : s₆.cells (p + (h + 1)) ≡ gone = x₆.keep (p + (h + 1)) (omega arith) lost in
        let kept₆ : get_or v₆.mem (p + (h + 1)) 0 ≡ limit
        = x₆.frame (p + (h + 1)) (omega arith) lost ∙ ap (λ (m : List ℕ). get_or m (p + (h + 1)) 0) mem₄ ∙ kept in
        let round : v₆.regs.c ≡ b₅ → Runs Γ (Where Γ b x) 8 p (h + 2) (h + 2) s₆ v₆ (bind (read_cell (s₆.cells (p + h)) s₆) _)
        = λ c₆. post-reading _ (s₆.cells (p + h)) s₆ λ j gj. post-write (s₆.cells (p + h)) λ live.
        step-LIP Γ fits.sized (le_refl (h + 2)) x₆.rel c₆ i₈ (omega arith) λ v₇ r₇ c₇ a₇ _ m₇.
        step-A Γ fits.sized (le_refl (h + 2)) r₇ c₇ i₉ λ v₈ r₈ c₈ a₈ m₈.
        let sum : v₈.regs.a ≡ add j by = a₈ ∙ ap (λ (z : ℕ). add z by) (a₇ ∙ x₆.rel.vals (p + h) j gj) in
        cell-P Γ fits.sized (le_refl (h + 2)) r₈ c₈ j₁ sum live λ v₉ r₉ c₉ o₉.
        step-J Γ fits.sized (le_refl (h + 2)) r₉ c₉ j₂ λ u₁ q₁ d₁ _ n₁.
        ih.turn (counting limit by c) (at-for n n' k f (put_other Γ s₆ (p + h) (holds (add j by)) (p + (h + 1)) (λ z. omega arith) ∙ lost₆)
        (ap (λ (m : List ℕ). get_or m (p + (h + 1)) 0) n₁ ∙ o₉ (p + (h + 1)) (λ z. omega arith) ∙ ap (λ (m : List ℕ). get_or m (p + (h + 1)) 0)
        (m₈ ∙ m₇) ∙ kept₆)) (d₁ ∙ e₀) q₁ in
        comes-round g _ x₆.rel y₆ (f₃ ∙ at-end Γ l₃) round (λ c₆. round (c₆ ∙ e₇))) (omega arith))
        (λ t. let c₅ : v₄.regs.c ≡ Γ.lab (n + 2) = (rw a₃ at c₄) ∙ jump_out (onward by i limit) _ b₄ t in
        over Γ (le_refl (h + 2)) r₄ (w-normal (c₅ ∙ f₃ ∙ at-end Γ l₃)))

    pub sim-while : (sense : Bool) (e : Expr) (c : Cmd) → GoalC Γ q (R.while sense e c)
    unfolding executed
    sim-while sense e c p h n a b x s v k f pc r = in-a-step Γ (ih.turn (whiling sense e c) (at-while n k f) pc (ticked Γ r)) (omega arith)

    pub sim-repeat : (c : Cmd) → GoalC Γ q (R.repeat c)
    unfolding executed
    sim-repeat c p h n a b x s v k f pc r = ih.turn (repeating c) (at-repeat n k f) pc r

    pub sim-repeat_while : (sense : Bool) (c : Cmd) (e : Expr) → GoalC Γ q (R.repeat_while sense c e)
    unfolding executed
    sim-repeat_while sense c e p h n a b x s v k f pc r = ih.turn (repeating_while sense c e) (at-repeat_while n k f) pc r

    pub sim-for : (first limit : Expr) (by : ℕ) (c : Cmd) → GoalC Γ q (R.for first limit by c)
    unfolding executed cmd_code FormedC
    sim-for first limit by c p h n a b x s v k f pc r = cut Γ (expr_code (suc (F Γ)) h (n + 3) first) _ k λ b₁ k₁ k₂. cut-number Γ k₂ λ b₂ i₂ k₃.
        cut Γ (expr_code (suc (F Γ)) (h + 1) (n + 3 + expr_labels first) limit) _ k₃ λ b₄ k₄ k₅.
        cut-number Γ k₅ λ b₆ i₆ k₆.
        let up : h ≤ h + 1 = omega arith in
        in-a-step Γ (then Γ (le_refl h) (part Γ fits q ih first (n + 3) k₁ f.0 pc (ticked Γ r)) λ y s₁ v₁ x₁ y₁.
        post-demand y₁.has λ i ei.
        reaching-on Γ p (h + 1) (λ u. bind (q.evaluate limit p (h + 1) u) _) λ u like l.
        step-SP Γ fits.sized (le_refl h) x₁.rel y₁.at i₂ (le_refl h) (omega arith) λ v₂ r₂ c₂ _ g₂ _.
        let x₂ : Sim Γ 0 p h (h + 1) s₁ v₂ u v₂ = new_word Γ r₂ i (g₂ ∙ ei) l u like in
        after Γ (le_refl h) x₂ (then Γ up (part Γ fits q ih limit (n + 3 + expr_labels first) k₄ f.1 c₂ x₂.rel) λ z s₃ v₃ x₃ y₃.
        post-demand y₃.has λ m em.
        reaching Γ (h + 2) (λ y. bind (q.turn (counting m by c) p h y) _) λ u' like' l'.
        step-SP Γ fits.sized up (like-rel Γ like' x₃.rel) y₃.at i₆ (le_refl (h + 1)) (omega arith) λ v₄ r₄ c₄ _ g₄ _.
        close-scope Γ (omega arith) (lower Γ (omega arith) (ih.turn (counting m by c)
        (at-for n (n + 3 + expr_labels first + expr_labels limit) k₆ f.2 (r₄.above (p + (h + 1)) (omega arith)) (g₄ ∙ em)) c₄
        (raise Γ r₄ (omega arith) l'))))) (omega arith)
