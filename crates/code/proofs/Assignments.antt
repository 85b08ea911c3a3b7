-- The simulation of assignments: from a right side in A, which may wait in the word of the height, to each kind of left side.
use Rattle.laws.proofs.Basics.{ℕ, suc, ◌+◌, ◌≤◌, ◌≡◌, ap, ◌∙◌, List, get_or, le_refl, arith}
use Rattle.words.specs.Words.{add}
use Rattle.language.specs.Resolved as R
use Rattle.language.specs.Resolved.{Target, Pairs}
use Rattle.language.specs.State.{gone, Value, State, Result, bind}
use Rattle.language.specs.Run.{Flow, Sem, assigned, assigned_all}
use Rattle.code.specs.Generate.{Exits, expr_code, expr_labels, target_code, target_labels, pairs_code}
use Rattle.code.proofs.Results.{post-demand, post-write, Has, has_same}
use Rattle.code.proofs.Machine.{Mach}
use Rattle.code.proofs.Standing.{Env, Code, cut, cut-number, at-end}
use Rattle.code.proofs.Related.{Rel, Runs, then, weaken, in-a-step, over, reaching, raise, sink, sink-rel, like-rel}
use Rattle.code.proofs.Steps.{step-LIP, step-SP, step-AIP, cell-P, cell-G, cell-IP}
use Rattle.language.proofs.Formed.{FormedT, FormedP}
use Rattle.code.proofs.Goals.{F, S, Fits, Where, w-normal, Sims}
use Rattle.code.proofs.Expressions.{part}

module _ (Γ : Env) (fits : Fits Γ) (q : Sem) (ih : Sims Γ q) where
  module _ {Q : Flow → Mach → Type 0} {t p h a b : ℕ} {s : State} {v : Mach} {y : Value} (n : ℕ) (pc : v.regs.c ≡ a) (has : Has y v.regs.a)
      (r : Rel Γ p h s v)
      (more : State → Result Flow) (g : (u : State) (w : Mach) → Rel Γ p h u w → w.regs.c ≡ b → Runs Γ Q t p h h u w (more u)) where
    pub sim-target : (z : Target) → Code Γ a (target_code (suc (F Γ)) h n z) b → FormedT (F Γ) (S Γ) h z
        → Runs Γ Q (6 + t) p h h s v (assigned Γ.limit q z y p h s more)
    unfolding assigned target_code FormedT
    sim-target (R.to_local k) c f = cut-number Γ c λ b₁ i₁ k₁. post-demand has λ w e. post-write (s.cells (p + k)) λ live.
        weaken Γ (cell-P Γ fits.sized (le_refl h) r pc i₁ e live λ u r₁ c₁ _. g _ u r₁ (c₁ ∙ at-end Γ k₁)) (omega arith)
    sim-target (R.to_global k) c f = cut-number Γ c λ b₁ i₁ k₁. post-demand has λ w e. post-write (s.cells (16 + k)) λ live.
        weaken Γ (cell-G Γ fits.sized (le_refl h) r pc i₁ e live λ u r₁ c₁. g _ u r₁ (c₁ ∙ at-end Γ k₁)) (omega arith)
    sim-target (R.to_contents e) c f = cut-number Γ c λ b₁ i₁ k₁. cut Γ (expr_code (suc (F Γ)) (h + 1) n e) _ k₁ λ b₂ k₂ k₃. cut-number Γ k₃ λ b₄ i₄ k₄.
        cut-number Γ k₄ λ b₅ i₅ k₅.
        cut-number Γ k₅ λ b₆ i₆ k₆.
        let up : h ≤ h + 1 = omega arith in
        weaken Γ (reaching Γ (h + 1) (λ u. bind (q.evaluate e p (h + 1) u) _) λ u like l.
        step-SP Γ fits.sized (le_refl h) (like-rel Γ like r) pc i₁ (le_refl h) (omega arith) λ v₁ r₁ c₁ _ g₁ _.
        then Γ up (part Γ fits q ih e n k₂ f c₁ (raise Γ r₁ up l)) λ z s₂ v₂ x₂ y₂.
        let kept : get_or v₂.mem (p + h) 0 ≡ v.regs.a = x₂.frame (p + h) (omega arith) (r₁.above (p + h) (omega arith)) ∙ g₁ in
        post-demand (has_same has kept) λ w ew. post-demand y₂.has λ d ed. post-write (s₂.cells d) λ live.
        step-SP Γ fits.sized (le_refl h) (sink Γ r₁ up x₂) y₂.at i₄ up (omega arith) λ v₃ r₃ c₃ _ g₃ o₃.
        step-LIP Γ fits.sized (le_refl h) r₃ c₃ i₅ (omega arith) λ v₄ r₄ c₄ a₄ _ m₄.
        cell-IP Γ fits.sized (le_refl h) r₄ c₄ i₆ (a₄ ∙ o₃ (p + h) (λ e. omega arith) ∙ ew) (omega arith) (rw m₄ (g₃ ∙ ed)) live λ v₅ r₅ c₅.
        g _ v₅ r₅ (c₅ ∙ at-end Γ k₆)) (omega arith)
    sim-target (R.to_index d e) c f = cut-number Γ c λ b₁ i₁ k₁. cut Γ (expr_code (suc (F Γ)) (h + 1) n d) _ k₁ λ b₂ k₂ k₃. cut-number Γ k₃ λ b₄ i₄ k₄.
        cut Γ (expr_code (suc (F Γ)) (h + 2) (n + expr_labels d) e) _ k₄ λ b₅ k₅ k₆.
        cut-number Γ k₆ λ b₇ i₇ k₇.
        cut-number Γ k₇ λ b₈ i₈ k₈.
        cut-number Γ k₈ λ b₉ i₉ k₉.
        cut-number Γ k₉ λ c₁ j₁ l₁.
        let up : h ≤ h + 1 = omega arith in
        let top : h + 1 ≤ h + 2 = omega arith in
        weaken Γ (reaching Γ (h + 1) (λ u. bind (q.evaluate d p (h + 1) u) _) λ u like l.
        step-SP Γ fits.sized (le_refl h) (like-rel Γ like r) pc i₁ (le_refl h) (omega arith) λ v₁ r₁ c₁ _ g₁ _.
        then Γ up (part Γ fits q ih d n k₂ f.0 c₁ (raise Γ r₁ up l)) λ z s₂ v₂ x₂ y₂.
        reaching Γ (h + 2) (λ u. bind (q.evaluate e p (h + 2) u) _) λ u' like' l'.
        step-SP Γ fits.sized up (like-rel Γ like' x₂.rel) y₂.at i₄ (le_refl (h + 1)) (omega arith) λ v₃ r₃ c₃ _ g₃ o₃.
        then Γ (omega arith) (part Γ fits q ih e (n + expr_labels d) k₅ f.1 c₃ (raise Γ r₃ top l')) λ z' s₄ v₄ x₄ y₄.
        let gone₂ : s₂.cells (p + h) ≡ gone = x₂.keep (p + h) (omega arith) (r₁.above (p + h) (omega arith)) in
        let kept : get_or v₄.mem (p + h) 0 ≡ v.regs.a = x₄.frame (p + h) (omega arith) (like'.cells (p + h) ∙ gone₂)
        ∙ o₃ (p + h) (λ e. omega arith) ∙ x₂.frame (p + h) (omega arith) (r₁.above (p + h) (omega arith)) ∙ g₁ in
        let kept' : get_or v₄.mem (p + (h + 1)) 0 ≡ v₂.regs.a
        = x₄.frame (p + (h + 1)) (omega arith) (r₃.above (p + (h + 1)) (omega arith)) ∙ g₃ in
        let r₄ : Rel Γ p (h + 1) s₄ v₄ = sink Γ r₃ top x₄ in
        let r₅ : Rel Γ p h s₄ v₄ = sink-rel Γ r₁ up r₄ (λ a j m. x₄.keep a (omega arith) (like'.cells a ∙ x₂.keep a j m)) in
        post-demand (has_same has kept) λ w ew. post-demand (has_same y₂.has kept') λ m em. post-demand y₄.has λ k ek.
        post-write (s₄.cells (add m k)) λ live.
        step-AIP Γ fits.sized (le_refl h) r₅ y₄.at i₇ (omega arith) λ v₆ r₆ c₆ a₆ m₆.
        let sum : v₆.regs.a ≡ add m k = omega (arith, a₆, em, ek) in
        step-SP Γ fits.sized (le_refl h) r₆ c₆ i₈ up (omega arith) λ v₇ r₇ c₇ _ g₇ o₇.
        step-LIP Γ fits.sized (le_refl h) r₇ c₇ i₉ (omega arith) λ v₈ r₈ c₈ a₈ _ m₈.
        let val : v₈.regs.a ≡ w = a₈ ∙ o₇ (p + h) (λ e. omega arith) ∙ ap (λ (l : List ℕ). get_or l (p + h) 0) m₆ ∙ ew in
        cell-IP Γ fits.sized (le_refl h) r₈ c₈ j₁ val (omega arith) (rw m₈ (g₇ ∙ sum)) live λ v₉ r₉ c₉. g _ v₉ r₉ (c₉ ∙ at-end Γ l₁)) (omega arith)

  pub sim-pairs : (ps : Pairs) (n : ℕ) {p h a b : ℕ} {x : Exits} {s : State} {v : Mach} → Code Γ a (pairs_code (suc (F Γ)) h n ps) b
      → FormedP (F Γ) (S Γ) h ps
      → v.regs.c ≡ a → Rel Γ p h s v → Runs Γ (Where Γ b x) 0 p h h s v (assigned_all Γ.limit q ps p h s)
  unfolding assigned_all pairs_code FormedP
  sim-pairs R.no_pairs n {h = h} k f pc r = over Γ (le_refl h) r (w-normal (pc ∙ at-end Γ k))
  sim-pairs (R.pair t e ps) n {h = h} k f pc r = cut Γ (expr_code (suc (F Γ)) h n e) _ k λ b₁ k₁ k₂.
      cut Γ (target_code (suc (F Γ)) h (n + expr_labels e) t) _ k₂ λ b₂ k₃ k₄.
      in-a-step Γ (then Γ (le_refl h) (ih.evaluate e n k₁ f.0 pc r) λ y s₁ v₁ x₁ y₁.
      sim-target (n + expr_labels e) y₁.at y₁.has x₁.rel _
      (λ u w r₂ c₂. sim-pairs ps (n + expr_labels e + target_labels t) k₄ f.2 c₂ r₂) t k₃ f.1) (omega arith)
