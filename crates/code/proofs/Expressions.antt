-- The simulation of expressions, but for calls: one lemma for each form.
use Rattle.laws.proofs.Basics.{ℕ, suc, ◌+◌, ◌<◌, ◌≤◌, ◌≡◌, refl, ap, ◌∙◌, List, [], ◌∷◌, ◌++◌, Bool, true, false, cond, Option, some, none, get_or}
use Rattle.laws.proofs.Basics.{eqb}
use Rattle.laws.proofs.Basics.{le_refl, arith}
use Rattle.laws.proofs.Cases.{by_cases, contradiction}
use Rattle.words.specs.Words.{add, neg, complement, mul, quot, rem, eq, ne, lt, ge, gt, le, conj, disj, shl, shr}
use Rattle.items.specs.Item as I
use Rattle.machine.specs.Outcome.{Out}
use Rattle.machine.specs.Outcome as O
use Rattle.machine.specs.Acts as M
use Rattle.language.specs.Kinds.{PLUS, MINUS, STAR, SLASH, REM, EQUAL, UNEQUAL, LESS, ATMOST, MORE, ATLEAST, LEFT, RIGHT, AMPERSAND, BAR, NOT}
use Rattle.language.specs.Resolved as R
use Rattle.language.specs.Resolved.{Expr, Cmd}
use Rattle.language.specs.Operators.{apply_monadic, apply_dyadic}
use Rattle.language.specs.State.{Value, word, State, Result, ok, bind}
use Rattle.language.specs.Run.{Flow, normal, broke, looped, ended, gave, Sem, evaluated, two, value_of}
use Rattle.code.specs.Generate.{SP, expr_code, expr_labels, cmd_code, dyadic_act, monadic_act, in_valof}
use Rattle.code.proofs.Results.{p-undefined, post_read, post-demand, post-some, Has, has-none, has_word, has_same}
use Rattle.code.proofs.Machine.{Mach}
use Rattle.code.proofs.Standing.{Env, At, Code, cut, cut-number, cut-address, cut-label, at-end}
use Rattle.code.proofs.Related.{Rel, Runs, then, weaken, in-a-step, over, reaching, raise, sink, like-rel, live_below, gone-holds}
use Rattle.code.proofs.Steps.{step-L, step-LP, step-LG, step-LIP, step-LIG, step-SP, step-AIP, step-X1, step-X2, step-X3, step-dyadic}
use Rattle.language.proofs.Formed.{FormedE}
use Rattle.code.proofs.Goals.{F, S, Fits, Valued, Where, w-normal, w-gave, Sims}

-- ---- the operators: the machine's act does what the source's operator says, by the same function of words

record ActsAs (k : ℕ) (x : Option ℕ) (v w : ℕ) : Type 0 where
  is : (y : ℕ) → x ≡ some y → (g : ℕ → ℕ → Out ℕ) × (M.act_of k ≡ M.dyadic g) × (g v w ≡ O.ok y)

acts-always : {k : ℕ} (f : ℕ → ℕ → ℕ) (v w : ℕ) → M.act_of k ≡ M.dyadic (M.always f) → ActsAs k (some (f v w)) v w
acts-always f v w e = record { is = λ y q. (M.always f, e, cc) }

acts-unless : {k : ℕ} (f : ℕ → ℕ → ℕ) (v w : ℕ) → M.act_of k ≡ M.dyadic (M.unless_zero f) → ActsAs k (cond (eqb w 0) none (some (f v w))) v w
acts-unless f v w e = record { is = λ y q. (M.unless_zero f, e, go y (eqb w 0) (f v w) q) }
  where
    go : (y : ℕ) (b : Bool) (z : ℕ) → cond b none (some z) ≡ some y → cond b (O.stop 33) (O.ok z) ≡ O.ok y
    go y true z r = cc
    go y false z r = cc

acts-none : {k : ℕ} (v w : ℕ) → ActsAs k none v w
acts-none v w = record { is = λ y q. contradiction cc }

acts-cond : {k k' : ℕ} {x x' : Option ℕ} {v w : ℕ} (b : Bool) → ActsAs k x v w → ActsAs k' x' v w → ActsAs (cond b k k') (cond b x x') v w
acts-cond true f g = f
acts-cond false f g = g

acts-dyadic : (o v w : ℕ) → ActsAs (dyadic_act o) (apply_dyadic o v w) v w
unfolding dyadic_act apply_dyadic
acts-dyadic o v w = acts-cond (eqb o STAR) (acts-always mul v w refl) (acts-cond (eqb o SLASH) (acts-unless quot v w refl)
    (acts-cond (eqb o REM) (acts-unless rem v w refl) (acts-cond (eqb o PLUS) (acts-always add v w refl)
    (acts-cond (eqb o MINUS) (acts-always (Rattle.words.specs.Words.sub) v w refl) (acts-cond (eqb o EQUAL) (acts-always eq v w refl)
    (acts-cond (eqb o UNEQUAL) (acts-always ne v w refl) (acts-cond (eqb o LESS) (acts-always lt v w refl)
    (acts-cond (eqb o ATMOST) (acts-always le v w refl) (acts-cond (eqb o MORE) (acts-always gt v w refl)
    (acts-cond (eqb o ATLEAST) (acts-always ge v w refl) (acts-cond (eqb o LEFT) (acts-always shl v w refl)
    (acts-cond (eqb o RIGHT) (acts-always shr v w refl) (acts-cond (eqb o AMPERSAND) (acts-always conj v w refl)
    (acts-cond (eqb o BAR) (acts-always disj v w refl) (acts-none v w)))))))))))))))

module _ (Γ : Env) where
  abbrev E : Sem → Expr → ℕ → ℕ → State → Result Value
  E = evaluated Γ.functions Γ.place Γ.limit Γ.input

  abbrev pub GoalE : Sem → Expr → Type 0
  GoalE q e = (p h n a b : ℕ) (s : State) (v : Mach) → Code Γ a (expr_code (suc (F Γ)) h n e) b → FormedE (F Γ) (S Γ) h e
      → v.regs.c ≡ a → Rel Γ p h s v → Runs Γ (Valued Γ b) 6 p h h s v (E q e p h s)

  -- at the end of the code, with the value in A
  done : {p h a b : ℕ} {s : State} {v : Mach} {x : Value} → Rel Γ p h s v → v.regs.c ≡ a → Code Γ a [] b → Has x v.regs.a
      → Runs Γ (Valued Γ b) 0 p h h s v (ok x s)
  done {h = h} r c k has = over Γ (le_refl h) r (record { at = c ∙ at-end Γ k; has = has })

  module _ (fits : Fits Γ) (q : Sem) (ih : Sims Γ q) where
    -- a part, within its own step
    pub part : (e : Expr) (n : ℕ) {p h a b : ℕ} {s : State} {v : Mach} → Code Γ a (expr_code (suc (F Γ)) h n e) b → FormedE (F Γ) (S Γ) h e
        → v.regs.c ≡ a → Rel Γ p h s v → Runs Γ (Valued Γ b) 0 p h h s v (q.evaluate e p h s)
    part e n k f pc r = in-a-step Γ (ih.evaluate e n k f pc r) (omega arith)

    -- a number, or a label's place
    loads : {p h a b₁ b k x : ℕ} {s : State} {v : Mach} → At Γ a 0 false I.none k b₁ → Code Γ b₁ [] b → k ≡ x → v.regs.c ≡ a → Rel Γ p h s v
        → Runs Γ (Valued Γ b) 6 p h h s v (ok (word x) s)
    loads {h = h} i k e pc r = weaken Γ (step-L Γ fits.sized (le_refl h) r pc i λ w r₁ c₁ e₁. done r₁ c₁ k (has_word (e₁ ∙ e))) (omega arith)

    pub sim-constant : (x : ℕ) → GoalE q (R.constant x)
    unfolding evaluated expr_code
    sim-constant x p h n a b s v k f pc r = cut-number Γ k λ b₁ i₁ k₁. loads i₁ k₁ refl pc r

    pub sim-local : (x : ℕ) → GoalE q (R.local x)
    unfolding evaluated expr_code
    sim-local x p h n a b s v k f pc r = cut-number Γ k λ b₁ i₁ k₁. post_read (s.cells (p + x)) s λ y g.
        let l : p + x < p + h = live_below Γ r (p + x) (λ z. gone-holds z g) in
        weaken Γ (step-LIP Γ fits.sized (le_refl h) r pc i₁ (omega (arith, r.room)) λ w r₁ c₁ e₁ _ _.
        done r₁ c₁ k₁ (has_word (e₁ ∙ r.vals (p + x) y g))) (omega arith)

    pub sim-global : (x : ℕ) → GoalE q (R.global x)
    unfolding evaluated expr_code
    sim-global x p h n a b s v k f pc r = cut-number Γ k λ b₁ i₁ k₁. post_read (s.cells (16 + x)) s λ y g.
        let l : 16 + x < p + h = live_below Γ r (16 + x) (λ z. gone-holds z g) in
        weaken Γ (step-LIG Γ fits.sized (le_refl h) r pc i₁ (omega (arith, r.room)) λ w r₁ c₁ e₁.
        done r₁ c₁ k₁ (has_word (e₁ ∙ r.vals (16 + x) y g))) (omega arith)

    pub sim-function : (x : ℕ) → GoalE q (R.function x)
    unfolding evaluated expr_code FormedE
    sim-function x p h n a b s v k f pc r = cut-address Γ k λ b₁ _ i₁ k₁. loads i₁ k₁ (fits.functions x f) pc r

    pub sim-string : (x : ℕ) → GoalE q (R.string x)
    unfolding evaluated expr_code FormedE
    sim-string x p h n a b s v k f pc r = cut-address Γ k λ b₁ _ i₁ k₁. loads i₁ k₁ (fits.strings x f) pc r

    pub sim-address_of_local : (x : ℕ) → GoalE q (R.address_of_local x)
    unfolding evaluated expr_code FormedE
    sim-address_of_local x p h n a b s v k f pc r = cut-number Γ k λ b₁ i₁ k₁. let l : x < h = f in
        weaken Γ (step-LP Γ fits.sized (le_refl h) r pc i₁ (omega (arith, r.room, fits.sized.slack, fits.sized.most)) λ w r₁ c₁ e₁.
        done r₁ c₁ k₁ (has_word e₁)) (omega arith)

    pub sim-address_of_global : (x : ℕ) → GoalE q (R.address_of_global x)
    unfolding evaluated expr_code FormedE
    sim-address_of_global x p h n a b s v k f pc r = cut-number Γ k λ b₁ i₁ k₁. let l : x < 400 = f in
        weaken Γ (step-LG Γ fits.sized (le_refl h) r pc i₁ (omega arith) λ w r₁ c₁ e₁. done r₁ c₁ k₁ (has_word e₁)) (omega arith)

    pub sim-address_of_contents : (e : Expr) → GoalE q (R.address_of_contents e)
    unfolding evaluated expr_code FormedE
    sim-address_of_contents e p h n a b s v k f pc r = weaken Γ (then Γ (le_refl h) (part e n k f pc r) λ x s₁ v₁ x₁ y₁.
        post-demand y₁.has λ w a₁. over Γ (le_refl h) x₁.rel (record { at = y₁.at; has = has_word a₁ })) (omega arith)

    pub sim-contents : (e : Expr) → GoalE q (R.contents e)
    unfolding evaluated expr_code FormedE
    sim-contents e p h n a b s v k f pc r = cut Γ (expr_code (suc (F Γ)) h n e) _ k λ b₁ k₁ k₂. cut-number Γ k₂ λ b₂ i₂ k₃.
        weaken Γ (then Γ (le_refl h) (part e n k₁ f pc r) λ x s₁ v₁ x₁ y₁.
        post-demand y₁.has λ w a₁. post_read (s₁.cells w) s₁ λ y g.
        step-X1 Γ fits.sized (le_refl h) x₁.rel y₁.at i₂ a₁ g λ v₂ r₂ c₂ a₂. done r₂ c₂ k₃ (has_word a₂)) (omega arith)

    -- two operands: the left one waits in the word of the height, the right one is in A
    pub sim-two : (d e : Expr) (n : ℕ) {Q : Value → Mach → Type 0} {t p h a b : ℕ} {s : State} {v : Mach} {rest : List I.Item}
        (more : ℕ → ℕ → State → Result Value)
        → Code Γ a (expr_code (suc (F Γ)) h n d ++ (SP h ∷ (expr_code (suc (F Γ)) (h + 1) (n + expr_labels d) e ++ rest))) b
        → FormedE (F Γ) (S Γ) h d × FormedE (F Γ) (S Γ) (h + 1) e → v.regs.c ≡ a → Rel Γ p h s v
        → ((c : ℕ) → Code Γ c rest b → (x y : ℕ) (u : State) (w : Mach) → Rel Γ p h u w → w.regs.c ≡ c → get_or w.mem (p + h) 0 ≡ x
        → w.regs.a ≡ y → p + (h + 1) ≤ Γ.limit → Runs Γ Q t p h h u w (more x y u))
        → Runs Γ Q (1 + t) p h h s v (two Γ.limit q d e p h s more)
    sim-two d e n {p = p} {h = h} more k f pc r g = cut Γ (expr_code (suc (F Γ)) h n d) _ k λ b₁ k₁ k₂. cut-number Γ k₂ λ b₂ i₂ k₄.
        cut Γ (expr_code (suc (F Γ)) (h + 1) (n + expr_labels d) e) _ k₄ λ b₃ k₃ k₅.
        weaken Γ (then Γ (le_refl h) (part d n k₁ f.0 pc r) λ x s₁ v₁ x₁ y₁.
        reaching Γ (h + 1) (λ u. bind (q.evaluate e p (h + 1) u) _) λ u like l.
        let r₁ : Rel Γ p h u v₁ = like-rel Γ like x₁.rel in
        step-SP Γ fits.sized (le_refl h) r₁ y₁.at i₂ (le_refl h) (omega arith) λ v₂ r₂ c₂ _ g₂ _.
        let up : h ≤ h + 1 = omega arith in
        then Γ up (part e (n + expr_labels d) k₃ f.1 c₂ (raise Γ r₂ up l)) λ y s₃ v₃ x₃ y₃.
        let kept : get_or v₃.mem (p + h) 0 ≡ v₁.regs.a = x₃.frame (p + h) (omega arith) (r₁.above (p + h) (omega arith)) ∙ g₂ in
        post-demand (has_same y₁.has kept) λ m em.
        post-demand y₃.has λ w ew. g b₃ k₅ m w s₃ v₃ (sink Γ r₂ up x₃) y₃.at em ew l) (omega arith)

    pub sim-address_of_index : (d e : Expr) → GoalE q (R.address_of_index d e)
    unfolding evaluated expr_code FormedE
    sim-address_of_index d e p h n a b s v k f pc r = weaken Γ (sim-two d e n _ k f pc r λ b₃ k₅ x y u w r₁ c₁ m₁ a₁ l. cut-number Γ k₅ λ b₆ i₆ k₆.
        step-AIP Γ fits.sized (le_refl h) r₁ c₁ i₆ (omega arith) λ v₂ r₂ c₂ a₂ _.
        done r₂ c₂ k₆ (has_word (omega (arith, a₂, a₁, m₁)))) (omega arith)

    pub sim-index : (d e : Expr) → GoalE q (R.index d e)
    unfolding evaluated expr_code FormedE
    sim-index d e p h n a b s v k f pc r = weaken Γ (sim-two d e n _ k f pc r λ b₃ k₅ x y u w r₁ c₁ m₁ a₁ l. cut-number Γ k₅ λ b₆ i₆ k₆.
        cut-number Γ k₆ λ b₇ i₇ k₇.
        post_read (u.cells (add x y)) u λ z g.
        step-AIP Γ fits.sized (le_refl h) r₁ c₁ i₆ (omega arith) λ v₂ r₂ c₂ a₂ _.
        let sum : v₂.regs.a ≡ add x y = omega (arith, a₂, a₁, m₁) in
        step-X1 Γ fits.sized (le_refl h) r₂ c₂ i₇ sum g λ v₃ r₃ c₃ a₃. done r₃ c₃ k₇ (has_word a₃)) (omega arith)

    pub sim-binary : (o : ℕ) (d e : Expr) → GoalE q (R.binary o d e)
    unfolding evaluated expr_code FormedE
    sim-binary o d e p h n a b s v k f pc r = weaken Γ (sim-two d e n _ k f pc r λ b₃ k₅ x y u w r₁ c₁ m₁ a₁ l. cut-number Γ k₅ λ b₆ i₆ k₆.
        cut-number Γ k₆ λ b₇ i₇ k₇.
        cut-number Γ k₇ λ b₈ i₈ k₈.
        cut-number Γ k₈ λ b₉ i₉ k₉.
        post-some (apply_dyadic o x y) u λ s' t.
        let act : (g : ℕ → ℕ → Out ℕ) × (M.act_of (dyadic_act o) ≡ M.dyadic g) × (g x y ≡ O.ok s') = (acts-dyadic o x y).is s' t in
        step-SP Γ fits.sized (le_refl h) r₁ c₁ i₆ (omega arith) (omega arith) λ v₂ r₂ c₂ _ g₂ o₂.
        step-LIP Γ fits.sized (le_refl h) r₂ c₂ i₇ (omega arith) λ v₃ r₃ c₃ a₃ _ e₃.
        step-LIP Γ fits.sized (le_refl h) r₃ c₃ i₈ (omega arith) λ v₄ r₄ c₄ a₄ d₄ _.
        let left : v₄.regs.b ≡ x = d₄ ∙ a₃ ∙ o₂ (p + h) (λ q. omega arith) ∙ m₁ in
        let right : v₄.regs.a ≡ y = a₄ ∙ ap (λ (m : List ℕ). get_or m (p + (h + 1)) 0) e₃ ∙ g₂ ∙ a₁ in
        step-dyadic Γ fits.sized (le_refl h) r₄ c₄ act.0 i₉ act.1 (rw (left, right) act.2) λ v₅ r₅ c₅ a₅ _.
        done r₅ c₅ k₉ (has_word a₅)) (omega arith)

    pub sim-unary : (o : ℕ) (e : Expr) → GoalE q (R.unary o e)
    unfolding evaluated expr_code FormedE monadic_act apply_monadic
    sim-unary o e p h n a b s v k f pc r = cut Γ (expr_code (suc (F Γ)) h n e) _ k λ b₁ k₁ k₂.
        weaken Γ (then Γ (le_refl h) (part e n k₁ f pc r) λ x s₁ v₁ x₁ y₁.
        post-demand y₁.has λ w a₁.
        let acted : Runs Γ (Valued Γ b) 1 p h h s₁ v₁ (ok (word (apply_monadic o w)) s₁) = by_cases (eqb o MINUS)
        (λ m. cut-number Γ (rw m at k₂) λ b₃ i₃ k₃.
        rw m (step-X2 Γ fits.sized (le_refl h) x₁.rel y₁.at i₃ λ v₂ r₂ c₂ a₂. done r₂ c₂ k₃ (has_word (a₂ ∙ ap neg a₁))))
        (λ m. by_cases (eqb o NOT) (λ t. cut-number Γ (rw (m, t) at k₂) λ b₃ i₃ k₃.
        rw (m, t) (step-X3 Γ fits.sized (le_refl h) x₁.rel y₁.at i₃ λ v₂ r₂ c₂ a₂. done r₂ c₂ k₃ (has_word (a₂ ∙ ap complement a₁))))
        (λ t. rw (m, t) (weaken Γ (done x₁.rel y₁.at (rw (m, t) at k₂) (has_word a₁)) (omega arith)))) in
        acted) (omega arith)

    -- what VALOF makes of its command's end
    valof-end : {p h b n a : ℕ} {s : State} {v : Mach} (w : Flow) → Rel Γ p h s v → Where Γ a (in_valof n) w v → Γ.lab n ≡ a → a ≡ b
        → Runs Γ (Valued Γ b) 0 p h h s v (value_of w s)
    valof-end {h = h} normal r (w-normal c) e z = over Γ (le_refl h) r (record { at = c ∙ z; has = has-none })
    valof-end broke r t e z = p-undefined
    valof-end looped r t e z = p-undefined
    valof-end ended r t e z = p-undefined
    valof-end {h = h} (gave y) r (w-gave o c d) e z = over Γ (le_refl h) r (record { at = c ∙ e ∙ z; has = d })

    pub sim-valof : (c : Cmd) → GoalE q (R.valof c)
    unfolding evaluated expr_code FormedE
    sim-valof c p h n a b s v k f pc r = cut Γ (cmd_code (suc (F Γ)) h (n + 1) (in_valof n) c) _ k λ b₁ k₁ k₂. cut-label Γ k₂ λ e₂ k₃.
        weaken Γ (then Γ (le_refl h) (ih.run c (n + 1) k₁ f pc r) λ w s₁ v₁ x₁ y₁. valof-end w x₁.rel y₁ e₂ (at-end Γ k₃)) (omega arith)
