-- The simulation of calls: RDCH, WRCH, and functions of the text, which return from their end or from a RETURN.
use Rattle.laws.proofs.Basics.{ℕ, suc, ◌+◌, ◌%◌, ◌<◌, ◌≤◌, ◌≡◌, refl, ap, ◌∙◌, List, [], ◌∷◌, ◌++◌, Bool, true, false, Option, some, none, length}
use Rattle.laws.proofs.Basics.{get_or, eqb, ltb, le_refl, arith, eqb-true}
use Rattle.items.specs.Item as I
use Rattle.machine.specs.Acts as MA
use Rattle.language.specs.Resolved as R
use Rattle.language.specs.Resolved.{Expr, Exprs, Body}
use Rattle.language.specs.Heights.{count}
use Rattle.language.specs.State.{Value, absent, State, Result, ok, forget}
use Rattle.language.specs.Run.{Flow, normal, broke, looped, ended, gave, Sem, evaluated, arguments, called, received, sent, enter_at, run_body}
use Rattle.language.specs.Run.{of_function, of_routine, parameters, position_of, no_fun, nth}
use Rattle.code.specs.Generate.{expr_code, exprs_code, exprs_labels, cmd_code, body_code, nowhere_else, X}
use Rattle.code.proofs.Results.{Post, p-unfinished, p-undefined, p-finished, p-returned, p-ok, post-cond, post-demand, has-none, has_word}
use Rattle.code.proofs.Results.{has_same}
use Rattle.code.proofs.Machine.{Mach}
use Rattle.code.proofs.Standing.{Env, At, Code, cut, cut-number, at-end}
use Rattle.code.proofs.Instructions.{do-LI, do-X27, do-X28, sum-P}
use Rattle.code.proofs.Related.{Rel, Ends, Runs, seq_sim, ends-from, more-ends, then, weaken, reaching, reaching-in, raise, sink, sink-rel}
use Rattle.code.proofs.Related.{like-rel, spoken, quiet}
use Rattle.language.proofs.Formed.{FormedE, FormedF}
use Rattle.code.proofs.Goals.{F, S, Fits, Valued, Where, w-normal, Sims}
use Rattle.code.proofs.Expressions.{GoalE, part}
use Rattle.code.proofs.Arguments.{Loaded, loaded-same, Holding, post-demand_all, sim-arguments}
use Rattle.code.proofs.Frames.{Called, calls, with-parameters, parameters-below, Back, back-forget, returns}

post-routine : {Q : Flow → State → Type 0} {Q' : Value → State → Type 0} {L L' E E' : State → Type 0} {x : Result Flow} (base : ℕ) → Post Q L E x
    → ((s : State) → Q normal s → Post Q' L' E' (ok absent (forget base s))) → ((s : State) → L s → Post Q' L' E' (ok absent (forget base s)))
    → ((s : State) → E s → E' s) → Post Q' L' E' (of_routine base x)
post-routine base p-unfinished f g h = p-unfinished
post-routine base p-undefined f g h = p-undefined
post-routine base (p-finished e) f g h = p-finished (h _ e)
post-routine base (p-returned l) f g h = g _ l
post-routine base (p-ok {a = normal} q) f g h = f _ q
post-routine base (p-ok {a = broke} q) f g h = p-undefined
post-routine base (p-ok {a = looped} q) f g h = p-undefined
post-routine base (p-ok {a = ended} q) f g h = p-undefined
post-routine base (p-ok {a = gave v} q) f g h = p-undefined

-- a RETURN in a function with = is undefined
post-function : {Q : Value → State → Type 0} {Q' : Value → State → Type 0} {L L' E E' : State → Type 0} {x : Result Value} (base : ℕ) → Post Q L E x
    → ((v : Value) (s : State) → Q v s → Post Q' L' E' (ok v (forget base s))) → ((s : State) → E s → E' s) → Post Q' L' E' (of_function base x)
post-function base p-unfinished f h = p-unfinished
post-function base p-undefined f h = p-undefined
post-function base (p-finished e) f h = p-finished (h _ e)
post-function base (p-returned l) f h = p-undefined
post-function base (p-ok q) f h = f _ _ q

module _ (Γ : Env) where
  module _ (fits : Fits Γ) (q : Sem) (ih : Sims Γ q) where
    -- the same cells, above which the caller's are gone
    back-same : {p h : ℕ} {s s' : State} {v : Mach} → Rel Γ p h s v → ((a : ℕ) → s'.cells a ≡ s.cells a) → Back Γ fits.sized (p + h) s' s'
    back-same r e = record { holding = λ a w g. g; losing = λ a g. g; past = λ a l. e a ∙ r.above a l; output = refl; taken = refl; steps = refl }

    -- a finish inside the callee
    ends-in : {t p h b c : ℕ} {s : State} {v : Mach} {s₁ s' : State} {v₁ : Mach} → Called Γ fits.sized p h b c s v v₁ → s₁.steps ≡ s.steps
        → Ends Γ t s₁ v₁ s' → Ends Γ (1 + t) s v s'
    ends-in cl e x = ends-from Γ cl.goes (λ n m k. omega (arith, e)) x

    module _ {p h a b c : ℕ} {s : State} {v : Mach} (r : Rel Γ p h s v) (pc : v.regs.c ≡ a) (i : At Γ a 6 false I.none h b)
        (acc : v.regs.a ≡ c) where
      sim-rdch : c ≡ 3 → p + h + 2 ≤ Γ.limit → Runs Γ (Valued Γ b) 4 p h h s v (received Γ.input s)
      unfolding MA.received
      sim-rdch e l = calls Γ fits.sized r pc i acc l λ v₁ cl.
          cut-number Γ fits.rdch.1 λ b₁ i₁ k₁. cut-number Γ k₁ λ b₂ i₂ k₂. go v₁ cl b₁ i₁ b₂ i₂ (ltb s.taken (length Γ.input)) refl
        where
          go : (v₁ : Mach) → Called Γ fits.sized p h b c s v v₁ → (b₁ : ℕ) → At Γ 3 7 false I.none 27 b₁ → (b₂ : ℕ) → At Γ b₁ 7 false I.none 4 b₂
              → (z : Bool) → ltb s.taken (length Γ.input) ≡ z → Runs Γ (Valued Γ b) 4 p h h s v (received Γ.input s)
          go v₁ cl b₁ i₁ b₂ i₂ true t = let g = do-X27 Γ v₁ cl.rel.agree (cl.at ∙ e) i₁ in
              let tk : v₁.regs.taken ≡ s.taken = cl.rel.taken in
              let z : ltb v₁.regs.taken (length Γ.input) ≡ true = rw tk t in
              rw t (returns Γ fits.sized r cl (le_refl 2) (λ a l g. g) refl
              (spoken Γ {s' = record { cells = s.cells; taken = suc s.taken; output = s.output; steps = s.steps; used = s.used }}
              cl.rel (rw z at g) refl refl refl (rw tk (omega arith)) cl.rel.bytes (λ a. refl) refl) refl i₂
              (back-same r (λ a. refl)) λ v₃ x₃ c₃ a₃.
              weaken Γ (p-ok (record { v' = v₃; sim = x₃; is = record { at = c₃; has = has_word (a₃ ∙ rw tk refl) } })) (omega arith))
          go v₁ cl b₁ i₁ b₂ i₂ false t = let g = do-X27 Γ v₁ cl.rel.agree (cl.at ∙ e) i₁ in
              let tk : v₁.regs.taken ≡ s.taken = cl.rel.taken in
              let z : ltb v₁.regs.taken (length Γ.input) ≡ false = rw tk t in
              rw t (returns Γ fits.sized r cl (le_refl 2) (λ a l g. g) refl
              (spoken Γ {s' = s} cl.rel (rw z at g) refl refl refl tk cl.rel.bytes (λ a. refl) refl) refl i₂
              (back-same r (λ a. refl)) λ v₃ x₃ c₃ a₃.
              weaken Γ (p-ok (record { v' = v₃; sim = x₃; is = record { at = c₃; has = has_word a₃ } })) (omega arith))

      sim-wrch : (ws : List ℕ) → Holding v.mem ws (p + h + 2) → c ≡ 5 → p + h + 3 ≤ Γ.limit → (x : Option ℕ) → nth ws 0 ≡ x
          → Runs Γ (Valued Γ b) 4 p h h s v (sent x s)
      sim-wrch ws hold e l none z = p-undefined
      sim-wrch ws hold e l (some w) z = calls Γ fits.sized r pc i acc (omega arith) λ v₁ cl. cut-number Γ fits.wrch.1 λ b₁ i₁ k₁.
          cut-number Γ k₁ λ b₂ i₂ k₂.
          cut-number Γ k₂ λ b₃ i₃ k₃.
          let m : p + h + 2 < length Γ.image = omega (arith, fits.sized.slack) in
          let n : p + h + 2 < 65536 = omega (arith, fits.sized.most) in
          let sum = sum-P Γ v₁ cl.rel.agree (cl.at ∙ e) 2 (p + h + 2) (ap (◌+ 2) cl.rel.frame_at) n in
          let x₁ = quiet Γ cl.rel (do-LI Γ v₁ cl.rel.agree (cl.at ∙ e) i₁ sum m) refl refl refl refl refl in
          let at0 : p + h + 2 + 0 ≡ p + h + 2 = omega arith in
          let arg : get_or v₁.mem (p + h + 2) 0 ≡ w = cl.others (p + h + 2) (λ q. omega arith) (λ q. omega arith) ∙ (rw at0 at (hold.at 0 w z)) in
          let x₂ = spoken Γ
          {s' = record { cells = s.cells; taken = s.taken; output = s.output ++ ((w % 256) ∷ []); steps = s.steps; used = s.used }}
          x₁.rel (do-X28 Γ _ x₁.rel.agree refl i₂) refl refl refl cl.rel.taken (rw (cl.rel.bytes, arg) refl) (λ a. refl) refl in
          returns Γ fits.sized r cl (le_refl 2) (λ a l g. g) refl (seq_sim Γ (le_refl 2) x₁ x₂) refl i₃ (back-same r (λ a. refl)) λ v₃ x₃ c₃ a₃.
          weaken Γ (p-ok (record { v' = v₃; sim = x₃; is = record { at = c₃; has = has-none } })) (omega arith)

      sim-body : (body : Body) (n m end : ℕ) (ws : List ℕ) {v₁ : Mach} → Called Γ fits.sized p h b c s v v₁
          → Code Γ c (body_code (suc (F Γ)) (2 + n) m body ++ (X 4 ∷ [])) end
          → FormedF (F Γ) (S Γ) (2 + n) body → Rel Γ (p + h) (2 + n) (parameters (p + h) n ws s) v₁
          → Runs Γ (Valued Γ b) 4 p h h s v (run_body q body (p + h) (2 + n) (parameters (p + h) n ws s))
      unfolding body_code
      sim-body (R.expression e) n m end ws {v₁} cl k fm r₁ = cut Γ (expr_code (suc (F Γ)) (2 + n) m e) _ k λ b₁ k₁ k₂. cut-number Γ k₂ λ b₂ i₂ k₃.
          post-function (p + h) (part Γ fits q ih e m k₁ fm cl.at r₁)
          (λ x s₂ e₂. returns Γ fits.sized r cl (omega arith) (λ a l g. parameters-below (p + h) n ws s a l ∙ g) refl e₂.sim e₂.is.at i₂
          (back-forget Γ fits.sized (p + h) s₂) λ v₃ x₃ c₃ a₃.
          weaken Γ (p-ok (record { v' = v₃; sim = x₃; is = record { at = c₃; has = has_same e₂.is.has a₃ } })) (omega arith))
          (λ s₂ e₂. more-ends Γ (ends-in cl refl e₂) (omega arith))
      sim-body (R.routine d) n m end ws {v₁} cl k fm r₁ = cut Γ (cmd_code (suc (F Γ)) (2 + n) m nowhere_else d) _ k λ b₁ k₁ k₂.
          cut-number Γ k₂ λ b₂ i₂ k₃.
          post-routine (p + h) (ih.run d m k₁ fm cl.at r₁) (λ s₂ e₂. at_end_of e₂.is λ c₂.
          returns Γ fits.sized r cl (omega arith) (λ a l g. parameters-below (p + h) n ws s a l ∙ g) refl e₂.sim c₂ i₂
          (back-forget Γ fits.sized (p + h) s₂) λ v₃ x₃ c₃ a₃.
          weaken Γ (p-ok (record { v' = v₃; sim = x₃; is = record { at = c₃; has = has-none } })) (omega arith))
          (λ s₂ e₂. returns Γ fits.sized r cl (omega arith) (λ a l g. parameters-below (p + h) n ws s a l ∙ g) refl e₂.sim refl e₂.return
          (back-forget Γ fits.sized (p + h) s₂) λ v₃ x₃ c₃ a₃.
          weaken Γ (p-ok (record { v' = v₃; sim = x₃; is = record { at = c₃; has = has-none } })) (omega arith))
          (λ s₂ e₂. more-ends Γ (ends-in cl refl e₂) (omega arith))
        where
          at_end_of : {T : Type 0} {b₁ : ℕ} {w : Mach} → Where Γ b₁ nowhere_else normal w → (w.regs.c ≡ b₁ → T) → T
          at_end_of (w-normal e) t = t e

    -- the callee's number is in A, its arguments in the words of its parameters
    pub sim-called : {p h a b : ℕ} (c : ℕ) (ws : List ℕ) {s : State} {v : Mach} → Rel Γ p h s v → v.regs.c ≡ a → At Γ a 6 false I.none h b
        → v.regs.a ≡ c
        → Holding v.mem ws (p + h + 2) → Runs Γ (Valued Γ b) 4 p h h s v (called Γ.functions Γ.place Γ.limit Γ.input q c (p + h) ws s)
    unfolding called
    sim-called {p} {h} {a} {b} c ws {s} {v} r pc i acc hold = post-cond (eqb c 3)
        (λ e. reaching-in Γ (p + h) 2 (received Γ.input) λ u like l. sim-rdch (like-rel Γ like r) pc i acc (eqb-true c 3 e) l)
        (λ e. post-cond (eqb c 5) (λ e. reaching-in Γ (p + h) 3 (sent (nth ws 0)) λ u like l.
        sim-wrch (like-rel Γ like r) pc i acc ws hold (eqb-true c 5 e) l (nth ws 0) refl) (λ e. enters (position_of c Γ.place.entries 0) refl))
      where
        enters : (x : Option ℕ) → position_of c Γ.place.entries 0 ≡ x
            → Runs Γ (Valued Γ b) 4 p h h s v (enter_at Γ.functions Γ.limit q x (p + h) ws s)
        enters none z = p-undefined
        enters (some k) z = let e = fits.entered c k z in let n : ℕ = (get_or Γ.functions k no_fun).parameters in
            reaching-in Γ (p + h) (2 + n) (λ t. run_body q (get_or Γ.functions k no_fun).body (p + h) (2 + n) (parameters (p + h) n ws t)) λ u like l.
            calls Γ fits.sized (like-rel Γ like r) pc i acc (omega arith) λ v₁ cl.
            sim-body (like-rel Γ like r) pc i acc (get_or Γ.functions k no_fun).body n e.labels e.end ws cl e.code e.formed
            (with-parameters Γ fits.sized (p + h) n cl.rel l
            (record { at = λ j x g. cl.others (p + h + 2 + j) (λ q. omega arith) (λ q. omega arith) ∙ hold.at j x g }))

    pub sim-call : (e : Expr) (es : Exprs) → GoalE Γ q (R.call e es)
    unfolding evaluated expr_code FormedE
    sim-call e es p h n a b s v k f pc r = cut Γ (exprs_code (suc (F Γ)) (h + 2) n es) _ k λ b₁ k₁ k₂.
        cut Γ (expr_code (suc (F Γ)) (h + 2 + count es) (n + exprs_labels es) e) _ k₂ λ b₂ k₃ k₄.
        cut-number Γ k₄ λ b₃ i₃ k₅.
        weaken Γ (reaching Γ (h + 2) (λ t. arguments Γ.limit q es p (h + 2) t _) λ u like l.
        let up : h ≤ h + 2 = omega arith in
        let top : h + 2 ≤ h + 2 + count es = omega arith in
        let r₀ : Rel Γ p h u v = like-rel Γ like r in
        sim-arguments Γ fits q ih es n _ up (omega arith) refl k₁ f.0 pc (raise Γ r₀ up l)
        λ xs u₁ w₁ r₁ c₁ ld lim fr kp.
        then Γ (omega arith) (part Γ fits q ih e (n + exprs_labels es) k₃ f.1 c₁ (raise Γ r₁ top (omega arith))) λ x s₃ v₃ x₃ y₃.
        let r₃ : Rel Γ p (h + 2) s₃ v₃ = sink Γ r₁ top x₃ in
        let r₄ : Rel Γ p h s₃ v₃ = sink-rel Γ r₀ up r₃ (λ a j g. x₃.keep a (omega arith) (kp a j g)) in
        let ld₃ : Loaded v₃.mem (p + (h + 2 + count es)) xs (p + (h + 2))
        = loaded-same ld (p + (h + 2)) (omega arith) (λ y j m. x₃.frame y (omega arith) (r₁.above y j)) in
        post-demand_all _ ld₃ [] λ ws hold.
        post-demand y₃.has λ c ec.
        let z : p + (h + 2) ≡ p + h + 2 = omega arith in
        sim-called c ws r₄ y₃.at (rw (at-end Γ k₅) at i₃) ec (rw z at hold)) (omega arith)
