-- The simulation of SWITCHON: the machine's search goes to the command that the source selects, or to the end.
use Rattle.laws.proofs.Basics.{ℕ, suc, ◌+◌, ◌≡◌, refl, sym, ap, ◌∙◌, List, [], ◌∷◌, Bool, cond, Option, some, none, length, le_refl, arith, eq-eqb}
use Rattle.laws.proofs.Basics.{ne_eqb, lt-ltb}
use Rattle.laws.proofs.Cases.{by_cases, by_equal}
use Rattle.words.specs.Words.{add}
use Rattle.machine.specs.Outcome as O
use Rattle.machine.specs.Acts.{sought}
use Rattle.language.specs.Resolved as R
use Rattle.language.specs.Resolved.{Expr, CaseLabel, Cases, has_default, has_case, cases_of, case_count}
use Rattle.language.specs.State.{State, ok}
use Rattle.language.specs.Run.{Flow, normal, broke, looped, ended, gave, Sem, executed, cases, from, or_none, or_else, selected, after_switch}
use Rattle.code.specs.Generate.{Exits, in_switch, expr_code, expr_labels, cmd_code, cmd_labels, cases_code, pairs_of, table_of, default_of}
use Rattle.code.specs.Generate.{commands_in}
use Rattle.code.proofs.Results.{post-demand}
use Rattle.code.proofs.Machine.{Mach}
use Rattle.code.proofs.Standing.{Env, Agree, Word, Code, end, cut, cut-number, cut-label, cut_word, cut-place, at-end}
use Rattle.code.proofs.Instructions.{do-X23}
use Rattle.code.proofs.Related.{Rel, Sim, Runs, after, then, in-a-step, over, quiet, ticked}
use Rattle.code.proofs.Steps.{Sized}
use Rattle.language.proofs.Formed.{FormedC, FormedS}
use Rattle.code.proofs.Goals.{F, S, Fits, Where, w-normal, w-broke, w-looped, w-ended, w-gave, Sims}
use Rattle.code.proofs.Expressions.{part}
use Rattle.code.proofs.Commands.{GoalC, goes_on_lem}

-- the label of the first command that has one of the labels asked for, or another one
unfoldable pub label_at : (List CaseLabel → Bool) → (l other : ℕ) → Cases → ℕ
label_at test l other R.no_cases = other
label_at test l other (R.cases ls c cs) = cond (test ls) l (label_at test (suc l) other cs)

default-label : (l other : ℕ) (cs : Cases) → default_of l other cs ≡ label_at has_default l other cs
unfolding default_of label_at
default-label l other R.no_cases = refl
default-label l other (R.cases ls c cs) = ap (λ (x : ℕ). cond (has_default ls) l x) (default-label (suc l) other cs)

or-none : (x : Option Cases) → or_none x ≡ or_else x R.no_cases
or-none none = refl
or-none (some cs) = refl

module _ (Γ : Env) (sized : Sized Γ) (m : List ℕ) (agree : Agree Γ m) (w d : ℕ) where
  -- one pair
  pair-hit : {i v c : ℕ} (n : ℕ) → Word Γ i v → Word Γ (suc i) c → v ≡ w → sought m w d (suc n) i ≡ O.ok c
  unfolding sought O.read
  pair-hit {i} {v} {c} n x y e = let k : add i 1 ≡ suc i = omega (arith, x.below, sized.most) in
      let l = lt-ltb i (length m) (omega (arith, x.below, agree.size)) in
      let l' = lt-ltb (suc i) (length m) (omega (arith, y.below, agree.size)) in
      rw (l, x.is m agree, eq-eqb v w e, k, l', y.is m agree) refl

  pair-miss : {i v c : ℕ} (n : ℕ) → Word Γ i v → Word Γ (suc i) c → (v ≡ w → ⊥) → sought m w d (suc n) i ≡ sought m w d n (suc (suc i))
  unfolding sought O.read
  pair-miss {i} {v} {c} n x y e = let k : add i 2 ≡ suc (suc i) = omega (arith, x.below, sized.most) in
      rw (lt-ltb i (length m) (omega (arith, x.below, agree.size)), x.is m agree, ne_eqb v w e, k) refl

  search-labels : (l : ℕ) (ls : List CaseLabel) (n : ℕ) {i j : ℕ} → Code Γ i (pairs_of l ls) j
      → sought m w d (cases_of ls + n) i ≡ cond (has_case w ls) (O.ok (Γ.lab l)) (sought m w d n j)
  unfolding cases_of pairs_of has_case
  search-labels l [] n {i} {j} k = let z : 0 + n ≡ n = omega arith in rw (z, at-end Γ k) refl
  search-labels l (R.default ∷ ls) n k = search-labels l ls n k
  search-labels l (R.case v ∷ ls) n {i} {j} k = cut_word Γ k λ x k₁.
      cut-place Γ k₁ λ y k₂.
      let z : suc (cases_of ls) + n ≡ suc (cases_of ls + n) = omega arith in
      rw z (by_equal v w (λ q. rw (pair-hit (cases_of ls + n) x y q, eq-eqb w v (sym q)) refl) (λ q.
      rw (ne_eqb w v (λ t. q (sym t))) (pair-miss (cases_of ls + n) x y q ∙ search-labels l ls n k₂)))

  search-table : (l other : ℕ) (cs : Cases) {i j : ℕ} → d ≡ Γ.lab other → Code Γ i (table_of l cs) j
      → sought m w d (case_count cs) i ≡ O.ok (Γ.lab (label_at (has_case w) l other cs))
  unfolding case_count table_of label_at sought
  search-table l other R.no_cases e k = ap (λ (x : ℕ). O.ok x) e
  search-table l other (R.cases ls c cs) {i} {j} e k = cut Γ (pairs_of l ls) _ k λ b₁ k₁ k₂. search-labels l ls (case_count cs) k₁
      ∙ by_cases (has_case w ls) (λ t. rw t refl) (λ t. rw t (search-table (suc l) other cs e k₂))

module _ (Γ : Env) where
  -- the commands that are run, at their label
  record Chosen (h b : ℕ) (x : Exits) (cs : Cases) (l : ℕ) : Type 0 where
    first : ℕ
    labels : ℕ
    code : Code Γ (Γ.lab l) (cases_code (suc (F Γ)) h first labels x cs) b
    formed : FormedS (F Γ) (S Γ) h cs

  chosen : {h b : ℕ} {x : Exits} (test : List CaseLabel → Bool) (l n other : ℕ) (cs : Cases) {a : ℕ} {cs' : Cases}
      → Code Γ a (cases_code (suc (F Γ)) h l n x cs) b
      → FormedS (F Γ) (S Γ) h cs → Chosen h b x cs' other → Chosen h b x (or_else (from test cs) cs') (label_at test l other cs)
  unfolding from label_at cases_code FormedS
  chosen test l n other R.no_cases k f o = o
  chosen {h} {b} {x} test l n other (R.cases ls c cs) {a} {cs'} k f o = cut-label Γ k λ e k₀.
      cut Γ (cmd_code (suc (F Γ)) h n x c) _ k₀ λ b₁ k₁ k₂.
      by_cases (test ls) (λ t. rw t (record { first = l; labels = n; code = rw e k; formed = f })) (λ t.
      rw t (chosen test (suc l) (n + cmd_labels c) other cs k₂ f.1 o))

  module _ (fits : Fits Γ) (q : Sem) (ih : Sims Γ q) where
    sim-cases : (cs : Cases) (l n : ℕ) {p h a b : ℕ} {x : Exits} {s : State} {v : Mach} → Code Γ a (cases_code (suc (F Γ)) h l n x cs) b
        → FormedS (F Γ) (S Γ) h cs
        → v.regs.c ≡ a → Rel Γ p h s v → Runs Γ (Where Γ b x) 0 p h h s v (cases q cs p h s)
    unfolding cases cases_code FormedS
    sim-cases R.no_cases l n {h = h} k f pc r = over Γ (le_refl h) r (w-normal (pc ∙ at-end Γ k))
    sim-cases (R.cases ls c cs) l n {h = h} {x = x} k f pc r = cut-label Γ k λ e k₀. cut Γ (cmd_code (suc (F Γ)) h n x c) _ k₀ λ b₁ k₁ k₂.
        then Γ (le_refl h) (ih.run c n k₁ f.0 pc r) λ g s₁ v₁ x₁ y₁.
        goes_on_lem Γ g _ x₁.rel y₁ λ c₁. sim-cases cs (suc l) (n + cmd_labels c) k₂ f.1 c₁ x₁.rel

    -- ENDCASE, and falling off the list's end
    switch-end : {p h b b' en : ℕ} {x : Exits} {s : State} {v : Mach} (f : Flow) → Rel Γ p h s v → Where Γ b (in_switch en x) f v → Γ.lab en ≡ b
        → b ≡ b'
        → Runs Γ (Where Γ b' x) 0 p h h s v (ok (after_switch f) s)
    switch-end {h = h} normal r (w-normal e) l z = over Γ (le_refl h) r (w-normal (e ∙ z))
    switch-end {h = h} broke r (w-broke o e) l z = over Γ (le_refl h) r (w-broke o e)
    switch-end {h = h} looped r (w-looped o e) l z = over Γ (le_refl h) r (w-looped o e)
    switch-end {h = h} ended r (w-ended o e) l z = over Γ (le_refl h) r (w-normal (e ∙ l ∙ z))
    switch-end {h = h} (gave y) r (w-gave o e d) l z = over Γ (le_refl h) r (w-gave o e d)

    pub sim-switch : (e : Expr) (cs : Cases) → GoalC Γ q (R.switch e cs)
    unfolding executed cmd_code FormedC selected cases_code FormedS
    sim-switch e cs p h n a b x s v k f pc r = cut Γ (expr_code (suc (F Γ)) h n e) _ k λ b₁ k₁ k₂. cut-number Γ k₂ λ b₂ i₂ k₃. cut_word Γ k₃ λ w₃ k₄.
        cut-place Γ k₄ λ w₄ k₅.
        cut Γ (table_of (n + expr_labels e + 1) cs) _ k₅ λ b₆ k₆ k₇.
        cut Γ (cases_code (suc (F Γ)) h (n + expr_labels e + 1) (n + expr_labels e + 1 + commands_in cs)
        (in_switch (n + expr_labels e) x) cs) _ k₇ λ b₈ k₈ k₉.
        cut-label Γ k₉ λ e₉ l₉.
        in-a-step Γ (then Γ (le_refl h) (part Γ fits q ih e n k₁ f.0 pc (ticked Γ r)) λ y s₁ v₁ x₁ y₁.
        post-demand y₁.has λ w ew.
        let none_left : Chosen h b₈ (in_switch (n + expr_labels e) x) R.no_cases (n + expr_labels e)
        = record { first = 0; labels = 0; code = end e₉; formed = tt } in
        let default : Chosen h b₈ (in_switch (n + expr_labels e) x) (or_else (from has_default cs) R.no_cases)
        (label_at has_default (n + expr_labels e + 1) (n + expr_labels e) cs)
        = chosen has_default (n + expr_labels e + 1) (n + expr_labels e + 1 + commands_in cs) (n + expr_labels e) cs k₈ f.1 none_left in
        let default' : Chosen h b₈ (in_switch (n + expr_labels e) x) (or_none (from has_default cs))
        (default_of (n + expr_labels e + 1) (n + expr_labels e) cs)
        = rw (or-none (from has_default cs), default-label (n + expr_labels e + 1) (n + expr_labels e) cs) default in
        let run : Chosen h b₈ (in_switch (n + expr_labels e) x) (or_else (from (has_case w) cs) (or_none (from has_default cs)))
        (label_at (has_case w) (n + expr_labels e + 1) (default_of (n + expr_labels e + 1) (n + expr_labels e) cs) cs)
        = chosen (has_case w) (n + expr_labels e + 1) (n + expr_labels e + 1 + commands_in cs) _ cs k₈ f.1 default' in
        let m : List ℕ = v₁.mem in
        let found : sought m v₁.regs.a (Γ.lab (default_of (n + expr_labels e + 1) (n + expr_labels e) cs)) (case_count cs) (suc (suc b₂))
        ≡ O.ok (Γ.lab (label_at (has_case w) (n + expr_labels e + 1) (default_of (n + expr_labels e + 1) (n + expr_labels e) cs) cs))
        = rw ew (search-table Γ fits.sized m x₁.rel.agree w _ (n + expr_labels e + 1) _ cs refl k₆) in
        let z : Sim Γ 1 p h h s₁ v₁ s₁ _
        = quiet Γ x₁.rel (do-X23 Γ v₁ x₁.rel.agree y₁.at i₂ (omega (arith, w₄.below, fits.sized.most)) w₄.below
        (w₃.is m x₁.rel.agree) (w₄.is m x₁.rel.agree) found)
        refl refl refl refl refl in
        after Γ (le_refl h) z (then Γ (le_refl h) (sim-cases _ run.first run.labels run.code run.formed refl z.rel) λ g s₃ v₃ x₃ y₃.
        switch-end g x₃.rel y₃ e₉ (at-end Γ l₉))) (omega arith)
