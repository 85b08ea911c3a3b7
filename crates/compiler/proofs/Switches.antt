-- SWITCHON: the loop over the list after INTO, and the whole.
use Rattle.laws.proofs.Basics.{ℕ, suc, ◌+◌, ◌-◌, ◌*◌, ◌^◌, ◌<◌, ◌≤◌, ◌≡◌, refl, sym, ap, subst, ◌∙◌, List, [], ◌∷◌, ◌++◌, append_assoc, length}
use Rattle.laws.proofs.Basics.{get_or}
use Rattle.laws.proofs.Basics.{length-append, arith, ne_eqb}
use Rattle.items.specs.Item as I
use Rattle.language.specs.Kinds as K
use Rattle.language.specs.Tree as T
use Rattle.compiler.proofs.Language.{Label, Commands, Unlabelled, depth, commands_depth, unlabelled_depth, Scope, Fault, expression, unlabelled}
use Rattle.compiler.proofs.Language.{labels_before, case_list, of_cmd, of_cases, FineUnlabelled, Leavable, doubled, in_expression, in_case, in_cases}
use Rattle.compiler.proofs.Language.{in_unlabelled, encode, encode_command, encode_commands}
use Rattle.language.specs.Resolved as R
use Rattle.code.specs.Generate as G
use Rattle.language.specs.Faults as Y
use Rattle.compiler.proofs.Common.{keeps-all, keeps_then, keeps-shows, did_none, did-put, did_after, did_then, did-as, did_at, did-fresh, Same}
use Rattle.compiler.proofs.Common.{same_refl, same-eq, same-swap, same_then, same-both, code_is, keeps-lies, IsTwo, sub, with-ways, Part}
use Rattle.compiler.proofs.Common.{begins, item, ready-one, goes_on_lem, ended}
use Rattle.compiler.proofs.Vocabulary.{State, Here, Ways, Node, FineE, FineCs, FinePlain, in_switch, leavable_by, exits, NodeAt, Code, Did}
use Rattle.compiler.proofs.Vocabulary.{Emits, Fresh, Holds, ReadyE, GaveE, Counts, cmd_says, ReadyC, GaveCase, ReadyU, GaveU, cases_faults}
use Rattle.compiler.proofs.Vocabulary.{cases_says, entries_in, ReadyCases, GaveCases, label_faults, ReadyLabels, JudgesLabels, table_items}
use Rattle.compiler.proofs.Vocabulary.{WritesTable}
use Rattle.compiler.proofs.Blocks.{command_list}
use Rattle.compiler.proofs.Counting.{command-items}
use Rattle.compiler.proofs.Forms as F
use Rattle.compiler.proofs.Forms.{Form, form-at, same-long}

-- ---- the loop

module _ (text t₀ : List ℕ) (w : Ways) (l₀ : ℕ) {s₀ : List ℕ} {from end : ℕ} {here : Here} {st₀ : State} where
  abbrev pub CasesPart : ReadyCases s₀ from end here st₀ → (s t : List ℕ) (at k : ℕ) (st : State) → Type 0
  CasesPart y s t at k st = let z = y.ready in
      Part command_list entries_in (λ i cs. cases_faults text z.scope (leavable_by w here) here.height cs)
      (λ i cs. cases_says here w i (case_list text z.scope here.height cs)) z.tree
      from end z.base here.top here.left here.height here.height l₀ (l₀ + k) s₀ s t₀ t st₀ st at

  pub cases_begin : (y : ReadyCases s₀ from end here st₀) → CasesPart y s₀ t₀ from 0 st₀
  cases_begin y = begins y.ready y.starts refl (omega arith) y.some

  module _ (k : ℕ) {s t : List ℕ} {at size next : ℕ} {st : State} (l : at < end) (es : size ≡ get_or s at 0) (en : next ≡ at + 2 + size) where
    pub case-entries : (y : ReadyCases s₀ from end here st₀) (p : CasesPart y s t at k st) → let u = item y.ready y.starts l es en p in
        entries_in p.rest ≡ length (encode_command u.part) + entries_in u.more
    unfolding entries_in
    case-entries y p = ap entries_in (item y.ready y.starts l es en p).same

    module _ {t₁ : List ℕ} {a : State} (m : Emits (I.label (l₀ + k) ∷ []) [] t t₁ st a) where
      abbrev pub case-part : (y : ReadyCases s₀ from end here st₀) → CasesPart y s t at k st → ReadyC s next here a
      case-part y p = ready-one y.ready y.starts l es en p here a refl refl refl (omega arith) (omega (arith, case-entries y p)) (omega arith)

      pub cases_next : {s₁ t₂ : List ℕ} {r : State} → GaveCase text s s₁ next here w t₁ t₂ a r → (y : ReadyCases s₀ from end here st₀)
          → CasesPart y s t at k st → CasesPart y s₁ t₂ next (k + 1) r
      unfolding cases_faults case_list G.cases_code of_cases G.cases_labels
      cases_next g y p =
          let z = y.ready in let u = item z y.starts l es en p in let x = g.by (case-part y p) in let sc = z.scope in let h = here.height in
          let n = case-entries y p in let a : l₀ + (k + 1) ≡ suc (l₀ + k) = omega arith in
          goes_on_lem z y.starts l es en p x.keeps (omega arith) (omega arith) (omega arith)
          (λ t' st' d. did-as _ _ (did_then (did_after m x.did) (rw a at d)) same_refl (λ i c. refl) (omega arith))

  pub cases_end : (k : ℕ) {s t : List ℕ} {at : ℕ} {st : State} → end ≤ at → ((y : ReadyCases s₀ from end here st₀) → CasesPart y s t at k st)
      → GaveCases text s₀ s from end l₀ here w t₀ t st₀ st
  unfolding cases_faults case_list G.cases_code of_cases G.cases_labels
  cases_end k l q = record { by = λ y. record { keeps = (q y).keeps; did = ended (q y) l (λ m. did_none m) } }

-- ---- the faults of labels and commands, one by one or those of the labels first

-- (a, b), (c, d) as (a, c), (b, d)
same-crossed : (a b c d : List Fault) → Same ((a ++ b) ++ (c ++ d)) ((a ++ c) ++ (b ++ d))
same-crossed a b c d =
    same_then (same-eq (simp append_assoc)) (same_then (same-both (same_refl {a = a}) (same-both (same-swap b c) (same_refl {a = d})))
    (same-eq (simp append_assoc)))

cases_same : (text : List ℕ) (sc : Scope) (l : Leavable) (h : ℕ) (before : List Label) (cs : Commands)
    → Same (label_faults text sc before cs ++ cases_faults text sc l h cs) (in_cases text sc l h before cs)
unfolding label_faults cases_faults in_cases
cases_same text sc l h before T.no_commands = same_refl
cases_same text sc l h before (T.and_command c cs) =
    same_then (same-crossed (doubled text sc before (labels_before c)) (label_faults text sc (before ++ labels_before c) cs) (in_case text sc l h c)
    (cases_faults text sc l h cs)) (same-both (same_refl {a = doubled text sc before (labels_before c) ++ in_case text sc l h c})
    (cases_same text sc l h (before ++ labels_before c) cs))

-- ---- the whole

is-switch : {s : List ℕ} {lo end : ℕ} {u : Unlabelled} → Form s lo end K.SWITCHON u → IsTwo encode encode_commands T.switchon s lo end u
is-switch (F.a_switch h) = h

-- two entries stand in front of each command
pub list-entries : (text : List ℕ) (sc : Scope) (h : ℕ) (cs : Commands)
    → length (encode_commands cs) ≡ 2 * G.commands_in (case_list text sc h cs) + entries_in cs
unfolding G.commands_in case_list encode_commands entries_in
list-entries text sc h T.no_commands = omega arith
list-entries text sc h (T.and_command c cs) = omega (arith, list-entries text sc h cs, length-append (encode_command c) (encode_commands cs))

leaves-switch : (here : Here) (ways : Ways) (end : ℕ) → 0 < end → leavable_by (in_switch end ways) here ≡ Y.in_switch (leavable_by ways here)
leaves-switch here ways end h = rw (ne_eqb end 0 (λ e. omega arith))

-- the words after X23, and the refusals of the labels
table-did : {text s t t₁ : List ℕ} {from end top first done : ℕ} {b c d : State} (h : ℕ) → JudgesLabels text s from end top b c
    → WritesTable text s from end top first done t t₁ c d → (y : ReadyLabels s from end top) → Did (label_faults text y.scope [] y.commands)
    (λ n. record { items = table_items first done (case_list text y.scope h y.commands); heights = []; labels = 0 }) 0 t t₁ b d
table-did {t = t} h j w y = let x = j.by y t in record {
  worst = w.worst ∙ x.worst;
  fits = x.fits;
  few = omega arith;
  grows = omega arith;
  clean = λ e. (did-put x (w.by y h e)).clean e;
}

-- what is written after the value: the end is at the first label, the commands are labelled after it
abbrev switch_says : Here → Ways → R.Cases → ℕ → Code
switch_says x w cs n = record {
  items = table_items (n + 1) n cs
      ++ (G.cases_code x.strings x.height (n + 1) (n + 1 + G.commands_in cs) (exits (in_switch n w)) cs ++ (I.label n ∷ []));
  heights = of_cases x.height cs;
  labels = 1 + G.commands_in cs + G.cases_labels cs;
}

module _ {s : List ℕ} {end : ℕ} {here : Here} {st : State} (n : Node) (nd : NodeAt s end n) (q : get_or s (end - 1) 0 ≡ K.SWITCHON) {middle : ℕ}
    (m : middle ≡ n.start + n.value) where
  pub switch-is : (y : ReadyU s end here st) → IsTwo encode encode_commands T.switchon s y.lo end y.tree
  switch-is y = is-switch (form-at n nd (nd.kind ∙ q) y)

  pub switch-parts : (y : ReadyU s end here st) → let u = switch-is y in
      (FineE u.left × FineCs u.list) × (depth u.left ≤ here.left) × (commands_depth u.list ≤ here.left)
  unfolding FineUnlabelled unlabelled_depth
  switch-parts y = let u = switch-is y in let e = ap unlabelled_depth u.same in let f = (subst FinePlain u.same y.fine).0 in
      ((f.0, f.1), omega arith, omega arith)

  pub switch-middle : (y : ReadyU s end here st) → middle ≡ y.lo + length (encode (switch-is y).left)
  switch-middle y = let u = switch-is y in omega arith

  abbrev pub switch-value : ReadyU s end here st → ReadyE s middle here st
  switch-value y = let u = switch-is y in sub y keeps-all u.lies refl (omega (arith, switch-middle y, (switch-parts y).1)) (switch-parts y).0.0

  module _ (text : List ℕ) {s₁ t t₁ : List ℕ} {a : State} (g : GaveE text s s₁ middle here t t₁ st a) {k : ℕ}
      (c : Counts s₁ middle n.inner k) where
    pub switch-lies : (y : ReadyU s end here st) → Holds s₁ middle (encode_commands (switch-is y).list)
    switch-lies y = let u = switch-is y in rw (← (switch-middle y)) at (keeps-lies (g.by (switch-value y)).keeps (omega arith) u.lies-list)

    pub switch-ends : (y : ReadyU s end here st) → n.inner ≡ middle + length (encode_commands (switch-is y).list)
    switch-ends y = let u = switch-is y in omega (arith, switch-middle y)

    pub switch-count : (y : ReadyU s end here st) → k ≡ G.commands_in (case_list text y.scope here.height (switch-is y).list)
    switch-count y = let u = switch-is y in c.by _ (command-items text y.scope here.height u.list (switch-lies y) (switch-ends y))

    pub switch-few : (y : ReadyU s end here st) → (a.label + k + 1 ≤ 2 ^ 29) × (st.label ≤ a.label)
    switch-few y = let u = switch-is y in let x = (g.by (switch-value y)).did in
        (omega (arith, switch-count y, list-entries text y.scope here.height u.list), x.grows)

    abbrev pub switch-labels : ReadyU s end here st → ReadyLabels s₁ middle n.inner here.top
    switch-labels y = let u = switch-is y in record {
      base = y.base;
      scope = y.scope;
      commands = u.list;
      lies = switch-lies y;
      ends = switch-ends y;
      above = omega (arith, switch-middle y);
      small = omega arith;
      shows = keeps-shows (g.by (switch-value y)).keeps (omega arith) y.shows;
      fine = (switch-parts y).0.1;
    }

    module _ {b i d : State} {t₂ : List ℕ} (e : Fresh (k + 1) a b) (j : JudgesLabels text s₁ middle n.inner here.top b i) {first : ℕ}
        (ef : first ≡ a.label + 1) (w : WritesTable text s₁ middle n.inner here.top first a.label t₁ t₂ i d) where
      pub switch-state : (y : ReadyU s end here st) → d.label ≡ a.label + (k + 1)
      switch-state y = let x = j.by (switch-labels y) t₁ in omega arith

      abbrev pub switch-cases : ReadyU s end here st → ReadyCases s₁ middle n.inner here d
      switch-cases y =
          let u = switch-is y in let x = g.by (switch-value y) in let v = list-entries text y.scope here.height u.list in record {
            before = st;
            ready = sub y x.keeps u.lies-list refl (omega (arith, (switch-parts y).2)) (switch-parts y).0.1;
            starts = sym (switch-middle y);
            label = omega (arith, switch-state y, switch-count y);
            some = omega (arith, switch-state y);
          }

      pub switch-gave : (ways : Ways) {s₂ t₃ t₄ : List ℕ} {o r : State}
          → GaveCases text s₁ s₂ middle n.inner first here (in_switch a.label ways) t₂ t₃ d o → Emits (I.label a.label ∷ []) [] t₃ t₄ o r
          → GaveU text s s₂ end here ways t t₄ st r
      unfolding in_unlabelled unlabelled G.cmd_code of_cmd G.cmd_labels
      switch-gave ways {s₂} {t₃} {t₄} {o} {r} g₂ f = record {
        by = λ y. let u = switch-is y in let x = g.by (switch-value y) in let z = g₂.by (switch-cases y) in let sc = y.scope in
            let h = here.height in let lv = leavable_by ways here in let A = a.label in let E = expression text sc h
            u.left in let CS = case_list text sc h u.list in let v = list-entries text sc h u.list in let ek = switch-count y in
            let ls : leavable_by (in_switch A ways) here ≡ Y.in_switch lv = leaves-switch here ways A (omega arith) in let en : A + (k + 1) + 0 ≡ A + 1
            + G.commands_in CS = omega arith in let F = label_faults text sc [] u.list in
            let rest : Did (F ++ cases_faults text sc (leavable_by (in_switch A ways) here) h u.list) (switch_says here ways CS)
            (k + 1 + (0 + 2 * entries_in u.list)) t₁ t₄ a r =
            did_at (switch_says here ways CS) _ (did-fresh e (did-put (did_then (table-did h j w (switch-labels y)) z.did) f)) same_refl
            (λ p. code_is (rw (append_assoc, ef, en)) refl (omega arith)) (omega arith) in
            rw u.same (record {
              keeps = keeps_then x.keeps z.keeps;
              did = did-as (cmd_says here ways (R.switch E CS)) _ (did_then (with-ways text sc here ways h u.left x.did) rest)
                  (same-both (same_refl {a = in_expression text sc lv h u.left}) (same_then (same-eq (rw ls)) (cases_same text sc (Y.in_switch lv) h
                  [] u.list))) (λ p c. code_is refl refl (omega arith)) (omega (arith, same-long u.same));
            });
      }

-- another name of the same ways
pub gave-cases-at : {text s s' t t' : List ℕ} {from end l : ℕ} {here : Here} {w w' : Ways} {st r : State} → w' ≡ w
    → GaveCases text s s' from end l here w' t t' st r → GaveCases text s s' from end l here w t t' st r
gave-cases-at e g = rw e at g
