-- REPEAT forms: one of a list, the loop over them, and a command with them.
use Rattle.laws.proofs.Basics.{ℕ, zero, suc, ◌+◌, ◌-◌, ◌*◌, ◌^◌, ◌<◌, ◌≤◌, ◌≡◌, refl, sym, ap, subst, ◌∙◌, List, [], ◌∷◌, ◌++◌, append_assoc}
use Rattle.laws.proofs.Basics.{append-nil, cond, length, get_or, length-append, eqb, add-zero, arith}
use Rattle.items.specs.Item as I
use Rattle.language.specs.Kinds as K
use Rattle.language.specs.Tree as T
use Rattle.compiler.proofs.Language.{Expression, Unlabelled, Repeats, depth, repeats_depth, Scope, Fault, expression, repeats, unlabelled}
use Rattle.compiler.proofs.Language.{FineRepeats, Leavable, in_expression, in_repeats, encode, encode_unlabelled, encode_repeats}
use Rattle.code.specs.Generate as G
use Rattle.language.specs.Faults as Y
use Rattle.tree.specs.Encoding as O
use Rattle.compiler.proofs.Vocabulary.{Keeps, State, Here, Ways, Node, FineE, FinePlain, FineRs, in_loop, leavable, leavable_by, exits, NodeAt}
use Rattle.compiler.proofs.Vocabulary.{Code, Did, Emits, Fresh, Holds, Ready, GaveE, Counts, cmd_says, ReadyU, GaveU, encode_repeated, ReadyR}
use Rattle.compiler.proofs.Vocabulary.{GaveR, ReadyForms, GaveForms, form_says, ReadyForm, GaveForm}
use Rattle.compiler.proofs.Common.{keeps-all, keeps_then, emits-did, did_none, did-put, did_after, did_then, did-as, did_at, did-fresh}
use Rattle.compiler.proofs.Common.{same_refl, same-eq, code_is, kind-is, TwoAt, two_at, sub, First, first_of, Kind, Part, begins, item}
use Rattle.compiler.proofs.Common.{one_size, one_word, rest-length, both-deep, both-fine, goes_on_lem, ended, any-expression}
use Rattle.compiler.specs.Repeats.{forms, conditions, tops_code, forms_code, forms_heights, forms_labels, forms_says, innermost}
use Rattle.compiler.proofs.Guards.{expression-closed}
use Rattle.compiler.proofs.Labelled.{closed-long}
use Rattle.compiler.proofs.Counting.{repeat-items}
use Rattle.compiler.proofs.Conditions.{leaves_loop}
use Rattle.compiler.proofs.Repeating.{repeats-code, repeats-heights, repeats-labels}
use Rattle.compiler.proofs.Forms.{form_of}

-- ---- one form

pub data AForm : Type 0 where
  alone : AForm
  on_test : (word : ℕ) → Expression → AForm

abbrev pub with_form : AForm → Repeats → Repeats
with_form = elim [ alone ↦ T.repeat | on_test w e ↦ T.repeat_on w e ]

abbrev pub form_encoding : AForm → List ℕ
form_encoding = elim [ alone ↦ [] | on_test w e ↦ encode e ]

abbrev pub form_word : AForm → ℕ
form_word = elim [ alone ↦ K.REPEAT | on_test w e ↦ w ]

abbrev pub form_depth : AForm → ℕ
form_depth = elim [ alone ↦ 0 | on_test w e ↦ depth e ]

abbrev pub FineForm : AForm → Type 0
FineForm = elim [ alone ↦ Unit {0} | on_test w e ↦ FineE e ]

abbrev pub form_faults : List ℕ → Scope → Here → AForm → List Fault
form_faults text sc x alone = []
form_faults text sc x (on_test w e) = in_expression text sc (leavable x) x.height e

abbrev pub one_says : List ℕ → Here → Scope → (own : ℕ) → AForm → ℕ → Code
one_says text x sc own alone n = record { items = G.JL own ∷ []; heights = []; labels = 0 }
one_says text x sc own (on_test w e) n = form_says text x sc w own e n

pub is-form : {s : List ℕ} {at end : ℕ} (rs : Repeats) → Holds s at (encode_repeats rs) → end ≡ at + length (encode_repeats rs) → at < end
    → First encode_repeats form_encoding form_word with_form s at end rs
unfolding encode_repeats
is-form T.no_repeats h e l = absurd (omega arith)
is-form (T.repeat rs) h e l = first_of encode_repeats form_encoding form_word with_form alone rs h e
is-form (T.repeat_on w d rs) h e l = first_of encode_repeats form_encoding form_word with_form (on_test w d) rs h e

pub no-form : (rs : Repeats) → length (encode_repeats rs) ≡ 0 → rs ≡ T.no_repeats
unfolding encode_repeats
no-form T.no_repeats e = refl
no-form (T.repeat rs) e = absurd (omega arith)
no-form (T.repeat_on w d rs) e = absurd (omega arith)

pub form-deep : (f : AForm) (rs : Repeats) (k : ℕ) → repeats_depth (with_form f rs) ≤ k → (form_depth f ≤ k) × (repeats_depth rs ≤ k)
unfolding repeats_depth
form-deep = elim [ alone ↦ λ rs k l. (omega arith, l) | on_test w e ↦ λ rs k l. (omega arith, omega arith) ]

pub form-fine : (f : AForm) (rs : Repeats) → FineRs (with_form f rs) → FineForm f × FineRs rs
unfolding FineRepeats
form-fine = elim [ alone ↦ λ rs p. (tt, p) | on_test w e ↦ λ rs p. p ]

abbrev pub form_list : Kind Repeats AForm
form_list = record {
  all = encode_repeats;
  one = form_encoding;
  word = form_word;
  with = with_form;
  none = T.no_repeats;
  deep = repeats_depth;
  deep_one = form_depth;
  Fine = FineRs;
  Fine-one = FineForm;
  takes = is-form;
  empty = no-form;
  deeper = form-deep;
  finer = form-fine;
}

form-conditions : (f : AForm) (rs : Repeats) → conditions (with_form f rs) ≡ length (form_encoding f) + conditions rs
unfolding conditions
form-conditions = elim [ alone ↦ λ rs. omega arith | on_test w e ↦ λ rs. refl ]

form-faults : (text : List ℕ) (sc : Scope) (x : Here) (f : AForm) (rs : Repeats)
    → in_repeats text sc (leavable x) x.height (with_form f rs) ≡ form_faults text sc x f ++ in_repeats text sc (leavable x) x.height rs
unfolding in_repeats
form-faults text sc x = elim [ alone ↦ λ rs. refl | on_test w e ↦ λ rs. refl ]

-- its code between its labels, and then that of the others
form-code : (text : List ℕ) (x : Here) (sc : Scope) (own n : ℕ) (f : AForm) (rs : Repeats) → let c = one_says text x sc own f n in
    ◌≡◌ {A = Code} (record {
      items = ((I.label (own + 1) ∷ c.items) ++ (I.label (own + 2) ∷ [])) ++ forms_code text sc x.strings x.height (own - 3) rs (n + c.labels);
      heights = c.heights ++ forms_heights text sc x.height rs;
      labels = c.labels + forms_labels text sc x.height rs;
    }) (forms_says text x sc own (with_form f rs) n)
unfolding forms_code forms_heights forms_labels
form-code text x sc own n alone rs = code_is (rw (add-zero n)) refl (omega arith)
form-code text x sc own n (on_test w e) rs =
    let E = G.expr_code x.strings x.height n (expression text sc x.height e) in let J = G.jump_when (eqb w K.REPEATWHILE) own in
    let F = forms_code text sc x.strings x.height (own - 3) rs (n + G.expr_labels (expression text sc x.height e)) in
    code_is (simp append_assoc) refl refl

-- ---- the loop over them

module _ (text t₀ : List ℕ) (own₀ : ℕ) {s₀ : List ℕ} {from end : ℕ} {here : Here} {st₀ : State} where
  abbrev pub FormsPart : ReadyForms s₀ from end here st₀ → (s t : List ℕ) (at own : ℕ) (st : State) → Type 0
  FormsPart y s t at own st = let z = y.ready in
      Part form_list conditions (λ i rs. in_repeats text z.scope (leavable here) here.height rs) (λ i rs. forms_says text here z.scope i rs)
      z.tree from end z.base here.top here.left here.height here.height own₀ own s₀ s t₀ t st₀ st at

  pub forms-begin : (y : ReadyForms s₀ from end here st₀) → FormsPart y s₀ t₀ from own₀ st₀
  forms-begin y = begins y.ready y.starts refl refl y.some

  module _ {s t : List ℕ} {at size word next own : ℕ} {st : State} (l : at < end) (es : size ≡ get_or s at 0) (ew : word ≡ get_or s (at + 1) 0)
      (en : next ≡ at + 2 + size) where
    module _ (y : ReadyForms s₀ from end here st₀) (p : FormsPart y s t at own st) where
      abbrev pub one : First encode_repeats form_encoding form_word with_form s₀ at end p.rest
      one = item y.ready y.starts l es en p

      pub forms-size : size ≡ length (form_encoding one.part)
      forms-size = one_size y.ready y.starts l es en p

      pub forms-conditions : conditions p.rest ≡ length (form_encoding one.part) + conditions one.more
      forms-conditions = ap conditions one.same ∙ form-conditions one.part one.more

      module _ {a : State} (el : a.label ≡ st.label) where
        -- what stands there, as its test's expression
        abbrev ready-test : (w : ℕ) (e : Expression) → one.part ≡ on_test w e → Ready encode depth FineE s next here a
        ready-test w e q = let z = y.ready in let h = rw q at one.lies in let d = rw q at (both-deep z y.starts l es en p).0 in
            let m : length (form_encoding one.part) ≡ length (encode e) = rw q in
            sub z p.keeps h refl (omega (arith, forms-size, one.ends, rest-length z y.starts l es en p, forms-conditions, d))
            (subst FineForm q (both-fine z y.starts l es en p).0)

        ready-form : ReadyForm s next size here a
        ready-form = record {
          on = λ n. elim one.part as (λ f. one.part ≡ f → Ready encode depth FineE s next here a)
              [ alone ↦ λ q. absurd (n (rw (forms-size, q))) | on_test w e ↦ λ q. ready-test w e q ] refl;
        }

        -- what it did
        form-did : {s₁ t₁ t₂ : List ℕ} {b : State} → GaveForm text s s₁ next size word own here t₁ t₂ a b →
            Keeps y.ready.base here.top s s₁ × Did (form_faults text y.ready.scope here one.part)
            (one_says text here y.ready.scope own one.part) (2 * length (form_encoding one.part)) t₁ t₂ a b
        form-did {s₁} {t₁} {t₂} {b} g = by one.part refl
          where
            by : (f : AForm) → one.part ≡ f
                → Keeps y.ready.base here.top s s₁ × Did (form_faults text y.ready.scope here f) (one_says text here y.ready.scope own f)
                (2 * length (form_encoding f)) t₁ t₂ a b
            by alone q = let x = g.plain (rw (forms-size, q)) in
                (rw x.0 keeps-all, did-as _ _ (emits-did _ x.1 (λ n. refl)) same_refl (λ n e. refl) (omega arith))
            by (on_test w e) q = let m : length (form_encoding one.part) ≡ length (encode e) = rw q in
                let x = (g.on (λ n. omega (arith, n, forms-size, m, closed-long (expression-closed e)))).by (ready-test w e q) in
                (x.keeps, rw (← (one_word y.ready y.starts l es en p ew ∙ ap form_word q)) x.did)

    pub forms-part : {a : State} → a.label ≡ st.label → (y : ReadyForms s₀ from end here st₀) → FormsPart y s t at own st
        → ReadyForm s next size here a
    forms-part el y p = ready-form y p el

    pub forms-next : {s₁ t₁ t₂ t₃ : List ℕ} {own' : ℕ} {a b r : State} → Emits (I.label (own + 1) ∷ []) [] t t₁ st a
        → GaveForm text s s₁ next size word own here t₁ t₂ a b → Emits (I.label (own + 2) ∷ []) [] t₂ t₃ b r
        → own' ≡ own - 3 → (y : ReadyForms s₀ from end here st₀) → FormsPart y s t at own st → FormsPart y s₁ t₃ next own' r
    forms-next m₁ g m₂ eo y p = let z = y.ready in let u = one y p in let x = form-did y p m₁.label g in let sc = z.scope in
        let n = forms-conditions y p in
        goes_on_lem z y.starts l es en p x.0 (omega arith) (omega arith) (omega arith)
        (λ t' st' d. did-as _ _ (did_then (did-put (did_after m₁ x.1) m₂) (rw eo at d))
        (same-eq (sym (form-faults text sc here u.part u.more))) (λ k c. form-code text here sc own k u.part u.more) (omega arith))

  pub forms-end : {s t : List ℕ} {at own : ℕ} {st : State} → end ≤ at → ((y : ReadyForms s₀ from end here st₀) → FormsPart y s t at own st)
      → GaveForms text s₀ s from end own₀ here t₀ t st₀ st
  unfolding in_repeats forms_code forms_heights forms_labels
  forms-end l q = record { by = λ y. record { keeps = (q y).keeps; did = ended (q y) l (λ m. did_none m) } }

-- ---- the jump back

pub form-alone : (text : List ℕ) {s t t' : List ℕ} {end size word own : ℕ} {here : Here} {st r : State} → size ≡ 0
    → Emits (G.JL own ∷ []) [] t t' st r → GaveForm text s s end size word own here t t' st r
form-alone text e f = record { plain = λ q. (refl, f); on = λ n. absurd (n e) }

pub form-tested : (text : List ℕ) {s s₁ t t₁ t₂ : List ℕ} {end size word own j : ℕ} {here : Here} {st a r : State} → (size ≡ 0 → ⊥)
    → GaveE text s s₁ end here t t₁ st a → j ≡ cond (eqb word K.REPEATWHILE) 4 5
    → Emits (G.to j own ∷ []) [] t₁ t₂ a r → GaveForm text s s₁ end size word own here t t₂ st r
form-tested text {t₁ = t₁} {t₂} {own = own} {a = a} {r} n g ej f = record {
  plain = λ q. absurd (n q);
  on = λ q. record { by = λ y. let x = g.by y in record { keeps = x.keeps; did = did-put x.did (rw ej at f) } };
}

-- ---- a command with REPEAT forms

is-repeated : {s : List ℕ} {lo end : ℕ} (u : Unlabelled) (rs : Repeats) → FinePlain u
    → Holds s lo (O.repeated (encode_unlabelled u) (encode_repeats rs))
    → end ≡ lo + length (O.repeated (encode_unlabelled u) (encode_repeats rs)) → get_or s (end - 1) 0 ≡ O.REPEATED
    → (1 ≤ forms rs) × TwoAt s lo end (encode_unlabelled u) (encode_repeats rs)
unfolding O.repeated encode_repeats forms
is-repeated {s} {lo} {end} u T.no_repeats f h e q = elim (rw q at (form_of s lo end u f h e)) [ ]
is-repeated u (T.repeat rs) f h e q = (omega arith, two_at (encode_unlabelled u) (encode_repeats (T.repeat rs)) 0 O.REPEATED h e)
is-repeated u (T.repeat_on w d rs) f h e q = (omega arith, two_at (encode_unlabelled u) (encode_repeats (T.repeat_on w d rs)) 0 O.REPEATED h e)

is-once : {s : List ℕ} {lo end : ℕ} (u : Unlabelled) (rs : Repeats) → Holds s lo (O.repeated (encode_unlabelled u) (encode_repeats rs))
    → end ≡ lo + length (O.repeated (encode_unlabelled u) (encode_repeats rs)) → (get_or s (end - 1) 0 ≡ O.REPEATED → ⊥)
    → (rs ≡ T.no_repeats) × (O.repeated (encode_unlabelled u) (encode_repeats rs) ≡ encode_unlabelled u)
unfolding O.repeated encode_repeats
is-once u T.no_repeats h e q = (refl, refl)
is-once u (T.repeat rs) h e q =
    absurd (q (kind-is (encode_unlabelled u ++ encode_repeats (T.repeat rs)) (length (encode_unlabelled u)) 0 O.REPEATED h e))
is-once u (T.repeat_on w d rs) h e q =
    absurd (q (kind-is (encode_unlabelled u ++ encode_repeats (T.repeat_on w d rs)) (length (encode_unlabelled u)) 0 O.REPEATED h e))

-- two entries stand in front of each condition
pub forms-entries : (rs : Repeats) → length (encode_repeats rs) ≡ 2 * forms rs + conditions rs
unfolding forms conditions encode_repeats
forms-entries T.no_repeats = omega arith
forms-entries (T.repeat rs) = omega (arith, forms-entries rs)
forms-entries (T.repeat_on w e rs) = omega (arith, forms-entries rs, length-append (encode e) (encode_repeats rs))

any-repeats : (text : List ℕ) (l m : Leavable) (q : l.routine ≡ m.routine) (sc : Scope) (h : ℕ) (rs : Repeats)
    → in_repeats text sc l h rs ≡ in_repeats text sc m h rs
unfolding in_repeats
any-repeats text l m q sc h T.no_repeats = refl
any-repeats text l m q sc h (T.repeat rs) = any-repeats text l m q sc h rs
any-repeats text l m q sc h (T.repeat_on w e rs) = rw (any-expression text l m q sc h e, any-repeats text l m q sc h rs)

-- a command with forms is in a loop
forms-leave : (rs : Repeats) (l : Leavable) → 1 ≤ forms rs → Y.repeated rs l ≡ Y.in_loop l
unfolding forms
forms-leave T.no_repeats l k = absurd (omega arith)
forms-leave (T.repeat rs) l k = refl
forms-leave (T.repeat_on w e rs) l k = refl

innermost-is : (n k own : ℕ) (ways : Ways) → 1 ≤ k → own ≡ n + 3 * k - 3 → exits (in_loop (own + 1) (own + 2) ways) ≡ innermost n k (exits ways)
innermost-is n zero own ways l e = absurd (omega arith)
innermost-is n (suc k) own ways l e = let q : own ≡ n + 3 * k = omega arith in rw q

module _ {s : List ℕ} {end : ℕ} {here : Here} {st : State} (n : Node) (nd : NodeAt s end n) (q : n.kind ≡ O.REPEATED) {middle : ℕ}
    (m : middle ≡ n.start + n.value) where
  pub repeated-is : (y : ReadyR s end here st) → let r = y.tree in
      (1 ≤ forms r.forms) × TwoAt s y.lo end (encode_unlabelled r.body) (encode_repeats r.forms)
  repeated-is y = is-repeated y.tree.body y.tree.forms y.fine.0 y.lies y.ends (sym nd.kind ∙ q)

  pub repeated-middle : (y : ReadyR s end here st) → middle ≡ y.lo + length (encode_unlabelled y.tree.body)
  repeated-middle y = let u = repeated-is y in omega arith

  module _ {k : ℕ} (c : Counts s middle n.inner k) where
    pub repeated-count : (y : ReadyR s end here st) → k ≡ forms y.tree.forms
    repeated-count y = let u = repeated-is y in
        c.by (forms y.tree.forms) (repeat-items y.tree.forms (rw (repeated-middle y) u.1.lies-list) (omega (arith, repeated-middle y)))

    pub repeated-few : (y : ReadyR s end here st) → (1 ≤ k) × (st.label + 3 * k + 3 ≤ 2 ^ 29)
    repeated-few y = let u = repeated-is y in (omega (arith, repeated-count y), omega (arith, repeated-count y, forms-entries y.tree.forms))

    module _ {a b : State} {t t₁ : List ℕ} (e : Fresh (3 * k) st a) (f : Emits (tops_code st.label k) [] t t₁ a b) where
      abbrev pub repeated-body : ReadyR s end here st → ReadyU s middle here b
      repeated-body y = let u = repeated-is y in
          sub y keeps-all u.1.lies refl (omega (arith, repeated-middle y, repeated-count y, forms-entries y.tree.forms)) y.fine.0

      module _ (text : List ℕ) (ways : Ways) {own : ℕ} (eo : own ≡ st.label + 3 * k - 3) {s₁ t₂ : List ℕ} {d : State}
          (g : GaveU text s s₁ middle here (in_loop (own + 1) (own + 2) ways) t₁ t₂ b d) where
        abbrev pub repeated-forms : ReadyR s end here st → ReadyForms s₁ middle n.inner here d
        repeated-forms y = let u = repeated-is y in let x = g.by (repeated-body y) in record {
          before = st;
          ready = sub y x.keeps u.1.lies-list refl (omega arith) y.fine.1;
          starts = sym (repeated-middle y);
          label = omega (arith, repeated-count y, forms-entries y.tree.forms);
          some = omega arith;
        }

        pub repeated-gave : {s₂ t₃ : List ℕ} {r : State} → GaveForms text s₁ s₂ middle n.inner own here t₂ t₃ d r
            → GaveR text s s₂ end here ways t t₃ st r
        repeated-gave g₂ = record {
          by = λ y. let u = repeated-is y in let x = g.by (repeated-body y) in let z = g₂.by (repeated-forms y) in let sc = y.scope in
              let h = here.height in let S = here.strings in let L = st.label in let rs = y.tree.forms in let C = unlabelled text sc h
              y.tree.body in let lv = leavable_by ways here in let N = L + 3 * k in let ek = repeated-count y in let l₁ : leavable_by
              (in_loop (own + 1) (own + 2) ways) here ≡ Y.repeated rs lv = leaves_loop here ways (own + 1) (own + 2) (omega arith)
              ∙ sym (forms-leave rs lv u.0) in let ei : exits (in_loop (own + 1) (own + 2) ways) ≡ innermost L (forms rs) (exits ways)
              = innermost-is L (forms rs) own ways u.0 (rw (eo, ek)) in
              record {
                keeps = keeps_then x.keeps z.keeps;
                did = did_at (cmd_says here ways (repeats text sc h C rs)) _ (did-fresh e (did_after f (did_then x.did z.did)))
                    (same-eq (rw (l₁, any-repeats text (leavable here) lv refl sc h rs)))
                    (λ v. code_is (ap (λ (i : ℕ). tops_code L i ++ (G.cmd_code S h N (exits (in_loop (own + 1) (own + 2) ways)) C ++ forms_code text sc S
                    h own rs (N + G.cmd_labels C))) ek ∙ ap (λ (w : G.Exits). tops_code L (forms rs) ++ (G.cmd_code S h N w C ++ forms_code text sc S h
                    own rs (N + G.cmd_labels C))) ei ∙ sym (repeats-code text sc S h rs C L N own (N + G.cmd_labels C) (exits ways) (rw ek) eo refl))
                    (sym (repeats-heights text sc h rs C)) (omega (arith, repeats-labels text sc h rs C))) (omega (arith, forms-entries rs));
              };
        }

module _ {s : List ℕ} {end : ℕ} {here : Here} {st : State} (n : Node) (nd : NodeAt s end n) (q : n.kind ≡ O.REPEATED → ⊥) where
  pub once_is : (y : ReadyR s end here st) → (y.tree.forms ≡ T.no_repeats) × (encode_repeated y.tree ≡ encode_unlabelled y.tree.body)
  once_is y = is-once y.tree.body y.tree.forms y.lies y.ends (λ e. q (nd.kind ∙ e))

  abbrev pub once-part : ReadyR s end here st → ReadyU s end here st
  once-part y = let e = (once_is y).1 in sub y keeps-all (rw e at y.lies) refl (omega (arith, ap length e)) y.fine.0

  pub once-gave : (text : List ℕ) (ways : Ways) {s₁ t t₁ : List ℕ} {r : State} → GaveU text s s₁ end here ways t t₁ st r
      → GaveR text s s₁ end here ways t t₁ st r
  unfolding in_repeats repeats O.repeated encode_repeats
  once-gave text ways g = record {
    by = λ y. let x = g.by (once-part y) in rw (once_is y).0
        (record { keeps = x.keeps; did = did-as _ _ x.did (same-eq (sym (append-nil _))) (λ k v. refl) (omega arith) });
  }
