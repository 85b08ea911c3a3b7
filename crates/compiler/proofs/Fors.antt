-- FOR: its test, its parts, and its block.
use Rattle.laws.proofs.Basics.{ℕ, ◌+◌, ◌-◌, ◌*◌, ◌≤◌, ◌≡◌, refl, sym, ap, subst, ◌∙◌, List, [], ◌∷◌, ◌++◌, append_assoc, append-nil, Option, some}
use Rattle.laws.proofs.Basics.{none, length, get_or, length-append, arith}
use Rattle.items.specs.Item as I
use Rattle.language.specs.Kinds as K
use Rattle.language.specs.Tree as T
use Rattle.compiler.proofs.Language.{Name, Constant, Expression, Command, Unlabelled, depth, command_depth, unlabelled_depth, Scope, opened}
use Rattle.compiler.proofs.Language.{declared, Fault, judged_word, faults_of, expression, command, unlabelled, by_of, of_cmd, FineName, FineBy}
use Rattle.compiler.proofs.Language.{FineUnlabelled, by_faults, in_unlabelled, encode, encode_name, encode_by, encode_command}
use Rattle.language.specs.Names as N
use Rattle.language.specs.Resolved as R
use Rattle.code.specs.Generate as G
use Rattle.compiler.proofs.Vocabulary.{Shows, Keeps, Pushed, PushedName, name_at, State, Here, Ways, Node, FineE, FineC, FinePlain, raised}
use Rattle.compiler.proofs.Vocabulary.{placed, in_loop, leavable_by, NodeAt, Code, Did, Emits, Fresh, Holds, ReadyE, GaveE, Verdict, cmd_says}
use Rattle.compiler.proofs.Vocabulary.{ReadyC, GaveC, ReadyU, GaveU, by_judged, JudgesBy}
use Rattle.compiler.proofs.Common.{keeps-lower, keeps-all, keeps_then, keeps-shows, keeps-name, name-there, pushed-keeps, did-emit, did-put}
use Rattle.compiler.proofs.Common.{did_then, did-as, did_at, did-fresh, same_refl, same-eq, code_is, first, second, keeps-lies, sub, moved}
use Rattle.compiler.proofs.Common.{with-ways}
use Rattle.compiler.specs.Commands.{nothing}
use Rattle.compiler.proofs.Judging.{says-word}
use Rattle.compiler.specs.Locals.{word_of, Says, Blames}
use Rattle.compiler.proofs.Guards.{closed-start, command-closed, expression-closed, unlabelled-closed}
use Rattle.compiler.proofs.Commands.{named-block-keeps, named-block-shows}
use Rattle.compiler.proofs.Conditions.{leaves_loop}
use Rattle.compiler.proofs.Forms as F
use Rattle.compiler.proofs.Forms.{Form, form-at, same-long}

pub act-is : {a b : ℕ} {t t' : List ℕ} {st r : State} → a ≡ b → Emits (G.X a ∷ []) [] t t' st r → Emits (G.X b ∷ []) [] t t' st r
act-is e f = rw e at f

-- ---- its parts

pub record IsFor (s : List ℕ) (lo end : ℕ) (u : Unlabelled) : Type 0 where
  pub name : Name
  pub start : Expression
  pub limit : Expression
  pub by : Option Constant
  pub body : Command
  pub same : u ≡ T.for name start limit by body
  pub name-is : name_at s lo ≡ name
  pub lies-start : Holds s (lo + 4) (encode start)
  pub lies_limit : Holds s (lo + 4 + length (encode start)) (encode limit)
  pub lies-by : Holds s (lo + 4 + length (encode start) + length (encode limit)) (encode_by by)
  pub lies-body : Holds s (lo + 4 + length (encode start) + length (encode limit) + length (encode_by by)) (encode_command body)
  pub value_of : get_or s (end - 3) 0 ≡ length (encode_by by)
  pub ends : end ≡ lo + 4 + length (encode start) + length (encode limit) + length (encode_by by) + length (encode_command body) + 4

is-for : {s : List ℕ} {lo end : ℕ} {u : Unlabelled} → Form s lo end K.FOR u → IsFor s lo end u
unfolding encode_name
is-for {s} {lo} (F.a_for {n} {e} {d} {k} {c} h v q) = let a = encode e in let b = encode d in let g = encode_by k in let i = encode_command c in
    let r₁ = second (encode_name n) (a ++ (b ++ (g ++ i))) (lo + 4) h refl in let r₂ = second a (b ++ (g ++ i)) (lo + 4 + length a) r₁ refl in
    let r₃ = second b (g ++ i) (lo + 4 + length a + length b) r₂ refl in
    record {
      name = n;
      start = e;
      limit = d;
      by = k;
      body = c;
      same = refl;
      name-is = name-there s lo (h.at 1 (omega arith)) (h.at 2 (omega arith));
      lies-start = first a (b ++ (g ++ i)) r₁;
      lies_limit = first b (g ++ i) r₂;
      lies-by = first g i r₃;
      lies-body = second g i (lo + 4 + length a + length b + length g) r₃ refl;
      value_of = v;
      ends = omega (arith, length-append a (b ++ (g ++ i)), length-append b (g ++ i), length-append g i);
    }

-- ---- the constant

by-faults : (text : List ℕ) (sc : Scope) (k : Option Constant) → faults_of (by_judged text sc k) ≡ by_faults text sc k
by-faults text sc = elim [ none ↦ refl | some c ↦ refl ]

by_word : (text : List ℕ) (sc : Scope) (k : Option Constant) → judged_word (by_judged text sc k) ≡ by_of text sc k
by_word text sc = elim [ none ↦ refl | some c ↦ refl ]

-- refusals alone, after what was done
did-judged : {fs gs : List Fault} {f : ℕ → Code} {m : ℕ} {t t₁ : List ℕ} {st a b : State} → Did fs f m t t₁ st a → Did gs nothing 0 t₁ t₁ a b
    → Did (fs ++ gs) f m t t₁ st b
did-judged {f = f} {m} x y =
    did-as f m (did_then x y) same_refl (λ n e. code_is (append-nil (f n).items) (append-nil (f n).heights) (omega arith)) (omega arith)

module _ {s : List ℕ} {end : ℕ} {here : Here} {st : State} (n b l : Node) {le : ℕ} (nd : NodeAt s end n) (bd : NodeAt s n.inner b)
    (el : le ≡ b.start - n.value) (ld : NodeAt s le l) (q : get_or s (end - 1) 0 ≡ K.FOR) where
  pub for-is : (y : ReadyU s end here st) → IsFor s y.lo end y.tree
  for-is y = is-for (form-at n nd (nd.kind ∙ q) y)

  pub for-fine : (y : ReadyU s end here st)
      → let u = for-is y in FineE u.start × FineE u.limit × FineBy u.by × FineC u.body × FineName u.name
  unfolding FineUnlabelled
  for-fine y = (subst FinePlain (for-is y).same y.fine).0

  pub for-deep : (y : ReadyU s end here st)
      → let u = for-is y in (depth u.start ≤ here.left) × (depth u.limit ≤ here.left) × (command_depth u.body ≤ here.left)
  unfolding unlabelled_depth
  for-deep y = let e = ap unlabelled_depth (for-is y).same in (omega arith, omega arith, omega arith)

  -- where its name's leaf, its body, its limit and its first value stand
  pub for-start : (y : ReadyU s end here st) → n.start ≡ y.lo
  for-start y = nd.start ∙ sym (closed-start {end = end} (unlabelled-closed y.tree y.fine) y.lies y.ends).0

  pub for-places : (y : ReadyU s end here st) → let u = for-is y in let first = y.lo + 4 + length (encode u.start) in
      (b.start ≡ first + length (encode u.limit) + length (encode_by u.by)) × (le ≡ first + length (encode u.limit)) × (l.start ≡ first)
  for-places y = let u = for-is y in
      let c : b.start ≡ y.lo + 4 + length (encode u.start) + length (encode u.limit) + length (encode_by u.by) = bd.start
      ∙ sym (closed-start {end = n.inner} (command-closed u.body (for-fine y).3) u.lies-body (omega (arith, nd.inner, u.ends))).0 in
      let e : le ≡ y.lo + 4 + length (encode u.start) + length (encode u.limit) = omega (arith, el, c, nd.value, u.value_of) in
      (c, e, ld.start ∙ sym (closed-start {end = le} (expression-closed u.limit) u.lies_limit e).0)

  -- room for its mark and its name
  pub for-room : (y : ReadyU s end here st) → here.top + 4 ≤ y.base
  for-room y = let u = for-is y in omega arith

  abbrev pub for-first : {a : State} → Fresh 3 st a → ReadyU s end here st → ReadyE s l.start here a
  for-first e y = let u = for-is y in sub y keeps-all u.lies-start refl (omega (arith, (for-places y).2, (for-deep y).0)) (for-fine y).0

  module _ (text : List ℕ) {s₁ t t₁ t₂ : List ℕ} {a c d : State} (e : Fresh 3 st a) (g : GaveE text s s₁ l.start here t t₁ a c)
      (f : Emits (G.SP here.height ∷ []) ((here.height + 1) ∷ []) t₁ t₂ c d) where
    abbrev pub for-limit : ReadyU s end here st → ReadyE s₁ le (raised 1 here) d
    for-limit y = let u = for-is y in let x = g.by (for-first e y) in
        sub y x.keeps u.lies_limit refl (omega (arith, (for-places y).1, (for-deep y).1)) (for-fine y).1

    module _ {s₂ t₃ t₄ : List ℕ} {i j : State} (g₂ : GaveE text s₁ s₂ le (raised 1 here) t₂ t₃ d i)
        (f₂ : Emits (G.SP (here.height + 1) ∷ []) ((here.height + 1 + 1) ∷ []) t₃ t₄ i j)
        {v : Verdict} (jb : JudgesBy text s₂ le b.start here.top v) {k : State} (bl : Blames v j k) {word : ℕ} (ew : word ≡ word_of v) {t₅ : List ℕ} {m : State}
        (f₃ : Emits (I.label st.label ∷ G.LIP here.height ∷ G.LIP (here.height + 1) ∷ G.X (G.limit_act word) ∷ G.FL (st.label + 2) ∷ [])
        [] t₄ t₅ k m) where
      pub for-keeps : (y : ReadyU s end here st) → Keeps y.base here.top s s₂
      for-keeps y = keeps_then (g.by (for-first e y)).keeps (g₂.by (for-limit y)).keeps

      for-name : (y : ReadyU s end here st) → name_at s₂ n.start ≡ (for-is y).name
      for-name y = keeps-name (for-keeps y) (omega (arith, for-start y)) ∙ ap (name_at s) (for-start y) ∙ (for-is y).name-is

      pub for-name-fine : {s₃ : List ℕ} → Pushed s₂ s₃ here.top 0 0 → (y : ReadyU s end here st) → FineName (name_at s₃ n.start)
      for-name-fine p y = let k = pushed-keeps {base = y.base} p (omega (arith, for-room y)) (omega (arith, (for-keeps y).long)) in
          subst FineName (sym (keeps-name k (omega (arith, for-start y)) ∙ for-name y)) (for-fine y).4

      pub for-says : (y : ReadyU s end here st) → Says v (by_judged text y.scope (for-is y).by)
      for-says y = let u = for-is y in jb.by y.scope u.by (keeps-shows (for-keeps y) (omega arith) y.shows) (for-fine y).2
          (keeps-lies (for-keeps y) (omega (arith, (for-places y).1)) (rw (← (for-places y).1) at u.lies-by))
          (omega (arith, (for-places y).0, (for-places y).1))

      pub for-labels : (y : ReadyU s end here st)
          → (m.label ≤ st.label + 3 + 2 * length (encode (for-is y).start) + 2 * length (encode (for-is y).limit)) × (st.label ≤ m.label)
      for-labels y = let x = g.by (for-first e y) in let z = g₂.by (for-limit y) in
          let w = bl.by (by_judged text y.scope (for-is y).by) (for-says y) t₄ in
          (omega arith, omega (arith, e.label, x.did.grows, f.label, z.did.grows, f₂.label, w.grows, f₃.label))

      module _ {s₃ s₄ : List ℕ} {x₄ : ℕ} (p : Pushed s₂ s₃ here.top 0 0) (p₂ : PushedName s₃ s₄ (here.top + 2) n.start x₄)
          (ex : x₄ ≡ here.height * 4 + 1) where
        pub for-long : (y : ReadyU s end here st) → y.base ≤ length s₂
        for-long y = omega (arith, (for-keeps y).long)

        pub for-block-keeps : (y : ReadyU s end here st) → Keeps y.base here.top s s₄
        for-block-keeps y = keeps_then (for-keeps y) (named-block-keeps here.height (keeps-shows (for-keeps y) (omega arith) y.shows)
            (for-long y) (for-room y) (omega (arith, for-start y)) p p₂ ex)

        pub for-block-shows : (y : ReadyU s end here st)
            → Shows s₄ (here.top + 4) (declared (opened y.scope) (for-is y).name (N.local here.height))
        for-block-shows y =
            let u = for-is y in let k = for-keeps y in let w = named-block-shows here.height (keeps-shows k (omega arith) y.shows) (for-long y)
            (for-room y) (omega (arith, for-start y)) p p₂ ex in
            rw (for-name y) at w

        abbrev pub for-body : ReadyU s end here st → ReadyC s₄ n.inner (placed (here.top + 4) (here.height + 2) here) m
        for-body y = let u = for-is y in let k = for-block-keeps y in let lo' = y.lo + 4 + length (encode u.start) + length (encode u.limit)
            + length (encode_by u.by) in
            moved y k (declared (opened y.scope) u.name (N.local here.height)) u.lies-body (for-block-shows y) (omega arith)
            (omega (arith, nd.inner, u.ends, for-labels y, (for-deep y).2)) (for-fine y).3

        pub for-gave : (ways : Ways) {s₅ t₆ t₇ : List ℕ} {o r : State}
            → GaveC text s₄ s₅ n.inner (placed (here.top + 4) (here.height + 2) here) (in_loop (st.label + 1) (st.label + 2) ways) t₅ t₆ m o
            → Emits
            (I.label (st.label + 1) ∷ G.LIP here.height ∷ G.A word ∷ G.SP here.height ∷ G.JL st.label ∷ I.label (st.label + 2) ∷ [])
            [] t₆ t₇ o r → GaveU text s s₅ end here ways t t₇ st r
        unfolding in_unlabelled unlabelled G.cmd_code of_cmd G.cmd_labels
        for-gave ways {s₅} {t₆} {t₇} {o} {r} g₃ f₄ = record {
          by = λ y.
              let u = for-is y in let x = g.by (for-first e y) in let z = g₂.by (for-limit y) in let w = g₃.by (for-body y) in let sc = y.scope in
              let h = here.height in let L = st.label in let lv = leavable_by ways here in
              let sc' = declared (opened sc) u.name (N.local h) in let E = expression text sc h u.start in
              let D = expression text sc (h + 1) u.limit in let C = command text sc' (h + 2) u.body in let B = by_of text sc u.by in
              let eb : word ≡ B = ew ∙ says-word _ (for-says y) ∙ by_word text sc u.by in
              let eh : h + 1 + 1 ≡ h + 2 = omega arith in
              let ec : L + 3 + (G.expr_labels E + G.expr_labels D) ≡ L + 3 + G.expr_labels E + G.expr_labels D = omega arith in
              let ll = leaves_loop here ways (L + 1) (L + 2) (omega arith) in let bf = bl.by (by_judged text sc u.by) (for-says y) t₄ in
              let fs = by-faults text sc u.by in let k = same-long u.same in
              rw u.same (record {
                keeps = keeps_then (for-block-keeps y) (keeps-lower (omega arith) w.keeps);
                did = did_at (cmd_says here ways (R.for E D B C)) _ (did-fresh e
                    (did-put (did_then (did-put (did-judged (did-emit (did_then (did-emit (with-ways text sc here ways h u.start x.did) f)
                    (with-ways text sc here ways (h + 1) u.limit z.did)) f₂) bf) f₃) w.did) f₄))
                    (same-eq (rw (fs, ll))) (λ _. code_is (simp (append_assoc, eb, ec)) (simp (append_assoc, eh)) (omega arith)) (omega (arith, k));
              });
        }
