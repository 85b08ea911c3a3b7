-- TEST, WHILE and UNTIL.
use Rattle.laws.proofs.Basics.{ℕ, ◌+◌, ◌-◌, ◌<◌, ◌≤◌, ◌≡◌, refl, sym, ap, subst, ◌∙◌, List, [], ◌∷◌, ◌++◌, append_assoc, cond, length, get_or}
use Rattle.laws.proofs.Basics.{length-append, eqb, arith, ne_eqb}
use Rattle.laws.proofs.Cases.{by_equal}
use Rattle.items.specs.Item as I
use Rattle.language.specs.Kinds as K
use Rattle.language.specs.Tree as T
use Rattle.compiler.proofs.Language.{Expression, Command, Unlabelled, depth, command_depth, unlabelled_depth, Scope, expression, command}
use Rattle.compiler.proofs.Language.{unlabelled, of_cmd, Leavable, in_expression, in_command, in_unlabelled, encode, encode_command}
use Rattle.compiler.proofs.Language.{encode_unlabelled, FineUnlabelled}
use Rattle.language.specs.Resolved as R
use Rattle.code.specs.Generate as G
use Rattle.language.specs.Faults as Y
use Rattle.compiler.proofs.Scoping.{keeps-all, keeps_then}
use Rattle.compiler.proofs.Vocabulary.{State, Here, Ways, Node, FineE, FineC, FinePlain, in_loop, leavable_by, NodeAt, Emits, Fresh}
use Rattle.compiler.proofs.Vocabulary.{Holds, Result, ReadyE, GaveE}
use Rattle.compiler.specs.Commands.{cmd_says, ReadyC, GaveC, ReadyU, GaveU, WhileWord, a_while, an_until, WhileKind}
use Rattle.compiler.proofs.Done.{emits_then, did-put, did_after, did_then, did_at, did-fresh, same_refl, same-eq, code_is}
use Rattle.compiler.proofs.Trees.{first, second}
use Rattle.compiler.proofs.Parts.{sub}
use Rattle.compiler.proofs.Anywhere.{with-ways}
use Rattle.compiler.proofs.Guards.{IsGuarded, guarded-of, guarded-well, guarded-middle, closed-start, command-closed}
use Rattle.compiler.proofs.Forms as F
use Rattle.compiler.proofs.Forms.{Form, form-at}

-- ---- TEST

pub record IsTest (s : List ℕ) (lo end : ℕ) (u : Unlabelled) : Type 0 where
  pub test : Expression
  pub body : Command
  pub other : Command
  pub same : u ≡ T.test test body other
  pub lies : Holds s lo (encode test)
  pub lies-body : Holds s (lo + length (encode test)) (encode_command body)
  pub lies-other : Holds s (lo + length (encode test) + length (encode_command body)) (encode_command other)
  pub ends : end ≡ lo + length (encode test) + length (encode_command body) + length (encode_command other) + 4

is-test : {s : List ℕ} {lo end : ℕ} {u : Unlabelled} → Form s lo end K.TEST u → IsTest s lo end u
is-test {lo = lo} (F.a_test {e} {c} {d} h q) =
    let a = encode e in let b = encode_command c in let g = encode_command d in let r = second a (b ++ g) (lo + length a) h refl in
    record {
      test = e;
      body = c;
      other = d;
      same = refl;
      lies = first a (b ++ g) h;
      lies-body = first b g r;
      lies-other = second b g (lo + length a + length b) r refl;
      ends = omega (arith, length-append a (b ++ g), length-append b g);
    }

module _ {s : List ℕ} {end : ℕ} {here : Here} {st : State} (n o b : Node) (nd : NodeAt s end n) (od : NodeAt s n.inner o)
    (bd : NodeAt s o.start b) (q : get_or s (end - 1) 0 ≡ K.TEST) where
  pub test-is : (y : ReadyU s end here st) → IsTest s y.lo end y.tree
  test-is y = is-test (form-at n nd (nd.kind ∙ q) y)

  pub test-well : (y : ReadyU s end here st) → let u = test-is y in (depth u.test ≤ here.left) × (command_depth u.body ≤ here.left)
      × (command_depth u.other ≤ here.left) × (FineE u.test × FineC u.body × FineC u.other)
  unfolding unlabelled_depth FineUnlabelled
  test-well y = let q = (test-is y).same in let e = ap unlabelled_depth q in (omega arith, omega arith, omega arith, (subst FinePlain q y.fine).0)

  pub test-other : (y : ReadyU s end here st) → o.start ≡ y.lo + length (encode (test-is y).test) + length (encode_command (test-is y).body)
  test-other y = let u = test-is y in
      od.start ∙ sym (closed-start {end = n.inner} (command-closed u.other (test-well y).3.2) u.lies-other (omega arith)).0

  pub test-start : (y : ReadyU s end here st) → b.start ≡ y.lo + length (encode (test-is y).test)
  test-start y = let u = test-is y in
      bd.start ∙ sym (closed-start {end = o.start} (command-closed u.body (test-well y).3.1) u.lies-body (test-other y)).0

  abbrev pub test-first : {a : State} → Fresh 2 st a → ReadyU s end here st → ReadyE s b.start here a
  test-first e y = let u = test-is y in sub y keeps-all u.lies refl (omega (arith, test-start y, (test-well y).0)) (test-well y).3.0

  module _ (text : List ℕ) {s₁ t t₁ t₂ : List ℕ} {a c d : State} (e : Fresh 2 st a) (g : GaveE text s s₁ b.start here t t₁ a c)
      (f : Emits (G.FL st.label ∷ []) [] t₁ t₂ c d) where
    abbrev pub test-body : ReadyU s end here st → ReadyC s₁ o.start here d
    test-body y = let u = test-is y in let x = g.by (test-first e y) in
        sub y x.keeps u.lies-body refl (omega (arith, test-other y, (test-well y).1)) (test-well y).3.1

    module _ (ways : Ways) {s₂ t₃ t₄ t₅ : List ℕ} {i j k : State} (g₂ : GaveC text s₁ s₂ o.start here ways t₂ t₃ d i)
        (f₂ : Emits (G.JL (st.label + 1) ∷ []) [] t₃ t₄ i j) (f₃ : Emits (I.label st.label ∷ []) [] t₄ t₅ j k) where
      abbrev pub test-rest : ReadyU s end here st → ReadyC s₂ n.inner here k
      test-rest y = let u = test-is y in let x = g.by (test-first e y) in let z = g₂.by (test-body y) in
          sub y (keeps_then x.keeps z.keeps) u.lies-other refl (omega (arith, (test-well y).2)) (test-well y).3.2

      pub test-gave : {s₃ t₆ t₇ : List ℕ} {l r : State} → GaveC text s₂ s₃ n.inner here ways t₅ t₆ k l
          → Emits (I.label (st.label + 1) ∷ []) [] t₆ t₇ l r → GaveU text s s₃ end here ways t t₇ st r
      unfolding in_unlabelled unlabelled G.cmd_code of_cmd G.cmd_labels
      test-gave {s₃} {t₆} {t₇} {l} {r} g₃ f₄ = record {
        by = λ y. let u = test-is y in let x = g.by (test-first e y) in let z = g₂.by (test-body y) in let v = g₃.by (test-rest y) in
            let sc = y.scope in let h = here.height in let E = expression text sc h u.test in let C = command text sc h u.body in
            let D = command text sc h u.other in let L = st.label in
            let m : L + 2 + (G.expr_labels E + G.cmd_labels C) ≡ L + 2 + G.expr_labels E + G.cmd_labels C = omega arith in
            subst (λ (p : Unlabelled). Result (in_unlabelled text sc (leavable_by ways here) h p) (cmd_says here ways (unlabelled text sc h p))
            (length (encode_unlabelled y.tree)) y.base here s s₃ t t₇ st r) (sym u.same) (record {
              keeps = keeps_then (keeps_then x.keeps z.keeps) v.keeps;
              did = did_at (cmd_says here ways (R.test E C D)) _ (did-fresh e
                  (did-put (did_then (did-put (did_then (did-put (with-ways text sc here ways h u.test x.did) f) z.did) (emits_then f₂ f₃))
                  v.did) f₄)) same_refl (λ p. code_is (simp (append_assoc, m)) refl (omega arith)) (omega arith);
            });
      }

-- ---- WHILE and UNTIL

is-while : {s : List ℕ} {lo end w : ℕ} {u : Unlabelled} → WhileWord w → Form s lo end w u → IsGuarded s lo end w u
is-while a_while (F.a_while h q) = guarded-of h q
is-while an_until (F.an_until h q) = guarded-of h q

while-says : (text : List ℕ) (sc : Scope) (l : Leavable) (h : ℕ) {w : ℕ} → WhileWord w → (e : Expression) (c : Command)
    → (unlabelled text sc h (T.guarded w e c) ≡ R.while (eqb w K.WHILE) (expression text sc h e) (command text sc h c))
    × (in_unlabelled text sc l h (T.guarded w e c) ≡ in_expression text sc l h e ++ in_command text sc (Y.in_loop l) h c)
unfolding unlabelled in_unlabelled
while-says text sc l h a_while e c = (refl, refl)
while-says text sc l h an_until e c = (refl, refl)

-- in a loop that ends at a label, a loop may be left
pub leaves_loop : (here : Here) (ways : Ways) (next end : ℕ) → 0 < end → leavable_by (in_loop next end ways) here ≡ Y.in_loop (leavable_by ways here)
leaves_loop here ways next end h = rw (ne_eqb end 0 (λ e. omega arith))

module _ {s : List ℕ} {end : ℕ} {here : Here} {st : State} (n b : Node) (nd : NodeAt s end n) (bd : NodeAt s n.inner b)
    (w : WhileWord (get_or s (end - 1) 0)) where
  pub while-is : (y : ReadyU s end here st) → IsGuarded s y.lo end (get_or s (end - 1) 0) y.tree
  while-is y = is-while w (form-at n nd nd.kind y)

  module _ {t t₁ : List ℕ} {a c : State} (e : Fresh 2 st a) (m : Emits (I.label st.label ∷ []) [] t t₁ a c) where
    abbrev pub while-test : ReadyU s end here st → ReadyE s b.start here c
    while-test y = let u = while-is y in let w = guarded-well y u in
        sub y keeps-all u.lies refl (omega (arith, guarded-middle n b nd bd y u, w.0)) w.2

    module _ (text : List ℕ) {s₁ t₂ t₃ : List ℕ} {d i : State} {j : ℕ} (g : GaveE text s s₁ b.start here t₁ t₂ c d)
        (f : Emits (G.to j (st.label + 1) ∷ []) [] t₂ t₃ d i) where
      abbrev pub while-body : ReadyU s end here st → ReadyC s₁ n.inner here i
      while-body y = let u = while-is y in let x = g.by (while-test y) in let w = guarded-well y u in
          sub y x.keeps u.lies-body refl (omega (arith, w.1)) w.3

      pub while-gave : (ways : Ways) {s₂ t₄ t₅ t₆ : List ℕ} {k l r : State} → j ≡ cond (eqb n.kind K.WHILE) 5 4
          → GaveC text s₁ s₂ n.inner here (in_loop st.label (st.label + 1) ways) t₃ t₄ i k
          → Emits (G.JL st.label ∷ []) [] t₄ t₅ k l → Emits (I.label (st.label + 1) ∷ []) [] t₅ t₆ l r → GaveU text s s₂ end here ways t t₆ st r
      unfolding G.cmd_code of_cmd G.cmd_labels
      while-gave ways {s₂} {t₄} {t₅} {t₆} {k} {l} {r} ej g₂ f₂ f₃ = record {
        by = λ y. let u = while-is y in let x = g.by (while-test y) in let z = g₂.by (while-body y) in let sc = y.scope in let h = here.height in
            let L = st.label in let W = get_or s (end - 1) 0 in let lv = leavable_by ways here in
            let says = while-says text sc lv h w u.test u.body in let em = ap (unlabelled text sc h) u.same ∙ says.0 in
            let ef = ap (in_unlabelled text sc lv h) u.same ∙ says.1 in let jj : j ≡ cond (eqb W K.WHILE) 5 4 = rw (ej, nd.kind) in
            let lo = leaves_loop here ways L (L + 1) (omega arith) in
            record {
              keeps = keeps_then x.keeps z.keeps;
              did = did_at (cmd_says here ways (unlabelled text sc h y.tree)) _
                  (did-fresh e (did_after m (did-put (did_then (did-put (with-ways text sc here ways h u.test x.did) f) z.did)
                  (emits_then f₂ f₃)))) (same-eq (rw (lo, ef))) (λ v. code_is (simp (append_assoc, jj, em)) (ap (of_cmd h) (sym em))
                  (omega (arith, ap G.cmd_labels em))) (omega arith);
            };
      }

while-while : {s : List ℕ} {end : ℕ} (n : Node) → NodeAt s end n → n.kind ≡ K.WHILE → WhileKind s end
while-while n nd q = record { word = subst WhileWord (sym q ∙ nd.kind) a_while }

while-until : {s : List ℕ} {end : ℕ} (n : Node) → NodeAt s end n → n.kind ≡ K.UNTIL → WhileKind s end
while-until n nd q = record { word = subst WhileWord (sym q ∙ nd.kind) an_until }

pub while-guards : {s : List ℕ} {end : ℕ} (n : Node) → NodeAt s end n → 18 ≤ n.kind → n.kind < 20 → WhileKind s end
while-guards n nd a b = by_equal n.kind 18 (λ e. while-while n nd e) (λ e. while-until n nd (omega arith))
