-- IF and UNLESS.
use Rattle.laws.proofs.Basics.{ℕ, ◌+◌, ◌-◌, ◌<◌, ◌≤◌, ◌≡◌, refl, sym, ap, subst, ◌∙◌, List, [], ◌∷◌, ◌++◌, append_assoc, false, cond, length, get_or}
use Rattle.laws.proofs.Basics.{length-append, eqb, arith}
use Rattle.laws.proofs.Cases.{by_equal}
use Rattle.items.specs.Item as I
use Rattle.language.specs.Tree as T
use Rattle.compiler.proofs.Language.{Expression, Command, Unlabelled, ends_in_call, place_of, depth, command_depth, unlabelled_depth, Scope}
use Rattle.compiler.proofs.Language.{expression, command, unlabelled, of_cmd, Leavable, in_expression, in_command, in_unlabelled, closed, encode}
use Rattle.compiler.proofs.Language.{encode_command, encode_unlabelled, FineCommand, FineUnlabelled}
use Rattle.language.specs.Resolved as R
use Rattle.code.specs.Generate as G
use Rattle.tree.specs.Encoding as O
use Rattle.compiler.proofs.Scoping.{keeps-all, keeps_then}
use Rattle.compiler.proofs.Vocabulary.{State, Here, Ways, Node, FineE, FineC, FinePlain, leavable_by, NodeAt, Emits, Fresh}
use Rattle.compiler.proofs.Vocabulary.{Holds, ReadyE, GaveE}
use Rattle.compiler.specs.Commands.{cmd_says, ReadyC, GaveC, ReadyU, GaveU, WhenWord, an_if, an_unless, WhenKind}
use Rattle.compiler.proofs.Done.{did-put, did_then, did_at, did-fresh, same-eq, code_is}
use Rattle.compiler.proofs.Trees.{first, second, ends, size_is, kind-is}
use Rattle.compiler.proofs.Parts.{sub}
use Rattle.compiler.proofs.Anywhere.{with-ways}
use Rattle.compiler.proofs.Forms as F
use Rattle.compiler.proofs.Forms.{Form, form-at}

-- ---- every expression and command ends in its record, so that its start is found

pub record IsClosed (x : List ℕ) : Type 0 where
  pub inner : List ℕ
  pub value : ℕ
  pub place : ℕ
  pub kind : ℕ
  pub is : x ≡ closed inner value place kind

pub closed-start : {s x : List ℕ} {lo end : ℕ} → IsClosed x → Holds s lo x → end ≡ lo + length x
    → (lo ≡ end - 4 - get_or s (end - 4) 0) × (lo + 4 ≤ end)
closed-start {s} {x} {lo} {end} u h e =
    let w = u.inner in let v = u.value in let p = u.place in let k = u.kind in let h' : Holds s lo (closed w v p k) = rw u.is at h in
    let e' : end ≡ lo + length (closed w v p k) = rw (e, u.is) in
    (omega (arith, ends w v p k h' e', size_is w v p k h' e'), omega (arith, ends w v p k h' e'))

unfoldable pub shut : (w : List ℕ) (v p k : ℕ) → IsClosed (closed w v p k)
shut w v p k = record { inner = w; value = v; place = p; kind = k; is = refl }

unfoldable pub expression-closed : (e : Expression) → IsClosed (encode e)
unfolding encode O.encode_name
expression-closed (T.number p v) = shut [] v p 60
expression-closed (T.string p v) = shut [] v p 61
expression-closed (T.name n) = shut [] n.width n.place 59
expression-closed (T.bracketed p e) = shut (encode e) 0 p 51
expression-closed (T.valof p c) = shut (encode_command c) 0 p 7
expression-closed (T.monadic p o e) = shut (encode e) o p 128
expression-closed (T.suffixed e ss) = shut (encode e ++ O.encode_suffixes ss) (length (encode e)) (place_of e) (O.suffixed_kind (ends_in_call false ss))
expression-closed (T.dyadic e os) = shut (encode e ++ O.encode_operations os) (length (encode e)) (place_of e) 131

pub unlabelled-closed : (u : Unlabelled) → FinePlain u → IsClosed (encode_unlabelled u)
unfolding FineUnlabelled encode_unlabelled
unlabelled-closed T.empty f = absurd (f.1 refl)
unlabelled-closed (T.assignment ls rs) f =
    shut (O.encode_sides ls ++ O.encode_expressions rs) (length (O.encode_first ls)) (length (O.encode_sides ls)) 56
unlabelled-closed (T.call_command e) f = expression-closed e
unlabelled-closed (T.test e c d) f = shut (encode e ++ (encode_command c ++ encode_command d)) 0 0 13
unlabelled-closed (T.guarded w e c) f = shut (encode e ++ encode_command c) 0 0 w
unlabelled-closed (T.for n e d k c) f =
    shut (O.encode_name n ++ (encode e ++ (encode d ++ (O.encode_by k ++ encode_command c)))) (length (O.encode_by k)) 0 23
unlabelled-closed (T.switchon e cs) f = shut (encode e ++ O.encode_commands cs) (length (encode e)) 0 26
unlabelled-closed (T.resultis p e) f = shut (encode e) 0 p 8
unlabelled-closed (T.leave w p) f = shut [] 0 p w
unlabelled-closed (T.block ls cs) f = shut (O.encode_locals ls ++ O.encode_commands cs) (length (O.encode_locals ls)) 0 57

pub command-closed : (c : Command) → FineC c → IsClosed (encode_command c)
unfolding FineCommand encode_command O.labelled O.repeated O.encode_labels O.encode_repeats
command-closed (T.command [] u T.no_repeats) f = unlabelled-closed u (f.1, λ z. omega (arith, f.3.labels z))
command-closed (T.command [] u (T.repeat rs)) f = shut (encode_unlabelled u ++ O.encode_repeats (T.repeat rs)) (length (encode_unlabelled u)) 0 133
command-closed (T.command [] u (T.repeat_on w d rs)) f =
    shut (encode_unlabelled u ++ O.encode_repeats (T.repeat_on w d rs)) (length (encode_unlabelled u)) 0 133
command-closed (T.command (T.case p c ∷ ls) u rs) f =
    shut (O.encode_labels (T.case p c ∷ ls) ++ O.repeated (encode_unlabelled u) (O.encode_repeats rs)) (length (O.encode_labels (T.case p c ∷ ls))) 0 132
command-closed (T.command (T.default p ∷ ls) u rs) f =
    shut (O.encode_labels (T.default p ∷ ls) ++ O.repeated (encode_unlabelled u) (O.encode_repeats rs)) (length (O.encode_labels (T.default p ∷ ls))) 0
    132

-- ---- IF and UNLESS

pub record IsGuarded (s : List ℕ) (lo end w : ℕ) (u : Unlabelled) : Type 0 where
  pub test : Expression
  pub body : Command
  pub same : u ≡ T.guarded w test body
  pub lies : Holds s lo (encode test)
  pub lies-body : Holds s (lo + length (encode test)) (encode_command body)
  pub ends : end ≡ lo + length (encode test) + length (encode_command body) + 4

pub kind-of : {s x : List ℕ} {lo end : ℕ} (u : IsClosed x) → Holds s lo x → end ≡ lo + length x → get_or s (end - 1) 0 ≡ u.kind
kind-of u h e = let w = u.inner in let v = u.value in let p = u.place in let k = u.kind in
    kind-is w v p k (rw u.is at h) (rw (e, u.is))

pub guarded-of : {s : List ℕ} {lo end w : ℕ} {e : Expression} {c : Command} → Holds s lo (encode e ++ encode_command c)
    → end ≡ lo + length (encode e ++ encode_command c) + 4 → IsGuarded s lo end w (T.guarded w e c)
guarded-of {lo = lo} {e = e} {c} h q = record {
  test = e;
  body = c;
  same = refl;
  lies = first (encode e) (encode_command c) h;
  lies-body = second (encode e) (encode_command c) (lo + length (encode e)) h refl;
  ends = omega (arith, length-append (encode e) (encode_command c));
}

module _ {s : List ℕ} {end w : ℕ} {here : Here} {st : State} where
  pub guarded-well : (y : ReadyU s end here st) (u : IsGuarded s y.lo end w y.tree)
      → (depth u.test ≤ here.left) × (command_depth u.body ≤ here.left) × FineE u.test × FineC u.body
  unfolding unlabelled_depth FineUnlabelled
  guarded-well y u = let e = ap unlabelled_depth u.same in let f = (subst FinePlain u.same y.fine).0 in (omega arith, omega arith, f.0, f.1)

  pub guarded-middle : (n b : Node) → NodeAt s end n → NodeAt s n.inner b → (y : ReadyU s end here st) (u : IsGuarded s y.lo end w y.tree)
      → b.start ≡ y.lo + length (encode u.test)
  guarded-middle n b nd bd y u =
      bd.start ∙ sym (closed-start {end = n.inner} (command-closed u.body (guarded-well y u).3) u.lies-body (omega arith)).0

is-guarded : {s : List ℕ} {lo end w : ℕ} {u : Unlabelled} → WhenWord w → Form s lo end w u → IsGuarded s lo end w u
is-guarded an_if (F.an_if h q) = guarded-of h q
is-guarded an_unless (F.an_unless h q) = guarded-of h q

when-says : (text : List ℕ) (sc : Scope) (l : Leavable) (h : ℕ) {w : ℕ} → WhenWord w → (e : Expression) (c : Command)
    → (unlabelled text sc h (T.guarded w e c) ≡ R.when (eqb w 16) (expression text sc h e) (command text sc h c))
    × (in_unlabelled text sc l h (T.guarded w e c) ≡ in_expression text sc l h e ++ in_command text sc l h c)
unfolding unlabelled in_unlabelled
when-says text sc l h an_if e c = (refl, refl)
when-says text sc l h an_unless e c = (refl, refl)

module _ {s : List ℕ} {end : ℕ} {here : Here} {st : State} (n b : Node) (nd : NodeAt s end n) (bd : NodeAt s n.inner b)
    (w : WhenWord (get_or s (end - 1) 0)) where
  pub guard-is : (y : ReadyU s end here st) → IsGuarded s y.lo end (get_or s (end - 1) 0) y.tree
  guard-is y = is-guarded w (form-at n nd nd.kind y)

  abbrev pub guard_test : {a : State} → Fresh 1 st a → ReadyU s end here st → ReadyE s b.start here a
  guard_test e y = let u = guard-is y in let w = guarded-well y u in
      sub y keeps-all u.lies refl (omega (arith, guarded-middle n b nd bd y u, w.0)) w.2

  module _ (text : List ℕ) {s₁ t t₁ t₂ : List ℕ} {a c d : State} {j : ℕ} (e : Fresh 1 st a) (g : GaveE text s s₁ b.start here t t₁ a c)
      (f : Emits (G.to j st.label ∷ []) [] t₁ t₂ c d) where
    abbrev pub guard-body : ReadyU s end here st → ReadyC s₁ n.inner here d
    guard-body y = let u = guard-is y in let x = g.by (guard_test e y) in let w = guarded-well y u in
        sub y x.keeps u.lies-body refl (omega (arith, w.1)) w.3

    pub guard-gave : (ways : Ways) {s₂ t₃ t₄ : List ℕ} {k r : State} → j ≡ cond (eqb n.kind 16) 5 4
        → GaveC text s₁ s₂ n.inner here ways t₂ t₃ d k → Emits (I.label st.label ∷ []) [] t₃ t₄ k r → GaveU text s s₂ end here ways t t₄ st r
    unfolding G.cmd_code of_cmd G.cmd_labels
    guard-gave ways {s₂} {t₃} {t₄} {k} {r} ej g₂ f₂ = record {
      by = λ y. let u = guard-is y in let x = g.by (guard_test e y) in let z = g₂.by (guard-body y) in let sc = y.scope in let h = here.height in
          let W = get_or s (end - 1) 0 in let lv = leavable_by ways here in let says = when-says text sc lv h w u.test u.body in
          let em = ap (unlabelled text sc h) u.same ∙ says.0 in let ef = ap (in_unlabelled text sc lv h) u.same ∙ says.1 in
          let jj : j ≡ cond (eqb W 16) 5 4 = rw (ej, nd.kind) in
          record {
            keeps = keeps_then x.keeps z.keeps;
            did = did_at (cmd_says here ways (unlabelled text sc h y.tree)) _
                (did-fresh e (did-put (did_then (did-put (with-ways text sc here ways h u.test x.did) f) z.did) f₂)) (same-eq (sym ef))
                (λ v. code_is (simp (append_assoc, jj, em)) (ap (of_cmd h) (sym em)) (omega (arith, ap G.cmd_labels em))) (omega arith);
          };
    }

when-if : {s : List ℕ} {end : ℕ} (n : Node) → NodeAt s end n → n.kind ≡ 16 → WhenKind s end
when-if n nd q = record { word = subst WhenWord (sym q ∙ nd.kind) an_if }

when-unless : {s : List ℕ} {end : ℕ} (n : Node) → NodeAt s end n → n.kind ≡ 17 → WhenKind s end
when-unless n nd q = record { word = subst WhenWord (sym q ∙ nd.kind) an_unless }

pub when-guards : {s : List ℕ} {end : ℕ} (n : Node) → NodeAt s end n → 16 ≤ n.kind → n.kind < 18 → WhenKind s end
when-guards n nd a b = by_equal n.kind 16 (λ e. when-if n nd e) (λ e. when-unless n nd (omega arith))
