-- What each form of command needs of its parts, and gives.
use Rattle.laws.proofs.Basics.{ℕ, ◌+◌, ◌-◌, ◌*◌, ◌<◌, ◌≤◌, ◌≡◌, refl, ap, subst, List, [], ◌∷◌, ◌++◌, append-nil, length, get_or, arith, ne_eqb}
use Rattle.items.specs.Item as I
use Rattle.language.specs.Tree as T
use Rattle.compiler.proofs.Language.{Expression, Command, Unlabelled, depth, command_depth, unlabelled_depth, Scope, opened, declared, fault}
use Rattle.compiler.proofs.Language.{expression, command, unlabelled, of_expr, of_cmd, unless, in_expression, in_unlabelled, encode, Fine}
use Rattle.compiler.proofs.Language.{FineUnlabelled}
use Rattle.language.specs.Names as N
use Rattle.code.specs.Generate as G
use Rattle.language.specs.Faults as Y
use Rattle.compiler.proofs.Vocabulary.{Keeps, Shows, Pushed, PushedName, code, name_at, State, Here, Ways, Node, FineE, FineC, FinePlain}
use Rattle.compiler.proofs.Vocabulary.{inside, in_valof, leavable, leavable_by, NodeAt, Emits, Fresh, LeavesTo, Holds, ReadyE, GaveE, ReadyC}
use Rattle.compiler.proofs.Vocabulary.{GaveC, ReadyU, GaveU}
use Rattle.compiler.proofs.Common.{keeps-all, keeps_then, keeps-lower, keeps-name, pushed-keeps, pushed-mark, pushed-name, did-put, did_then}
use Rattle.compiler.proofs.Common.{did-as, did_at, did-fresh, same-eq, same-swap, same_then, code_is, find, is-valof, sub, with-ways}
use Rattle.compiler.proofs.Forms as F
use Rattle.compiler.proofs.Forms.{Form, form-at, same-long}

-- ---- VALOF

pub leaves-valof : (here : Here) {n : ℕ} → 0 < n → leavable_by (in_valof n) (inside here) ≡ Y.in_valof (leavable here)
leaves-valof here {n} h = rw (ne_eqb n 0 (λ e. omega arith))

module _ {s : List ℕ} {end : ℕ} {here : Here} {st : State} (n : Node) (nd : NodeAt s end n) (q : n.kind ≡ 7) where
  pub valof-fits : (y : ReadyE s end here st) {p : ℕ} {c : Command} → y.tree ≡ T.valof p c → (command_depth c + 1 ≤ here.left) × FineC c
  unfolding depth Fine
  valof-fits y h = (omega (arith, ap depth h), subst FineE h y.fine)

  abbrev pub valof-part : {a : State} → Fresh 1 st a → ReadyE s end here st → ReadyC s n.inner (inside here) a
  valof-part e y = let u = is-valof (find n nd q y) in let f = valof-fits y u.same in sub y keeps-all u.lies refl (omega (arith, f.0)) f.1

  pub valof-gave : (text : List ℕ) {s₁ t t₁ t₂ : List ℕ} {a b c : State} → Fresh 1 st a
      → GaveC text s s₁ n.inner (inside here) (in_valof st.label) t t₁ a b → Emits (I.label st.label ∷ []) [] t₁ t₂ b c
      → GaveE text s s₁ end here t t₂ st c
  unfolding in_expression expression G.expr_code of_expr G.expr_labels
  valof-gave text {s₁} {t} {t₁} {t₂} {a} {b} {c} e g f = record {
    by = λ y. let u = is-valof (find n nd q y) in let x = g.by (valof-part e y) in let sc = y.scope in let h = here.height in
        let C = command text sc h u.part in
        let l : leavable_by (in_valof st.label) (inside here) ≡ Y.in_valof (leavable here) = leaves-valof here y.some in
        rw u.same (record {
          keeps = x.keeps;
          did = did_at _ _ (did-put (did-fresh e x.did) f) (same-eq (rw l))
              (λ v. code_is (ap (λ (m : ℕ). G.cmd_code here.strings h m (G.in_valof st.label) C ++ (I.label st.label ∷ [])) (omega arith)) refl
              (omega arith)) (omega (arith, ap (λ (d : Expression). length (encode d)) u.same));
        });
  }

-- ---- RESULTIS

pub record IsResult (s : List ℕ) (lo end : ℕ) (u : Unlabelled) : Type 0 where
  pub place : ℕ
  pub part : Expression
  pub same : u ≡ T.resultis place part
  pub place-of : get_or s (end - 2) 0 ≡ place
  pub lies : Holds s lo (encode part)
  pub ends : end ≡ lo + length (encode part) + 4

is-resultis : {s : List ℕ} {lo end : ℕ} {u : Unlabelled} → Form s lo end 8 u → IsResult s lo end u
is-resultis (F.a_result {p} {e} x h q) = record { place = p; part = e; same = refl; place-of = x; lies = h; ends = q }

module _ {s : List ℕ} {end : ℕ} {here : Here} {st : State} (n : Node) (nd : NodeAt s end n) (q : n.kind ≡ 8) where
  pub result-is : (y : ReadyU s end here st) → IsResult s y.lo end y.tree
  result-is y = is-resultis (form-at n nd q y)

  pub result_fits : (y : ReadyU s end here st) → (depth (result-is y).part ≤ here.left) × FineE (result-is y).part
  unfolding FineUnlabelled unlabelled_depth
  result_fits y = let u = result-is y in (omega (arith, ap unlabelled_depth u.same), (subst FinePlain u.same y.fine).0)

  abbrev pub result-part : ReadyU s end here st → ReadyE s n.inner here st
  result-part y = let u = result-is y in sub y keeps-all u.lies refl (omega (arith, (result_fits y).0)) (result_fits y).1

  pub result-gave : (text : List ℕ) (ways : Ways) {s₁ t t₁ t₂ : List ℕ} {a b : State} → GaveE text s s₁ n.inner here t t₁ st a
      → LeavesTo ways.result n.place t₁ t₂ a b → GaveU text s s₁ end here ways t t₂ st b
  unfolding in_unlabelled unlabelled G.cmd_code of_cmd G.cmd_labels
  result-gave text ways {s₁} {t} {t₁} {t₂} {a} {b} g f = record {
    by = λ y. let u = result-is y in let x = g.by (result-part y) in let sc = y.scope in let h = here.height in
        let E = expression text sc h u.part in
        rw u.same (record {
          keeps = x.keeps;
          did = did-as _ _ (did_then (with-ways text sc here ways h u.part x.did) f.did)
              (same_then (same-swap (in_expression text sc (leavable_by ways here) h u.part) (unless (leavable_by ways here).valof
              (fault n.place 13))) (same-eq (cc))) (λ m v. code_is refl (append-nil (of_expr h E)) (omega arith))
              (omega (arith, same-long u.same));
        });
  }

-- another name of the same place
pub gave-c-at : (text : List ℕ) {s s' t t' : List ℕ} {end : ℕ} {d d' : Here} {w w' : Ways} {st r : State} → d' ≡ d → w' ≡ w
    → GaveC text s s' end d' w' t t' st r → GaveC text s s' end d w t t' st r
gave-c-at text {s} {s'} {t} {t'} {end} {d} {w' = w'} {st} {r} e q g = rw q at (rw e at g)

pub gave-u-at : (text : List ℕ) {s s' t t' : List ℕ} {end : ℕ} {d d' : Here} {w w' : Ways} {st r : State} → d' ≡ d → w' ≡ w
    → GaveU text s s' end d' w' t t' st r → GaveU text s s' end d w t t' st r
gave-u-at text {s} {s'} {t} {t'} {end} {d} {w' = w'} {st} {r} e q g = rw q at (rw e at g)

-- ---- a name in a block of its own, as FOR's: a mark and a name are pushed, and what the body does keeps what stood below

module _ (h : ℕ) {s s₁ s₂ : List ℕ} {base top leaf m : ℕ} {sc : Scope} (sh : Shows s top sc) (long : base ≤ length s) (room : top + 4 ≤ base)
    (inside-tree : base ≤ leaf) (p : Pushed s s₁ top 0 0) (q : PushedName s₁ s₂ (top + 2) leaf m) (e : m ≡ h * 4 + 1) where
  pub named-block-keeps : Keeps base top s s₂
  named-block-keeps = keeps_then (pushed-keeps p (omega arith) long)
      (keeps-lower (omega arith) (pushed-keeps q.pushed (omega arith) (omega (arith, (pushed-keeps p (omega arith) long).long))))

  pub named-block-shows : Shows s₂ (top + 4) (declared (opened sc) (name_at s leaf) (N.local h))
  unfolding code
  named-block-shows =
      let k = pushed-keeps p (omega arith) long in let l : base ≤ length s₁ = omega arith in let a : top + 2 + 2 ≡ top + 4 = omega arith in
      let x = pushed-name q (omega arith) l (N.local h) (pushed-mark p (omega arith) long sh refl) e tt in let n : name_at s₁ leaf ≡ name_at s leaf
      = keeps-name k inside-tree in
      rw a at (rw n at x)
