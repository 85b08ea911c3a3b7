-- BREAK, LOOP, ENDCASE, RETURN and FINISH: a jump or an act, or 13 where there is nothing to leave. And a call as a command.
use Rattle.laws.proofs.Basics.{ℕ, ◌+◌, ◌-◌, ◌≤◌, ◌≡◌, refl, ap, subst, ◌∙◌, List, [], ◌∷◌, true, false, length, get_or, arith, eq-eqb, ne_eqb}
use Rattle.language.specs.Kinds as K
use Rattle.language.specs.Tree as T
use Rattle.compiler.proofs.Language.{Expression, Unlabelled, depth, unlabelled_depth, unlabelled, FineUnlabelled, in_unlabelled, of_cmd, encode}
use Rattle.tree.specs.Encoding as O
use Rattle.code.specs.Generate as G
use Rattle.compiler.proofs.Vocabulary.{State, Here, Ways, Node, FineE, FinePlain, NodeAt, Emits, Faulted, LeavesTo, Holds, ReadyE, GaveE}
use Rattle.compiler.proofs.Vocabulary.{ReadyU, GaveU, GoesAway}
use Rattle.compiler.proofs.Common.{keeps-all, emits-did, did-as, same_refl, sub, with-ways}
use Rattle.compiler.proofs.Forms as F
use Rattle.compiler.proofs.Forms.{Form, form-at, same-long}

module _ {here : Here} {ways : Ways} {word place : ℕ} {t : List ℕ} {st r : State} where
  module _ {t' : List ℕ} where
    at-word : {k : ℕ} → word ≡ k → GoesAway here ways k place t t' st r → GoesAway here ways word place t t' st r
    at-word q g = rw q g

    pub away-break : word ≡ K.BREAK → LeavesTo ways.after place t t' st r → GoesAway here ways word place t t' st r
    unfolding G.cmd_code of_cmd G.cmd_labels
    away-break q f = at-word q (record { did = f.did })

    pub away-endcase : word ≡ K.ENDCASE → LeavesTo ways.done place t t' st r → GoesAway here ways word place t t' st r
    unfolding G.cmd_code of_cmd G.cmd_labels
    away-endcase q f = at-word q (record { did = f.did })

    pub away-loop : word ≡ K.LOOP → (ways.after ≡ 0 → ⊥) → Emits (G.JL ways.next ∷ []) [] t t' st r → GoesAway here ways word place t t' st r
    unfolding G.cmd_code of_cmd G.cmd_labels
    away-loop q e f = at-word q (record { did = rw (ne_eqb ways.after 0 e) (emits-did _ f (λ n. refl)) })

    pub away-return : word ≡ K.RETURN → here.routine ≡ true → Emits (G.X 4 ∷ []) [] t t' st r → GoesAway here ways word place t t' st r
    unfolding G.cmd_code of_cmd G.cmd_labels
    away-return q e f = at-word q (record { did = rw e (emits-did _ f (λ n. refl)) })

    pub away-finish : (word ≡ K.BREAK → ⊥) → (word ≡ K.LOOP → ⊥) → (word ≡ K.ENDCASE → ⊥) → (word ≡ K.RETURN → ⊥) → Emits (G.X 22 ∷ []) [] t t' st r
        → GoesAway here ways word place t t' st r
    unfolding G.cmd_code of_cmd G.cmd_labels
    away-finish a b c d f =
        record { did = rw (ne_eqb word K.BREAK a, ne_eqb word K.LOOP b, ne_eqb word K.ENDCASE c, ne_eqb word K.RETURN d) (emits-did _ f (λ n. refl)) }

  pub away-nowhere : word ≡ K.LOOP → ways.after ≡ 0 → Faulted place 13 st r → GoesAway here ways word place t t st r
  away-nowhere q e f = at-word q (record { did = rw (eq-eqb ways.after 0 e) (f.by _ t) })

  pub away-no-routine : word ≡ K.RETURN → here.routine ≡ false → Faulted place 13 st r → GoesAway here ways word place t t st r
  away-no-routine q e f = at-word q (record { did = rw e (f.by _ t) })

-- ---- the commands themselves

abbrev IsLeave : (s : List ℕ) (end w : ℕ) → Unlabelled → Type 0
IsLeave s end w u = (p : ℕ) × (u ≡ T.leave w p) × (get_or s (end - 2) 0 ≡ p)

-- what is nothing else leaves
is-leave : {s : List ℕ} {lo end k : ℕ} {u : Unlabelled} → Form s lo end k u → (k ≡ K.RESULTIS → ⊥) → (k ≡ K.IF → ⊥) → (k ≡ K.UNLESS → ⊥)
    → (k ≡ K.BEGIN → ⊥) → (k ≡ K.ASSIGN → ⊥) → (k ≡ K.TEST → ⊥) → (k ≡ K.WHILE → ⊥) → (k ≡ K.UNTIL → ⊥)
    → (k ≡ K.FOR → ⊥) → (k ≡ K.SWITCHON → ⊥) → (k ≡ O.CALLED → ⊥) → IsLeave s end k u
is-leave (F.an_assignment p q r t u) a b c d e f g h i j l = absurd (e refl)
is-leave (F.a_call p q r) a b c d e f g h i j l = absurd (l refl)
is-leave (F.a_test p q) a b c d e f g h i j l = absurd (f refl)
is-leave (F.an_if p q) a b c d e f g h i j l = absurd (b refl)
is-leave (F.an_unless p q) a b c d e f g h i j l = absurd (c refl)
is-leave (F.a_while p q) a b c d e f g h i j l = absurd (g refl)
is-leave (F.an_until p q) a b c d e f g h i j l = absurd (h refl)
is-leave (F.a_for p q r) a b c d e f g h i j l = absurd (i refl)
is-leave (F.a_switch p) a b c d e f g h i j l = absurd (j refl)
is-leave (F.a_result p q r) a b c d e f g h i j l = absurd (a refl)
is-leave (F.a_block p) a b c d e f g h i j l = absurd (d refl)
is-leave (F.an_endcase {p} x) a b c d e f g h i j l = (p, refl, x)
is-leave (F.a_break {p} x) a b c d e f g h i j l = (p, refl, x)
is-leave (F.a_loop {p} x) a b c d e f g h i j l = (p, refl, x)
is-leave (F.a_return {p} x) a b c d e f g h i j l = (p, refl, x)
is-leave (F.a_finish {p} x) a b c d e f g h i j l = (p, refl, x)

pub away-gave : (text : List ℕ) (ways : Ways) {s t t' : List ℕ} {end : ℕ} {here : Here} {st r : State} (n : Node) → NodeAt s end n
    → (n.kind ≡ K.RESULTIS → ⊥) → (n.kind ≡ K.IF → ⊥) → (n.kind ≡ K.UNLESS → ⊥) → (n.kind ≡ K.BEGIN → ⊥) → (n.kind ≡ K.ASSIGN → ⊥)
    → (n.kind ≡ K.TEST → ⊥) → (n.kind ≡ K.WHILE → ⊥) → (n.kind ≡ K.UNTIL → ⊥) → (n.kind ≡ K.FOR → ⊥) → (n.kind ≡ K.SWITCHON → ⊥)
    → (n.kind ≡ O.CALLED → ⊥) → GoesAway here ways n.kind n.place t t' st r → GaveU text s s end here ways t t' st r
unfolding in_unlabelled unlabelled
away-gave text ways {s} {t} {t'} {end} {here} {st} {r} n nd a b c d e f g h i j l x = record {
  by = λ y. let u = is-leave (form-at n nd refl y) a b c d e f g h i j l in let sc = y.scope in
      rw u.1 (record { keeps = keeps-all; did = did-as _ _ (rw (nd.place ∙ u.2) at x).did same_refl (λ k v. refl) (omega arith) });
}

-- ---- a call

pub record IsCall (s : List ℕ) (lo end : ℕ) (u : Unlabelled) : Type 0 where
  pub part : Expression
  pub same : u ≡ T.call_command part
  pub lies : Holds s lo (encode part)
  pub ends : end ≡ lo + length (encode part)

is_call : {s : List ℕ} {lo end : ℕ} {u : Unlabelled} → Form s lo end O.CALLED u → IsCall s lo end u
is_call (F.a_call {e} h q c) = record { part = e; same = refl; lies = h; ends = q }

module _ {s : List ℕ} {end : ℕ} {here : Here} {st : State} (n : Node) (nd : NodeAt s end n) (q : n.kind ≡ O.CALLED) where
  pub call-is : (y : ReadyU s end here st) → IsCall s y.lo end y.tree
  call-is y = is_call (form-at n nd q y)

  pub call_fits : (y : ReadyU s end here st) → (depth (call-is y).part ≤ here.left) × FineE (call-is y).part
  unfolding FineUnlabelled unlabelled_depth
  call_fits y = let u = call-is y in (omega (arith, ap unlabelled_depth u.same), (subst FinePlain u.same y.fine).0.0)

  abbrev pub performed-part : ReadyU s end here st → ReadyE s end here st
  performed-part y = let u = call-is y in sub y keeps-all u.lies refl (omega (arith, (call_fits y).0)) (call_fits y).1

  pub performed-gave : (text : List ℕ) (ways : Ways) {s₁ t t₁ : List ℕ} {r : State} → GaveE text s s₁ end here t t₁ st r
      → GaveU text s s₁ end here ways t t₁ st r
  unfolding in_unlabelled unlabelled G.cmd_code of_cmd G.cmd_labels
  performed-gave text ways g = record {
    by = λ y. let u = call-is y in let x = g.by (performed-part y) in rw u.same (record {
      keeps = x.keeps;
      did = did-as _ _ (with-ways text y.scope here ways here.height u.part x.did) same_refl (λ k v. refl)
          (omega (arith, same-long u.same));
    });
  }
