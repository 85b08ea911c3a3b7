-- A function's body: a value, from which nothing is left, or a routine, which only RETURN leaves.
use Rattle.laws.proofs.Basics.{ℕ, ◌≡◌, refl, sym, ap, subst, ◌∙◌, List, Bool, true, false, not, length, arith, eq-eqb, ne_eqb}
use Rattle.language.specs.Kinds as K
use Rattle.language.specs.Tree as T
use Rattle.compiler.proofs.Language.{in_expression, body_depth, encode, encode_command, encode_body, body_word}
use Rattle.language.specs.Program.{body_faults}
use Rattle.code.specs.Generate as G
use Rattle.compiler.proofs.Vocabulary.{Result, ReadyE, GaveE, State, Here, Ways, ReadyC, GaveC, FineB, body_says, ReadyBody, GaveBody}
use Rattle.compiler.proofs.Common.{keeps-all, sub}

abbrev pub nowhere : Ways
nowhere = record { after = 0; next = 0; done = 0; result = 0 }

pub value-is : (b : T.Body) → body_word b ≡ K.EQUAL → (e : T.Expression) × (b ≡ T.value e)
unfolding body_word
value-is (T.value e) q = (e, refl)
value-is (T.routine c) q = absurd (omega arith)

pub routine_is : (b : T.Body) → (body_word b ≡ K.EQUAL → ⊥) → (c : T.Command) × (b ≡ T.routine c)
unfolding body_word
routine_is (T.value e) q = absurd (q refl)
routine_is (T.routine c) q = (c, refl)

module _ {s : List ℕ} {end word : ℕ} {x : Here} {st : State} where
  abbrev pub ready-value : word ≡ K.EQUAL → ReadyBody s end x st word → ReadyE s end x st
  unfolding encode_body body_depth
  ready-value e y = let z = y.ready in let v = value-is z.tree (sym y.word_is ∙ e) in
      let q : encode_body z.tree ≡ encode v.0 = ap encode_body v.1 in
      sub z keeps-all (rw q at z.lies) refl (omega (arith, ap length q, ap body_depth v.1)) (subst FineB v.1 z.fine)

  abbrev pub ready-routine : (word ≡ K.EQUAL → ⊥) → ReadyBody s end x st word → ReadyC s end x st
  unfolding encode_body body_depth
  ready-routine e y = let z = y.ready in let v = routine_is z.tree (λ k. e (y.word_is ∙ k)) in
      let q : encode_body z.tree ≡ encode_command v.0 = ap encode_body v.1 in
      sub z keeps-all (rw q at z.lies) refl (omega (arith, ap length q, ap body_depth v.1)) (subst FineB v.1 z.fine)

  abbrev Gives : ReadyBody s end x st word → (text s' t t' : List ℕ) (r : State) → T.Body → Type 0
  Gives y text s' t t' r b = let z = y.ready in
      Result (body_faults text z.scope x.height b) (body_says text x z.scope b) (length (encode_body b)) z.base x s s' t t' st r

  module _ {text s' t t' : List ℕ} {r : State} where
    pub gave-value : word ≡ K.EQUAL → GaveE text s s' end x t t' st r → GaveBody text s s' end word x t t' st r
    unfolding encode_body G.body_code G.body_labels ready-value
    gave-value e g = record {
      by = λ y. let z = y.ready in let v = value-is z.tree (sym y.word_is ∙ e) in
          let out : x.routine ≡ false = y.routine_is ∙ ap not (eq-eqb word K.EQUAL e) in
          subst (Gives y text s' t t' r) (sym v.1)
          (subst (λ (k : Bool). Result (in_expression text z.scope (record { loop = false; switch = false; valof = false; routine = k }) x.height v.0) (body_says text x z.scope (T.value v.0)) (length (encode v.0)) z.base x s s' t t' st r)
          out (g.by (ready-value e y)));
    }

    pub gave-routine : (word ≡ K.EQUAL → ⊥) → GaveC text s s' end x nowhere t t' st r → GaveBody text s s' end word x t t' st r
    unfolding encode_body G.body_code G.body_labels ready-routine
    gave-routine e g = record {
      by = λ y. let z = y.ready in let v = routine_is z.tree (λ k. e (y.word_is ∙ k)) in let out : x.routine ≡ true = y.routine_is ∙ ap not
          (ne_eqb word K.EQUAL e) in
          subst (Gives y text s' t t' r) (sym v.1) (rw (← out) (g.by (ready-routine e y)));
    }
