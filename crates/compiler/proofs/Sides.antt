-- Monadic operators, what @ may take, and left sides.
use Rattle.laws.proofs.Basics.{ℕ, ◌+◌, ◌-◌, ◌*◌, ◌%◌, ◌<◌, ◌≤◌, ◌≡◌, refl, sym, ap, subst, ◌∙◌, List, [], ◌∷◌, ◌++◌, append_assoc, append-nil}
use Rattle.laws.proofs.Basics.{Bool, true, false, cond, length, get_or, length-append, eqb, ltb, arith, ne_eqb, ltb-true, ltb-false}
use Rattle.laws.proofs.Cases.{by_cases, contradiction}
use Rattle.items.specs.Item as I
use Rattle.language.specs.Tree as T
use Rattle.compiler.proofs.Language.{Expression, Expressions, Suffixes, Operations, place_of, ends_in_call, depth, Scope, lookup, on_found}
use Rattle.compiler.proofs.Language.{Fault, fault, Expr, expression, expressions, suffixes, operations, of_meaning, Side, side, no_side}
use Rattle.compiler.proofs.Language.{side_of, target_of, address_of, resolved_monadic, under, of_expr, of_target, unless_side, in_expression}
use Rattle.compiler.proofs.Language.{in_suffixes, encode, encode_suffixes, Fine}
use Rattle.language.specs.Names as N
use Rattle.language.specs.Resolved as R
use Rattle.code.specs.Generate as G
use Rattle.code.specs.Generate.{expr_code, expr_labels, monadic_act}
use Rattle.tree.specs.Encoding as O
use Rattle.compiler.proofs.Vocabulary.{code, found, name_at, Looked, State, Here, Node, FineE, inside, raised, leavable, NodeAt, Code, Did}
use Rattle.compiler.proofs.Vocabulary.{Emits, Faulted, Holds, Result, ReadyE, GaveE, ReadySuffixes, GaveSuffixes}
use Rattle.compiler.proofs.Scoping.{keeps-all, keeps_then, code-not}
use Rattle.compiler.specs.Commands.{expr_says, target_says, GaveMonadic, GaveAddress, GaveAddressIndex, GaveSide, GaveSideIndex, IndexKind}
use Rattle.compiler.specs.Commands.{GaveRefused, AddressOf, StoreTo}
use Rattle.compiler.proofs.Done.{emits-did, did-emit, did-put, did_after, did_then, did-as, same_refl, same-eq, code_is, nil-right}
use Rattle.compiler.proofs.Trees.{IsTwo, Case, a_monadic, find, is-bracket, is_name, value-is, place_is}
use Rattle.compiler.proofs.Parts.{sub}
use Rattle.compiler.proofs.Expressions.{more, so as same-tree, bracket-part}
use Rattle.compiler.proofs.Calls.{IsLast, index-faults, index-means, Last, a_call, an_index, last, snoc, is-index, the_last, no-suffix}
use Rattle.compiler.proofs.Calls.{last-read, index-left, index-right, applied-lies, applied-ends, suffixed-is, suffixed-part}
use Rattle.compiler.proofs.Calls.{suffixed-middle, with-state}
use Rattle.compiler.proofs.Guards.{IsClosed, expression-closed, kind-of, shut}

-- ---- places and values of records

pub place-of : {s x : List ℕ} {lo end : ℕ} (u : IsClosed x) → Holds s lo x → end ≡ lo + length x → get_or s (end - 2) 0 ≡ u.place
place-of u h e = let w = u.inner in let v = u.value in let p = u.place in let k = u.kind in
    place_is w v p k (rw u.is at h) (rw (e, u.is))

pub value_of : {s x : List ℕ} {lo end : ℕ} (u : IsClosed x) → Holds s lo x → end ≡ lo + length x → get_or s (end - 3) 0 ≡ u.value
value_of u h e = let w = u.inner in let v = u.value in let p = u.place in let k = u.kind in
    value-is w v p k (rw u.is at h) (rw (e, u.is))

pub place-closed : (e : Expression) → (expression-closed e).place ≡ place_of e
unfolding expression-closed place_of shut
place-closed (T.number p v) = refl
place-closed (T.string p v) = refl
place-closed (T.name n) = refl
place-closed (T.bracketed p e) = refl
place-closed (T.valof p c) = refl
place-closed (T.monadic p o e) = refl
place-closed (T.suffixed e ss) = refl
place-closed (T.dyadic e os) = refl

-- ---- monadic operators

pub record IsMonadic (s : List ℕ) (lo end : ℕ) (e : Expression) : Type 0 where
  pub place : ℕ
  pub operator : ℕ
  pub part : Expression
  pub same : e ≡ T.monadic place operator part
  pub value_of : get_or s (end - 3) 0 ≡ operator
  pub lies : Holds s lo (encode part)
  pub ends : end ≡ lo + length (encode part) + 4

pub is-monadic : {s : List ℕ} {lo end : ℕ} {e : Expression} → Case s lo end 128 e → IsMonadic s lo end e
is-monadic (a_monadic {p} {o} {e} v h q) = record { place = p; operator = o; part = e; same = refl; value_of = v; lies = h; ends = q }

module _ {s : List ℕ} {end : ℕ} {here : Here} {st : State} (n : Node) (nd : NodeAt s end n) (q : n.kind ≡ 128) where
  pub monadic-is : (y : ReadyE s end here st) → IsMonadic s y.lo end y.tree
  monadic-is y = is-monadic (find n nd q y)

  pub monadic-well : (y : ReadyE s end here st) → (depth (monadic-is y).part + 1 ≤ here.left) × FineE (monadic-is y).part
  unfolding depth Fine
  monadic-well y = (omega (arith, ap depth (monadic-is y).same), subst FineE (monadic-is y).same y.fine)

  abbrev pub monadic-part : ReadyE s end here st → ReadyE s n.inner (inside here) st
  monadic-part y = let u = monadic-is y in let w = monadic-well y in sub y keeps-all u.lies refl (omega arith) w.1

  pub monadic-gave : (text : List ℕ) {s' t t' : List ℕ} {r : State} → GaveMonadic text s s' n.value n.inner (inside here) t t' st r
      → GaveE text s s' end here t t' st r
  unfolding in_expression expression
  monadic-gave text {s'} {t} {t'} {r} g = record {
    by = λ y. let u = monadic-is y in let x = g.by (monadic-part y) in let sc = y.scope in let h = here.height in
        same-tree text here sc u.same (record {
          keeps = x.keeps;
          did = more _ (subst (λ (o : ℕ). Did (in_expression text sc (leavable here) h u.part ++ cond (eqb o 50) (unless_side (place_of u.part)
              (side_of (expression text sc h u.part))) []) (expr_says here (resolved_monadic o (expression text sc h u.part))) (2 * length (encode
              u.part)) t t' st r) (nd.value ∙ u.value_of) x.did) (omega arith);
        });
  }

module _ (text : List ℕ) {s s₁ t t₂ : List ℕ} {o end : ℕ} {here : Here} {st r : State} where
  so : {k : ℕ} → o ≡ k → GaveMonadic text s s₁ k end here t t₂ st r → GaveMonadic text s s₁ o end here t t₂ st r
  so e g = rw e g

  pub monadic-address : (n : Node) → NodeAt s end n → o ≡ 50 → GaveAddress text s s₁ end n.place here t t₂ st r
      → GaveMonadic text s s₁ o end here t t₂ st r
  monadic-address n nd e g = so e (record {
    by = λ y. let x = g.by y in record {
      keeps = x.keeps;
      did = rw (nd.place ∙ place-of (expression-closed y.tree) y.lies y.ends ∙ place-closed y.tree) at x.did;
    };
  })

-- !, - and NOT: the act of each
pub monadic-acts : (l k : ℕ) → eqb l 50 ≡ false → ((x : Here) (E : Expr) (n : ℕ) → expr_says x (resolved_monadic l E) n
    ≡ record { items = expr_code x.strings x.height n E ++ (G.X k ∷ []); heights = of_expr x.height E; labels = expr_labels E })
    → (text : List ℕ) {s s₁ t t₁ t₂ : List ℕ} {o end : ℕ} {here : Here} {st a r : State} → o ≡ l → GaveE text s s₁ end here t t₁ st a
    → Emits (G.X k ∷ []) [] t₁ t₂ a r → GaveMonadic text s s₁ o end here t t₂ st r
monadic-acts l k nt acts text {here = here} e g f = so text e (record {
  by = λ y. let x = g.by y in let E = expression text y.scope here.height y.tree in record {
    keeps = x.keeps;
    did = did-as _ _ (did-put x.did f) (same-eq (sym (append-nil _) ∙ rw nt)) (λ n v. sym (acts here E n)) (omega arith);
  };
})

pub monadic-other : (text : List ℕ) {s s₁ t t₁ : List ℕ} {o end : ℕ} {here : Here} {st r : State} → (o ≡ 50 → ⊥) → (o ≡ 49 → ⊥) → (o ≡ 36 → ⊥)
    → (o ≡ 11 → ⊥) → GaveE text s s₁ end here t t₁ st r → GaveMonadic text s s₁ o end here t t₁ st r
unfolding expr_code of_expr expr_labels monadic_act
monadic-other text {s} {s₁} {t} {t₁} {o} {end} {here} {st} {r} n1 n2 n3 n4 g = record {
  by = λ y. let x = g.by y in let sc = y.scope in let h = here.height in let E = expression text sc h y.tree in
      let em : resolved_monadic o E ≡ R.unary o E = rw (ne_eqb o 49 n2, ne_eqb o 50 n1) in
      let ea : monadic_act o ≡ [] = rw (ne_eqb o 36 n3, ne_eqb o 11 n4) in
      let ef : cond (eqb o 50) (unless_side (place_of y.tree) (side_of E)) [] ≡ [] = rw (ne_eqb o 50 n1) in
      record {
        keeps = x.keeps;
        did = did-as (expr_says here (resolved_monadic o E)) _ x.did (same-eq (simp (append-nil, ef))) (λ n v. code_is (simp (append-nil, ea, em))
            (ap (of_expr h) (sym em)) (ap expr_labels (sym em))) (omega arith);
      };
}

-- ---- what a name means, as a side

abbrev pub Of : (say : Here → Side → ℕ → Code) (name place m : ℕ) (t t' : List ℕ) (st r : State) → Type 0
Of say name place m t t' st r = (x : Here) (f : N.Found) → m ≡ found f → Did (on_found f (fault name 8) [] ++ unless_side place (side_of (of_meaning f)))
    (say x (side_of (of_meaning f))) 0 t t' st r

module _ (say : Here → Side → ℕ → Code) (i : ℕ → I.Item) where
  pub of-local : ((x : Here) (k n : ℕ) → say x (side (R.to_local k)) n ≡ record { items = i k ∷ []; heights = []; labels = 0 }) → (name place : ℕ)
      {j : ℕ} {t t' : List ℕ} {st r : State} → Emits (i j ∷ []) [] t t' st r → Of say name place (j * 4 + 1) t t' st r
  unfolding found code side_of
  of-local es name place {j} f x N.unknown e = absurd (omega arith)
  of-local es name place {j} f x (N.known (N.local k)) e = let z : j ≡ k = omega arith in emits-did _ f (λ n. rw (es x k n, z))
  of-local es name place {j} f x (N.known (N.global k)) e = absurd (omega arith)
  of-local es name place {j} f x (N.known (N.manifest k)) e = absurd (omega arith)
  of-local es name place {j} f x (N.known (N.function k)) e = absurd (omega arith)

  pub of-global : ((x : Here) (k n : ℕ) → say x (side (R.to_global k)) n ≡ record { items = i k ∷ []; heights = []; labels = 0 }) → (name place : ℕ)
      {j : ℕ} {t t' : List ℕ} {st r : State} → Emits (i j ∷ []) [] t t' st r → Of say name place (j * 4 + 2) t t' st r
  unfolding found code side_of
  of-global es name place {j} f x N.unknown e = absurd (omega arith)
  of-global es name place {j} f x (N.known (N.local k)) e = absurd (omega arith)
  of-global es name place {j} f x (N.known (N.global k)) e = let z : j ≡ k = omega arith in emits-did _ f (λ n. rw (es x k n, z))
  of-global es name place {j} f x (N.known (N.manifest k)) e = absurd (omega arith)
  of-global es name place {j} f x (N.known (N.function k)) e = absurd (omega arith)

module _ (say : Here → Side → ℕ → Code) (name place : ℕ) {m : ℕ} {t t' : List ℕ} {st r : State} where
  pub of-unknown : {a : State} → m ≡ 0 → Faulted name 8 st a → Faulted place 10 a r → t' ≡ t → Of say name place m t t' st r
  unfolding found side_of
  of-unknown q f g et x N.unknown e = rw et (did-as (say x no_side) 0 (did_then (f.by (say x no_side) t) (g.by (say x no_side) t)) same_refl
      (λ n v. let z : length (fault name 8 ++ fault place 10) ≡ 0 = ap length v in absurd (omega arith)) (omega arith))
  of-unknown q f g et x (N.known w) e = absurd (code-not w (sym e ∙ q))

  pub of_other : (m % 4 ≡ 1 → ⊥) → (m % 4 ≡ 2 → ⊥) → (m ≡ 0 → ⊥) → Faulted place 10 st r → t' ≡ t → Of say name place m t t' st r
  unfolding found code side_of
  of_other q1 q2 q0 f et x N.unknown e = absurd (q0 e)
  of_other q1 q2 q0 f et x (N.known (N.local k)) e = absurd (q1 (omega arith))
  of_other q1 q2 q0 f et x (N.known (N.global k)) e = absurd (q2 (omega arith))
  of_other q1 q2 q0 f et x (N.known (N.manifest k)) e = rw et (f.by (say x no_side) t)
  of_other q1 q2 q0 f et x (N.known (N.function k)) e = rw et (f.by (say x no_side) t)

abbrev pub say_address : Here → Side → ℕ → Code
say_address x z = expr_says x (address_of z)

abbrev pub say_target : Here → Side → ℕ → Code
say_target x z = target_says x (target_of z)

-- ---- what has no address and is no left side

no_address : (x : Side) → side_of (address_of x) ≡ no_side
unfolding side_of
no_address (side (R.to_local k)) = refl
no_address (side (R.to_global k)) = refl
no_address (side (R.to_contents e)) = refl
no_address (side (R.to_index a b)) = refl
no_address no_side = refl

no-monadic : (o : ℕ) (E : Expr) → (o ≡ 49 → ⊥) → side_of (resolved_monadic o E) ≡ no_side
unfolding side_of
no-monadic o E n = rw (ne_eqb o 49 n) (by_cases (eqb o 50) (λ e. rw e (no_address (side_of E))) (λ e. rw e))

-- a kind that is no side, as a match has it
abbrev pub NoSide : ℕ → Type 0
NoSide k = ((Unit × (k ≡ 51 → ⊥)) × (k ≡ 59 → ⊥)) × (k ≡ 129 → ⊥)

module _ (text : List ℕ) (sc : Scope) (h : ℕ) where
  no-operation : (E : Expr) (os : Operations) → side_of E ≡ no_side → side_of (operations text sc h E os) ≡ no_side
  unfolding operations side_of
  no-operation E T.no_operations e = e
  no-operation E (T.operation o d os) e = no-operation (R.binary o E (expression text sc (h + 1) d)) os refl

  no_call : (b : Bool) (E : Expr) (ss : Suffixes) → ends_in_call b ss ≡ true → (b ≡ true → side_of E ≡ no_side)
      → side_of (suffixes text sc h E ss) ≡ no_side
  unfolding suffixes side_of ends_in_call
  no_call b E T.no_suffixes e f = f e
  no_call b E (T.call es ss) e f = no_call true (R.call E (expressions text sc (under ss h + 2) es)) ss e (λ z. refl)
  no_call b E (T.index d ss) e f = no_call false (R.index E (expression text sc (under ss h + 1) d)) ss e (λ z. contradiction cc)

  call-of : (b : Bool) → (O.suffixed_kind b ≡ 129 → ⊥) → b ≡ true
  unfolding O.suffixed_kind
  call-of true n = refl
  call-of false n = absurd (n refl)

  pub no-side : (e : Expression) → FineE e → NoSide (expression-closed e).kind
      → ((expression-closed e).kind ≡ 128 → (expression-closed e).value ≡ 49 → ⊥) → side_of (expression text sc h e) ≡ no_side
  unfolding expression side_of Fine expression-closed shut operations
  no-side (T.number p v) f n m = refl
  no-side (T.string p v) f n m = refl
  no-side (T.name x) f n m = absurd (n.0.1 refl)
  no-side (T.bracketed p e) f n m = absurd (n.0.0.1 refl)
  no-side (T.valof p c) f n m = refl
  no-side (T.monadic p o e) f n m = no-monadic o (expression text sc h e) (m refl)
  no-side (T.suffixed e ss) f n m = no_call false (expression text sc (under ss h) e) ss (call-of (ends_in_call false ss) n.1)
      (λ z. contradiction cc)
  no-side (T.dyadic e T.no_operations) f n m = absurd (f.2 refl)
  no-side (T.dyadic e (T.operation o d os)) f n m = no-operation (R.binary o (expression text sc h e) (expression text sc (h + 1) d)) os refl

fault-not : (fs : List Fault) (place : ℕ) → fs ++ fault place 10 ≡ [] → ⊥
fault-not fs place e = let z : length (fault place 10) ≡ 0 = ap length (nil-right fs (fault place 10) e) in omega arith

pub refuse-gave : (text : List ℕ) {s s₁ t t₁ : List ℕ} {end place : ℕ} {here : Here} {st a r : State} → GaveE text s s₁ end here t t₁ st a
    → Faulted place 10 a r → GaveRefused text s s₁ end place here t t₁ st r
refuse-gave text {s} {s₁} {t} {t₁} {end} {place} {here} {st} {a} {r} g f = record {
  by = λ c. record {
    by = λ y. let x = g.by y in record {
      keeps = x.keeps;
      did = did-as (c y.scope y.tree) _ (did_then x.did (f.by (λ n. record { items = []; heights = []; labels = 0 }) t₁)) same_refl
          (λ n v. absurd (fault-not (in_expression text y.scope (leavable here) here.height y.tree) place v)) (omega arith);
    };
  };
}

-- ---- what @ may take

abbrev Address : (text s : List ℕ) (place : ℕ) (s' t t' : List ℕ) (st r : State) (here : Here) → Scope → (base k : ℕ) → Expression → Type 0
Address text s place s' t t' st r here sc base k e =
    Result (in_expression text sc (leavable here) here.height e ++ unless_side place (side_of (expression text sc here.height e)))
    (expr_says here (address_of (side_of (expression text sc here.height e)))) k base here s s' t t' st r

module _ (text : List ℕ) {s s' t t' : List ℕ} {end : ℕ} (place : ℕ) {here : Here} {st r : State} (n : Node) (nd : NodeAt s end n) where
  pub address-open : (q : n.kind ≡ 51) → GaveAddress text s s' n.inner place (inside here) t t' st r
      → GaveAddress text s s' end place here t t' st r
  unfolding in_expression expression
  address-open q g = record {
    by = λ y. let u = is-bracket (find n nd q y) in let x = g.by (bracket-part n nd q y) in
        subst (Address text s place s' t t' st r here y.scope y.base (length (encode y.tree))) (sym u.same)
        (record { keeps = x.keeps; did = more _ x.did (omega arith) });
  }

  pub address-pling : (q : n.kind ≡ 128) → n.value ≡ 49 → GaveE text s s' n.inner (inside here) t t' st r
      → GaveAddress text s s' end place here t t' st r
  unfolding in_expression expression expr_code of_expr expr_labels side_of
  address-pling q ev g = record {
    by = λ y. let u = monadic-is n nd q y in let x = g.by (monadic-part n nd q y) in let sc = y.scope in
        let ou : u.operator ≡ 49 = sym u.value_of ∙ sym nd.value ∙ ev in
        subst (Address text s place s' t t' st r here sc y.base (length (encode y.tree)))
        (sym (u.same ∙ ap (λ (o : ℕ). T.monadic u.place o u.part) ou))
        (record { keeps = x.keeps; did = did-as _ _ x.did (same-eq (sym (append-nil _) ∙ sym (append-nil _))) (λ m v. refl) (omega arith) });
  }

  pub address-refused : NoSide n.kind → (n.kind ≡ 128 → n.value ≡ 49 → ⊥) → GaveRefused text s s' end place here t t' st r
      → GaveAddress text s s' end place here t t' st r
  address-refused no-side-kind not-pling g = record {
    by = λ y. let sc = y.scope in let e = y.tree in let c = expression-closed e in let E = expression text sc here.height e in
        let k = nd.kind ∙ kind-of c y.lies y.ends in let v = nd.value ∙ value_of c y.lies y.ends in
        let z = no-side text sc here.height e y.fine (subst NoSide k no-side-kind) (λ i j. not-pling (k ∙ i) (v ∙ j)) in
        let x = (g.by (λ sc e. expr_says here (address_of (side_of (expression text sc here.height e))))).by y in
        record { keeps = x.keeps; did = did-as _ _ x.did (same-eq (rw z)) (λ m v. refl) (omega arith) };
  }

module _ (text : List ℕ) {s t t' : List ℕ} {end : ℕ} (place : ℕ) {here : Here} {st r : State} (n : Node) (nd : NodeAt s end n) where
  pub address-name : {m : ℕ} → n.kind ≡ 59 → Looked text s here.top n.inner m → AddressOf m n.place place t t' st r
      → GaveAddress text s s end place here t t' st r
  unfolding in_expression expression
  address-name q lk f = record {
    by = λ y. let u = is_name (find n nd q y) in let sc = y.scope in let w = lookup text sc u.name in let a : n.inner + 2 ≡ end - 2
        = omega arith in let b : n.inner + 1 ≡ end - 3 = omega arith in let ex : name_at s n.inner ≡ u.name
        = rw (a, u.place-of, b, u.width_of) in
        rw u.same (record {
          keeps = keeps-all;
          did = more _ (subst (λ (p : ℕ). Did (on_found w (fault p 8) [] ++ unless_side place (side_of (of_meaning w)))
              (expr_says here (address_of (side_of (of_meaning w)))) 0 t t' st r) (nd.place ∙ u.place-of) (f.by here w
              (rw (lk.by sc y.shows, ex)))) (omega arith);
        });
  }

-- ---- the last suffix is an index

index-tag : {s : List ℕ} {m end tag : ℕ} {ss : Suffixes} → Last s m end ss tag → ends_in_call false ss ≡ false → tag ≡ 49
unfolding ends_in_call snoc
index-tag (an_index u) e = refl
index-tag (a_call u) e = absurd (no u.init u.part false (rw u.same at e))
  where
    no : (ss : Suffixes) (es : Expressions) (b : Bool) → ends_in_call b (snoc (T.call es) ss) ≡ false → ⊥
    no T.no_suffixes es b q = contradiction cc
    no (T.call ds ss) es b q = no ss es true q
    no (T.index d ss) es b q = no ss es false q

index_of : (b : Bool) → O.suffixed_kind b ≡ 129 → b ≡ false
unfolding O.suffixed_kind
index_of true n = absurd (omega arith)
index_of false n = refl

some-suffix : (ss : Suffixes) → (ss ≡ T.no_suffixes → ⊥) → 0 < length (encode_suffixes ss)
some-suffix ss n = let k = length (encode_suffixes ss) in
    by_cases (ltb 0 k) (λ e. ltb-true 0 k e) (λ e. absurd (n (no-suffix ss (omega (arith, ltb-false 0 k e)))))

module _ {s : List ℕ} {end : ℕ} {here : Here} {st : State} (n : Node) (nd : NodeAt s end n) (q : IndexKind s end) {middle : ℕ}
    (m : middle ≡ n.start + n.value) where
  abbrev pub indexed-is : (y : ReadyE s end here st) → IsTwo encode encode_suffixes T.suffixed s y.lo end y.tree
  indexed-is y = suffixed-is n nd (omega arith) m y

  abbrev pub indexed-part : ReadyE s end here st → ReadySuffixes s middle n.inner (inside here) st
  indexed-part y = suffixed-part n nd (omega arith) m y

  pub indexed-middle : (y : ReadyE s end here st) → middle ≡ y.lo + length (encode (indexed-is y).left)
  indexed-middle y = suffixed-middle n nd (omega arith) m y

  pub indexed-some : (y : ReadyE s end here st) → middle < n.inner
  unfolding Fine
  indexed-some y = let u = indexed-is y in omega (arith, applied-ends (indexed-part y), some-suffix u.list (subst FineE u.same y.fine).2)

  pub indexed-tag : (y : ReadyE s end here st) → get_or s (n.inner - 1) 0 ≡ 49
  unfolding expression-closed shut
  indexed-tag y = let u = indexed-is y in let Y = indexed-part y in
      let k = sym (ap (λ (e : Expression). (expression-closed e).kind) u.same) ∙ sym (kind-of (expression-closed y.tree) y.lies y.ends)
      ∙ q.is in
      index-tag (last u.list (applied-lies Y) (applied-ends Y) (indexed-some y)) (index_of (ends_in_call false u.list) k)

  module _ {inner size start : ℕ} (ei : inner ≡ n.inner - 2) (ez : size ≡ get_or s inner 0) (es : start ≡ inner - size) where
    abbrev pub last-index : (y : ReadyE s end here st) → IsLast encode T.index s middle n.inner (indexed-is y).list
    last-index y = is-index (indexed-tag y) (the_last (last-read (indexed-some y) refl refl ei ez es) (indexed-part y))

    abbrev pub address-left : ReadyE s end here st → ReadySuffixes s middle start (inside here) st
    address-left y = index-left (last-read (indexed-some y) refl refl ei ez es) (indexed-tag y) (indexed-part y)

    module _ (text : List ℕ) {s₁ t t₁ t₂ : List ℕ} {a b : State} (g : GaveSuffixes text s s₁ middle start (inside here) t t₁ st a)
        (f : Emits (G.SP here.height ∷ []) ((here.height + 1) ∷ []) t₁ t₂ a b) where
      abbrev pub address-right : ReadyE s end here st → ReadyE s₁ inner (raised 1 (inside here)) b
      address-right y = with-state f.label (index-right (last-read (indexed-some y) refl refl ei ez es) (indexed-tag y) text g (indexed-part y))

      pub address-index-gave : {s₂ t₃ t₄ : List ℕ} {c d : State} → GaveE text s₁ s₂ inner (raised 1 (inside here)) t₂ t₃ b c
          → Emits (G.AIP here.height ∷ []) [] t₃ t₄ c d → GaveAddressIndex text s s₂ end here t t₄ st d
      unfolding in_expression expression expr_code of_expr expr_labels side_of
      address-index-gave {s₂} {t₃} {t₄} {c} {d} g₂ f₂ place = record {
        by = λ y.
            let U = indexed-is y in let Y = indexed-part y in let sc = y.scope in let h = here.height in let p = U.left in let u = last-index y in
            let x = g.by (address-left y) in let w = g₂.by (address-right y) in let L = leavable here in
            let ef = index-faults text sc h p u.init u.part u.same L in let er = index-means text sc h p u.init u.part u.same in
            let E = suffixes text sc h (expression text sc (under U.list h) p) U.list in
            subst (λ (e : Expression). Result (in_expression text sc L h e ++ unless_side place (side_of (expression text sc h e)))
            (expr_says here (address_of (side_of (expression text sc h e)))) (length (encode y.tree)) y.base here s s₂ t t₄ st d) (sym U.same)
            (record {
              keeps = keeps_then x.keeps w.keeps;
              did = did-as (expr_says here (address_of (side_of E))) _ (did-put (did_then (did-emit x.did f) w.did) f₂)
                  (same-eq (simp (ef, append-nil, er))) (λ k v. code_is (simp (append_assoc, er)) (simp (append_assoc, er)) (rw er))
                  (omega (arith, applied-ends Y, indexed-middle y, length-append (encode p) (encode_suffixes u.init)));
            });
      }

-- ---- another name of the same place

pub gave-address-at : (text : List ℕ) (place : ℕ) {s s' t t' : List ℕ} {end : ℕ} {d d' : Here} {st r : State} → d' ≡ d
    → GaveAddress text s s' end place d' t t' st r → GaveAddress text s s' end place d t t' st r
gave-address-at text place {s} {s'} {t} {t'} {end} {st = st} {r} e g = rw e at g

pub gave-monadic-at : (text : List ℕ) (o : ℕ) {s s' t t' : List ℕ} {end : ℕ} {d d' : Here} {st r : State} → d' ≡ d
    → GaveMonadic text s s' o end d' t t' st r → GaveMonadic text s s' o end d t t' st r
gave-monadic-at text o {s} {s'} {t} {t'} {end} {st = st} {r} e g = rw e at g

-- ---- left sides: a right side is in A, and the parts are found one word above

module _ (text : List ℕ) {s s' t t' : List ℕ} {end : ℕ} (place : ℕ) (here : Here) {st r : State} (n : Node) (nd : NodeAt s end n) where
  pub side-open : (q : n.kind ≡ 51) → GaveSide text s s' n.inner place (inside here) t t' st r → GaveSide text s s' end place here t t' st r
  unfolding in_expression expression
  side-open q g = record {
    by = λ y. let u = is-bracket (find n nd q y) in let x = g.by (bracket-part n nd q y) in let sc = y.scope in let h = here.height in
        subst (λ (e : Expression). Result (in_expression text sc (leavable here) (h + 1) e ++ unless_side place (side_of (expression text sc (h + 1) e)))
        (target_says here (target_of (side_of (expression text sc (h + 1) e)))) (length (encode y.tree)) y.base (raised 1 here) s s' t t' st r)
        (sym u.same) (record { keeps = x.keeps; did = more _ x.did (omega arith) });
  }

  pub side-refused : NoSide n.kind → (n.kind ≡ 128 → n.value ≡ 49 → ⊥) → GaveRefused text s s' end place (raised 1 here) t t' st r
      → GaveSide text s s' end place here t t' st r
  side-refused no-side-kind not-pling g = record {
    by = λ y. let sc = y.scope in let e = y.tree in let c = expression-closed e in let h = here.height in
        let k = nd.kind ∙ kind-of c y.lies y.ends in let v = nd.value ∙ value_of c y.lies y.ends in
        let z = no-side text sc (h + 1) e y.fine (subst NoSide k no-side-kind) (λ i j. not-pling (k ∙ i) (v ∙ j)) in
        let x = (g.by (λ sc e. target_says here (target_of (side_of (expression text sc (h + 1) e))))).by y in
        record { keeps = x.keeps; did = did-as _ _ x.did (same-eq (rw z)) (λ m v. refl) (omega arith) };
  }

module _ (text : List ℕ) {s t t' : List ℕ} {end : ℕ} (place : ℕ) (here : Here) {st r : State} (n : Node) (nd : NodeAt s end n) where
  pub side-name : {m : ℕ} → n.kind ≡ 59 → Looked text s here.top n.inner m → StoreTo m n.place place t t' st r
      → GaveSide text s s end place here t t' st r
  unfolding in_expression expression
  side-name q lk f = record {
    by = λ y. let u = is_name (find n nd q y) in let sc = y.scope in let w = lookup text sc u.name in let h = here.height in let a : n.inner + 2
        ≡ end - 2 = omega arith in let b : n.inner + 1 ≡ end - 3 = omega arith in let ex : name_at s n.inner ≡ u.name
        = rw (a, u.place-of, b, u.width_of) in
        rw u.same (record {
          keeps = keeps-all;
          did = more _ (subst (λ (p : ℕ). Did (on_found w (fault p 8) [] ++ unless_side place (side_of (of_meaning w)))
              (target_says here (target_of (side_of (of_meaning w)))) 0 t t' st r) (nd.place ∙ u.place-of) (f.by here w
              (rw (lk.by sc y.shows, ex)))) (omega arith);
        });
  }

module _ (text : List ℕ) {s : List ℕ} {end : ℕ} (place : ℕ) {here : Here} {st a : State} {t t₁ : List ℕ} (n : Node) (nd : NodeAt s end n)
    (q : n.kind ≡ 128) (f : Emits (G.SP here.height ∷ []) ((here.height + 1) ∷ []) t t₁ st a) where
  abbrev pub side-part : ReadyE s end (raised 1 here) st → ReadyE s n.inner (raised 1 (inside here)) a
  side-part y = with-state f.label (monadic-part n nd q y)

  pub side-pling : {s' t₂ t₃ : List ℕ} {b r : State} → n.value ≡ 49 → GaveE text s s' n.inner (raised 1 (inside here)) t₁ t₂ a b
      → Emits (G.SP (here.height + 1) ∷ G.LIP here.height ∷ G.Sip (here.height + 1) ∷ []) [] t₂ t₃ b r
      → GaveSide text s s' end place here t t₃ st r
  unfolding in_expression expression G.target_code of_target G.target_labels side_of
  side-pling {s'} {t₂} {t₃} {b} {r} ev g f₂ = record {
    by = λ y. let u = monadic-is n nd q y in let x = g.by (side-part y) in let sc = y.scope in let h = here.height in
        let ou : u.operator ≡ 49 = sym u.value_of ∙ sym nd.value ∙ ev in
        subst (λ (e : Expression). Result (in_expression text sc (leavable here) (h + 1) e ++ unless_side place (side_of (expression text sc (h + 1) e)))
        (target_says here (target_of (side_of (expression text sc (h + 1) e)))) (length (encode y.tree)) y.base (raised 1 here) s s' t t₃ st r)
        (sym (u.same ∙ ap (λ (o : ℕ). T.monadic u.place o u.part) ou)) (record {
          keeps = x.keeps;
          did = did-as _ _ (did_after f (did-put x.did f₂)) (same-eq (sym (append-nil _) ∙ sym (append-nil _))) (λ m v. refl) (omega arith);
        });
  }

module _ {s : List ℕ} {end : ℕ} {here : Here} {st : State} (n : Node) (nd : NodeAt s end n) (q : IndexKind s end) {middle : ℕ}
    (m : middle ≡ n.start + n.value) where
  module _ {inner size start : ℕ} (ei : inner ≡ n.inner - 2) (ez : size ≡ get_or s inner 0) (es : start ≡ inner - size) where
    module _ (text : List ℕ) {t t₀ : List ℕ} {st₀ : State} (f₀ : Emits (G.SP here.height ∷ []) ((here.height + 1) ∷ []) t t₀ st st₀) where
      abbrev pub side_left : ReadyE s end (raised 1 here) st → ReadySuffixes s middle start (raised 1 (inside here)) st₀
      side_left y = address-left n nd q m ei ez es (with-state f₀.label y)

      module _ {s₁ t₁ t₂ : List ℕ} {a b : State} (g : GaveSuffixes text s s₁ middle start (raised 1 (inside here)) t₀ t₁ st₀ a)
          (f : Emits (G.SP (here.height + 1) ∷ []) ((here.height + 1 + 1) ∷ []) t₁ t₂ a b) where
        abbrev pub side_right : ReadyE s end (raised 1 here) st → ReadyE s₁ inner (raised 1 (raised 1 (inside here))) b
        side_right y = address-right n nd q m ei ez es text g f (with-state f₀.label y)

        pub side-index-gave : {s₂ t₃ t₄ : List ℕ} {c d : State} → GaveE text s₁ s₂ inner (raised 1 (raised 1 (inside here))) t₂ t₃ b c
            → Emits (G.AIP (here.height + 1) ∷ G.SP (here.height + 1) ∷ G.LIP here.height ∷ G.Sip (here.height + 1) ∷ []) [] t₃ t₄ c d
            → GaveSideIndex text s s₂ end here t t₄ st d
        unfolding in_expression expression G.target_code of_target G.target_labels side_of
        side-index-gave {s₂} {t₃} {t₄} {c} {d} g₂ f₂ place = record {
          by = λ y. let y₀ = with-state f₀.label y in let U = indexed-is n nd q m y₀ in let Y = indexed-part n nd q m y₀ in let sc = y.scope in
              let h = here.height in let k = h + 1 in let p = U.left in let u = last-index n nd q m ei ez es y₀ in let x = g.by (side_left y) in
              let w = g₂.by (side_right y) in let L = leavable here in let kk : k + 1 ≡ h + 2 = omega arith in
              let ef = index-faults text sc k p u.init u.part u.same L in let er = index-means text sc k p u.init u.part u.same in
              let E = suffixes text sc k (expression text sc (under U.list k) p) U.list in
              subst (λ (e : Expression). Result (in_expression text sc L k e ++ unless_side place (side_of (expression text sc k e)))
              (target_says here (target_of (side_of (expression text sc k e)))) (length (encode y.tree)) y.base (raised 1 here) s s₂ t t₄ st d)
              (sym U.same) (record {
                keeps = keeps_then x.keeps w.keeps;
                did = did-as (target_says here (target_of (side_of E))) _ (did_after f₀ (did-put (did_then (did-emit x.did f) w.did) f₂))
                    (same-eq (sym ef ∙ sym (append-nil _) ∙ ap (λ (e : Expr). (in_expression text sc L (under U.list k) p ++ in_suffixes text sc L k
                    U.list) ++ unless_side place (side_of e)) (sym er))) (λ v e. code_is (simp (append_assoc, kk, er)) (simp (append_assoc, kk, er))
                    (rw er)) (omega (arith, applied-ends Y, indexed-middle n nd q m y₀, length-append (encode p) (encode_suffixes u.init)));
              });
        }

pub gave-side-at : (text : List ℕ) (place : ℕ) {s s' t t' : List ℕ} {end : ℕ} {d d' : Here} {st r : State} → d' ≡ d
    → GaveSide text s s' end place d' t t' st r → GaveSide text s s' end place d t t' st r
gave-side-at text place {s} {s'} {t} {t'} {end} {st = st} {r} e g = rw e at g

pub gave-refused-at : {text s s' t t' : List ℕ} {end place : ℕ} {d d' : Here} {st r : State} → d' ≡ d → GaveRefused text s s' end place d' t t' st r
    → GaveRefused text s s' end place d t t' st r
gave-refused-at e g = rw e at g
