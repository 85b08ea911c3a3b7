-- What each form of expression needs of its parts, and gives.
use Rattle.laws.proofs.Basics.{ℕ, ◌+◌, ◌-◌, ◌<◌, ◌≤◌, ◌≡◌, refl, sym, ap, subst, ◌∙◌, List, [], ◌∷◌, ◌++◌, append_assoc, append-nil, length, get_or}
use Rattle.laws.proofs.Basics.{arith}
use Rattle.language.specs.Tree as T
use Rattle.compiler.proofs.Language.{Name, Expression, Operations, depth, operations_depth, Scope, lookup, on_found, Fault, fault, Expr}
use Rattle.compiler.proofs.Language.{expression, operations, of_meaning, of_expr, in_expression, in_operations, encode, encode_operations, Fine}
use Rattle.compiler.proofs.Language.{FineOperations}
use Rattle.language.specs.Resolved as R
use Rattle.code.specs.Generate as G
use Rattle.code.specs.Generate.{expr_code, expr_labels}
use Rattle.compiler.proofs.Vocabulary.{name_at, found, Looked, State, Here, Node, inside, raised, leavable, NodeAt, Code, Did, Emits, Means}
use Rattle.compiler.proofs.Vocabulary.{expr_says, FineE, FineOs, Holds, Ready, Result, ReadyE, GaveE, faults_e, code_e, chain_code, chain_heights}
use Rattle.compiler.proofs.Vocabulary.{chain_labels, chain_says, ReadyChain, GaveChain}
use Rattle.compiler.proofs.Scoping.{keeps-all, keeps_then}
use Rattle.compiler.proofs.Done.{emits-did, did-put, did_after, did_none, did_then, did-as, same_refl, code_is}
use Rattle.compiler.proofs.Trees.{find, is_number, is-string, is_name, is-bracket, is-dyadic}
use Rattle.compiler.proofs.Parts.{sub}
use Rattle.compiler.proofs.Lists.{First, first_of, Kind, Part, begins, item, one_size, one_word, rest-length, both-deep, both-fine, goes_on_lem}
use Rattle.compiler.proofs.Lists.{ended}

-- with more labels allowed
pub more : {fs : List Fault} {f : ℕ → Code} {m : ℕ} (k : ℕ) {t t' : List ℕ} {st r : State} → Did fs f m t t' st r → m ≤ k → Did fs f k t t' st r
more {f = f} k d l = did-as f k d same_refl (λ n e. refl) l

-- a result of another tree that is the same
module _ (text : List ℕ) {s s' t t' : List ℕ} {st r : State} (here : Here) where
  pub so : (sc : Scope) {e d : Expression} {n base : ℕ} → e ≡ d → Result (faults_e text here sc d) (code_e text here sc d) n base here s s' t t' st r
      → Result (faults_e text here sc e) (code_e text here sc e) n base here s s' t t' st r
  so sc {n = n} {base} q x = rw q x

module _ (text : List ℕ) {s t t' : List ℕ} {end : ℕ} {here : Here} {st r : State} (n : Node) (nd : NodeAt s end n) where
  pub number-gave : n.kind ≡ 60 → Emits (G.L n.value ∷ []) [] t t' st r → GaveE text s s end here t t' st r
  unfolding in_expression expression expr_code of_expr expr_labels
  number-gave q f = record {
    by = λ y. let u = is_number (find n nd q y) in so text here y.scope u.same
        (record { keeps = keeps-all; did = more _ (emits-did _ f (λ k. code_is (cc) refl refl)) (omega arith) });
  }

  pub string-gave : {l : ℕ} → n.kind ≡ 61 → l ≡ here.strings + n.value → Emits (G.LL l ∷ []) [] t t' st r → GaveE text s s end here t t' st r
  unfolding in_expression expression expr_code of_expr expr_labels
  string-gave q e f = record {
    by = λ y. let u = is-string (find n nd q y) in so text here y.scope u.same
        (record { keeps = keeps-all; did = more _ (emits-did _ f (λ k. code_is (cc) refl refl)) (omega arith) });
  }

  pub name-gave : {m : ℕ} → n.kind ≡ 59 → Looked text s here.top n.inner m → Means m n.place t t' st r → GaveE text s s end here t t' st r
  unfolding in_expression expression
  name-gave q lk f = record {
    by = λ y. let u = is_name (find n nd q y) in so text here y.scope u.same (record {
      keeps = keeps-all;
      did = more _ (subst (λ (p : ℕ). Did (on_found (lookup text y.scope u.name) (fault p 8) []) (expr_says here.strings here.height
          (of_meaning (lookup text y.scope u.name))) 0 t t' st r) (nd.place ∙ u.place-of) (f.by here.strings here.height (lookup
          text y.scope u.name) (lk.by y.scope y.shows ∙ ap (λ (z : Name). found (lookup text y.scope z))
          (leaf u.name u.width_of u.place-of (omega arith))))) (omega arith);
    });
  }
    where
      leaf : (z : Name) → get_or s (end - 3) 0 ≡ z.width → get_or s (end - 2) 0 ≡ z.place → 4 ≤ end → name_at s n.inner ≡ z
      leaf z w p l = let a : n.inner + 2 ≡ end - 2 = omega arith in let b : n.inner + 1 ≡ end - 3 = omega arith in rw (a, p, b, w)

-- ---- brackets

module _ {s : List ℕ} {end : ℕ} {here : Here} {st : State} (n : Node) (nd : NodeAt s end n) (q : n.kind ≡ 51) where
  pub bracket-well : (y : ReadyE s end here st) {p : ℕ} {e : Expression} → y.tree ≡ T.bracketed p e → (depth e + 1 ≤ here.left) × FineE e
  unfolding depth Fine
  bracket-well y h = (omega (arith, ap depth h), subst FineE h y.fine)

  abbrev pub bracket-part : ReadyE s end here st → ReadyE s n.inner (inside here) st
  bracket-part y = let u = is-bracket (find n nd q y) in let w = bracket-well y u.same in sub y keeps-all u.lies refl (omega arith) w.1

  pub bracket-gave : (text : List ℕ) {s' t t' : List ℕ} {r : State} → GaveE text s s' n.inner (inside here) t t' st r
      → GaveE text s s' end here t t' st r
  unfolding in_expression expression
  bracket-gave text g = record {
    by = λ y. let u = is-bracket (find n nd q y) in let x = g.by (bracket-part y) in so text here y.scope u.same
        (record { keeps = x.keeps; did = more _ x.did (omega arith) });
  }

-- ---- operators of one binding level

module _ (text : List ℕ) (sc : Scope) (strings h : ℕ) where
  chain-is : (e : Expr) (os : Operations) (n : ℕ) → expr_says strings h (operations text sc h e os) n ≡ record {
    items = expr_code strings h n e ++ chain_code text sc strings h os (n + expr_labels e);
    heights = of_expr h e ++ chain_heights text sc h os;
    labels = expr_labels e + chain_labels text sc h os;
  }
  unfolding operations chain_code chain_heights chain_labels expr_code of_expr expr_labels
  chain-is e T.no_operations n = code_is (sym (append-nil _)) (sym (append-nil _)) (omega arith)
  chain-is e (T.operation o d os) n =
      let D = expression text sc (h + 1) d in let k : n + (expr_labels e + expr_labels D) ≡ n + expr_labels e + expr_labels D = omega arith in
      chain-is (R.binary o e D) os n ∙ code_is (simp (append_assoc, k)) (simp append_assoc) (omega arith)

-- another name of the same place
pub ready_at : {A : Type 0} {enc : A → List ℕ} {deep : A → ℕ} {Fine : A → Type 0} {s : List ℕ} {end : ℕ} {d d' : Here} {st : State} → d' ≡ d
    → Ready enc deep Fine s end d st → Ready enc deep Fine s end d' st
ready_at e y = rw e y

pub gave_at : (text : List ℕ) {s s' t t' : List ℕ} {end : ℕ} {d d' : Here} {st r : State} → d' ≡ d → GaveE text s s' end d' t t' st r
    → GaveE text s s' end d t t' st r
gave_at text {s} {s'} {t} {t'} {end} {st = st} {r} e g = rw e at g

module _ {s : List ℕ} {end : ℕ} {here : Here} {st : State} (n : Node) (nd : NodeAt s end n) (q : n.kind ≡ 131) {middle : ℕ}
    (m : middle ≡ n.start + n.value) where
  pub dyadic-well : (y : ReadyE s end here st) {e : Expression} {os : Operations} → y.tree ≡ T.dyadic e os
      → (depth e + 1 ≤ here.left) × (operations_depth os + 1 ≤ here.left) × FineE e × FineOs os
  unfolding depth Fine
  dyadic-well y h = let f = subst FineE h y.fine in (omega (arith, ap depth h), omega (arith, ap depth h), f.0, f.1)

  pub middle-is : (y : ReadyE s end here st) → middle ≡ y.lo + length (encode (is-dyadic (find n nd q y)).left)
  middle-is y = let u = is-dyadic (find n nd q y) in omega arith

  abbrev pub dyadic-left : ReadyE s end here st → ReadyE s middle (inside here) st
  dyadic-left y = let u = is-dyadic (find n nd q y) in
      sub y keeps-all u.lies refl (omega (arith, middle-is y, (dyadic-well y u.same).0)) (dyadic-well y u.same).2

  module _ (text : List ℕ) {s₁ t t₁ : List ℕ} {a : State} (g : GaveE text s s₁ middle (inside here) t t₁ st a) where
    abbrev pub dyadic-rest : ReadyE s end here st → ReadyChain s₁ middle n.inner (inside here) a
    dyadic-rest y = let u = is-dyadic (find n nd q y) in let x = g.by (dyadic-left y) in record {
      ready = sub y x.keeps u.lies-list refl (omega (arith, (dyadic-well y u.same).1)) (dyadic-well y u.same).3;
      starts = sym (middle-is y);
    }

    pub dyadic-gave : {s₂ t₂ : List ℕ} {b : State} → GaveChain text s₁ s₂ middle n.inner (inside here) t₁ t₂ a b
        → GaveE text s s₂ end here t t₂ st b
    unfolding in_expression expression
    dyadic-gave g₂ = record {
      by = λ y. let u = is-dyadic (find n nd q y) in let x = g.by (dyadic-left y) in let z = g₂.by (dyadic-rest y) in let sc = y.scope in
          let h = here.height in let e = expression text sc h u.left in
          so text here sc u.same (record {
            keeps = keeps_then x.keeps z.keeps;
            did = did-as (expr_says here.strings h (operations text sc h e u.list)) _ (did_then x.did z.did) same_refl
                (λ k c. sym (chain-is text sc here.strings h e u.list k)) (omega arith);
          });
    }

-- ---- the loop over the operations

pub record Operation : Type 0 where
  pub operator : ℕ
  pub operand : Expression

abbrev pub with_operation : Operation → Operations → Operations
with_operation x os = T.operation x.operator x.operand os

pub is-operation : {s : List ℕ} {at end : ℕ} (os : Operations) → Holds s at (encode_operations os) → end ≡ at + length (encode_operations os) → at < end
    → First encode_operations (λ x. encode x.operand) (λ x. x.operator) with_operation s at end os
unfolding encode_operations
is-operation T.no_operations h e l = absurd (omega arith)
is-operation (T.operation o d os) h e l =
    first_of encode_operations (λ x. encode x.operand) (λ x. x.operator) with_operation (record { operator = o; operand = d }) os h e

pub no-operation : (os : Operations) → length (encode_operations os) ≡ 0 → os ≡ T.no_operations
unfolding encode_operations
no-operation T.no_operations e = refl
no-operation (T.operation o d os) e = absurd (omega arith)

pub operation-deep : (x : Operation) (os : Operations) (k : ℕ) → operations_depth (with_operation x os) ≤ k
    → (depth x.operand ≤ k) × (operations_depth os ≤ k)
unfolding operations_depth
operation-deep x os k l = (omega arith, omega arith)

pub operation-fine : (x : Operation) (os : Operations) → FineOs (with_operation x os) → FineE x.operand × FineOs os
unfolding Fine FineOperations
operation-fine x os f = f

abbrev pub operation_list : Kind Operations Operation
operation_list = record {
  all = encode_operations;
  one = λ x. encode x.operand;
  word = λ x. x.operator;
  with = with_operation;
  none = T.no_operations;
  deep = operations_depth;
  deep_one = λ x. depth x.operand;
  Fine = FineOs;
  Fine-one = λ x. FineE x.operand;
  takes = is-operation;
  empty = no-operation;
  deeper = operation-deep;
  finer = operation-fine;
}

module _ (text t₀ : List ℕ) {s₀ : List ℕ} {from end : ℕ} {here : Here} {st₀ : State} where
  abbrev pub ChainPart : ReadyChain s₀ from end here st₀ → (s t : List ℕ) (at : ℕ) (st : State) → Type 0
  ChainPart y s t at st = let z = y.ready in
      Part operation_list (λ os. length (encode_operations os)) (λ i os. in_operations text z.scope (leavable here) here.height os)
      (λ i os. chain_says text here z.scope os) z.tree
      from end z.base here.top here.left here.height here.height 0 0 s₀ s t₀ t st₀ st at

  pub chain-begin : (y : ReadyChain s₀ from end here st₀) → ChainPart y s₀ t₀ from st₀
  chain-begin y = begins y.ready y.starts refl refl y.ready.some

  module _ {s t : List ℕ} {at size next o : ℕ} {st : State} (l : at < end) (es : size ≡ get_or s at 0) (eo : o ≡ get_or s (at + 1) 0)
      (en : next ≡ at + 2 + size) where
    abbrev pub chain-part : {a : State} → a.label ≡ st.label → (y : ReadyChain s₀ from end here st₀) → ChainPart y s t at st
        → ReadyE s next (raised 1 here) a
    chain-part ea y p = let z = y.ready in let u = item z y.starts l es en p in let e = one_size z y.starts l es en p in let n = rest-length z
        y.starts l es en p in
        sub z p.keeps u.lies refl (omega (arith, (both-deep z y.starts l es en p).0)) (both-fine z y.starts l es en p).0

    pub chain_next : {act : ℕ} {s₁ t₁ t₂ t₃ : List ℕ} {a b r : State} → act ≡ G.dyadic_act o
        → Emits (G.SP here.height ∷ []) ((here.height + 1) ∷ []) t t₁ st a → GaveE text s s₁ next (raised 1 here) t₁ t₂ a b → Emits
        (G.SP (here.height + 1) ∷ G.LIP here.height ∷ G.LIP (here.height + 1) ∷ G.X act ∷ []) [] t₂ t₃ b r
        → (y : ReadyChain s₀ from end here st₀) → ChainPart y s t at st → ChainPart y s₁ t₃ next r
    unfolding in_operations chain_code chain_heights chain_labels
    chain_next {act} ea e g f y p =
        let z = y.ready in let u = item z y.starts l es en p in let x = g.by (chain-part e.label y p) in let sc = z.scope in
        let h = here.height in let n = rest-length z y.starts l es en p in
        let op : act ≡ G.dyadic_act u.part.operator = ea ∙ ap G.dyadic_act (one_word z y.starts l es en p eo) in
        goes_on_lem z y.starts l es en p x.keeps (omega arith) (omega arith) (omega arith)
        (λ t' st' d. did-as _ _ (did_after e (did_then (did-put x.did f) d)) same_refl (λ k c. code_is (simp (append_assoc, op)) refl refl)
        (omega arith))

  pub chain-end : {s t : List ℕ} {at : ℕ} {st : State} → end ≤ at → ((y : ReadyChain s₀ from end here st₀) → ChainPart y s t at st)
      → GaveChain text s₀ s from end here t₀ t st₀ st
  unfolding in_operations chain_code chain_heights chain_labels
  chain-end l q = record { by = λ y. record { keeps = (q y).keeps; did = ended (q y) l (λ m. did_none m) } }

pub chain-ready-at : {s : List ℕ} {from end : ℕ} {d d' : Here} {st : State} → d' ≡ d → ReadyChain s from end d st → ReadyChain s from end d' st
chain-ready-at e y = rw e y

pub chain-gave-at : {text s s' t t' : List ℕ} {from end : ℕ} {d d' : Here} {st r : State} → d' ≡ d → GaveChain text s s' from end d' t t' st r
    → GaveChain text s s' from end d t t' st r
chain-gave-at e g = rw e at g

pub left_at : {d d' : Here} → d' ≡ d → d'.left ≡ d.left
left_at e = rw e

pub some_left : {s : List ℕ} {end : ℕ} {here : Here} {st : State} → ReadyE s end here st → 1 ≤ here.left
unfolding depth
some_left y = omega (arith, one y.tree)
  where
    one : (e : Expression) → 1 ≤ depth e
    one (T.number p v) = omega arith
    one (T.string p v) = omega arith
    one (T.name n) = omega arith
    one (T.bracketed p e) = omega arith
    one (T.valof p c) = omega arith
    one (T.monadic p o e) = omega arith
    one (T.suffixed e ss) = omega arith
    one (T.dyadic e os) = omega arith
