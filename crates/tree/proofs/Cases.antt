-- Labels: CASE with its constant, DEFAULT, the choice, and the words of a list of them.
use Rattle.laws.proofs.Basics.{ℕ, ◌<◌, ◌≤◌, ◌≡◌, refl, sym, ap, ◌∙◌, List, [], ◌∷◌, ◌++◌, append-nil, Bool, cond, length, arith, eq-eqb, ne_eqb}
use Rattle.language.specs.Kinds as K
use Rattle.language.specs.Tree as T
use Rattle.language.specs.Tree.{Label}
use Rattle.language.specs.Reader.{Source, Out, ok, on_out, kind_at, place_at, the}
use Rattle.language.specs.Expressions as E
use Rattle.language.specs.Commands as C
use Rattle.language.specs.Grammar.{within}
use Rattle.tree.specs.Reads.{HoldsSymbols, Here, KindHere, Follows, Encodes, Prepends, Reads, Adds, record_from, SetsSize, free_of}
use Rattle.tree.specs.Encoding.{item, closed, encode_constant, encode_labels}
use Rattle.tree.proofs.Steps.{bind, here, closes, adds_on, goes_on_lem, ◌then◌, nothing}
use Rattle.tree.proofs.Lists.{sized}
use Rattle.tree.proofs.Symbols.{placed, stays}
use Rattle.tree.specs.declared.scratch.State.{State}

pub no-label-words : encode_labels [] ≡ []
unfolding encode_labels
no-label-words = refl

-- the words of one label
abbrev pub one : Label → List ℕ
one l = encode_labels (l ∷ [])

one-first : (l : Label) (rest : List Label) → encode_labels (l ∷ rest) ≡ one l ++ encode_labels rest
unfolding encode_labels
one-first (T.case place c) rest =
    ap (λ (v : List ℕ). v ++ encode_labels rest) (sym (append-nil (item K.CASE (closed (encode_constant c) 0 place K.CASE))))
one-first (T.default place) rest = refl

one-some : (l : Label) → 0 < length (one l)
unfolding encode_labels
one-some (T.case place c) = omega arith
one-some (T.default place) = omega arith

-- a label before those after it
put-label :
    {read : ℕ → Out Label} {s s' : List ℕ} {r r' : State} → Reads read one s s' r r'
    → Follows (λ m. on_out (read m) (λ l q. ok (l ∷◌) q)) (Prepends encode_labels) s s' r r'
put-label d = bind 0 one d stays (λ l _. nothing (record {
  puts = λ rest. one-first l rest ∙ ap (λ (v : List ℕ). v ++ encode_labels rest) (sym (append-nil (one l)));
  some = omega (arith, one-some l, ap length (append-nil (one l)));
}))

-- its word, an item's two entries, what stands in it, its record, and the item's size
module _ {src : Source} {n : ℕ} {s : List ℕ} (l : HoldsSymbols src n s) {r : State} (size : ℕ) (x : ℕ) {lo start p : ℕ}
    (lo-is : lo ≡ free_of size r) (h : Here (place_at src) n r p) {s₁ s₃ s₄ : List ℕ} {r₀ r₁ r₃ r₄ : State} (le : free_of size r₀ ≤ length s)
    (start_is : start ≡ free_of size r₁) where
  label-read :
      (kind : ℕ) → 0 < kind → (next : ℕ → ℕ → Out Label) {s₂ : List ℕ} → Reads (the kind src) (λ _. []) s s r r₀
      → Adds (λ _. 0 ∷ kind ∷ []) s s₁ r₀ r₁ → Follows (next p) (λ y w. Encodes one y (item kind (closed w 0 p kind))) s₁ s₂ r₁ r₃
      → Adds (record_from start 0 p kind) s₂ s₃ r₃ r₄
      → SetsSize lo s₃ s₄ r₄ → Reads (λ at. on_out (the kind src at) next) one s s₄ r r₄
  label-read kind pos next a b c f g = here _ (placed l h kind pos next) (bind size (λ _. []) a (adds_on b then goes_on_lem c then adds_on f) (λ _ q₀.
      sized (Encodes one) kind size (λ y w e. e) le (omega arith) b (closes (λ y w. Encodes one y (item kind w)) size start_is c f) g))

  pub case-read :
      {s₂ : List ℕ} {r₂ : State} → Reads (the K.CASE src) (λ _. []) s s r r₀ → Adds (λ _. 0 ∷ K.CASE ∷ []) s s₁ r₀ r₁
      → Reads (E.constant (within x) src) encode_constant s₁ s₂ r₁ r₂ → Reads (the K.COLON src) (λ _. []) s₂ s₂ r₂ r₃
      → Adds (record_from start 0 p K.CASE) s₂ s₃ r₃ r₄ → SetsSize lo s₃ s₄ r₄ → Reads (C.case (within x) src) one s s₄ r r₄
  unfolding C.case encode_labels
  case-read a b c d f g = label-read K.CASE (omega arith)
      (λ place m. on_out (E.constant (within x) src m) (λ k q. on_out (the K.COLON src q) (λ _ w. ok (T.case place k) w))) a b
      (bind size encode_constant c (goes_on_lem d) (λ k _. bind size (λ _. []) d stays (λ _ _. nothing (record {
        same = ap (λ (w : List ℕ). item K.CASE (closed w 0 p K.CASE)) (append-nil (encode_constant k)) ∙ sym (append-nil _);
      })))) f g

  pub default-read :
      Reads (the K.DEFAULT src) (λ _. []) s s r r₀ → Adds (λ _. 0 ∷ K.DEFAULT ∷ []) s s₁ r₀ r₁ → Reads (the K.COLON src) (λ _. []) s₁ s₁ r₁ r₃
      → Adds (record_from start 0 p K.DEFAULT) s₁ s₃ r₃ r₄ → SetsSize lo s₃ s₄ r₄ → Reads (C.default (within x) src) one s s₄ r r₄
  unfolding C.default encode_labels
  default-read a b d f g = label-read K.DEFAULT (omega arith) (λ place m. on_out (the K.COLON src m) (λ _ w. ok (T.default place) w)) a b
      (bind size (λ _. []) d stays (λ _ _. nothing (record { same = refl }))) f g

-- the choice
module _ (src : Source) (x : ℕ) {s s' : List ℕ} {r r' : State} {kind : ℕ} (k : KindHere src r kind) where
  pub label-case : kind ≡ K.CASE → Reads (C.case (within x) src) one s s' r r' → Follows (C.label (within x) src) (Prepends encode_labels) s s' r r'
  unfolding C.label
  label-case q d =
      here _ (λ at free e. ap (λ (b : Bool). on_out (cond b (C.case (within x) src at) (C.default (within x) src at)) (λ y m. ok (y ∷◌) m))
      (eq-eqb (kind_at src at) K.CASE (sym (k.here at free e) ∙ q))) (put-label d)

  pub label-default :
      (kind ≡ K.CASE → ⊥) → Reads (C.default (within x) src) one s s' r r' → Follows (C.label (within x) src) (Prepends encode_labels) s s' r r'
  unfolding C.label
  label-default q d =
      here _ (λ at free e. ap (λ (b : Bool). on_out (cond b (C.case (within x) src at) (C.default (within x) src at)) (λ y m. ok (y ∷◌) m))
      (ne_eqb (kind_at src at) K.CASE (λ y. q (k.here at free e ∙ y)))) (put-label d)
