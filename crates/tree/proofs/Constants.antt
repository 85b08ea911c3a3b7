-- Constants with a minus, and the choice.
use Rattle.text.specs.declared.faults.Fault.TheVariants as V
use Rattle.laws.proofs.Basics.{ℕ, ◌+◌, ◌-◌, ◌<◌, ◌≡◌, refl, sym, ap, ◌∙◌, List, [], ◌∷◌, ◌++◌, true, arith, ne_eqb}
use Rattle.language.specs.Kinds as K
use Rattle.language.specs.Tree as T
use Rattle.language.specs.Tree.{Simple, Constant}
use Rattle.language.specs.Reader.{Source, Out, ok, no, on_out, kind_at, place_at, any, the, a_name}
use Rattle.language.specs.Expressions as E
use Rattle.language.specs.Expressions.{Inside, inside, opening}
use Rattle.language.specs.Grammar.{within, readers}
use Rattle.tree.specs.Reads.{LeavesRoom, TakesRoom, Encodes, Reading, ReadingAt, HoldsSymbols, Here, Reads, Adds, record_from, free_of}
use Rattle.tree.specs.Encoding.{closed, leaf, encode_name, encode_negative, encode_constant}
use Rattle.tree.proofs.Steps.{on_out-id, bind, here, added, adds_on, goes_on_lem}
use Rattle.tree.proofs.Symbols.{placed, mapped}
use Rattle.tree.proofs.Leaves.{ValuesHere, symbol-is, name-at, name_of}
use Rattle.tree.proofs.Rooms.{leaves_last, left, ◌less◌, room-left}
use Rattle.tree.proofs.Classes.{unlike3}
use Rattle.text.proofs.Bytes.{Unlike}
use Rattle.tree.proofs.Readers.{deeper}
use Rattle.tree.proofs.Choices.{KindsHere, Expects, Refusing, refused-here, shut_at, chosen, picked}
use Rattle.tree.specs.declared.scratch.State.{State}

abbrev minus : ℕ → Simple → Constant
minus p x = record { place = p; minus = true; simple = x }

nested : (p : ℕ) (o : Out T.Name) → on_out (on_out o (λ y m. ok (T.known y) m)) (λ x m. ok (minus p x) m) ≡ on_out o (λ y m. ok (minus p (T.known y)) m)
nested p (ok y m) = refl
nested p (no i j) = refl

-- a name's leaf and the record around it
pub negated-name-read :
    {first : ℕ → Out ℕ} (size : ℕ) {value place lo : ℕ} {s s₁ s₂ : List ℕ} {r r₁ r₂ : State} → lo ≡ free_of size r
    → Reads first (λ at. leaf value at K.NAME) s s₁ r r₁ → Adds (record_from lo 0 place K.MINUS) s₁ s₂ r₁ r₂
    → Reads first (λ at. closed (leaf value at K.NAME) 0 place 36) s s₂ r r₂
negated-name-read {first} size {value} {place} {lo} {s} {s₁} {s₂} {r} {r₁} {r₂} lo-is d a =
    here (λ at. on_out (first at) (λ x m. ok x m)) (λ at free q. on_out-id (first at)) (bind size (λ at. leaf value at K.NAME) d (adds_on a)
    (λ x q. added size a (record { same = ap (λ (z : ℕ). leaf value x K.NAME ++ (z ∷ 0 ∷ place ∷ K.MINUS ∷ [])) (omega arith) })))

pub negative-shut :
    (x : ℕ) {s : List ℕ} {n : ℕ} {r r' : State} → x ≡ 0 → Refusing V.TooDeep s n r r' → Reading 1 (E.negative (within x)) (Encodes encode_constant) s s n r r'
unfolding E.negative opening
negative-shut x h d = refused-here refl d (λ src at. ap (λ (i : Inside). E.negative i src at) (shut_at x h))

-- a minus, and what stands after it
module _ (x : ℕ) {s s₂ : List ℕ} {n : ℕ} {r r₁ r₂ : State} {p : ℕ} (places : (src : Source) → HoldsSymbols src n s → Here (place_at src) n r p)
    (deep : x ≡ 0 → ⊥) (a : Expects K.MINUS s n r r₁) {kind : ℕ} (kinds : KindsHere s n r₁ kind) {v : ℕ} (values : ValuesHere s n r₁ v) where
  after_minus :
      LeavesRoom 1 s s₂ n r r₂
      → ((src : Source) → HoldsSymbols src n s → Reads (λ m. on_out (E.simple src m) (λ y q. ok (minus p y) q)) encode_constant s s₂ r₁ r₂)
      → Reading 1 (E.negative (within x)) (Encodes encode_constant) s s₂ n r r₂
  unfolding E.negative opening
  after_minus room b = (
    room,
    λ src l. here (E.negative (inside (readers (within (x - 1)))) src) (λ at free e. ap (λ (i : Inside). E.negative i src at) (deeper x deep))
        (here _ (placed l (places src l) K.MINUS (omega arith) (λ place m. on_out (E.simple src m) (λ y q. ok (minus place y) q)))
        (bind 0 (λ _. []) (a.1 src l) (goes_on_lem (b src l)) (λ _ _. b src l))),
  )

  pub negative-number :
      kind ≡ K.NUMBER → Reading 1 (the K.NUMBER) (Encodes (λ _. leaf v p K.MINUS)) s s₂ n r₁ r₂
      → Reading 1 (E.negative (within x)) (Encodes encode_constant) s s₂ n r r₂
  unfolding E.simple E.literal any encode_constant encode_negative
  negative-number q d =
      after_minus (leaves_last a.0 d.0) (λ src l. symbol-is values {read = λ src m. on_out (E.simple src m) (λ y q. ok (minus p y) q)}
      (λ _. minus p (T.literal v)) (omega arith) (λ src at y z. rw (y, ← z)) (λ _. refl) q src l (kinds src l) (d.1 src l))

  -- TRUE or FALSE
  truth-read :
      {word value : ℕ} → 0 < word → ((src : Source) (at : ℕ) → kind_at src at ≡ word → E.simple src at ≡ ok (T.literal value) (at + 1)) → kind ≡ word
      → Reading 1 (the word) (Encodes (λ _. leaf value p K.MINUS)) s s₂ n r₁ r₂ → Reading 1 (E.negative (within x)) (Encodes encode_constant) s s₂ n r
      r₂
  unfolding encode_constant encode_negative
  truth-read {value = value} pos e q d =
      after_minus (leaves_last a.0 d.0) (λ src l. symbol-is values {read = λ src m. on_out (E.simple src m) (λ y q. ok (minus p y) q)}
      (λ _. minus p (T.literal value)) pos (λ src at y z. ap (λ (o : Out Simple). on_out o (λ y q. ok (minus p y) q)) (e src at y)) (λ _. refl) q src l
      (kinds src l) (d.1 src l))

  pub negative-true :
      kind ≡ K.TRUE → Reading 1 (the K.TRUE) (Encodes (λ _. leaf 65535 p K.MINUS)) s s₂ n r₁ r₂
      → Reading 1 (E.negative (within x)) (Encodes encode_constant) s s₂ n r r₂
  unfolding E.simple E.truth_literal any
  negative-true q d = truth-read {word = K.TRUE} (omega arith) (λ src at y. rw y) q d

  pub negative-false :
      kind ≡ K.FALSE → Reading 1 (the K.FALSE) (Encodes (λ _. leaf 0 p K.MINUS)) s s₂ n r₁ r₂
      → Reading 1 (E.negative (within x)) (Encodes encode_constant) s s₂ n r r₂
  unfolding E.simple E.truth_literal any
  negative-false q d = truth-read {word = K.FALSE} (omega arith) (λ src at y. rw y) q d

  pub negative-name :
      Unlike kind (K.FALSE ∷ K.TRUE ∷ K.NUMBER ∷ [])
      → TakesRoom 3 s s₂ n r₁ r₂ × ((src : Source) → HoldsSymbols src n s → Reads (the K.NAME src) (λ at. closed (leaf v at K.NAME) 0 p K.MINUS) s s₂
      r₁ r₂)
      → Reading 1 (E.negative (within x)) (Encodes encode_constant) s s₂ n r r₂
  unfolding E.simple E.known encode_constant encode_negative encode_name
  negative-name w d = let u = unlike3 w in
      after_minus (room-left (left a.0 less d.0) refl) (λ src l. here _ (λ at free e. let h = (kinds src l).here at free e in
      rw (
        ne_eqb (kind_at src at) K.NUMBER (λ z. u.0 (h ∙ z)),
        ne_eqb (kind_at src at) K.TRUE (λ z. u.1 (h ∙ z)),
        ne_eqb (kind_at src at) K.FALSE (λ z. u.2 (h ∙ z)),
      ) (nested p (a_name src at) ∙ name-at l (values src l) (λ y m. ok (minus p (T.known y)) m) at free e))
      (mapped (λ at. minus p (T.known (name_of at v))) (λ _. refl) (d.1 src l)))

module _ (x : ℕ) {s s' : List ℕ} {n : ℕ} {r r' : State} {kind : ℕ} (kinds : KindsHere s n r kind) where
  pub constant-negative :
      kind ≡ K.MINUS → Reading 1 (E.negative (within x)) (Encodes encode_constant) s s' n r r'
      → Reading 1 (E.constant (within x)) (Encodes encode_constant) s s' n r r'
  unfolding E.constant
  constant-negative q d = picked kinds _ (λ src at h. rw (h ∙ q)) d

  pub constant-positive :
      (kind ≡ K.MINUS → ⊥) → ReadingAt kind 1 E.positive (Encodes encode_constant) s s' n r r'
      → Reading 1 (E.constant (within x)) (Encodes encode_constant) s s' n r r'
  unfolding E.constant
  constant-positive q d = chosen kinds _ (λ src at h. rw (ne_eqb (kind_at src at) K.MINUS (λ y. q (sym h ∙ y)))) d
