-- Symbols that are leaves of the tree.
use Rattle.text.specs.declared.faults.Fault.TheVariants as V
use Rattle.laws.proofs.Basics.{ℕ, ◌+◌, ◌-◌, ◌<◌, ◌≡◌, refl, sym, ap, ◌∙◌, List, [], ◌∷◌, Bool, true, false, eqb, arith, eqb-true, ne_eqb}
use Rattle.language.specs.Kinds as K
use Rattle.language.specs.Tree as T
use Rattle.language.specs.Tree.{Simple, Constant}
use Rattle.language.specs.Reader.{Source, Reader, Out, ok, no, on_out, kind_at, value_at, place_at, unexpected, any, here as place_here, the, a_name}
use Rattle.language.specs.Expressions.{numeral, quotation, truth, named, literal, truth_literal, known as known_name, simple, positive}
use Rattle.tree.specs.Reads.{HoldsSymbols, Here, KindHere, Reads, Adds, record_from, free_of, Encodes, Reading, ReadingAt}
use Rattle.tree.specs.Between.{atomic, leaving}
use Rattle.tree.specs.Encoding.{leaf, encode, encode_name, encode_unlabelled, encode_positive, encode_constant}
use Rattle.tree.proofs.Rooms.{leaves-less}
use Rattle.tree.proofs.Choices.{Refusing}
use Rattle.tree.proofs.Classes.{unlike3, unlike5}
use Rattle.text.proofs.Bytes.{Unlike}
use Rattle.tree.proofs.Steps.{on_out-id, bind, here, added, adds_on, stopped}
use Rattle.tree.proofs.Symbols.{placed, mapped, the-is, inside}
use Rattle.tree.specs.declared.scratch.State.{State}
use Rattle.tree.specs.declared.scratch.State.TheVariants.{Read}

abbrev plain : ℕ → Simple → Constant
plain p x = record { place = p; minus = false; simple = x }

abbrev pub name_of : ℕ → ℕ → T.Name
name_of p v = record { place = p; width = v }

module _ {src : Source} {n : ℕ} {s : List ℕ} (l : HoldsSymbols src n s) {r : State} where
  -- a symbol and its record
  pub leaf-read :
      (size : ℕ) {p kind value tag lo : ℕ} {s' : List ℕ} {r₁ r₂ : State} → Here (place_at src) n r p → 0 < kind
      → Reads (the kind src) (λ _. []) s s r r₁ → lo ≡ free_of size r₁ → Adds (record_from lo value p tag) s s' r₁ r₂
      → Reads (the kind src) (λ place. leaf value place tag) s s' r r₂
  leaf-read size {p} {kind} {value} {tag} {lo} {s'} {r₁} {r₂} h pos d e a = let z : free_of size r₁ - lo ≡ 0 = omega arith in
      here (λ at. on_out (the kind src at) (λ _ m. ok p m)) (λ at free q. on_out-id (the kind src at) ∙ placed l h kind pos (λ x m. ok x m) at free q)
      (bind size (λ _. []) d (adds_on a) (λ _ _. added size a (record { same = ap (λ (x : ℕ). x ∷ value ∷ p ∷ tag ∷ []) z })))

-- what `value_here` ensures, whatever the source
abbrev pub ValuesHere : (s : List ℕ) → (n : ℕ) → State → (v : ℕ) → Type 0
ValuesHere s n r v = (src : Source) → HoldsSymbols src n s → Here (value_at src) n r v

-- a leaf of the tree, and what is read where a symbol of that kind stands
abbrev IsLeaf : (x value tag : ℕ) → (s s' : List ℕ) → ℕ → (r r' : State) → Type 0
IsLeaf x value tag s s' n r r' = Reading 1 (the x) (Encodes (λ place. leaf value place tag)) s s' n r r'

abbrev IsAtom : (kind : ℕ) → (s s' : List ℕ) → ℕ → (r r' : State) → Type 0
IsAtom kind s s' n r r' = ReadingAt kind 1 atomic (Encodes encode) s s' n r r'

abbrev IsConstant : (kind : ℕ) → (s s' : List ℕ) → ℕ → (r r' : State) → Type 0
IsConstant kind s s' n r r' = ReadingAt kind 1 positive (Encodes encode_constant) s s' n r r'

module _ {s s' : List ℕ} {n : ℕ} {r r' : State} {v : ℕ} (values : ValuesHere s n r v) where
  -- a symbol of that kind, which makes F of its place
  pub symbol-is :
      {A : Type 0} {read : Reader A} {words : ℕ → List ℕ} {enc : A → List ℕ} {kind x : ℕ} (F : ℕ → A) → 0 < x
      → ((src : Source) (at : ℕ) → kind_at src at ≡ x → v ≡ value_at src at → read src at ≡ ok (F (place_at src at)) (at + 1))
      → ((place : ℕ) → enc (F place) ≡ words place) → kind ≡ x → (src : Source) → HoldsSymbols src n s → KindHere src r kind
      → Reads (the x src) words s s' r r' → Reads (read src) enc s s' r r'
  symbol-is {x = x} F pos e law q src l k d = here (λ at. on_out (the x src at) (λ place m. ok (F place) m))
      (λ at free h. let y : kind_at src at ≡ x = sym (k.here at free h) ∙ q in
      e src at y ((values src l).here at free h (inside l at (omega arith)))
      ∙ sym (ap (λ (o : Out ℕ). on_out o (λ place m. ok (F place) m)) (the-is src x at y))) (mapped F law d)

  module _ {kind : ℕ} where
    symbol-leaf :
        {A : Type 0} {read : Reader A} {enc : A → List ℕ} {x value tag : ℕ} (F : ℕ → A) → 0 < x
        → ((src : Source) (at : ℕ) → kind_at src at ≡ x → v ≡ value_at src at → read src at ≡ ok (F (place_at src at)) (at + 1))
        → ((place : ℕ) → enc (F place) ≡ leaf value place tag) → kind ≡ x
        → Reading 1 (the x) (Encodes (λ place. leaf value place tag)) s s' n r r' → ReadingAt kind 1 read (Encodes enc) s s' n r r'
    symbol-leaf F pos e law q d = (d.0, λ src l k. symbol-is F pos e law q src l k (d.1 src l))

    pub number_read : kind ≡ K.NUMBER → IsLeaf K.NUMBER v K.NUMBER s s' n r r' → IsAtom kind s s' n r r'
    unfolding atomic numeral any encode
    number_read q d = symbol-leaf (λ place. T.number place v) (omega arith) (λ src at y z. rw (y, ← z)) (λ _. refl) q d

    pub string-read : kind ≡ K.STRING → IsLeaf K.STRING v K.STRING s s' n r r' → IsAtom kind s s' n r r'
    unfolding atomic quotation any encode
    string-read q d = symbol-leaf (λ place. T.string place v) (omega arith) (λ src at y z. rw (y, ← z)) (λ _. refl) q d

    pub name-read : kind ≡ K.NAME → IsLeaf K.NAME v K.NAME s s' n r r' → IsAtom kind s s' n r r'
    unfolding atomic named a_name encode encode_name
    name-read q d = symbol-leaf (λ place. T.name (name_of place v)) (omega arith) (λ src at y z. rw (y, ← z)) (λ _. refl) q d

    pub true-read : kind ≡ K.TRUE → IsLeaf K.TRUE 65535 K.NUMBER s s' n r r' → IsAtom kind s s' n r r'
    unfolding atomic truth any encode
    true-read q d = symbol-leaf {x = K.TRUE} (λ place. T.number place 65535) (omega arith) (λ src at y z. rw y) (λ _. refl) q d

    pub false-read : kind ≡ K.FALSE → IsLeaf K.FALSE 0 K.NUMBER s s' n r r' → IsAtom kind s s' n r r'
    unfolding atomic truth any encode
    false-read q d = symbol-leaf {x = K.FALSE} (λ place. T.number place 0) (omega arith) (λ src at y z. rw y) (λ _. refl) q d

    -- a constant without a minus
    pub positive-number : kind ≡ K.NUMBER → IsLeaf K.NUMBER v K.NUMBER s s' n r r' → IsConstant kind s s' n r r'
    unfolding positive place_here simple literal any encode_constant encode_positive
    positive-number q d = symbol-leaf (λ place. plain place (T.literal v)) (omega arith) (λ src at y z. rw (y, ← z)) (λ _. refl) q d

    pub positive-true : kind ≡ K.TRUE → IsLeaf K.TRUE 65535 K.NUMBER s s' n r r' → IsConstant kind s s' n r r'
    unfolding positive place_here simple truth_literal any encode_constant encode_positive
    positive-true q d = symbol-leaf {x = K.TRUE} (λ place. plain place (T.literal 65535)) (omega arith) (λ src at y z. rw y) (λ _. refl) q d

    pub positive-false : kind ≡ K.FALSE → IsLeaf K.FALSE 0 K.NUMBER s s' n r r' → IsConstant kind s s' n r r'
    unfolding positive place_here simple truth_literal any encode_constant encode_positive
    positive-false q d = symbol-leaf {x = K.FALSE} (λ place. plain place (T.literal 0)) (omega arith) (λ src at y z. rw y) (λ _. refl) q d

-- none of them
pub other-read :
    {s : List ℕ} {n : ℕ} {r r' : State} {kind : ℕ} → Unlike kind (K.NAME ∷ K.FALSE ∷ K.TRUE ∷ K.STRING ∷ K.NUMBER ∷ []) → Refusing V.Unexpected s n r r'
    → ReadingAt kind 1 atomic (Encodes encode) s s n r r'
unfolding atomic unexpected
other-read {kind = kind} w g = let u = unlike5 w in (
  leaves-less g.0 refl,
  λ src l k. stopped (λ at free e. let h = k.here at free e in rw (
    ne_eqb _ _ (λ x. u.0 (h ∙ x)),
    ne_eqb _ _ (λ x. u.1 (h ∙ x)),
    ne_eqb _ _ (λ x. u.2 (h ∙ x)),
    ne_eqb _ _ (λ x. u.3 (h ∙ x)),
    ne_eqb _ _ (λ x. u.4 (h ∙ x)),
  )) g.1,
)

-- a word that leaves something
pub leave-read :
    {src : Source} {kind : ℕ} {s s' : List ℕ} {r r' : State} → KindHere src r kind → Reads (the kind src) (λ place. leaf 0 place kind) s s' r r'
    → Reads (leaving src) encode_unlabelled s s' r r'
unfolding leaving any encode_unlabelled
leave-read {src} {kind} k d = here _ (λ at free e. let q = k.here at free e in ap (λ (y : ℕ). ok (T.leave y (place_at src at)) (at + 1)) (sym q)
    ∙ sym (ap (λ (o : Out ℕ). on_out o (λ place m. ok (T.leave kind place) m)) (the-is src kind at (sym q)))) (mapped (T.leave kind) (λ _. refl) d)

-- a number and its record at another place
pub negated-read :
    {first : ℕ → Out ℕ} (size : ℕ) {value place lo : ℕ} {s s' : List ℕ} {r r₁ r₂ : State} → Reads first (λ _. []) s s r r₁ → lo ≡ free_of size r₁
    → Adds (record_from lo value place K.MINUS) s s' r₁ r₂ → Reads first (λ _. leaf value place K.MINUS) s s' r r₂
negated-read {first} size {value} {place} {lo} {s} {s'} {r} {r₁} {r₂} d e a = let z : free_of size r₁ - lo ≡ 0 = omega arith in
    here (λ at. on_out (first at) (λ x m. ok x m)) (λ at free q. on_out-id (first at))
    (bind size (λ _. []) d (adds_on a) (λ _ _. added size a (record { same = ap (λ (x : ℕ). x ∷ value ∷ place ∷ K.MINUS ∷ []) z })))

-- the place that is read is that of the symbol here
place_by :
    {C : Type 0} (src : Source) (kind at : ℕ) (F : ℕ → ℕ → ℕ → Out C) (b : Bool) → eqb (kind_at src at) kind ≡ b
    → on_out (the kind src at) (λ p m. F p (place_at src at) m) ≡ on_out (the kind src at) (λ p m. F p p m)
unfolding the unexpected
place_by src kind at F true q = rw q refl
place_by src kind at F false q = rw q refl

the-place :
    {C : Type 0} (src : Source) (kind at : ℕ) (F : ℕ → ℕ → ℕ → Out C)
    → on_out (the kind src at) (λ p m. F p (place_at src at) m) ≡ on_out (the kind src at) (λ p m. F p p m)
the-place src kind at F = place_by src kind at F (eqb (kind_at src at) kind) refl

nested-name :
    (o : Out T.Name) (p : ℕ) → on_out (on_out o (λ y m. ok (T.known y) m)) (λ x m. ok (plain p x) m) ≡ on_out o (λ y m. ok (plain p (T.known y)) m)
nested-name (ok y m) p = refl
nested-name (no i j) p = refl

-- a name, whether it stands here or not
module _ {src : Source} {n : ℕ} {s : List ℕ} (l : HoldsSymbols src n s) {r : State} {value : ℕ} (h : Here (value_at src) n r value) where
  name_by :
      {C : Type 0} (G : T.Name → ℕ → Out C) (at free : ℕ) → r ≡ Read at free → (b : Bool) → eqb (kind_at src at) K.NAME ≡ b
      → on_out (a_name src at) G ≡ on_out (the K.NAME src at) (λ p m. G (record { place = p; width = value }) m)
  unfolding a_name the unexpected
  name_by {C} G at free e true q =
      let v : value ≡ value_at src at = h.here at free e (inside l at (omega (arith, eqb-true (kind_at src at) K.NAME q))) in
      rw (q, v) refl
  name_by {C} G at free e false q = rw q refl

  pub name-at :
      {C : Type 0} (G : T.Name → ℕ → Out C) (at free : ℕ) → r ≡ Read at free
      → on_out (a_name src at) G ≡ on_out (the K.NAME src at) (λ p m. G (record { place = p; width = value }) m)
  name-at G at free e = name_by G at free e (eqb (kind_at src at) K.NAME) refl

pub positive-name :
    {s s' : List ℕ} {n : ℕ} {r r' : State} {kind v : ℕ} → ValuesHere s n r v → Unlike kind (K.FALSE ∷ K.TRUE ∷ K.NUMBER ∷ [])
    → Reading 1 (the K.NAME) (Encodes (λ place. leaf v place K.NAME)) s s' n r r' → ReadingAt kind 1 positive (Encodes encode_constant) s s' n r r'
unfolding positive place_here simple known_name encode_constant encode_positive encode_name
positive-name {v = v} values w d = let u = unlike3 w in (
  d.0,
  λ src l k. here _ (λ at free e. let h = k.here at free e in rw (
    ne_eqb (kind_at src at) K.NUMBER (λ x. u.0 (h ∙ x)),
    ne_eqb (kind_at src at) K.TRUE (λ x. u.1 (h ∙ x)),
    ne_eqb (kind_at src at) K.FALSE (λ x. u.2 (h ∙ x)),
  ) (nested-name (a_name src at) (place_at src at) ∙ name-at l (values src l) (λ y m. ok (plain (place_at src at) (T.known y)) m) at free e
      ∙ the-place src K.NAME at (λ p q m. ok (plain q (T.known (name_of p v))) m)))
      (mapped (λ place. plain place (T.known (name_of place v))) (λ _. refl) (d.1 src l)),
)
