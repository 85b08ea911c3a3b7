-- The loops that read lists: what holds of the items so far, another turn, and the end.
use Rattle.text.specs.declared.faults.Fault.TheVariants as V
use Rattle.laws.proofs.Basics.{ℕ, ◌-◌, ◌<◌, ◌≡◌, refl, sym, ap, subst, ◌∙◌, List, [], ◌++◌, append_assoc, Bool, true, false, length}
use Rattle.language.specs.Kinds as K
use Rattle.language.specs.Reader.{Source, ok, Reader, on_out, the, many_up_to, more_up_to}
use Rattle.tree.specs.Reads.{HoldsSymbols, Ready, LeavesRoom, TakesRoom, Follows, Encodes, Prepends, Refuses, Reading, ReadingAt}
use Rattle.tree.proofs.Steps.{here, nothing}
use Rattle.tree.proofs.Lists.{PartlyAs, Before, begins-as, more-as, closes_as, turned, last, spent}
use Rattle.tree.proofs.Choices.{KindsHere}
use Rattle.tree.proofs.ListEnd.{list-end, list-semicolon-end, list-more, semicolon-item, list-spent}
use Rattle.tree.proofs.Symbols.{lies-still}
use Rattle.tree.proofs.Rooms.{leaves_all, leaves-first, leaves_last, left, ◌less◌, room-left}
use Rattle.tree.specs.declared.scratch.State.{State}
use Rattle.tree.specs.declared.scratch.State.TheVariants.{Read}

-- the invariant: `read` reads the items so far and then what `rest` reads, and `Says` is said of what is written for them
pub record SoFar {A : Type 0} (Says : (A → A) → List ℕ → Type 0) (read rest : Reader A) (s₀ s : List ℕ) (n : ℕ) (r₀ r : State) : Type 0 where
  pub room : LeavesRoom 0 s₀ s n r₀ r
  pub same : length s ≡ length s₀
  pub partly : (src : Source) → HoldsSymbols src n s₀ → PartlyAs (read src) (rest src) Says s₀ s r₀ r

-- how what is said of the items so far goes on, and how it ends
abbrev pub Appends : {A : Type 0} → (Says One Says' : (A → A) → List ℕ → Type 0) → Type 0
Appends {A} Says One Says' = (put put' : A → A) (w w' : List ℕ) → Says put w → One put' w' → Says' (λ x. put (put' x)) (w ++ w')

abbrev pub Ends : {A : Type 0} → (Says : (A → A) → List ℕ → Type 0) → (Rest Full : A → List ℕ → Type 0) → Type 0
Ends {A} Says Rest Full = (put : A → A) (a : A) (w v : List ℕ) → Says put w → Rest a v → Full (put a) (w ++ v)

module _ {A : Type 0} {enc : A → List ℕ} where
  pub before-first : Before enc (λ x. x) []
  before-first = record { puts = λ x. refl }

  pub before-next : Appends (Before enc) (Prepends enc) (Before enc)
  before-next put put' w w' h h' =
      record { puts = λ x. h.puts (put' x) ∙ ap (λ (l : List ℕ). w ++ l) (h'.puts x) ∙ sym (append_assoc w w' (enc x)) }

  pub before_last : Ends (Before enc) (Encodes enc) (Encodes enc)
  before_last put a w v h h' = record { same = ap (λ (l : List ℕ). w ++ l) h'.same ∙ sym (h.puts a) }

  pub wordless : {none : A} → enc none ≡ [] → Encodes enc none []
  wordless e = record { same = sym e }

module _ {A : Type 0} {Says : (A → A) → List ℕ → Type 0} {read : Reader A} {s₀ : List ℕ} {n : ℕ} {r₀ : State} where
  pub so-begins : {m : ℕ} → Ready m s₀ n r₀ → Says (λ x. x) [] → SoFar Says read read s₀ s₀ n r₀ r₀
  so-begins h e = record { room = leaves_all h; same = refl; partly = λ src l. begins-as e }

  module _ {rest : Reader A} {s : List ℕ} {r : State} (so : SoFar Says read rest s₀ s n r₀ r) where
    pub so-turns :
        (rest' : Reader A) {one : Reader (A → A)} {One Says' : (A → A) → List ℕ → Type 0} {k : ℕ} {s₁ : List ℕ} {r₁ : State}
        → Appends Says One Says' → Reading k one One s s₁ n r r₁ → length s₁ ≡ length s
        → ((src : Source) → HoldsSymbols src n s → (at free : ℕ) → r ≡ Read at free
        → rest src at ≡ on_out (one src at) (λ put m. on_out (rest' src m) (λ more q. ok (put more) q)))
        → SoFar Says' read rest' s₀ s₁ n r₀ r₁
    so-turns rest' next d e q = record {
      room = leaves-first so.room d.0;
      same = e ∙ so.same;
      partly = λ src l. let l₁ = lies-still l so.room.kept in more-as (rest' src) next (q src l₁) (so.partly src l) (d.1 src l₁);
    }

    pub so-closes :
        {Rest Full : A → List ℕ → Type 0} {k : ℕ} {s₁ : List ℕ} {r₁ : State}
        → Ends Says Rest Full → Reading k rest Rest s s₁ n r r₁ → Reading k read Full s₀ s₁ n r₀ r₁
    so-closes end d = (leaves_last so.room d.0, λ src l. closes_as end (so.partly src l) (d.1 src (lies-still l so.room.kept)))

    pub so-ends :
        (none : A) {Rest Full : A → List ℕ → Type 0} → Ends Says Rest Full → Rest none []
        → ((src : Source) → HoldsSymbols src n s → (at free : ℕ) → r ≡ Read at free → rest src at ≡ ok none at)
        → Reading 0 read Full s₀ s n r₀ r
    so-ends none end e q =
        (so.room, λ src l. closes_as end (so.partly src l) (here (λ m. ok none m) (q src (lies-still l so.room.kept)) (nothing e)))

-- the first of so many turns
module _ {A : Type 0} (read : ℕ → Reader A) {Says : (A → A) → List ℕ → Type 0} {s₀ : List ℕ} {n : ℕ} {r₀ : State} where
  pub so-starts : {m t t₀ : ℕ} → Ready m s₀ n r₀ → Says (λ x. x) [] → t ≡ t₀ → SoFar Says (read t₀) (read t) s₀ s₀ n r₀ r₀
  so-starts {t = t} h e q = subst (λ (u : ℕ). SoFar Says (read u) (read t) s₀ s₀ n r₀ r₀) q (so-begins h e)

-- { item }, up to so many
module _ {A : Type 0} (none : A) (starts : ℕ → Bool) (one : Reader (A → A)) {Says : (A → A) → List ℕ → Type 0} (t : ℕ) {s₀ s : List ℕ} {n : ℕ}
    {r₀ r : State} where
  pub many-turns :
      {read : Reader A} {One Says' : (A → A) → List ℕ → Type 0} {k kind : ℕ} {s₁ : List ℕ} {r₁ : State}
      → Appends Says One Says' → SoFar Says read (many_up_to t none starts one) s₀ s n r₀ r → KindsHere s n r kind → starts kind ≡ true
      → ReadingAt kind k one One s s₁ n r r₁ → length s₁ ≡ length s → 0 < t → {t₁ : ℕ} → t₁ ≡ t - 1
      → SoFar Says' read (many_up_to t₁ none starts one) s₀ s₁ n r₀ r₁
  many-turns {read} {One} {Says'} {s₁ = s₁} {r₁} next so k b d e h u = subst (λ (t₂ : ℕ). SoFar Says' read (many_up_to t₂ none starts one) s₀ s₁ n r₀ r₁) (sym u)
      (so-turns so (many_up_to (t - 1) none starts one) next (d.0, λ src l. d.1 src l (k src l)) e
      (λ src l at free q. turned none starts one src t at h (sym (ap starts ((k src l).here at free q)) ∙ b)))

  module _ {Rest Full : A → List ℕ → Type 0} (end : Ends Says Rest Full) (empty : Rest none []) {t₀ m : ℕ} (all : t₀ ≡ m)
      (so : SoFar Says (many_up_to t₀ none starts one) (many_up_to t none starts one) s₀ s n r₀ r) where
    all_of : Reading 0 (many_up_to t₀ none starts one) Full s₀ s n r₀ r → Reading 0 (many_up_to m none starts one) Full s₀ s n r₀ r
    all_of d = subst (λ (u : ℕ). Reading 0 (many_up_to u none starts one) Full s₀ s n r₀ r) all d

    pub many-ends : {kind : ℕ} → KindsHere s n r kind → starts kind ≡ false → Reading 0 (many_up_to m none starts one) Full s₀ s n r₀ r
    many-ends k b =
        all_of (so-ends so none end empty (λ src l at free q. last none starts one src t at (sym (ap starts ((k src l).here at free q)) ∙ b)))

    pub many-spent : t ≡ 0 → Reading 0 (many_up_to m none starts one) Full s₀ s n r₀ r
    many-spent z = all_of (so-ends so none end empty (λ src l at free q. spent none starts one src t at z))

-- { ; item } [;] $), up to so many
module _ {A : Type 0} (none : A) (one : Reader (A → A)) {enc : A → List ℕ} (t : ℕ) {read : Reader A} {s₀ s : List ℕ} {n : ℕ} {r₀ r : State}
    (so : SoFar (Before enc) read (more_up_to t none one) s₀ s n r₀ r) where
  pub list-spents : {k : ℕ} {r₁ : State} → LeavesRoom k s s n r r₁ × Refuses V.Unexpected r r₁ → t ≡ 0 → Reading k read (Encodes enc) s₀ s n r₀ r₁
  list-spents d z = so-closes so before_last (d.0, λ src l. list-spent none one src t z d.1)

  module _ {kind : ℕ} (k : KindsHere s n r kind) (en : enc none ≡ []) where
    pub list-ends :
        {r₁ : State} → kind ≡ K.END → Reading 5 (the K.END) (Encodes (λ _. [])) s s n r r₁ → 0 < t → Reading 5 read (Encodes enc) s₀ s n r₀ r₁
    list-ends q d h = so-closes so before_last (d.0, λ src l. list-end none one src (k src l) enc en t h q (d.1 src l))

    pub list-semicolon-ends :
        {kind₁ : ℕ} {r₁ r₂ : State} → (kind ≡ K.END → ⊥) → Reading 5 (the K.SEMICOLON) (Encodes (λ _. [])) s s n r r₁ → KindsHere s n r₁ kind₁
        → kind₁ ≡ K.END → Reading 5 (the K.END) (Encodes (λ _. [])) s s n r₁ r₂ → 0 < t → Reading 5 read (Encodes enc) s₀ s n r₀ r₂
    list-semicolon-ends q d k₁ q₁ d₁ h = so-closes so before_last
        (leaves_last d.0 d₁.0, λ src l. list-semicolon-end none one src (k src l) enc en t h q (k₁ src l) q₁ (d.1 src l) (d₁.1 src l))

  pub list-goes-on :
      {kind kind₁ : ℕ} {s₂ : List ℕ} {r₁ r₂ : State} → KindsHere s n r kind → (kind ≡ K.END → ⊥)
      → Reading 5 (the K.SEMICOLON) (Encodes (λ _. [])) s s n r r₁ → KindsHere s n r₁ kind₁ → (kind₁ ≡ K.END → ⊥) → TakesRoom 5 s s₂ n r₁ r₂
      → length s₂ ≡ length s → ((src : Source) → HoldsSymbols src n s → Follows (one src) (Prepends enc) s s₂ r₁ r₂) → 0 < t → {t₁ : ℕ} → t₁ ≡ t - 1
      → SoFar (Before enc) read (more_up_to t₁ none one) s₀ s₂ n r₀ r₂
  list-goes-on {s₂ = s₂} {r₂ = r₂} k q d k₁ q₁ room e g h u = subst (λ (t₂ : ℕ). SoFar (Before enc) read (more_up_to t₂ none one) s₀ s₂ n r₀ r₂) (sym u)
      (so-turns so (more_up_to (t - 1) none one) before-next
      (room-left {m = 0} (left d.0 less room) refl, λ src l. semicolon-item none one src (k src l) q (k₁ src l) q₁ (d.1 src l) (g src l)) e
      (λ src l. list-more none one src (k src l) q (k₁ src l) q₁ (d.1 src l) t h))
