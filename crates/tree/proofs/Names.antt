-- Names, one and after commas, and what may be left out: a symbol, and BY with its constant.
use Rattle.laws.proofs.Basics.{ℕ, ◌≡◌, refl, sym, ap, ◌∙◌, List, [], Bool, true, false, cond, some, none, arith, eq-eqb, ne_eqb}
use Rattle.language.specs.Kinds as K
use Rattle.language.specs.Reader.{Source, Out, ok, on_out, kind_at, value_at, the, optional, a_name}
use Rattle.language.specs.Expressions as E
use Rattle.language.specs.Commands as C
use Rattle.language.specs.Grammar.{within, readers}
use Rattle.tree.specs.Reads.{HoldsSymbols, Here, KindHere, Prepends, Reads, Encodes, Reading, Ready}
use Rattle.tree.specs.Between.{a_further_name}
use Rattle.tree.specs.Encoding.{leaf, encode_name, encode_names, encode_constant, encode_by}
use Rattle.tree.proofs.Choices.{KindsHere, Expects, picked}
use Rattle.tree.proofs.Rooms.{leaves_all, leaves-less, leaves_last}
use Rattle.tree.proofs.Steps.{on_out-id, bind, here, goes_on_lem, nothing}
use Rattle.tree.proofs.Symbols.{mapped, the-is, stays}
use Rattle.tree.proofs.Leaves.{name-at, name_of}
use Rattle.tree.specs.declared.scratch.State.{State}

pub a-name-read :
    {src : Source} {n : ℕ} {s s' : List ℕ} {r r' : State} {value : ℕ} → HoldsSymbols src n s → Here (value_at src) n r value
    → Reads (the K.NAME src) (λ place. leaf value place K.NAME) s s' r r' → Reads (a_name src) encode_name s s' r r'
unfolding encode_name
a-name-read {src} {value = value} l h d =
    here _ (λ at free e. on_out-id (a_name src at) ∙ name-at l h (λ y m. ok y m) at free e) (mapped (λ place. name_of place value) (λ _. refl) d)

-- a comma and a name
pub further-name-reads :
    {s s₁ : List ℕ} {n : ℕ} {r r₀ r₁ : State} → Expects K.COMMA s n r r₀ → Reading 1 a_name (Encodes encode_name) s s₁ n r₀ r₁
    → Reading 1 a_further_name (Prepends encode_names) s s₁ n r r₁
unfolding a_further_name encode_name encode_names
further-name-reads c d = (
  leaves_last c.0 d.0,
  λ src l. bind 0 (λ _. []) (c.1 src l) (goes_on_lem (d.1 src l))
      (λ _ _. bind 0 encode_name (d.1 src l) stays (λ y _. nothing (record { puts = λ rest. refl; some = omega arith }))),
)

pub no-name-words : encode_names [] ≡ []
unfolding encode_names
no-name-words = refl

-- a symbol, if it stands here
module _ (kind : ℕ) {s : List ℕ} {n : ℕ} {r : State} {x : ℕ} (kinds : KindsHere s n r x) where
  pub optional-here : {r' : State} → x ≡ kind → Expects kind s n r r' → Reading 0 (optional kind) (Encodes (λ _. [])) s s n r r'
  unfolding optional
  optional-here q d = picked kinds (λ src at. on_out (the kind src at) (λ _ m. ok true m))
      (λ src at h. rw (eq-eqb (kind_at src at) kind (h ∙ q)) (sym (ap (λ (o : Out ℕ). on_out o (λ _ m. ok true m)) (the-is src kind at (h ∙ q)))))
      (leaves-less d.0 refl, λ src l. mapped (λ _. true) (λ _. refl) (d.1 src l))

  pub optional-not : (x ≡ kind → ⊥) → Ready 0 s n r → Reading 0 (optional kind) (Encodes (λ _. [])) s s n r r
  unfolding optional
  optional-not q p = picked kinds (λ _ m. ok false m) (λ src at h. rw (ne_eqb (kind_at src at) kind (λ y. q (sym h ∙ y))))
      (leaves_all p, λ src l. nothing (record { same = refl }))

-- BY and a constant, if BY stands here
module _ (src : Source) (x : ℕ) {s : List ℕ} {r : State} {kind : ℕ} (k : KindHere src r kind) where
  pub by_read :
      {s₁ : List ℕ} {r₀ r₁ : State} → kind ≡ K.BY → Reads (the K.BY src) (λ _. []) s s r r₀
      → Reads (E.constant (within x) src) encode_constant s s₁ r₀ r₁ → Reads (C.optional_by (readers (within x)) src) encode_by s s₁ r r₁
  unfolding C.optional_by C.by encode_by
  by_read q a d = here (C.by (readers (within x)) src) (λ at free e. ap (λ (b : Bool). cond b (C.by (readers (within x)) src at) (ok none at))
      (eq-eqb (kind_at src at) K.BY (sym (k.here at free e) ∙ q))) (bind 0 (λ _. []) a (goes_on_lem d) (λ _ _. mapped some (λ _. refl) d))

  pub no-by : (kind ≡ K.BY → ⊥) → Reads (C.optional_by (readers (within x)) src) encode_by s s r r
  unfolding C.optional_by encode_by
  no-by q = here (λ m. ok none m) (λ at free e. ap (λ (b : Bool). cond b (C.by (readers (within x)) src at) (ok none at))
      (ne_eqb (kind_at src at) K.BY (λ y. q (k.here at free e ∙ y)))) (nothing (record { same = refl }))
