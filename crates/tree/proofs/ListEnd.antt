-- { ; item } [;] $): one turn, by the symbol here and the symbol after the semicolon.
use Rattle.text.specs.declared.faults.Fault.TheVariants as V
use Rattle.laws.proofs.Basics.{ℕ, zero, suc, ◌+◌, ◌-◌, ◌<◌, ◌≡◌, refl, sym, ap, subst, ◌∙◌, List, [], ◌++◌, append-nil, true, false, length, eqb}
use Rattle.laws.proofs.Basics.{arith, eq-eqb, ne_eqb}
use Rattle.language.specs.Kinds as K
use Rattle.language.specs.Reader.{Source, Out, ok, no, Reader, on_out, kind_at, unexpected, the, more_up_to, items}
use Rattle.tree.specs.Reads.{KindHere, FollowsBy, Follows, Prepends, Reads, Refuses}
use Rattle.tree.proofs.Steps.{follow, bind, here, goes_on_lem, stopped, nothing}
use Rattle.tree.proofs.Symbols.{mapped, the-is, stays}
use Rattle.tree.proofs.Lists.{so, not_so}
use Rattle.tree.specs.declared.scratch.State.{State}
use Rattle.tree.specs.declared.scratch.State.TheVariants.{Read, Refused}

-- where a reader ends
past : {A : Type 0} → Out A → ℕ
past (ok a m) = suc m
past (no k p) = 0

-- the symbol after what is read
kind_after_by :
    {A : Type 0} (read : ℕ → Out A) (Says : A → List ℕ → Type 0) (s s' : List ℕ) (src : Source) (kind at free : ℕ) (r₁ : State) (a : A) (m : ℕ)
    → FollowsBy read Says s s' (Read at free) r₁ → KindHere src r₁ kind → read at ≡ ok a m → kind ≡ kind_at src m
unfolding past
kind_after_by read Says s s' src kind at free (Refused k p) a m d h e = let z : ◌≡◌ {A = ℕ} 0 (suc m) = ap past (sym d ∙ e) in absurd (omega arith)
kind_after_by read Says s s' src kind at free (Read next nf) a m d h e = let z : suc next ≡ suc m = ap past (sym d.is ∙ e) in
    h.here next nf refl ∙ ap (kind_at src) (omega arith)

kind-after :
    {A : Type 0} {read : ℕ → Out A} {Says : A → List ℕ → Type 0} {s s' : List ℕ} {src : Source} {kind : ℕ} {r r₁ : State}
    → Follows read Says s s' r r₁ → KindHere src r₁ kind → (at free : ℕ) → r ≡ Read at free → (a : A) (m : ℕ) → read at ≡ ok a m → kind ≡ kind_at src m
kind-after {read = read} {Says} {s} {s'} {src} {kind} {r} {r₁} d h at free e a m q =
    kind_after_by read Says s s' src kind at free r₁ a m (subst (λ (x : State). FollowsBy read Says s s' x r₁) e d.by) h q

module _ {A : Type 0} (none : A) (one : Reader (A → A)) (src : Source) where
  -- an item after a semicolon
  abbrev pub after_semicolon : ℕ → Out (A → A)
  after_semicolon at = on_out (the K.SEMICOLON src at) (λ _ m. one src m)

  -- what follows a semicolon
  abbrev or_end : (t at : ℕ) → Out A
  or_end t at = elim (eqb (kind_at src at) K.END) as (λ _. Out A)
      [ true ↦ ok none (at + 1) | false ↦ on_out (one src at) (λ put m. on_out (more_up_to t none one src m) (λ more q. ok (put more) q)) ]

  end-here : (t at : ℕ) → 0 < t → kind_at src at ≡ K.END → more_up_to t none one src at ≡ on_out (the K.END src at) (λ _ m. ok none m)
  unfolding more_up_to
  end-here zero at h e = absurd (omega arith)
  end-here (suc t) at h e = so _ _ (eq-eqb (kind_at src at) K.END e) ∙ sym (ap (λ (o : Out ℕ). on_out o (λ _ m. ok none m)) (the-is src K.END at e))

  semicolon-here :
      (t at : ℕ) → 0 < t → (kind_at src at ≡ K.END → ⊥) → more_up_to t none one src at ≡ on_out (the K.SEMICOLON src at) (λ _ m. or_end (t - 1) m)
  unfolding more_up_to
  semicolon-here zero at h e = absurd (omega arith)
  semicolon-here (suc t) at h e = let q : t ≡ suc t - 1 = omega arith in
      not_so _ _ (ne_eqb (kind_at src at) K.END e) ∙ ap (λ (u : ℕ). on_out (the K.SEMICOLON src at) (λ _ m. or_end u m)) q

  -- the same after the semicolon, where the symbol behind it is known
  behind :
      {C : Type 0} (at : ℕ) (F G : ℕ → Out C) → ((p m : ℕ) → the K.SEMICOLON src at ≡ ok p m → F m ≡ G m)
      → on_out (the K.SEMICOLON src at) (λ _ m. F m) ≡ on_out (the K.SEMICOLON src at) (λ _ m. G m)
  behind {C} at F G h = behind_by (the K.SEMICOLON src at) refl
    where
      behind_by : (o : Out ℕ) → the K.SEMICOLON src at ≡ o → on_out o (λ _ m. F m) ≡ on_out o (λ _ m. G m)
      behind_by (ok p m) e = h p m e
      behind_by (no k p) e = refl

  module _ {r : State} {kind : ℕ} (k : KindHere src r kind) {s : List ℕ} (enc : A → List ℕ) (en : enc none ≡ []) (t : ℕ) (some : 0 < t) where
    pub list-end : {r₁ : State} → kind ≡ K.END → Reads (the K.END src) (λ _. []) s s r r₁ → Reads (more_up_to t none one src) enc s s r r₁
    list-end q d = here _ (λ at free e. end-here t at some (sym (k.here at free e) ∙ q)) (mapped (λ _. none) (λ _. en) d)

    pub list-semicolon-end :
        {kind₁ : ℕ} {r₁ r₂ : State} → (kind ≡ K.END → ⊥) → KindHere src r₁ kind₁ → kind₁ ≡ K.END → Reads (the K.SEMICOLON src) (λ _. []) s s r r₁
        → Reads (the K.END src) (λ _. []) s s r₁ r₂ → Reads (more_up_to t none one src) enc s s r r₂
    list-semicolon-end {kind₁} q k₁ q₁ d d₁ = here (λ at. on_out (the K.SEMICOLON src at) (λ _ m. on_out (the K.END src m) (λ _ w. ok none w)))
        (λ at free e. semicolon-here t at some (λ y. q (k.here at free e ∙ y))
        ∙ behind at (λ m. or_end (t - 1) m) (λ m. on_out (the K.END src m) (λ _ w. ok none w))
        (λ p m h. let y : kind_at src m ≡ K.END = sym (kind-after d k₁ at free e p m h) ∙ q₁ in so _ _ (eq-eqb (kind_at src m) K.END y)
        ∙ sym (ap (λ (o : Out ℕ). on_out o (λ _ w. ok none w)) (the-is src K.END m y))))
        (bind 0 (λ _. []) d (goes_on_lem d₁) (λ _ _. mapped (λ _. none) (λ _. en) d₁))

  -- another item
  module _ {r r₁ : State} {kind kind₁ : ℕ} (k : KindHere src r kind) (q : kind ≡ K.END → ⊥) (k₁ : KindHere src r₁ kind₁)
      (q₁ : kind₁ ≡ K.END → ⊥) {s : List ℕ} (d : Reads (the K.SEMICOLON src) (λ _. []) s s r r₁) where
    assoc : (o : Out ℕ) (G : (A → A) → ℕ → Out A) → on_out o (λ _ m. on_out (one src m) G) ≡ on_out (on_out o (λ _ m. one src m)) G
    assoc (ok p m) G = refl
    assoc (no i p) G = refl

    pub list-more :
        (t : ℕ) → 0 < t → (at free : ℕ) → r ≡ Read at free
        → more_up_to t none one src at ≡ on_out (after_semicolon at) (λ put m. on_out (more_up_to (t - 1) none one src m) (λ more w. ok (put more) w))
    list-more t some at free e = semicolon-here t at some (λ y. q (k.here at free e ∙ y))
        ∙ behind at (λ m. or_end (t - 1) m) (λ m. on_out (one src m) (λ put w. on_out (more_up_to (t - 1) none one src w) (λ more x. ok (put more) x)))
        (λ p m h. not_so _ _ (ne_eqb (kind_at src m) K.END (λ y. q₁ (kind-after d k₁ at free e p m h ∙ y))))
        ∙ assoc (the K.SEMICOLON src at) (λ put w. on_out (more_up_to (t - 1) none one src w) (λ more x. ok (put more) x))

    pub semicolon-item :
        {s₂ : List ℕ} {r₂ : State} {Says : (A → A) → List ℕ → Type 0} → Follows (one src) Says s s₂ r₁ r₂ → Follows after_semicolon Says s s₂ r r₂
    semicolon-item g = bind 0 (λ _. []) d (goes_on_lem g) (λ _ _. g)

  -- as many items as there are symbols, and no end
  pub list-spent :
      {s s' : List ℕ} {r r' : State} {Says : A → List ℕ → Type 0} (t : ℕ) → t ≡ 0 → Refuses V.Unexpected r r' → Follows (more_up_to t none one src) Says s s' r r'
  unfolding more_up_to unexpected
  list-spent zero e d = stopped (λ at free h. refl) d
  list-spent (suc t) e d = absurd (omega arith)

  -- item { ; item } [;] $)
  pub listed-items :
      {n : ℕ} {s s₁ s₂ : List ℕ} {r r₁ r₂ : State} {enc : A → List ℕ} → length src.symbols ≡ n → Follows (one src) (Prepends enc) s s₁ r r₁
      → Reads (more_up_to n none one src) enc s₁ s₂ r₁ r₂ → Reads (items none one src) enc s s₂ r r₂
  unfolding items
  listed-items {n} {s} {s₁} {s₂} {r} {r₁} {r₂} {enc} en d g =
      follow 0 d (goes_on_lem g) (λ put w h _. bind 0 enc (subst (λ (m : ℕ). Reads (more_up_to m none one src) enc s₁ s₂ r₁ r₂) (sym en) g) stays
      (λ rest _. nothing (record { same = ap (λ (v : List ℕ). w ++ v) (append-nil (enc rest)) ∙ sym (h.puts rest) })))
