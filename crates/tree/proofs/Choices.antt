-- Choices by the symbol here: what the next call reads is what is to be read.
use Rattle.text.specs.Faults.{number_of}
use Rattle.text.specs.declared.faults.Fault.TheVariants as V
use Rattle.text.specs.declared.faults.Fault.{Fault}
use Rattle.laws.proofs.Basics.{ℕ, zero, suc, ◌-◌, ◌≡◌, refl, sym, ap, ◌∙◌, List, [], ◌∷◌, Bool, true, false, cond, eqb, leb, arith, eq-eqb, ne_eqb}
use Rattle.language.specs.Kinds as K
use Rattle.language.specs.Reader.{Source, no, Reader, kind_at, the}
use Rattle.language.specs.Binding.{is_monadic, NEGATION}
use Rattle.language.specs.Expressions as E
use Rattle.language.specs.Expressions.{Inside, shut, opening}
use Rattle.language.specs.Tree.{Expression, Suffixes}
use Rattle.language.specs.Grammar.{within}
use Rattle.language.proofs.Bindings.{negation}
use Rattle.tree.specs.Reads.{HoldsSymbols, LeavesRoom, KindHere, Encodes, Refuses, Reading, ReadingAt}
use Rattle.tree.specs.Between.{PrependsSuffix, atomic}
use Rattle.tree.specs.Encoding.{encode}
use Rattle.tree.proofs.Steps.{here, stopped}
use Rattle.tree.proofs.Rooms.{leaves-less}
use Rattle.tree.proofs.Classes.{unlike2}
use Rattle.text.proofs.Bytes.{Unlike}
use Rattle.tree.specs.declared.scratch.State.{State}

-- the symbol here is of that kind, whatever the source
abbrev pub KindsHere : (s : List ℕ) → (n : ℕ) → State → (kind : ℕ) → Type 0
KindsHere s n r kind = (src : Source) → HoldsSymbols src n s → KindHere src r kind

-- what `expect` ensures
abbrev pub Expects : (kind : ℕ) → (s : List ℕ) → (n : ℕ) → State → State → Type 0
Expects kind s n r r' = Reading 5 (the kind) (Encodes (λ _. [])) s s n r r'

-- a refusal, as `refuse` makes it
abbrev pub Refusing : (fault : Fault) → (s : List ℕ) → (n : ℕ) → State → State → Type 0
Refusing fault s n r r' = LeavesRoom 5 s s n r r' × Refuses fault r r'

module _ {A : Type 0} {Says : A → List ℕ → Type 0} {k : ℕ} {s s' : List ℕ} {n : ℕ} {r r' : State} where
  pub at-any : {read : Reader A} {kind : ℕ} → Reading k read Says s s' n r r' → ReadingAt kind k read Says s s' n r r'
  at-any d = (d.0, λ src l _. d.1 src l)

  module _ {read : Reader A} {kind : ℕ} (kinds : KindsHere s n r kind) where
    pub chosen :
        (read' : Reader A) → ((src : Source) (at : ℕ) → kind_at src at ≡ kind → read src at ≡ read' src at)
        → ReadingAt kind k read' Says s s' n r r' → Reading k read Says s s' n r r'
    chosen read' e d = (d.0, λ src l. here (read' src) (λ at free q. e src at (sym ((kinds src l).here at free q))) (d.1 src l (kinds src l)))

    pub picked :
        (read' : Reader A) → ((src : Source) (at : ℕ) → kind_at src at ≡ kind → read src at ≡ read' src at)
        → Reading k read' Says s s' n r r' → Reading k read Says s s' n r r'
    picked read' e d = chosen read' e (at-any {read = read'} d)

-- refused, whatever is to be read: no level is left
module _ {A : Type 0} {Says : A → List ℕ → Type 0} {m : ℕ} {fault : Fault} {s : List ℕ} {n : ℕ} {r r' : State} (few : leb m 5 ≡ true)
    (d : Refusing fault s n r r') where
  pub refused-at :
      {read : Reader A} {kind : ℕ} → KindsHere s n r kind → ((src : Source) (at : ℕ) → kind_at src at ≡ kind → read src at ≡ no (number_of fault) at)
      → Reading m read Says s s n r r'
  refused-at kinds e = (leaves-less d.0 few, λ src l. stopped (λ at free q. e src at (sym ((kinds src l).here at free q))) d.1)

  pub refused-here : {read : Reader A} → ((src : Source) (at : ℕ) → read src at ≡ no (number_of fault) at) → Reading m read Says s s n r r'
  refused-here e = (leaves-less d.0 few, λ src l. stopped (λ at free q. e src at) d.1)

pub shut_at : (x : ℕ) → x ≡ 0 → within x ≡ shut
unfolding within
shut_at zero h = refl
shut_at (suc x) h = absurd (omega arith)

module _ (x : ℕ) (h : x ≡ 0) {s : List ℕ} {n : ℕ} {r r' : State} (d : Refusing V.TooDeep s n r r') where
  pub bracketed-shut : Reading 1 (E.bracketed (within x)) (Encodes encode) s s n r r'
  unfolding E.bracketed opening
  bracketed-shut = refused-here refl d (λ src at. ap (λ (i : Inside). E.bracketed i src at) (shut_at x h))

  pub valof-shut : Reading 1 (E.valof (within x)) (Encodes encode) s s n r r'
  unfolding E.valof opening
  valof-shut = refused-here refl d (λ src at. ap (λ (i : Inside). E.valof i src at) (shut_at x h))

  pub monadic-shut : {kind : ℕ} → ReadingAt kind 1 (E.monadic (within x)) (Encodes encode) s s n r r'
  unfolding E.monadic opening
  monadic-shut = at-any (refused-here refl d (λ src at. ap (λ (i : Inside). E.monadic i src at) (shut_at x h)))

  pub arguments-shut : {Says : (Suffixes → Suffixes) → List ℕ → Type 0} → Reading 4 (E.arguments (within x)) Says s s n r r'
  unfolding E.arguments opening
  arguments-shut = refused-here refl d (λ src at. ap (λ (i : Inside). E.arguments i src at) (shut_at x h))

-- expressions: a callee's test of the symbol, and what it says
pub expression-none :
    (x b : ℕ) {s s' : List ℕ} {n : ℕ} {r r' : State} → b ≡ 0 → Reading 1 (E.operand (within x)) (Encodes encode) s s' n r r'
    → Reading 1 (E.expression (within x) b) (Encodes encode) s s' n r r'
unfolding E.expression
expression-none x b h d = (d.0, λ src l. here _ (λ at free e. ap (λ (y : ℕ). E.expression (within x) y src at) h) (d.1 src l))

-- the binding of NOT
at-not :
    (x b : ℕ) → b ≡ NEGATION → (src : Source) (at : ℕ)
    → E.expression (within x) b src at ≡ cond (eqb (kind_at src at) K.NOT) (E.monadic (within x) src at) (E.expression (within x) 4 src at)
at-not x b is-not src at = ap (λ (y : ℕ). E.expression (within x) y src at) is-not ∙ negation (within x) src at

abbrev Reads-by : Reader Expression → (s s' : List ℕ) → ℕ → (r r' : State) → Type 0
Reads-by read s s' n r r' = Reading 1 read (Encodes encode) s s' n r r'

module _ (x : ℕ) {s s' : List ℕ} {n : ℕ} {r r' : State} {kind : ℕ} where
  module _ (kinds : KindsHere s n r kind) where
    module _ {b : Bool} (e : b ≡ is_monadic kind) where
      module _ (q : b ≡ true) (d : ReadingAt kind 1 (E.monadic (within x)) (Encodes encode) s s' n r r') where
        pub operand-monadic : Reads-by (E.operand (within x)) s s' n r r'
        unfolding E.operand
        operand-monadic = chosen kinds _ (λ src at h. rw (ap is_monadic h ∙ sym e ∙ q)) d

        pub subscript-monadic : Reads-by (E.subscript (within x)) s s' n r r'
        unfolding E.subscript
        subscript-monadic = chosen kinds _ (λ src at h. rw (ap is_monadic h ∙ sym e ∙ q)) d

      module _ (q : b ≡ false) where
        pub operand-suffixed : Reads-by (E.suffixed (within x)) s s' n r r' → Reads-by (E.operand (within x)) s s' n r r'
        unfolding E.operand
        operand-suffixed d = picked kinds _ (λ src at h. rw (ap is_monadic h ∙ sym e ∙ q)) d

        pub subscript-primary : Reads-by (E.primary (within x)) s s' n r r' → Reads-by (E.subscript (within x)) s s' n r r'
        unfolding E.subscript
        subscript-primary d = picked kinds _ (λ src at h. rw (ap is_monadic h ∙ sym e ∙ q)) d

    module _ (b : ℕ) (is-not : b ≡ NEGATION) where
      pub expression-not :
          kind ≡ K.NOT → ReadingAt kind 1 (E.monadic (within x)) (Encodes encode) s s' n r r'
          → Reads-by (E.expression (within x) b) s s' n r r'
      expression-not q d = chosen kinds _ (λ src at h. at-not x b is-not src at ∙ rw (eq-eqb _ _ (h ∙ q))) d

      pub expression-shift :
          (kind ≡ K.NOT → ⊥) → Reads-by (E.expression (within x) (b - 1)) s s' n r r'
          → Reads-by (E.expression (within x) b) s s' n r r'
      expression-shift q d = let z : 4 ≡ b - 1 = omega arith in
          picked kinds _ (λ src at h. at-not x b is-not src at ∙ rw (ne_eqb (kind_at src at) K.NOT (λ y. q (sym h ∙ y)))
          (ap (λ (y : ℕ). E.expression (within x) y src at) z)) d

    pub primary-bracketed : kind ≡ K.OPEN → Reads-by (E.bracketed (within x)) s s' n r r' → Reads-by (E.primary (within x)) s s' n r r'
    unfolding E.primary
    primary-bracketed q d = picked kinds _ (λ src at h. rw (h ∙ q)) d

    pub primary-valof : kind ≡ K.VALOF → Reads-by (E.valof (within x)) s s' n r r' → Reads-by (E.primary (within x)) s s' n r r'
    unfolding E.primary
    primary-valof q d = picked kinds _ (λ src at h. rw (h ∙ q)) d

    pub primary-atom :
        Unlike kind (K.VALOF ∷ K.OPEN ∷ []) → ReadingAt kind 1 atomic (Encodes encode) s s' n r r'
        → Reads-by (E.primary (within x)) s s' n r r'
    unfolding E.primary atomic
    primary-atom u d = let q = unlike2 u in chosen kinds atomic (λ src at h. rw (
      ne_eqb (kind_at src at) K.OPEN (λ y. q.0 (sym h ∙ y)),
      ne_eqb (kind_at src at) K.VALOF (λ y. q.1 (sym h ∙ y)),
    )) d

  -- a suffix, where the symbol's kind is given
  pub suffix-arguments :
      kind ≡ K.OPEN → Reading 4 (E.arguments (within x)) (PrependsSuffix true) s s' n r r'
      → ReadingAt kind 4 (E.suffix (within x)) (PrependsSuffix (eqb kind K.OPEN)) s s' n r r'
  unfolding E.suffix
  suffix-arguments q d = (
    d.0,
    λ src l k. here (E.arguments (within x) src) (λ at free e. rw (eq-eqb (kind_at src at) K.OPEN (sym (k.here at free e) ∙ q)))
        (rw (eq-eqb kind K.OPEN q) (d.1 src l)),
  )

  pub suffix-index :
      (kind ≡ K.OPEN → ⊥) → Reading 4 (E.index (within x)) (PrependsSuffix false) s s' n r r'
      → ReadingAt kind 4 (E.suffix (within x)) (PrependsSuffix (eqb kind K.OPEN)) s s' n r r'
  unfolding E.suffix
  suffix-index q d = (
    d.0,
    λ src l k. here (E.index (within x) src) (λ at free e. rw (ne_eqb (kind_at src at) K.OPEN (λ y. q (k.here at free e ∙ y))))
        (rw (ne_eqb kind K.OPEN q) (d.1 src l)),
  )
