-- How what the callees ensure makes what a reader ensures: one law for each way to go on.
use Rattle.text.specs.Faults.{number_of}
use Rattle.text.specs.declared.faults.Fault.{Fault}
use Rattle.laws.proofs.Basics.{ℕ, ◌+◌, ◌-◌, ◌≡◌, refl, sym, ap, subst, ◌∙◌, List, [], ◌∷◌, ◌++◌, append_assoc, append-nil, length, take}
use Rattle.laws.proofs.Basics.{length-append, arith}
use Rattle.language.specs.Reader.{Out, ok, no, on_out}
use Rattle.tree.specs.Encoding.{closed}
use Rattle.tree.specs.Reads.{record_from, FollowsBy, Follows, Reads, PassesBy, Passes, Refuses, Adds, free_of}
use Rattle.tree.specs.declared.scratch.State.{State}
use Rattle.tree.specs.declared.scratch.State.TheVariants.{Read, Refused}

-- two facts, on several lines
abbrev pub pair : {A B : Type 0} → A → B → A × B
pair a b = (a, b)

abbrev pub triple : {A B C : Type 0} → A → B → C → A × B × C
triple a b c = (a, b, c)

-- refusals stay
pub goes_on_lem : {A : Type 0} {read : ℕ → Out A} {Says : A → List ℕ → Type 0} {s s' : List ℕ} {r r' : State} → Follows read Says s s' r r' → Passes r r'
goes_on_lem {r = Refused k p} d = record { by = d.by }
goes_on_lem {r = Read at free} d = record { by = tt }

pub adds_on : {words : ℕ → List ℕ} {s s' : List ℕ} {r r' : State} → Adds words s s' r r' → Passes r r'
adds_on {r = Refused k p} d = record { by = d.by }
adds_on {r = Read at free} d = record { by = tt }

pub refuses-on : {fault : Fault} {r r' : State} → Refuses fault r r' → Passes r r'
refuses-on {r = Refused k p} d = record { by = d.by }
refuses-on {r = Read at free} d = record { by = tt }

infixr 5 ◌then◌
pub ◌then◌ : {r r' r'' : State} → Passes r r' → Passes r' r'' → Passes r r''
◌then◌ {r = Refused k p} {r'} {r''} d e = record { by = subst (λ (x : State). PassesBy x r'') d.by e.by }
◌then◌ {r = Read at free} d e = record { by = tt }

-- what stands last in scratch
pub record Last (s : List ℕ) (r : State) (words : List ℕ) : Type 0 where
  pub next : ℕ
  pub free : ℕ
  pub before : List ℕ
  pub reads : r ≡ Read next free
  pub stands : take free s ≡ before ++ words

-- one part and then another. What is written for the whole is what the first part wrote and then what the second writes
module _ {A C : Type 0} {read : ℕ → Out A} {next : A → ℕ → Out C} {Says : C → List ℕ → Type 0} {s₀ s₁ s₂ : List ℕ} (n : ℕ) where
  part :
      {First : A → List ℕ → Type 0} {r₀ r₁ r₂ : State} → Follows read First s₀ s₁ r₀ r₁ → Passes r₁ r₂
      → ((a : A) (w : List ℕ) → First a w → Last s₁ r₁ w → free_of n r₁ ≡ free_of n r₀ + length w
      → Follows (next a) (λ c v. Says c (w ++ v)) s₁ s₂ r₁ r₂)
      → Follows {A = C} (λ m. on_out (read m) next) Says s₀ s₂ r₀ r₂
  unfolding free_of
  part {r₀ = Refused k p} {r₁} {r₂} d g f = record { by = subst (λ (x : State). PassesBy x r₂) d.by g.by }
  part {r₀ = Read at free} {r₁ = Refused k p} {r₂} d g f = record {
    by = subst (λ (x : State). FollowsBy {A = C} (λ m. on_out (read m) next) Says s₀ s₂ (Read at free) x) (sym g.by)
        (ap (λ (o : Out A). on_out o next) d.by);
  }
  part {r₀ = Read at free} {r₁ = Read m nf} {r₂ = Refused k p} d g f = let e = d.by in
      let w = f e.tree e.words e.says (record { next = m; free = nf; before = take free s₀; reads = refl; stands = e.written }) e.size in
      record { by = ap (λ (o : Out A). on_out o next) e.is ∙ w.by }
  part {r₀ = Read at free} {r₁ = Read m nf} {r₂ = Read q mf} d g f = let e = d.by in
      let v : Last s₁ (Read m nf) e.words = record { next = m; free = nf; before = take free s₀; reads = refl; stands = e.written } in
      let w = (f e.tree e.words e.says v e.size).by in
      record {
        by = record {
          tree = w.tree;
          words = e.words ++ w.words;
          is = ap (λ (o : Out A). on_out o next) e.is ∙ w.is;
          says = w.says;
          written = w.written ∙ ap (λ (l : List ℕ). l ++ w.words) e.written ∙ append_assoc (take free s₀) e.words w.words;
          size = omega (arith, w.size, e.size, length-append e.words w.words);
        };
      }

  pub follow :
      {First : A → List ℕ → Type 0} {r₀ r₁ r₂ : State} → Follows read First s₀ s₁ r₀ r₁ → Passes r₁ r₂
      → ((a : A) (w : List ℕ) → First a w → free_of n r₁ ≡ free_of n r₀ + length w → Follows (next a) (λ c v. Says c (w ++ v)) s₁ s₂ r₁ r₂)
      → Follows {A = C} (λ m. on_out (read m) next) Says s₀ s₂ r₀ r₂
  follow d g f = part d g (λ a w h _ e. f a w h e)

  -- the same, where the next part looks back at what the first wrote
  pub look :
      {r₀ r₁ r₂ : State} (enc : A → List ℕ) → Reads read enc s₀ s₁ r₀ r₁ → Passes r₁ r₂
      → ((a : A) → Last s₁ r₁ (enc a) → free_of n r₁ ≡ free_of n r₀ + length (enc a) → Follows (next a) (λ c w. Says c (enc a ++ w)) s₁ s₂ r₁ r₂)
      → Follows {A = C} (λ m. on_out (read m) next) Says s₀ s₂ r₀ r₂
  look {r₀} {r₁} {r₂} enc d g f = part d g (λ a w h v e. subst (λ (x : List ℕ). Follows (next a) (λ c u. Says c (x ++ u)) s₁ s₂ r₁ r₂) (sym h.same)
      (f a (subst (Last s₁ r₁) h.same v) (e ∙ ap (λ (x : List ℕ). free_of n r₀ + length x) h.same)))

  pub bind :
      {r₀ r₁ r₂ : State} (enc : A → List ℕ) → Reads read enc s₀ s₁ r₀ r₁ → Passes r₁ r₂
      → ((a : A) → free_of n r₁ ≡ free_of n r₀ + length (enc a) → Follows (next a) (λ c w. Says c (enc a ++ w)) s₁ s₂ r₁ r₂)
      → Follows {A = C} (λ m. on_out (read m) next) Says s₀ s₂ r₀ r₂
  bind enc d g f = look enc d g (λ a _ e. f a e)

module _ {A : Type 0} {read : ℕ → Out A} {s s' : List ℕ} where
  -- a reader that answers the same here
  pub here :
      (read' : ℕ → Out A) {Says : A → List ℕ → Type 0} {r r' : State} → ((at free : ℕ) → r ≡ Read at free → read at ≡ read' at)
      → Follows read' Says s s' r r' → Follows read Says s s' r r'
  here read' {r = Refused k p} e d = record { by = d.by }
  here read' {r = Read at free} {r' = Refused k p} e d = record { by = e at free refl ∙ d.by }
  here read' {r = Read at free} {r' = Read m nf} e d = let w = d.by in
      record { by = record { tree = w.tree; words = w.words; is = e at free refl ∙ w.is; says = w.says; written = w.written; size = w.size } }

  -- the same tree, and what its words say seen otherwise
  pub again :
      {Says : A → List ℕ → Type 0} (Says' : A → List ℕ → Type 0) {r r' : State} → ((a : A) (w : List ℕ) → Says a w → Says' a w)
      → Follows read Says s s' r r' → Follows read Says' s s' r r'
  again Says' {r = Refused k p} h d = record { by = d.by }
  again Says' {r = Read at free} {r' = Refused k p} h d = record { by = d.by }
  again Says' {r = Read at free} {r' = Read m nf} h d = let w = d.by in
      record {
        by = record { tree = w.tree; words = w.words; is = w.is; says = h w.tree w.words w.says; written = w.written; size = w.size };
      }

  -- refused
  pub stopped :
      {fault : Fault} {Says : A → List ℕ → Type 0} {r r' : State} → ((at free : ℕ) → r ≡ Read at free → read at ≡ no (number_of fault) at)
      → Refuses fault r r' → Follows read Says s s' r r'
  stopped {r = Refused k p} e d = record { by = d.by }
  stopped {Says = Says} {r = Read at free} e d =
      record { by = subst (λ (x : State). FollowsBy read Says s s' (Read at free) x) (sym d.by) (e at free refl) }

-- words are added, and nothing more is read
pub added :
    {A : Type 0} {a : A} {words : ℕ → List ℕ} {Says : A → List ℕ → Type 0} {s s' : List ℕ} (size : ℕ) {r r' : State} → Adds words s s' r r'
    → Says a (words (free_of size r)) → Follows (λ m. ok a m) Says s s' r r'
unfolding free_of
added size {r = Refused k p} d h = record { by = d.by }
added {a = a} {words} {Says} {s} {s'} size {r = Read at free} d h = record {
  by = subst (λ (x : State). FollowsBy (λ m. ok a m) Says s s' (Read at free) x) (sym d.by.0)
      (record { tree = a; words = words free; is = refl; says = h; written = d.by.1; size = refl });
}

pub on_out-id : {A : Type 0} (o : Out A) → o ≡ on_out o (λ more m. ok more m)
on_out-id (ok a m) = refl
on_out-id (no k p) = refl

-- the record that ends what was read from lo on
pub closes :
    {A : Type 0} {read : ℕ → Out A} (Says : A → List ℕ → Type 0) {lo v p k : ℕ} {s s₁ s₂ : List ℕ} (size : ℕ) {r r₁ r₂ : State} → lo ≡ free_of size r
    → Follows read (λ a w. Says a (closed w v p k)) s s₁ r r₁ → Adds (record_from lo v p k) s₁ s₂ r₁ r₂ → Follows read Says s s₂ r r₂
closes {read = read} Says {lo} {v} {p} {k} size {r} {r₁} e d a =
    here (λ at. on_out (read at) (λ x m. ok x m)) (λ at free h. on_out-id (read at)) (follow size d (adds_on a) (λ x w h q.
    let z : free_of size r₁ - lo ≡ length w = omega arith in
    added size a (subst (λ (y : ℕ). Says x (w ++ (y ∷ v ∷ p ∷ k ∷ []))) (sym z) h)))

-- nothing is read and nothing written
pub nothing : {A : Type 0} {a : A} {Says : A → List ℕ → Type 0} {s : List ℕ} {r : State} → Says a [] → Follows (λ m. ok a m) Says s s r r
nothing {r = Refused k p} h = record { by = refl }
nothing {a = a} {s = s} {r = Read at free} h =
    record { by = record { tree = a; words = []; is = refl; says = h; written = sym (append-nil (take free s)); size = omega arith } }
