-- Lists: an item whose size is set when it is read, and the loop that reads one item after another.
use Rattle.text.specs.Faults.{number_of}
use Rattle.laws.proofs.Basics.{ℕ, zero, suc, ◌+◌, ◌-◌, ◌<◌, ◌≤◌, ◌≡◌, refl, sym, ap, subst, ◌∙◌, List, [], ◌∷◌, ◌++◌, append_assoc, append-nil, Bool}
use Rattle.laws.proofs.Basics.{true, false, length, set, take, length-append, length-take-le, arith}
use Rattle.language.specs.Reader.{Source, Out, ok, no, Reader, on_out, many_up_to, kind_at}
use Rattle.tree.specs.Reads.{Wrote, FollowsBy, Follows, Adds, SetsSize, free_of}
use Rattle.tree.specs.Encoding.{item}
use Rattle.tree.proofs.Steps.{on_out-id}
use Rattle.tree.specs.declared.scratch.State.{State}
use Rattle.tree.specs.declared.scratch.State.TheVariants.{Read, Refused}

-- a list's items so far, and what is said of them: `rest` reads what is still to come
pub record Part {A : Type 0} (out : Out A) (rest : ℕ → Out A) (Says : (A → A) → List ℕ → Type 0) (free : ℕ) (s s' : List ℕ)
    (next nf : ℕ) : Type 0 where
  pub put : A → A
  pub words : List ℕ
  pub is : out ≡ on_out (rest next) (λ more m. ok (put more) m)
  pub says : Says put words
  pub written : take nf s' ≡ take free s ++ words
  pub size : nf ≡ free + length words

abbrev pub PartlyBy : {A : Type 0} → (ℕ → Out A) → (ℕ → Out A) → ((A → A) → List ℕ → Type 0) → List ℕ → List ℕ → State → State → Type 0
PartlyBy read rest Says s s' (Refused fault at) r' = r' ≡ Refused fault at
PartlyBy read rest Says s s' (Read at free) (Refused fault p) = read at ≡ no (number_of fault) p
PartlyBy read rest Says s s' (Read at free) (Read next nf) = Part (read at) rest Says free s s' next nf

pub record PartlyAs {A : Type 0} (read rest : ℕ → Out A) (Says : (A → A) → List ℕ → Type 0) (s s' : List ℕ) (r r' : State) : Type 0 where
  pub by : PartlyBy read rest Says s s' r r'

-- the words of the items so far stand before those of the items after them
pub record Before {A : Type 0} (enc : A → List ℕ) (put : A → A) (words : List ℕ) : Type 0 where
  pub puts : (rest : A) → enc (put rest) ≡ words ++ enc rest

set-between : (a b : List ℕ) (i x z : ℕ) → i ≡ length a → set (a ++ (x ∷ b)) i z ≡ a ++ (z ∷ b)
set-between [] b zero x z e = refl
set-between [] b (suc i) x z e = absurd (omega arith)
set-between (c ∷ a) b zero x z e = absurd (omega arith)
set-between (c ∷ a) b (suc i) x z e = ap (λ (l : List ℕ). c ∷ l) (set-between a b i x z (omega arith))

-- an item: its two entries in front, what stands in it, and its size set
pub sized :
    {A : Type 0} {read : ℕ → Out A} {Says : A → List ℕ → Type 0} (Says' : A → List ℕ → Type 0) (tag : ℕ) {lo : ℕ} {s₀ s₁ s₂ s₃ : List ℕ}
    {r₀ r₁ r₂ : State} (size : ℕ)
    → ((a : A) (w : List ℕ) → Says a w → Says' a (item tag w)) → free_of size r₀ ≤ length s₀ → lo ≡ free_of size r₀
    → Adds (λ _. 0 ∷ tag ∷ []) s₀ s₁ r₀ r₁ → Follows read Says s₁ s₂ r₁ r₂ → SetsSize lo s₂ s₃ r₂ → Follows read Says' s₀ s₃ r₀ r₂
unfolding free_of
sized {read = read} {Says} Says' tag {s₁ = s₁} {s₂} {r₀ = Refused k p} {r₂ = r₂} size h le el a d b =
    record { by = subst (λ (x : State). FollowsBy read Says s₁ s₂ x r₂) a.by d.by }
sized {read = read} {Says} Says' tag {s₁ = s₁} {s₂} {r₀ = Read at free} {r₂ = Refused k p} size h le el a d b =
    record { by = subst (λ (x : State). FollowsBy read Says s₁ s₂ x (Refused k p)) a.by.0 d.by }
sized {read = read} {Says} Says' tag {lo} {s₀} {s₁} {s₂} {r₀ = Read at free} {r₂ = Read m nf} size h le el a d b =
    let v : Wrote (read at) Says (free + 2) s₁ s₂ m nf = subst (λ (x : State). FollowsBy read Says s₁ s₂ x (Read m nf)) a.by.0 d.by in
    let w = v.words in
    let ez : nf - lo - 2 ≡ length w = omega (arith, v.size) in
    let e₂ : take nf s₂ ≡ take free s₀ ++ (0 ∷ tag ∷ w) = v.written ∙ ap (λ (l : List ℕ). l ++ w) a.by.1
    ∙ append_assoc (take free s₀) (0 ∷ tag ∷ []) w in
    record {
      by = record {
        tree = v.tree;
        words = item tag w;
        is = v.is;
        says = h v.tree w v.says;
        written = b.by ∙ ap (λ (z : ℕ). set (take nf s₂) lo z) ez ∙ ap (λ (l : List ℕ). set l lo (length w)) e₂
            ∙ set-between (take free s₀) (tag ∷ w) lo 0 (length w) (omega (arith, length-take-le free s₀ le));
        size = omega (arith, v.size);
      };
    }

on_out-put :
    {A : Type 0} (o : Out A) (put put' : A → A)
    → on_out (on_out o (λ more m. ok (put' more) m)) (λ more m. ok (put more) m) ≡ on_out o (λ more m. ok (put (put' more)) m)
on_out-put (ok a m) put put' = refl
on_out-put (no k p) put put' = refl

-- a loop begins, goes on, and ends, where something is said of the items so far
module _ {A : Type 0} {read : ℕ → Out A} {Says : (A → A) → List ℕ → Type 0} where
  pub begins-as : {s : List ℕ} {r : State} → Says (λ x. x) [] → PartlyAs read read Says s s r r
  begins-as {r = Refused k p} h = record { by = refl }
  begins-as {s = s} {r = Read at free} h = record {
    by = record { put = λ x. x; words = []; is = on_out-id (read at); says = h; written = sym (append-nil (take free s)); size = omega arith };
  }

  module _ {rest : ℕ → Out A} {s₀ s₁ s₂ : List ℕ} where
    pub more-as :
        (rest' : ℕ → Out A) {one : ℕ → Out (A → A)} {Says' One : (A → A) → List ℕ → Type 0} {r₀ r₁ r₂ : State}
        → ((put put' : A → A) (w w' : List ℕ) → Says put w → One put' w' → Says' (λ x. put (put' x)) (w ++ w'))
        → ((at free : ℕ) → r₁ ≡ Read at free → rest at ≡ on_out (one at) (λ put m. on_out (rest' m) (λ more q. ok (put more) q)))
        → PartlyAs read rest Says s₀ s₁ r₀ r₁ → Follows one One s₁ s₂ r₁ r₂ → PartlyAs read rest' Says' s₀ s₂ r₀ r₂
    more-as rest' {one} {One = One} {r₀ = Refused k p} {r₂ = r₂} both e d g =
        record { by = subst (λ (x : State). FollowsBy one One s₁ s₂ x r₂) d.by g.by }
    more-as rest' {Says' = Says'} {r₀ = Read at free} {r₁ = Refused k p} both e d g =
        record { by = subst (λ (x : State). PartlyBy read rest' Says' s₀ s₂ (Read at free) x) (sym g.by) d.by }
    more-as rest' {r₀ = Read at free} {r₁ = Read m nf} {r₂ = Refused k p} both e d g = record {
      by = d.by.is ∙ ap (λ (o : Out A). on_out o (λ more q. ok (d.by.put more) q))
          (e m nf refl ∙ ap (λ (o : Out (A → A)). on_out o (λ put q. on_out (rest' q) (λ more x. ok (put more) x))) g.by);
    }
    more-as rest' {r₀ = Read at free} {r₁ = Read m nf} {r₂ = Read q mf} both e d g = let v = d.by in let w = g.by in record {
      by = record {
        put = λ x. v.put (w.tree x);
        words = v.words ++ w.words;
        is = v.is ∙ ap (λ (o : Out A). on_out o (λ more x. ok (v.put more) x))
            (e m nf refl ∙ ap (λ (o : Out (A → A)). on_out o (λ put x. on_out (rest' x) (λ more y. ok (put more) y))) w.is)
            ∙ on_out-put (rest' q) v.put w.tree;
        says = both v.put w.tree v.words w.words v.says w.says;
        written = w.written ∙ ap (λ (l : List ℕ). l ++ w.words) v.written ∙ append_assoc (take free s₀) v.words w.words;
        size = omega (arith, v.size, w.size, length-append v.words w.words);
      };
    }

    pub closes_as :
        {Rest Full : A → List ℕ → Type 0} {r₀ r₁ r₂ : State}
        → ((put : A → A) (a : A) (w v : List ℕ) → Says put w → Rest a v → Full (put a) (w ++ v)) → PartlyAs read rest Says s₀ s₁ r₀ r₁
        → Follows rest Rest s₁ s₂ r₁ r₂ → Follows read Full s₀ s₂ r₀ r₂
    closes_as {Rest = Rest} {r₀ = Refused k p} {r₂ = r₂} both d g =
        record { by = subst (λ (x : State). FollowsBy rest Rest s₁ s₂ x r₂) d.by g.by }
    closes_as {Full = Full} {r₀ = Read at free} {r₁ = Refused k p} both d g =
        record { by = subst (λ (x : State). FollowsBy read Full s₀ s₂ (Read at free) x) (sym g.by) d.by }
    closes_as {r₀ = Read at free} {r₁ = Read m nf} {r₂ = Refused k p} both d g =
        record { by = d.by.is ∙ ap (λ (o : Out A). on_out o (λ more q. ok (d.by.put more) q)) g.by }
    closes_as {r₀ = Read at free} {r₁ = Read m nf} {r₂ = Read q mf} both d g = let v = d.by in let w = g.by in record {
      by = record {
        tree = v.put w.tree;
        words = v.words ++ w.words;
        is = v.is ∙ ap (λ (o : Out A). on_out o (λ more q. ok (v.put more) q)) w.is;
        says = both v.put w.tree v.words w.words v.says w.says;
        written = w.written ∙ ap (λ (l : List ℕ). l ++ w.words) v.written ∙ append_assoc (take free s₀) v.words w.words;
        size = omega (arith, v.size, w.size, length-append v.words w.words);
      };
    }

pub so : {B : Type 0} (x y : B) {b : Bool} → b ≡ true → elim b as (λ _. B) [ true ↦ x | false ↦ y ] ≡ x
so x y e = rw e refl

pub not_so : {B : Type 0} (x y : B) {b : Bool} → b ≡ false → elim b as (λ _. B) [ true ↦ x | false ↦ y ] ≡ y
not_so x y e = rw e refl

-- { item }: another turn, and the end
module _ {A : Type 0} (none : A) (starts : ℕ → Bool) (one : Reader (A → A)) (src : Source) where
  pub turn :
      (t at : ℕ) → starts (kind_at src at) ≡ true
      → many_up_to (suc t) none starts one src at ≡ on_out (one src at) (λ put m. on_out (many_up_to t none starts one src m) (λ more q. ok (put more) q))
  unfolding many_up_to
  turn t at e = so _ _ e

  pub last : (t at : ℕ) → starts (kind_at src at) ≡ false → many_up_to t none starts one src at ≡ ok none at
  unfolding many_up_to
  last zero at e = refl
  last (suc t) at e = not_so _ _ e

  pub turned :
      (t at : ℕ) → 0 < t → starts (kind_at src at) ≡ true
      → many_up_to t none starts one src at ≡ on_out (one src at) (λ put m. on_out (many_up_to (t - 1) none starts one src m) (λ more q. ok (put more) q))
  turned zero at h e = absurd (omega arith)
  turned (suc t) at h e = let q : t ≡ suc t - 1 = omega arith in
      turn t at e ∙ ap (λ (u : ℕ). on_out (one src at) (λ put m. on_out (many_up_to u none starts one src m) (λ more q. ok (put more) q))) q

  pub spent : (t at : ℕ) → t ≡ 0 → many_up_to t none starts one src at ≡ ok none at
  unfolding many_up_to
  spent zero at e = refl
  spent (suc t) at e = absurd (omega arith)
