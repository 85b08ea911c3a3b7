-- Laws of the symbols that stand in scratch.
use Rattle.text.specs.declared.faults.Fault.{Fault}
use Rattle.text.specs.declared.faults.Fault.TheVariants as V
use Rattle.laws.proofs.Basics.{ℕ, ◌+◌, ◌*◌, ◌<◌, ◌≤◌, ◌≡◌, refl, sym, ap, subst, ◌∙◌, List, [], append-nil, Bool, cond, get_or, take}
use Rattle.laws.proofs.Basics.{List·getD-eq-default, get_or-take, eqb, ltb, arith, eqb-true, eq-eqb, ne_eqb, ltb-true, ltb-false}
use Rattle.laws.proofs.Cases.{by_cases, contradiction}
use Rattle.language.specs.Symbols.{Symbol}
use Rattle.language.specs.Reader.{Source, Out, ok, no, on_out, kind_at, place_at, unexpected, the}
use Rattle.tree.specs.Reads.{HoldsSymbols, Here, Follows, Encodes, Reads, Passes, next_of}
use Rattle.tree.proofs.Steps.{bind, nothing}
use Rattle.tree.specs.declared.scratch.State.{State}
use Rattle.tree.specs.declared.scratch.State.TheVariants.{Read, Refused}

same_at : {r : State} {at free at' free' : ℕ} → r ≡ Read at free → r ≡ Read at' free' → at ≡ at'
unfolding next_of
same_at e e' = ap next_of (sym e ∙ e')

-- past the symbols stands the end
past : {src : Source} {n : ℕ} {s : List ℕ} → HoldsSymbols src n s → (at : ℕ) → n ≤ at → kind_at src at ≡ 0
past {src} l at h = ap (λ (x : Symbol). x.kind) (List·getD-eq-default src.symbols _ (omega (arith, l.count)))

module _ {src : Source} {n : ℕ} {s : List ℕ} (l : HoldsSymbols src n s) where
  -- a symbol of a kind other than 0 stands among the symbols
  pub inside : (at : ℕ) → 0 < kind_at src at → at < n
  inside at h = by_cases (ltb at n) (ltb-true at n) (λ e. let z = past l at (ltb-false at n e) in absurd (omega arith))

-- the symbols stay where they are
kept_at : (n : ℕ) (s s' : List ℕ) → take (n * 3) s' ≡ take (n * 3) s → (i : ℕ) → i < n * 3 → get_or s' i 0 ≡ get_or s i 0
kept_at n s s' e i h = sym (get_or-take (n * 3) s' i 0 h) ∙ ap (λ (x : List ℕ). get_or x i 0) e ∙ get_or-take (n * 3) s i 0 h

pub lies-still : {src : Source} {n : ℕ} {s s' : List ℕ} → HoldsSymbols src n s → take (n * 3) s' ≡ take (n * 3) s → HoldsSymbols src n s'
lies-still {src} {n} {s} {s'} l e = record {
  count = l.count;
  kinds = λ i h. kept_at n s s' e (i * 3) (omega arith) ∙ l.kinds i h;
  values = λ i h. kept_at n s s' e (i * 3 + 1) (omega arith) ∙ l.values i h;
  places = λ i h. kept_at n s s' e (i * 3 + 2) (omega arith) ∙ l.places i h;
}

-- a symbol of a kind
pub the-is : (src : Source) (kind at : ℕ) → kind_at src at ≡ kind → the kind src at ≡ ok (place_at src at) (at + 1)
unfolding the
the-is src kind at e = ap (λ (b : Bool). cond b (ok (place_at src at) (at + 1)) (unexpected src at)) (eq-eqb (kind_at src at) kind e)

pub the-not : (src : Source) (kind at : ℕ) → (kind_at src at ≡ kind → ⊥) → the kind src at ≡ no 6 at
unfolding the unexpected
the-not src kind at e = ap (λ (b : Bool). cond b (ok (place_at src at) (at + 1)) (no 6 at)) (ne_eqb (kind_at src at) kind e)

module _ {src : Source} {n : ℕ} {s : List ℕ} (l : HoldsSymbols src n s) {r : State} {at free kind : ℕ} (e : r ≡ Read at free) where
  pub expect-ok : at < n → get_or s (at * 3) 0 ≡ kind → Reads (the kind src) (λ _. []) s s r (Read (at + 1) free)
  expect-ok h q = record {
    by = rw e (record {
      tree = place_at src at;
      words = [];
      is = the-is src kind at (sym (l.kinds at h) ∙ q);
      says = record { same = refl };
      written = sym (append-nil (take free s));
      size = omega arith;
    });
  }

  pub expect-other : at < n → (get_or s (at * 3) 0 ≡ kind → ⊥) → Reads (the kind src) (λ _. []) s s r (Refused V.Unexpected at)
  expect-other h q = record { by = rw e (the-not src kind at (λ x. q (l.kinds at h ∙ x))) }

  pub expect-end : n ≤ at → 0 < kind → Reads (the kind src) (λ _. []) s s r (Refused V.Unexpected at)
  expect-end h pos = record { by = rw e (the-not src kind at (λ x. let z : kind_at src at ≡ 0 = past l at (omega arith) in absurd (omega arith))) }

pub expect-refused :
    (src : Source) {s : List ℕ} {r : State} {k : Fault} {p : ℕ} (kind : ℕ) → r ≡ Refused k p → Reads (the kind src) (λ _. []) s s r r
expect-refused src kind e = record { by = rw e refl }

-- the place of a symbol that is read is what stands here
module _ {src : Source} {n : ℕ} {s : List ℕ} (l : HoldsSymbols src n s) {r : State} {p : ℕ} (h : Here (place_at src) n r p) (kind : ℕ)
    (pos : 0 < kind) where
  pub placed : {C : Type 0} (F : ℕ → ℕ → Out C) (at free : ℕ) → r ≡ Read at free → on_out (the kind src at) F ≡ on_out (the kind src at) (λ _ m. F p m)
  placed F at free e = by_cases (eqb (kind_at src at) kind) (λ q. let k = eqb-true (kind_at src at) kind q in
      let y = h.here at free e (inside l at (omega arith)) in
      rw (the-is src kind at k) (ap (λ (x : ℕ). F x (at + 1)) (sym y)))
      (λ q. rw (the-not src kind at (λ x. let y = eq-eqb (kind_at src at) kind x in contradiction cc)) refl)

pub stays : {r : State} → Passes r r
stays {r = Read at free} = record { by = tt }
stays {r = Refused k p} = record { by = refl }

-- the last part, and the tree that is made of it
pub ends :
    {A C : Type 0} {read : ℕ → Out A} (F : A → C) {enc : A → List ℕ} {Says : C → List ℕ → Type 0} {s s' : List ℕ} {r r' : State}
    → Reads read enc s s' r r' → ((a : A) → Says (F a) (enc a)) → Follows (λ m. on_out (read m) (λ a q. ok (F a) q)) Says s s' r r'
ends F {enc} {Says} d h = bind 0 enc d stays (λ a _. nothing (subst (Says (F a)) (sym (append-nil (enc a))) (h a)))

-- a tree in another form
pub mapped :
    {A C : Type 0} {read : ℕ → Out A} (F : A → C) {enc : A → List ℕ} {enc' : C → List ℕ} {s s' : List ℕ} {r r' : State}
    → ((a : A) → enc' (F a) ≡ enc a) → Reads read enc s s' r r' → Follows (λ m. on_out (read m) (λ a q. ok (F a) q)) (Encodes enc') s s' r r'
mapped F h d = ends F d (λ a. record { same = sym (h a) })
