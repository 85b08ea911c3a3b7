-- Laws of what is done: faults, items, heights and labels, one after another.
use Rattle.laws.proofs.Basics.{ℕ, suc, ◌+◌, ◌-◌, ◌*◌, ◌/◌, ◌^◌, ◌<◌, ◌≤◌, min, max, ◌≡◌, refl, sym, ap, ◌∙◌, List, [], ◌∷◌, ◌++◌, append-nil, true}
use Rattle.laws.proofs.Basics.{false, cond, length, get_or, ltb, add-zero, arith, eq-eqb, ne_eqb, ltb-true, ltb-false}
use Rattle.laws.proofs.Cases.{by_cases}
use Rattle.items.specs.Item as I
use Rattle.compiler.proofs.Language.{Fault, fault, of_expr, greatest}
use Rattle.code.specs.Generate as G
use Rattle.code.specs.Generate.{expr_code, expr_labels}
use Rattle.writing.specs.Text.{Appends, line, lines}
use Rattle.writing.proofs.Laws.{appends_none, appends_then, appends_as, lines_then}
use Rattle.compiler.proofs.Scoping.{means-unknown, means-local, means-global, means-manifest, means-function}
use Rattle.compiler.proofs.Vocabulary.{State, Here, Node, inside, NodeAt, key, least, AllFit, no_fit, and_fit, Code, Did, Emits, Reached}
use Rattle.compiler.proofs.Vocabulary.{Faulted, Means, Fresh, LeavesTo}

-- ---- folds

pub least-then : (x : ℕ) (a b : List Fault) → least (least x a) b ≡ least x (a ++ b)
unfolding least
least-then x [] b = refl
least-then x (f ∷ a) b = least-then (cond (ltb (key f) x) (key f) x) a b

pub greatest-then : (x : ℕ) (a b : List ℕ) → greatest (greatest x a) b ≡ greatest x (a ++ b)
unfolding greatest
greatest-then x [] b = refl
greatest-then x (h ∷ a) b = greatest-then (cond (ltb x h) h x) a b

pub nil-left : {A : Type 0} (a b : List A) → a ++ b ≡ [] → a ≡ []
nil-left [] b e = refl
nil-left (x ∷ a) b e = let z : length (x ∷ (a ++ b)) ≡ 0 = ap length e in absurd (omega arith)

pub nil-right : {A : Type 0} (a b : List A) → a ++ b ≡ [] → b ≡ []
nil-right [] b e = e
nil-right (x ∷ a) b e = let z : length (x ∷ (a ++ b)) ≡ 0 = ap length e in absurd (omega arith)

-- ---- faults that fit

pub fit_then : {a b : List Fault} → AllFit a → AllFit b → AllFit (a ++ b)
fit_then no_fit q = q
fit_then (and_fit p n r) q = and_fit p n (fit_then r q)

pub fault-fits : {place number : ℕ} → (place < 2 ^ 32) × (number < 32) → AllFit (fault place number)
fault-fits f = and_fit f.0 f.1 no_fit

pub fit-left : (a b : List Fault) → AllFit (a ++ b) → AllFit a
fit-left [] b q = no_fit
fit-left (f ∷ a) b (and_fit p n r) = and_fit p n (fit-left a b r)

pub fit-right : (a b : List Fault) → AllFit (a ++ b) → AllFit b
fit-right [] b q = q
fit-right (f ∷ a) b (and_fit p n r) = fit-right a b r

-- ---- one item; a height; a fault

pub emits_one : {st : State} {i : I.Item} {at : ℕ} {t t' : List ℕ} → Appends (line i) st.at at t t'
    → Emits (i ∷ []) [] t t' st (record { at = at; label = st.label; worst = st.worst; high = st.high })
unfolding lines greatest
emits_one {i = i} p = record { text = appends_as p (append-nil (line i)); high = refl; worst = refl; label = refl }

step-max : (h x : ℕ) → max x h ≡ cond (ltb x h) h x
step-max h x = by_cases (ltb x h) (λ e. let l = ltb-true x h e in rw e (omega arith)) (λ e. let l = ltb-false x h e in rw e (omega arith))

pub reached_max : {h high : ℕ} {st : State} → high ≡ max st.high h
    → Reached h st (record { at = st.at; label = st.label; worst = st.worst; high = high })
unfolding lines greatest
reached_max {h} {st = st} e = record { by = λ t. record { text = appends_none; high = e ∙ step-max h st.high; worst = refl; label = refl } }

fault-not : {place number : ℕ} → fault place number ≡ [] → ⊥
fault-not {place} {number} e = let z : length (fault place number) ≡ 0 = ap length e in omega arith

pub step-min : (k x : ℕ) → cond (ltb k x) k x ≡ min x k
step-min k x = by_cases (ltb k x) (λ e. let l = ltb-true k x e in rw e (omega arith)) (λ e. let l = ltb-false k x e in rw e (omega arith))

pub faulted_least : {place number n worst : ℕ} {st : State} → (place < 2 ^ 32) × (number < 32) → n ≡ number → worst ≡ min st.worst (place * 32 + n)
    → Faulted place number st (record { at = st.at; label = st.label; worst = worst; high = st.high })
unfolding least
faulted_least {place} {number} {st = st} fits en e = record {
  by = λ code t. record {
    worst = e ∙ rw en (sym (step-min (place * 32 + number) st.worst));
    fits = fault-fits fits;
    few = omega arith;
    grows = omega arith;
    clean = λ n. absurd (fault-not n);
  };
}

-- ---- one after another

pub emits_then : {xs ys : List I.Item} {hs ks : List ℕ} {t t₁ t₂ : List ℕ} {st a b : State} → Emits xs hs t t₁ st a → Emits ys ks t₁ t₂ a b
    → Emits (xs ++ ys) (hs ++ ks) t t₂ st b
emits_then {xs} {ys} {hs} {ks} {st = st} f g = record {
  text = appends_as (appends_then f.text g.text) (lines_then xs ys);
  high = rw (g.high, f.high, greatest-then st.high hs ks);
  worst = g.worst ∙ f.worst;
  label = g.label ∙ f.label;
}

pub emits_none : {t : List ℕ} {st : State} → Emits [] [] t t st st
unfolding lines greatest
emits_none = record { text = appends_none; high = refl; worst = refl; label = refl }

-- no faults
pub emits-did : {xs : List I.Item} {hs : List ℕ} {t t' : List ℕ} {st r : State} (code : ℕ → Code) → Emits xs hs t t' st r
    → ((n : ℕ) → code n ≡ record { items = xs; heights = hs; labels = 0 }) → Did [] code 0 t t' st r
unfolding least
emits-did {xs} {hs} {t} {t'} {st} code f e = record {
  worst = f.worst;
  fits = no_fit;
  few = omega arith;
  grows = omega arith;
  clean = λ n. rw (e st.label) (record { text = f.text; high = f.high; label = omega arith });
}

-- code behind code
abbrev pub and : (ℕ → Code) → (ℕ → Code) → ℕ → Code
and f g n = record {
  items = (f n).items ++ (g (n + (f n).labels)).items;
  heights = (f n).heights ++ (g (n + (f n).labels)).heights;
  labels = (f n).labels + (g (n + (f n).labels)).labels;
}

pub did_then : {fs gs : List Fault} {f g : ℕ → Code} {m k : ℕ} {t t₁ t₂ : List ℕ} {st a b : State} → Did fs f m t t₁ st a → Did gs g k t₁ t₂ a b
    → Did (fs ++ gs) (and f g) (m + k) t t₂ st b
did_then {fs} {gs} {f} {g} {st = st} x y = record {
  worst = rw (y.worst, x.worst, least-then st.worst fs gs);
  fits = fit_then x.fits y.fits;
  few = omega arith;
  grows = omega arith;
  clean = λ n. let w = x.clean (nil-left fs gs n) in let v = rw w.label at (y.clean (nil-right fs gs n)) in let l = (f st.label).labels in
      record {
        text = appends_as (appends_then w.text v.text) (lines_then (f st.label).items (g (st.label + l)).items);
        high = rw (v.high, w.high, greatest-then st.high (f st.label).heights (g (st.label + l)).heights);
        label = omega arith;
      };
}

-- ---- the same, said otherwise

-- the same faults in another order
pub record Same (a b : List Fault) : Type 0 where
  pub least : (x : ℕ) → least x a ≡ least x b
  pub none : b ≡ [] → a ≡ []
  pub fits : AllFit a → AllFit b

pub same_refl : {a : List Fault} → Same a a
same_refl = record { least = λ x. refl; none = λ e. e; fits = λ f. f }

pub same-eq : {a b : List Fault} → a ≡ b → Same a b
same-eq e = rw (← e) same_refl

least-min : (x k : ℕ) (a : List Fault) → least (min x k) a ≡ min (least x a) k
unfolding least
least-min x k [] = refl
least-min x k (f ∷ a) =
    let e : cond (ltb (key f) (min x k)) (key f) (min x k) ≡ min (cond (ltb (key f) x) (key f) x) k = step-min (key f) (min x k) ∙ omega arith
    ∙ ap (λ (z : ℕ). min z k) (sym (step-min (key f) x)) in rw (e, least-min (cond (ltb (key f) x) (key f) x) k a)

least-swap : (x : ℕ) (a b : List Fault) → least x (a ++ b) ≡ least x (b ++ a)
unfolding least
least-swap x [] b = ap (least x) (sym (append-nil b))
least-swap x (f ∷ a) b = let k = key f in let s = step-min k x in let t = step-min k (least x b) in let m = least-min x k (b ++ a) in
    cc (s, t, m, least-swap (min x k) a b, least-then x b a, least-min (least x b) k a, least-then x b (f ∷ a))

pub same-swap : (a b : List Fault) → Same (a ++ b) (b ++ a)
same-swap a b = record
    { least = λ x. least-swap x a b; none = λ e. rw (nil-left b a e, nil-right b a e); fits = λ f. fit_then (fit-right a b f) (fit-left a b f) }

pub same_then : {a b c : List Fault} → Same a b → Same b c → Same a c
same_then p q = record { least = λ x. p.least x ∙ q.least x; none = λ e. p.none (q.none e); fits = λ f. q.fits (p.fits f) }

pub same-both : {a b c d : List Fault} → Same a b → Same c d → Same (a ++ c) (b ++ d)
same-both {a} {b} {c} {d} p q = record {
  least = λ x. cc (least-then x a c, q.least _, p.least x, least-then x b d);
  none = λ e. let u = p.none (nil-left b d e) in let v = q.none (nil-right b d e) in rw (u, v);
  fits = λ f. fit_then (p.fits (fit-left a c f)) (q.fits (fit-right a c f));
}

-- at its first label
pub did_at : {fs gs : List Fault} {f : ℕ → Code} (g : ℕ → Code) {m : ℕ} (k : ℕ) {t t' : List ℕ} {st r : State} → Did fs f m t t' st r → Same fs gs
    → (gs ≡ [] → f st.label ≡ g st.label) → m ≤ k → Did gs g k t t' st r
did_at g {m} k {t} {t'} {st} {r} x s e l = record {
  worst = x.worst ∙ s.least st.worst;
  fits = s.fits x.fits;
  few = omega arith;
  grows = x.grows;
  clean = λ n. rw (e n) at (x.clean (s.none n));
}

pub did-as : {fs gs : List Fault} {f : ℕ → Code} (g : ℕ → Code) {m : ℕ} (k : ℕ) {t t' : List ℕ} {st r : State} → Did fs f m t t' st r → Same fs gs
    → ((n : ℕ) → gs ≡ [] → f n ≡ g n) → m ≤ k → Did gs g k t t' st r
did-as g k {st = st} x s e l = did_at g k x s (e st.label) l

pub code_is : {xs ys : List I.Item} {hs ks : List ℕ} {l m : ℕ} → xs ≡ ys → hs ≡ ks → l ≡ m
    → ◌≡◌ {A = Code} (record { items = xs; heights = hs; labels = l }) (record { items = ys; heights = ks; labels = m })
code_is a b c = cc

pub did_none : (k : ℕ) {t : List ℕ} {st : State} → Did [] (λ n. record { items = []; heights = []; labels = 0 }) k t t st st
did_none k = did-as _ k (emits-did _ emits_none (λ n. refl)) same_refl (λ n e. refl) (omega arith)

-- items and heights behind code, items alone behind it, and items and heights before it
module _ {fs : List Fault} {f : ℕ → Code} {m : ℕ} {t t₁ t₂ : List ℕ} {st a b : State} {xs : List I.Item} where
  pub did-emit : {hs : List ℕ} → Did fs f m t t₁ st a → Emits xs hs t₁ t₂ a b
      → Did fs (λ n. record { items = (f n).items ++ xs; heights = (f n).heights ++ hs; labels = (f n).labels }) m t t₂ st b
  did-emit x e = did-as _ m (did_then x (emits-did _ e (λ n. refl))) (same-eq (append-nil fs)) (λ n c. code_is refl refl (omega arith)) (omega arith)

  pub did-put : Did fs f m t t₁ st a → Emits xs [] t₁ t₂ a b
      → Did fs (λ n. record { items = (f n).items ++ xs; heights = (f n).heights; labels = (f n).labels }) m t t₂ st b
  did-put x e = did-as _ m (did-emit x e) same_refl (λ n c. code_is refl (append-nil (f n).heights) refl) (omega arith)

  pub did_after : {hs : List ℕ} → Emits xs hs t t₁ st a → Did fs f m t₁ t₂ a b
      → Did fs (λ n. record { items = xs ++ (f n).items; heights = hs ++ (f n).heights; labels = (f n).labels }) m t t₂ st b
  did_after e x = did-as _ m (did_then (emits-did _ e (λ n. refl)) x) same_refl (λ n c.
      rw (add-zero n) (code_is refl refl (omega arith))) (omega arith)

-- after new labels
pub did-fresh : {fs : List Fault} {f : ℕ → Code} {k m : ℕ} {t t' : List ℕ} {st a b : State} → Fresh k st a → Did fs f m t t' a b
    → Did fs (λ n. record { items = (f (n + k)).items; heights = (f (n + k)).heights; labels = k + (f (n + k)).labels }) (k + m) t t' st b
did-fresh e x = record {
  worst = rw (x.worst, e.worst);
  fits = x.fits;
  few = omega arith;
  grows = omega arith;
  clean = λ n. let w = rw e.label at (x.clean n) in
      record { text = rw e.at at w.text; high = rw (w.high, e.high); label = omega arith };
}

pub leaves-wrong : {to place : ℕ} {t : List ℕ} {st r : State} → to ≡ 0 → Faulted place 13 st r → LeavesTo to place t t st r
leaves-wrong {to} {place} {t} e f = record { did = rw (eq-eqb to 0 e) (f.by _ t) }

pub leaves_jump : {to place : ℕ} {t t' : List ℕ} {st r : State} → (to ≡ 0 → ⊥) → Emits (G.JL to ∷ []) [] t t' st r → LeavesTo to place t t' st r
leaves_jump {to} e f = record { did = rw (ne_eqb to 0 e) (emits-did _ f (λ n. refl)) }

-- ---- the value of a name

abbrev one : I.Item → Code
one i = record { items = i ∷ []; heights = []; labels = 0 }

module _ (place : ℕ) {k : ℕ} {t t' : List ℕ} {st r : State} where
  pub value-local : Emits (I.instruction 0 true I.P (I.number false k) ∷ []) [] t t' st r → Means (k * 4 + 1) place t t' st r
  unfolding expr_code of_expr expr_labels
  value-local f = record {
    by = λ strings h w e. let z : k ≡ (k * 4 + 1) / 4 = omega arith in
        rw (means-local w e (omega arith)) (emits-did _ f (λ n. ap (λ (j : ℕ). one (I.instruction 0 true I.P (I.number false j))) (sym z)));
  }

  pub value-global : Emits (I.instruction 0 true I.G (I.number false k) ∷ []) [] t t' st r → Means (k * 4 + 2) place t t' st r
  unfolding expr_code of_expr expr_labels
  value-global f = record {
    by = λ strings h w e. let z : k ≡ (k * 4 + 2) / 4 = omega arith in
        rw (means-global w e (omega arith)) (emits-did _ f (λ n. ap (λ (j : ℕ). one (I.instruction 0 true I.G (I.number false j))) (sym z)));
  }

  pub value-manifest : Emits (I.instruction 0 false I.none (I.number false k) ∷ []) [] t t' st r → Means (k * 4 + 3) place t t' st r
  unfolding expr_code of_expr expr_labels
  value-manifest f = record {
    by = λ strings h w e. let z : k ≡ (k * 4 + 3) / 4 = omega arith in
        rw (means-manifest w e (omega arith)) (emits-did _ f (λ n. ap (λ (j : ℕ). one (I.instruction 0 false I.none (I.number false j))) (sym z)));
  }

pub value-function : (place k : ℕ) {j : ℕ} {t t' : List ℕ} {st r : State} → j ≡ k + 1 → Emits (G.to 0 j ∷ []) [] t t' st r
    → Means (k * 4 + 4) place t t' st r
unfolding expr_code of_expr expr_labels
value-function place k {j} q f = record {
  by = λ strings h w e. let z : suc ((k * 4 + 4) / 4 - 1) ≡ j = omega arith in
      rw (means-function w e (λ q. omega arith) (omega arith)) (emits-did _ f (λ n. rw z));
}

pub value-unknown : (place : ℕ) {t : List ℕ} {st r : State} → Faulted place 8 st r → Means 0 place t t st r
value-unknown place {t} f = record { by = λ strings h w e. rw (means-unknown w e refl) (f.by _ t) }

-- ---- places

pub node_is : {s : List ℕ} {end : ℕ} (n : Node) {size e₃ e₂ e₁ : ℕ} → n.inner ≡ end - 4 → size ≡ get_or s n.inner 0 → n.start ≡ n.inner - size
    → e₃ ≡ end - 3 → n.value ≡ get_or s e₃ 0 → e₂ ≡ end - 2 → n.place ≡ get_or s e₂ 0 → e₁ ≡ end - 1 → n.kind ≡ get_or s e₁ 0 → n.value < 2 ^ 32
    → n.place < 2 ^ 32 → NodeAt s end n
node_is n {size} i z st a v b p c k fv fp = record {
  value_fits = fv;
  place_fits = fp;
  inner = i;
  start = cc;
  value = rw (v, a);
  place = rw (p, b);
  kind = rw (k, c);
}

pub inside_is : (here : Here) {l : ℕ} → l ≡ here.left - 1
    → ◌≡◌ {A = Here} (record { top = here.top; height = here.height; left = l; strings = here.strings; routine = here.routine }) (inside here)
inside_is here e = cc
