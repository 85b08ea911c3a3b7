-- Arguments, and what follows a primary.
use Rattle.laws.proofs.Basics.{ℕ, suc, ◌+◌, ◌-◌, ◌*◌, ◌<◌, ◌≤◌, ◌≡◌, refl, sym, ap, subst, ◌∙◌, List, [], ◌∷◌, ◌++◌, append_assoc, append-nil, length}
use Rattle.laws.proofs.Basics.{get_or, length-append, List·getD-append, get_or-append-add, ltb, arith, ltb-true, ltb-false}
use Rattle.laws.proofs.Cases.{by_cases}
use Rattle.language.specs.Tree as T
use Rattle.compiler.proofs.Language.{Expression, Expressions, Suffixes, depth, expressions_depth, suffixes_depth, Scope, Expr, expression}
use Rattle.compiler.proofs.Language.{expressions, suffixes, under, of_expr, of_exprs, Leavable, in_expression, in_expressions, in_suffixes}
use Rattle.compiler.proofs.Language.{behind, encode, encode_expressions, encode_suffixes, Fine, FineList, FineSuffixes}
use Rattle.language.specs.Resolved as R
use Rattle.language.specs.Heights as H
use Rattle.code.specs.Generate as G
use Rattle.code.specs.Generate.{expr_code, exprs_code, expr_labels, exprs_labels}
use Rattle.compiler.proofs.Vocabulary.{Keeps, State, Here, Node, FineE, FineEs, FineSs, inside, raised, leavable, NodeAt, Did, Emits}
use Rattle.compiler.proofs.Vocabulary.{Reached, expr_says, exprs_says, Holds, Ready, ReadyE, GaveE, ReadyArgs, GaveArgs}
use Rattle.compiler.proofs.Vocabulary.{Counts, encode_applied, code_a, ReadySuffixes, GaveSuffixes, GaveIndexed, GavePassed}
use Rattle.compiler.proofs.Scoping.{keeps-all, keeps_then}
use Rattle.compiler.proofs.Done.{did-emit, did-put, did_after, did_none, did_then, did-as, same_refl, same-eq, same-swap, same_then, code_is}
use Rattle.compiler.proofs.Trees.{first, second, find, IsTwo, is-two, Case, a_number, a_string, a_name, a_bracket, a_valof, a_monadic, a_suffixed}
use Rattle.compiler.proofs.Trees.{a_called, a_dyadic}
use Rattle.compiler.proofs.Counting.{expression-items}
use Rattle.compiler.proofs.Expressions.{so}
use Rattle.compiler.proofs.Parts.{sub}
use Rattle.compiler.proofs.Lists.{First, first_of, Kind, Part, begins, ready-one, item, rest-length, goes_on_lem, ended}

-- ---- an item of a list of expressions

abbrev pub IsArg : (s : List ℕ) (at end : ℕ) → Expressions → Type 0
IsArg = First encode_expressions encode (λ e. 0) T.and_expression

pub is-arg : {s : List ℕ} {at end : ℕ} (es : Expressions) → Holds s at (encode_expressions es) → end ≡ at + length (encode_expressions es) → at < end
    → IsArg s at end es
unfolding encode_expressions
is-arg T.no_expressions h e l = absurd (omega arith)
is-arg (T.and_expression d es) h e l = first_of encode_expressions encode (λ e. 0) T.and_expression d es h e

pub no-arg : (es : Expressions) → length (encode_expressions es) ≡ 0 → es ≡ T.no_expressions
unfolding encode_expressions
no-arg T.no_expressions e = refl
no-arg (T.and_expression d es) e = absurd (omega arith)

pub arg-deep : (e : Expression) (es : Expressions) (k : ℕ) → expressions_depth (T.and_expression e es) ≤ k → (depth e ≤ k) × (expressions_depth es ≤ k)
unfolding expressions_depth
arg-deep e es k l = (omega arith, omega arith)

pub arg-fine : (e : Expression) (es : Expressions) → FineEs (T.and_expression e es) → FineE e × FineEs es
unfolding Fine FineList
arg-fine e es f = f

abbrev pub arg_list : Kind Expressions Expression
arg_list = record {
  all = encode_expressions;
  one = encode;
  word = λ e. 0;
  with = T.and_expression;
  none = T.no_expressions;
  deep = expressions_depth;
  deep_one = depth;
  Fine = FineEs;
  Fine-one = FineE;
  takes = is-arg;
  empty = no-arg;
  deeper = arg-deep;
  finer = arg-fine;
}

-- ---- arguments

module _ (text t₀ : List ℕ) {s₀ : List ℕ} {from end : ℕ} {here : Here} {st₀ : State} where
  abbrev pub ArgsPart : ReadyArgs s₀ from end here st₀ → (s t : List ℕ) (at k : ℕ) (st : State) → Type 0
  ArgsPart y s t at k st = let z = y.ready in
      Part arg_list (λ es. length (encode_expressions es)) (λ h es. in_expressions text z.scope (leavable here) h es)
      (λ h es. exprs_says here.strings h (expressions text z.scope h es)) z.tree
      from end z.base here.top here.left here.height (here.height + k) here.height (here.height + k) s₀ s t₀ t st₀ st at

  pub args-begin : (y : ReadyArgs s₀ from end here st₀) → ArgsPart y s₀ t₀ from 0 st₀
  args-begin y = begins y.ready y.starts (omega arith) (omega arith) y.ready.some

  module _ (k : ℕ) {s t : List ℕ} {at size next : ℕ} {st : State} (l : at < end) (es : size ≡ get_or s at 0) (en : next ≡ at + 2 + size) where
    abbrev pub args-part : (y : ReadyArgs s₀ from end here st₀) → ArgsPart y s t at k st → ReadyE s next (raised k here) st
    args-part y p = let z = y.ready in
        ready-one z y.starts l es en p (raised k here) st refl refl refl (omega arith) (omega (arith, rest-length z y.starts l es en p))
        p.some

    pub args-next : {s₁ t₁ t₂ : List ℕ} {a r : State} → GaveE text s s₁ next (raised k here) t t₁ st a
        → Emits (G.SP (here.height + k) ∷ []) ((here.height + k + 1) ∷ []) t₁ t₂ a r
        → (y : ReadyArgs s₀ from end here st₀) → ArgsPart y s t at k st → ArgsPart y s₁ t₂ next (k + 1) r
    unfolding in_expressions expressions exprs_code of_exprs exprs_labels
    args-next g f y p =
        let z = y.ready in let u = item z y.starts l es en p in let x = g.by (args-part y p) in let sc = z.scope in let h = here.height + k in
        let n = rest-length z y.starts l es en p in let e1 : here.height + (k + 1) ≡ h + 1 = omega arith in
        goes_on_lem z y.starts l es en p x.keeps (omega arith) (omega arith) (omega arith)
        (λ t' st' d. did-as _ _ (did_then (did-emit x.did f) (rw e1 at d)) same_refl
        (λ n c. code_is (simp append_assoc) (simp append_assoc) refl) (omega arith))

  pub args_end : (k : ℕ) {s t : List ℕ} {at : ℕ} {st : State} → end ≤ at → ((y : ReadyArgs s₀ from end here st₀) → ArgsPart y s t at k st)
      → GaveArgs text s₀ s from end here t₀ t st₀ st
  unfolding in_expressions expressions exprs_code of_exprs exprs_labels
  args_end k l q = record { by = λ y. record { keeps = (q y).keeps; did = ended (q y) l (λ m. did_none m) } }

-- ---- the last of what follows a primary

pub behind-length : (tag : ℕ) (x y : List ℕ) → length (behind tag x ++ y) ≡ length x + 2 + length y
behind-length tag x y = omega (arith, length-append (behind tag x) y, length-append x (length x ∷ tag ∷ []))

pub both : {s : List ℕ} {lo m : ℕ} (x y : List ℕ) → Holds s lo x → Holds s m y → m ≡ lo + length x → Holds s lo (x ++ y)
both {s} {lo} {m} x y f g e = record {
  at = λ i l. by_cases (ltb i (length x)) (λ b. let h = ltb-true i (length x) b in f.at i h ∙ sym (List·getD-append x y 0 i h)) (λ b.
      let h = ltb-false i (length x) b in let j = i - length x in let q : i ≡ length x + j = omega arith in let p : lo + i ≡ m + j = omega arith in
      ap (λ (k : ℕ). get_or s k 0) p ∙ g.at j (omega (arith, length-append x y)) ∙ sym (get_or-append-add x y j 0) ∙ ap (λ (k : ℕ). get_or (x ++ y) k 0)
      (sym q));
}

-- one more at the end: a call or an index, by what it puts before others
unfoldable pub snoc : (Suffixes → Suffixes) → Suffixes → Suffixes
snoc c T.no_suffixes = c T.no_suffixes
snoc c (T.call ds ss) = T.call ds (snoc c ss)
snoc c (T.index d ss) = T.index d (snoc c ss)

pub record IsLast {A : Type 0} (enc : A → List ℕ) (cons : A → Suffixes → Suffixes) (s : List ℕ) (m end : ℕ) (all : Suffixes) : Type 0 where
  pub init : Suffixes
  pub part : A
  pub same : all ≡ snoc (cons part) init
  pub lies : Holds s m (encode_suffixes init)
  pub lies-part : Holds s (m + length (encode_suffixes init)) (enc part)
  pub size_of : get_or s (end - 2) 0 ≡ length (enc part)
  pub ends : end ≡ m + length (encode_suffixes init) + length (enc part) + 2

-- by its tag
pub data Last (s : List ℕ) (m end : ℕ) (all : Suffixes) : ℕ → Type 0 where
  a_call : IsLast encode_expressions T.call s m end all → Last s m end all 51
  an_index : IsLast encode T.index s m end all → Last s m end all 49

pub no-suffix : (ss : Suffixes) → length (encode_suffixes ss) ≡ 0 → ss ≡ T.no_suffixes
unfolding encode_suffixes
no-suffix T.no_suffixes e = refl
no-suffix (T.call es ss) e = absurd (omega (arith, behind-length 51 (encode_expressions es) (encode_suffixes ss)))
no-suffix (T.index d ss) e = absurd (omega (arith, behind-length 49 (encode d) (encode_suffixes ss)))

-- one before others: it is the last where there are none
module _ {A : Type 0} (enc : A → List ℕ) (cons : A → Suffixes → Suffixes) (tag : ℕ) {s : List ℕ} {m end : ℕ} (a : A) (ss : Suffixes)
    (h : Holds s m (behind tag (enc a) ++ encode_suffixes ss)) (e : end ≡ m + length (behind tag (enc a) ++ encode_suffixes ss)) where
  alone : length (encode_suffixes ss) ≡ 0 → (IsLast enc cons s m end (cons a ss) → Last s m end (cons a ss) tag)
      → Last s m end (cons a ss) (get_or s (end - 1) 0)
  unfolding encode_suffixes snoc
  alone z is = let x = enc a in let v = length x ∷ tag ∷ [] in let f = first (x ++ v) (encode_suffixes ss) h in
      let two = second x v (m + length x) f refl in let k = behind-length tag x (encode_suffixes ss) in let e0 : m ≡ m + 0 = omega arith in
      let e1 : end - 1 ≡ m + length x + 1 = omega arith in let e2 : end - 2 ≡ m + length x + 0 = omega arith in
      rw (ap (λ (k : ℕ). get_or s k 0) e1 ∙ two.at 1 (omega arith)) (is (record {
        init = T.no_suffixes;
        part = a;
        same = ap (cons a) (no-suffix ss z);
        lies = record { at = λ i l. absurd (omega arith) };
        lies-part = rw e0 at (first x v f);
        size_of = ap (λ (k : ℕ). get_or s k 0) e2 ∙ two.at 0 (omega arith);
        ends = omega arith;
      }))

  module _ (p : (x : Suffixes) → encode_suffixes (cons a x) ≡ behind tag (enc a) ++ encode_suffixes x)
      (q : (c : Suffixes → Suffixes) (x : Suffixes) → cons a (snoc c x) ≡ snoc c (cons a x)) where
    before : {B : Type 0} {enc_b : B → List ℕ} {is : B → Suffixes → Suffixes} → IsLast enc_b is s (m + length (behind tag (enc a))) end ss
        → IsLast enc_b is s m end (cons a ss)
    before {is = is} u = let w = behind tag (enc a) in let x = encode_suffixes u.init in let k = ap length (p u.init) ∙ length-append w x in
        let z : m + length w + length x ≡ m + length (encode_suffixes (cons a u.init)) = omega arith in
        record {
          init = cons a u.init;
          part = u.part;
          same = ap (cons a) u.same ∙ q (is u.part) u.init;
          lies = rw (p u.init) (both w x (first w (encode_suffixes ss) h) u.lies refl);
          lies-part = rw z at u.lies-part;
          size_of = u.size_of;
          ends = omega arith;
        }

    before_last : {k : ℕ} → Last s (m + length (behind tag (enc a))) end ss k → Last s m end (cons a ss) k
    before_last (a_call u) = a_call (before u)
    before_last (an_index u) = an_index (before u)

    step : (IsLast enc cons s m end (cons a ss) → Last s m end (cons a ss) tag)
        → ((k : ℕ) → Holds s k (encode_suffixes ss) → end ≡ k + length (encode_suffixes ss) → k < end → Last s k end ss (get_or s (end - 1) 0))
        → Last s m end (cons a ss) (get_or s (end - 1) 0)
    step is rest = let w = behind tag (enc a) in let k = length-append w (encode_suffixes ss) in let n = m + length w in
        by_cases (ltb n end) (λ b. before_last (rest n (second w (encode_suffixes ss) n h refl) (omega arith) (ltb-true n end b)))
        (λ b. alone (omega (arith, ltb-false n end b)) is)

pub last : {s : List ℕ} {m end : ℕ} (ss : Suffixes) → Holds s m (encode_suffixes ss) → end ≡ m + length (encode_suffixes ss) → m < end
    → Last s m end ss (get_or s (end - 1) 0)
unfolding encode_suffixes snoc
last T.no_suffixes h e l = absurd (omega arith)
last (T.call es ss) h e l = step encode_expressions T.call 51 es ss h e (λ x. refl) (λ c x. refl) a_call (λ k p q r. last ss p q r)
last (T.index d ss) h e l = step encode T.index 49 d ss h e (λ x. refl) (λ c x. refl) an_index (λ k p q r. last ss p q r)

-- ---- what the definitions say of the last one

pub count-resolved : (text : List ℕ) (sc : Scope) (h : ℕ) (es : Expressions) → H.count (expressions text sc h es) ≡ T.count es
unfolding expressions H.count T.count
count-resolved text sc h T.no_expressions = refl
count-resolved text sc h (T.and_expression e es) = ap suc (count-resolved text sc (h + 1) es)

pub count-few : (es : Expressions) → T.count es ≤ length (encode_expressions es)
unfolding T.count encode_expressions
count-few T.no_expressions = omega arith
count-few (T.and_expression e es) = omega (arith, count-few es, length-append (encode e) (encode_expressions es))

module _ (c : Suffixes → Suffixes) where
  pub deep-snoc : (ss : Suffixes) {k : ℕ} → suffixes_depth (snoc c ss) ≤ k → (suffixes_depth ss ≤ k) × (suffixes_depth (c T.no_suffixes) ≤ k)
  unfolding suffixes_depth snoc
  deep-snoc T.no_suffixes h = (omega arith, h)
  deep-snoc (T.call ds ss) {k} h = let p = deep-snoc ss {k = k} (omega arith) in (omega arith, p.1)
  deep-snoc (T.index d ss) {k} h = let p = deep-snoc ss {k = k} (omega arith) in (omega arith, p.1)

  pub fine-snoc : (ss : Suffixes) → FineSs (snoc c ss) → FineSs ss × FineSs (c T.no_suffixes)
  unfolding FineSuffixes snoc
  fine-snoc T.no_suffixes f = (tt, f)
  fine-snoc (T.call ds ss) f = let p = fine-snoc ss f.1 in ((f.0, p.0), p.1)
  fine-snoc (T.index d ss) f = let p = fine-snoc ss f.1 in ((f.0, p.0), p.1)

  pub under-snoc : (ss : Suffixes) (h : ℕ) → under (snoc c ss) h ≡ under ss (under (c T.no_suffixes) h)
  unfolding under snoc
  under-snoc T.no_suffixes h = refl
  under-snoc (T.call ds ss) h = rw (under-snoc ss h)
  under-snoc (T.index d ss) h = under-snoc ss h

  module _ (text : List ℕ) (sc : Scope) (h : ℕ) {k : ℕ} (e : k ≡ under (c T.no_suffixes) h) where
    suffixes-snoc : (ss : Suffixes) (x : Expr) → suffixes text sc h x (snoc c ss) ≡ suffixes text sc h (suffixes text sc k x ss) (c T.no_suffixes)
    unfolding suffixes snoc under
    suffixes-snoc T.no_suffixes x = refl
    suffixes-snoc (T.call ds ss) x = rw (under-snoc ss h, ← e) (suffixes-snoc ss (R.call x (expressions text sc (under ss k + 2) ds)))
    suffixes-snoc (T.index d ss) x = rw (under-snoc ss h, ← e) (suffixes-snoc ss (R.index x (expression text sc (under ss k + 1) d)))

    faults-snoc : (l : Leavable) (ss : Suffixes)
        → in_suffixes text sc l h (snoc c ss) ≡ in_suffixes text sc l k ss ++ in_suffixes text sc l h (c T.no_suffixes)
    unfolding in_suffixes snoc under
    faults-snoc l T.no_suffixes = refl
    faults-snoc l (T.call ds ss) = rw (under-snoc ss h, ← e, faults-snoc l ss, append_assoc)
    faults-snoc l (T.index d ss) = rw (under-snoc ss h, ← e, faults-snoc l ss, append_assoc)

    -- a primary with suffixes of which that is the last
    module _ (p : Expression) {ss : Suffixes} (i : Suffixes) (q : ss ≡ snoc c i) where
      pub snoc-means : suffixes text sc h (expression text sc (under ss h) p) ss
          ≡ suffixes text sc h (suffixes text sc k (expression text sc (under i k) p) i) (c T.no_suffixes)
      snoc-means = rw (q, under-snoc i h, ← e) (suffixes-snoc i (expression text sc (under i k) p))

      pub snoc-faults : (l : Leavable) → in_expression text sc l (under ss h) p ++ in_suffixes text sc l h ss
          ≡ (in_expression text sc l (under i k) p ++ in_suffixes text sc l k i) ++ in_suffixes text sc l h (c T.no_suffixes)
      snoc-faults l = rw (q, under-snoc i h, ← e, faults-snoc l i, append_assoc)

module _ (text : List ℕ) (sc : Scope) (h : ℕ) (p : Expression) {ss : Suffixes} (i : Suffixes) where
  module _ (d : Expression) (q : ss ≡ snoc (T.index d) i) where
    pub index-means : suffixes text sc h (expression text sc (under ss h) p) ss
        ≡ R.index (suffixes text sc h (expression text sc (under i h) p) i) (expression text sc (h + 1) d)
    unfolding under suffixes
    index-means = snoc-means (T.index d) text sc h refl p i q

    pub index-faults : (l : Leavable) → in_expression text sc l (under ss h) p ++ in_suffixes text sc l h ss
        ≡ (in_expression text sc l (under i h) p ++ in_suffixes text sc l h i) ++ in_expression text sc l (h + 1) d
    unfolding under in_suffixes
    index-faults l = rw (← (append-nil (in_expression text sc l (h + 1) d))) (snoc-faults (T.index d) text sc h refl p i q l)

  module _ (es : Expressions) (q : ss ≡ snoc (T.call es) i) {k : ℕ} (e : k ≡ h + 2 + T.count es) where
    pub call-means : suffixes text sc h (expression text sc (under ss h) p) ss
        ≡ R.call (suffixes text sc k (expression text sc (under i k) p) i) (expressions text sc (h + 2) es)
    unfolding under suffixes
    call-means = snoc-means (T.call es) text sc h e p i q

    pub call-faults : (l : Leavable) → in_expression text sc l (under ss h) p ++ in_suffixes text sc l h ss
        ≡ (in_expression text sc l (under i k) p ++ in_suffixes text sc l k i) ++ in_expressions text sc l (h + 2) es
    unfolding under in_suffixes
    call-faults l = rw (← (append-nil (in_expressions text sc l (h + 2) es))) (snoc-faults (T.call es) text sc h e p i q l)

-- ---- what follows a primary: nothing, a call or an index last

module _ {s : List ℕ} {middle end : ℕ} {here : Here} {st : State} where
  pub applied-ends : (y : ReadySuffixes s middle end here st) → end ≡ middle + length (encode_suffixes y.ready.tree.suffixes)
  applied-ends y = let a = y.ready.tree in
      omega (arith, length-append (encode a.primary) (encode_suffixes a.suffixes))

  pub applied-lies : (y : ReadySuffixes s middle end here st) → Holds s middle (encode_suffixes y.ready.tree.suffixes)
  applied-lies y = let a = y.ready.tree in second (encode a.primary) (encode_suffixes a.suffixes) middle y.ready.lies y.parts

  abbrev pub primary-part : end ≤ middle → ReadySuffixes s middle end here st → ReadyE s middle here st
  primary-part l y = let z = y.ready in let a = z.tree in
      sub z keeps-all (first (encode a.primary) (encode_suffixes a.suffixes) z.lies) refl (omega (arith, applied-ends y)) z.fine.0

  pub primary-gave : (text : List ℕ) {s' t t' : List ℕ} {r : State} → end ≤ middle → GaveE text s s' middle here t t' st r
      → GaveSuffixes text s s' middle end here t t' st r
  unfolding in_suffixes suffixes under encode_suffixes
  primary-gave text l g = record {
    by = λ y. let x = g.by (primary-part l y) in let a = y.ready.tree in let e = no-suffix a.suffixes (omega (arith, applied-ends y)) in
        record {
          keeps = x.keeps;
          did = rw e (did-as _ _ x.did (same-eq (sym (append-nil _))) (λ n c. refl) (omega (arith, length-append (encode a.primary) [])));
        };
  }

-- the last one, by the tag that was read
pub is-index : {s : List ℕ} {m end k : ℕ} {all : Suffixes} → k ≡ 49 → Last s m end all k → IsLast encode T.index s m end all
is-index e (an_index u) = u
is-index e (a_call u) = absurd (omega arith)

pub is_call : {s : List ℕ} {m end k : ℕ} {all : Suffixes} → (k ≡ 49 → ⊥) → Last s m end all k → IsLast encode_expressions T.call s m end all
is_call n (a_call u) = u
is_call n (an_index u) = absurd (n refl)

-- what was read of it: its tag, where its size stands, and where it starts
pub record LastRead (s : List ℕ) (middle end tag inner start : ℕ) : Type 0 where
  pub some : middle < end
  pub tag_is : tag ≡ get_or s (end - 1) 0
  pub inner-is : inner ≡ end - 2
  pub start_is : start ≡ inner - get_or s inner 0

pub last-read : {s : List ℕ} {middle end j tag inner size start : ℕ} → middle < end → j ≡ end - 1 → tag ≡ get_or s j 0 → inner ≡ end - 2
    → size ≡ get_or s inner 0 → start ≡ inner - size → LastRead s middle end tag inner start
last-read {s} l ej et ei ez es = record { some = l; tag_is = et ∙ ap (λ (k : ℕ). get_or s k 0) ej; inner-is = ei; start_is = omega arith }

pub start_of : {s : List ℕ} {middle end tag inner start : ℕ} → LastRead s middle end tag inner start
    → {A : Type 0} {enc : A → List ℕ} {cons : A → Suffixes → Suffixes} {all : Suffixes} (u : IsLast enc cons s middle end all)
    → start ≡ middle + length (encode_suffixes u.init)
start_of {s} r u = let z = ap (λ (n : ℕ). get_or s n 0) r.inner-is ∙ u.size_of in omega arith

module _ {s : List ℕ} {middle end tag inner start : ℕ} (r : LastRead s middle end tag inner start) where
  module _ {here : Here} {st : State} where
    pub the_last : (y : ReadySuffixes s middle end here st) → Last s middle end y.ready.tree.suffixes tag
    the_last y = rw r.tag_is (last y.ready.tree.suffixes (applied-lies y) (applied-ends y) r.some)

    module _ {A : Type 0} {enc : A → List ℕ} {cons : A → Suffixes → Suffixes} where
      pub last-well : (y : ReadySuffixes s middle end here st) (u : IsLast enc cons s middle end y.ready.tree.suffixes)
          → let c = cons u.part in (suffixes_depth u.init ≤ here.left) × (suffixes_depth (c T.no_suffixes) ≤ here.left) × FineSs u.init
          × FineSs (c T.no_suffixes)
      last-well y u = let d = deep-snoc (cons u.part) u.init {k = here.left} (omega (arith, ap suffixes_depth u.same)) in
          let f = fine-snoc (cons u.part) u.init (subst FineSs u.same y.ready.fine.1) in (d.0, d.1, f.0, f.1)

      -- the primary with all but the last one
      abbrev pub init-part : {s₁ : List ℕ} (here' : Here) {st' : State} (y : ReadySuffixes s middle end here st)
          → Keeps y.ready.base here.top s s₁ → (u : IsLast enc cons s middle end y.ready.tree.suffixes) → here'.top ≡ here.top
          → here'.strings ≡ here.strings → here'.left ≡ here.left
          → here'.height ≤ here.height + 2 + length (enc u.part) → st'.label ≤ st.label + 2 * length (enc u.part) → 0 < st'.label
          → ReadySuffixes s₁ middle start here' st'
      init-part here' {st'} y k u top strings left height label some = let z = y.ready in let a = z.tree in record {
        ready = sub {part = record { primary = a.primary; suffixes = u.init }} z k (both (encode a.primary) (encode_suffixes u.init)
            (first (encode a.primary) (encode_suffixes a.suffixes) z.lies) u.lies y.parts) top
            (omega (arith, start_of r u, length-append (encode a.primary) (encode_suffixes u.init), (last-well y u).0))
            (z.fine.0, (last-well y u).2);
        parts = y.parts;
      }

  -- an index
  module _ (q : tag ≡ 49) {here : Here} {st : State} where
    pub index-well : (y : ReadySuffixes s middle end here st) → let u = is-index q (the_last y) in (depth u.part ≤ here.left) × FineE u.part
    unfolding suffixes_depth FineSuffixes
    index-well y = let w = last-well y (is-index q (the_last y)) in (omega arith, w.3.0)

    abbrev pub index-left : ReadySuffixes s middle end here st → ReadySuffixes s middle start here st
    index-left y = let u = is-index q (the_last y) in init-part here y keeps-all u refl refl refl (omega arith) (omega arith) y.ready.some

    module _ (text : List ℕ) {s₁ t t₁ : List ℕ} {a : State} (g : GaveSuffixes text s s₁ middle start here t t₁ st a) where
      abbrev pub index-right : ReadySuffixes s middle end here st → ReadyE s₁ inner (raised 1 here) a
      index-right y = let z = y.ready in let u = is-index q (the_last y) in let x = g.by (index-left y) in
          let n : length (encode_applied (record { primary = z.tree.primary; suffixes = u.init })) ≡ length (encode z.tree.primary) + length
          (encode_suffixes u.init) = length-append (encode z.tree.primary) (encode_suffixes u.init) in
          sub z x.keeps u.lies-part refl (omega (arith, (index-well y).0)) (index-well y).1

      pub index-gave : {s₂ t₂ : List ℕ} {d : State} → GaveIndexed text s₁ s₂ inner here t₁ t₂ a d → GaveSuffixes text s s₂ middle end here t t₂ st d
      unfolding expr_code of_expr expr_labels
      index-gave g₂ = record {
        by = λ y. let z = y.ready in let sc = z.scope in let h = here.height in let p = z.tree.primary in let u = is-index q (the_last y) in
            let x = g.by (index-left y) in let w = g₂.by (index-right y) in
            let ef = index-faults text sc h p u.init u.part u.same (leavable here) in
            let er = index-means text sc h p u.init u.part u.same in
            record {
              keeps = keeps_then x.keeps w.keeps;
              did = did-as (code_a text here sc z.tree) _ (did_then x.did w.did) (same-eq (sym ef))
                  (λ n k. code_is (ap (expr_code here.strings h n) (sym er)) (ap (of_expr h) (sym er)) (ap expr_labels (sym er)))
                  (omega (arith, length-append (encode p) (encode_suffixes u.init)));
            };
      }

  -- a call
  module _ (q : tag ≡ 49 → ⊥) {here : Here} {st : State} where
    pub call-well : (y : ReadySuffixes s middle end here st)
        → let u = is_call q (the_last y) in (expressions_depth u.part ≤ here.left) × FineEs u.part
    unfolding suffixes_depth FineSuffixes
    call-well y = let w = last-well y (is_call q (the_last y)) in (omega arith, w.3.0)

    abbrev pub call-args : ReadySuffixes s middle end here st → ReadyArgs s start inner (raised 2 here) st
    call-args y = let z = y.ready in let u = is_call q (the_last y) in record {
      ready = sub z keeps-all u.lies-part refl (omega (arith, (call-well y).0)) (call-well y).1;
      starts = sym (start_of r u);
    }

    pub call-count : {n : ℕ} → Counts s start inner n → (y : ReadySuffixes s middle end here st) → n ≡ T.count (is_call q (the_last y)).part
    call-count k y = let u = is_call q (the_last y) in
        k.by _ (expression-items u.part (rw (← (start_of r u)) at u.lies-part) (omega (arith, start_of r u)))

    module _ (text : List ℕ) {n : ℕ} {s₁ t t₁ : List ℕ} {b : State} (k : Counts s start inner n)
        (g : GavePassed text s s₁ start inner here t t₁ st b) where
      abbrev pub call-callee : ReadySuffixes s middle end here st → ReadySuffixes s₁ middle start (raised (n + 2) here) b
      call-callee y = let z = y.ready in let u = is_call q (the_last y) in let x = g.by (call-args y) in
          init-part (raised (n + 2) here) y x.keeps u refl refl refl (omega (arith, call-count k y, count-few u.part)) (omega arith)
          (omega arith)

      pub call-gave : {s₂ t₂ t₃ : List ℕ} {c d : State} → GaveSuffixes text s₁ s₂ middle start (raised (n + 2) here) t₁ t₂ b c
          → Emits (G.K here.height ∷ []) [] t₂ t₃ c d → GaveSuffixes text s s₂ middle end here t t₃ st d
      unfolding expr_code of_expr expr_labels
      call-gave {s₂} {t₂} {t₃} {c} g₂ f₂ = record {
        by = λ y. let z = y.ready in let sc = z.scope in let h = here.height in let p = z.tree.primary in let u = is_call q (the_last y) in
            let x = g.by (call-args y) in let w = g₂.by (call-callee y) in let Es = expressions text sc (h + 2) u.part in let K = h + 2 + H.count
            Es in let e_k : K ≡ h + 2 + T.count u.part = rw (count-resolved text sc (h + 2) u.part) in let eh : h + (n + 2) ≡ K
            = omega (arith, call-count k y) in let F = suffixes text sc K (expression text sc (under u.init K) p) u.init in
            let fp = in_expression text sc (leavable here) (under u.init K) p ++ in_suffixes text sc (leavable here) K u.init in
            let fa = in_expressions text sc (leavable here) (h + 2) u.part in let w' : Did fp (expr_says here.strings K F)
            (2 * length (encode_applied (record { primary = p; suffixes = u.init }))) t₁ t₂ b c =
            rw (← eh) w.did in let ef = call-faults text sc h p u.init u.part u.same e_k (leavable here) in let er = call-means text sc h p
            u.init u.part u.same e_k in
            record {
              keeps = keeps_then x.keeps w.keeps;
              did = did-as (code_a text here sc z.tree) _ (did-put (did_then x.did w') f₂) (same_then (same-swap fa fp) (same-eq (sym ef)))
                  (λ m v. code_is (append_assoc (exprs_code here.strings (h + 2) m Es) (expr_code here.strings K (m + exprs_labels Es) F)
                  (G.K h ∷ []) ∙ ap (expr_code here.strings h m) (sym er)) (ap (of_expr h) (sym er)) (ap expr_labels (sym er)))
                  (omega (arith, length-append (encode p) (encode_suffixes u.init)));
            };
      }

-- ---- a primary with what follows it, as an expression

module _ {s : List ℕ} {middle end : ℕ} {d d' : Here} {st : State} where
  pub args-ready-at : d' ≡ d → ReadyArgs s middle end d st → ReadyArgs s middle end d' st
  args-ready-at e y = rw e y

  pub suffixes-ready-at : d' ≡ d → ReadySuffixes s middle end d st → ReadySuffixes s middle end d' st
  suffixes-ready-at e y = rw e y

  pub args-gave-at : {text s' t t' : List ℕ} {r : State} → d' ≡ d → GaveArgs text s s' middle end d' t t' st r
      → GaveArgs text s s' middle end d t t' st r
  args-gave-at e g = rw e at g

  pub suffixes-gave-at : {text s' t t' : List ℕ} {r : State} → d' ≡ d → GaveSuffixes text s s' middle end d' t t' st r
      → GaveSuffixes text s s' middle end d t t' st r
  suffixes-gave-at e g = rw e at g

-- no other kind, as a match has it
abbrev pub NotOther : ℕ → Type 0
NotOther k = ((((((Unit × (k ≡ 60 → ⊥)) × (k ≡ 61 → ⊥)) × (k ≡ 59 → ⊥)) × (k ≡ 51 → ⊥)) × (k ≡ 131 → ⊥)) × (k ≡ 7 → ⊥)) × (k ≡ 128 → ⊥)

pub is-suffixed : {s : List ℕ} {lo end k : ℕ} {e : Expression} → NotOther k → Case s lo end k e → IsTwo encode encode_suffixes T.suffixed s lo end e
is-suffixed n (a_number h) = absurd (n.0.0.0.0.0.0.1 refl)
is-suffixed n (a_string h) = absurd (n.0.0.0.0.0.1 refl)
is-suffixed n (a_name w p q) = absurd (n.0.0.0.0.1 refl)
is-suffixed n (a_bracket h q) = absurd (n.0.0.0.1 refl)
is-suffixed n (a_dyadic h z v q) = absurd (n.0.0.1 refl)
is-suffixed n (a_valof h q) = absurd (n.0.1 refl)
is-suffixed n (a_monadic v h q) = absurd (n.1 refl)
is-suffixed n (a_suffixed {e} {ss} h z v q) = is-two encode encode_suffixes T.suffixed e ss h z v q
is-suffixed n (a_called {e} {ss} h z v q) = is-two encode encode_suffixes T.suffixed e ss h z v q

module _ {s : List ℕ} {end : ℕ} {here : Here} {st : State} (n : Node) (nd : NodeAt s end n) (no_other : NotOther n.kind) {middle : ℕ}
    (m : middle ≡ n.start + n.value) where
  pub suffixed-is : (y : ReadyE s end here st) → IsTwo encode encode_suffixes T.suffixed s y.lo end y.tree
  suffixed-is y = is-suffixed no_other (find n nd refl y)

  pub suffixed-well : (y : ReadyE s end here st) → let u = suffixed-is y in
      (depth u.left + 1 ≤ here.left) × (suffixes_depth u.list + 1 ≤ here.left) × FineE u.left × FineSs u.list
  unfolding depth Fine
  suffixed-well y = let u = suffixed-is y in let e = ap depth u.same in let f = subst FineE u.same y.fine in
      (omega arith, omega arith, f.0, f.1)

  pub suffixed-middle : (y : ReadyE s end here st) → middle ≡ y.lo + length (encode (suffixed-is y).left)
  suffixed-middle y = let u = suffixed-is y in omega arith

  abbrev pub suffixed-part : ReadyE s end here st → ReadySuffixes s middle n.inner (inside here) st
  suffixed-part y = let u = suffixed-is y in let k = length-append (encode u.left) (encode_suffixes u.list) in record {
    ready = sub {part = record { primary = u.left; suffixes = u.list }} y keeps-all (both (encode u.left) (encode_suffixes u.list) u.lies
        u.lies-list refl) refl (omega (arith, (suffixed-well y).0, (suffixed-well y).1)) ((suffixed-well y).2, (suffixed-well y).3);
    parts = suffixed-middle y;
  }

  pub suffixed-gave : (text : List ℕ) {s' t t' : List ℕ} {r : State} → GaveSuffixes text s s' middle n.inner (inside here) t t' st r
      → GaveE text s s' end here t t' st r
  unfolding in_expression expression
  suffixed-gave text {s'} {t} {t'} {r} g = record {
    by = λ y. let u = suffixed-is y in let x = g.by (suffixed-part y) in let k = length-append (encode u.left) (encode_suffixes u.list) in
        so text here y.scope u.same (record { keeps = x.keeps; did = did-as _ _ x.did same_refl (λ m v. refl) (omega arith) });
  }

pub call-few : {s : List ℕ} {middle end tag inner start n : ℕ} {here : Here} {st : State} (r : LastRead s middle end tag inner start)
    (q : tag ≡ 49 → ⊥) → Counts s start inner n → ReadySuffixes s middle end here st → n < end
call-few r q k y = let u = is_call q (the_last r y) in omega (arith, call-count r q k y, count-few u.part)

-- ---- an index and arguments by themselves

-- the same with another state
abbrev pub with-state : {A : Type 0} {enc : A → List ℕ} {deep : A → ℕ} {Fine : A → Type 0} {s : List ℕ} {end : ℕ} {here : Here} {st st' : State}
    → st'.label ≡ st.label → Ready enc deep Fine s end here st → Ready enc deep Fine s end here st'
with-state e y = sub y keeps-all y.lies refl (omega arith) y.fine

pub indexed-gave : (text : List ℕ) {s s₁ t t₁ t₂ t₃ : List ℕ} {end : ℕ} {here : Here} {st b c d : State}
    → Emits (G.SP here.height ∷ []) ((here.height + 1) ∷ []) t t₁ st b → GaveE text s s₁ end (raised 1 here) t₁ t₂ b c
    → Emits (G.AIP here.height ∷ G.X 1 ∷ []) [] t₂ t₃ c d → GaveIndexed text s s₁ end here t t₃ st d
indexed-gave text f g f₂ =
    record { by = λ y. let x = g.by (with-state f.label y) in record { keeps = x.keeps; did = did_after f (did-put x.did f₂) } }

abbrev pub args-with : {s : List ℕ} {from end : ℕ} {here : Here} {st st' : State} → st'.label ≡ st.label → ReadyArgs s from end here st
    → ReadyArgs s from end here st'
args-with e y = record { ready = with-state e y.ready; starts = y.starts }

pub passed-gave : (text : List ℕ) {s s₁ t t₁ : List ℕ} {from end : ℕ} {here : Here} {st a b : State} → Reached (here.height + 2) st a
    → GaveArgs text s s₁ from end (raised 2 here) t t₁ a b → GavePassed text s s₁ from end here t t₁ st b
passed-gave text {t = t} e g =
    record { by = λ y. let x = g.by (args-with (e.by t).label y) in record { keeps = x.keeps; did = did_after (e.by t) x.did } }
