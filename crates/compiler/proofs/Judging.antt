-- Constants, and one declaration of locals.
use Rattle.laws.proofs.Basics.{ℕ, ◌+◌, ◌-◌, ◌*◌, ◌/◌, ◌%◌, ◌^◌, ◌<◌, ◌≤◌, ◌≡◌, refl, sym, ap, subst, ◌∙◌, List, [], ◌∷◌, ◌++◌, append-nil, Bool, true}
use Rattle.laws.proofs.Basics.{false, cond, length, get_or, length-append, leb, arith, le-leb, lt-leb}
use Rattle.std.specs.Prelude.{Ok, Err}
use Rattle.text.specs.Faults.{number_of}
use Rattle.text.specs.declared.faults.Fault.TheVariants as F
use Rattle.language.specs.Tree as T
use Rattle.compiler.proofs.Language.{Name, Simple, Constant, expressions_depth, Scope, lookup, fault, Judged, good, refused, judge, for_vector}
use Rattle.compiler.proofs.Language.{judged_word, faults_of, signed, of_found, of_simple, within, declare_all, encode_name, encode_names}
use Rattle.compiler.proofs.Language.{encode_constant}
use Rattle.compiler.proofs.Language.{encode_positive, encode_negative, encode_expressions, FineName, FineNames, FineConstant}
use Rattle.language.specs.Names as N
use Rattle.code.specs.Generate as G
use Rattle.compiler.proofs.Vocabulary.{Shows, Looked, code, found, name_at, State, Here, Node, FineEs, NodeAt, Emits, Faulted, Holds, ReadyArgs}
use Rattle.compiler.proofs.Vocabulary.{GaveArgs, Verdict, Refused, ReadyNames, Declares}
use Rattle.compiler.proofs.Common.{ready-names, keeps-all, keeps_then, keeps-shows, name-there, means-unknown, means-manifest, Held}
use Rattle.compiler.proofs.Common.{looked-word, did_none, did_then, did-emit, did-as, same_refl, code_is, keeps-lies, kid, ends, value-is}
use Rattle.compiler.proofs.Common.{place_is, size_is, kind-is, IsTwo, two-closed, sub}
use Rattle.compiler.specs.Commands.{nothing}
use Rattle.compiler.specs.Locals.{Fitting, word_of, Says, says_good, says_refused, NamedConstant, Judges, JudgesMost, Blames}
use Rattle.compiler.specs.Locals.{Local, a_vector, some_values, encode_local}
use Rattle.compiler.specs.Locals.{local_depth, FineLocal, scope_with, height_with, faults_l, local_says, ReadyLocal, GaveLocal}

pub signed_minus : {b : Bool} {x : ℕ} (v : ℕ) → b ≡ true → x ≡ 65536 - v → x % 65536 ≡ signed b v
signed_minus {b} {x} v e q = let z : x % 65536 ≡ (0 + (65536 - v)) % 65536 = ap (λ (k : ℕ). k % 65536) (omega arith) in rw e z

-- ---- what a name means, as a constant

signed-under : (b : Bool) (v k : ℕ) → v < k → 65536 ≤ k → signed b v < k
signed-under true v k l h = omega arith
signed-under false v k l h = l

-- no name, a manifest, or another name
pub of-found : (P : Judged → Type 0) (c : Constant) (n : Name) (f : N.Found) → (f ≡ N.unknown → P (refused (fault n.place 8)))
    → ((v : ℕ) → f ≡ N.known (N.manifest v) → P (good (signed c.minus v))) → P (refused (fault c.place 11)) → P (of_found c n f)
of-found P c n N.unknown a b d = a refl
of-found P c n (N.known (N.local k)) a b d = d
of-found P c n (N.known (N.global k)) a b d = d
of-found P c n (N.known (N.manifest v)) a b d = b v refl
of-found P c n (N.known (N.function k)) a b d = d

module _ {m : ℕ} (minus : Bool) {name place : ℕ} (fits : (name < 2 ^ 32) × (place < 2 ^ 32) × (m < 2 ^ 32)) where
  pub named-unknown : m ≡ 0 → NamedConstant m minus name place (Err (record { place = name; fault = F.UnknownName }))
  named-unknown e = record {
    by = λ c n f q em ep en. rw (means-unknown f q e, en) says_refused;
    fits = (fits.0, omega arith);
    low = omega arith;
  }

  pub named-manifest : {x : ℕ} → m % 4 ≡ 3 → x ≡ signed minus (m / 4) → NamedConstant m minus name place (Ok x)
  named-manifest {x} e ex = record {
    by = λ c n f q em ep en. let w : x ≡ signed c.minus (m / 4) = rw (ex, em) in rw (means-manifest f q e, ← w) says_good;
    fits = tt;
    low = omega (arith, signed-under minus (m / 4) (2 ^ 30) (omega arith) (omega arith));
  }

  pub named_other : (m ≡ 0 → ⊥) → (m % 4 ≡ 3 → ⊥) → NamedConstant m minus name place (Err (record { place = place; fault = F.Constant }))
  unfolding found code
  named_other n0 n3 = record {
    by = λ c n f q em ep en. of-found (Says (Err (record { place = place; fault = F.Constant }))) c n f (λ z. absurd (n0 (q ∙ ap found z)))
        (λ v z. let w = q ∙ ap found z in absurd (n3 (omega arith))) (rw ep says_refused);
    fits = (fits.1, omega arith);
    low = omega arith;
  }

found_word : (c : Constant) (n : Name) (f : N.Found) → Held f → judged_word (of_found c n f) < 65536
found_word c n f u = of-found (λ x. judged_word x < 65536) c n f (λ e. omega arith) (λ v e. signed-under c.minus v 65536 (rw e at u) (omega arith))
    (omega arith)

-- a constant is a word
pub judged-word : (text : List ℕ) (sc : Scope) (c : Constant) {s : List ℕ} {top : ℕ} → Shows s top sc → FineConstant c
    → judged_word (judge text sc c) < 65536
unfolding judge
judged-word text sc c sh f = go c.simple f.small
  where
    go : (x : Simple) → ((v : ℕ) → x ≡ T.literal v → v < 65536) → judged_word (of_simple text sc c x) < 65536
    go (T.literal v) l = signed-under c.minus v 65536 (l v refl) (omega arith)
    go (T.known n) l = found_word c n (lookup text sc n) (looked-word text n sh)

-- ---- the constant that ends there

-- a number is a word, and a name without a minus has the constant's place
abbrev FineSimple : (place : ℕ) (minus : Bool) → Simple → Type 0
FineSimple p b x = ((v : ℕ) → x ≡ T.literal v → v < 65536) × ((n : Name) → x ≡ T.known n → b ≡ false → p ≡ n.place)

module _ (text : List ℕ) {s : List ℕ} {end : ℕ} (top : ℕ) (n : Node) (nd : NodeAt s end n) where
  -- a number, a name, a number with a minus, and a name with a minus
  judges : {r : Verdict} → Fitting r → word_of r < 2 ^ 30
      → ((v : ℕ) → n.kind ≡ 60 → n.value ≡ v → v < 65536 → Says r (good v))
      → ((sc : Scope) (c : Constant) (x : Name) → Shows s top sc → n.kind ≡ 59 → name_at s n.inner ≡ x → x.place ≡ n.place → c.minus ≡ false
      → c.place ≡ n.place → Says r (of_found c x (lookup text sc x)))
      → ((v : ℕ) → n.kind ≡ 36 → n.start ≡ n.inner → n.value ≡ v → Says r (good (signed true v)))
      → ((sc : Scope) (c : Constant) (x : Name) → Shows s top sc → n.kind ≡ 36 → n.start + 4 ≡ n.inner → name_at s n.start ≡ x
      → c.minus ≡ true → c.place ≡ n.place → Says r (of_found c x (lookup text sc x))) → Judges text s end top r
  unfolding judge encode_constant encode_positive encode_negative encode_name
  judges {r} f l number name minus_number minus-name = record {
    fits = f;
    low = l;
    by = λ sc lo c sh fine h e. go sc lo c.place c.minus c.simple sh (fine.small, fine.place) h e;
  }
    where
      go : (sc : Scope) (lo p : ℕ) (b : Bool) (x : Simple) → Shows s top sc → FineSimple p b x → Holds s lo
          (cond b (encode_negative p x) (encode_positive p x)) → end ≡ lo + length (cond b (encode_negative p x) (encode_positive p x)) → Says r
          (of_simple text sc (record { place = p; minus = b; simple = x }) x)
      go sc lo p false (T.literal v) sh f h e = number v (nd.kind ∙ kind-is [] v p 60 h e) (nd.value ∙ value-is [] v p 60 h e) (f.0 v refl)
      go sc lo p false (T.known x) sh f h e = let en = ends [] x.width x.place 59 h e in let w = value-is [] x.width x.place 59 h e in
          let q = place_is [] x.width x.place 59 h e in let a : n.inner + 1 ≡ end - 3 = omega arith in
          let b : n.inner + 2 ≡ end - 2 = omega arith in
          name sc (record { place = p; minus = false; simple = T.known x }) x sh (nd.kind ∙ kind-is [] x.width x.place 59 h e)
          (name-there s n.inner (rw (a, w)) (rw (b, q))) (sym (nd.place ∙ q)) refl (f.1 x refl refl ∙ sym (nd.place ∙ q))
      go sc lo p true (T.literal v) sh f h e =
          minus_number v (nd.kind ∙ kind-is [] v p 36 h e) (omega (arith, size_is [] v p 36 h e)) (nd.value ∙ value-is [] v p 36 h e)
      go sc lo p true (T.known x) sh f h e = let c : List ℕ = 0 ∷ x.width ∷ x.place ∷ 59 ∷ [] in let hc = kid c 0 p 36 h e in
          let z = size_is c 0 p 36 h e in let en = ends c 0 p 36 h e in let es : lo ≡ n.start = omega arith in
          minus-name sc (record { place = p; minus = true; simple = T.known x }) x sh (nd.kind ∙ kind-is c 0 p 36 h e) (omega arith)
          (rw es at (name-there s lo (hc.at 1 (omega arith)) (hc.at 2 (omega arith)))) refl (sym (nd.place ∙ place_is c 0 p 36 h e))

  pub judge-number : n.kind ≡ 60 → Judges text s end top (Ok (n.value % 65536))
  judge-number q = judges tt (omega arith) (λ v k e l. let w : v ≡ n.value % 65536 = omega arith in rw w says_good)
      (λ sc c x sh k en o m p. absurd (omega arith)) (λ v k z e. absurd (omega arith)) (λ sc c x sh k z en m p. absurd (omega arith))

  pub judge-name : {m : ℕ} {r : Verdict} → n.kind ≡ 59 → Looked text s top n.inner m → NamedConstant m false n.place n.place r
      → Judges text s end top r
  judge-name q lk nm = judges nm.fits nm.low (λ v k e l. absurd (omega arith))
      (λ sc c x sh k en o m p. nm.by c x (lookup text sc x) (rw (lk.by sc sh, en)) m p o)
      (λ v k z e. absurd (omega arith)) (λ sc c x sh k z en m p. absurd (omega arith))

  pub judge-negative : {w : ℕ} → (n.kind ≡ 60 → ⊥) → (n.kind ≡ 59 → ⊥) → n.start ≡ n.inner → w ≡ signed true n.value
      → Judges text s end top (Ok w)
  judge-negative n1 n2 q ew = judges tt (omega arith) (λ v k e l. absurd (n1 k)) (λ sc c x sh k en o m p. absurd (n2 k))
      (λ v k z e. rw (← (ew ∙ ap (signed true) e)) says_good) (λ sc c x sh k z en m p. absurd (omega arith))

  pub judge-negated : {m name : ℕ} {r : Verdict} → (n.kind ≡ 60 → ⊥) → (n.kind ≡ 59 → ⊥) → (n.start ≡ n.inner → ⊥)
      → Looked text s top n.start m → name ≡ get_or s (n.start + 2) 0 → NamedConstant m true name n.place r → Judges text s end top r
  judge-negated n1 n2 q lk ename nm = judges nm.fits nm.low (λ v k e l. absurd (n1 k)) (λ sc c x sh k en o m p. absurd (n2 k))
      (λ v k z e. absurd (q z)) (λ sc c x sh k z en m p. nm.by c x (lookup text sc x) (rw (lk.by sc sh, en)) m p
      (sym (ename ∙ ap (λ (z : Name). z.place) en)))

-- its place is that of its record
constant-place : {s : List ℕ} {lo end : ℕ} (p : ℕ) (b : Bool) (x : Simple) → FineSimple p b x
    → Holds s lo (cond b (encode_negative p x) (encode_positive p x)) → end ≡ lo + length (cond b (encode_negative p x) (encode_positive p x))
    → get_or s (end - 2) 0 ≡ p
unfolding encode_positive encode_negative encode_name
constant-place p false (T.literal v) f h e = place_is [] v p 60 h e
constant-place p false (T.known x) f h e = place_is [] x.width x.place 59 h e ∙ sym (f.1 x refl refl)
constant-place p true (T.literal v) f h e = place_is [] v p 36 h e
constant-place p true (T.known x) f h e = place_is (0 ∷ x.width ∷ x.place ∷ 59 ∷ []) 0 p 36 h e

pub place-there : {s : List ℕ} {lo end : ℕ} (c : Constant) → FineConstant c → Holds s lo (encode_constant c) → end ≡ lo + length (encode_constant c)
    → get_or s (end - 2) 0 ≡ c.place
unfolding encode_constant
place-there c f h e = constant-place c.place c.minus c.simple (f.small, f.place) h e

-- a test that a constant passes, and one that it fails
module _ (c : Constant) (test : ℕ → Bool) where
  pub within-refused : {e : Refused} (x : Judged) → Says (Err e) x → Says (Err e) (within c test x)
  within-refused (refused fs) says_refused = says_refused
  within-refused (good v) x = elim x [ ]

  pub within-passes : {v : ℕ} (x : Judged) → test v ≡ true → Says (Ok v) x → Says (Ok v) (within c test x)
  within-passes (good v) p says_good = rw p says_good
  within-passes (refused fs) p x = elim x [ ]

  pub within-fails : {v : ℕ} (x : Judged) {place : ℕ} → test v ≡ false → place ≡ c.place → Says (Ok v) x
      → Says (Err (record { place = place; fault = F.Constant })) (within c test x)
  within-fails (good v) f e says_good = rw (f, ← e) says_refused
  within-fails (refused fs) f e x = elim x [ ]

module _ (most : ℕ) {text s : List ℕ} {end top : ℕ} where
  pub most-refused : {e : Refused} → Judges text s end top (Err e) → JudgesMost most text s end top (Err e)
  most-refused g = record {
    small = omega arith;
    fits = g.fits;
    by = λ sc lo c sh fine h en. within-refused c (λ v. leb v most) (judge text sc c) (g.by sc lo c sh fine h en);
  }

  pub most-big : {v p e₂ : ℕ} → Judges text s end top (Ok v) → most < v → e₂ ≡ end - 2 → p ≡ get_or s e₂ 0 → p < 2 ^ 32
      → JudgesMost most text s end top (Err (record { place = p; fault = F.Constant }))
  most-big {v} g l q e f = record {
    small = omega arith;
    fits = (f, omega arith);
    by = λ sc lo c sh fine h en. within-fails c (λ v. leb v most) (judge text sc c) (lt-leb v most l)
        (rw (e, q, place-there c fine h en)) (g.by sc lo c sh fine h en);
  }

  pub most-fits : {v : ℕ} → Judges text s end top (Ok v) → v ≤ most → JudgesMost most text s end top (Ok v)
  most-fits {v} g l = record {
    small = l;
    fits = tt;
    by = λ sc lo c sh fine h en. within-passes c (λ v. leb v most) (judge text sc c) (le-leb v most l) (g.by sc lo c sh fine h en);
  }

-- what is shown of a constant by what is said of it
pub of-verdict : {j : Verdict} (P : Judged → Type 0) → ((v : ℕ) → j ≡ Ok v → P (good v))
    → ((e : Refused) → j ≡ Err e → P (refused (fault e.place (number_of e.fault)))) → (x : Judged) → Says j x → P x
of-verdict P f g (good v) says_good = f v refl
of-verdict P f g (refused fs) (says_refused {e}) = g e refl

ok-faults : {v : ℕ} (x : Judged) → Says (Ok v) x → faults_of x ≡ []
ok-faults (good v) says_good = refl
ok-faults (refused fs) x = elim x [ ]

err-faults : {e : Refused} (x : Judged) → Says (Err e) x → faults_of x ≡ fault e.place (number_of e.fault)
err-faults (refused fs) says_refused = refl
err-faults (good v) x = elim x [ ]

pub blame-none : {v : ℕ} {st : State} → Blames (Ok v) st st
blame-none = record { by = λ x s t. rw (ok-faults x s) (did_none 0) }

pub blame-some : {e : Refused} {st r : State} → Faulted e.place (number_of e.fault) st r → Blames (Err e) st r
blame-some f = record { by = λ x s t. rw (err-faults x s) (f.by nothing t) }

pub says-word : {j : Verdict} (x : Judged) → Says j x → word_of j ≡ judged_word x
says-word (good v) says_good = refl
says-word (refused fs) says_refused = refl

-- ---- a vector

pub is-vector : {s : List ℕ} {lo end : ℕ} (x : Local) → Holds s lo (encode_local x) → end ≡ lo + length (encode_local x) → get_or s (end - 1) 0 ≡ 6
    → IsTwo encode_name encode_constant a_vector s lo end x
unfolding encode_local
is-vector (a_vector n c) h e q = two-closed encode_name encode_constant a_vector n c 0 6 h e
is-vector (some_values ns es) h e q = absurd (omega (arith, kind-is (encode_names ns ++ encode_expressions es) (length (encode_names ns)) 0 3 h e))

pub name-long : (n : Name) → length (encode_name n) ≡ 4
unfolding encode_name
name-long n = refl

pub one_name : {s : List ℕ} {lo : ℕ} (n : Name) → Holds s lo (encode_name n) → Holds s lo (encode_names (n ∷ []))
unfolding encode_names encode_name
one_name n h = h

pub names-long : (ns : List Name) → length (encode_names ns) ≡ 4 * length ns
unfolding encode_names encode_name
names-long [] = refl
names-long (n ∷ ns) = omega (arith, names-long ns, length-append (0 ∷ n.width ∷ n.place ∷ 59 ∷ []) (encode_names ns))

pub one-fine : {n : Name} → FineName n → FineNames (n ∷ [])
unfolding FineNames
one-fine f = (f, tt)

module _ {s : List ℕ} {end : ℕ} {here : Here} {st : State} (n : Node) (nd : NodeAt s end n) (q : get_or s (end - 1) 0 ≡ 6) where
  pub vector-is : (y : ReadyLocal s end here st) → IsTwo encode_name encode_constant a_vector s y.lo end y.tree
  vector-is y = is-vector y.tree y.lies y.ends q

  pub vector-start : (y : ReadyLocal s end here st) → n.start ≡ y.lo
  vector-start y = let u = vector-is y in omega arith

  pub vector-fine : (y : ReadyLocal s end here st) → FineConstant (vector-is y).list × FineName (vector-is y).left
  unfolding FineLocal
  vector-fine y = subst FineLocal (vector-is y).same y.fine

  abbrev pub vector-names : {e : ℕ} → e ≡ n.start + 4 → ReadyLocal s end here st → ReadyNames s n.start e here.top here.height
  vector-names ee y = let u = vector-is y in let four = name-long u.left in let a = vector-start y in
      ready-names y.base y.scope (u.left ∷ []) (subst (λ (k : ℕ). Holds s k (encode_names (u.left ∷ []))) (sym a)
      (one_name u.left u.lies)) y.shows (one-fine (vector-fine y).1) (omega (arith, names-long (u.left ∷ [])))

  pub vector-gave : (text : List ℕ) {s₁ t t' : List ℕ} {e hh : ℕ} {j : Verdict} {a b c : State} (ee : e ≡ n.start + 4)
      → JudgesMost 4095 text s n.inner here.top j → Blames j st a → Declares text s s₁ n.start e here.top here.height a b → {size : ℕ}
      → size ≡ word_of j → Emits (G.LP (here.height + 1) ∷ G.SP here.height ∷ []) ((here.height + 2 + size) ∷ []) t t' b c
      → hh ≡ here.height + 2 + size
      → GaveLocal text s s₁ end here t t' st (record { top = here.top + 2; height = hh; done = c })
  unfolding scope_with height_with faults_l local_says declare_all
  vector-gave text {s₁} {t} {t'} {e} {hh} {j} {a} {b} {c} ee jv bl de {size} es em eh = record {
    by = λ y. let u = vector-is y in let sc = y.scope in let h = here.height in let K = u.list in let four = name-long u.left in
        let sa = jv.by sc _ K y.shows
        (vector-fine y).0 u.lies-list (omega arith) in let d = de.by (vector-names ee y) in let w : size ≡ judged_word (for_vector text sc K) = es ∙ says-word (for_vector text sc K) sa in
        let two : here.top + 2 * length (u.left ∷ []) ≡ here.top + 2 = omega arith in
        rw u.same (record {
          after = record {
            shows = rw two at d.shows;
            height = rw (eh, w);
            keeps = d.keeps;
            above = omega arith;
            room = omega (arith, ap (λ (x : Local). length (encode_local x)) u.same);
            tall = omega (arith, ap (λ (x : Local). length (encode_local x)) u.same);
          };
          did = did-as (local_says text sc here (a_vector u.left K)) _ (did-emit (did_then (bl.by (for_vector text sc K) sa t) (d.did t)) em)
              same_refl (λ m v. code_is refl (rw w) (omega arith)) (omega arith);
        });
  }

-- ---- names with values

pub is-values : {s : List ℕ} {lo end : ℕ} (x : Local) → Holds s lo (encode_local x) → end ≡ lo + length (encode_local x) → (get_or s (end - 1) 0 ≡ 6 → ⊥)
    → IsTwo encode_names encode_expressions some_values s lo end x
unfolding encode_local
is-values (a_vector n c) h e q = absurd (q (kind-is (encode_name n ++ encode_constant c) (length (encode_name n)) 0 6 h e))
is-values (some_values ns es) h e q = two-closed encode_names encode_expressions some_values ns es 0 3 h e

module _ {s : List ℕ} {end : ℕ} {here : Here} {st : State} (n : Node) (nd : NodeAt s end n) (q : n.kind ≡ 6 → ⊥) {middle : ℕ}
    (m : middle ≡ n.start + n.value) where
  pub values-is : (y : ReadyLocal s end here st) → IsTwo encode_names encode_expressions some_values s y.lo end y.tree
  values-is y = is-values y.tree y.lies y.ends (λ e. q (nd.kind ∙ e))

  pub values-start : (y : ReadyLocal s end here st) → (n.start ≡ y.lo) × (middle ≡ y.lo + length (encode_names (values-is y).left))
  values-start y = let u = values-is y in (omega arith, omega arith)

  pub values-fine : (y : ReadyLocal s end here st)
      → (length (values-is y).left ≡ T.count (values-is y).list) × FineEs (values-is y).list × FineNames (values-is y).left
  unfolding FineLocal
  values-fine y = subst FineLocal (values-is y).same y.fine

  pub values-deep : (y : ReadyLocal s end here st) → expressions_depth (values-is y).list ≤ here.left
  unfolding local_depth
  values-deep y = omega (arith, ap local_depth (values-is y).same)

  abbrev pub values-args : ReadyLocal s end here st → ReadyArgs s middle n.inner here st
  values-args y = let u = values-is y in record {
    ready = sub y keeps-all u.lies-list refl (omega (arith, values-deep y)) (values-fine y).1;
    starts = sym (values-start y).1;
  }

  module _ (text : List ℕ) {s₁ t t' : List ℕ} {a : State} (g : GaveArgs text s s₁ middle n.inner here t t' st a) where
    abbrev pub values-names : ReadyLocal s end here st → ReadyNames s₁ n.start middle here.top here.height
    values-names y = let u = values-is y in let k = (g.by (values-args y)).keeps in let a = values-start y in
        ready-names y.base y.scope u.left
        (keeps-lies k (omega arith) (subst (λ (x : ℕ). Holds s x (encode_names u.left)) (sym a.0) u.lies))
        (keeps-shows k (omega arith) y.shows) (values-fine y).2 (omega (arith, names-long u.left))

    pub values-gave : {s₂ : List ℕ} {top height : ℕ} {b : State} → Declares text s₁ s₂ n.start middle here.top here.height a b
        → top ≡ here.top + n.value / 2 → height ≡ here.height + n.value / 4
        → GaveLocal text s s₂ end here t t' st (record { top = top; height = height; done = b })
    unfolding scope_with height_with faults_l local_says
    values-gave {s₂} {top} {height} de et eh = record {
      by = λ y. let u = values-is y in let sc = y.scope in let h = here.height in let ns = u.left in let x = g.by (values-args y) in
          let d = de.by (values-names y) in let v : n.value ≡ 4 * length ns = nd.value ∙ u.value_of ∙ names-long ns in let two : here.top + 2
          * length ns ≡ top = omega arith in
          rw u.same (record {
            after = record {
              shows = rw two at d.shows;
              height = omega arith;
              keeps = keeps_then x.keeps d.keeps;
              above = omega arith;
              room = omega (arith, names-long ns, ap (λ (z : Local). length (encode_local z)) u.same);
              tall = omega (arith, names-long ns, ap (λ (z : Local). length (encode_local z)) u.same);
            };
            did = did-as (local_says text sc here (some_values ns u.list)) _ (did_then x.did (d.did t')) same_refl
                (λ k e. code_is (append-nil _) (append-nil _) (omega arith)) (omega (arith, ap (λ (z : Local). length (encode_local z)) u.same));
          });
    }
