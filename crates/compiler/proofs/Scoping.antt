-- Laws of spelling, of the stack of names, and of what is pushed on it.
use Rattle.laws.proofs.Basics.{ℕ, zero, suc, ◌+◌, ◌-◌, ◌*◌, ◌/◌, ◌%◌, ◌<◌, ◌≤◌, min, ◌≡◌, refl, sym, ap, ◌∙◌, List, [], ◌∷◌, Bool, true, false, cond}
use Rattle.laws.proofs.Basics.{length, get_or, set, take, drop, length-set, length-take, take-length, length-drop, get_or-drop, get_or-set_same}
use Rattle.laws.proofs.Basics.{get_or-set_other, eqb}
use Rattle.laws.proofs.Basics.{leb, arith, eq-eqb, ne_eqb, eqb-true, eqb-false, leb-true, leb-false, List·getD-eq-default}
use Rattle.laws.proofs.Cases.{by_cases, either}
use Rattle.std.specs.Prelude.{Option, Some}
use native.Mathlib.Numerals.{unary_clauses}
use Rattle.compiler.proofs.Language.{Name, Meaning, local, global, manifest, function, Found, unknown, known, Scope, opened, declared, lookup}
use Rattle.compiler.proofs.Language.{in_block, same_bytes, same_name, FineName}
use Rattle.compiler.specs.declared.scope.Meaning as D
use Rattle.compiler.specs.declared.scope.Meaning.TheVariants as M
use Rattle.compiler.specs.Scope.{entry_of, code_of, named, name_at, packed, code, found, Worded, Shows, nothing, mark, name, Pushed, PushedName, Keeps}

-- ---- spelling

never : (t : Bool) → cond t false false ≡ false
never true = refl
never false = refl

same_bytes-length : (x y : List ℕ) → (length x ≡ length y → ⊥) → same_bytes x y ≡ false
unfolding same_bytes
same_bytes-length [] [] h = absurd (h refl)
same_bytes-length [] (b ∷ y) h = refl
same_bytes-length (a ∷ x) [] h = refl
same_bytes-length (a ∷ x) (b ∷ y) h = rw (same_bytes-length x y (λ e. h (ap suc e)), never)

-- only so many bytes as there are
cut : (n : ℕ) (x : List ℕ) → take n x ≡ take (min n (length x)) x
cut zero x = simp unary_clauses
cut (suc n) [] = simp unary_clauses
cut (suc n) (b ∷ x) = simp unary_clauses (rw (cut n x))

module _ (text : List ℕ) (p q n : ℕ) where
  spelt : (p : ℕ) → take n (drop p text) ≡ take (min n (length text - p)) (drop p text)
  spelt p = rw (cut n (drop p text), length-drop p text)

  width : (p : ℕ) → length (take n (drop p text)) ≡ min n (length text - p)
  width p = rw (length-take n (drop p text), length-drop p text)

  not-long : {a b : ℕ} → a ≡ min n (length text - p) → b ≡ min n (length text - q) → (a ≡ b → ⊥)
      → false ≡ same_bytes (take n (drop p text)) (take n (drop q text))
  not-long ea eb h = sym (same_bytes-length (take n (drop p text)) (take n (drop q text)) (λ e. h (ea ∙ sym (width p) ∙ e ∙ width q ∙ sym eb)))

-- names of other widths, and of the same
pub other_width : (text : List ℕ) (x place width : ℕ) → (x % 65536 ≡ width → ⊥)
    → false ≡ same_name text (named (x / 65536) (x % 65536)) (named place width)
other_width text x place width h = sym (rw (ne_eqb (x % 65536) width h))

pub same_width : (text : List ℕ) (x place width : ℕ) {t : Bool} → x % 65536 ≡ width
    → t ≡ same_bytes (take width (drop (x / 65536) text)) (take width (drop place text))
    → t ≡ same_name text (named (x / 65536) (x % 65536)) (named place width)
same_width text x place width h e = cc (eq-eqb (x % 65536) width h)

-- the bytes up to one, by that one
last_byte : (i : ℕ) (x y : List ℕ) → i < length x → i < length y
    → same_bytes (take (suc i) x) (take (suc i) y) ≡ cond (eqb (get_or x i 0) (get_or y i 0)) (same_bytes (take i x) (take i y)) false
unfolding same_bytes
last_byte i [] y a b = absurd (omega arith)
last_byte i (c ∷ x) [] a b = absurd (omega arith)
last_byte zero (c ∷ x) (d ∷ y) a b = refl
last_byte (suc i) (c ∷ x) (d ∷ y) a b = by_cases (eqb c d) (λ e. rw (e, last_byte i x y (omega arith) (omega arith))) (λ e. rw (e, never))

module _ (text : List ℕ) (p q i : ℕ) (h : 1 ≤ i) (hp : p + i ≤ length text) (hq : q + i ≤ length text) where
  byte : (p : ℕ) → get_or text (p + (i - 1)) 0 ≡ get_or (drop p text) (i - 1) 0
  byte p = sym (get_or-drop p text (i - 1) 0)

  within : (p : ℕ) → p + i ≤ length text → i - 1 < length (drop p text)
  within p l = omega (arith, length-drop p text)

  last : i ≡ suc (i - 1)
  last = omega arith

  whole : same_bytes (take i (drop p text)) (take i (drop q text)) ≡ same_bytes (take (suc (i - 1)) (drop p text)) (take (suc (i - 1)) (drop q text))
  whole = ap (λ (k : ℕ). same_bytes (take k (drop p text)) (take k (drop q text))) last

  differs : (get_or text (p + (i - 1)) 0 ≡ get_or text (q + (i - 1)) 0 → ⊥) → false ≡ same_bytes (take i (drop p text)) (take i (drop q text))
  differs e = sym (whole ∙ last_byte (i - 1) (drop p text) (drop q text) (within p hp) (within q hq)
      ∙ rw (ne_eqb _ _ (λ z. e (byte p ∙ z ∙ sym (byte q)))))

-- bytes that are the same from the last one back, down to one
abbrev pub SameDownTo : (i : ℕ) (x y : List ℕ) → Type 0
SameDownTo i x y = same_bytes x y ≡ same_bytes (take i x) (take i y)

pub other_length : (x y : List ℕ) → (length x ≡ length y → ⊥) → false ≡ same_bytes x y
other_length x y h = sym (same_bytes-length x y h)

pub same-starts : (x y : List ℕ) → length x ≡ length y → SameDownTo (length x) x y
same-starts x y h = let e : take (length x) y ≡ y = rw h (take-length y) in rw (take-length x, e) refl

module _ (x y : List ℕ) (i : ℕ) (inv : SameDownTo i x y) where
  module _ (h : 0 < i) (hx : i ≤ length x) (hy : i ≤ length y) where
    by-last : same_bytes x y ≡ cond (eqb (get_or x (i - 1) 0) (get_or y (i - 1) 0)) (same_bytes (take (i - 1) x) (take (i - 1) y)) false
    by-last = let e : i ≡ suc (i - 1) = omega arith in
        inv ∙ ap (λ (k : ℕ). same_bytes (take k x) (take k y)) e ∙ last_byte (i - 1) x y (omega arith) (omega arith)

    pub same-goes_on : get_or x (i - 1) 0 ≡ get_or y (i - 1) 0 → SameDownTo (i - 1) x y
    same-goes_on e = by-last ∙ rw (eq-eqb _ _ e)

    pub same-differs : (get_or x (i - 1) 0 ≡ get_or y (i - 1) 0 → ⊥) → false ≡ same_bytes x y
    same-differs e = sym (by-last ∙ rw (ne_eqb _ _ e))

  pub same-ends : i ≤ 0 → true ≡ same_bytes x y
  unfolding same_bytes
  same-ends h = let e : i ≡ 0 = omega arith in sym (inv ∙ rw e)

-- where the last bytes differ, the bytes do: where one reaches past the end, so does the other, or their widths differ
pub other_last : (text : List ℕ) (p q n : ℕ) → 0 < n → (get_or text (p + (n - 1)) 0 ≡ get_or text (q + (n - 1)) 0 → ⊥)
    → false ≡ same_bytes (take n (drop p text)) (take n (drop q text))
other_last text p q n h e = by_cases (eqb (min n (length text - p)) (min n (length text - q))) (λ w. let same = eqb-true _ _ w in
    by_cases (leb (p + n) (length text)) (λ a. let fits = leb-true _ _ a in
    differs text p q n (omega arith) (omega arith) (omega arith) e) (λ a. let past = leb-false _ _ a in
    absurd (e (List·getD-eq-default text 0 {n = p + (n - 1)} (omega arith) ∙ sym (List·getD-eq-default text 0 {n = q + (n - 1)} (omega arith))))))
    (λ w. not-long text p q n refl refl (eqb-false _ _ w))

-- ---- looking up

pub code-not : (w : Meaning) → code w ≡ 0 → ⊥
unfolding code
code-not (local k) e = omega arith
code-not (global k) e = omega arith
code-not (manifest k) e = omega arith
code-not (function k) e = omega arith

-- what the code says of a name, by its kind
pub code-some : {m : Option D.Meaning} {w v : D.Meaning} → m ≡ Some w → w ≡ v → code_of m ≡ entry_of v
code-some e q = rw (e, q)

pub entry-not : (w : D.Meaning) → entry_of w ≡ 0 → ⊥
entry-not (M.Local k) e = omega arith
entry-not (M.Global k) e = omega arith
entry-not (M.Manifest k) e = omega arith
entry-not (M.Function k) e = omega arith

-- what a code means, by its remainder
abbrev meant : (n remainder : ℕ) → Meaning
meant n zero = function (n - 1)
meant n (suc zero) = local n
meant n (suc (suc zero)) = global n
meant n (suc (suc (suc r))) = manifest n

module _ {m : ℕ} where
  means : (f : Found) → m ≡ found f → f ≡ cond (eqb m 0) unknown (known (meant (m / 4) (m % 4)))
  unfolding found code
  means unknown e = rw e
  means (known (local k)) e = let a : m / 4 ≡ k = omega arith in let b : m % 4 ≡ 1 = omega arith in rw (ne_eqb m 0 (λ z. omega arith), a, b)
  means (known (global k)) e = let a : m / 4 ≡ k = omega arith in let b : m % 4 ≡ 2 = omega arith in rw (ne_eqb m 0 (λ z. omega arith), a, b)
  means (known (manifest k)) e = let a : m / 4 ≡ k = omega arith in let b : m % 4 ≡ 3 = omega arith in rw (ne_eqb m 0 (λ z. omega arith), a, b)
  means (known (function k)) e = let a : m / 4 - 1 ≡ k = omega arith in let b : m % 4 ≡ 0 = omega arith in rw (ne_eqb m 0 (λ z. omega arith), b, a)

  module _ (f : Found) (e : m ≡ found f) where
    pub means-unknown : m ≡ 0 → f ≡ unknown
    means-unknown q = means f e ∙ rw q

    pub means-local : m % 4 ≡ 1 → f ≡ known (local (m / 4))
    means-local q = means f e ∙ rw (ne_eqb m 0 (λ z. omega arith), q)

    pub means-global : m % 4 ≡ 2 → f ≡ known (global (m / 4))
    means-global q = means f e ∙ rw (ne_eqb m 0 (λ z. omega arith), q)

    pub means-manifest : m % 4 ≡ 3 → f ≡ known (manifest (m / 4))
    means-manifest q = means f e ∙ rw (ne_eqb m 0 (λ z. omega arith), q)

    pub means-function : (m ≡ 0 → ⊥) → m % 4 ≡ 0 → f ≡ known (function (m / 4 - 1))
    means-function n q = means f e ∙ rw (ne_eqb m 0 n, q)

-- what is left to search below `at` gives the same as the whole
pub record Left {A : Type 0} (ask : Scope → A) (s : List ℕ) (at : ℕ) (sc : Scope) : Type 0 where
  pub rest : Scope
  pub shows : Shows s at rest
  pub same : ask sc ≡ ask rest

pub left-all : {A : Type 0} (ask : Scope → A) {s : List ℕ} {at : ℕ} (sc : Scope) → Shows s at sc → Left ask s at sc
left-all ask sc h = record { rest = sc; shows = h; same = refl }

pub left-then : {A : Type 0} (ask : Scope → A) {s : List ℕ} {at at' : ℕ} (sc : Scope) (l : Left ask s at sc) → Left ask s at' l.rest
    → Left ask s at' sc
left-then ask sc l r = record { rest = r.rest; shows = r.shows; same = l.same ∙ r.same }

at-as : {s : List ℕ} {at at' : ℕ} {sc : Scope} → at ≡ at' → Shows s at sc → Shows s at' sc
at-as e h = rw e at h

pub shows_low : {s : List ℕ} {top : ℕ} {sc : Scope} → Shows s top sc → top ≤ length s
shows_low (nothing e) = omega arith
shows_low (mark h e v z) = v
shows_low (name h e v p f c u) = v

get-as : (s : List ℕ) {i j : ℕ} → i ≡ j → get_or s i 0 ≡ get_or s j 0
get-as s e = rw e

module _ (text s : List ℕ) (leaf at : ℕ) where
  pub at-outer : {sc : Scope} → Shows s at sc → at < 2 → lookup text sc (name_at s leaf) ≡ unknown
  unfolding lookup
  at-outer (nothing e) l = refl
  at-outer (mark h e v z) l = absurd (omega arith)
  at-outer (name h e v b n w u) l = absurd (omega arith)

  pub in-outer : {sc : Scope} → Shows s at sc → at < 2 → in_block text sc (name_at s leaf) ≡ unknown
  unfolding in_block
  in-outer (nothing e) l = refl
  in-outer (mark h e v z) l = refl
  in-outer (name h e v b n w u) l = absurd (omega arith)

  module _ {z : ℕ} (l : 2 ≤ at) (r : z ≡ get_or s (at - 2 + 1) 0) where
    pub at_open : {sc : Scope} → Shows s at sc → z ≡ 0 → Left (λ (k : Scope). lookup text k (name_at s leaf)) s (at - 2) sc
    unfolding lookup
    at_open (nothing e) q = absurd (omega arith)
    at_open (mark {below = b} {sc} h e v y) q = record { rest = sc; shows = at-as (omega arith) h; same = refl }
    at_open (name {below = b} {w = w} h e v p n y u) q =
        let g : at - 2 + 1 ≡ b + 1 = omega arith in absurd (code-not w (sym y ∙ sym (get-as s g) ∙ sym r ∙ q))

    pub in-open : {sc : Scope} → Shows s at sc → z ≡ 0 → in_block text sc (name_at s leaf) ≡ unknown
    unfolding in_block
    in-open (nothing e) q = refl
    in-open (mark h e v y) q = refl
    in-open (name {below = b} {w = w} h e v p n y u) q =
        let g : at - 2 + 1 ≡ b + 1 = omega arith in absurd (code-not w (sym y ∙ sym (get-as s g) ∙ sym r ∙ q))

    module _ {x place width : ℕ} (q : z ≡ 0 → ⊥) (rx : x ≡ get_or s (at - 2) 0) (rw : width ≡ get_or s (leaf + 1) 0)
        (rp : place ≡ get_or s (leaf + 2) 0) where
      not-mark : (b : ℕ) → at ≡ b + 2 → get_or s (b + 1) 0 ≡ 0 → ⊥
      not-mark b e y = let g : at - 2 + 1 ≡ b + 1 = omega arith in q (r ∙ get-as s g ∙ y)

      told : (b : ℕ) {n : Name} {t : Bool} → at ≡ b + 2 → get_or s b 0 ≡ packed n → FineName n
          → t ≡ same_name text (named (x / 65536) (x % 65536)) (named place width) → t ≡ same_name text n (name_at s leaf)
      told b {n} {t} e y fine f =
          let g : at - 2 ≡ b = omega arith in let v : x ≡ packed n = rx ∙ get-as s g ∙ y in let h : x / 65536 ≡ n.place = omega arith in
          let l : x % 65536 ≡ n.width = omega arith in cc

      code_is : (b : ℕ) (w : Meaning) → at ≡ b + 2 → get_or s (b + 1) 0 ≡ code w → z ≡ code w
      code_is b w e y = let g : at - 2 + 1 ≡ b + 1 = omega arith in r ∙ get-as s g ∙ y

      pub at_other : {sc : Scope} → Shows s at sc → false ≡ same_name text (named (x / 65536) (x % 65536)) (named place width)
          → Left (λ (k : Scope). lookup text k (name_at s leaf)) s (at - 2) sc
      unfolding lookup
      at_other (nothing e) f = absurd (omega arith)
      at_other (mark {below = b} h e v y) f = absurd (not-mark b e y)
      at_other (name {below = b} {sc} {n} {w} h e v p y c u) f = record { rest = sc; shows = at-as (omega arith) h; same = cc (told b e p y f) }

      pub at-found : {sc : Scope} → Shows s at sc → true ≡ same_name text (named (x / 65536) (x % 65536)) (named place width)
          → z ≡ found (lookup text sc (name_at s leaf))
      unfolding lookup found
      at-found (nothing e) f = absurd (omega arith)
      at-found (mark {below = b} h e v y) f = absurd (not-mark b e y)
      at-found (name {below = b} {sc} {n} {w} h e v p y c u) f = cc (code_is b w e c, told b e p y f)

      pub in-other : {sc : Scope} → Shows s at sc → false ≡ same_name text (named (x / 65536) (x % 65536)) (named place width)
          → Left (λ (k : Scope). in_block text k (name_at s leaf)) s (at - 2) sc
      unfolding in_block
      in-other (nothing e) f = absurd (omega arith)
      in-other (mark {below = b} h e v y) f = absurd (not-mark b e y)
      in-other (name {below = b} {sc} {n} {w} h e v p y c u) f = record { rest = sc; shows = at-as (omega arith) h; same = cc (told b e p y f) }

      pub in-found : {sc : Scope} → Shows s at sc → true ≡ same_name text (named (x / 65536) (x % 65536)) (named place width)
          → z ≡ found (in_block text sc (name_at s leaf))
      unfolding in_block found
      in-found (nothing e) f = absurd (omega arith)
      in-found (mark {below = b} h e v y) f = absurd (not-mark b e y)
      in-found (name {below = b} {sc} {n} {w} h e v p y c u) f = cc (code_is b w e c, told b e p y f)

-- a manifest that is found is a word
abbrev pub Held : Found → Type 0
Held unknown = Unit {0}
Held (known w) = Worded w

pub looked-word : (text : List ℕ) (n : Name) {s : List ℕ} {top : ℕ} {sc : Scope} → Shows s top sc → Held (lookup text sc n)
unfolding lookup
looked-word text n (nothing e) = tt
looked-word text n (mark h e v z) = looked-word text n h
looked-word text n (name {n = m} h e v p y c u) = either Held (same_name text m n) (λ b. u) (λ b. looked-word text n h)

-- ---- the stack and the tree stay where other entries change

pub keeps-shows : {base top : ℕ} {s s' : List ℕ} {at : ℕ} {sc : Scope} → Keeps base top s s' → at ≤ top → Shows s at sc → Shows s' at sc
keeps-shows k l (nothing e) = nothing e
keeps-shows k l (mark {below = b} h e v z) = mark (keeps-shows k (omega arith) h) e (omega arith) (k.below (b + 1) (omega arith) ∙ z)
keeps-shows k l (name {below = b} h e v p f w u) =
    name (keeps-shows k (omega arith) h) e (omega arith) (k.below b (omega arith) ∙ p) f (k.below (b + 1) (omega arith) ∙ w) u

pub keeps-all : {base top : ℕ} {s : List ℕ} → Keeps base top s s
keeps-all = record { below = λ i l. refl; above = λ i l. refl; long = refl }

pub keeps_then : {base top : ℕ} {s s₁ s₂ : List ℕ} → Keeps base top s s₁ → Keeps base top s₁ s₂ → Keeps base top s s₂
keeps_then a b = record { below = λ i l. b.below i l ∙ a.below i l; above = λ i l. b.above i l ∙ a.above i l; long = b.long ∙ a.long }

-- the name whose leaf stands there
pub name-there : (s : List ℕ) (leaf : ℕ) {n : Name} → get_or s (leaf + 1) 0 ≡ n.width → get_or s (leaf + 2) 0 ≡ n.place → name_at s leaf ≡ n
name-there s leaf w p = rw (p, w)

-- the tree's leaves are the same
pub keeps-name : {base top leaf : ℕ} {s s' : List ℕ} → Keeps base top s s' → base ≤ leaf → name_at s' leaf ≡ name_at s leaf
keeps-name {leaf = leaf} {s' = s'} k l = name-there s' leaf (k.above (leaf + 1) (omega arith)) (k.above (leaf + 2) (omega arith))

-- what keeps a higher stack keeps a lower one
pub keeps-lower : {base top low : ℕ} {s s' : List ℕ} → low ≤ top → Keeps base top s s' → Keeps base low s s'
keeps-lower h k = record { below = λ i l. k.below i (omega arith); above = k.above; long = k.long }

module _ {s s' : List ℕ} {top first m base : ℕ} (h : Pushed s s' top first m) (l : top + 2 ≤ base) (long : base ≤ length s) where
  pub pushed-keeps : Keeps base top s s'
  pushed-keeps = record {
    below = λ i k. other i (λ e. omega arith) (λ e. omega arith);
    above = λ i k. other i (λ e. omega arith) (λ e. omega arith);
    long = ap length h.is ∙ simp length-set;
  }
    where
      other : (i : ℕ) → (i ≡ top → ⊥) → (i ≡ top + 1 → ⊥) → get_or s' i 0 ≡ get_or s i 0
      other i a b = rw (h.is, get_or-set_other (set s top first) (top + 1) i m 0 b, get_or-set_other s top i first 0 a)

  push-first : get_or s' top 0 ≡ first
  push-first = rw (h.is, get_or-set_other (set s top first) (top + 1) top m 0 (λ e. omega arith), get_or-set_same s top first 0 (omega arith))

  push-second : get_or s' (top + 1) 0 ≡ m
  push-second = rw (h.is, get_or-set_same (set s top first) (top + 1) m 0 (omega (arith, length-set s top first)))

  pub pushed-mark : {sc : Scope} → Shows s top sc → m ≡ 0 → Shows s' (top + 2) (opened sc)
  pushed-mark sh e = mark (keeps-shows pushed-keeps (omega arith) sh) refl (omega (arith, pushed-keeps.long)) (push-second ∙ e)

pub pushed-name : {s s' : List ℕ} {top leaf m base : ℕ} → PushedName s s' top leaf m → top + 2 ≤ base → base ≤ length s → {sc : Scope} (w : Meaning)
    → Shows s top sc → m ≡ code w → Worded w → Shows s' (top + 2) (declared sc (name_at s leaf) w)
pushed-name h l long w sh e u = let p = h.pushed in let k = pushed-keeps p l long in
    name (keeps-shows k (omega arith) sh) refl (omega (arith, k.long)) (push-first p l long) h.fine (push-second p l long ∙ e) u

pub pushed-leaf : {s s' : List ℕ} {top leaf m width place : ℕ} → Pushed s s' top (place * 65536 + width) m → width ≡ get_or s (leaf + 1) 0
    → place ≡ get_or s (leaf + 2) 0 → FineName (name_at s leaf) → PushedName s s' top leaf m
pushed-leaf {s} {top = top} {leaf} {m} {width} {place} h ew ep f = let e : place * 65536 + width ≡ packed (name_at s leaf) = omega arith in
    record { pushed = record { is = rw (h.is, e) }; fine = f }
