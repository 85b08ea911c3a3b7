-- Items of a list by their ends: the loop over them; labels, one by one and before each command of a list; BY's constant.
use Rattle.laws.proofs.Basics.{ℕ, ◌+◌, ◌-◌, ◌^◌, ◌<◌, ◌≤◌, ◌≡◌, refl, sym, ap, ◌∙◌, List, [], ◌∷◌, ◌++◌, append-nil, Bool, true, false, cond, some}
use Rattle.laws.proofs.Basics.{none, length, get_or, length-append, eqb, arith, eq-eqb, ne_eqb}
use Rattle.std.specs.Prelude.{Ok, Err}
use Rattle.text.specs.declared.faults.Fault.TheVariants as F
use Rattle.language.specs.Tree as T
use Rattle.language.specs.Kinds as K
use Rattle.compiler.proofs.Language.{Simple, Constant, Label, Scope, fault, judge, faults_of, misplaced, FineConstant, FineLabels, closed}
use Rattle.compiler.proofs.Language.{encode_name, encode_constant, encode_positive, encode_negative, encode_by, encode_labels}
use Rattle.compiler.proofs.Vocabulary.{Shows, State, Node, NodeAt, Did, Faulted, Holds, Verdict, Refused, JudgesBy, by_judged, ReadyMisplaced}
use Rattle.compiler.proofs.Vocabulary.{Misplaces}
use Rattle.compiler.specs.Commands.{nothing}
use Rattle.compiler.specs.Locals.{Fitting, Says, says_good, Judges, Blames}
use Rattle.compiler.specs.Labels.{Row, no_more, and_more, NextItem, LabelAt, a_case, a_default, MisplacesLabel}
use Rattle.compiler.proofs.Common.{did_none, did_then, did-as, same-eq, first, second, kid, ends, place_is, kind-is}
use Rattle.compiler.proofs.Judging.{place-there, within-refused, within-passes, within-fails}

-- ---- the constant of BY

constant-long : (c : Constant) → 0 < length (encode_constant c)
unfolding encode_constant encode_positive encode_negative encode_name
constant-long c = go c.minus c.simple
  where
    go : (b : Bool) (x : Simple) → 0 < length (cond b (encode_negative c.place x) (encode_positive c.place x))
    go true (T.literal v) = omega arith
    go true (T.known n) = omega arith
    go false (T.literal v) = omega arith
    go false (T.known n) = omega arith

-- any but 0
abbrev some_word : ℕ → Bool
some_word v = cond (eqb v 0) false true

module _ (text : List ℕ) {s : List ℕ} {from end top : ℕ} where
  pub by-none : end ≤ from → JudgesBy text s from end top (Ok 1)
  unfolding encode_by
  by-none l = record {
    fits = tt;
    by = λ sc. elim [ none ↦ λ sh f h e. says_good | some c ↦ λ sh f h e. absurd (omega (arith, constant-long c)) ];
  }

  -- whatever a constant there is judged, if there is one
  judges-by : {r : Verdict} → from < end → Fitting r →
      ((sc : Scope) (c : Constant) → Shows s top sc → FineConstant c → Holds s from (encode_constant c) → end ≡ from + length (encode_constant c) → Says
      r (by_judged text sc (some c))) → JudgesBy text s from end top r
  unfolding encode_by
  judges-by l f g = record { fits = f; by = λ sc. elim [ none ↦ λ sh f h e. absurd (omega arith) | some c ↦ λ sh f h e. g sc c sh f h e ] }

  module _ (l : from < end) where
    pub by-refused : {e : Refused} → Judges text s end top (Err e) → JudgesBy text s from end top (Err e)
    by-refused g = judges-by l g.fits (λ sc c sh f h e. within-refused c some_word (judge text sc c) (g.by sc from c sh f h e))

    module _ {v : ℕ} (g : Judges text s end top (Ok v)) where
      pub by-judged : (v ≡ 0 → ⊥) → JudgesBy text s from end top (Ok v)
      by-judged n = judges-by l tt (λ sc c sh f h e. within-passes c some_word (judge text sc c) (rw (ne_eqb v 0 n)) (g.by sc from c sh f h e))

      pub by_zero : {p e₂ : ℕ} → v ≡ 0 → e₂ ≡ end - 2 → p ≡ get_or s e₂ 0 → p < 2 ^ 32
          → JudgesBy text s from end top (Err (record { place = p; fault = F.Constant }))
      by_zero w q e f = judges-by l (f, omega arith) (λ sc c sh fine h en. within-fails c some_word (judge text sc c)
          (rw (eq-eqb v 0 w)) (rw (e, q, place-there c fine h en)) (g.by sc from c sh fine h en))

-- ---- the loop over items

-- at `at`, the items are left of which Q holds
pub record Left {A : Type 0} (P : ℕ → A → Type 0) (s : List ℕ) (end at : ℕ) (Q : List A → Type 0) : Type 0 where
  pub rest : List A
  pub row : Row P s end at rest
  pub holds : Q rest

module _ {A : Type 0} {P : ℕ → A → Type 0} {s : List ℕ} {end : ℕ} where
  pub left-all : {from : ℕ} {Q : List A → Type 0} {xs : List A} → Row P s end from xs → Q xs → Left P s end from Q
  left-all {xs = xs} r h = record { rest = xs; row = r; holds = h }

  pub left-next : {at next : ℕ} {Q Q' : List A → Type 0} → at < end → NextItem s at end next → Left P s end at Q
      → ((x : A) (xs : List A) → next ≡ at + 2 + get_or s at 0 → P next x → Q (x ∷ xs) → Q' xs) → Left P s end next Q'
  left-next {at} {next} {Q} {Q'} l n p step = go p.rest p.row p.holds
    where
      go : (xs : List A) → Row P s end at xs → Q xs → Left P s end next Q'
      go [] (no_more e) h = absurd (omega arith)
      go (x ∷ xs) (and_more m q r) h = let e = n.is m in record { rest = xs; row = rw e r; holds = step x xs e (rw e q) h }

  pub left_end : {at : ℕ} {Q : List A → Type 0} → end ≤ at → Left P s end at Q → Q []
  left_end {at} {Q} l p = go p.rest p.row p.holds
    where
      go : (xs : List A) → Row P s end at xs → Q xs → Q []
      go [] r h = h
      go (x ∷ xs) (and_more m q r) h = absurd (omega arith)

-- ---- labels stand in a row

pub an_item_lem : {s : List ℕ} {at end tag : ℕ} (w rest : List ℕ) → Holds s at (length w ∷ tag ∷ (w ++ rest))
    → end ≡ at + length (length w ∷ tag ∷ (w ++ rest)) → {T : Type 0} →
    (at + 2 + get_or s at 0 ≡ at + 2 + length w → Holds s (at + 2) w → Holds s (at + 2 + get_or s at 0) rest
    → end ≡ at + 2 + get_or s at 0 + length rest → T) → T
an_item_lem {s} {at} {end} {tag} w rest h e f =
    let a : at + 0 ≡ at = omega arith in let z : get_or s at 0 ≡ length w = ap (λ (k : ℕ). get_or s k 0) (sym a) ∙ h.at 0 (omega arith) in
    let r = second (length w ∷ tag ∷ []) (w ++ rest) (at + 2) h refl in
    f (omega arith) (first w rest r) (second w rest (at + 2 + get_or s at 0) r (omega arith)) (omega (arith, length-append w rest))

case_at : {s : List ℕ} {lo end : ℕ} (p : ℕ) (c : Constant) → FineConstant c → Holds s lo (closed (encode_constant c) 0 p 28)
    → end ≡ lo + length (closed (encode_constant c) 0 p 28) → LabelAt s end (T.case p c)
case_at p c f h e = let w = encode_constant c in
    a_case (kind-is w 0 p 28 h e) (place_is w 0 p 28 h e) (kid w 0 p 28 h e) (omega (arith, ends w 0 p 28 h e)) f

default-at : {s : List ℕ} {lo end : ℕ} (p : ℕ) → Holds s lo (closed [] 0 p 29) → end ≡ lo + length (closed [] 0 p 29) → LabelAt s end (T.default p)
default-at p h e = a_default (kind-is [] 0 p 29 h e) (place_is [] 0 p 29 h e)

pub labels-row : {s : List ℕ} {at end : ℕ} (ls : List Label) → FineLabels ls → Holds s at (encode_labels ls) → end ≡ at + length (encode_labels ls)
    → Row (LabelAt s) s end at ls
unfolding encode_labels FineLabels
labels-row {at = at} [] f h e = no_more {at = at} (omega arith)
labels-row {s} {at} (T.case p c ∷ ls) f h e = an_item_lem (closed (encode_constant c) 0 p 28) (encode_labels ls) h e (λ z lies more en. and_more {at = at}
    (omega arith) (case_at p c f.0 lies z) (labels-row {at = at + 2 + get_or s at 0} ls f.1 more en))
labels-row {s} {at} (T.default p ∷ ls) f h e = an_item_lem (closed [] 0 p 29) (encode_labels ls) h e (λ z lies more en. and_more {at = at} (omega arith)
    (default-at p lies z) (labels-row {at = at + 2 + get_or s at 0} ls f more en))

-- what is shown of a label by its form
pub of-label : {s : List ℕ} {end : ℕ} (P : Label → Type 0)
    → ((place lo : ℕ) (c : Constant) → get_or s (end - 1) 0 ≡ K.CASE → get_or s (end - 2) 0 ≡ place → Holds s lo (encode_constant c)
    → end - 4 ≡ lo + length (encode_constant c) → FineConstant c → P (T.case place c))
    → ((place : ℕ) → get_or s (end - 1) 0 ≡ K.DEFAULT → get_or s (end - 2) 0 ≡ place → P (T.default place))
    → (l : Label) → LabelAt s end l → P l
of-label P f g (T.case p c) (a_case {place = place} {lo = lo} a e h en k) = f p lo c a e h en k
of-label P f g (T.default p) (a_default a e) = g p a e

-- ---- a label before no command of a list

pub twelve : {s : List ℕ} {end : ℕ} {st a : State} {n : Node} → NodeAt s end n → Faulted n.place 12 st a → {place : ℕ} → get_or s (end - 2) 0 ≡ place
    → (t : List ℕ) → Did (fault place 12) nothing 0 t t st a
twelve nd w e t = rw (nd.place ∙ e) at (w.by nothing t)

module _ (text : List ℕ) {s : List ℕ} {end top : ℕ} {st : State} (n : Node) (nd : NodeAt s end n) {a : State} (w : Faulted n.place 12 st a) where
  pub misplaced-default : (n.kind ≡ 28 → ⊥) → MisplacesLabel text s end top st a
  unfolding misplaced
  misplaced-default q = record {
    by = λ sc l sh. of-label (λ l. (t : List ℕ) → Did (misplaced text sc (l ∷ [])) nothing 0 t t st a) (λ p lo c k e h en f t. absurd (q (nd.kind ∙ k)))
        (λ p k e t. twelve nd w e t) l;
  }

  pub misplaced-case : {j : Verdict} {r : State} → n.kind ≡ 28 → Judges text s n.inner top j → Blames j a r → MisplacesLabel text s end top st r
  unfolding misplaced
  misplaced-case {r = r} q g b = record {
    by = λ sc l sh. of-label (λ l. (t : List ℕ) → Did (misplaced text sc (l ∷ [])) nothing 0 t t st r)
        (λ p lo c k e h en f t. did-as nothing 0
        (did_then (twelve nd w e t) (b.by (judge text sc c) (g.by sc lo c sh f h (nd.inner ∙ en)) t)) (same-eq (sym (append-nil _))) (λ v z. refl) (omega arith))
        (λ p k e t. absurd (omega arith)) l;
  }

misplaced-then : (text : List ℕ) (sc : Scope) (l : Label) (ls : List Label)
    → misplaced text sc (l ∷ []) ++ misplaced text sc ls ≡ misplaced text sc (l ∷ ls)
unfolding misplaced
misplaced-then text sc (T.case p c) ls = cc (append-nil (fault p 12 ++ faults_of (judge text sc c)))
misplaced-then text sc (T.default p) ls = refl

module _ (text : List ℕ) {s : List ℕ} {from end top : ℕ} (st₀ : State) where
  abbrev pub MisplacedPart : (y : ReadyMisplaced s from end top) (at : ℕ) (st : State) → Type 0
  MisplacedPart y at st = Left (LabelAt s) s end at
      (λ rest. (t : List ℕ) (st' : State) → Did (misplaced text y.scope rest) nothing 0 t t st st' → Did (misplaced text y.scope y.labels)
      nothing 0 t t st₀ st')

  pub misplaced-begin : (y : ReadyMisplaced s from end top) → MisplacedPart y from st₀
  misplaced-begin y = left-all (labels-row y.labels y.fine y.lies y.ends) (λ t st' d. d)

  pub misplaced-next : {at next : ℕ} {st r : State} → at < end → NextItem s at end next → MisplacesLabel text s next top st r
      → (y : ReadyMisplaced s from end top) → MisplacedPart y at st → MisplacedPart y next r
  misplaced-next {at} {next} {st} {r} l n m y p =
      left-next l n p (λ x xs e q h t st' d. h t st' (did-as nothing 0 (did_then (m.by y.scope x y.shows q t) d)
      (same-eq (misplaced-then text y.scope x xs)) (λ v z. refl) (omega arith)))

  pub misplaced-end : {at : ℕ} {st : State} → end ≤ at → ((y : ReadyMisplaced s from end top) → MisplacedPart y at st)
      → Misplaces text s from end top st₀ st
  unfolding misplaced
  misplaced-end {at} {st} l q = record { by = λ y t. left_end l (q y) t st (did_none 0) }
