-- The labels of a list after INTO judged one after another, with those before each marked: what is refused in them.
use Rattle.laws.proofs.Basics.{ℕ, ◌+◌, ◌-◌, ◌/◌, ◌%◌, ◌^◌, ◌<◌, ◌≤◌, ◌≡◌, refl, sym, ap, ◌∙◌, List, [], ◌∷◌, ◌++◌, append_assoc, append-nil, Bool}
use Rattle.laws.proofs.Basics.{true, false, cond, length, get_or, set, replicate, length-set, length-replicate, eqb, arith, eqb-true, eqb-false}
use Rattle.std.specs.Prelude.{Ok, Err}
use Rattle.laws.proofs.Cases.{by_cases, contradiction}
use Rattle.language.specs.Tree as T
use Rattle.compiler.proofs.Language.{doubled_label, Label, Commands, Scope, fault, Judged, good, refused, judge, judged_word, CaseLabel, has_case}
use Rattle.compiler.proofs.Language.{has_default}
use Rattle.compiler.proofs.Language.{labels_before, labels_of, good_case, doubled_case, doubled}
use Rattle.language.specs.Resolved as R
use Rattle.compiler.proofs.Vocabulary.{State, Node, NodeAt, Did, Faulted, Verdict, Refused, label_faults, ReadyLabels, JudgesLabels}
use Rattle.compiler.specs.declared.labels.Span.{Span}
use Rattle.compiler.specs.Commands.{nothing}
use Rattle.compiler.specs.Locals.{Says, says_refused, Judges, Blames}
use Rattle.compiler.specs.Labels.{NextItem, LabelAt, CommandAt, Spans, Listed, marks, flag, Marks, Notes, Marked, JudgesLabel}
use Rattle.compiler.specs.Labels.{JudgesCommand, faults_among}
use Rattle.compiler.proofs.Common.{did_none, did_then, did-as, same_refl}
use Rattle.compiler.proofs.Flags.{flag-none, flag-free, flag-here, flag-other, flag-taken, flag-beyond}
use Rattle.compiler.proofs.Judging.{judged-word, of-verdict}
use Rattle.compiler.proofs.Rows.{Left, left-all, left-next, left_end, of-label}
use Rattle.compiler.proofs.Switching.{list_of, own-labels}

-- ---- one label more

labels-then : (text : List ℕ) (sc : Scope) (ls ms : List Label) → labels_of text sc (ls ++ ms) ≡ labels_of text sc ls ++ labels_of text sc ms
unfolding labels_of
labels-then text sc [] ms = refl
labels-then text sc (T.case p c ∷ ls) ms = let xs = labels_of text sc ls in let ys = labels_of text sc ms in
    rw (labels-then text sc ls ms) (elim (judge text sc c) as (λ j. good_case j
    (xs ++ ys) ≡ good_case j xs ++ ys) [ good v ↦ refl | refused fs ↦ refl ])
labels-then text sc (T.default p ∷ ls) ms = rw (labels-then text sc ls ms)

or-true : (b : Bool) → cond b true true ≡ true
or-true = elim [ true ↦ refl | false ↦ refl ]

or-false : (b : Bool) → cond b true false ≡ b
or-false = elim [ true ↦ refl | false ↦ refl ]

cases-then : (v : ℕ) (ls ms : List CaseLabel) → has_case v (ls ++ ms) ≡ cond (has_case v ls) true (has_case v ms)
unfolding has_case
cases-then v [] ms = refl
cases-then v (R.case u ∷ ls) ms = by_cases (eqb v u) (λ e. rw e) (λ e. rw (e, cases-then v ls ms))
cases-then v (R.default ∷ ls) ms = cases-then v ls ms

defaults-then : (ls ms : List CaseLabel) → has_default (ls ++ ms) ≡ cond (has_default ls) true (has_default ms)
unfolding has_default
defaults-then [] ms = refl
defaults-then (R.case u ∷ ls) ms = defaults-then ls ms
defaults-then (R.default ∷ ls) ms = refl

-- ---- the marks

pub marks-long : {seen : List ℕ} {n : ℕ} → seen ≡ replicate n 0 → length seen ≡ n
marks-long {n = n} e = ap length e ∙ length-replicate {A = ℕ} n 0

marks-none : {seen : List ℕ} {n : ℕ} → n ≡ 8193 → seen ≡ replicate n 0 → Marks seen []
unfolding has_case has_default
marks-none {n = n} z e =
    record { long = marks-long e ∙ z; cases = λ v l. flag-none {n = n} v e (omega arith); default = flag-none {n = n} 65536 e (omega arith) }

module _ {i place : ℕ} {seen seen' : List ℕ} {st r : State} (n : Notes i place seen seen' st r) where
  note-did : (b : Bool) → i / 8 < length seen → flag seen i ≡ cond b 1 0 → (t : List ℕ) → Did (cond b (fault place 12) []) nothing 0 t t st r
  note-did true l e t = (n.again (λ z. let k : ◌≡◌ {A = ℕ} 1 0 = sym e ∙ z in omega arith)).by nothing t
  note-did false l e t = rw (n.fresh l e) (did_none 0)

module _ {v place : ℕ} {seen seen' : List ℕ} {st r : State} {ls : List CaseLabel} (n : Notes v place seen seen' st r) (low : v < 65536)
    (m : Marks seen ls) where
  case-marks : Marks seen' (ls ++ (R.case v ∷ []))
  unfolding has_case has_default
  case-marks = record {
    long = n.long ∙ m.long;
    cases = λ w l. by_cases (eqb w v)
        (λ e. ap (λ (k : ℕ). flag seen' k) (eqb-true w v e) ∙ n.here (omega arith) ∙ rw (cases-then w ls (R.case v ∷ []), e, or-true))
        (λ e. n.other w (eqb-false w v e) ∙ m.cases w l ∙ rw (cases-then w ls (R.case v ∷ []), e, or-false));
    default = n.other 65536 (λ e. omega arith) ∙ m.default ∙ rw (defaults-then ls (R.case v ∷ []), or-false);
  }

  case-did : (t : List ℕ) → Did (cond (has_case v ls) (fault place 12) []) nothing 0 t t st r
  case-did = note-did n (has_case v ls) (omega arith) (m.cases v low)

module _ {place : ℕ} {seen seen' : List ℕ} {st r : State} {ls : List CaseLabel} (n : Notes 65536 place seen seen' st r) (m : Marks seen ls) where
  default-marks : Marks seen' (ls ++ (R.default ∷ []))
  unfolding has_case has_default
  default-marks = record {
    long = n.long ∙ m.long;
    cases = λ w l. n.other w (λ e. omega arith) ∙ m.cases w l ∙ rw (cases-then w ls (R.default ∷ []), or-false);
    default = n.here (omega arith) ∙ rw (defaults-then ls (R.default ∷ []), or-true);
  }

  default-did : (t : List ℕ) → Did (cond (has_default ls) (fault place 12) []) nothing 0 t t st r
  default-did = note-did n (has_default ls) (omega arith) m.default

pub note-first : {i place x p : ℕ} {seen seen' : List ℕ} {st : State} → i / 8 < length seen → x ≡ get_or seen (i / 8) 0 → p ≡ 2 ^ (i % 8)
    → x / p % 2 ≡ 0 → seen' ≡ set seen (i / 8) (x + p) → Notes i place seen seen' st st
note-first {i} {place} {x} {p} {seen = seen} l ex ep z e = record {
  long = ap length e ∙ length-set seen (i / 8) (x + p);
  here = λ a. rw (e, flag-here seen i ex ep z l);
  other = λ k n. rw (e, flag-other seen i ex ep z l k n);
  fresh = λ a b. refl;
  again = λ n. absurd (n (flag-free seen i ex ep z));
}

pub note-again : {i place x p : ℕ} {seen : List ℕ} {st r : State} → x ≡ get_or seen (i / 8) 0 → p ≡ 2 ^ (i % 8) → (x / p % 2 ≡ 0 → ⊥)
    → Faulted place 12 st r → Notes i place seen seen st r
note-again {i} {seen = seen} ex ep n f = let there : flag seen i ≡ 0 → ⊥ = λ z. n (rw (ex, ep, z)) in
    record { long = refl; here = λ a. flag-taken seen i there; other = λ k n. refl; fresh = λ a z. absurd (there z); again = λ n. f }

pub note-none : {i place : ℕ} {seen : List ℕ} {st : State} → length seen ≤ i / 8 → Notes i place seen seen st st
note-none {i} {seen = seen} l = record {
  long = refl;
  here = λ a. absurd (omega arith);
  other = λ k n. refl;
  fresh = λ a b. refl;
  again = λ n. absurd (n (flag-beyond seen i l));
}

-- ---- a label

module _ (text : List ℕ) {s : List ℕ} {end : ℕ} (top : ℕ) (st r : State) (n : Node) (nd : NodeAt s end n) where
  pub label-default : {seen seen' : List ℕ} → (n.kind ≡ 28 → ⊥) → Notes 65536 n.place seen seen' st r → JudgesLabel text s end top seen seen' st r
  unfolding labels_of
  label-default {seen = seen} {seen' = seen'} q w = record {
    by = λ sc before l sh. of-label (λ l. Marks seen (labels_of text sc before)
        → Marked text sc (before ++ (l ∷ [])) (doubled_label text sc (labels_of text sc before) l) seen' st r)
        (λ p lo c a e h en f m. absurd (q (nd.kind ∙ a)))
        (λ p a e m. let z : n.place ≡ p = nd.place ∙ e in
        record { marks = rw (labels-then text sc before (T.default p ∷ [])) (default-marks w m); did = λ t. rw z at (default-did w m t) }) l;
  }

  -- a CASE, by what its constant is judged
  module _ {j : Verdict} (q : n.kind ≡ 28) (g : Judges text s n.inner top j) where
    abbrev By : (seen seen' : List ℕ) → Type 0
    By seen seen' = (p : ℕ) (ls : List CaseLabel) (x : Judged) → Says j x → get_or s (end - 2) 0 ≡ p → judged_word x < 65536 → Marks seen ls
        → Marks seen' (ls ++ good_case x []) × ((t : List ℕ) → Did (doubled_case p x ls) nothing 0 t t st r)

    case-by : {seen seen' : List ℕ} → By seen seen' → JudgesLabel text s end top seen seen' st r
    unfolding labels_of
    case-by {seen = seen} {seen' = seen'} f = record {
      by = λ sc before l sh. of-label (λ l. Marks seen (labels_of text sc before)
          → Marked text sc (before ++ (l ∷ [])) (doubled_label text sc (labels_of text sc before) l) seen' st r)
          (λ p lo c a e i en fine m. let says = g.by sc lo c sh fine i (nd.inner ∙ en) in
          let d = f p (labels_of text sc before) (judge text sc c) says e (judged-word text sc c sh fine) m in
          record { marks = rw (labels-then text sc before (T.case p c ∷ [])) d.0; did = d.1 })
          (λ p a e m. absurd (omega arith)) l;
    }

    pub label-refused : {seen : List ℕ} {e : Refused} → j ≡ Err e → Blames j st r → JudgesLabel text s end top seen seen st r
    label-refused {seen} z b = case-by (λ p ls x. of-verdict
        (λ x. get_or s (end - 2) 0 ≡ p → judged_word x < 65536 → Marks seen ls
        → Marks seen (ls ++ good_case x []) × ((t : List ℕ) → Did (doubled_case p x ls) nothing 0 t t st r))
        (λ v w e low m. contradiction cc) (λ a k e low m. (rw (append-nil ls) m, b.by (refused _) (rw k says_refused))) x)

    pub label-case : {seen seen' : List ℕ} {v : ℕ} → j ≡ Ok v → Notes v n.place seen seen' st r → JudgesLabel text s end top seen seen' st r
    label-case {seen} {seen'} {v} z w = case-by (λ p ls x. of-verdict
        (λ x. get_or s (end - 2) 0 ≡ p → judged_word x < 65536 → Marks seen ls
        → Marks seen' (ls ++ good_case x []) × ((t : List ℕ) → Did (doubled_case p x ls) nothing 0 t t st r))
        (λ u k e low m. let q : v ≡ u = cc in let h = rw q at w in (case-marks h low m, λ t. rw (nd.place ∙ e) at (case-did h low m t)))
        (λ a k e low m. contradiction cc) x)

-- ---- all labels of a command, and of all commands

-- those before are marked, and what the rest does then is what is asked
pub record Going (text : List ℕ) (sc : Scope) (seen : List ℕ) (Q : (before : List Label) → Type 0) : Type 0 where
  pub before : List Label
  pub marks : Marks seen (labels_of text sc before)
  pub finish : Q before

module _ (text : List ℕ) {s : List ℕ} {from end top : ℕ} (st₀ : State) where
  abbrev Rest : (y : Listed (LabelAt s) s from end top) (first : List Label) (seen : List ℕ) (st : State) (rest : List Label) → Type 0
  Rest y first seen st rest = let sc = y.scope in Going text sc seen (λ before. (seen' : List ℕ) (st' : State)
      → Marked text sc (before ++ rest) (doubled text sc before rest) seen' st st'
      → Marked text sc (first ++ y.all) (doubled text sc first y.all) seen' st₀ st')

  abbrev pub OwnPart : (y : Listed (LabelAt s) s from end top) (first : List Label) (seen : List ℕ) (at : ℕ) (st : State) → Type 0
  OwnPart y first seen at st = Left (LabelAt s) s end at (Rest y first seen st)

  pub own-begin : {seen : List ℕ} (y : Listed (LabelAt s) s from end top) (first : List Label) → Marks seen (labels_of text y.scope first)
      → OwnPart y first seen from st₀
  own-begin {seen} y first m = left-all y.row (record { before = first; marks = m; finish = λ seen' st' d. d })

  pub own-next : {at next : ℕ} {seen seen₁ : List ℕ} {st r : State} → at < end → NextItem s at end next → JudgesLabel text s next top seen seen₁ st r
      → (y : Listed (LabelAt s) s from end top) (first : List Label) → OwnPart y first seen at st → OwnPart y first seen₁ next r
  unfolding doubled
  own-next {seen₁ = seen₁} {st} {r} l n j y first p = let sc = y.scope in
      left-next l n p (λ x xs e q h. let b = h.before in let k = j.by sc b x y.shows q h.marks in record {
        before = b ++ (x ∷ []);
        marks = k.marks;
        finish = λ seen' st' d. h.finish seen' st' (record {
          marks = rw (append_assoc b (x ∷ []) xs) at d.marks;
          did = λ t. did-as nothing 0 (did_then (k.did t) (d.did t)) same_refl (λ v z. refl) (omega arith);
        });
      })

  pub own-end : {at : ℕ} {seen₀ seen : List ℕ} {st : State} → end ≤ at
      → ((y : Listed (LabelAt s) s from end top) (first : List Label) → Marks seen₀ (labels_of text y.scope first) → OwnPart y first seen at st)
      → JudgesCommand text s from end top seen₀ seen st₀ st
  unfolding doubled
  own-end {seen = seen} {st} l p = record {
    by = λ y first m. let k = left_end l (p y first m) in
        k.finish seen st (record { marks = rw (append-nil k.before) k.marks; did = λ t. did_none 0 });
  }

among-is : (text : List ℕ) (sc : Scope) (before : List Label) (cs : Commands) → faults_among text sc before (marks cs) ≡ label_faults text sc before cs
unfolding faults_among label_faults marks
among-is text sc before T.no_commands = refl
among-is text sc before (T.and_command c cs) = rw (among-is text sc (before ++ labels_before c) cs)

module _ (text : List ℕ) {s : List ℕ} {from end top : ℕ} (st₀ : State) where
  abbrev Others : (y : ReadyLabels s from end top) (seen : List ℕ) (st : State) (rest : List (List Label)) → Type 0
  Others y seen st rest = let sc = y.scope in Going text sc seen (λ before. (t : List ℕ) (st' : State)
      → Did (faults_among text sc before rest) nothing 0 t t st st' → Did (label_faults text sc [] y.commands) nothing 0 t t st₀ st')

  abbrev pub ListPart : (y : ReadyLabels s from end top) (seen : List ℕ) (at : ℕ) (st : State) → Type 0
  ListPart y seen at st = Left (CommandAt s) s end at (Others y seen st)

  pub list-begin : {seen : List ℕ} → seen ≡ replicate 8193 0 → (y : ReadyLabels s from end top) → ListPart y seen from st₀
  unfolding labels_of
  list-begin {seen} e y = left-all (list_of y).row (record {
    before = [];
    marks = marks-none refl e;
    finish = λ t st' d. rw (among-is text y.scope [] y.commands) at d;
  })

  pub list-next : {at next : ℕ} {sp : Span} {seen seen₁ : List ℕ} {st r : State} → at < end → NextItem s at end next → Spans s next sp
      → JudgesCommand text s sp.from sp.to top seen seen₁ st r
      → (y : ReadyLabels s from end top) → ListPart y seen at st → ListPart y seen₁ next r
  unfolding faults_among
  list-next {seen₁ = seen₁} {r = r} l n i j y p =
      left-next l n p (λ ls lss e q h. let k = j.by (own-labels i (list_of y) ls q) h.before h.marks in record {
        before = h.before ++ ls;
        marks = k.marks;
        finish = λ t st' d. h.finish t st' (did-as nothing 0 (did_then (k.did t) d) same_refl (λ v z. refl) (omega arith));
      })

  pub list-end : {at : ℕ} {seen : List ℕ} {st : State} → end ≤ at → ((y : ReadyLabels s from end top) → ListPart y seen at st)
      → JudgesLabels text s from end top st₀ st
  unfolding faults_among
  list-end {at} {seen} {st} l p = record { by = λ y t. (left_end l (p y)).finish t st (did_none 0) }
