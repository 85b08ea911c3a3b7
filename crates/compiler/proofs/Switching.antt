-- The labels of a list after INTO: where they stand, which there are, and the words after X23.
use Rattle.laws.proofs.Basics.{ℕ, suc, ◌+◌, ◌-◌, ◌^◌, ◌<◌, ◌≤◌, ◌≡◌, refl, sym, ap, subst, ◌∙◌, List, [], ◌∷◌, ◌++◌, Bool, true, false, cond, length}
use Rattle.laws.proofs.Basics.{get_or, eqb, arith, eq-eqb, ne_eqb}
use Rattle.laws.proofs.Cases.{contradiction}
use Rattle.items.specs.Item as I
use Rattle.language.specs.Tree as T
use Rattle.compiler.proofs.Language.{Name, Constant, Label, Command, Commands, Scope, lookup, fault, Judged, good, refused, judge, signed}
use Rattle.compiler.proofs.Language.{of_found, of_simple, faults_of, has_default, cases_of, case_count, labels_before, labels_of, good_case}
use Rattle.compiler.proofs.Language.{case_list}
use Rattle.compiler.proofs.Language.{doubled_case, doubled_label, doubled, FineCommand, FineCommands, encode_command, encode_commands}
use Rattle.language.specs.Names as N
use Rattle.code.specs.Generate as G
use Rattle.compiler.proofs.Vocabulary.{State, Node, FineC, FineCs, NodeAt, Emits, Holds, Verdict, label_faults, ReadyLabels, WritesTable}
use Rattle.compiler.specs.declared.labels.Span.{Span}
use Rattle.compiler.specs.Locals.{word_of, Says, says_good, says_refused, Judges}
use Rattle.compiler.specs.Labels as L
use Rattle.compiler.specs.Labels.{a_case, a_default, Row, no_more, and_more, NextItem, LabelAt, CommandAt, Spans, Listed, marks, flat, case_items}
use Rattle.compiler.specs.Labels.{CountsLabel, CountsAll, HasDefault, default_among, FindsDefault, Sound, no_label, any_default, table_among, Still}
use Rattle.compiler.specs.Labels.{WritesPair, WritesPairs, WritesAll}
use Rattle.compiler.proofs.Common.{emits_none, emits_then, nil-left, nil-right}
use Rattle.compiler.proofs.Labelled.{is-labelled, is-bare}
use Rattle.compiler.proofs.Judging.{of-found}
use Rattle.compiler.proofs.Rows.{Left, left-all, left-next, left_end, an_item_lem, of-label, labels-row}

-- ---- the labels of a command

module _ {s : List ℕ} {end : ℕ} (n : Node) (nd : NodeAt s end n) where
  pub spans-bare : (n.kind ≡ 132 → ⊥) → Spans s end (record { from = 0; to = 0 })
  spans-bare q = record { small = omega arith; by = λ ls c. rw (c.bare (λ k. q (nd.kind ∙ k))) (no_more {at = 0} refl) }

  pub spans-none : {to : ℕ} → n.kind ≡ 132 → to ≡ n.start + n.value → n.inner < to → Spans s end (record { from = 0; to = 0 })
  spans-none q e l = record { small = omega arith; by = λ ls c. absurd (omega (arith, c.inside (sym nd.kind ∙ q))) }

  pub spans-is : {to : ℕ} → end < 2 ^ 32 → n.kind ≡ 132 → to ≡ n.start + n.value → to ≤ n.inner
      → Spans s end (record { from = n.start; to = to })
  spans-is {to} m q e l = record {
    small = omega arith;
    by = λ ls c. let b : end - 4 - get_or s (end - 4) 0 + get_or s (end - 3) 0 ≡ to = omega arith in
        rw nd.start (rw b at (c.row (sym nd.kind ∙ q)));
  }

command-at : {s : List ℕ} {lo end : ℕ} (c : Command) → FineC c → Holds s lo (encode_command c) → end ≡ lo + length (encode_command c)
    → CommandAt s end (labels_before c)
unfolding FineCommand
command-at {s} {lo} {end} c f h e = record {
  bare = λ q. ap labels_before (is-bare c h e q).same;
  inside = λ q. let u = is-labelled c f h e q in omega arith;
  row = λ q. let u = is-labelled c f h e q in let a : lo ≡ end - 4 - get_or s (end - 4) 0 = omega arith in
      rw u.same (subst (λ (k : ℕ). Row (LabelAt s) s (k + get_or s (end - 3) 0) k u.left) a
      (labels-row u.left (subst FineC u.same f).0 u.lies (omega arith)));
}

pub commands-row : {s : List ℕ} {at end : ℕ} (cs : Commands) → FineCs cs → Holds s at (encode_commands cs) → end ≡ at + length (encode_commands cs)
    → Row (CommandAt s) s end at (marks cs)
unfolding encode_commands FineCommands marks
commands-row {at = at} T.no_commands f h e = no_more {at = at} (omega arith)
commands-row {s} {at} (T.and_command c cs) f h e = an_item_lem (encode_command c) (encode_commands cs) h e
    (λ z lies more en. and_more {at = at} (omega arith) (command-at c f.0 lies z) (commands-row {at = at + 2 + get_or s at 0} cs f.1 more en))

abbrev pub list_of : {s : List ℕ} {from end top : ℕ} → ReadyLabels s from end top → Listed (CommandAt s) s from end top
list_of y = record
    { base = y.base; scope = y.scope; shows = y.shows; all = marks y.commands; row = commands-row y.commands y.fine y.lies y.ends }

-- a command's own labels
abbrev pub own-labels : {s : List ℕ} {from end next top : ℕ} {sp : Span} → Spans s next sp → Listed (CommandAt s) s from end top → (ls : List Label)
    → CommandAt s next ls → Listed (LabelAt s) s sp.from sp.to top
own-labels i y ls q = record { base = y.base; scope = y.scope; shows = y.shows; all = ls; row = i.by ls q }

-- ---- how many labels are CASE

cases-then : (ls ms : List Label) → case_items (ls ++ ms) ≡ case_items ls + case_items ms
unfolding case_items
cases-then [] ms = omega arith
cases-then (T.case p c ∷ ls) ms = omega (arith, cases-then ls ms)
cases-then (T.default p ∷ ls) ms = cases-then ls ms

-- what an item of a list holds: a label is one, a command has those before it
pub record Holding (A : Type 0) : Type 1 where
  pub At : ℕ → A → Type 0
  pub one : A → List Label
  pub every : List A → List Label
  pub none : every [] ≡ []
  pub more : (x : A) (xs : List A) → every (x ∷ xs) ≡ one x ++ every xs

pub flat-laws : (flat [] ≡ []) × ((ls : List Label) (lss : List (List Label)) → flat (ls ∷ lss) ≡ ls ++ flat lss)
unfolding flat
flat-laws = (refl, λ ls lss. refl)

abbrev pub labels : List ℕ → Holding Label
labels s = record { At = LabelAt s; one = λ l. l ∷ []; every = λ ls. ls; none = refl; more = λ l ls. refl }

abbrev pub commands : List ℕ → Holding (List Label)
commands s = record { At = CommandAt s; one = λ ls. ls; every = flat; none = flat-laws.0; more = flat-laws.1 }

-- the loop over them
module _ {A : Type 0} (K : Holding A) where
  module _ (s : List ℕ) (end : ℕ) where
    abbrev pub CountPart : (at n : ℕ) → List A → Type 0
    CountPart at n xs = Left K.At s end at (λ rest. case_items (K.every xs) ≡ n + case_items (K.every rest))

    pub count-begin : {from : ℕ} (xs : List A) → Row K.At s end from xs → CountPart from 0 xs
    count-begin xs r = left-all r (omega arith)

    pub count_next : {at next k : ℕ} (n : ℕ) → at < end → NextItem s at end next → ((x : A) → K.At next x → k ≡ case_items (K.one x)) → (xs : List A)
        → CountPart at n xs → CountPart next (n + k) xs
    count_next {at} {next} {k} n l m f xs p = left-next l m p (λ x ys e q h. let a = ap case_items (K.more x ys) in
        omega (arith, f x q, a, cases-then (K.one x) (K.every ys)))

    pub count-end : {at n : ℕ} → end ≤ at → (xs : List A) → CountPart at n xs → n ≡ case_items (K.every xs)
    unfolding case_items
    count-end l xs p = omega (arith, left_end l p, ap case_items K.none)

-- ---- a CASE counts

pub one_case_is : {s : List ℕ} {end i k : ℕ} → i ≡ end - 1 → k ≡ get_or s i 0 → k ≡ 28 → CountsLabel s end 1
unfolding case_items
one_case_is {s} {end} ei ek q = let z : get_or s (end - 1) 0 ≡ 28 = cc in
    record { few = omega arith; by = of-label (λ l. 1 ≡ case_items (l ∷ [])) (λ p lo c a e h en f. refl) (λ p a e. absurd (omega arith)) }

pub one_case_not : {s : List ℕ} {end i k : ℕ} → i ≡ end - 1 → k ≡ get_or s i 0 → (k ≡ 28 → ⊥) → CountsLabel s end 0
unfolding case_items
one_case_not ei ek q = record {
  few = omega arith;
  by = of-label (λ l. 0 ≡ case_items (l ∷ [])) (λ p lo c a e h en f. absurd (q (rw (ek, ei, a)))) (λ p a e. refl);
}

-- ---- DEFAULT among labels, and its command

default-first : (text : List ℕ) (sc : Scope) (l : Label) (ls : List Label)
    → has_default (labels_of text sc (l ∷ ls)) ≡ cond (eqb (case_items (l ∷ [])) 0) true (has_default (labels_of text sc ls))
unfolding case_items labels_of has_default
default-first text sc (T.case p c) ls = elim (judge text sc c) as (λ j. has_default (good_case j (labels_of text sc ls)) ≡ has_default
    (labels_of text sc ls)) [ good v ↦ refl | refused fs ↦ refl ]
default-first text sc (T.default p) ls = refl

module _ (s : List ℕ) (end : ℕ) where
  abbrev pub AmongPart : (at : ℕ) → List Label → Type 0
  AmongPart at ls =
      Left (LabelAt s) s end at (λ rest. (text : List ℕ) (sc : Scope) → has_default (labels_of text sc ls) ≡ has_default (labels_of text sc rest))

  pub among-begin : {from : ℕ} (ls : List Label) → Row (LabelAt s) s end from ls → AmongPart from ls
  among-begin ls r = left-all r (λ text sc. refl)

  module _ {at next k : ℕ} (l : at < end) (n : NextItem s at end next) (f : CountsLabel s next k) where
    pub among_next : (k ≡ 0 → ⊥) → (ls : List Label) → AmongPart at ls → AmongPart next ls
    among_next z ls p = left-next l n p (λ x xs e q h text sc. let c = ne_eqb (case_items (x ∷ [])) 0 (λ w. z (f.by x q ∙ w)) in
        h text sc ∙ default-first text sc x xs ∙ rw c)

    pub among-found : k ≡ 0 → (ls : List Label) → AmongPart at ls → (text : List ℕ) (sc : Scope) → true ≡ has_default (labels_of text sc ls)
    among-found z ls p text sc = (left-next {Q' = λ rest. true ≡ has_default (labels_of text sc ls)} l n p
        (λ x xs e q h. sym (h text sc ∙ default-first text sc x xs ∙ rw (eq-eqb (case_items (x ∷ [])) 0 (sym (f.by x q) ∙ z))))).holds

  pub among-end : {at : ℕ} → end ≤ at → (ls : List Label) → AmongPart at ls → (text : List ℕ) (sc : Scope) → false ≡ has_default (labels_of text sc ls)
  unfolding labels_of has_default
  among-end l ls p text sc = sym (left_end l p text sc)

module _ (s : List ℕ) (end first done : ℕ) where
  abbrev pub DefaultPart : (at k : ℕ) → List (List Label) → Type 0
  DefaultPart at k lss =
      Left (CommandAt s) s end at (λ rest. (text : List ℕ) (sc : Scope) → default_among text sc first done lss ≡ default_among text sc k done rest)

  pub default-begin : {from : ℕ} (lss : List (List Label)) → Row (CommandAt s) s end from lss → DefaultPart from first lss
  default-begin lss r = left-all r (λ text sc. refl)

  module _ {at next : ℕ} (k : ℕ) {sp : Span} {b : Bool} (l : at < end) (n : NextItem s at end next) (i : Spans s next sp)
      (h : HasDefault s sp.from sp.to b) where
    pub default-found : {from : ℕ} → b ≡ true → ((lss : List (List Label)) → Row (CommandAt s) s end from lss → DefaultPart at k lss)
        → FindsDefault s from end first done k
    unfolding default_among
    default-found e p = record {
      by = λ lss r text sc. (left-next {Q' = λ rest. k ≡ default_among text sc first done lss} l n (p lss r)
          (λ ls more z q g. sym (cc (g text sc, h.by ls (i.by ls q) text sc)))).holds;
    }

    pub default-next : b ≡ false → (lss : List (List Label)) → DefaultPart at k lss → DefaultPart next (k + 1) lss
    unfolding default_among
    default-next e lss p = left-next l n p (λ ls more z q g text sc. cc (g text sc, h.by ls (i.by ls q) text sc))

  pub default-end : {from at : ℕ} (k : ℕ) → end ≤ at → ((lss : List (List Label)) → Row (CommandAt s) s end from lss → DefaultPart at k lss)
      → FindsDefault s from end first done done
  unfolding default_among
  default-end k l p = record { by = λ lss r text sc. sym (left_end l (p lss r) text sc) }

-- ---- numbers with their labels

pub still-here : {st : State} → Still st st
still-here = record { worst = refl; label = refl }

pub still-then : {st a b : State} → Still st a → Still a b → Still st b
still-then x y = record { worst = y.worst ∙ x.worst; label = y.label ∙ x.label }

pub emits-still : {xs : List I.Item} {hs t t' : List ℕ} {st r : State} → Emits xs hs t t' st r → Still st r
emits-still e = record { worst = e.worst; label = e.label }

emits-as : {xs ys : List I.Item} {t t' : List ℕ} {st r : State} → Emits xs [] t t' st r → xs ≡ ys → Emits ys [] t t' st r
emits-as e q = rw q at e

pairs-then : (text : List ℕ) (sc : Scope) (k : ℕ) (l : Label) (ls : List Label)
    → G.pairs_of k (labels_of text sc (l ∷ [])) ++ G.pairs_of k (labels_of text sc ls) ≡ G.pairs_of k (labels_of text sc (l ∷ ls))
unfolding labels_of G.pairs_of
pairs-then text sc k (T.case p c) ls = let xs = labels_of text sc ls in
    elim (judge text sc c) as (λ j. G.pairs_of k (good_case j []) ++ G.pairs_of k xs ≡ G.pairs_of k (good_case j xs)) [ good v ↦ refl | refused fs ↦ refl ]
pairs-then text sc k (T.default p) ls = refl

sound-parts : {text : List ℕ} {sc : Scope} (ls ms : List Label) → Sound text sc (ls ++ ms) → Sound text sc ls × Sound text sc ms
sound-parts [] ms s = (no_label, s)
sound-parts (T.case p c ∷ ls) ms (L.good_case v e s) = let u = sound-parts ls ms s in (L.good_case v e u.0, u.1)
sound-parts (T.default p ∷ ls) ms (any_default s) = let u = sound-parts ls ms s in (any_default u.0, u.1)

pub record IsGood (j : Judged) : Type 0 where
  pub value : ℕ
  pub is : j ≡ good value

first_good : {text : List ℕ} {sc : Scope} {p : ℕ} {c : Constant} {ls : List Label} → Sound text sc (T.case p c ∷ ls) → IsGood (judge text sc c)
first_good (L.good_case v w so) = record { value = v; is = w }

says_is : {j : Verdict} {x : Judged} {v : ℕ} → Says j x → x ≡ good v → x ≡ good (word_of j)
says_is says_good e = refl
says_is says_refused e = contradiction cc

module _ (text : List ℕ) {s : List ℕ} {end top : ℕ} (n : Node) (nd : NodeAt s end n) where
  pub pair-not : {k : ℕ} {t : List ℕ} {st : State} → (n.kind ≡ 28 → ⊥) → WritesPair text s end top k t t st st
  unfolding labels_of G.pairs_of
  pair-not {k = k} {t = t} {st = st} q = record {
    still = still-here;
    by = λ sc l sh. of-label (λ l. Sound text sc (l ∷ []) → Emits (G.pairs_of k (labels_of text sc (l ∷ []))) [] t t st st)
        (λ p lo c a e h en f so. absurd (q (nd.kind ∙ a))) (λ p a e so. emits_none) l;
  }

  pub pair_is : {k : ℕ} {t t₁ t₂ : List ℕ} {st a r : State} {j : Verdict} {w : ℕ} → n.kind ≡ 28 → Judges text s n.inner top j → w ≡ word_of j
      → Emits (G.D w ∷ []) [] t t₁ st a → Emits (G.DL k ∷ []) [] t₁ t₂ a r → WritesPair text s end top k t t₂ st r
  unfolding labels_of G.pairs_of
  pair_is {k = k} {t = t} {t₂ = t₂} {st = st} {r = r} q g ew d e = record {
    still = still-then (emits-still d) (emits-still e);
    by = λ sc l sh. of-label (λ l. Sound text sc (l ∷ []) → Emits (G.pairs_of k (labels_of text sc (l ∷ []))) [] t t₂ st r)
        (λ p lo c a z h en f so. let so-good = first_good so in
        emits-as (emits_then d e) (sym (rw (says_is (g.by sc lo c sh f h (nd.inner ∙ en)) so-good.is, ew))))
        (λ p a z so. absurd (omega arith)) l;
  }

module _ (text : List ℕ) {s : List ℕ} {from end top : ℕ} (k : ℕ) (t₀ : List ℕ) (st₀ : State) where
  abbrev pub PairsPart : (y : Listed (LabelAt s) s from end top) (t : List ℕ) (at : ℕ) (st : State) → Type 0
  PairsPart y t at st = Left (LabelAt s) s end at (λ rest. Sound text y.scope rest
      × ((t' : List ℕ) (st' : State) → Emits (G.pairs_of k (labels_of text y.scope rest)) [] t t' st st' → Emits
      (G.pairs_of k (labels_of text y.scope y.all)) [] t₀ t' st₀ st'))

  pub pairs-begin : (y : Listed (LabelAt s) s from end top) → Sound text y.scope y.all → PairsPart y t₀ from st₀
  pairs-begin y so = left-all y.row (so, λ t' st' e. e)

  pub pairs_next : {at next : ℕ} {t t₁ : List ℕ} {st r : State} → at < end → NextItem s at end next → WritesPair text s next top k t t₁ st r
      → (y : Listed (LabelAt s) s from end top) → PairsPart y t at st → PairsPart y t₁ next r
  pairs_next {at} {next} {t} {t₁} {st} {r} l n w y p = let sc = y.scope in
      left-next l n p (λ x xs e q h. let so = sound-parts (x ∷ []) xs h.0 in let f = w.by sc x y.shows q so.0 in
      (so.1, λ t' st' d. h.1 t' st' (emits-as (emits_then f d) (pairs-then text sc k x xs))))

  pub pairs_end : {at : ℕ} {t : List ℕ} {st : State} → end ≤ at → Still st₀ st
      → ((y : Listed (LabelAt s) s from end top) → Sound text y.scope y.all → PairsPart y t at st)
      → WritesPairs text s from end top k t₀ t st₀ st
  unfolding labels_of G.pairs_of
  pairs_end {at} {t} {st} l f p = record { still = f; by = λ y so. (left_end l (p y so)).1 t st emits_none }

module _ (text : List ℕ) {s : List ℕ} {from end top : ℕ} (first : ℕ) (t₀ : List ℕ) (st₀ : State) where
  abbrev pub TablePart : (y : Listed (CommandAt s) s from end top) (t : List ℕ) (at k : ℕ) (st : State) → Type 0
  TablePart y t at k st = Left (CommandAt s) s end at (λ rest. Sound text y.scope (flat rest)
      × ((t' : List ℕ) (st' : State) → Emits (table_among text y.scope k rest) [] t t' st st' → Emits (table_among text y.scope first y.all)
      [] t₀ t' st₀ st'))

  pub table-begin : (y : Listed (CommandAt s) s from end top) → Sound text y.scope (flat y.all) → TablePart y t₀ from first st₀
  table-begin y so = left-all y.row (so, λ t' st' e. e)

  pub table-next : {at next k : ℕ} {sp : Span} {t t₁ : List ℕ} {st r : State} → at < end → NextItem s at end next → Spans s next sp
      → WritesPairs text s sp.from sp.to top k t t₁ st r → (y : Listed (CommandAt s) s from end top) → TablePart y t at k st
      → TablePart y t₁ next (k + 1) r
  unfolding flat table_among
  table-next {at} {next} {k} {sp} {t} {t₁} {st} {r} l n i w y p = let sc = y.scope in
      left-next l n p (λ ls lss e q h. let so = sound-parts ls (flat lss) h.0 in let f = w.by (own-labels i y ls q) so.0 in
      (so.1, λ t' st' d. h.1 t' st' (emits_then f d)))

  pub table-end : {at : ℕ} (k : ℕ) {t : List ℕ} {st : State} → end ≤ at → Still st₀ st
      → ((y : Listed (CommandAt s) s from end top) → Sound text y.scope (flat y.all) → TablePart y t at k st)
      → WritesAll text s from end top first t₀ t st₀ st
  unfolding table_among
  table-end k {t} {st} l f p = record { still = f; by = λ y so. (left_end l (p y so)).1 t st emits_none }

-- ---- what the code's own definitions say of such labels

fault-not : {A : Type 0} {place number : ℕ} → fault place number ≡ [] → A
fault-not {place = place} {number} e = let z : length (fault place number) ≡ 0 = ap length e in absurd (omega arith)

found-good : (c : Constant) (n : Name) (f : N.Found) → faults_of (of_found c n f) ≡ [] → IsGood (of_found c n f)
found-good c n f = of-found (λ x. faults_of x ≡ [] → IsGood x) c n f (λ z e. fault-not e) (λ v z e. record { value = signed c.minus v; is = refl })
    (λ e. fault-not e)

judged-good : (text : List ℕ) (sc : Scope) (c : Constant) → faults_of (judge text sc c) ≡ [] → IsGood (judge text sc c)
unfolding judge
judged-good text sc c = elim c.simple as (λ x. faults_of (of_simple text sc c x) ≡ [] → IsGood (of_simple text sc c x))
    [ T.literal v ↦ λ e. record { value = signed c.minus v; is = refl } | T.known n ↦ λ e. found-good c n (lookup text sc n) e ]

sound-doubled : (text : List ℕ) (sc : Scope) (before ls : List Label) → doubled text sc before ls ≡ [] → Sound text sc ls
unfolding doubled
sound-doubled text sc before [] e = no_label
sound-doubled text sc before (T.case p c ∷ ls) e =
    let a = doubled_label text sc (labels_of text sc before) (T.case p c) in let b = doubled text sc (before ++ (T.case p c ∷ [])) ls in
    let g = judged-good text sc c (elim (judge text sc c) as (λ x. doubled_case p x (labels_of text sc before) ≡ [] → faults_of x ≡ [])
    [ good v ↦ λ e. refl | refused fs ↦ λ e. e ] (nil-left a b e)) in
    L.good_case g.value g.is (sound-doubled text sc (before ++ (T.case p c ∷ [])) ls (nil-right a b e))
sound-doubled text sc before (T.default p ∷ ls) e = let a = doubled_label text sc (labels_of text sc before) (T.default p) in
    any_default (sound-doubled text sc (before ++ (T.default p ∷ [])) ls (nil-right a (doubled text sc (before ++ (T.default p ∷ [])) ls) e))

sound-then : {text : List ℕ} {sc : Scope} (ls ms : List Label) → Sound text sc ls → Sound text sc ms → Sound text sc (ls ++ ms)
sound-then [] ms no_label t = t
sound-then (T.case p c ∷ ls) ms (L.good_case v e s) t = L.good_case v e (sound-then ls ms s t)
sound-then (T.default p ∷ ls) ms (any_default s) t = any_default (sound-then ls ms s t)

pub sound-all : (text : List ℕ) (sc : Scope) (before : List Label) (cs : Commands) → label_faults text sc before cs ≡ []
    → Sound text sc (flat (marks cs))
unfolding label_faults marks flat
sound-all text sc before T.no_commands e = no_label
sound-all text sc before (T.and_command c cs) e =
    let a = doubled text sc before (labels_before c) in let b = label_faults text sc (before ++ labels_before c) cs in
    sound-then (labels_before c) (flat (marks cs)) (sound-doubled text sc before (labels_before c) (nil-left a b e))
    (sound-all text sc (before ++ labels_before c) cs (nil-right a b e))

cases-are : (text : List ℕ) (sc : Scope) (ls : List Label) → Sound text sc ls → cases_of (labels_of text sc ls) ≡ case_items ls
unfolding cases_of labels_of case_items
cases-are text sc [] no_label = refl
cases-are text sc (T.case p c ∷ ls) (L.good_case v e s) = rw (e, cases-are text sc ls s)
cases-are text sc (T.default p ∷ ls) (any_default s) = cases-are text sc ls s

pub count-is : (text : List ℕ) (sc : Scope) (h : ℕ) (cs : Commands) → Sound text sc (flat (marks cs))
    → case_count (case_list text sc h cs) ≡ case_items (flat (marks cs))
unfolding case_count case_list case_items marks flat
count-is text sc h T.no_commands s = refl
count-is text sc h (T.and_command c cs) s = let ls = labels_before c in let ms = flat (marks cs) in let so = sound-parts ls ms s in
    omega (arith, cases-are text sc ls so.0, count-is text sc h cs so.1, cases-then ls ms)

pub default-is : (text : List ℕ) (sc : Scope) (h l done : ℕ) (cs : Commands)
    → G.default_of l done (case_list text sc h cs) ≡ default_among text sc l done (marks cs)
unfolding G.default_of case_list marks default_among
default-is text sc h l done T.no_commands = refl
default-is text sc h l done (T.and_command c cs) = let a : suc l ≡ l + 1 = omega arith in
    ap (cond (has_default (labels_of text sc (labels_before c))) l) (rw (a, default-is text sc h (l + 1) done cs))

pub table_is : (text : List ℕ) (sc : Scope) (h l : ℕ) (cs : Commands) → G.table_of l (case_list text sc h cs) ≡ table_among text sc l (marks cs)
unfolding G.table_of case_list marks table_among
table_is text sc h l T.no_commands = refl
table_is text sc h l (T.and_command c cs) = let a : suc l ≡ l + 1 = omega arith in rw (a, table_is text sc h (l + 1) cs)

pub table-gave : (text : List ℕ) {s : List ℕ} {from end top first done m d : ℕ} {t t₁ t₂ t₃ t₄ : List ℕ} {st a b c r : State}
    → Emits (G.X 23 ∷ []) [] t t₁ st a → CountsAll s from end m → Emits (G.D m ∷ []) [] t₁ t₂ a b → FindsDefault s from end first done d → Emits
    (G.DL d ∷ []) [] t₂ t₃ b c → WritesAll text s from end top first t₃ t₄ c r → WritesTable text s from end top first done t t₄ st r
table-gave text {first = first} {done} {m} {d} {st = st} {r = r} x n e f g w =
    let k : Still st r = still-then (emits-still x) (still-then (emits-still e) (still-then (emits-still g) w.still)) in record {
      worst = k.worst;
      label = k.label;
      by = λ y h none. let sc = y.scope in let cs = y.commands in let u = list_of y in let so = sound-all text sc [] cs none in
          let en : m ≡ case_count (case_list text sc h cs) = n.by (marks cs) u.row ∙ sym (count-is text sc h cs so) in
          let ed : d ≡ G.default_of first done (case_list text sc h cs) = f.by (marks cs) u.row text sc ∙ sym
          (default-is text sc h first done cs) in
          emits-as (emits_then x (emits_then e (emits_then g (w.by u so)))) (rw (en, ed, table_is text sc h first cs));
    }
