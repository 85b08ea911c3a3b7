-- A text of rendered items is refused only by 24 or 25, where its items' numbers are in range, its labels differ and every label that is
-- used is there: by what its items' labels and numbers say, and by nothing else.
use Rattle.laws.proofs.Basics.{ℕ, ◌+◌, ◌≡◌, refl, sym, ap, List, [], ◌∷◌, ◌++◌, append_assoc, append-nil, Bool, true, false, ◌&&◌, cond, ◌⊎◌, inl}
use Rattle.laws.proofs.Basics.{inr, length, eqb, ltb, leb, arith}
use Rattle.laws.proofs.Cases.{by_cases, contradiction}
use Rattle.text.specs.Line.{refusal}
use Rattle.text.specs.declared.Refusal.{Refusal}
use Rattle.items.specs.Item as I
use Rattle.items.specs.Item.{Item}
use Rattle.items.specs.Scan.{whole}
use Rattle.items.specs.Render.{render, render_all}
use Rattle.items.proofs.Rendered.{AllSound, places, rendered}
use Rattle.assembler.specs.Words.{operand_in_range, in_range, size}
use Rattle.assembler.specs.declared.Label.{Label}
use Rattle.assembler.specs.Layout.{defined, noted, Laid, laid, refused, on_fault, misplaced, fault, lay, uses, known, unknowns}
use Rattle.assembler.specs.Assemble.{refuse, accept, on_unknowns, on_laid, assembled}
use Rattle.std.specs.Prelude.{Err}

-- ---- the labels by their numbers

unfoldable pub seen : List ℕ → ℕ → Bool
seen [] n = false
seen (k ∷ ks) n = cond (eqb k n) true (seen ks n)

unfoldable numbers_of : List Label → List ℕ
numbers_of [] = []
numbers_of (l ∷ ls) = l.number ∷ numbers_of ls

defined-seen : (labels : List Label) (n : ℕ) → defined labels n ≡ seen (numbers_of labels) n
unfolding defined seen numbers_of
defined-seen [] n = refl
defined-seen (l ∷ ls) n = ap (cond (eqb l.number n) true) (defined-seen ls n)

-- the label of an item, if it is one
abbrev pub label_of : Item → List ℕ
label_of = elim [ I.label n ↦ n ∷ [] | I.instruction f i b x ↦ [] | I.constant x ↦ [] | I.string cs ↦ [] | I.global n m ↦ [] ]

unfoldable pub labels_of : List Item → List ℕ
labels_of [] = []
labels_of (i ∷ is) = label_of i ++ labels_of is

numbers-both : (ls ms : List Label) → numbers_of (ls ++ ms) ≡ numbers_of ls ++ numbers_of ms
unfolding numbers_of
numbers-both [] ms = refl
numbers-both (l ∷ ls) ms = ap (λ (ns : List ℕ). l.number ∷ ns) (numbers-both ls ms)

numbers-noted : (at : ℕ) (labels : List Label) (i : Item) → numbers_of (noted at labels i) ≡ numbers_of labels ++ label_of i
unfolding noted numbers_of
numbers-noted at labels (I.label n) = numbers-both labels (record { number = n; address = at } ∷ [])
numbers-noted at labels (I.instruction f i b x) = sym (append-nil (numbers_of labels))
numbers-noted at labels (I.constant x) = sym (append-nil (numbers_of labels))
numbers-noted at labels (I.string cs) = sym (append-nil (numbers_of labels))
numbers-noted at labels (I.global n m) = sym (append-nil (numbers_of labels))

-- ---- items whose numbers are in range and whose labels differ, from each other and from those before them

abbrev Fresh : List ℕ → Item → Type 0
Fresh before (I.label n) = seen before n ≡ false
Fresh before (I.instruction f i b x) = Unit {0}
Fresh before (I.constant x) = Unit {0}
Fresh before (I.string cs) = Unit {0}
Fresh before (I.global n m) = Unit {0}

abbrev pub Clean : (before : List ℕ) → List Item → Type 0
Clean before [] = Unit {0}
Clean before (i ∷ is) = (in_range i ≡ true) × Fresh before i × Clean (before ++ label_of i) is

-- every label that is used is one of these
abbrev pub AllKnown : List ℕ → List Item → Type 0
AllKnown labels [] = Unit {0}
AllKnown labels (i ∷ is) = (cond (eqb (uses i) 0) true (seen labels (uses i)) ≡ true) × AllKnown labels is

module _ (memory room : ℕ) where
  data OnlyLong : ℕ → Type 0 where
    none : OnlyLong 0
    too_long : OnlyLong 24
    too_many : OnlyLong 25

  unless-long : (t : Bool) → OnlyLong (cond t 24 0)
  unless-long true = too_long
  unless-long false = none

  unless-many : (t : Bool) → OnlyLong (cond t 25 0)
  unless-many true = too_many
  unless-many false = none

  fault-only : (at : ℕ) (labels : List Label) (i : Item) → in_range i ≡ true → Fresh (numbers_of labels) i → OnlyLong (fault memory room at labels i)
  unfolding fault misplaced
  fault-only at labels (I.label n) r f = rw (r, defined-seen labels n, f) (unless-many (leb room (length labels)))
  fault-only at labels (I.instruction g i b x) r f = rw r (unless-long (ltb memory (at + size (I.instruction g i b x))))
  fault-only at labels (I.constant x) r f = rw r (unless-long (ltb memory (at + size (I.constant x))))
  fault-only at labels (I.string cs) r f = rw r (unless-long (ltb memory (at + size (I.string cs))))
  fault-only at labels (I.global n m) r f = rw r none

  -- the layout gives all their labels, or is refused 24 or 25
  data Lays : Laid → List ℕ → Type 0 where
    lays : (labels : List Label) (end : ℕ) {ns : List ℕ} → numbers_of labels ≡ ns → Lays (laid labels end) ns
    long : (place : ℕ) {ns : List ℕ} → Lays (refused 24 place) ns
    many : (place : ℕ) {ns : List ℕ} → Lays (refused 25 place) ns

  lay-clean : (is : List Item) (p at : ℕ) (labels : List Label) → Clean (numbers_of labels) is
      → Lays (lay memory room at labels (places p is)) (numbers_of labels ++ labels_of is)
  unfolding lay places labels_of
  lay-clean [] p at labels h = lays labels at (sym (append-nil (numbers_of labels)))
  lay-clean (i ∷ is) p at labels h =
      go (fault-only at labels i h.0 h.1) (lay-clean is (p + length (render i) + 1) (at + size i) (noted at labels i)
      (rw (numbers-noted at labels i) h.2))
    where
      go : {n : ℕ} → OnlyLong n
          → Lays (lay memory room (at + size i) (noted at labels i) (places (p + length (render i) + 1) is))
          (numbers_of (noted at labels i) ++ labels_of is)
          → Lays (on_fault n p (lay memory room (at + size i) (noted at labels i) (places (p + length (render i) + 1) is)))
          (numbers_of labels ++ (label_of i ++ labels_of is))
      go none k = rw (sym (append_assoc (numbers_of labels) (label_of i) (labels_of is)), sym (numbers-noted at labels i)) k
      go too_long k = long p
      go too_many k = many p

known-all : (labels : List Label) (is : List Item) (p : ℕ) → AllKnown (numbers_of labels) is → unknowns labels (places p is) ≡ []
unfolding unknowns places known
known-all labels [] p h = refl
known-all labels (i ∷ is) p h = rw (defined-seen labels (uses i), h.0) (known-all labels is (p + length (render i) + 1) h.1)

-- ---- the law

module _ (is : List Item) (sound : AllSound is) (clean : Clean [] is) (known-labels : AllKnown (labels_of is) is) (memory room : ℕ) where
  answered : {o : Laid} → Lays memory room o (labels_of is) → {r : Refusal}
      → (on_laid (render_all is) memory room o (record { items = places 2 is; ending = whole })).answer ≡ Err r
      → (r.number ≡ 24) ⊎ (r.number ≡ 25)
  unfolding refuse accept refusal
  answered (lays labels end e) {r} h = let k : unknowns labels (places 2 is) ≡ [] = known-all labels is 2 (rw e known-labels) in
      let z : (on_unknowns (render_all is) memory room [] labels end (places 2 is)).answer ≡ Err r = rw k at h in
      contradiction cc
  answered (long place) h = inl cc
  answered (many place) h = inr cc

  pub rendered-only : (r : Refusal) → (assembled (render_all is) memory room).answer ≡ Err r → (r.number ≡ 24) ⊎ (r.number ≡ 25)
  unfolding assembled refuse refusal numbers_of
  rendered-only r h = by_cases (leb 512 memory && leb memory 32768)
      (λ e. answered (lay-clean memory room is 2 416 [] clean) (rw (e, rendered is sound) at h))
      (λ e. let z : Err (refusal (render_all is) 24 0) ≡ Err r = rw e at h in inl cc)

-- ---- a closed instance: 1: JL1 D7 G1L1

sample : List Item
sample = I.label 1 ∷ I.instruction 3 false I.none (I.address 1) ∷ I.constant (I.number false 7) ∷ I.global 1 1 ∷ []

sample-sound : AllSound sample
unfolding sample
sample-sound =
    (omega arith, (record { eight = omega arith; sound = omega arith }, (omega arith, (record { first = omega arith; second = omega arith }, tt))))

sample-only : (memory room : ℕ) (r : Refusal) → (assembled (render_all sample) memory room).answer ≡ Err r → (r.number ≡ 24) ⊎ (r.number ≡ 25)
unfolding sample in_range operand_in_range uses seen labels_of
sample-only memory room r h =
    rendered-only sample sample-sound ((refl, refl, (refl, tt, (refl, tt, (refl, tt, tt))))) (refl, (refl, (refl, (refl, tt)))) memory room r h
