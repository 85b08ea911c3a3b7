-- The index of the labels: what its entries say, what a new one adds, and that it serves for the records in both passes.
use Rattle.laws.proofs.Basics.{ℕ, zero, suc, ◌+◌, ◌<◌, ◌≡◌, refl, sym, ap, ◌∙◌, List, [], ◌∷◌, ◌++◌, true, false, cond, length, get_or, set}
use Rattle.laws.proofs.Basics.{replicate}
use Rattle.laws.proofs.Basics.{length-append, length-set, length-replicate, get_or-set_same, get_or-set_other, eqb, add-zero, arith, eqb-true}
use Rattle.laws.proofs.Basics.{eqb-false}
use Rattle.laws.proofs.Basics.{eq-eqb, ne_eqb, add-shift}
use Rattle.laws.proofs.Cases.{by_cases, by_equal, contradiction}
use Rattle.items.specs.Item as I
use Rattle.items.specs.Scan.{Scan}
use Rattle.assembler.specs.Words.{words, size, operand_word}
use Rattle.assembler.specs.declared.Label.{Label}
use Rattle.assembler.specs.Layout.{defined, address_of, misplaced, fault, known, unknowns}
use Rattle.assembler.specs.Passes.{as_found, listed_from, no_index, listed, Indexes, put, filled, WritesAll}
use Rattle.assembler.specs.declared.Faulted.{Faulted}
use Rattle.assembler.specs.declared.Index.{Index}
use Rattle.std.specs.Prelude.{Option, Some, None, Result}
use Rattle.assembler.proofs.Lookup.{was-at, was-missing}

-- ---- an entry

abbrev entry : ℕ → Option ℕ
entry zero = None
entry (suc a) = Some (suc a)

entry-missing : (a : ℕ) → entry a ≡ None → a ≡ 0
entry-missing zero e = refl
entry-missing (suc a) e = contradiction cc

entry_at : (a : ℕ) → (a ≡ 0 → ⊥) → entry a ≡ Some a
entry_at zero h = absurd (h refl)
entry_at (suc a) h = refl

-- numbers below the first are not there
below : (k m : ℕ) (index : List ℕ) → m < k → as_found (listed_from k index) m ≡ None
unfolding listed_from as_found defined address_of
below k m [] h = refl
below k m (zero ∷ index) h = below (suc k) m index (omega arith)
below k m (suc a ∷ index) h = simp (ne_eqb k m (λ e. omega arith)) (below (suc k) m index (omega arith))

told-from : (k n : ℕ) (index : List ℕ) → as_found (listed_from k index) (k + n) ≡ entry (get_or index n 0)
unfolding listed_from as_found defined address_of
told-from k n [] = refl
told-from k zero (zero ∷ index) = rw (add-zero k) (below (suc k) k index (omega arith))
told-from k zero (suc a ∷ index) = rw (add-zero k) (simp (eq-eqb k k refl))
told-from k (suc n) (zero ∷ index) = rw (add-shift k n) (told-from (suc k) n index)
told-from k (suc n) (suc a ∷ index) = rw (add-shift k n) (simp (ne_eqb k (suc k + n) (λ q. omega arith)) (told-from (suc k) n index))

module _ (index : Index) (n : ℕ) where
  told : as_found (listed index) n ≡ entry (get_or index.addresses n 0)
  told = let e : 0 + n ≡ n = omega arith in rw e at (told-from 0 n index.addresses)

  pub found_none : get_or index.addresses n 0 ≡ 0 → None ≡ as_found (listed index) n
  found_none e = sym (told ∙ ap entry e)

  pub found_at : (get_or index.addresses n 0 ≡ 0 → ⊥) → Some (get_or index.addresses n 0) ≡ as_found (listed index) n
  found_at h = sym (told ∙ entry_at (get_or index.addresses n 0) h)

-- ---- no labels, and one more

no-entries : (k n : ℕ) → listed_from k (replicate n 0) ≡ []
unfolding listed_from
no-entries k zero = refl
no-entries k (suc n) = no-entries (suc k) n

pub indexes-none : Indexes no_index []
indexes-none = let z : listed no_index ≡ [] = no-entries 0 32768 in
    record { sized = length-replicate {A = ℕ} 32768 0; counts = ap length z; tells = λ m. rw z }

one_more : (k n a : ℕ) (index : List ℕ) → n < length index → get_or index n 0 ≡ 0
    → length (listed_from k (set index n (suc a))) ≡ suc (length (listed_from k index))
unfolding listed_from
one_more k n a [] h e = absurd (omega arith)
one_more k zero a (zero ∷ index) h e = refl
one_more k zero a (suc b ∷ index) h e = absurd (omega arith)
one_more k (suc n) a (zero ∷ index) h e = one_more (suc k) n a index (omega arith) e
one_more k (suc n) a (suc b ∷ index) h e = ap suc (one_more (suc k) n a index (omega arith) e)

-- a label that is not there differs from the first one, and is not behind it
not_first : (l : Label) (ls : List Label) (n : ℕ) → defined (l ∷ ls) n ≡ false → (l.number ≡ n → ⊥) × (defined ls n ≡ false)
unfolding defined
not_first l ls n h = by_cases (eqb l.number n) (λ e. let y : true ≡ false = rw e at h in contradiction cc) (λ e. (eqb-false _ _ e, rw e at h))

found-more : (labels : List Label) (n a m : ℕ) → defined labels n ≡ false
    → as_found (labels ++ (record { number = n; address = a } ∷ [])) m ≡ cond (eqb n m) (Some a) (as_found labels m)
unfolding as_found defined address_of
found-more [] n a m h = by_cases (eqb n m) (λ e. simp e) (λ e. simp e)
found-more (l ∷ ls) n a m h = by_cases (eqb l.number m)
    (λ e. let q : l.number ≡ m = eqb-true _ _ e in simp (e, ne_eqb n m (λ p. (not_first l ls n h).0 (q ∙ sym p))))
    (λ e. simp e (found-more ls n a m (not_first l ls n h).1))

-- with an entry more, and any count
abbrev pub entered : Index → (n a count : ℕ) → Index
entered index n a count = record { addresses = set index.addresses n a; count = count }

pub indexes-more : (index : Index) (labels : List Label) (n a count : ℕ) → Indexes index labels → n < 32768 → 0 < a → defined labels n ≡ false
    → Indexes (entered index n a count) (labels ++ (record { number = n; address = a } ∷ []))
unfolding as_found
indexes-more index labels n zero count i h p f = absurd (omega arith)
indexes-more index labels n (suc a) count i h p f = record {
  sized = rw length-set i.sized;
  counts = one_more 0 n a index.addresses within vacant ∙ rw length-append (omega (arith, i.counts));
  tells = λ m. told (entered index n (suc a) count) m
      ∙ by_equal n m (λ q. rw (eq-eqb n m q, ← q, get_or-set_same index.addresses n (suc a) 0 within))
      (λ q. rw (ne_eqb n m q, get_or-set_other index.addresses n m (suc a) 0 (λ k. q (sym k))) (sym (told index m) ∙ i.tells m))
      ∙ sym (found-more labels n (suc a) m f);
}
  where
    within : n < length index.addresses
    within = omega (arith, i.sized)

    missing : as_found labels n ≡ None
    missing = rw f

    vacant : get_or index.addresses n 0 ≡ 0
    vacant = entry-missing (get_or index.addresses n 0) (sym (told index n) ∙ i.tells n ∙ missing)

-- ---- tables that tell the same

undefined-zero : (labels : List Label) (n : ℕ) → defined labels n ≡ false → address_of labels n ≡ 0
unfolding address_of
undefined-zero [] n h = refl
undefined-zero (l ∷ ls) n h = simp (ne_eqb l.number n (not_first l ls n h).0) (undefined-zero ls n (not_first l ls n h).1)

module _ (a b : List Label) (same : (n : ℕ) → as_found a n ≡ as_found b n) where
  told_same : (n : ℕ) → (defined a n ≡ defined b n) × (address_of a n ≡ address_of b n)
  unfolding as_found
  told_same n = by_cases (defined a n)
      (λ e. let f : as_found a n ≡ Some (address_of a n) = rw e in (e ∙ sym (was-at b n (same n) f).0, sym (was-at b n (same n) f).1))
      (λ e. let f : as_found a n ≡ None = rw e in
      let g : defined b n ≡ false = was-missing b n (same n) f in (e ∙ sym g, undefined-zero a n e ∙ sym (undefined-zero b n g)))

  known_same : (i : I.Item) → known a i ≡ known b i
  unfolding known
  known_same i = rw (told_same _).0

  operand_same : (x : I.Operand) → operand_word (address_of a) x ≡ operand_word (address_of b) x
  unfolding operand_word
  operand_same (I.number minus size) = refl
  operand_same (I.address n) = (told_same n).1

  put_same : (at : ℕ) (memory : List ℕ) (i : I.Item) → put a at memory i ≡ put b at memory i
  unfolding put words
  put_same at memory (I.label n) = refl
  put_same at memory (I.instruction f i c x) = rw (operand_same x)
  put_same at memory (I.constant x) = rw (operand_same x)
  put_same at memory (I.string cs) = refl
  put_same at memory (I.global n m) = rw (told_same m).1

  unknowns-same : (ps : List I.Placed) → unknowns a ps ≡ unknowns b ps
  unfolding unknowns
  unknowns-same [] = refl
  unknowns-same (p ∷ ps) = rw (known_same p.item, unknowns-same ps)

  filled-same : (at : ℕ) (memory : List ℕ) (ps : List I.Placed) → filled a at memory ps ≡ filled b at memory ps
  unfolding filled
  filled-same at memory [] = refl
  filled-same at memory (p ∷ ps) = rw (put_same at memory p.item) (filled-same (at + size p.item) _ ps)

-- ---- so an index serves for the records

module _ {index : Index} {labels : List Label} (i : Indexes index labels) where
  pub fault-same : (memory room at : ℕ) (item : I.Item) → fault memory room at (listed index) item ≡ fault memory room at labels item
  unfolding fault misplaced
  fault-same memory room at (I.label n) = rw ((told_same (listed index) labels i.tells n).0, i.counts)
  fault-same memory room at (I.instruction f d c x) = refl
  fault-same memory room at (I.constant x) = refl
  fault-same memory room at (I.string cs) = refl
  fault-same memory room at (I.global n m) = refl

  pub writes-same : {s : Scan} {memory : List ℕ} {answer : Result (Unit {0}) Faulted} {memory' : List ℕ}
      → WritesAll (listed index) s memory answer memory' → WritesAll labels s memory answer memory'
  writes-same {s} {memory} w = record {
    same = w.same;
    answers = rw (← unknowns-same (listed index) labels i.tells s.items) w.answers;
    writes = λ q. w.writes q ∙ filled-same (listed index) labels i.tells 416 memory s.items;
  }
