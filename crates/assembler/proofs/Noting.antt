-- A label's record: what a new one adds to the table, and which items may be noted.
use Rattle.laws.proofs.Basics.{ℕ, suc, ◌+◌, ◌-◌, ◌<◌, ◌≤◌, ◌≡◌, refl, sym, ap, ◌∙◌, List, [], ◌∷◌, ◌++◌, append_assoc, false, length}
use Rattle.laws.proofs.Basics.{set, take, replicate, length-set, length-take-le, take-suc-set, set_at, sub-zero, add-one, arith}
use Rattle.items.specs.declared.Item.{Item}
use Rattle.items.specs.declared.Item.TheVariants as C
use Rattle.assembler.specs.declared.Label.{Label}
use Rattle.assembler.specs.declared.Index.{Index}
use Rattle.assembler.specs.Layout.{vacant, defined, noted, fault}
use Rattle.assembler.specs.Passes.{item_of, blank, Indexes, Table, Notable, Notes, Vacant}
use Rattle.assembler.proofs.Faults.{no-fault-label}
use Rattle.assembler.proofs.Indexing.{entered, indexes-more}

pub count-labels : (count : ℕ) (table : List Label) → Table count table → length (take count table) ≡ count
count-labels count table t = length-take-le count table t.fits

pub no-labels : (table : List Label) → Vacant table → Table 0 table
no-labels table v = record { fits = omega arith; others = rw sub-zero v }

-- ---- one record more

module _ (table : List Label) (count : ℕ) (l : Label) (t : Table count table) (h : count < length table) where
  first-labels : take (count + 1) (set table count l) ≡ take count table ++ (l ∷ [])
  first-labels = rw add-one (take-suc-set table count l h)

  one_label : Table (count + 1) (set table count l)
  one_label = let left : length table - count ≡ suc (length table - (count + 1)) = omega arith in
      let before : table ≡ take count table ++ (vacant ∷ replicate (length table - (count + 1)) vacant) = t.others ∙ rw left refl in
      let stored : set table count l ≡ take count table ++ (l ∷ replicate (length table - (count + 1)) vacant) =
      ap (λ (k : List Label). set k count l) before
      ∙ set_at (take count table) vacant (replicate (length table - (count + 1)) vacant) l count (length-take-le count table t.fits) in
      record { fits = rw length-set (omega arith); others = stored ∙ sym (rw (first-labels, length-set, append_assoc)) }

pub note-label : (at : ℕ) (item : Item) (table : List Label) (index : Index) {n : ℕ} → Notable at item table index → item ≡ C.Label n
    → Notes at (item_of blank item) table index (set table index.count (record { number = n; address = at })) (entered index n at (index.count + 1))
unfolding item_of noted
note-label at item table index {n} r e =
    let f : (n < 32768) × (index.count < length table) × (defined (take index.count table) n ≡ false) = r.free n e in
    let l : Label = record { number = n; address = at } in
    let k : take (index.count + 1) (set table index.count l) ≡ take index.count table ++ (l ∷ []) = first-labels table index.count l r.tabled f.1 in
    record {
      same = length-set table index.count l;
      tabled = one_label table index.count l r.tabled f.1;
      notes = rw e k;
      indexed = rw k (indexes-more index (take index.count table) n at (index.count + 1) r.indexed f.0 r.low.0 f.2);
    }

-- any other item leaves the table and the index as they are
pub note-other : (at : ℕ) (item : Item) (table : List Label) (index : Index) → Notable at item table index
    → ((n : ℕ) → item ≡ C.Label n → ⊥) → Notes at (item_of blank item) table index table index
unfolding item_of noted
note-other at (C.Label n) table index r h = absurd (h n refl)
note-other at (C.Instruction f i b x) table index r h = record { same = refl; tabled = r.tabled; notes = refl; indexed = r.indexed }
note-other at (C.Constant x) table index r h = record { same = refl; tabled = r.tabled; notes = refl; indexed = r.indexed }
note-other at (C.String n) table index r h = record { same = refl; tabled = r.tabled; notes = refl; indexed = r.indexed }
note-other at (C.Global n m) table index r h = record { same = refl; tabled = r.tabled; notes = refl; indexed = r.indexed }

-- ---- an item without fault may be noted

pub may-note : (memory at : ℕ) (item : Item) (table : List Label) (index : Index)
    → Table index.count table → Indexes index (take index.count table) → 0 < at → at < 65536
    → fault memory (length table) at (take index.count table) (item_of blank item) ≡ 0 → Notable at item table index
unfolding item_of
may-note memory at item table index t i high low h = record { tabled = t; indexed = i; low = (high, low); free = free }
  where
    free : (n : ℕ) → item ≡ C.Label n → (n < 32768) × (index.count < length table) × (defined (take index.count table) n ≡ false)
    free n e = let z : (n ≤ 32767) × (length (take index.count table) < length table) × (defined (take index.count table) n ≡ false) =
        no-fault-label memory (length table) at (take index.count table) n (rw e at h) in
        let l : length (take index.count table) ≡ index.count = count-labels index.count table t in (omega arith, omega arith, z.2)
