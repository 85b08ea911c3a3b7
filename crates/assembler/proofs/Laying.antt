-- The first pass: what its loop keeps, and what each of its answers gives.
use Rattle.laws.proofs.Basics.{ℕ, zero, suc, ◌+◌, ◌<◌, ◌≤◌, ◌≡◌, refl, sym, ◌∙◌, List, [], true, length, take, drop, arith}
use Rattle.laws.proofs.Cases.{contradiction}
use Rattle.items.specs.Item as I
use Rattle.items.specs.Scan.{Ending, whole, unreadable, Scan, ends, goes_on, body}
use Rattle.items.specs.declared.Item.{Item}
use Rattle.assembler.specs.Words.{in_range, size}
use Rattle.assembler.specs.declared.Label.{Label}
use Rattle.assembler.specs.declared.Index.{Index}
use Rattle.assembler.specs.declared.Faulted.{Faulted}
use Rattle.assembler.specs.Layout.{noted, Laid, refused, fault, lay}
use Rattle.assembler.specs.Passes.{item_of, blank, no_index, listed, Indexes, Table, Notable, Notes, after_ending, laid_by, Lays, Vacant}
use Rattle.std.specs.Prelude.{Result, Ok, Err, MatchResult, IsErrAnd}
use Rattle.text.specs.declared.faults.Fault.{Fault}
use Rattle.text.specs.declared.faults.Fault.TheVariants as F
use Rattle.text.specs.Faults.{number_of}
use Rattle.assembler.specs.Passes.{fault_number}
use Rattle.assembler.proofs.Indexing.{indexes-none, fault-same}
use Rattle.assembler.proofs.Noting.{no-labels, count-labels, may-note}
use Rattle.assembler.proofs.Faults.{no-fault-fits, no-fault-ranged}
use Rattle.assembler.proofs.Reading.{Reads, size-blank, noted-blank, fault-blank}

-- what the pass is to give from an address, some labels and a scan on
abbrev laying : (memory room at : ℕ) → List Label → Scan → Laid
laying memory room at labels s = after_ending s.ending (lay memory room at labels s.items)

after-refused : (e : Ending) (number place : ℕ) → after_ending e (refused number place) ≡ refused number place
unfolding after_ending
after-refused whole number place = refl
after-refused (unreadable p) number place = refl

module _ (memory room at : ℕ) (labels : List Label) (place : ℕ) (i : I.Item) (s : Scan) where
  lay-refused : (n : ℕ) → fault memory room at labels i ≡ n → (n ≡ 0 → ⊥) → laying memory room at labels (goes_on place i s) ≡ refused n place
  unfolding lay
  lay-refused zero e h = absurd (h refl)
  lay-refused (suc k) e h = rw e (after-refused s.ending (suc k) place)

  lay-on : fault memory room at labels i ≡ 0
      → laying memory room at labels (goes_on place i s) ≡ laying memory room (at + size i) (noted at labels i) s
  unfolding lay
  lay-on e = rw e

-- a fault's number is not 0
some-number : (f : Fault) → number_of f ≡ 0 → ⊥
some-number F.SourceTooLong e = omega arith
some-number F.NoSymbol e = omega arith
some-number F.Number e = omega arith
some-number F.Bracket e = omega arith
some-number F.Unexpected e = omega arith
some-number F.TooDeep e = omega arith
some-number F.UnknownName e = omega arith
some-number F.NameTwice e = omega arith
some-number F.NoPlace e = omega arith
some-number F.Constant e = omega arith
some-number F.Case e = omega arith
some-number F.NothingToLeave e = omega arith
some-number F.NoStart e = omega arith
some-number F.RoomTooShort e = omega arith
some-number F.TooHigh e = omega arith
some-number F.Unreadable e = omega arith
some-number F.LabelTwice e = omega arith
some-number F.UnknownLabel e = omega arith
some-number F.OutOfRange e = omega arith
some-number F.Memory e = omega arith
some-number F.TableTooShort e = omega arith
some-number F.Unclosed e = omega arith
some-number F.Escape e = omega arith
some-number F.QuotedByte e = omega arith
some-number F.QuotedLength e = omega arith

no-number : (answer : Result (Unit {0}) Fault) → ((f : Fault) → answer ≡ Err f → ⊥) → fault_number answer ≡ 0
no-number (Ok u) h = refl
no-number (Err f) h = absurd (h f refl)

-- a fault with its place is an item's fault, and where there is none, the item has none
pub mapped : (r : Result (Unit {0}) Fault) (q : Result (Unit {0}) Faulted) (P : Fault → Faulted → Type 0) (place : ℕ)
    → MatchResult r (λ x. q ≡ Ok x) (λ e. IsErrAnd q (P e)) → ((e : Fault) (d : Faulted) → P e d → d ≡ record { fault = e; place = place })
    → {d : Faulted} → q ≡ Err d → (r ≡ Err d.fault) × (d ≡ record { fault = d.fault; place = place })
mapped (Ok u) q P place h k e = absurd cc
mapped (Err f) (Ok u) P place h k e = absurd cc
mapped (Err f) (Err g) P place h k {d} e = let z : g ≡ record { fault = f; place = place } = k f g h in
    let y : d ≡ record { fault = f; place = place } = cc in (rw y, rw y)

pub unmapped : (r : Result (Unit {0}) Fault) (q : Result (Unit {0}) Faulted) (P : Fault → Faulted → Type 0)
    → MatchResult r (λ x. q ≡ Ok x) (λ e. IsErrAnd q (P e)) → {u : Unit {0}} → q ≡ Ok u → (g : Fault) → r ≡ Err g → ⊥
unmapped (Ok u) q P h e g n = cc
unmapped (Err f) (Ok u) P h e g n = h
unmapped (Err f) (Err d) P h e g n = cc

pub record Laying (text : List ℕ) (memory from : ℕ) (table₀ : List Label) (place at : ℕ) (table : List Label) (index : Index) : Type 0 where
  pub same : length table ≡ length table₀
  pub tabled : Table index.count table
  pub indexed : Indexes index (take index.count table)
  pub high : 416 ≤ at
  pub low : at ≤ memory
  pub so_far :
      laying memory (length table₀) 416 [] (body 0 from (drop from text))
      ≡ laying memory (length table₀) at (take index.count table) (body 0 place (drop place text))

pub laying-start : (text : List ℕ) (memory from : ℕ) (table : List Label) → 416 ≤ memory → Vacant table
    → Laying text memory from table from 416 table no_index
laying-start text memory from table h z = record {
  same = refl;
  tabled = no-labels table z;
  indexed = indexes-none;
  high = omega arith;
  low = h;
  so_far = refl;
}

module _ (text : List ℕ) (memory from : ℕ) (table₀ : List Label) (place at : ℕ) (table : List Label) (index : Index)
    (l : Laying text memory from table₀ place at table index) where
  pub laying-whole : body 0 place (drop place text) ≡ ends whole → Lays memory (body 0 from (drop from text)) table₀ (Ok at) table index
  unfolding laid_by after_ending lay
  laying-whole e = record {
    same = l.same;
    answers = sym (l.so_far ∙ rw e);
    tabled = l.tabled;
    indexed = l.indexed;
    fits = λ d q. let z : at ≡ d = cc in rw z at l.low;
  }

  refusal-lays : (f : Fault) (p : ℕ)
      → laying memory (length table₀) at (take index.count table) (body 0 place (drop place text)) ≡ refused (number_of f) p
      → Lays memory (body 0 from (drop from text)) table₀ (Err (record { fault = f; place = p })) table index
  unfolding laid_by
  refusal-lays f p e = record {
    same = l.same;
    answers = sym (l.so_far ∙ e);
    tabled = l.tabled;
    indexed = l.indexed;
    fits = λ d q. contradiction cc;
  }

  pub laying-not : {p : ℕ} → body 0 place (drop place text) ≡ ends (unreadable p)
      → Lays memory (body 0 from (drop from text)) table₀ (Err (record { fault = F.Unreadable; place = p })) table index
  unfolding after_ending lay
  laying-not {p} e = refusal-lays F.Unreadable p (rw e)

  -- as many labels in the index as in the table
  pub laying-count : length (listed index) ≡ index.count
  laying-count = l.indexed.counts ∙ count-labels index.count table l.tabled

  module _ {first : ℕ} {item : Item} {past : ℕ} (answer : Result (Unit {0}) Fault) (i : Reads text place first item past)
      (f : fault_number answer ≡ fault memory (length table₀) at (listed index) (item_of blank item)) where
    -- the code's fault is the definition's
    known-fault : fault memory (length table₀) at (take index.count table) (item_of blank item) ≡ fault_number answer
    known-fault = sym (f ∙ fault-same l.indexed memory (length table₀) at (item_of blank item))

    fault-is : fault memory (length table₀) at (take index.count table) i.read ≡ fault_number answer
    fault-is = sym (fault-blank memory (length table₀) at (take index.count table) i.read) ∙ (rw i.same at known-fault)

    pub laying-fault : {g : Fault} → answer ≡ Err g
        → Lays memory (body 0 from (drop from text)) table₀ (Err (record { fault = g; place = first })) table index
    laying-fault {g} e = refusal-lays g first (rw i.goes_on_lem (lay-refused memory (length table₀) at (take index.count table) first i.read
        (body 0 past (drop past text)) (number_of g) (fault-is ∙ rw e) (some-number g)))

    module _ (none : (g : Fault) → answer ≡ Err g → ⊥) where
      z : fault_number answer ≡ 0
      z = no-number answer none

      pub laying-in-range : in_range (item_of blank item) ≡ true
      laying-in-range = no-fault-ranged memory (length table₀) at (take index.count table) (item_of blank item) (known-fault ∙ z)

      pub laying-notable : memory < 65536 → Notable at item table index
      laying-notable h = may-note memory at item table index l.tabled l.indexed (omega (arith, l.high)) (omega (arith, l.low))
          (rw l.same (known-fault ∙ z))

      size_is : {s : ℕ} → s ≡ size (item_of blank item) → s ≡ size i.read
      size_is e = e ∙ rw i.same (size-blank i.read)

      pub laying-size : {s : ℕ} → s ≡ size (item_of blank item) → at + s ≤ memory
      laying-size e = rw (size_is e) (no-fault-fits memory (length table₀) at (take index.count table) i.read (fault-is ∙ z) l.low)

      pub laying-on : {s : ℕ} {table' : List Label} {index' : Index} → Notes at (item_of blank item) table index table' index'
          → s ≡ size (item_of blank item)
          → Laying text memory from table₀ past (at + s) table' index'
      laying-on {s} {table'} n e = record {
        same = n.same ∙ l.same;
        tabled = n.tabled;
        indexed = n.indexed;
        high = omega (arith, l.high);
        low = laying-size e;
        so_far = l.so_far ∙ rw i.goes_on_lem
            (lay-on memory (length table₀) at (take index.count table) first i.read (body 0 past (drop past text)) (fault-is ∙ z)
            ∙ rw (n.notes, i.same, noted-blank at (take index.count table) i.read, size_is e));
      }
