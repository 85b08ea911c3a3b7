-- The second pass: what its loop keeps, and what each of its answers gives.
use Rattle.laws.proofs.Basics.{ℕ, ◌+◌, ◌≤◌, ◌≡◌, sym, ap, ◌∙◌, List, true, false, length, drop}
use Rattle.laws.proofs.Cases.{by_cases, contradiction}
use Rattle.items.specs.Item as I
use Rattle.items.specs.Scan.{Ending, ends, body}
use Rattle.items.proofs.Answers.{StringKept, when-string}
use Rattle.items.specs.declared.Item.{Item}
use Rattle.items.specs.declared.Item.TheVariants as C
use Rattle.assembler.specs.Words.{in_range, size}
use Rattle.assembler.specs.declared.Label.{Label}
use Rattle.assembler.specs.Layout.{known, unknowns}
use Rattle.assembler.specs.Passes.{filled, Writable, Writes, letters, Quoting, item_at, Spelled, FitsAll, as_written, WritesAll}
use Rattle.std.specs.Prelude.{Option, Some, None, Ok, Err}
use Rattle.text.specs.declared.faults.Fault.TheVariants as F
use Rattle.assembler.proofs.Reading.{Reads, item_back}

pub record Filling (labels : List Label) (text memory₀ : List ℕ) (from place at : ℕ) (memory : List ℕ) : Type 0 where
  pub same : length memory ≡ length memory₀
  pub globals : 416 ≤ length memory₀
  pub fits : FitsAll (length memory₀) at (body 0 place (drop place text)).items
  pub unknown-so-far : unknowns labels (body 0 from (drop from text)).items ≡ unknowns labels (body 0 place (drop place text)).items
  pub filled-so-far : filled labels 416 memory₀ (body 0 from (drop from text)).items ≡ filled labels at memory
      (body 0 place (drop place text)).items

-- a step's answer, matched
module _ (labels : List Label) (i : I.Item) (at : ℕ) (memory : List ℕ) {answer : Option ℕ} {memory' : List ℕ}
    (w : Writes labels i at memory answer memory') where
  was-unknown : answer ≡ None → known labels i ≡ false
  was-unknown q = by_cases (known labels i) (λ e. let y : None ≡ Some (at + size i) = sym q ∙ w.answers ∙ rw e in contradiction cc) (λ e. e)

  was-to : {address : ℕ} → answer ≡ Some address → (known labels i ≡ true) × (address ≡ at + size i)
  was-to {address} q = by_cases (known labels i) (λ e. let y : Some address ≡ Some (at + size i) = sym q ∙ w.answers ∙ rw e in (e, cc))
      (λ e. let y : Some address ≡ None = sym q ∙ w.answers ∙ rw e in contradiction cc)

module _ (labels : List Label) (text memory₀ : List ℕ) (from place at : ℕ) (memory : List ℕ) (l : Filling labels text memory₀ from place at memory)
  where
    pub filling-end : {e : Ending} → body 0 place (drop place text) ≡ ends e → WritesAll labels (body 0 from (drop from text)) memory₀ (Ok tt) memory
    unfolding unknowns filled as_written
    filling-end e = record { same = l.same; answers = rw (l.unknown-so-far, e); writes = λ q. sym (l.filled-so-far ∙ rw e) }

    module _ {first : ℕ} {item : Item} {past : ℕ} (i : Reads text place first item past) where
      -- the item with its characters is the one that was read
      item-is : item_at text first item ≡ i.read
      item-is = rw i.same (item_back (λ n. letters text (first + 2)) i.read (λ cs e. (i.spelled cs e).1))

      fits-here : (in_range i.read ≡ true) × (at + size i.read ≤ length memory₀) × FitsAll (length memory₀) (at + size i.read)
          (body 0 past (drop past text)).items
      unfolding FitsAll
      fits-here = rw i.goes_on_lem at l.fits

      pub filling-writable : Writable (item_at text first item) at memory
      filling-writable = rw item-is (record {
        sound = i.sound;
        ranged = fits-here.0;
        fits = rw l.same fits-here.1;
        globals = rw l.same l.globals;
      })

      pub filling-spelled : Spelled text first item
      filling-spelled = record { spelled = found }
        where
          found : (n : ℕ) → item ≡ C.String n → Quoting text (first + 2) × (length (letters text (first + 2)) ≡ n) × (first + 2 ≤ length text)
          found n e = let k : StringKept i.read n = when-string i.read i.same e in (
            (i.spelled k.characters k.item).0,
            ap length (i.spelled k.characters k.item).1 ∙ sym k.same_length,
            (i.spelled k.characters k.item).2,
          )

      module _ {answer : Option ℕ} {memory' : List ℕ} (w : Writes labels (item_at text first item) at memory answer memory') where
        written : Writes labels i.read at memory answer memory'
        written = rw item-is at w

        pub filling-unknown : answer ≡ None → WritesAll labels (body 0 from (drop from text)) memory₀ (Err (record { fault = F.UnknownLabel; place = first })) memory'
        unfolding unknowns as_written
        filling-unknown q = record {
          same = w.same ∙ l.same;
          answers = rw (l.unknown-so-far, i.goes_on_lem, was-unknown labels i.read at memory written q);
          writes = λ e. contradiction cc;
        }

        pub filling-on : {address : ℕ} → answer ≡ Some address → Filling labels text memory₀ from past address memory'
        unfolding unknowns filled
        filling-on {address} q =
            let t : (known labels i.read ≡ true) × (address ≡ at + size i.read) = was-to labels i.read at memory written q in
            record {
              same = w.same ∙ l.same;
              globals = l.globals;
              fits = rw t.1 fits-here.2;
              unknown-so-far = l.unknown-so-far ∙ rw (i.goes_on_lem, t.0);
              filled-so-far = l.filled-so-far ∙ rw (i.goes_on_lem, t.1, written.writes t.0);
            }
