-- What `items::next_in` answers, as the passes use it: the item that stands next, and the scan from past it.
use Rattle.laws.proofs.Basics.{ℕ, ◌+◌, ◌-◌, ◌<◌, ◌≤◌, ◌≡◌, refl, ap, ◌∙◌, List, length, drop, length-drop, length-replicate, arith}
use Rattle.items.specs.Item as I
use Rattle.items.specs.Scan.{whole, unreadable, ends, goes_on, body, scan}
use Rattle.items.specs.Next as N
use Rattle.items.specs.Answers.{as_operand, as_base, as_item, as_next, as_start}
use Rattle.items.specs.declared.Item.{Item}
use Rattle.items.specs.declared.Next.{Next}
use Rattle.items.specs.declared.Next.TheVariants as M
use Rattle.std.specs.Prelude.{Result, Ok, Err}
use Rattle.items.specs.declared.Unreadable.{Unreadable}
use Rattle.items.proofs.Sound as G
use Rattle.items.proofs.Answers.{OneRead, when-one, when_whole, when-unreadable, when-from, when-not-begun}
use Rattle.items.proofs.Scans.{on_next, body-next, scan-start}
use Rattle.text.proofs.Quotes.{Closed, is-closed}
use Rattle.assembler.specs.Words.{in_range, size}
use Rattle.assembler.specs.declared.Label.{Label}
use Rattle.assembler.specs.Layout.{noted, misplaced, fault}
use Rattle.assembler.specs.Passes.{operand_of, base_of, item_of, blank, Sound, letters, Quoting}

-- ---- the code's items are the definitions' ones

operand-back : (x : I.Operand) → operand_of (as_operand x) ≡ x
unfolding operand_of as_operand
operand-back (I.number minus size) = refl
operand-back (I.address n) = refl

base_back : (b : I.Base) → base_of (as_base b) ≡ b
unfolding base_of as_base
base_back = elim [ I.none ↦ refl | I.P ↦ refl | I.G ↦ refl ]

-- the item with a string's characters blanked
abbrev blanked : I.Item → I.Item
blanked (I.label n) = I.label n
blanked (I.instruction f i b x) = I.instruction f i b x
blanked (I.constant x) = I.constant x
blanked (I.string cs) = I.string (blank (length cs))
blanked (I.global n m) = I.global n m

blank-item : (i : I.Item) → item_of blank (as_item i) ≡ blanked i
unfolding item_of as_item
blank-item (I.label n) = refl
blank-item (I.instruction f i b x) = rw (base_back b, operand-back x)
blank-item (I.constant x) = rw (operand-back x)
blank-item (I.string cs) = refl
blank-item (I.global n m) = refl

-- the item with its characters found again
pub item_back : (letters : ℕ → List ℕ) (i : I.Item) → ((cs : List ℕ) → i ≡ I.string cs → letters (length cs) ≡ cs) → item_of letters (as_item i) ≡ i
unfolding item_of as_item
item_back letters (I.label n) h = refl
item_back letters (I.instruction f i b x) h = rw (base_back b, operand-back x)
item_back letters (I.constant x) h = rw (operand-back x)
item_back letters (I.string cs) h = ap I.string (h cs refl)
item_back letters (I.global n m) h = refl

size-blanked : (i : I.Item) → size (blanked i) ≡ size i
unfolding size
size-blanked =
    elim [ I.label n ↦ refl | I.instruction f i b x ↦ refl | I.constant x ↦ refl | I.string cs ↦ rw length-replicate | I.global n m ↦ refl ]

pub size-blank : (i : I.Item) → size (item_of blank (as_item i)) ≡ size i
size-blank i = rw (blank-item i) (size-blanked i)

noted-blanked : (at : ℕ) (labels : List Label) (i : I.Item) → noted at labels (blanked i) ≡ noted at labels i
unfolding noted
noted-blanked at labels = elim [ I.label n ↦ refl | I.instruction f i b x ↦ refl | I.constant x ↦ refl | I.string cs ↦ refl | I.global n m ↦ refl ]

pub noted-blank : (at : ℕ) (labels : List Label) (i : I.Item) → noted at labels (item_of blank (as_item i)) ≡ noted at labels i
noted-blank at labels i = rw (blank-item i) (noted-blanked at labels i)

module _ (memory room at : ℕ) (labels : List Label) where
  fault-blanked : (i : I.Item) → fault memory room at labels (blanked i) ≡ fault memory room at labels i
  unfolding fault in_range misplaced
  fault-blanked (I.label n) = refl
  fault-blanked (I.instruction f i b x) = refl
  fault-blanked (I.constant x) = refl
  fault-blanked (I.string cs) = rw (size-blanked (I.string cs))
  fault-blanked (I.global n m) = refl

  pub fault-blank : (i : I.Item) → fault memory room at labels (item_of blank (as_item i)) ≡ fault memory room at labels i
  fault-blank i = rw (blank-item i) (fault-blanked i)

-- ---- an item that was read at a place: the code's, and the definitions'

pub record Reads (text : List ℕ) (from place : ℕ) (item : Item) (past : ℕ) : Type 0 where
  pub read : I.Item
  pub same : item ≡ as_item read
  pub goes_on_lem : body 0 from (drop from text) ≡ goes_on place read (body 0 past (drop past text))
  pub onward : from < past
  pub within : past ≤ length text
  pub sound : Sound read
  pub spelled : (cs : List ℕ) → read ≡ I.string cs → Quoting text (place + 2) × (letters text (place + 2) ≡ cs) × (place + 2 ≤ length text)

sound-item : (i : I.Item) → G.Sound i → Sound i
sound-item (I.label n) h = tt
sound-item (I.instruction f i b x) h = h.eight
sound-item (I.constant x) h = tt
sound-item (I.string cs) h = h.short
sound-item (I.global n m) h = tt

spelled-string : (text : List ℕ) (place : ℕ) {cs : List ℕ} → G.Between (drop place text) cs
    → Quoting text place × (letters text place ≡ cs) × (place ≤ length text)
unfolding letters
spelled-string text place {cs} b =
    let c : Closed 255 0 (length (drop place text)) cs b.width = is-closed 34 255 0 (drop place text) b.reading in
    let l : length (drop place text) ≡ length text - place = length-drop place text in
    (record { width = b.width; reads = rw b.reading }, rw b.reading, omega arith)

module _ (text : List ℕ) (from : ℕ) {r : Next} (p : r ≡ as_next (N.next_in text from)) where
  pub reads-one : {place : ℕ} {item : Item} {past : ℕ} → r ≡ M.One place item past → Reads text from place item past
  reads-one {place} {item} {past} q = let o : OneRead (N.next_in text from) place item past = when-one (N.next_in text from) p q in
      let g : G.NextGiven text from place o.value past = G.next-given text from o.next in
      record {
        read = o.value;
        same = o.same;
        goes_on_lem = body-next text from ∙ ap (on_next text) o.next;
        onward = omega (arith, g.from, g.some);
        within = g.within;
        sound = sound-item o.value g.stands.sound;
        spelled = λ cs f. spelled-string text (place + 2) (G.next-string text from (rw f at o.next));
      }

  pub reads_whole : r ≡ M.Whole → body 0 from (drop from text) ≡ ends whole
  reads_whole q = body-next text from ∙ rw (when_whole (N.next_in text from) p q)

  pub reads-not : {place : ℕ} → r ≡ M.Unreadable place → body 0 from (drop from text) ≡ ends (unreadable place)
  reads-not q = body-next text from ∙ rw (when-unreadable (N.next_in text from) p q)

-- ---- where the items begin

module _ (text : List ℕ) {r : Result ℕ Unreadable} (p : r ≡ as_start (N.start_in text)) where
  pub begins : {place : ℕ} → r ≡ Ok place → scan text ≡ body 0 place (drop place text)
  begins q = scan-start text ∙ rw (when-from (N.start_in text) p q)

  pub begins-not : {u : Unreadable} → r ≡ Err u → scan text ≡ ends (unreadable u.place)
  begins-not q = scan-start text ∙ rw (when-not-begun (N.start_in text) p q)
