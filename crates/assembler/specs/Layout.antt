-- Where the items stand: labels with their addresses, and the first refusal in text order.
use Rattle.std.specs.Prelude.{ℕ, zero, suc, ◌+◌, Bool, true, false, cond, List, [], ◌∷◌, ◌++◌, length, eqb, leb, ltb}
use Rattle.items.specs.Item.{Operand, number, address, Item, label, instruction, constant, string, global, Placed}
use Rattle.assembler.specs.Words.{in_range, size}
use Rattle.assembler.specs.declared.Label.{Label}

-- the record of no label: labels' numbers begin at 1
abbrev pub vacant : Label
vacant = record { number = 0; address = 0 }

-- whether a label is in the table, and its address there
unfoldable pub defined : List Label → ℕ → Bool
defined [] n = false
defined (l ∷ ls) n = cond (eqb l.number n) true (defined ls n)

unfoldable pub address_of : List Label → ℕ → ℕ
address_of [] n = 0
address_of (l ∷ ls) n = cond (eqb l.number n) l.address (address_of ls n)

-- the table after an item that stands at an address
unfoldable pub noted : (at : ℕ) → List Label → Item → List Label
noted at labels (label n) = labels ++ (record { number = n; address = at } ∷ [])
noted at labels (instruction f i b x) = labels
noted at labels (constant x) = labels
noted at labels (string cs) = labels
noted at labels (global n m) = labels

-- the labels in text order and the address past the last item, or the first refusal
pub data Laid : Type 0 where
  laid : (labels : List Label) (end : ℕ) → Laid
  refused : (number place : ℕ) → Laid

abbrev pub on_fault : ℕ → (place : ℕ) → Laid → Laid
on_fault zero place other = other
on_fault (suc k) place other = refused (suc k) place

-- in a memory of so many words, with room for so many labels
module _ (memory room : ℕ) where
  -- a label twice or beyond the table, or an image too long; 0 for neither
  unfoldable pub misplaced : (at : ℕ) → List Label → Item → ℕ
  misplaced at labels (label n) = cond (defined labels n) 21 (cond (leb room (length labels)) 25 0)
  misplaced at labels (instruction f i b x) = cond (ltb memory (at + size (instruction f i b x))) 24 0
  misplaced at labels (constant x) = cond (ltb memory (at + size (constant x))) 24 0
  misplaced at labels (string cs) = cond (ltb memory (at + size (string cs))) 24 0
  misplaced at labels (global n m) = 0

  -- the refusal of an item that is to stand at an address, after the labels so far. A label out of range is not looked up
  unfoldable pub fault : (at : ℕ) → List Label → Item → ℕ
  fault at labels i = cond (in_range i) (misplaced at labels i) 23

  unfoldable pub lay : (at : ℕ) → List Label → List Placed → Laid
  lay at labels [] = laid labels at
  lay at labels (p ∷ ps) =
      on_fault (fault at labels p.item) p.place
      (lay (at + size p.item) (noted at labels p.item) ps)

-- the label that an item uses; 0, which is no label, for none
abbrev pub used_by : Operand → ℕ
used_by (number minus size) = 0
used_by (address n) = n

unfoldable pub uses : Item → ℕ
uses (label n) = 0
uses (instruction f i b x) = used_by x
uses (constant x) = used_by x
uses (string cs) = 0
uses (global n m) = m

-- whether an item's label, if it uses one, is in the table
unfoldable pub known : List Label → Item → Bool
known labels i = cond (eqb (uses i) 0) true (defined labels (uses i))

-- the places of the items that use a label that is not defined
unfoldable pub unknowns : List Label → List Placed → List ℕ
unknowns labels [] = []
unknowns labels (p ∷ ps) = cond (known labels p.item) (unknowns labels ps) (p.place ∷ unknowns labels ps)
