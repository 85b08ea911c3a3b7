-- The rules on the compiler's text: labels, placement, refusals and sizes (document 01, "Places" and "Refusal numbers").
use Rattle.std.specs.Prelude.{ℕ, suc, ◌+◌, ◌*◌, ◌≤◌, ◌<◌, ◌≡◌, Bool, true, false, cond, ◌⊎◌, List, [], ◌∷◌, length, get_or, take, drop}
use Rattle.text.specs.declared.Refusal.{Refusal}
use Rattle.items.specs.Item.{Item, label, instruction, constant, string, global, Placed}
use Rattle.items.specs.Scan.{scan}
use Rattle.text.specs.Packed.{packed}
use Rattle.assembler.specs.Words.{size}
use Rattle.assembler.specs.Layout.{defined}
use Rattle.assembler.specs.Assemble.{assembled}
use Rattle.assembler.specs.declared.Label.{Label}
use Rattle.std.specs.Prelude.{Ok, Err}
use Rattle.language.specs.Symbols as Y
use Rattle.language.specs.Whole.{functions_in, strings_in}
use Rattle.language.specs.Run.{Placement}
use Rattle.code.specs.Faithful.{placement_of}

-- how many words the strings have
unfoldable pub string_words : List (List ℕ) → ℕ
string_words [] = 0
string_words (cs ∷ strings) = length (packed cs) + string_words strings

-- ---- the placement, wherever the text is assembled
pub record WellPlaced (source : List ℕ) (place : Placement) (table : List Label) (image : List ℕ) : Type 0 where
  -- every function and every string has its label
  pub labelled : (n : ℕ) → 1 ≤ n → n ≤ length (functions_in source) + length (strings_in source) → defined table n ≡ true
  -- entries differ, from 3 and 5 too
  pub entries_differ : (i j : ℕ) → i < length place.entries → j < length place.entries
      → get_or place.entries i 0 ≡ get_or place.entries j 0 → i ≡ j
  pub not_read : (i : ℕ) → i < length place.entries → get_or place.entries i 0 ≡ 3 → ⊥
  pub not_write : (i : ℕ) → i < length place.entries → get_or place.entries i 0 ≡ 5 → ⊥
  -- strings lie between the globals and the stack, each whole and in place, and overlap neither each other nor global or stack words
  pub above : (i : ℕ) → i < length place.strings → 416 ≤ get_or place.strings i 0
  pub below : (i : ℕ) → i < length place.strings → get_or place.strings i 0 + length (packed (get_or (strings_in source) i [])) ≤ place.first
  pub in_place : (i : ℕ) → i < length place.strings
      → take (length (packed (get_or (strings_in source) i []))) (drop (get_or place.strings i 0) image) ≡ packed (get_or (strings_in source) i [])
  pub apart : (i j : ℕ) → i < j → j < length place.strings
      → (get_or place.strings i 0 + length (packed (get_or (strings_in source) i [])) ≤ get_or place.strings j 0)
      ⊎ (get_or place.strings j 0 + length (packed (get_or (strings_in source) j [])) ≤ get_or place.strings i 0)

-- ---- sizes: "it makes at most 8 program words a source symbol plus 16, a string's own words apart, and a label a byte plus 8", and the
-- text is "at most 64 bytes a source byte plus 1,024". An inserted semicolon is no source symbol

abbrev pub is_label : Item → Bool
is_label (label n) = true
is_label (instruction f i b x) = false
is_label (constant x) = false
is_label (string cs) = false
is_label (global n m) = false

unfoldable pub label_count : List Placed → ℕ
label_count [] = 0
label_count (p ∷ ps) = cond (is_label p.item) (suc (label_count ps)) (label_count ps)

-- the words that the items of a text make, whether or not they fit a memory
unfoldable pub word_count : List Placed → ℕ
word_count [] = 0
word_count (p ∷ ps) = size p.item + word_count ps

-- ---- all the rules
pub record Proper (source text : List ℕ) : Type 0 where
  pub well_placed : (memory room first : ℕ) → (assembled text memory room).answer ≡ Ok first
      → WellPlaced source (placement_of source (assembled text memory room).table first) (assembled text memory room).table
      (assembled text memory room).memory
  pub few_words : word_count (scan text).items ≤ 8 * length (Y.scan source).symbols + 16 + string_words (strings_in source)
  pub few_labels : label_count (scan text).items ≤ length source + 8
  pub short : length text ≤ 64 * length source + 1024
  -- what the compiler writes is refused only by 24 or 25
  pub refused_only : (memory room : ℕ) (r : Refusal) → (assembled text memory room).answer ≡ Err r → (r.number ≡ 24) ⊎ (r.number ≡ 25)
