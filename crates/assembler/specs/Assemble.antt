-- What `assemble` answers and leaves in the lent memory and label table (document 01, "Start", "Assembly text", "Refusal numbers").
use Rattle.std.specs.Prelude.{ℕ, ◌-◌, not, cond, ◌&&◌, ◌≡◌, List, [], ◌∷◌, ◌++◌, length, set, replicate, eqb, leb}
use Rattle.std.specs.Prelude.{Option, Some, None, Result, Ok, Err}
use Rattle.words.specs.Globals.{no_globals}
use Rattle.text.specs.Line.{refusal}
use Rattle.text.specs.declared.Refusal.{Refusal}
use Rattle.items.specs.Item.{Item, label, instruction, constant, string, global, Placed}
use Rattle.items.specs.Scan.{Ending, whole, unreadable, Scan, scan}
use Rattle.assembler.specs.Words.{words}
use Rattle.assembler.specs.Layout.{vacant, defined, address_of, Laid, laid, refused, lay, unknowns}
use Rattle.assembler.specs.declared.Label.{Label}

-- words 0 to 7, and the eight zeros after them
abbrev pub start : List ℕ
start = 5121 ∷ 49154 ∷ 57366 ∷ 57371 ∷ 57348 ∷ 6146 ∷ 57372 ∷ 57348 ∷ 0 ∷ 0 ∷ 0 ∷ 0 ∷ 0 ∷ 0 ∷ 0 ∷ 0 ∷ []

-- the last G for a number counts
unfoldable pub globals_after : List Label → List ℕ → Item → List ℕ
globals_after labels gs (label n) = gs
globals_after labels gs (instruction f i b x) = gs
globals_after labels gs (constant x) = gs
globals_after labels gs (string cs) = gs
globals_after labels gs (global n m) = set gs n (address_of labels m)

unfoldable pub globals : List Label → List ℕ → List Placed → List ℕ
globals labels gs [] = gs
globals labels gs (p ∷ ps) = globals labels (globals_after labels gs p.item) ps

-- the program words of the items, one after another
unfoldable pub program : List Label → List Placed → List ℕ
program labels [] = []
program labels (p ∷ ps) = words (address_of labels) p.item ++ program labels ps

-- words 0 to 415, program words from 416, and zeros after them up to the memory's length
unfoldable pub image : ℕ → List Label → List Placed → ℕ → List ℕ
image memory labels items end = start ++ globals labels no_globals items ++ program labels items ++ replicate (memory - end) 0

-- the answer, the memory and the label table
pub record Assembly : Type 0 where
  pub answer : Result ℕ Refusal
  pub memory : List ℕ
  pub table : List Label

module _ (text : List ℕ) (memory room : ℕ) where
  -- refused: memory and label table are all zeros
  unfoldable pub refuse : (number place : ℕ) → Assembly
  refuse number place = record { answer = Err (refusal text number place); memory = replicate memory 0; table = replicate room vacant }

  -- accepted: labels in text order in the table, and the first stack word
  unfoldable pub accept : List Label → (end : ℕ) → List Placed → Assembly
  accept labels end items =
      record {
        answer = Ok end;
        memory = image memory labels items end;
        table = labels ++ replicate (room - length labels) vacant;
      }

  -- 22 by first use, once nothing else is refused
  abbrev pub on_unknowns : List ℕ → List Label → ℕ → List Placed → Assembly
  on_unknowns [] labels end items = accept labels end items
  on_unknowns (place ∷ places) labels end items = refuse 22 place

  abbrev pub on_ending : Ending → List Label → ℕ → List Placed → Assembly
  on_ending (unreadable place) labels end items = refuse 20 place
  on_ending whole labels end items = on_unknowns (unknowns labels items) labels end items

  abbrev pub on_laid : Laid → Scan → Assembly
  on_laid (refused number place) s = refuse number place
  on_laid (laid labels end) s = on_ending s.ending labels end s.items

  -- memory of a length outside 512 to 32,768 is refused 24 at 0; then text order
  unfoldable pub assembled : Assembly
  assembled =
      cond (leb 512 memory && leb memory 32768)
      (on_laid (lay memory room 416 [] (scan text).items) (scan text))
      (refuse 24 0)

-- a label's address in a table, if it is there; 0 is no label's number, but that of the vacant records
unfoldable pub looked_up : List Label → ℕ → Option ℕ
looked_up table n = cond (defined table n && not (eqb n 0)) (Some (address_of table n)) None

-- document 01's numbers of an answer: 0, the first stack word, and no line; or the refusal's number, byte place and line
abbrev pub numbers : Result ℕ Refusal → List ℕ
numbers (Ok first) = 0 ∷ first ∷ 0 ∷ []
numbers (Err r) = r.number ∷ r.place ∷ r.line ∷ []

-- what the function answers and leaves is what the definition gives
pub record Assembles (text memory : List ℕ) (table : List Label) (answer : Result ℕ Refusal) (memory' : List ℕ) (table' : List Label) : Type 0 where
  pub answers : answer ≡ (assembled text (length memory) (length table)).answer
  pub tells : numbers answer ≡ numbers (assembled text (length memory) (length table)).answer
  pub fills : memory' ≡ (assembled text (length memory) (length table)).memory
  pub tables : table' ≡ (assembled text (length memory) (length table)).table
