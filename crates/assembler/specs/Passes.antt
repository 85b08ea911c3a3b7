-- What the parts of `assemble` give: the code's items as the definitions have them, an index as records, and
-- what each pass answers and leaves.
use Rattle.std.specs.Prelude.{ℕ, zero, suc, ◌+◌, ◌-◌, ◌/◌, ◌<◌, ◌≤◌, true, false, cond, ◌≡◌, List, [], ◌∷◌, ◌++◌, length, set}
use Rattle.std.specs.Prelude.{replicate, take, drop, leb, ltb, Option, Some, None, Result, Ok, Err}
use Rattle.std.proofs.lemmas.List.Edits.{sets}
use Rattle.text.specs.declared.Refusal.{Refusal}
use Rattle.text.specs.declared.faults.Fault.{Fault}
use Rattle.text.specs.declared.faults.Fault.TheVariants as F
use Rattle.text.specs.Faults.{number_of}
use Rattle.text.specs.Quoted.{closed, characters_of, quoted}
use Rattle.items.specs.Item as I
use Rattle.items.specs.Scan.{Ending, whole, unreadable, Scan}
use Rattle.items.specs.declared.Operand.{Operand}
use Rattle.items.specs.declared.Operand.TheVariants as O
use Rattle.items.specs.declared.Base.{Base}
use Rattle.items.specs.declared.Base.TheVariants as B
use Rattle.items.specs.declared.Item.{Item}
use Rattle.items.specs.declared.Item.TheVariants as C
use Rattle.assembler.specs.Words.{in_range, signed, size, words}
use Rattle.assembler.specs.Layout.{vacant, defined, address_of, noted, Laid, laid, refused, lay, known, unknowns}
use Rattle.assembler.specs.Assemble.{Assembly, refuse, numbers}
use Rattle.assembler.specs.declared.Label.{Label}
use Rattle.assembler.specs.declared.Faulted.{Faulted}
use Rattle.assembler.specs.declared.Index.{Index}

-- the code's items as the definitions' ones; a string's characters, which the code does not hold, are given by their number
unfoldable pub operand_of : Operand → I.Operand
operand_of (O.Number minus size) = I.number minus size
operand_of (O.Address n) = I.address n

unfoldable pub base_of : Base → I.Base
base_of B.Plain = I.none
base_of B.P = I.P
base_of B.G = I.G

unfoldable pub item_of : (ℕ → List ℕ) → Item → I.Item
item_of cs (C.Label n) = I.label n
item_of cs (C.Instruction f i b x) = I.instruction f i (base_of b) (operand_of x)
item_of cs (C.Constant x) = I.constant (operand_of x)
item_of cs (C.String n) = I.string (cs n)
item_of cs (C.Global n m) = I.global n m

-- where only a string's length matters
abbrev pub blank : ℕ → List ℕ
blank n = replicate n 0

unfoldable pub as_found : List Label → ℕ → Option ℕ
as_found labels n = cond (defined labels n) (Some (address_of labels n)) None

-- the records that an index stands for, by number: it has the address of each number from `n` on, and 0 for none
unfoldable pub listed_from : (n : ℕ) → List ℕ → List Label
listed_from n [] = []
listed_from n (zero ∷ index) = listed_from (suc n) index
listed_from n (suc a ∷ index) = record { number = n; address = suc a } ∷ listed_from (suc n) index

abbrev pub listed : Index → List Label
listed index = listed_from 0 index.addresses

abbrev pub no_index : Index
no_index = record { addresses = replicate 32768 0; count = 0 }

-- an index has as many labels as some records, and tells the same of every number
pub record Indexes (index : Index) (labels : List Label) : Type 0 where
  pub sized : length index.addresses ≡ 32768
  pub counts : length (listed index) ≡ length labels
  pub tells : (n : ℕ) → as_found (listed index) n ≡ as_found labels n

-- the two causes of `misplaced`
abbrev pub label_fault : (room : ℕ) → List Label → ℕ → ℕ
label_fault room labels n = cond (defined labels n) 21 (cond (leb room (length labels)) 25 0)

abbrev pub beyond : (memory at words : ℕ) → ℕ
beyond memory at words = cond (ltb memory (at + words)) 24 0

-- document 01's number of what the code finds: 0 for no fault
abbrev pub fault_number : Result (Unit {0}) Fault → ℕ
fault_number (Ok u) = 0
fault_number (Err f) = number_of f

-- ---- the first pass

-- the first `count` records are labels', and the others are vacant
pub record Table (count : ℕ) (table : List Label) : Type 0 where
  pub fits : count ≤ length table
  pub others : table ≡ take count table ++ replicate (length table - count) vacant

-- an item that is a label has a record, and a number that an index has and that is no label's yet
pub record Notable (at : ℕ) (item : Item) (table : List Label) (index : Index) : Type 0 where
  pub tabled : Table index.count table
  pub indexed : Indexes index (take index.count table)
  pub low : (0 < at) × (at < 65536)
  pub free : (n : ℕ) → item ≡ C.Label n → (n < 32768) × (index.count < length table) × (defined (take index.count table) n ≡ false)

-- the table and the index after an item
pub record Notes (at : ℕ) (item : I.Item) (table : List Label) (index : Index) (table' : List Label) (index' : Index) : Type 0 where
  pub same : length table' ≡ length table
  pub tabled : Table index'.count table'
  pub notes : take index'.count table' ≡ noted at (take index.count table) item
  pub indexed : Indexes index' (take index'.count table')

-- a text that ends wrongly is refused where it does, after every fault of its items
unfoldable pub after_ending : Ending → Laid → Laid
after_ending whole o = o
after_ending (unreadable place) (laid labels end) = refused 20 place
after_ending (unreadable place) (refused number first) = refused number first

-- what the pass's answer and the labels say
unfoldable pub laid_by : Result ℕ Faulted → List Label → Laid
laid_by (Ok end) labels = laid labels end
laid_by (Err f) labels = refused (number_of f.fault) f.place

-- the labels are in the table, and the index has the same ones
pub record Lays (memory : ℕ) (s : Scan) (table : List Label) (answer : Result ℕ Faulted) (table' : List Label) (index' : Index) : Type 0 where
  pub same : length table' ≡ length table
  pub answers : laid_by answer (take index'.count table') ≡ after_ending s.ending (lay memory (length table) 416 [] s.items)
  pub tabled : Table index'.count table'
  pub indexed : Indexes index' (take index'.count table')
  pub fits : (end : ℕ) → answer ≡ Ok end → end ≤ memory

-- ---- the second pass

-- an operand's word, if its label is known
unfoldable pub value_of : List Label → I.Operand → Option ℕ
value_of labels (I.number minus size) = Some (signed minus size)
value_of labels (I.address n) = as_found labels n

-- the memory after an item that stands at an address
unfoldable pub put : List Label → (at : ℕ) → List ℕ → I.Item → List ℕ
put labels at memory (I.label n) = memory
put labels at memory (I.instruction f i b x) = sets memory at (words (address_of labels) (I.instruction f i b x))
put labels at memory (I.constant x) = sets memory at (words (address_of labels) (I.constant x))
put labels at memory (I.string cs) = sets memory at (words (address_of labels) (I.string cs))
put labels at memory (I.global n m) = set memory (16 + n) (address_of labels m)

unfoldable pub filled : List Label → (at : ℕ) → List ℕ → List I.Placed → List ℕ
filled labels at memory [] = memory
filled labels at memory (p ∷ ps) = filled labels (at + size p.item) (put labels at memory p.item) ps

-- what reading ensures of an item
abbrev pub Sound : I.Item → Type 0
Sound (I.label n) = Unit {0}
Sound (I.instruction f i b x) = f < 8
Sound (I.constant x) = Unit {0}
Sound (I.string cs) = length cs ≤ 255
Sound (I.global n m) = Unit {0}

-- an item can be written at an address
pub record Writable (i : I.Item) (at : ℕ) (memory : List ℕ) : Type 0 where
  pub sound : Sound i
  pub ranged : in_range i ≡ true
  pub fits : at + size i ≤ length memory
  pub globals : 416 ≤ length memory

pub record Writes (labels : List Label) (i : I.Item) (at : ℕ) (memory : List ℕ) (answer : Option ℕ) (memory' : List ℕ) : Type 0 where
  pub same : length memory' ≡ length memory
  pub answers : answer ≡ cond (known labels i) (Some (at + size i)) None
  pub writes : known labels i ≡ true → memory' ≡ put labels at memory i

-- the characters between double quotes from a place on
unfoldable pub letters : List ℕ → ℕ → List ℕ
letters text place = characters_of (quoted 34 255 0 (drop place text))

pub record Quoting (text : List ℕ) (place : ℕ) : Type 0 where
  pub width : ℕ
  pub reads : quoted 34 255 0 (drop place text) ≡ closed (letters text place) width

-- a string's words fit at an address
pub record Spelling (text : List ℕ) (place high at : ℕ) (memory : List ℕ) : Type 0 where
  pub quoting : Quoting text place
  pub byte : high < 256
  pub fits : at + suc (length (letters text place) / 2) ≤ length memory

-- an item of the text, whose string, if it is one, begins two bytes on
abbrev pub item_at : List ℕ → ℕ → Item → I.Item
item_at text place item = item_of (λ n. letters text (place + 2)) item

pub record Spelled (text : List ℕ) (place : ℕ) (item : Item) : Type 0 where
  pub spelled : (n : ℕ) → item ≡ C.String n → Quoting text (place + 2) × (length (letters text (place + 2)) ≡ n) × (place + 2 ≤ length text)

-- every item is in range and fits
unfoldable pub FitsAll : (memory at : ℕ) → List I.Placed → Type 0
FitsAll memory at [] = Unit {0}
FitsAll memory at (p ∷ ps) = (in_range p.item ≡ true) × (at + size p.item ≤ memory) × FitsAll memory (at + size p.item) ps

unfoldable pub as_written : List ℕ → Result (Unit {0}) Faulted
as_written [] = Ok tt
as_written (place ∷ places) = Err (record { fault = F.UnknownLabel; place = place })

pub record WritesAll (labels : List Label) (s : Scan) (memory : List ℕ) (answer : Result (Unit {0}) Faulted) (memory' : List ℕ) : Type 0 where
  pub same : length memory' ≡ length memory
  pub answers : answer ≡ as_written (unknowns labels s.items)
  pub writes : answer ≡ Ok tt → memory' ≡ filled labels 416 memory s.items

-- ---- both

abbrev pub Zeros : List ℕ → Type 0
Zeros l = l ≡ replicate (length l) 0

abbrev pub Vacant : List Label → Type 0
Vacant l = l ≡ replicate (length l) vacant

-- memory and table before the passes
pub record Ready (memory : List ℕ) (table : List Label) : Type 0 where
  pub least : 512 ≤ length memory
  pub most : length memory ≤ 32768
  pub memory_zeros : Zeros memory
  pub table_vacant : Vacant table

pub record Gives (a : Assembly) (answer : Result ℕ Refusal) (memory : List ℕ) (table : List Label) : Type 0 where
  pub answers : answer ≡ a.answer
  pub fills : memory ≡ a.memory
  pub tables : table ≡ a.table

-- what both passes give of an assembly: all of it, or the fault that it is refused for
abbrev pub Passes : (text : List ℕ) (memory room : ℕ) → Assembly → Result ℕ Faulted → (memory' : List ℕ) (table' : List Label) → Type 0
Passes text memory room a (Ok end) memory' table' = Gives a (Ok end) memory' table'
Passes text memory room a (Err f) memory' table' =
    (length memory' ≡ memory) × (length table' ≡ room) × (a ≡ refuse text memory room (number_of f.fault) f.place)

-- what a program is given that needs no table
pub record Loads (a : Assembly) (answer : Result ℕ Refusal) (memory : List ℕ) : Type 0 where
  pub answers : answer ≡ a.answer
  pub tells : numbers answer ≡ numbers a.answer
  pub fills : memory ≡ a.memory
