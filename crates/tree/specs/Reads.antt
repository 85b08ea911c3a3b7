-- What the functions of the reader ask and ensure.
-- Each takes the state of the reading so far and gives the next one; a refusal is passed on as it is.
use Rattle.std.specs.Prelude.{ℕ, ◌+◌, ◌*◌, ◌-◌, ◌≤◌, ◌<◌, ◌^◌, ◌≡◌, List, [], ◌∷◌, ◌++◌, length, take, get_or, set}
use Rattle.text.specs.Faults.{number_of}
use Rattle.text.specs.declared.faults.Fault.{Fault}
use Rattle.language.specs.Reader.{Source, Out, ok, no, Reader, kind_at, value_at, place_at}
use Rattle.tree.specs.declared.scratch.State.{State}
use Rattle.tree.specs.declared.scratch.State.TheVariants.{Read, Refused}

-- the source's symbols, which are n, stand at the front of scratch: kind, value and place of each
pub record HoldsSymbols (src : Source) (n : ℕ) (s : List ℕ) : Type 0 where
  pub count : length src.symbols ≡ n
  pub kinds : (i : ℕ) → i < n → get_or s (i * 3) 0 ≡ kind_at src i
  pub values : (i : ℕ) → i < n → get_or s (i * 3 + 1) 0 ≡ value_at src i
  pub places : (i : ℕ) → i < n → get_or s (i * 3 + 2) 0 ≡ place_at src i

-- the position of the next symbol, the next free entry, and how far the tree may still reach: five entries for each symbol left
unfoldable pub next_of : State → ℕ
next_of (Read next free) = next
next_of (Refused fault at) = 0

unfoldable pub free_of : (size : ℕ) → State → ℕ
free_of size (Read next free) = free
free_of size (Refused fault at) = size

unfoldable pub reach : (n : ℕ) → State → ℕ
reach n (Read next free) = free + 5 * (n - next)
reach n (Refused fault at) = 0

-- the next free entry, where the symbols' end stands for that of a refusal
unfoldable pub low_of : (n : ℕ) → State → ℕ
low_of n (Read next free) = free
low_of n (Refused fault at) = n * 3

-- 1, and 0 for a refusal
unfoldable pub live : State → ℕ
live (Read next free) = 1
live (Refused fault at) = 0

-- n symbols stand at the front of scratch, the tree behind them, and m entries more than the tree needs are free
pub record Ready (m : ℕ) (s : List ℕ) (n : ℕ) (r : State) : Type 0 where
  pub placed : next_of r ≤ n
  pub above : n * 3 ≤ low_of n r
  pub room : reach n r + m ≤ length s
  pub wide : n * 3 + 64 ≤ length s
  pub small : length s < 2 ^ 32

-- from r to r' the symbols stay, and the tree leaves k entries free of those that the symbols read allow it
pub record LeavesRoom (k : ℕ) (s s' : List ℕ) (n : ℕ) (r r' : State) : Type 0 where
  pub placed : next_of r' ≤ n
  pub above : n * 3 ≤ low_of n r'
  pub leaves : reach n r' + live r' * k ≤ reach n r
  pub lives : live r' ≤ live r
  pub dead : reach n r' ≤ live r' * 2 ^ 32
  pub kept : take (n * 3) s' ≡ take (n * 3) s

-- the same, where something is written that no symbol is read for: at most m entries
pub record TakesRoom (m : ℕ) (s s' : List ℕ) (n : ℕ) (r r' : State) : Type 0 where
  pub placed : next_of r' ≤ n
  pub above : n * 3 ≤ low_of n r'
  pub more : reach n r' ≤ reach n r + live r' * m
  pub lives : live r' ≤ live r
  pub dead : reach n r' ≤ live r' * 2 ^ 32
  pub kept : take (n * 3) s' ≡ take (n * 3) s

-- what stands at the state's position
pub record Here (what : ℕ → ℕ) (n : ℕ) (r : State) (x : ℕ) : Type 0 where
  pub here : (at free : ℕ) → r ≡ Read at free → at < n → x ≡ what at

pub record KindHere (src : Source) (r : State) (kind : ℕ) : Type 0 where
  pub here : (at free : ℕ) → r ≡ Read at free → kind ≡ kind_at src at

-- what is read from free on: a tree, and the words written for it
pub record Wrote {A : Type 0} (out : Out A) (Says : A → List ℕ → Type 0) (free : ℕ) (s s' : List ℕ) (next nf : ℕ) : Type 0 where
  pub tree : A
  pub words : List ℕ
  pub is : out ≡ ok tree next
  pub says : Says tree words
  pub written : take nf s' ≡ take free s ++ words
  pub size : nf ≡ free + length words

abbrev pub FollowsBy : {A : Type 0} → (ℕ → Out A) → (A → List ℕ → Type 0) → List ℕ → List ℕ → State → State → Type 0
FollowsBy read Says s s' (Refused fault at) r' = r' ≡ Refused fault at
FollowsBy read Says s s' (Read at free) (Refused fault p) = read at ≡ no (number_of fault) p
FollowsBy read Says s s' (Read at free) (Read next nf) = Wrote (read at) Says free s s' next nf

-- from r to r' is read what `read` says, and what is written for it says so; a refusal stays
pub record Follows {A : Type 0} (read : ℕ → Out A) (Says : A → List ℕ → Type 0) (s s' : List ℕ) (r r' : State) : Type 0 where
  pub by : FollowsBy read Says s s' r r'

-- a tree's words are its own form
pub record Encodes {A : Type 0} (enc : A → List ℕ) (a : A) (words : List ℕ) : Type 0 where
  pub same : words ≡ enc a

-- an item's words stand before those of the items after it
pub record Prepends {A : Type 0} (enc : A → List ℕ) (put : A → A) (words : List ℕ) : Type 0 where
  pub puts : (rest : A) → enc (put rest) ≡ words ++ enc rest
  pub some : 0 < length words

-- a tree is read and written in its own form
abbrev pub Reads : {A : Type 0} → (ℕ → Out A) → (A → List ℕ) → List ℕ → List ℕ → State → State → Type 0
Reads read enc s s' r r' = Follows read (Encodes enc) s s' r r'

-- what a reader ensures: of the room, and of every source whose symbols stand in scratch
abbrev pub Reading : {A : Type 0} → (k : ℕ) → Reader A → (A → List ℕ → Type 0) → List ℕ → List ℕ → (n : ℕ) → State → State → Type 0
Reading k read Says s s' n r r' = LeavesRoom k s s' n r r' × ((src : Source) → HoldsSymbols src n s → Follows (read src) Says s s' r r')

-- the same where a symbol of that kind stands first
abbrev pub ReadingAt : {A : Type 0} → (kind k : ℕ) → Reader A → (A → List ℕ → Type 0) → List ℕ → List ℕ → (n : ℕ) → State → State → Type 0
ReadingAt kind k read Says s s' n r r' =
    LeavesRoom k s s' n r r' × ((src : Source) → HoldsSymbols src n s → KindHere src r kind → Follows (read src) Says s s' r r')

-- a refusal stays
abbrev pub PassesBy : State → State → Type 0
PassesBy (Refused fault at) r' = r' ≡ Refused fault at
PassesBy (Read at free) r' = Unit {0}

pub record Passes (r r' : State) : Type 0 where
  pub by : PassesBy r r'

-- refused with that fault at the state's position
abbrev pub RefusesBy : (fault : Fault) → State → State → Type 0
RefusesBy fault (Refused k p) r' = r' ≡ Refused k p
RefusesBy fault (Read at free) r' = r' ≡ Refused fault at

pub record Refuses (fault : Fault) (r r' : State) : Type 0 where
  pub by : RefusesBy fault r r'

-- words are written behind
abbrev pub AddsBy : (words : ℕ → List ℕ) → List ℕ → List ℕ → State → State → Type 0
AddsBy words s s' (Refused fault at) r' = r' ≡ Refused fault at
AddsBy words s s' (Read at free) r' =
    (r' ≡ Read at (free + length (words free))) × (take (free + length (words free)) s' ≡ take free s ++ words free)

pub record Adds (words : ℕ → List ℕ) (s s' : List ℕ) (r r' : State) : Type 0 where
  pub by : AddsBy words s s' r r'

-- a record behind what stands from lo on
abbrev pub record_from : (lo value place kind : ℕ) → (free : ℕ) → List ℕ
record_from lo v p k free = (free - lo) ∷ v ∷ p ∷ k ∷ []

-- the two entries of a suffix behind what stands from lo on
abbrev pub behind_from : (lo tag : ℕ) → (free : ℕ) → List ℕ
behind_from lo tag free = (free - lo) ∷ tag ∷ []

-- the item that begins at lo has its size set
abbrev pub SetsSizeBy : (lo : ℕ) → List ℕ → List ℕ → State → Type 0
SetsSizeBy lo s s' (Refused fault at) = Unit {0}
SetsSizeBy lo s s' (Read at free) = take free s' ≡ set (take free s) lo (free - lo - 2)

pub record SetsSize (lo : ℕ) (s s' : List ℕ) (r : State) : Type 0 where
  pub by : SetsSizeBy lo s s' r
