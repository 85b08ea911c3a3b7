-- A scan one item at a time: what stands next at a place of a text, its gap passed over.
use Rattle.std.specs.Prelude.{ℕ, ◌+◌, Bool, false, cond, List, drop, eqb}
use Rattle.items.specs.Item.{Item}
use Rattle.items.specs.Reader.{Got, got, nothing, head}
use Rattle.items.specs.Read.{item}
use Rattle.items.specs.Scan.{gaps, Ending, unreadable, mark, trailing}

-- an item with its place and the place past it, or how the text ends
pub data Next : Type 0 where
  one : (place : ℕ) → Item → (past : ℕ) → Next
  over : Ending → Next

abbrev pub one_of : ℕ → Got Item → Next
one_of place (got i n) = one place i (place + n)
one_of place nothing = over (unreadable place)

abbrev pub last_of : ℕ → Got Bool → List ℕ → Next
last_of place (got _ n) bytes = over (trailing (place + n) (drop n bytes))
last_of place nothing bytes = over (unreadable place)

-- what stands at a place that is past a gap
unfoldable pub element_at : (place : ℕ) → List ℕ → Next
element_at place bytes =
    cond (eqb (head bytes) 90) (last_of place (mark 90 bytes) bytes)
    (one_of place (item bytes))

unfoldable pub next_in : List ℕ → ℕ → Next
next_in text at = element_at (at + gaps false (drop at text)) (drop (at + gaps false (drop at text)) text)

-- where the items begin: past $
pub data Start : Type 0 where
  from : ℕ → Start
  not : (place : ℕ) → Start

abbrev pub start_of : ℕ → Got Bool → Start
start_of place (got _ n) = from (place + n)
start_of place nothing = not place

unfoldable pub start_in : List ℕ → Start
start_in text = start_of (gaps false text) (mark 36 (drop (gaps false text) text))
