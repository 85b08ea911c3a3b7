-- A text's items from `$` to `Z`, each with its place, and where reading stopped if it did.
use Rattle.std.specs.Prelude.{ℕ, zero, suc, ◌+◌, ◌-◌, Bool, true, false, not, cond, List, [], ◌∷◌, length, drop, eqb}
use Rattle.items.specs.Item.{Item, Placed}
use Rattle.items.specs.Reader.{Got, got, nothing, Reader, ◌>>=◌, byte}
use Rattle.items.specs.Read.{ended, item}

-- the number of bytes at the head that are blanks, newlines and comments; a comment runs from / to the line's end
unfoldable pub gaps : (comment : Bool) → List ℕ → ℕ
gaps comment [] = 0
gaps true (c ∷ r) = suc (gaps (not (eqb c 10)) r)
gaps false (c ∷ r) =
    cond (eqb c 32) (suc (gaps false r))
    (cond (eqb c 10) (suc (gaps false r))
    (cond (eqb c 47) (suc (gaps true r))
    0))

-- the text is whole, or refused 20 at a place: an item that cannot be read, or one that is wanted there
pub data Ending : Type 0 where
  whole : Ending
  unreadable : (place : ℕ) → Ending

pub record Scan : Type 0 where
  pub items : List Placed
  pub ending : Ending

abbrev pub ends : Ending → Scan
ends e = record { items = []; ending = e }

abbrev pub goes_on : ℕ → Item → Scan → Scan
goes_on place i s = record { items = record { place = place; item = i } ∷ s.items; ending = s.ending }

-- $ or Z, which end as items do
unfoldable pub mark : ℕ → Reader Bool
mark c = do
  _ ← byte c
  ended

-- nothing but blanks, newlines and comments stands after Z
unfoldable pub trailing : (place : ℕ) → List ℕ → Ending
trailing place bytes = cond (eqb (gaps false bytes) (length bytes)) whole (unreadable (place + gaps false bytes))

abbrev pub on_last : (place : ℕ) → Got Bool → List ℕ → Scan
on_last place (got _ n) bytes = ends (trailing (place + n) (drop n bytes))
on_last place nothing bytes = ends (unreadable place)

abbrev pub on_item : (place : ℕ) → Got Item → (ℕ → Scan) → Scan
on_item place (got i n) more = goes_on place i (more (n - 1))
on_item place nothing more = ends (unreadable place)

abbrev pub on_gap : ℕ → (ℕ → Scan) → Scan → Scan
on_gap zero more other = other
on_gap (suc k) more other = more k

-- from past `$` on; `over` is the number of bytes at the head that belong to the gap or the item before them
unfoldable pub body : (over place : ℕ) → List ℕ → Scan
body over place [] = ends (unreadable place)
body (suc k) place (c ∷ r) = body k (suc place) r
body zero place (c ∷ r) =
    on_gap (gaps false (c ∷ r)) (λ k. body k (suc place) r)
    (cond (eqb c 90) (on_last place (mark 90 (c ∷ r)) (c ∷ r))
    (on_item place (item (c ∷ r)) (λ k. body k (suc place) r)))

abbrev pub on_first : (place : ℕ) → Got Bool → List ℕ → Scan
on_first place (got _ n) bytes = body 0 (place + n) (drop n bytes)
on_first place nothing bytes = ends (unreadable place)

-- the first item is $
unfoldable pub scan : List ℕ → Scan
scan text = on_first (gaps false text) (mark 36 (drop (gaps false text) text)) (drop (gaps false text) text)
