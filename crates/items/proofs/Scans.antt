-- A scan of a whole text is the items that `next_in` gives one after another, from where `start_in` says that they begin.
use Rattle.laws.proofs.Basics.{ℕ, zero, suc, ◌+◌, ◌-◌, ◌≤◌, ◌≡◌, refl, ap, ◌∙◌, List, [], ◌∷◌, Bool, true, false, not, cond, length, drop, drop-drop}
use Rattle.laws.proofs.Basics.{eqb, add-zero, arith, add-shift}
use Rattle.laws.proofs.Cases.{by_cases}
use Rattle.items.specs.Item.{Item}
use Rattle.items.specs.Reader.{Got, got, nothing, head}
use Rattle.items.specs.Read.{item, function_of}
use Rattle.items.specs.Scan.{gaps, unreadable, Scan, ends, goes_on, mark, on_last, on_item, body, on_first, scan}
use Rattle.items.specs.Next.{Next, one, over, one_of, last_of, element_at, next_in, Start, from, not as unbegun, start_of, start_in}
use Rattle.items.specs.Parts.{in_gap, in_comment}
use Rattle.items.proofs.Gaps.{gap-byte, gaps-within}
use Rattle.items.proofs.Sound.{Given, Stands, item-given}

abbrev pub on_next : List ℕ → Next → Scan
on_next text (one place i past) = goes_on place i (body 0 past (drop past text))
on_next text (over e) = ends e

abbrev pub on_start : List ℕ → Start → Scan
on_start text (from place) = body 0 place (drop place text)
on_start text (unbegun place) = ends (unreadable place)

-- ---- gaps and bytes passed over

-- no gap follows a gap
pub gaps-passed : (comment : Bool) (bytes : List ℕ) → gaps false (drop (gaps comment bytes) bytes) ≡ 0
unfolding gaps
gaps-passed comment [] = refl
gaps-passed true (c ∷ r) = gaps-passed (not (eqb c 10)) r
gaps-passed false (c ∷ r) = by_cases (in_gap false c)
    (λ t. let e : gaps false (c ∷ r) ≡ suc (gaps (in_comment false c) r) = rw t at (gap-byte false c r) in rw e (gaps-passed (in_comment false c) r))
    (λ t. let e : gaps false (c ∷ r) ≡ 0 = rw t at (gap-byte false c r) in rw e e)

pub body-over : (k place : ℕ) (bytes : List ℕ) → k ≤ length bytes → body k place bytes ≡ body 0 (place + k) (drop k bytes)
unfolding body
body-over zero place bytes h = rw (add-zero place)
body-over (suc k) place [] h = absurd (omega arith)
body-over (suc k) place (c ∷ r) h = rw (add-shift place k) (body-over k (suc place) r (omega arith))

-- ---- one element at a time

-- past a gap
pub body-element : (text bytes : List ℕ) (at : ℕ) → bytes ≡ drop at text → gaps false bytes ≡ 0 → body 0 at bytes ≡ on_next text (element_at at bytes)
unfolding body element_at item head function_of
body-element text [] at e h = refl
body-element text (c ∷ r) at e h = rw h (by (eqb c 90))
  where
    ended : (g : Got Bool) → on_last at g (c ∷ r) ≡ on_next text (last_of at g (c ∷ r))
    ended (got t n) = refl
    ended nothing = refl

    read : (g : Got Item) → item (c ∷ r) ≡ g → on_item at g (λ k. body k (suc at) r) ≡ on_next text (one_of at g)
    read nothing k = refl
    read (got i zero) k = absurd (let g : Given (suc (length r)) 1 (Stands (c ∷ r)) i zero = item-given (c ∷ r) k in omega arith)
    read (got i (suc m)) k = let g : Given (suc (length r)) 1 (Stands (c ∷ r)) i (suc m) = item-given (c ∷ r) k in
        let n : suc m - 1 ≡ m = omega arith in
        let p : suc at + m ≡ at + suc m = omega arith in
        let q : drop m r ≡ drop (at + suc m) text = ap (drop (suc m)) e ∙ drop-drop (suc m) at text in
        ap (goes_on at i) (rw (n, ← q, ← p) (body-over m (suc at) r (omega arith)))

    by : (t : Bool)
        → cond t (on_last at (mark 90 (c ∷ r)) (c ∷ r)) (on_item at (item (c ∷ r)) (λ k. body k (suc at) r)) ≡ on_next text
        (cond t (last_of at (mark 90 (c ∷ r)) (c ∷ r)) (one_of at (item (c ∷ r))))
    by true = ended (mark 90 (c ∷ r))
    by false = read (item (c ∷ r)) refl

body-gap : (bytes : List ℕ) (at : ℕ) → body 0 at bytes ≡ body 0 (at + gaps false bytes) (drop (gaps false bytes) bytes)
unfolding body gaps
body-gap [] at = rw (add-zero at)
body-gap (c ∷ r) at = by (gaps false (c ∷ r)) refl (gaps-within false (c ∷ r))
  where
    by : (g : ℕ) → gaps false (c ∷ r) ≡ g → g ≤ suc (length r) → body 0 at (c ∷ r) ≡ body 0 (at + g) (drop g (c ∷ r))
    by zero e h = rw (add-zero at)
    by (suc k) e h = rw (e, add-shift at k) (body-over k (suc at) r (omega arith))

pub body-next : (text : List ℕ) (at : ℕ) → body 0 at (drop at text) ≡ on_next text (next_in text at)
unfolding next_in
body-next text at =
    let d : drop (gaps false (drop at text)) (drop at text) ≡ drop (at + gaps false (drop at text)) text = drop-drop (gaps false (drop at text)) at
    text in
    body-gap (drop at text) at ∙ rw d (body-element text _ (at + gaps false (drop at text)) refl (rw d at (gaps-passed false (drop at text))))

pub scan-start : (text : List ℕ) → scan text ≡ on_start text (start_in text)
unfolding scan start_in
scan-start text = by (mark 36 (drop (gaps false text) text))
  where
    by : (g : Got Bool) → on_first (gaps false text) g (drop (gaps false text) text) ≡ on_start text (start_of (gaps false text) g)
    by (got t n) = ap (body 0 (gaps false text + n)) (drop-drop n (gaps false text) text)
    by nothing = refl
