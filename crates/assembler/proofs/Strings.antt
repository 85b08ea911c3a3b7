-- A string's words: the loop that decodes two characters and stores one word a turn.
use Rattle.laws.proofs.Basics.{ℕ, suc, ◌+◌, ◌-◌, ◌*◌, ◌<◌, ◌≤◌, ◌≡◌, sym, ap, ◌∙◌, List, [], ◌∷◌, length, set, drop, length-set, length-drop, sets}
use Rattle.laws.proofs.Basics.{add-one, arith}
use Rattle.text.specs.Quoted.{is, closing, ended, mistake, character}
use Rattle.text.proofs.Quotes.{Written, is-written}
use Rattle.text.proofs.Constants.{Continues, closed-next, closed-end, closed-goes-on, closed-right}
use Rattle.text.specs.Packed.{pairs}
use Rattle.assembler.specs.Passes.{letters, Quoting, Spelling}

-- ---- the characters from a place on, by what stands there

module _ (text : List ℕ) (place : ℕ) (q : Quoting text place) where
  -- a character, and the characters after it
  record Follows (v w : ℕ) : Type 0 where
    pub letters-are : letters text place ≡ v ∷ letters text (place + w)
    pub quoting : Quoting text (place + w)

  follows : {v w : ℕ} → character 34 (drop place text) ≡ is v w → Follows v w
  unfolding letters
  follows {v} {w} e = let k : Continues 34 255 text (place + w) v w (letters text place) q.width = closed-next 34 255 text place q.reads e in
      record { letters-are = k.are ∙ rw k.more; quoting = record { width = k.width; reads = rw k.more } }

  no-letters : character 34 (drop place text) ≡ closing → letters text place ≡ []
  no-letters e = closed-end 34 255 text place q.reads e

  pub not-ended : character 34 (drop place text) ≡ ended → ⊥
  not-ended e = closed-goes-on 34 255 text place q.reads e

  pub no-mistake : {number : ℕ} → character 34 (drop place text) ≡ mistake number → ⊥
  no-mistake e = closed-right 34 255 text place q.reads e

pub past-character : (text : List ℕ) (place : ℕ) {v w : ℕ} → character 34 (drop place text) ≡ is v w → (place + w ≤ length text) × (1 ≤ w)
past-character text place {v} {w} e = let r : Written (length (drop place text)) v w = is-written 34 (drop place text) e in
    let l : length (drop place text) ≡ length text - place = length-drop place text in (omega arith, omega arith)

-- ---- what the loop keeps

pub record Spells (text : List ℕ) (memory₀ : List ℕ) (at from first place to high : ℕ) (memory : List ℕ) : Type 0 where
  pub spelling : Spelling text place high to memory
  pub same : length memory ≡ length memory₀
  pub so_far : sets memory₀ at (pairs first (letters text from)) ≡ sets memory to (pairs high (letters text place))

module _ (text : List ℕ) (memory₀ : List ℕ) (at from first place to high : ℕ) (memory : List ℕ)
    (s : Spells text memory₀ at from first place to high memory) where
  quoting : Quoting text place
  quoting = s.spelling.quoting

  pub spells-end : {word : ℕ} → character 34 (drop place text) ≡ closing → word ≡ high * 256 + 0
      → set memory to word ≡ sets memory₀ at (pairs first (letters text from))
  unfolding pairs
  spells-end {word} e h = let w : word ≡ high * 256 = omega arith in
      sym (s.so_far ∙ rw (no-letters text place quoting e, w))

  module _ {low width word : ℕ} (e : character 34 (drop place text) ≡ is low width) (h : word ≡ high * 256 + low) where
    next : Follows text place quoting low width
    next = follows text place quoting e

    pub second-not-ended : character 34 (drop (place + width) text) ≡ ended → ⊥
    second-not-ended f = not-ended text (place + width) next.quoting f

    pub second-no-mistake : {number : ℕ} → character 34 (drop (place + width) text) ≡ mistake number → ⊥
    second-no-mistake f = no-mistake text (place + width) next.quoting f

    pub spells-odd : character 34 (drop (place + width) text) ≡ closing → set memory to word ≡ sets memory₀ at (pairs first (letters text from))
    unfolding pairs
    spells-odd f = sym (s.so_far ∙ rw (next.letters-are, no-letters text (place + width) next.quoting f, h))

    pub spells-on : {v width' high' : ℕ} → character 34 (drop (place + width) text) ≡ is v width' → high' ≡ v → high' < 256
        → Spells text memory₀ at from first (place + width + width') (to + 1) high' (set memory to word)
    unfolding pairs
    spells-on {v} {width'} {high'} f k b =
        let after : Follows text (place + width) next.quoting v width' = follows text (place + width) next.quoting f in
        let both : letters text place ≡ low ∷ v ∷ letters text (place + width + width') = next.letters-are ∙ rw after.letters-are in
        let n : length (letters text place) ≡ suc (suc (length (letters text (place + width + width')))) = ap length both in
        let l : length (set memory to word) ≡ length memory = length-set memory to word in
        record {
          spelling = record { quoting = after.quoting; byte = b; fits = omega (arith, s.spelling.fits) };
          same = l ∙ s.same;
          so_far = s.so_far ∙ rw (both, h, k, add-one);
        }
