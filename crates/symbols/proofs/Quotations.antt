-- Characters and strings of the source, from what is read between their quotes.
use Rattle.laws.proofs.Basics.{ℕ, suc, ◌+◌, ◌≡◌, ◌∙◌, List, [], ◌∷◌, length, arith}
use Rattle.text.specs.Quoted as Q
use Rattle.text.specs.Quoted.{closed, unclosed, faulty, quoted}
use Rattle.text.specs.Parts.{value_of}
use Rattle.text.proofs.Quotes.{first-is}
use Rattle.text.proofs.Answers.{Counted}
use Rattle.language.specs.Symbols.{symbol, wrong, character, string}

module _ (bs : List ℕ) where
  -- ---- one character between single quotes

  module _ {n w : ℕ} (h : Counted (quoted 39 1 0 bs) n w) where
    pub no-character : n ≡ 0 → wrong 43 0 ≡ character bs
    unfolding character
    no-character z = by h.characters h.is h.count
      where
        by : (cs : List ℕ) → quoted 39 1 0 bs ≡ closed cs w → n ≡ length cs → wrong 43 0 ≡ character bs
        by [] e k = rw e
        by (c ∷ cs) e k = absurd (omega arith)

    pub a-character : {v : ℕ} → (n ≡ 0 → ⊥) → v ≡ value_of (Q.character 39 bs) → symbol 60 v (w + 1) ≡ character bs
    unfolding character
    a-character {v} some f = by h.characters h.is h.count
      where
        by : (cs : List ℕ) → quoted 39 1 0 bs ≡ closed cs w → n ≡ length cs → symbol 60 v (w + 1) ≡ character bs
        by [] e k = absurd (some k)
        by (c ∷ cs) e k = let z : v ≡ c = f ∙ first-is 39 1 bs e in let m : w + 1 ≡ suc w = omega arith in rw (e, z, m)

  pub character-unclosed : quoted 39 1 0 bs ≡ unclosed → wrong 40 0 ≡ character bs
  unfolding character
  character-unclosed e = rw e

  pub character-faulty : {number offset : ℕ} → quoted 39 1 0 bs ≡ faulty number offset
      → wrong number (offset + 1) ≡ character bs
  unfolding character
  character-faulty {offset = offset} e = let m : offset + 1 ≡ suc offset = omega arith in rw (e, m)

  -- ---- a string

  pub a-string : {n w : ℕ} → Counted (quoted 34 255 0 bs) n w → symbol 61 n (w + 1) ≡ string bs
  unfolding string
  a-string {n} {w} h = let m : w + 1 ≡ suc w = omega arith in rw (h.is, h.count, m)

  pub string-unclosed : quoted 34 255 0 bs ≡ unclosed → wrong 40 0 ≡ string bs
  unfolding string
  string-unclosed e = rw e

  pub string-faulty : {number offset : ℕ} → quoted 34 255 0 bs ≡ faulty number offset
      → wrong number (offset + 1) ≡ string bs
  unfolding string
  string-faulty {offset = offset} e = let m : offset + 1 ≡ suc offset = omega arith in rw (e, m)
