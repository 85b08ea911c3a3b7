-- The strings of a source can be written: at most 255 characters each, that a string may hold.
use Rattle.laws.proofs.Basics.{ℕ, suc, ◌≡◌, refl, List, [], ◌∷◌, Bool, true, false, cond, length, drop, eqb, arith, eqb-true}
use Rattle.text.specs.Quoted.{Quoted, closed, unclosed, faulty, characters_of, quoted}
use Rattle.text.proofs.Quotes.{is-closed, Writable}
use Rattle.items.specs.Item as I
use Rattle.language.specs.Kinds.{STRING}
use Rattle.language.specs.Symbols.{Symbol}
use Rattle.language.specs.Whole.{strings_among}
use Rattle.code.specs.Generate.{strings_code}
use Rattle.language.proofs.Elements.{closes-short}
use Rattle.language.proofs.SymbolFacts.{characters_at, AllWords, symbols_now, words-now}
use Rattle.code.proofs.Sounding.{Span, span, Sounds, s-none, s-more}

module _ (text : List ℕ) where
  writable-at : (place : ℕ) → Writable (characters_at text place)
  writable-at place = go (quoted 34 255 0 (drop (suc place) text)) refl
    where
      go : (q : Quoted) → quoted 34 255 0 (drop (suc place) text) ≡ q → Writable (characters_of q)
      go = elim [ closed cs n ↦ λ e. (is-closed 34 255 0 (drop (suc place) text) e).each | unclosed ↦ λ e. tt | faulty number n ↦ λ e. tt ]

  -- the strings' items
  strings-sound : {T : ℕ} (l : ℕ) (xs : List Symbol) → AllWords text xs → Span T l (length (strings_among text xs))
      → Sounds T (strings_code l (strings_among text xs))
  unfolding AllWords strings_among strings_code
  strings-sound l [] h m = s-none
  strings-sound {T} l (x ∷ xs) h m = go (eqb x.kind STRING) refl m (λ k. strings-sound (suc l) xs h.1 k) (λ k. strings-sound l xs h.1 k)
    where
      go : (b : Bool) → eqb x.kind STRING ≡ b
          → Span T l (length (cond b (characters_at text x.place ∷ strings_among text xs) (strings_among text xs)))
          → (Span T (suc l) (length (strings_among text xs)) → Sounds T (strings_code (suc l) (strings_among text xs)))
          → (Span T l (length (strings_among text xs)) → Sounds T (strings_code l (strings_among text xs)))
          → Sounds T (strings_code l (cond b (characters_at text x.place ∷ strings_among text xs) (strings_among text xs)))
      go true e k f g = s-more {x = I.label l} (record { first = k.one; last = omega (arith, k.room) })
          (s-more {x = I.string (characters_at text x.place)}
          (record { short = closes-short (h.0.closes (eqb-true _ _ e)); each = writable-at x.place })
          (f (span (omega arith) (omega (arith, k.room)))))
      go false e k f g = g k

  pub strings-now-sound : {T : ℕ} (l : ℕ) → Span T l (length (strings_among text (symbols_now text)))
      → Sounds T (strings_code l (strings_among text (symbols_now text)))
  strings-now-sound l m = strings-sound l (symbols_now text) (words-now text) m
