-- A source is at least as long as its symbols: a REPEAT form three bytes, a string its characters and two, any other one.
use Rattle.laws.proofs.Basics.{ℕ, zero, suc, ◌+◌, ◌-◌, ◌≤◌, ◌≡◌, refl, List, [], ◌∷◌, cond, length, drop, eqb, arith, ne_eqb}
use Rattle.laws.proofs.Cases.{by_equal, by_cond}
use Rattle.language.specs.Bytes.{class_of}
use Rattle.language.specs.Kinds.{member, STRING, SEMICOLON}
use Rattle.language.specs.Binding.{is_repeat}
use Rattle.language.specs.Symbols.{Symbol, Element, symbol, gap, wrong, by_class, Scan, on_element, scan_from, scan}
use Rattle.language.specs.Whole.{strings_among}
use Rattle.language.proofs.Elements.{needs, KnownElement, a-symbol, known-element}
use Rattle.language.proofs.SymbolFacts.{weight, characters_at, next-drop, cost, count_strings}

-- the bytes of strings, with their quotes
unfoldable pub string_bytes : List (List ℕ) → ℕ
string_bytes [] = 0
string_bytes (cs ∷ ss) = length cs + 2 + string_bytes ss

module _ (text : List ℕ) where
  unfoldable covers : List Symbol → ℕ
  covers [] = 0
  covers (x ∷ xs) = needs x.kind (characters_at text x.place) + covers xs

  on-element : (place b : ℕ) (bs : List ℕ) (e : Element) (more : ℕ → Scan) → b ∷ bs ≡ drop place text → KnownElement (b ∷ bs) e
      → ((k : ℕ) → covers (more k).symbols ≤ length bs - k) → covers (on_element place e more).symbols ≤ suc (length bs)
  unfolding covers
  on-element place b bs (symbol kind value width) more q (a-symbol k) g = let z : bs ≡ drop (suc place) text = next-drop text place q in
      rw (← z) (omega (arith, g (width - 1), k.wide))
  on-element place b bs (gap width) more q f g = omega (arith, g (width - 1))
  on-element place b bs (wrong number offset) more q f g = omega arith

  scanned-covers : (over place : ℕ) (bs : List ℕ) → bs ≡ drop place text → covers (scan_from over place bs).symbols ≤ length bs - over
  unfolding scan_from covers
  scanned-covers over place [] q = omega arith
  scanned-covers (suc n) place (b ∷ bs) q = omega (arith, scanned-covers n (suc place) bs (next-drop text place q))
  scanned-covers zero place (b ∷ bs) q =
      bounded (on-element place b bs (by_class (class_of b) (b ∷ bs)) (λ k. scan_from k (suc place) bs) q (known-element (b ∷ bs) (class_of b))
      (λ n. scanned-covers n (suc place) bs (next-drop text place q)))
    where
      bounded : {n : ℕ} → n ≤ suc (length bs) → n ≤ suc (length bs) - 0
      bounded l = omega arith

  covers-scan : covers (scan text).symbols ≤ length text
  unfolding scan
  covers-scan = omega (arith, scanned-covers 0 0 text refl)

  count-covers : (xs : List Symbol) → cost 3 xs + count_strings xs ≤ covers xs
  unfolding cost count_strings covers is_repeat member
  count-covers [] = omega arith
  count-covers (x ∷ xs) = by_equal x.kind STRING (λ q. rw q (omega (arith, count-covers xs))) (λ q.
      let w : weight 3 x.kind ≤ cond (is_repeat x.kind) 3 1
      = by_cond (λ n. n ≤ cond (is_repeat x.kind) 3 1) (eqb x.kind SEMICOLON) (omega arith) (omega arith) in
      rw (ne_eqb x.kind STRING q) (omega (arith, count-covers xs)))

  -- symbols with REPEAT forms as three, and strings once more
  pub covered : cost 3 (scan text).symbols + count_strings (scan text).symbols ≤ length text
  covered = omega (arith, covers-scan, count-covers (scan text).symbols)

  bytes-covers : (xs : List Symbol) → string_bytes (strings_among text xs) ≤ covers xs
  unfolding string_bytes strings_among covers is_repeat member
  bytes-covers [] = omega arith
  bytes-covers (x ∷ xs) =
      by_equal x.kind STRING (λ q. rw q (omega (arith, bytes-covers xs))) (λ q. rw (ne_eqb x.kind STRING q) (omega (arith, bytes-covers xs)))

  pub string_bytes_lem : string_bytes (strings_among text (scan text).symbols) ≤ length text
  string_bytes_lem = omega (arith, covers-scan, bytes-covers (scan text).symbols)
