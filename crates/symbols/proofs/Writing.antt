-- Writing the symbols: their entries are appended in threes, and what follows them is cleared.
use Rattle.laws.proofs.Basics.{ℕ, ◌+◌, ◌*◌, ◌<◌, ◌≤◌, ◌≡◌, refl, sym, ap, ◌∙◌, List, [], ◌∷◌, ◌++◌, append_assoc, append-nil, Bool, true, false, cond}
use Rattle.laws.proofs.Basics.{length, set, take, drop, length-append, length-take-le, take_at, sets, sets-eq, length-sets, eqb, add-one, arith}
use Rattle.laws.proofs.Cases.{by_cond}
use native.Mathlib.Numerals.{add-two}
use Rattle.language.specs.Symbols.{Symbol, Scan, scan}
use Rattle.language.specs.Semicolons.{inserted, semicolons_after}
use Rattle.language.specs.Strings.{numbered}
use Rattle.symbols.specs.Read.{entries}
use Rattle.std.specs.Prelude.{Some, None, Ok}
use Rattle.symbols.specs.Kinds.{number_of}
use Rattle.symbols.specs.Parts.{symbol_of, scan_by, Next, Finds, gain, Writes}
use Rattle.symbols.specs.declared.Found.{Found}
use Rattle.symbols.proofs.Scanning.{scan_at, scan-is, found}
use Rattle.symbols.proofs.Semicolons.{symbols_in, following, first-after, following-symbol, few}

-- ---- entries

pub length-entries : (ss : List Symbol) → length (entries ss) ≡ length ss * 3
unfolding entries
length-entries [] = refl
length-entries (s ∷ r) = omega (arith, length-entries r)

-- three entries more
module _ (s : List ℕ) (count kind value place : ℕ) (h : count * 3 + 3 ≤ length s) where
  pub put_is : {s' : List ℕ} → s' ≡ set (set (set s (count * 3) kind) (count * 3 + 1) value) (count * 3 + 2) place
      → s' ≡ sets s (count * 3) (kind ∷ value ∷ place ∷ [])
  put_is e = e ∙ rw (add-one, add-two)

  pub put-length : {s' : List ℕ} → s' ≡ sets s (count * 3) (kind ∷ value ∷ place ∷ []) → length s' ≡ length s
  put-length e = ap length e ∙ length-sets s (count * 3) (kind ∷ value ∷ place ∷ [])

  put-takes : {n : ℕ} → n ≡ count * 3 + 3
      → take n (sets s (count * 3) (kind ∷ value ∷ place ∷ [])) ≡ take (count * 3) s ++ (kind ∷ value ∷ place ∷ [])
  put-takes {n} e = let l : length (take (count * 3) s) ≡ count * 3 = length-take-le (count * 3) s (omega arith) in
      rw (sets-eq (kind ∷ value ∷ place ∷ []) s (count * 3) h) (take_at (take (count * 3) s ++ (kind ∷ value ∷ place ∷ [])) (drop (count * 3 + 3) s) n
      (length-append (take (count * 3) s) (kind ∷ value ∷ place ∷ []) ∙ (let z : length (take (count * 3) s) + 3 ≡ n = omega arith in z)))

module _ (s : List ℕ) (count kind value place : ℕ) where
  pub writes_one : {s' : List ℕ} → count * 3 + 3 ≤ length s → s' ≡ sets s (count * 3) (kind ∷ value ∷ place ∷ [])
      → Writes count false kind value place s (count + 1) s'
  unfolding entries
  writes_one h e = rw e (record {
    same = length-sets s (count * 3) (kind ∷ value ∷ place ∷ []);
    counts = refl;
    writes = put-takes s count kind value place h (let z : (count + 1) * 3 ≡ count * 3 + 3 = omega arith in z);
  })

  pub writes-two : {s₁ s₂ : List ℕ} → count * 3 + 6 ≤ length s → s₁ ≡ sets s (count * 3) (54 ∷ 0 ∷ place ∷ [])
      → s₂ ≡ sets s₁ ((count + 1) * 3) (kind ∷ value ∷ place ∷ [])
      → Writes count true kind value place s (count + 2) s₂
  unfolding entries
  writes-two {s₁} {s₂} h p q = let n : length s₁ ≡ length s = ap length p ∙ length-sets s (count * 3) (54 ∷ 0 ∷ place ∷ []) in
      let a : take ((count + 1) * 3) s₁ ≡ take (count * 3) s ++ (54 ∷ 0 ∷ place ∷ []) = ap (take ((count + 1) * 3)) p ∙ put-takes s count 54 0 place
      (omega arith) (let z : (count + 1) * 3 ≡ count * 3 + 3 = omega arith in z) in
      record {
        same = ap length q ∙ length-sets s₁ ((count + 1) * 3) (kind ∷ value ∷ place ∷ []) ∙ n;
        counts = refl;
        writes = ap (take ((count + 2) * 3)) q ∙ put-takes s₁ (count + 1) kind value place (omega arith)
            (let z : (count + 2) * 3 ≡ (count + 1) * 3 + 3 = omega arith in z) ∙
            ap (λ (l : List ℕ). l ++ (kind ∷ value ∷ place ∷ [])) a ∙ append_assoc (take (count * 3) s) (54 ∷ 0 ∷ place ∷ [])
            (kind ∷ value ∷ place ∷ []);
      }

-- ---- a symbol and the semicolon before it

entries-inserted : (t : Bool) (s : Symbol) (r : List Symbol) → entries (inserted t s (s ∷ r)) ≡ entries (inserted t s (s ∷ [])) ++ entries r
unfolding entries
entries-inserted true s r = refl
entries-inserted false s r = refl

length_inserted : (t : Bool) (s : Symbol) → length (entries (inserted t s (s ∷ []))) ≡ cond t 6 3
unfolding entries
length_inserted true s = refl
length_inserted false s = refl

-- ---- what the loop over the symbols keeps

abbrev rest : (text : List ℕ) (at before strings : ℕ) → List ℕ
rest text at before strings = entries (following text before at strings (scan_at text at).symbols)

pub record Putting (text s₀ : List ℕ) (at count before strings : ℕ) (s : List ℕ) : Type 0 where
  pub same : length s ≡ length s₀
  pub room : length text * 3 ≤ length s₀
  pub fits : count * 3 ≤ length s
  pub strings-few : strings ≤ count
  pub writes : take (count * 3) s ++ rest text at before strings ≡ entries (symbols_in text)

pub putting-start : (text s : List ℕ) → length text * 3 ≤ length s → Putting text s 0 0 0 0 s
unfolding symbols_in scan
putting-start text s h = record {
  same = refl;
  room = h;
  fits = omega arith;
  strings-few = omega arith;
  writes = ap entries (sym (first-after text 0 (numbered 0 (scan text).symbols)));
}

-- three entries for each of one symbol or two
thrice : (two : Bool) → (cond two 6 3 ≡ 3 * cond two 2 1) × (1 ≤ cond two 2 1)
thrice true = (refl, omega arith)
thrice false = (refl, omega arith)

module _ (text s₀ : List ℕ) (at count before strings : ℕ) (s : List ℕ) (p : Putting text s₀ at count before strings s)
    {next : Next} (f : Finds text at next) where
  taken : length (take (count * 3) s) ≡ count * 3
  taken = length-take-le (count * 3) s p.fits

  pub putting-end : next ≡ Ok None → take (count * 3) s ≡ entries (symbols_in text)
  unfolding scan_by entries numbered semicolons_after
  putting-end e = sym (append-nil (take (count * 3) s)) ∙
      ap (λ (t : Scan). take (count * 3) s ++ entries (following text before at strings t.symbols)) (sym (scan-is f e)) ∙ p.writes

  module _ {one : Found} (e : next ≡ Ok (Some one)) where
    abbrev kind : ℕ
    kind = number_of one.kind

    abbrev value : ℕ
    value = one.value

    abbrev place : ℕ
    place = one.place

    abbrev past : ℕ
    past = one.past

    abbrev newline : Bool
    newline = one.newline

    module _ {semicolon : Bool} (g : semicolon ≡ gain before kind newline) where
      -- the rest, from this symbol on
      next-entries : {number strings' : ℕ} → number ≡ cond (eqb kind 61) strings value → strings' ≡ cond (eqb kind 61) (strings + 1) strings
          → rest text at before strings ≡ entries (inserted semicolon (symbol_of kind number place) (symbol_of kind number place ∷ [])) ++ rest text
          past kind strings'
      unfolding scan_by
      next-entries {number} {strings'} m n = let more = following text kind past strings' (scan_at text past).symbols in
          ap entries (following-symbol text before at strings past (scan-is f e) m n (found f e).line) ∙
          ap (λ (t : Bool). entries (inserted t (symbol_of kind number place) (symbol_of kind number place ∷ more)))
          (sym (g ∙ ap (gain before kind) (found f e).breaks)) ∙
          entries-inserted semicolon (symbol_of kind number place) _

      -- there is room for it, since the symbols are no more than the bytes
      pub room_for : count * 3 + cond semicolon 6 3 ≤ length s
      room_for = let number = cond (eqb kind 61) strings value in let strings' = cond (eqb kind 61) (strings + 1) strings in omega (
        arith,
        taken,
        p.same,
        p.room,
        few text,
        length-entries (symbols_in text),
        simp length-append at (ap length p.writes),
        simp length-append at (ap length (next-entries refl refl)),
        length_inserted semicolon (symbol_of kind number place),
      )

      module _ {number strings' count' : ℕ} {s' : List ℕ} (m : number ≡ cond (eqb kind 61) strings value)
          (n : strings' ≡ cond (eqb kind 61) (strings + 1) strings) (w : Writes count semicolon kind number place s count' s') where
        pub putting-on : Putting text s₀ past count' kind strings' s'
        putting-on = record {
          same = w.same ∙ p.same;
          room = p.room;
          fits = omega (arith, room_for, w.counts, w.same, thrice semicolon);
          strings-few = omega (
            arith,
            w.counts,
            p.strings-few,
            thrice semicolon,
            by_cond (λ k. k ≤ strings + 1) (eqb kind 61) {x = strings + 1} {y = strings} (omega arith) (omega arith),
          );
          writes = ap (λ (l : List ℕ). l ++ rest text past kind strings') w.writes ∙ append_assoc (take (count * 3) s) _ _ ∙
              ap (λ (l : List ℕ). take (count * 3) s ++ l) (sym (next-entries m n)) ∙ p.writes;
        }

      -- what `write` and the count of strings ask for
      module _ (h : length text ≤ 16384) where
        counted : count < 16384
        counted = let number = cond (eqb kind 61) strings value in omega (
          arith,
          taken,
          few text,
          length-entries (symbols_in text),
          simp length-append at (ap length p.writes),
          simp length-append at (ap length (next-entries refl refl)),
          length_inserted semicolon (symbol_of kind number place),
          thrice semicolon,
        )

        pub strings-fit : strings < 16384
        strings-fit = omega (arith, p.strings-few, counted)

        pub number_fits : {number : ℕ} → number ≡ cond (eqb kind 61) strings value → number < 131072
        number_fits {number} m =
            rw m (by_cond (λ k. k < 131072) (eqb kind 61) (omega (arith, strings-fit)) (omega (arith, (found f e).small, (found f e).within)))

        pub place_fits : place < 65536
        place_fits = omega (arith, (found f e).some, (found f e).within)
