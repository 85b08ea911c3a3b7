-- The table of spellings, and the search of a word in it, one row at a time; the signs by their first two bytes.
use Rattle.laws.proofs.Basics.{ℕ, suc, ◌+◌, ◌<◌, ◌≤◌, ◌≡◌, refl, sym, ap, ◌∙◌, List, [], ◌∷◌, Bool, true, false, ◌&&◌, cond, length}
use Rattle.laws.proofs.Basics.{get_or, drop, drop_of_length-le, drop-cons, eqb, add-zero, add-one, arith, eqb-true, eq-eqb, ne_eqb}
use Rattle.laws.proofs.Cases.{by_cases, contradiction, both_true}
use Rattle.std.proofs.Common.{slice_index_or}
use Rattle.std.specs.Cmp.Lexicographic.{pointwise}
use Rattle.std.specs.Prelude.{Some, None}
use Rattle.std.specs.List.{starts_with, slice_get}
use Rattle.text.specs.Written.{bytes}
use Rattle.language.specs.Kinds.{Spelled, reserved, signs, member}
use Rattle.language.specs.Symbols.{Element, symbol, wrong, begins, same, kind_in, kind_of, sign_in, sign}
use Rattle.language.specs.Candidates.{candidates, candidates_in, compared_in, compared}
use Rattle.language.proofs.Candidates.{kind-cons, kind-by-candidates}
use Rattle.symbols.specs.Kinds.{number_of}
use Rattle.symbols.specs.Spellings.{spelled_of, rows_of, of_length, Spans}
use Rattle.symbols.specs.declared.spellings.Spelled as D
use Rattle.symbols.proofs.Table.{every}

nothing : Spelled
nothing = record { spelling = []; kind = 0 }

-- ---- what the library's tests say

pub begins-is : (ss bs : List ℕ) → starts_with eqb bs ss ≡ begins ss bs
unfolding begins
begins-is [] bs = refl
begins-is (s ∷ ss) [] = refl
begins-is (s ∷ ss) (b ∷ bs) = ap (λ (t : Bool). eqb s b && t) (begins-is ss bs)

pub same-is : (ss bs : List ℕ) → length ss ≡ length bs → pointwise eqb ss bs ≡ same ss bs
unfolding begins
same-is [] [] e = refl
same-is [] (b ∷ bs) e = contradiction cc
same-is (s ∷ ss) [] e = contradiction cc
same-is (s ∷ ss) (b ∷ bs) e = let l : length ss ≡ length bs = cc in
    rw (same-is ss bs l, eq-eqb (length ss) (length bs) l, eq-eqb (length (s ∷ ss)) (length (b ∷ bs)) e) (swap (eqb s b) (begins ss bs))
  where
    swap : (t u : Bool) → (t && (true && u)) ≡ (true && (t && u))
    swap true u = refl
    swap false u = refl

-- ---- a row

-- the rows from one on
abbrev pub left : List D.Spelled → ℕ → List Spelled
left rows i = rows_of (drop i rows)

pub left-cons : (rows : List D.Spelled) (i : ℕ) (d : D.Spelled) → i < length rows → left rows i ≡ spelled_of (slice_index_or rows i d) ∷ left rows (i + 1)
unfolding rows_of
left-cons rows i d h = rw (drop-cons rows i d h, add-one)

pub left-end : (rows : List D.Spelled) (i : ℕ) → length rows ≤ i → left rows i ≡ []
unfolding rows_of
left-end rows i h = rw (drop_of_length-le rows h)

-- ---- the search of a word

-- where it stands at a row, with so many compared: what is left of the candidates decides the kind and the rest of the count
pub record Searching (bs : List ℕ) (rows : List D.Spelled) (n i : ℕ) : Type 0 where
  pub few : n ≤ i
  pub kind : kind_of bs ≡ kind_in (of_length (length bs) (left rows i)) bs
  pub count : compared bs ≡ n + compared_in (of_length (length bs) (left rows i)) bs

pub search-starts : (bs : List ℕ) {rows : List D.Spelled} {first : ℕ} → Some first ≡ slice_get bs 0 → Spans first rows → Searching bs rows 0 0
unfolding compared
search-starts [] e s = contradiction cc
search-starts (b ∷ rest) {rows} {first} e s =
    let k : first ≡ b = cc in
    let held : candidates (b ∷ rest) ≡ of_length (suc (length rest)) (rows_of rows) = rw (← k) (s.holds rest) in
    record { few = omega arith; kind = kind-by-candidates (b ∷ rest) ∙ rw held; count = rw held (omega arith) }

pub no_bytes : (bs : List ℕ) → None ≡ slice_get bs 0 → (59 ≡ kind_of bs) × (0 ≡ compared bs)
unfolding kind_in kind_of candidates_in candidates compared_in compared reserved
no_bytes [] e = (refl, refl)
no_bytes (b ∷ bs) e = contradiction cc

module _ (bs : List ℕ) (rows : List D.Spelled) {n i : ℕ} (s : Searching bs rows n i) where
  pub search-ends : length rows ≤ i → (59 ≡ kind_of bs) × (n ≡ compared bs)
  unfolding kind_in compared_in of_length
  search-ends h = (sym (s.kind ∙ rw (left-end rows i h)), sym (s.count ∙ rw (left-end rows i h, add-zero n)))

  module _ (d : D.Spelled) (h : i < length rows) where
    abbrev row : D.Spelled
    row = slice_index_or rows i d

    -- the words from this row on, by whether it has the word's length
    passed : (length row.spelling.now ≡ length bs → ⊥) → of_length (length bs) (left rows i) ≡ of_length (length bs) (left rows (i + 1))
    unfolding of_length
    passed k = rw (left-cons rows i d h, ne_eqb (length row.spelling.now) (length bs) k)

    pub search-passes : (length row.spelling.now ≡ length bs → ⊥) → Searching bs rows n (i + 1)
    search-passes k = record { few = omega (arith, s.few); kind = s.kind ∙ rw (passed k); count = s.count ∙ rw (passed k) }

    module _ (e : length row.spelling.now ≡ length bs) where
      met : of_length (length bs) (left rows i) ≡ spelled_of row ∷ of_length (length bs) (left rows (i + 1))
      unfolding of_length
      met = rw (left-cons rows i d h, eq-eqb (length row.spelling.now) (length bs) e)

      pub search-finds : pointwise eqb row.spelling.now bs ≡ true → (number_of row.kind ≡ kind_of bs) × (n + 1 ≡ compared bs)
      unfolding compared_in
      search-finds b = let f : same row.spelling.now bs ≡ true = sym (same-is row.spelling.now bs e) ∙ b in
          (sym (s.kind ∙ rw (met, kind-cons, f)), sym (s.count ∙ rw (met, f)))

      pub search-goes-on : pointwise eqb row.spelling.now bs ≡ false → Searching bs rows (n + 1) (i + 1)
      unfolding compared_in
      search-goes-on b = let f : same row.spelling.now bs ≡ false = sym (same-is row.spelling.now bs e) ∙ b in
          let rest : ℕ = compared_in (of_length (length bs) (left rows (i + 1))) bs in
          let add : n + suc rest ≡ n + 1 + rest = omega arith in
          record { few = omega (arith, s.few); kind = s.kind ∙ rw (met, kind-cons, f); count = s.count ∙ rw (met, f) add }

-- ---- the rows of a first byte

-- the first letters of the reserved words
abbrev letters : List ℕ
letters = bytes "WVUTSRONMLIGFEDCBA"

abbrev pub NoneOf : List ℕ → (byte : ℕ) → Type 0
NoneOf [] byte = Unit {0}
NoneOf (c ∷ cs) byte = NoneOf cs byte × (byte ≡ c → ⊥)

no_member : (cs : List ℕ) (byte : ℕ) → NoneOf cs byte → member byte cs ≡ false
unfolding member
no_member [] byte n = refl
no_member (c ∷ cs) byte n = rw (ne_eqb byte c n.1) (no_member cs byte n.0)

abbrev lettered : Spelled → Bool
lettered w = member (get_or w.spelling 0 0) letters

no-candidates : (ws : List Spelled) (byte : ℕ) (rest : List ℕ) → every lettered nothing ws ≡ true → member byte letters ≡ false
    → candidates_in ws (byte ∷ rest) ≡ []
unfolding candidates_in
no-candidates [] byte rest t n = refl
no-candidates (w ∷ ws) byte rest t n = let b = both_true (lettered w) (every lettered nothing ws) t in
    by_cases (eqb (get_or w.spelling 0 0) byte)
    (λ e. let q : member byte letters ≡ true = rw (← eqb-true (get_or w.spelling 0 0) byte e) b.0 in contradiction cc)
    (λ e. rw e (no-candidates ws byte rest b.1 n))

pub no_span : (byte : ℕ) → NoneOf letters byte → Spans byte []
unfolding candidates reserved of_length rows_of member
no_span byte n = record { holds = λ rest. no-candidates reserved byte rest refl (no_member letters byte n) }

pub spans : (c : ℕ) {byte : ℕ} (rows : List D.Spelled) → ((rest : List ℕ) → candidates (c ∷ rest) ≡ of_length (suc (length rest)) (rows_of rows))
    → byte ≡ c → Spans byte rows
spans c rows h e = rw e (record { holds = h })

-- ---- the signs by first byte

-- a sign by its first byte, by its first two, and by its first where the second is none of some
pub sign-is : (c : ℕ) (bs : List ℕ) {e f : Element} → 0 < length bs → get_or bs 0 0 ≡ c → e ≡ f
    → ((rest : List ℕ) → sign (c ∷ rest) ≡ f) → e ≡ sign bs
sign-is c [] h q p f = absurd (omega arith)
sign-is c (b ∷ rest) h q p f = p ∙ sym (rw q (f rest))

pub sign-two : (c d : ℕ) (bs : List ℕ) {e f : Element} → 0 < d → get_or bs 0 0 ≡ c → get_or bs 1 0 ≡ d → e ≡ f
    → ((rest : List ℕ) → sign (c ∷ d ∷ rest) ≡ f) → e ≡ sign bs
sign-two c d [] h q r p f = absurd (omega arith)
sign-two c d (b ∷ []) h q r p f = absurd (omega arith)
sign-two c d (b ∷ x ∷ rest) h q r p f = p ∙ sym (rw (q, r) (f rest))

pub sign-else : (c : ℕ) (ds bs : List ℕ) {e f : Element} → 0 < length bs → get_or bs 0 0 ≡ c → NoneOf ds (get_or bs 1 0) → e ≡ f
    → sign (c ∷ []) ≡ f → ((x : ℕ) (rest : List ℕ) → NoneOf ds x → sign (c ∷ x ∷ rest) ≡ f) → e ≡ sign bs
sign-else c ds [] h q n p o f = absurd (omega arith)
sign-else c ds (b ∷ []) h q n p o f = p ∙ sym (rw q o)
sign-else c ds (b ∷ x ∷ rest) h q n p o f = p ∙ sym (rw q (f x rest n))

pub other : (c x : ℕ) → (x ≡ c → ⊥) → eqb c x ≡ false
other c x n = ne_eqb c x (λ e. n (sym e))

-- the first bytes of the signs
abbrev heads : List ℕ
heads = bytes "$:><~;,)(@!|&=/*-+"

abbrev headed : Spelled → Bool
headed s = member (get_or s.spelling 0 0) heads

other-head : (ss : List ℕ) (byte : ℕ) (rest : List ℕ) → member (get_or ss 0 0) heads ≡ true → member byte heads ≡ false
    → begins ss (byte ∷ rest) ≡ false
unfolding begins member
other-head [] byte rest t n = contradiction cc
other-head (c ∷ cs) byte rest t n = by_cases (eqb c byte)
    (λ e. let q : member byte heads ≡ true = rw (← eqb-true c byte e) t in contradiction cc) (λ e. rw e refl)

sign-cons : (s : Spelled) (ss : List Spelled) (bs : List ℕ)
    → sign_in (s ∷ ss) bs ≡ cond (begins s.spelling bs) (symbol s.kind 0 (length s.spelling)) (sign_in ss bs)
unfolding sign_in
sign-cons s ss bs = elim (begins s.spelling bs)
    as (λ t. elim t [ true ↦ symbol s.kind 0 (length s.spelling) | false ↦ sign_in ss bs ]
    ≡ cond t (symbol s.kind 0 (length s.spelling)) (sign_in ss bs))
    [ true ↦ refl | false ↦ refl ]

no-headed : (ss : List Spelled) (byte : ℕ) (rest : List ℕ) → every headed nothing ss ≡ true → member byte heads ≡ false
    → sign_in ss (byte ∷ rest) ≡ wrong 2 0
unfolding sign_in
no-headed [] byte rest t n = refl
no-headed (s ∷ ss) byte rest t n = let b = both_true (headed s) (every headed nothing ss) t in
    rw (sign-cons s ss (byte ∷ rest), other-head s.spelling byte rest b.0 n) (no-headed ss byte rest b.1 n)

pub no_sign : (bs : List ℕ) → 0 < length bs → NoneOf heads (get_or bs 0 0) → wrong 2 0 ≡ sign bs
unfolding sign signs member
no_sign [] h n = absurd (omega arith)
no_sign (b ∷ rest) h n = sym (no-headed signs b rest refl (no_member heads b n))
