-- Texts accepted with document 01's strings and characters keep their meaning: its reading of constants, in which any fault was 4 at the opening
-- quote, and that whatever it read is read the same now.
use Rattle.laws.proofs.Basics.{ℕ, zero, suc, ◌-◌, ◌≤◌, ◌≡◌, refl, ap, List, [], ◌∷◌, Bool, true, false, cond, length, drop, eqb, leb, arith, eqb-true}
use Rattle.laws.proofs.Basics.{ne_eqb, leb-true}
use Rattle.laws.proofs.Cases.{either as either-of}
use Rattle.text.specs.Quoted as Q
use Rattle.text.specs.Quoted.{Quoted, closed, wider, after, on_character, quoted}
use Rattle.language.specs.Bytes.{QUOTE, DOUBLE, class_of}
use Rattle.language.specs.Kinds.{NUMBER, STRING}
use Rattle.language.specs.Symbols.{Symbol, Element, symbol, gap, wrong, character, string, by_class, Fault, none, fault, Scan, ends, on_element}
use Rattle.language.specs.Symbols.{scan_from, scan}
use Rattle.language.specs.Brackets.{Matching, matched, unmatched, first_fault, brackets}
use Rattle.language.specs.Strings.{numbered}
use Rattle.language.specs.Semicolons.{semicolons}
use Rattle.language.specs.Source.{Symbols, good, on_fault, symbols_of}

-- ---- document 01's reading

pub data Character : Type 0 where
  is : (value width : ℕ) → Character
  closing : Character
  bad : Character

unfoldable pub former_escape : List ℕ → Character
former_escape [] = bad
former_escape (c ∷ r) = cond (eqb c 78) (is 10 2) (cond (eqb c 83) (is 32 2) (cond (eqb c 84) (is 9 2) (cond (eqb c 66) (is 8 2)
    (cond (eqb c 80) (is 12 2) (cond (eqb c 67) (is 13 2) (cond (eqb c 42) (is 42 2) (cond (eqb c 39) (is 39 2) (cond (eqb c 34) (is 34 2) bad))))))))

unfoldable pub former_character : ℕ → List ℕ → Character
former_character quote [] = bad
former_character quote (c ∷ r) = cond (eqb c quote) closing (cond (eqb c 42) (former_escape r) (cond (leb 32 c) (cond (leb c 126) (is c 1) bad) bad))

pub data Former : Type 0 where
  read : (characters : List ℕ) (width : ℕ) → Former
  refused : Former

abbrev pub former_wider : Former → Former
former_wider (read cs n) = read cs (suc n)
former_wider refused = refused

abbrev pub former_after : ℕ → Former → Former
former_after v (read cs n) = read (v ∷ cs) (suc n)
former_after v refused = refused

abbrev pub on_former : Character → (ℕ → Former) → Former
on_former (is v width) more = former_after v (more (width - 1))
on_former closing more = read [] 1
on_former bad more = refused

unfoldable pub formerly : (quote over : ℕ) → List ℕ → Former
formerly quote over [] = refused
formerly quote (suc k) (c ∷ r) = former_wider (formerly quote k r)
formerly quote zero (c ∷ r) = on_former (former_character quote (c ∷ r)) (λ k. formerly quote k r)

abbrev pub as_character : Former → Element
as_character (read (c ∷ []) n) = symbol NUMBER c (suc n)
as_character (read [] n) = wrong 4 0
as_character (read (c ∷ d ∷ cs) n) = wrong 4 0
as_character refused = wrong 4 0

abbrev pub as_string : Former → Element
as_string (read cs n) = cond (leb (length cs) 255) (symbol STRING (length cs) (suc n)) (wrong 4 0)
as_string refused = wrong 4 0

-- all other symbols are read as now
unfoldable pub former_by_class : (class : ℕ) → List ℕ → Element
former_by_class class bs =
    cond (eqb class QUOTE) (as_character (formerly 39 0 (drop 1 bs))) (cond (eqb class DOUBLE) (as_string (formerly 34 0 (drop 1 bs)))
    (by_class class bs))

unfoldable pub former_scan : (over place : ℕ) → List ℕ → Scan
former_scan over place [] = ends none
former_scan (suc k) place (c ∷ r) = former_scan k (suc place) r
former_scan zero place (c ∷ r) = on_element place (former_by_class (class_of c) (c ∷ r)) (λ k. former_scan k (suc place) r)

unfoldable pub former_symbols : List ℕ → Symbols
former_symbols text = on_fault (first_fault (length text) (brackets [] (former_scan 0 0 text).symbols) (former_scan 0 0 text).ending)
    (semicolons text (numbered 0 (former_scan 0 0 text).symbols))

-- ---- a character is the same now

abbrev KeptCharacter : Character → Q.Character → Type 0
KeptCharacter (is v w) ch = ch ≡ Q.is v w
KeptCharacter closing ch = ch ≡ Q.closing
KeptCharacter bad ch = Unit {0}

record AsBefore (before : Character) (ch : Q.Character) : Type 0 where
  pub same : KeptCharacter before ch

either : {a b : Character} {x y : Q.Character} (t : Bool) → AsBefore a x → (t ≡ false → AsBefore b y) → AsBefore (cond t a b) (cond t x y)
either true p q = p
either false p q = q refl

escape-kept : (bytes : List ℕ) → AsBefore (former_escape bytes) (Q.escape bytes)
unfolding former_escape Q.escape
escape-kept [] = record { same = tt }
escape-kept (c ∷ r) =
    each 78 10 (each 83 32 (each 84 9 (each 66 8 (each 80 12 (each 67 13 (each 42 42 (each 39 39 (each 34 34 (record { same = tt })))))))))
  where
    each : (k v : ℕ) {b : Character} {y : Q.Character} → AsBefore b y → AsBefore (cond (eqb c k) (is v 2) b) (cond (eqb c k) (Q.is v 2) y)
    each k v p = either (eqb c k) (record { same = refl }) (λ _. p)

character-kept : (quote : ℕ) (bytes : List ℕ) → AsBefore (former_character quote bytes) (Q.character quote bytes)
unfolding former_character Q.character
character-kept quote [] = record { same = tt }
character-kept quote (c ∷ r) =
    either (eqb c quote) (record { same = refl }) (λ _. either (eqb c 42) (escape-kept r) (λ _. plain (leb 32 c) (leb c 126) refl))
  where
    plain : (l h : Bool) → leb 32 c ≡ l
        → AsBefore (cond l (cond h (is c 1) bad) bad) (cond (eqb c 10) Q.ended (cond l (cond h (Q.is c 1) (Q.mistake 42)) (Q.mistake 42)))
    plain true true l = rw (ne_eqb c 10 (λ e. omega (arith, leb-true 32 c l))) (record { same = refl })
    plain true false l = record { same = tt }
    plain false h l = record { same = tt }

-- ---- what was read is read the same now, where there is room for it

abbrev pub Kept : (room : ℕ) → Former → Quoted → Type 0
Kept room (read cs w) q = length cs ≤ room → q ≡ closed cs w
Kept room refused q = Unit {0}

wider-kept : (room : ℕ) (p : Former) (q : Quoted) → Kept room p q → Kept room (former_wider p) (wider q)
wider-kept room (read cs w) q h = λ l. ap wider (h l)
wider-kept room refused q h = tt

after_kept : (v room : ℕ) (p : Former) (q : Quoted) → Kept room p q → Kept (suc room) (former_after v p) (after v q)
after_kept v room (read cs w) q h = λ l. ap (after v) (h (omega arith))
after_kept v room refused q h = tt

after-full : (v : ℕ) (p : Former) (q : Quoted) → Kept 0 (former_after v p) q
after-full v (read cs w) q = λ l. absurd (omega arith)
after-full v refused q = tt

pub constant-kept : (quote room k : ℕ) (bytes : List ℕ) → Kept room (formerly quote k bytes) (quoted quote room k bytes)
unfolding formerly quoted
constant-kept quote room k [] = tt
constant-kept quote room (suc k) (c ∷ r) = wider-kept room (formerly quote k r) (quoted quote room k r) (constant-kept quote room k r)
constant-kept quote room zero (c ∷ r) =
    by (former_character quote (c ∷ r)) (Q.character quote (c ∷ r)) room (character-kept quote (c ∷ r)).same (λ a k. constant-kept quote a k r)
  where
    by : (before : Character) (ch : Q.Character) (room : ℕ) → KeptCharacter before ch → ((a k : ℕ) → Kept a (formerly quote k r) (quoted quote a k r))
        → Kept room (on_former before (λ k. formerly quote k r)) (on_character ch room (λ a k. quoted quote a k r))
    by (is v w) ch (suc a) e more = rw e (after_kept v a (formerly quote (w - 1) r) (quoted quote a (w - 1) r) (more a (w - 1)))
    by (is v w) ch zero e more = after-full v (formerly quote (w - 1) r) (on_character ch 0 (λ a k. quoted quote a k r))
    by closing ch room e more = λ l. rw e
    by bad ch room e more = tt

-- ---- so is every symbol

abbrev KeptElement : Element → Element → Type 0
KeptElement (symbol k v w) e = e ≡ symbol k v w
KeptElement (gap w) e = e ≡ gap w
KeptElement (wrong n k) e = Unit {0}

same-element : (e : Element) → KeptElement e e
same-element = elim [ symbol k v w ↦ refl | gap w ↦ refl | wrong n k ↦ tt ]

quotation-kept : (bs : List ℕ) → KeptElement (as_character (formerly 39 0 bs)) (character bs)
unfolding character
quotation-kept bs = by (formerly 39 0 bs) (constant-kept 39 1 0 bs)
  where
    by : (f : Former) → Kept 1 f (quoted 39 1 0 bs) → KeptElement (as_character f) (character bs)
    by (read [] n) h = tt
    by (read (c ∷ []) n) h = rw (h (omega arith))
    by (read (c ∷ d ∷ cs) n) h = tt
    by refused h = tt

string-kept : (bs : List ℕ) → KeptElement (as_string (formerly 34 0 bs)) (string bs)
unfolding string
string-kept bs = by (formerly 34 0 bs) (constant-kept 34 255 0 bs)
  where
    short : (cs : List ℕ) (n : ℕ) (t : Bool) → leb (length cs) 255 ≡ t → Kept 255 (read cs n) (quoted 34 255 0 bs)
        → KeptElement (cond t (symbol STRING (length cs) (suc n)) (wrong 4 0)) (string bs)
    short cs n true l h = rw (h (leb-true (length cs) 255 l))
    short cs n false l h = tt

    by : (f : Former) → Kept 255 f (quoted 34 255 0 bs) → KeptElement (as_string f) (string bs)
    by (read cs n) h = short cs n (leb (length cs) 255) refl h
    by refused h = tt

module _ (class : ℕ) (bs : List ℕ) where
  quotes-kept : class ≡ QUOTE → KeptElement (as_character (formerly 39 0 (drop 1 bs))) (by_class class bs)
  unfolding by_class
  quotes-kept e = rw e (quotation-kept (drop 1 bs))

  doubles-kept : class ≡ DOUBLE → KeptElement (as_string (formerly 34 0 (drop 1 bs))) (by_class class bs)
  unfolding by_class
  doubles-kept e = rw e (string-kept (drop 1 bs))

  element-kept : KeptElement (former_by_class class bs) (by_class class bs)
  unfolding former_by_class
  element-kept = either-of (λ x. KeptElement x (by_class class bs)) (eqb class QUOTE) (λ e. quotes-kept (eqb-true class QUOTE e)) (λ _.
      either-of (λ x. KeptElement x (by_class class bs)) (eqb class DOUBLE) (λ e. doubles-kept (eqb-true class DOUBLE e)) (λ _.
      same-element (by_class class bs)))

-- ---- and so is every text

scan-kept : (over place : ℕ) (text : List ℕ) → (former_scan over place text).ending ≡ none → scan_from over place text ≡ former_scan over place text
unfolding former_scan scan_from
scan-kept over place [] e = refl
scan-kept (suc k) place (c ∷ r) e = scan-kept k (suc place) r e
scan-kept zero place (c ∷ r) e =
    by (former_by_class (class_of c) (c ∷ r)) (by_class (class_of c) (c ∷ r)) (element-kept (class_of c) (c ∷ r)) e (λ k. scan-kept k (suc place) r)
  where
    by : (before now : Element) → KeptElement before now → (on_element place before (λ k. former_scan k (suc place) r)).ending ≡ none
        → ((k : ℕ) → (former_scan k (suc place) r).ending ≡ none → scan_from k (suc place) r ≡ former_scan k (suc place) r)
        → on_element place now (λ k. scan_from k (suc place) r) ≡ on_element place before (λ k. former_scan k (suc place) r)
    by (symbol k v w) now h f more = rw (h, more (w - 1) f)
    by (gap w) now h f more = rw (h, more (w - 1) f)
    by (wrong n k) now h f more = cc

first-none : (size : ℕ) (m : Matching) (f : Fault) → first_fault size m f ≡ none → f ≡ none
first-none size (unmatched place) f e = cc
first-none size (matched wanted) (fault number place) e = cc
first-none size (matched wanted) none e = refl

good_none : (f : Fault) (xs : List Symbol) {ss : List Symbol} → on_fault f xs ≡ good ss → f ≡ none
good_none none xs e = refl
good_none (fault number place) xs e = cc

-- a text whose symbols were good has just those symbols
pub symbols-kept : (text : List ℕ) {ss : List Symbol} → former_symbols text ≡ good ss → symbols_of text ≡ good ss
unfolding former_symbols symbols_of scan
symbols-kept text e = let m = brackets [] (former_scan 0 0 text).symbols in
    let f = (former_scan 0 0 text).ending in
    let n : f ≡ none
    = first-none (length text) m f (good_none (first_fault (length text) m f) (semicolons text (numbered 0 (former_scan 0 0 text).symbols)) e) in
    rw (scan-kept 0 0 text n) e

-- and a string that was read has just those characters
pub characters-kept : (bs cs : List ℕ) (w : ℕ) → formerly 34 0 bs ≡ read cs w → length cs ≤ 255 → quoted 34 255 0 bs ≡ closed cs w
characters-kept bs cs w e = rw e at (constant-kept 34 255 0 bs)
