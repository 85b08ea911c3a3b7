-- What is known of a source's symbols: numbers are words, as are the places and widths of names, strings have their positions, and no more
-- symbols are counted than were scanned.
use Rattle.laws.proofs.Basics.{ℕ, zero, suc, ◌+◌, ◌-◌, ◌<◌, ◌≤◌, ◌≡◌, refl, sym, ap, ◌∙◌, List, [], ◌∷◌, Bool, true, false, cond, length, get_or}
use Rattle.laws.proofs.Basics.{take}
use Rattle.laws.proofs.Basics.{drop, drop-drop, eqb, arith, eqb-true, eqb-false, ne_eqb}
use Rattle.laws.proofs.Cases.{by_cases, by_cond, either, contradiction}
use Rattle.text.specs.Quoted.{characters_of, quoted}
use Rattle.language.specs.Kinds.{member, NOTHING, NAME, NUMBER, STRING, SEMICOLON}
use Rattle.language.specs.Bytes.{class_of}
use Rattle.language.specs.Symbols.{Symbol, Element, symbol, gap, wrong, by_class, Scan, on_element, scan_from, scan}
use Rattle.language.specs.Strings.{with_value, numbered}
use Rattle.language.specs.Semicolons.{inserted, gains, semicolons_after, semicolons}
use Rattle.language.specs.Whole.{strings_among}
use Rattle.language.specs.Binding.{is_repeat}
use Rattle.language.specs.Reader.{Source, symbol_at}
use Rattle.language.proofs.Takes.{Counts}
use Rattle.language.proofs.Elements.{Closes, KnownElement, a-symbol, known-element}

-- ---- the symbols

-- the characters of a string at a place
abbrev pub characters_at : (text : List ℕ) (place : ℕ) → List ℕ
characters_at text place = characters_of (quoted 34 255 0 (drop (suc place) text))

-- a number's value is a word, a name lies within the text, and a string is closed
pub record Worded (text : List ℕ) (x : Symbol) : Type 0 where
  pub number : x.kind ≡ NUMBER → x.value < 65536
  pub name : x.kind ≡ NAME → x.place + x.value ≤ length text
  pub closes : x.kind ≡ STRING → Closes (drop (suc x.place) text)

unfoldable pub AllWords : (text : List ℕ) → List Symbol → Type 0
AllWords text [] = Unit {0}
AllWords text (x ∷ xs) = Worded text x × AllWords text xs

pub next-drop : (text : List ℕ) (place : ℕ) {bs : List ℕ} → bs ≡ drop place text → drop 1 bs ≡ drop (suc place) text
next-drop text place q = let z : place + 1 ≡ suc place = omega arith in ap (drop 1) q ∙ (rw z at (drop-drop 1 place text))

module _ (text : List ℕ) where
  on-element : (place : ℕ) (bs : List ℕ) (e : Element) (more : ℕ → Scan) → bs ≡ drop place text → place + length bs ≤ length text → KnownElement bs e
      → ((n : ℕ) → AllWords text (more n).symbols) → AllWords text (on_element place e more).symbols
  unfolding AllWords
  on-element place bs (symbol kind value width) more q l (a-symbol k) h = let z = next-drop text place q in
      (record { number = k.number; name = λ e. omega (arith, k.name e); closes = λ e. rw z at (k.closes e) }, h (width - 1))
  on-element place bs (gap width) more q l k h = h (width - 1)
  on-element place bs (wrong number offset) more q l k h = tt

  scanned-words : (over place : ℕ) (bs : List ℕ) → bs ≡ drop place text → place + length bs ≤ length text
      → AllWords text (scan_from over place bs).symbols
  unfolding scan_from AllWords
  scanned-words over place [] q l = tt
  scanned-words (suc n) place (b ∷ bs) q l = scanned-words n (suc place) bs (next-drop text place q) (omega arith)
  scanned-words zero place (b ∷ bs) q l =
      on-element place (b ∷ bs) _ _ q l (known-element (b ∷ bs) _) (λ n. scanned-words n (suc place) bs (next-drop text place q) (omega arith))

-- at most one symbol a byte
on-element-length : (place : ℕ) (e : Element) (more : ℕ → Scan) (n : ℕ) → ((k : ℕ) → length (more k).symbols ≤ n)
    → length (on_element place e more).symbols ≤ suc n
on-element-length place (symbol kind value width) more n g = omega (arith, g (width - 1))
on-element-length place (gap width) more n g = omega (arith, g (width - 1))
on-element-length place (wrong number offset) more n g = omega arith

scanned-length : (over place : ℕ) (bs : List ℕ) → length (scan_from over place bs).symbols ≤ length bs
unfolding scan_from
scanned-length over place [] = omega arith
scanned-length (suc n) place (b ∷ bs) = omega (arith, scanned-length n (suc place) bs)
scanned-length zero place (b ∷ bs) =
    on-element-length place (by_class (class_of b) (b ∷ bs)) (λ k. scan_from k (suc place) bs) (length bs) (λ n. scanned-length n (suc place) bs)

pub scan-length : (text : List ℕ) → length (scan text).symbols ≤ length text
unfolding scan
scan-length text = scanned-length 0 0 text

-- a symbol of another kind
other : {text : List ℕ} (x : Symbol) → (x.kind ≡ NUMBER → ⊥) × (x.kind ≡ NAME → ⊥) × (x.kind ≡ STRING → ⊥) → Worded text x
other x h = record { number = λ e. absurd (h.0 e); name = λ e. absurd (h.1 e); closes = λ e. absurd (h.2 e) }

-- strings counted; each has a position below
unfoldable pub count_strings : List Symbol → ℕ
count_strings [] = 0
count_strings (x ∷ xs) = cond (eqb x.kind STRING) (suc (count_strings xs)) (count_strings xs)

unfoldable pub Below : (n : ℕ) → List Symbol → Type 0
Below n [] = Unit {0}
Below n (x ∷ xs) = (x.kind ≡ STRING → x.value < n) × Below n xs

-- symbols counted, semicolons apart, a REPEAT form as so many
abbrev pub weight : (loops kind : ℕ) → ℕ
weight loops kind = cond (eqb kind SEMICOLON) 0 (cond (is_repeat kind) loops 1)

unfoldable pub cost : (loops : ℕ) → List Symbol → ℕ
cost loops [] = 0
cost loops (x ∷ xs) = weight loops x.kind + cost loops xs

-- what numbers for the strings, and inserted semicolons, keep
record Kept (text : List ℕ) (m : ℕ) (xs ys : List Symbol) : Type 0 where
  words : AllWords text xs → AllWords text ys
  below : Below m ys
  count : count_strings ys ≡ count_strings xs
  fewer : (loops : ℕ) → cost loops ys ≡ cost loops xs
  same : strings_among text ys ≡ strings_among text xs

one_more : (text : List ℕ) (m : ℕ) (x : Symbol) (xs ys : List Symbol) → (x.kind ≡ STRING → x.value < m) → Kept text m xs ys
    → Kept text m (x ∷ xs) (x ∷ ys)
unfolding AllWords Below count_strings cost strings_among
one_more text m x xs ys g k = record {
  words = λ f. (f.0, k.words f.1);
  below = (g, k.below);
  count = rw k.count refl;
  fewer = λ loops. rw (k.fewer loops) refl;
  same = rw k.same refl;
}

kept-none : (text : List ℕ) (m : ℕ) → Kept text m [] []
unfolding AllWords Below count_strings cost strings_among
kept-none text m = record { words = λ f. f; below = tt; count = refl; fewer = λ loops. refl; same = refl }

kept-both : {text : List ℕ} {m : ℕ} {xs ys zs : List Symbol} → Kept text m xs ys → Kept text m ys zs → Kept text m xs zs
kept-both k l = record {
  words = λ f. l.words (k.words f);
  below = l.below;
  count = l.count ∙ k.count;
  fewer = λ loops. l.fewer loops ∙ k.fewer loops;
  same = l.same ∙ k.same;
}

-- a string with its number
with_number : (text : List ℕ) (n m : ℕ) (x : Symbol) (xs ys : List Symbol) → eqb x.kind STRING ≡ true → n < m → Kept text m xs ys
    → Kept text m (x ∷ xs) (with_value n x ∷ ys)
unfolding AllWords Below count_strings cost strings_among
with_number text n m x xs ys e l k = let z : x.kind ≡ STRING = eqb-true _ _ e in
    record {
      words = λ f. (record { number = λ q. absurd (omega arith); name = λ q. absurd (omega arith); closes = f.0.closes }, k.words f.1);
      below = ((λ q. l), k.below);
      count = rw k.count refl;
      fewer = λ loops. rw (k.fewer loops) refl;
      same = rw k.same refl;
    }

numbered-kept : (text : List ℕ) (n m : ℕ) (xs : List Symbol) → n + count_strings xs ≤ m → Kept text m xs (numbered n xs)
unfolding numbered count_strings
numbered-kept text n m [] h = kept-none text m
numbered-kept text n m (x ∷ xs) h = either (Kept text m (x ∷ xs)) (eqb x.kind STRING) (λ e. let l : n + suc (count_strings xs) ≤ m = rw e at h in
    with_number text n m x xs _ e (omega arith) (numbered-kept text (suc n) m xs (omega arith)))
    (λ e. one_more text m x xs _ (λ q. absurd (eqb-false _ _ e q)) (numbered-kept text n m xs (rw e at h)))

with-semicolon : (text : List ℕ) (m : ℕ) (x : Symbol) (xs ys : List Symbol) → Kept text m xs ys → (b : Bool) → Kept text m xs (inserted b x ys)
unfolding AllWords Below count_strings cost strings_among
with-semicolon text m x xs ys k false = k
with-semicolon text m x xs ys k true = record {
  words = λ f. (other _ (omega arith), k.words f);
  below = ((λ e. absurd (omega arith)), k.below);
  count = k.count;
  fewer = λ loops. omega (arith, k.fewer loops);
  same = k.same;
}

kept-after : (m : ℕ) (text : List ℕ) (before : Symbol) (xs : List Symbol) → Below m xs → Kept text m xs (semicolons_after text before xs)
unfolding semicolons_after AllWords Below count_strings cost
kept-after m text before [] g = kept-none text m
kept-after m text before (x ∷ xs) g = with-semicolon text m x (x ∷ xs) (x ∷ semicolons_after text x xs)
    (one_more text m x xs (semicolons_after text x xs) g.0 (kept-after m text x xs g.1)) (gains text before x)

kept-all : (m : ℕ) (text : List ℕ) (xs : List Symbol) → Below m xs → Kept text m xs (semicolons text xs)
unfolding semicolons AllWords Below count_strings cost
kept-all m text [] g = kept-none text m
kept-all m text (x ∷ xs) g = one_more text m x xs (semicolons_after text x xs) g.0 (kept-after m text x xs g.1)

strings-count : (text : List ℕ) (xs : List Symbol) → length (strings_among text xs) ≡ count_strings xs
unfolding strings_among count_strings
strings-count text [] = refl
strings-count text (x ∷ xs) = by_cases (eqb x.kind STRING) (λ t. rw t (ap suc (strings-count text xs))) (λ t. rw t (strings-count text xs))

-- ---- by position

words-at : (text : List ℕ) (xs : List Symbol) (d : Symbol) (n : ℕ) → AllWords text xs → Worded text d → Worded text (get_or xs n d)
unfolding AllWords
words-at text [] d n h f = f
words-at text (x ∷ xs) d zero h f = h.0
words-at text (x ∷ xs) d (suc n) h f = words-at text xs d n h.1 f

below_at : (m : ℕ) (xs : List Symbol) (d : Symbol) (n : ℕ) → Below m xs → (d.kind ≡ STRING → ⊥) → (get_or xs n d).kind ≡ STRING → (get_or xs n d).value < m
unfolding Below
below_at m [] d n h f e = absurd (f e)
below_at m (x ∷ xs) d zero h f e = h.0 e
below_at m (x ∷ xs) d (suc n) h f e = below_at m xs d n h.1 f e

cost-up : (loops : ℕ) (xs : List Symbol) (n : ℕ) → cost loops (take n xs) ≤ cost loops (take (suc n) xs)
unfolding cost
cost-up loops [] n = go n
  where
    go : (n : ℕ) → cost loops (take n []) ≤ cost loops (take (suc n) [])
    go zero = omega arith
    go (suc n) = omega arith
cost-up loops (x ∷ xs) zero = omega arith
cost-up loops (x ∷ xs) (suc n) = omega (arith, cost-up loops xs n)

one-weight : (loops kind : ℕ) → 1 ≤ loops → (kind ≡ SEMICOLON → ⊥) → 1 ≤ weight loops kind
one-weight loops kind l f = rw (ne_eqb kind SEMICOLON f) (by_cond (λ n. 1 ≤ n) (is_repeat kind) l (omega arith))

again-weight : (loops kind : ℕ) → is_repeat kind ≡ true → loops ≤ weight loops kind
unfolding is_repeat member
again-weight loops kind h =
    by_cases (eqb kind SEMICOLON) (λ e. rw e (let q : kind ≡ SEMICOLON = eqb-true _ _ e in let z : false ≡ true = rw q at h in contradiction cc))
    (λ e. rw e (rw h (omega arith)))

cost-one : (loops : ℕ) → 1 ≤ loops → (xs : List Symbol) (d : Symbol) (n : ℕ) → d.kind ≡ NOTHING → 1 ≤ (get_or xs n d).kind
    → ((get_or xs n d).kind ≡ SEMICOLON → ⊥) → suc (cost loops (take n xs)) ≤ cost loops (take (suc n) xs)
unfolding cost
cost-one loops l [] d n e h f = absurd (omega arith)
cost-one loops l (x ∷ xs) d zero e h f = omega (arith, one-weight loops x.kind l f)
cost-one loops l (x ∷ xs) d (suc n) e h f = omega (arith, cost-one loops l xs d n e h f)

cost-again : (loops : ℕ) (xs : List Symbol) (d : Symbol) (n : ℕ) → is_repeat d.kind ≡ false → is_repeat (get_or xs n d).kind ≡ true
    → cost loops (take n xs) + loops ≤ cost loops (take (suc n) xs)
unfolding cost
cost-again loops [] d n e h = let z : false ≡ true = sym e ∙ h in contradiction cc
cost-again loops (x ∷ xs) d zero e h = omega (arith, again-weight loops x.kind h)
cost-again loops (x ∷ xs) d (suc n) e h = omega (arith, cost-again loops xs d n e h)

cost-most : (loops : ℕ) (xs : List Symbol) (n : ℕ) → cost loops (take n xs) ≤ cost loops xs
unfolding cost
cost-most loops [] zero = omega arith
cost-most loops [] (suc n) = omega arith
cost-most loops (x ∷ xs) zero = omega arith
cost-most loops (x ∷ xs) (suc n) = omega (arith, cost-most loops xs n)

-- one a symbol
pub cost-length : (xs : List Symbol) → cost 1 xs ≤ length xs
unfolding cost
cost-length [] = omega arith
cost-length (x ∷ xs) = let one : weight 1 x.kind ≤ 1
    = by_cond (λ n. n ≤ 1) (eqb x.kind SEMICOLON) (omega arith) (by_cond (λ n. n ≤ 1) (is_repeat x.kind) (omega arith) (omega arith)) in
    omega (arith, cost-length xs)

-- ---- the symbols of a source

abbrev pub symbols_now : List ℕ → List Symbol
symbols_now text = semicolons text (numbered 0 (scan text).symbols)

abbrev pub source_now : List ℕ → Source
source_now text = record { symbols = symbols_now text; size = length text }

kept-now : (text : List ℕ) → Kept text (count_strings (scan text).symbols) (scan text).symbols (symbols_now text)
kept-now text = let k = numbered-kept text 0 (count_strings (scan text).symbols) (scan text).symbols (omega arith) in
    kept-both k (kept-all _ text _ k.below)

pub words-now : (text : List ℕ) → AllWords text (symbols_now text)
unfolding scan
words-now text = (kept-now text).words (scanned-words text 0 0 text refl (omega arith))

pub strings-now : (text : List ℕ) → length (strings_among text (symbols_now text)) ≡ count_strings (scan text).symbols
strings-now text = strings-count text (symbols_now text) ∙ (kept-now text).count

-- no more is counted than was scanned
pub cost-now : (loops : ℕ) (text : List ℕ) (n : ℕ) → cost loops (take n (symbols_now text)) ≤ cost loops (scan text).symbols
cost-now loops text n = omega (arith, cost-most loops (symbols_now text) n, (kept-now text).fewer loops)

-- the strings are those scanned
pub same-now : (text : List ℕ) → strings_among text (symbols_now text) ≡ strings_among text (scan text).symbols
same-now text = (kept-now text).same

pub counts : (loops : ℕ) → 1 ≤ loops → (text : List ℕ) → length text ≤ 65535 → cost loops (scan text).symbols ≤ 65535
    → Counts loops (source_now text) (length (strings_among text (symbols_now text))) (λ at. cost loops (take at (symbols_now text)))
unfolding is_repeat member
counts loops some text short few = record {
  up = λ at. let z : at + 1 ≡ suc at = omega arith in rw z (cost-up loops (symbols_now text) at);
  one = λ at h f. let z : at + 1 ≡ suc at = omega arith in rw z (cost-one loops some (symbols_now text) _ at refl h f);
  again = λ at h. let z : at + 1 ≡ suc at = omega arith in rw z (cost-again loops (symbols_now text) _ at refl h);
  most = λ at. omega (arith, cost-now loops text at);
  numbers = λ at e. (known at).number e;
  names = λ at e. record { place = omega (arith, (known at).name e); width = omega (arith, (known at).name e) };
  quotes = λ at e. rw (strings-now text) (below_at _ (symbols_now text) _ at (kept-now text).below (λ q. omega arith) e);
}
  where
    known : (at : ℕ) → Worded text (symbol_at (source_now text) at)
    known at = words-at text (symbols_now text) _ at (words-now text) (other _ (omega arith))
