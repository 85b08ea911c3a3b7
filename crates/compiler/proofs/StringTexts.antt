-- The text of the strings: a character by its escape, a string's line, the lines of one symbol, and loops over all symbols.
use Rattle.laws.proofs.Basics.{ℕ, suc, ◌+◌, ◌-◌, ◌*◌, ◌/◌, ◌%◌, ◌<◌, ◌≤◌, ◌≡◌, refl, sym, ap, ◌∙◌, List, [], ◌∷◌, ◌++◌, append_assoc, append-nil}
use Rattle.laws.proofs.Basics.{cond, length, get_or, drop, length-append, drop-drop, get_or-drop, eqb, add-zero, arith, eq-eqb, ne_eqb, le-leb}
use Rattle.laws.proofs.Basics.{lt-leb}
use Rattle.laws.proofs.Cases.{by_cases, either}
use Rattle.text.specs.Quoted.{closed, characters_of, quoted, character, is, closing, ended, mistake}
use Rattle.text.proofs.Bytes.{Unlike}
use Rattle.text.proofs.Constants.{closed-next, closed-end, closed-goes-on, closed-right}
use Rattle.items.specs.Item as I
use Rattle.items.specs.Render.{plain_text, character_text, characters_text, render}
use Rattle.language.specs.Kinds.{STRING}
use Rattle.language.specs.Symbols.{Symbol}
use Rattle.language.specs.Whole.{strings_among}
use Rattle.code.specs.Generate.{strings_code}
use Rattle.tree.specs.Read.{decoded}
use Rattle.writing.specs.Text.{Appends, line, lines}
use Rattle.writing.proofs.Laws.{appends_then, appends_as, appends_none, lines_then}
use Rattle.compiler.specs.Strings.{string_count, one_if, Ends, AllEnd, Escapes, WritesCharacters, WritesString, symbol_code, WritesSymbol}
use Rattle.compiler.specs.Strings.{WritesStrings}
use Rattle.compiler.proofs.StringsEnd.{first_ends, others-end}

pub two_bytes : {a b at x r : ℕ} {t t₁ t₂ : List ℕ} → Appends (a ∷ []) at x t t₁ → Appends (b ∷ []) x r t₁ t₂ → Appends (a ∷ b ∷ []) at r t t₂
two_bytes p q = appends_then p q

-- ---- a character

-- four bytes, one after the other
pub four_bytes : {a b c d at x y z r : ℕ} {t t₁ t₂ t₃ t₄ : List ℕ} → Appends (a ∷ []) at x t t₁ → Appends (b ∷ []) x y t₁ t₂
    → Appends (c ∷ []) y z t₂ t₃ → Appends (d ∷ []) z r t₃ t₄ → Appends (a ∷ b ∷ c ∷ d ∷ []) at r t t₄
four_bytes p q u v = appends_then p (appends_then q (appends_then u v))

module _ {c at r : ℕ} {t t' : List ℕ} where
  pub plain_low : c < 32 → Appends (42 ∷ (48 + c / 100) ∷ (48 + c / 10 % 10) ∷ (48 + c % 10) ∷ []) at r t t' → Appends (plain_text c) at r t t'
  unfolding plain_text
  plain_low h p = appends_as p (rw (lt-leb 32 c h))

  pub plain_high : 32 ≤ c → 126 < c → Appends (42 ∷ (48 + c / 100) ∷ (48 + c / 10 % 10) ∷ (48 + c % 10) ∷ []) at r t t'
      → Appends (plain_text c) at r t t'
  unfolding plain_text
  plain_high l h p = appends_as p (rw (le-leb 32 c l, lt-leb c 126 h))

  pub plain_itself : 32 ≤ c → c ≤ 126 → Appends (c ∷ []) at r t t' → Appends (plain_text c) at r t t'
  unfolding plain_text
  plain_itself l h p = appends_as p (rw (le-leb 32 c l, le-leb c 126 h))

pub no-escape : {c : ℕ} → Unlike c (34 ∷ 42 ∷ 13 ∷ 12 ∷ 8 ∷ 9 ∷ 10 ∷ []) → Escapes c 0
unfolding character_text
no-escape {c} h = record {
  plain = λ _. rw (ne_eqb c 10 h.0.0.0.0.0.0.1, ne_eqb c 9 h.0.0.0.0.0.1, ne_eqb c 8 h.0.0.0.0.1)
      (rw (ne_eqb c 12 h.0.0.0.1, ne_eqb c 13 h.0.0.1, ne_eqb c 42 h.0.1, ne_eqb c 34 h.1));
  starred = λ n. absurd (n refl);
}

-- a byte that has an escape
pub escapes : {c : ℕ} (k e : ℕ) → c ≡ k → (e ≡ 0 → ⊥) → character_text k ≡ 42 ∷ e ∷ [] → Escapes c e
escapes k e q n h = record { plain = λ z. absurd (n z); starred = λ _. rw q h }

pub put-plain : {c e at r : ℕ} {t t' : List ℕ} → Escapes c e → e ≡ 0 → Appends (plain_text c) at r t t' → Appends (character_text c) at r t t'
put-plain x z p = appends_as p (x.plain z)

pub put-starred : {c e at x r : ℕ} {t t₁ t₂ : List ℕ} → Escapes c e → (e ≡ 0 → ⊥) → Appends (42 ∷ []) at x t t₁ → Appends (e ∷ []) x r t₁ t₂
    → Appends (character_text c) at r t t₂
put-starred x n p q = appends_as (two_bytes p q) (x.starred n)

-- ---- the characters up to the quote: `done` are written, `rest` is left

pub record CharactersPart (source : List ℕ) (i at x : ℕ) (t t' : List ℕ) (cs : List ℕ) : Type 0 where
  pub done : List ℕ
  pub rest : List ℕ
  pub width : ℕ
  pub all : cs ≡ done ++ rest
  pub left : quoted 34 255 0 (drop i source) ≡ closed rest width
  pub text : Appends (characters_text done) at x t t'

pub record Spelling (source : List ℕ) (from i at x : ℕ) (t t' : List ℕ) : Type 0 where
  pub by : (cs : List ℕ) (width : ℕ) → quoted 34 255 0 (drop from source) ≡ closed cs width → CharactersPart source i at x t t' cs

pub spelling-begin : {source : List ℕ} {from at : ℕ} {t : List ℕ} → Spelling source from from at at t t
unfolding characters_text
spelling-begin = record { by = λ cs width e. record { done = []; rest = cs; width = width; all = refl; left = e; text = appends_none } }

characters-then : (a b : List ℕ) → characters_text (a ++ b) ≡ characters_text a ++ characters_text b
unfolding characters_text
characters-then [] b = refl
characters-then (c ∷ a) b = simp (characters-then a b, append_assoc)

pub spelling-next : {source : List ℕ} {from i at x r c w : ℕ} {t t₁ t₂ : List ℕ} → character 34 (drop i source) ≡ is c w
    → Appends (character_text c) x r t₁ t₂ → Spelling source from i at x t t₁ → Spelling source from (i + w) at r t t₂
unfolding characters_text
spelling-next {source} {i = i} {c = c} {w} e p q = record {
  by = λ cs width z. let k = q.by cs width z in let n = closed-next 34 255 source i k.left e in record {
    done = k.done ++ (c ∷ []);
    rest = n.rest;
    width = n.width;
    all = simp (k.all, n.are, append_assoc);
    left = n.more;
    text = appends_as (appends_then k.text p) (simp (characters-then k.done (c ∷ []), append-nil));
  };
}

-- at the quote; and what is closed goes on to its quote, and has no mistake before it
module _ {source : List ℕ} {from i at x : ℕ} {t t' : List ℕ} where
  pub spelling-end : character 34 (drop i source) ≡ closing → Spelling source from i at x t t' → WritesCharacters source from at x t t'
  spelling-end e q = record {
    by = λ cs width z. let k = q.by cs width z in let g = closed-end 34 255 source i k.left e in
        appends_as k.text (ap characters_text (simp (k.all, g, append-nil)));
  }

  pub spelling-ended : character 34 (drop i source) ≡ ended → Spelling source from i at x t t' → WritesCharacters source from at x t t'
  spelling-ended e q = record { by = λ cs width z. absurd (closed-goes-on 34 255 source i (q.by cs width z).left e) }

  pub spelling-mistake : {number : ℕ} → character 34 (drop i source) ≡ mistake number → Spelling source from i at x t t'
      → WritesCharacters source from at x t t'
  spelling-mistake e q = record { by = λ cs width z. absurd (closed-right 34 255 source i (q.by cs width z).left e) }

-- ---- a string's line, and a symbol's lines

pub string-put : {source : List ℕ} {place at a b c d r : ℕ} {t t₁ t₂ t₃ t₄ t₅ : List ℕ} → Appends (67 ∷ []) at a t t₁ → Appends (34 ∷ []) a b t₁ t₂
    → WritesCharacters source (place + 1) b c t₂ t₃ → Appends (34 ∷ []) c d t₃ t₄ → Appends (10 ∷ []) d r t₄ t₅ → WritesString source place at r t t₅
unfolding line render
string-put {source} {place} p q w u v = record {
  by = λ e. let z : place + 1 ≡ suc place = omega arith in
      appends_as (appends_then p (appends_then q (appends_then (w.by e.characters e.width (rw z e.closes)) (appends_then u v))))
      (simp append_assoc);
}

pub symbol-none : {source : List ℕ} {kind place l at : ℕ} {t : List ℕ} → (kind ≡ STRING → ⊥) → WritesSymbol source kind place l at at t t
unfolding symbol_code lines
symbol-none {source} {kind} n = record { by = λ e. rw (ne_eqb kind STRING n) appends_none }

pub symbol-put : {source : List ℕ} {kind place l at x r : ℕ} {t t₁ t₂ : List ℕ} → kind ≡ STRING → Appends (line (I.label l)) at x t t₁
    → WritesString source place x r t₁ t₂ → WritesSymbol source kind place l at r t t₂
unfolding symbol_code lines
symbol-put {source} {kind} q p w =
    record { by = λ e. let z = e q in rw (eq-eqb kind STRING q, z.closes) (appends_as (appends_then p (w.by z)) (simp append-nil)) }

-- ---- loops over the symbols: those from i on

unfoldable pub symbols_from : (count : ℕ) (s : List ℕ) (i : ℕ) → List Symbol
symbols_from count s i = decoded (count - i) (drop (i * 3) s)

pub symbols-all : (count : ℕ) (s : List ℕ) → symbols_from count s 0 ≡ decoded count s
unfolding symbols_from
symbols-all count s = let z : count - 0 ≡ count = omega arith in rw z

symbols-more : (count : ℕ) (s : List ℕ) (i : ℕ) → i < count → symbols_from count s i ≡
    record { kind = get_or s (i * 3) 0; value = get_or s (i * 3 + 1) 0; place = get_or s (i * 3 + 2) 0 } ∷ symbols_from count s (i + 1)
unfolding symbols_from decoded
symbols-more count s i h = let z : count - i ≡ suc (count - (i + 1)) = omega arith in
    let y : i * 3 + 3 ≡ (i + 1) * 3 = omega arith in
    let y0 : i * 3 + 0 ≡ i * 3 = omega arith in
    rw (z, get_or-drop (i * 3) s 0 0, y0, get_or-drop (i * 3) s 1 0, get_or-drop (i * 3) s 2 0, drop-drop 3 (i * 3) s, y)

symbols-none : (count : ℕ) (s : List ℕ) (i : ℕ) → count ≤ i → symbols_from count s i ≡ []
unfolding symbols_from decoded
symbols-none count s i h = let z : count - i ≡ 0 = omega arith in rw z

pub one_if_yes : {kind : ℕ} → kind ≡ STRING → 1 ≡ one_if kind
unfolding one_if
one_if_yes {kind} e = rw (eq-eqb kind STRING e)

pub one_if_no : {kind : ℕ} → (kind ≡ STRING → ⊥) → 0 ≡ one_if kind
unfolding one_if
one_if_no {kind} e = rw (ne_eqb kind STRING e)

pub one_if-small : (kind : ℕ) → one_if kind ≤ 1
unfolding one_if
one_if-small kind = either (λ (n : ℕ). n ≤ 1) (eqb kind STRING) (λ e. omega arith) (λ e. omega arith)

-- n are counted among the first i
pub record Counted (count : ℕ) (s : List ℕ) (i n : ℕ) : Type 0 where
  pub sum : n + string_count (symbols_from count s i) ≡ string_count (decoded count s)
  pub few : n ≤ i

pub counted-begin : {count : ℕ} {s : List ℕ} → Counted count s 0 0
counted-begin {count} {s} = record { sum = rw (symbols-all count s) (omega arith); few = omega arith }

count-one : (x : Symbol) (xs : List Symbol) → string_count (x ∷ xs) ≡ one_if x.kind + string_count xs
unfolding string_count one_if
count-one x xs = by_cases (eqb x.kind STRING) (λ e. rw e (omega arith)) (λ e. rw e (omega arith))

pub counted_next : {count : ℕ} {s : List ℕ} {i n k d : ℕ} → i < count → k ≡ get_or s (i * 3) 0 → d ≡ one_if k → Counted count s i n
    → Counted count s (i + 1) (n + d)
counted_next {count} {s} {i} {n} {k} {d} h e f q =
    let z = ap string_count (symbols-more count s i h) ∙ count-one _ (symbols_from count s (i + 1)) in let y : d ≡ one_if (get_or s (i * 3) 0) = f
    ∙ ap one_if e in
    record { sum = omega arith; few = omega (arith, one_if-small k) }

pub counted-end : {count : ℕ} {s : List ℕ} {i n : ℕ} → count ≤ i → Counted count s i n → n ≡ string_count (decoded count s)
unfolding string_count
counted-end {count} {s} {i} h q = omega (arith, ap string_count (symbols-none count s i h))

-- the first i are written, up to x, and n is the next label
pub record StringsPart (source s : List ℕ) (count first i n at x : ℕ) (t t' : List ℕ) : Type 0 where
  pub done : List (List ℕ)
  pub next : n ≡ first + length done
  pub ends : AllEnd source (symbols_from count s i)
  pub all : strings_among source (decoded count s) ≡ done ++ strings_among source (symbols_from count s i)
  pub text : Appends (lines (strings_code first done)) at x t t'

pub record Listing (source s : List ℕ) (count first i n at x : ℕ) (t t' : List ℕ) : Type 0 where
  pub by : AllEnd source (decoded count s) → StringsPart source s count first i n at x t t'

pub listing-begin : {source s : List ℕ} {count first at : ℕ} {t : List ℕ} → Listing source s count first 0 first at at t t
unfolding strings_code lines
listing-begin {source} {s} {count} = record {
  by = λ e. record { done = []; next = omega arith; ends = rw (symbols-all count s) e; all = rw (symbols-all count s) refl; text = appends_none };
}

strings-then : (l : ℕ) (a b : List (List ℕ)) → strings_code l (a ++ b) ≡ strings_code l a ++ strings_code (l + length a) b
unfolding strings_code
strings-then l [] b = rw (add-zero l)
strings-then l (c ∷ a) b = let z : suc l + length a ≡ l + suc (length a) = omega arith in
    ap (λ (is : List I.Item). I.label l ∷ I.string c ∷ is) (strings-then (suc l) a b ∙ rw z)

-- the strings of one symbol, as many as `one_if` says
unfoldable of_symbol : (source : List ℕ) (kind place : ℕ) → List (List ℕ)
of_symbol source kind place = cond (eqb kind STRING) (characters_of (quoted 34 255 0 (drop (suc place) source)) ∷ []) []

of-symbol-code : (source : List ℕ) (kind place l : ℕ) → symbol_code source kind place l ≡ strings_code l (of_symbol source kind place)
unfolding symbol_code strings_code of_symbol
of-symbol-code source kind place l = by_cases (eqb kind STRING) (λ e. rw e) (λ e. rw e)

of-symbol-count : (source : List ℕ) (kind place : ℕ) → length (of_symbol source kind place) ≡ one_if kind
unfolding one_if of_symbol
of-symbol-count source kind place = by_cases (eqb kind STRING) (λ e. rw e) (λ e. rw e)

of-symbol-first : (source : List ℕ) (x : Symbol) (xs : List Symbol)
    → strings_among source (x ∷ xs) ≡ of_symbol source x.kind x.place ++ strings_among source xs
unfolding strings_among of_symbol
of-symbol-first source x xs = by_cases (eqb x.kind STRING) (λ e. rw e) (λ e. rw e)

pub listing-next : {source s : List ℕ} {count first i n at x r k p d : ℕ} {t t₁ t₂ : List ℕ} → i < count → k ≡ get_or s (i * 3) 0
    → p ≡ get_or s (i * 3 + 2) 0 → d ≡ one_if k
    → WritesSymbol source k p n x r t₁ t₂ → Listing source s count first i n at x t t₁ → Listing source s count first (i + 1) (n + d) at r t t₂
listing-next {source} {s} {count} {first} {i} {n} {at} {x} {r} {k} {p} h ek ep ed w q = record {
  by = λ e. let y = q.by e in let m = symbols-more count s i h in let a = rw m at y.ends in let o = of_symbol source k p in
      let f : k ≡ STRING → Ends source p = λ z. rw ep (first_ends a (sym ek ∙ z)) in let l = length-append y.done o in
      let j = lines_then (strings_code first y.done) (strings_code (first + length y.done) o) in
      record {
        done = y.done ++ o;
        next = omega (arith, of-symbol-count source k p);
        ends = others-end a;
        all = y.all ∙ ap (λ (z : List (List ℕ)). y.done ++ z) (ap (strings_among source) m ∙ of-symbol-first source _ (symbols_from count s (i + 1))
            ∙ rw (ek, ep) refl) ∙ sym (append_assoc y.done o (strings_among source (symbols_from count s (i + 1))));
        text = appends_as (appends_then y.text (w.by f)) (cc (strings-then first y.done o, j, of-symbol-code source k p n));
      };
}

pub listing-end : {source s : List ℕ} {count first i n at x : ℕ} {t t' : List ℕ} → count ≤ i → Listing source s count first i n at x t t'
    → WritesStrings source s count first at x t t'
unfolding strings_among
listing-end {source} {s} {count} {first} {i} h q = record {
  by = λ e. let y = q.by e in appends_as y.text (simp (y.all, symbols-none count s i h, append-nil));
}
