-- Semicolons and strings, one symbol at a time. The symbols, inserted semicolons among them, are no more than the bytes.
use Rattle.laws.proofs.Basics.{ℕ, zero, suc, ◌+◌, ◌-◌, ◌<◌, ◌≤◌, ◌≡◌, refl, sym, ap, ◌∙◌, List, [], ◌∷◌, Bool, true, false, not, ◌&&◌, cond, length}
use Rattle.laws.proofs.Basics.{drop, length-drop, eqb, ltb, add-one, arith, eq-eqb, ltb-true, ltb-false}
use Rattle.laws.proofs.Cases.{by_cases, by_order, contradiction, both_right}
use Rattle.text.specs.Line.{line_of}
use Rattle.language.specs.Symbols.{Element, symbol, gap, wrong, Symbol, Fault, Scan, ends, goes_on, scan}
use Rattle.language.specs.Kinds.{member}
use Rattle.language.specs.Semicolons.{ends_line, begins_line, lines_differ, gains, inserted, semicolons_after, semicolons}
use Rattle.language.specs.Strings.{numbered}
use Rattle.symbols.specs.Parts.{broken, symbol_of, gain}
use Rattle.symbols.proofs.Lines.{Stood}
use Rattle.symbols.proofs.Scanning.{element_at, scan_at, scan-end, symbol-given, symbol-line, scan-symbol, gap-given, scan-gap, scan-wrong}

-- only the kind and the line of the symbol before count
after_line : (text : List ℕ) (kind v w a b : ℕ) (ss : List Symbol) → line_of text a ≡ line_of text b
    → semicolons_after text (symbol_of kind v a) ss ≡ semicolons_after text (symbol_of kind w b) ss
unfolding semicolons_after gains lines_differ
after_line text kind v w a b [] e = refl
after_line text kind v w a b (s ∷ r) e = rw e

-- no semicolon is inserted before the first symbol
pub first-after : (text : List ℕ) (place : ℕ) (ss : List Symbol) → semicolons text ss ≡ semicolons_after text (symbol_of 0 0 place) ss
unfolding semicolons semicolons_after gains ends_line member
first-after text place [] = refl
first-after text place (s ∷ r) = refl

numbered-one : (k kind value place : ℕ) (r : List Symbol) {number k' : ℕ} → number ≡ cond (eqb kind 61) k value → k' ≡ cond (eqb kind 61) (k + 1) k
    → numbered k (symbol_of kind value place ∷ r) ≡ symbol_of kind number place ∷ numbered k' r
unfolding numbered
numbered-one k kind value place r p q = rw (p, q) (by_cases (eqb kind 61) (λ t. rw (t, add-one)) (λ t. rw t refl))

-- ---- some symbols, after one of a kind that ended at a place and with so many strings before them

abbrev pub following : (text : List ℕ) (before at strings : ℕ) → List Symbol → List Symbol
following text before at strings ss = semicolons_after text (symbol_of before 0 at) (numbered strings ss)

module _ (text : List ℕ) (before at strings past : ℕ) where
  pub following-symbol : {s : Scan} {kind value place number strings' : ℕ} {ss : List Symbol} {f : Fault}
      → s ≡ goes_on (symbol_of kind value place) (record { symbols = ss; ending = f })
      → number ≡ cond (eqb kind 61) strings value → strings' ≡ cond (eqb kind 61) (strings + 1) strings → line_of text past ≡ line_of text place
      → following text before at strings s.symbols ≡ inserted (gain before kind (broken text at place)) (symbol_of kind number place)
      (symbol_of kind number place ∷ following text kind past strings' ss)
  unfolding semicolons_after gains lines_differ
  following-symbol {s} {kind} {value} {place} {number} {strings'} {ss} e m n l = ap (λ (t : Scan). following text before at strings t.symbols) e ∙
      ap (λ (r : List Symbol). semicolons_after text (symbol_of before 0 at) r) (numbered-one strings kind value place ss m n) ∙
      ap (λ (r : List Symbol). inserted (gain before kind (broken text at place)) (symbol_of kind number place) (symbol_of kind number place ∷ r))
      (after_line text kind number 0 place past (numbered strings' ss) (sym l))

-- ---- how many there are

unfoldable pub symbols_in : List ℕ → List Symbol
symbols_in text = semicolons text (numbered 0 (scan text).symbols)

gain-breaks : (before kind : ℕ) (t : Bool) → gain before kind t ≡ true → t ≡ true
gain-breaks before kind t e = both_right (begins_line kind) t (both_right (ends_line before) (begins_line kind && t) e)

-- places on different lines are different
apart : (text : List ℕ) (from to : ℕ) → from ≤ to → broken text from to ≡ true → from < to
apart text from to h e = by_order from to (λ l. l) (λ k.
    let z : from ≡ to = omega arith in
    let y : true ≡ false = sym e ∙ ap not (eq-eqb (line_of text from) (line_of text to) (ap (line_of text) z)) in
    contradiction cc)

inserted-length : (t : Bool) (s : Symbol) (r : List Symbol) → length (inserted t s (s ∷ r)) ≡ cond t 2 1 + length r
inserted-length true s r = omega arith
inserted-length false s r = omega arith

-- the symbols from a place on, after one that ended at or before it, with `fuel` bytes or fewer left
abbrev Few : List ℕ → (fuel : ℕ) → Type 0
Few text fuel = (at before from strings : ℕ) → length text ≤ at + fuel → from ≤ at → at ≤ length text → length
    (following text before from strings (scan_at text at).symbols) ≤ length text - from

few-ended : (text : List ℕ) (before from strings : ℕ) (s : Scan) {f : Fault} → s ≡ ends f
    → length (following text before from strings s.symbols) ≤ length text - from
unfolding numbered semicolons_after
few-ended text before from strings s e = rw e (omega arith)

few-more : (text : List ℕ) (fuel : ℕ) → Few text fuel → Few text (suc fuel)
few-more text fuel ih at before from strings h k l = go (ltb at (length text)) refl
  where
    by : at < length text → (e : Element) → element_at text at ≡ e
        → length (following text before from strings (scan_at text at).symbols) ≤ length text - from
    by i (symbol kind v w) e = let g : Stood (drop at text) 0 w = (symbol-given text at i e).0 in
        let n : at + w ≤ length text = omega (arith, g.within, length-drop at text) in
        let more = following text kind (at + w) (cond (eqb kind 61) (strings + 1) strings) (scan_at text (at + w)).symbols in
        let q : length more ≤ length text - (at + w) = ih (at + w) kind (at + w) _ (omega (arith, g.some)) (omega arith) n in
        rw (following-symbol text before from strings (at + w) (scan-symbol text at i e) refl refl (symbol-line text at i e), inserted-length)
        (count (gain before kind (broken text from at)) refl g q)
      where
        count : (t : Bool) → gain before kind (broken text from at) ≡ t → Stood (drop at text) 0 w → {m : ℕ} → m ≤ length text - (at + w)
            → cond t 2 1 + m ≤ length text - from
        count true j g q = omega (arith, g.some, g.within, length-drop at text, apart text from at k (gain-breaks before kind _ j))
        count false j g q = omega (arith, g.some, g.within, length-drop at text)
    by i (gap w) e = let g : Stood (drop at text) _ w = gap-given text at i e in
        rw (scan-gap text at i e) (ih (at + w) before from strings (omega (arith, g.some)) (omega arith)
        (omega (arith, g.within, length-drop at text)))
    by i (wrong n k) e = few-ended text before from strings (scan_at text at) (scan-wrong text at i e)

    go : (t : Bool) → ltb at (length text) ≡ t → length (following text before from strings (scan_at text at).symbols) ≤ length text - from
    go true e = by (ltb-true at (length text) e) (element_at text at) refl
    go false e = few-ended text before from strings (scan_at text at) (scan-end text at (ltb-false at (length text) e))

few-from : (text : List ℕ) (fuel : ℕ) → Few text fuel
few-from text zero = λ at before from strings h k l. few-ended text before from strings (scan_at text at) (scan-end text at (omega arith))
few-from text (suc fuel) = few-more text fuel (few-from text fuel)

pub few : (text : List ℕ) → length (symbols_in text) ≤ length text
unfolding symbols_in scan
few text =
    let h : length (following text 0 0 0 (scan_at text 0).symbols) ≤ length text - 0 = few-from text (length text) 0 0 0 0 (omega arith) (omega arith)
    (omega arith) in
    rw (first-after text 0 (numbered 0 (scan text).symbols)) (omega (arith, h))
