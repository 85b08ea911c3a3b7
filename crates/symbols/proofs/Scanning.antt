-- From symbol to symbol: a scan is what stands at its place and the scan of the rest, and lines are counted on the way.
use Rattle.laws.proofs.Basics.{ℕ, zero, suc, ◌+◌, ◌-◌, ◌<◌, ◌≤◌, ◌≡◌, refl, sym, ap, ◌∙◌, List, [], ◌∷◌, ◌++◌, Bool, true, false, not, cond, length}
use Rattle.laws.proofs.Basics.{get_or, take, drop, length-drop, drop_of_length-le, drop-cons, drop-drop, eqb, add-zero, add-one, arith, eq-eqb}
use Rattle.laws.proofs.Basics.{ne_eqb}
use Rattle.laws.proofs.Basics.{add-shift}
use Rattle.laws.proofs.Cases.{by_cases}
use lib.Seq.{take-add}
use Rattle.text.specs.Line.{newlines, line_of}
use Rattle.language.specs.Bytes.{class_of}
use Rattle.language.specs.Symbols.{Element, symbol, gap, wrong, by_class, none, fault, Scan, ends, goes_on, on_element, scan_from}
use Rattle.std.proofs.lemmas.List.{get_or-drop}
use Rattle.std.specs.Prelude.{Some, None, Ok, Err}
use Rattle.text.specs.Faults as F
use Rattle.symbols.specs.Kinds.{number_of}
use Rattle.symbols.specs.Parts.{broken, symbol_of, scan_by, Next, Stands, IfOne, Finds}
use Rattle.symbols.specs.declared.kinds.Kind.{Kind}
use Rattle.symbols.specs.declared.Found.{Found}
use Rattle.symbols.specs.declared.Faulty.{Faulty}
use Rattle.symbols.proofs.Heads.{rest, rest-is}
use Rattle.symbols.proofs.Lines.{Stood, Given, element-given}

-- ---- lines

newlines-append : (a b : List ℕ) → newlines (a ++ b) ≡ newlines a + newlines b
unfolding newlines
newlines-append [] b = let z : newlines b ≡ 0 + newlines b = omega arith in z
newlines-append (c ∷ a) b = by_cases (eqb c 10) (λ t. rw t (omega (arith, newlines-append a b))) (λ t. rw t (newlines-append a b))

pub line-past : (text : List ℕ) (i w : ℕ) → line_of text (i + w) ≡ line_of text i + newlines (take w (drop i text))
unfolding line_of
line-past text i w =
    let e : newlines (take (i + w) text) ≡ newlines (take i text) + newlines (take w (drop i text)) = ap newlines (take-add i w text) ∙
    newlines-append (take i text) (take w (drop i text)) in
    omega arith

line_after : (text : List ℕ) (at i : ℕ) → at ≤ i → line_of text at ≤ line_of text i
line_after text at i h = let e : at + (i - at) ≡ i = omega arith in omega (arith, ap (line_of text) e, line-past text at (i - at))

-- ---- the scan

scan-over : (k place : ℕ) (bs : List ℕ) → scan_from k place bs ≡ scan_from 0 (place + k) (drop k bs)
unfolding scan_from
scan-over zero place bs = rw (add-zero place)
scan-over (suc k) place [] = refl
scan-over (suc k) place (c ∷ r) = rw (add-shift place k) (scan-over k (suc place) r)

abbrev pub element_at : List ℕ → ℕ → Element
element_at text i = by_class (class_of (get_or text i 0)) (drop i text)

-- the same from the rest of a text, as a slice has it
pub at-rest : (text : List ℕ) (i : ℕ) {e : Element} → e ≡ by_class (class_of (get_or (rest text i) 0 0)) (rest text i) → e ≡ element_at text i
at-rest text i e = rw (rest-is text i, get_or-drop i text 0 0, add-zero i) at e

abbrev pub scan_at : List ℕ → ℕ → Scan
scan_at text i = scan_from 0 i (drop i text)

module _ (text : List ℕ) (i : ℕ) where
  pub scan-end : length text ≤ i → scan_at text i ≡ ends none
  unfolding scan_from
  scan-end h = rw (drop_of_length-le text h)

  module _ (h : i < length text) where
    cons : drop i text ≡ get_or text i 0 ∷ drop (i + 1) text
    cons = drop-cons text i 0 h ∙ rw add-one

    scan-here : scan_at text i ≡ on_element i (element_at text i) (λ k. scan_from k (suc i) (drop (i + 1) text))
    unfolding scan_from
    scan-here = rw cons

    scan-rest : (w : ℕ) → 1 ≤ w → scan_from (w - 1) (suc i) (drop (i + 1) text) ≡ scan_at text (i + w)
    scan-rest w o = let a : suc i + (w - 1) ≡ i + w = omega arith in let b : i + 1 + (w - 1) ≡ i + w = omega arith in
        scan-over (w - 1) (suc i) (drop (i + 1) text) ∙ rw (a, drop-drop (w - 1) (i + 1) text, b)

    given-here : Given (drop i text) (cond (eqb (get_or text i 0) 10) 1 0) (element_at text i)
    given-here = rw cons (element-given (get_or text i 0) (drop (i + 1) text))

    module _ {k v w : ℕ} (e : element_at text i ≡ symbol k v w) where
      pub symbol-given : Stood (drop i text) 0 w × (k < 62) × (v ≤ 65535 + w)
      symbol-given = rw e at given-here

      pub scan-symbol : scan_at text i ≡ goes_on (symbol_of k v i) (scan_at text (i + w))
      scan-symbol = scan-here ∙ rw e (ap (goes_on (symbol_of k v i)) (scan-rest w symbol-given.0.some))

      pub symbol-line : line_of text (i + w) ≡ line_of text i
      symbol-line = let g : Stood (drop i text) 0 w = symbol-given.0 in omega (arith, line-past text i w, g.line)

      pub symbol-inside : i + w ≤ length text
      symbol-inside = let g : Stood (drop i text) 0 w = symbol-given.0 in omega (arith, g.within, length-drop i text)

    module _ {w : ℕ} (e : element_at text i ≡ gap w) where
      pub gap-given : Stood (drop i text) (cond (eqb (get_or text i 0) 10) 1 0) w
      gap-given = rw e at given-here

      pub scan-gap : scan_at text i ≡ scan_at text (i + w)
      scan-gap = scan-here ∙ rw e (scan-rest w gap-given.some)

    module _ {n k : ℕ} (e : element_at text i ≡ wrong n k) where
      pub scan-wrong : scan_at text i ≡ ends (fault n (i + k))
      scan-wrong = scan-here ∙ rw e

      pub wrong-inside : i + k < length text
      wrong-inside = let g : k < length (drop i text) = rw e at given-here in omega (arith, length-drop i text)

-- ---- the search for the next symbol, from a place on

pub record Seeking (text : List ℕ) (at i : ℕ) (newline : Bool) : Type 0 where
  pub after : at ≤ i
  pub within : i ≤ length text
  pub scans : scan_at text at ≡ scan_at text i
  pub breaks : newline ≡ broken text at i

pub seek-start : (text : List ℕ) (at : ℕ) → at ≤ length text → Seeking text at at false
seek-start text at h = record { after = omega arith; within = h; scans = refl; breaks = sym (ap not (eq-eqb (line_of text at) (line_of text at) refl)) }

module _ (text : List ℕ) (at i : ℕ) {newline : Bool} (s : Seeking text at i newline) where
  pub seek-end : length text ≤ i → Finds text at (Ok None)
  unfolding scan_by IfOne
  seek-end h = record { scans = s.scans ∙ scan-end text i h; found = tt }

  module _ (h : i < length text) where
    pub seek-wrong : {e : Faulty} {k : ℕ} → wrong (F.number_of e.fault) k ≡ element_at text i → e.place ≡ i + k → Finds text at (Err e)
    unfolding scan_by IfOne
    seek-wrong e q = record { scans = s.scans ∙ scan-wrong text i h (sym e) ∙ rw q; found = tt }

    pub seek-symbol : {k : Kind} {v w : ℕ} → symbol (number_of k) v w ≡ element_at text i
        → Finds text at (Ok (Some (record { kind = k; value = v; place = i; past = i + w; newline = newline })))
    unfolding scan_by IfOne
    seek-symbol {k} {v} {w} q = let e : element_at text i ≡ symbol (number_of k) v w = sym q in
        let g : Stood (drop i text) 0 w × (number_of k < 62) × (v ≤ 65535 + w) = symbol-given text i h e in record {
          scans = s.scans ∙ scan-symbol text i h e;
          found = record {
            after = s.after;
            some = omega (arith, g.0.some);
            within = symbol-inside text i h e;
            small = omega (arith, g.2);
            breaks = s.breaks;
            line = symbol-line text i h e;
          };
        }

    module _ {w : ℕ} (q : gap w ≡ element_at text i) where
      e : element_at text i ≡ gap w
      e = sym q

      pub gap-inside : (1 ≤ w) × (i + w ≤ length text)
      gap-inside = let g : Stood (drop i text) _ w = gap-given text i h e in (g.some, omega (arith, g.within, length-drop i text))

      pub seek-gap : Seeking text at (i + w) (cond newline true (eqb (get_or text i 0) 10))
      seek-gap = record {
        after = omega (arith, s.after);
        within = gap-inside.1;
        scans = s.scans ∙ scan-gap text i h e;
        breaks = swapped newline (eqb (get_or text i 0) 10) ∙ by (eqb (get_or text i 0) 10) (gap-given text i h e).line;
      }
        where
          swapped : (a b : Bool) → cond a true b ≡ cond b true a
          swapped true true = refl
          swapped true false = refl
          swapped false true = refl
          swapped false false = refl

          by : (t : Bool) → newlines (take w (drop i text)) ≡ cond t 1 0 → cond t true newline ≡ broken text at (i + w)
          by true k =
              sym (ap not (ne_eqb (line_of text at) (line_of text (i + w)) (λ j. omega (arith, line-past text i w, line_after text at i s.after))))
          by false k = let z : line_of text (i + w) ≡ line_of text i = omega (arith, line-past text i w) in rw z s.breaks

-- ---- what `next_symbol` found

pub scan-is : {text : List ℕ} {at : ℕ} {next n : Next} → Finds text at next → next ≡ n → scan_at text at ≡ scan_by text n
scan-is {text} f e = f.scans ∙ ap (scan_by text) e

module _ {text : List ℕ} {at : ℕ} {one : Found} {next : Next} (f : Finds text at next) (e : next ≡ Ok (Some one)) where
  pub found : Stands text at one
  unfolding IfOne
  found = rw e at f.found

  pub nearer-end : length text - one.past < length text - at
  nearer-end = omega (arith, found.after, found.some, found.within)
