-- LOOP joined the first list of the inserted semicolon (document 02, Req 01). A text that was read as a program before is read as the same
-- program, unless a ( stands next after a LOOP on a later line. The symbols need not be the same: the semicolon after a local declaration
-- is optional, and there one may be inserted now (ExampleLoops).
use Rattle.laws.proofs.Basics.{ℕ, suc, ◌≡◌, refl, sym, ap, ◌∙◌, List, [], ◌∷◌, Bool, true, false, ◌&&◌, cond, length, eqb, eqb-true}
use Rattle.laws.proofs.Cases.{by_cases, contradiction}
use Rattle.language.specs.Kinds as K
use Rattle.language.specs.Kinds.{member}
use Rattle.language.specs.Symbols.{Symbol, Fault, none, fault, scan}
use Rattle.language.specs.Brackets.{first_fault, brackets}
use Rattle.language.specs.Strings.{with_value, numbered}
use Rattle.language.specs.Semicolons.{firsts, seconds, ends_line, begins_line, lines_differ, gains, inserted, semicolons_after, semicolons}
use Rattle.language.specs.Tree.{Program}
use Rattle.language.specs.Reader.{Source, Out}
use Rattle.language.specs.Grammar.{tree_of}
use Rattle.language.specs.Source.{on_fault, symbols_of, Read, read, on_tree, read_symbols, on_symbols, parsed}
use Rattle.language.proofs.Extra.{without, others, flush, Rest, both_end, alike, extra, longer-rest, Kept, gave, refuses}
use Rattle.language.proofs.ExtraGrammar.{program}

-- ---- the definition, by any first list

module _ (list text : List ℕ) where
  abbrev pub gains_by : Symbol → Symbol → Bool
  gains_by a b = member a.kind list && (begins_line b.kind && lines_differ text a b)

  unfoldable pub after_by : Symbol → List Symbol → List Symbol
  after_by before [] = []
  after_by before (s ∷ r) = inserted (gains_by before s) s (s ∷ after_by s r)

  unfoldable pub semicolons_by : List Symbol → List Symbol
  semicolons_by [] = []
  semicolons_by (s ∷ r) = s ∷ after_by s r

  unfoldable pub parsed_by : Read
  parsed_by = on_symbols (length text)
      (on_fault (first_fault (length text) (brackets [] (scan text).symbols) (scan text).ending) (semicolons_by (numbered 0 (scan text).symbols)))

-- the first list as it was in document 01
abbrev pub formerly : List ℕ
formerly = K.BREAK ∷ K.RETURN ∷ K.FINISH ∷ K.ENDCASE ∷ K.REPEAT ∷ K.CLOSE ∷ K.END ∷ K.NAME ∷ K.STRING ∷ K.NUMBER ∷ K.TRUE ∷ K.FALSE ∷ []

-- the definition's own list gives the definition
after-own : (text : List ℕ) (before : Symbol) (ss : List Symbol) → after_by firsts text before ss ≡ semicolons_after text before ss
unfolding after_by semicolons_after gains ends_line
after-own text before [] = refl
after-own text before (s ∷ r) = ap (λ (q : List Symbol). inserted (gains text before s) s (s ∷ q)) (after-own text s r)

own : (text : List ℕ) (ss : List Symbol) → semicolons_by firsts text ss ≡ semicolons text ss
unfolding semicolons_by semicolons
own text [] = refl
own text (s ∷ r) = ap (λ (q : List Symbol). s ∷ q) (after-own text s r)

parsed-own : (text : List ℕ) → parsed_by firsts text ≡ parsed text
unfolding parsed_by parsed symbols_of
parsed-own text = rw (own text (numbered 0 (scan text).symbols))

-- ---- a ( next after a LOOP, on a later line

abbrev pub bracket_next : List ℕ → Symbol → Symbol → Bool
bracket_next text a b = eqb a.kind K.LOOP && (eqb b.kind K.OPEN && lines_differ text a b)

unfoldable pub bracket_after : List ℕ → Symbol → List Symbol → Bool
bracket_after text before [] = false
bracket_after text before (s ∷ r) = cond (bracket_next text before s) true (bracket_after text s r)

unfoldable pub bracket_after_loop : List ℕ → List Symbol → Bool
bracket_after_loop text [] = false
bracket_after_loop text (s ∷ r) = bracket_after text s r

-- strings' numbers apart
value-apart : (text : List ℕ) (v : ℕ) (s : Symbol) (r : List Symbol) → bracket_after text (with_value v s) r ≡ bracket_after text s r
unfolding bracket_after lines_differ
value-apart text v s [] = refl
value-apart text v s (x ∷ r) = refl

numbered-after : (text : List ℕ) (k : ℕ) (before : Symbol) (ss : List Symbol) → bracket_after text before (numbered k ss) ≡ bracket_after text before ss
unfolding bracket_after lines_differ numbered
numbered-after text k before [] = refl
numbered-after text k before (s ∷ r) = go (eqb s.kind K.STRING) (λ j. numbered-after text j s r)
  where
    go : (b : Bool) → ((j : ℕ) → bracket_after text s (numbered j r) ≡ bracket_after text s r)
        → bracket_after text before (cond b (with_value k s ∷ numbered (suc k) r) (s ∷ numbered k r)) ≡
        cond (bracket_next text before s) true (bracket_after text s r)
    go true ih = ap (λ (q : Bool). cond (bracket_next text before s) true q) (value-apart text k s (numbered (suc k) r) ∙ ih (suc k))
    go false ih = ap (λ (q : Bool). cond (bracket_next text before s) true q) (ih k)

-- ---- the two lists of symbols

apart : true ≡ false → ⊥
apart e = contradiction cc

without-member : (k x : ℕ) (ks : List ℕ) → member k (without x ks) ≡ cond (eqb k x) false (member k ks)
unfolding member
without-member k x [] = by_cases (eqb k x) (λ outcome. rw outcome) (λ outcome. rw outcome)
without-member k x (j ∷ ks) = by_cases (eqb j x)
    (λ e. by_cases (eqb k j) (λ f. let g : eqb k x ≡ true = rw (eqb-true k j f) e in rw (e, g) (rw g at (without-member k x ks)))
    (λ f. rw (e, f) (without-member k x ks))) (λ e. by_cases (eqb k j) (λ f. let g : eqb k x ≡ false = rw (eqb-true k j f) e in rw (e, g) (rw f refl))
    (λ f. rw e (rw f (without-member k x ks))))

-- one symbol further: `l` where a LOOP stands before it, `n` where the wider list has what stands before, `b` where it begins a line,
-- `o` where it is a bracket, `d` where it is on another line
further : (s : Symbol) {xs ys : List Symbol} (l n b o d : Bool) {m : Bool} → m ≡ cond l false n → member s.kind others ≡ cond o false b
    → (l && (o && d)) ≡ false → Rest (eqb s.kind K.LOOP) xs ys
    → Rest l (inserted (m && (b && d)) s (s ∷ xs)) (inserted (n && (b && d)) s (s ∷ ys))
further s {xs} {ys} false n b o d e f h r = rw e (go (n && (b && d)))
  where
    go : (q : Bool) → Rest flush (inserted q s (s ∷ xs)) (inserted q s (s ∷ ys))
    go true = alike (alike r)
    go false = alike r
further s true false b o d e f h r = rw e (alike r)
further s true true false o d e f h r = rw e (alike r)
further s true true true o false e f h r = rw e (alike r)
further s true true true true true e f h r = absurd (apart h)
further s true true true false true e f h r = rw e (extra f (alike r))

either-false : (a b : Bool) → cond a true b ≡ false → (a ≡ false) × (b ≡ false)
either-false true b e = absurd (apart e)
either-false false b e = (refl, e)

module _ (text : List ℕ) where
  widened-after : (before : Symbol) (ss : List Symbol) → bracket_after text before ss ≡ false
      → Rest (eqb before.kind K.LOOP) (after_by formerly text before ss) (after_by firsts text before ss)
  unfolding after_by bracket_after begins_line
  widened-after before [] h = both_end
  widened-after before (s ∷ r) h = let k : (bracket_next text before s ≡ false) × (bracket_after text s r ≡ false) = either-false _ _ h in
      further s (eqb before.kind K.LOOP) (member before.kind firsts) (begins_line s.kind) (eqb s.kind K.OPEN) (lines_differ text before s)
      (without-member before.kind K.LOOP firsts) (without-member s.kind K.OPEN seconds) k.0 (widened-after s r k.1)

  widened : (ss : List Symbol) → bracket_after_loop text ss ≡ false → Rest flush (semicolons_by formerly text ss) (semicolons_by firsts text ss)
  unfolding semicolons_by bracket_after_loop
  widened [] h = both_end
  widened (s ∷ r) h = alike (widened-after s r h)

  numbered-bracket : (k : ℕ) (ss : List Symbol) → bracket_after_loop text (numbered k ss) ≡ bracket_after_loop text ss
  unfolding bracket_after_loop numbered
  numbered-bracket k [] = refl
  numbered-bracket k (s ∷ r) =
      by_cases (eqb s.kind K.STRING) (λ outcome. rw outcome (value-apart text k s (numbered (suc k) r) ∙ numbered-after text (suc k) s r))
      (λ outcome. rw outcome (numbered-after text k s r))

-- ---- the law

on-kept : {s t : Source} {i : Bool} {x y : Out Program} (p : Program) → Kept s t i x y → on_tree s x ≡ read p → on_tree t y ≡ read p
on-kept p (gave q) e = e
on-kept p refuses e = cc

same-tree : {s t : Source} (p : Program) → t.size ≡ s.size → Rest flush s.symbols t.symbols → read_symbols s ≡ read p → read_symbols t ≡ read p
unfolding read_symbols tree_of
same-tree p z r e = on-kept p (program.keeps (record { size = z; longer = longer-rest r }) 0 0 (record { rest = r })) e

pub reading-kept : (text : List ℕ) (p : Program) → parsed_by formerly text ≡ read p → bracket_after_loop text (scan text).symbols ≡ false
    → parsed text ≡ read p
unfolding parsed_by
reading-kept text p e h = sym (parsed-own text) ∙ go (first_fault (length text) (brackets [] (scan text).symbols) (scan text).ending) e
  where
    ss : List Symbol
    ss = numbered 0 (scan text).symbols

    go : (f : Fault) → on_symbols (length text) (on_fault f (semicolons_by formerly text ss)) ≡ read p
        → on_symbols (length text) (on_fault f (semicolons_by firsts text ss)) ≡ read p
    go none q = same-tree p refl (widened text ss (numbered-bracket text 0 (scan text).symbols ∙ h)) q
    go (fault number place) q = q
