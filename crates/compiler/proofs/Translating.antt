-- From the readers' answers to the refusals of the source, and to what the walk of the tree asks.
use Rattle.std.specs.Prelude.{Err, Ok, Result}
use Rattle.laws.proofs.Basics.{ℕ, ◌+◌, ◌-◌, ◌*◌, ◌^◌, ◌≤◌, ◌≡◌, refl, sym, ap, subst, ◌∙◌, List, ◌++◌, Bool, true, false, length, take, drop}
use Rattle.laws.proofs.Basics.{replicate, length-append, length-take-le, take_at, drop_at, arith, ltb-false, le-ltb}
use Rattle.laws.proofs.Cases.{contradiction}
use Rattle.text.specs.declared.Refusal.{Refusal}
use Rattle.text.specs.Line.{refusal}
use Rattle.language.specs.Symbols.{Symbol}
use Rattle.language.specs.Source.{Symbols, good, faulty, symbols_of, parsed, read_symbols, read_source, too_long, scratch_too_short}
use Rattle.language.specs.Reader.{Source, Out, ok, no, place_at}
use Rattle.language.specs.Grammar.{tree_of}
use Rattle.compiler.proofs.Language.{Program, encode_program}
use Rattle.language.specs.Program.{refused, rules_refuse}
use Rattle.language.specs.Whole.{refusal_of, refusal_in, on_read, unless_fits}
use Rattle.symbols.specs.Read.{Reads, symbols_read, outcome, entries}
use Rattle.text.specs.Faults.{number_of}
use Rattle.text.specs.declared.faults.Fault as N
use Rattle.symbols.specs.Read as YA
use Rattle.symbols.specs.declared.Unread.{Unread}
use Rattle.symbols.specs.declared.Unread.TheVariants as U
use Rattle.tree.specs.Read as R
use Rattle.tree.specs.Read.{ReadsTree, tree_read, tree_left, left_by, padded, decoded, source_in, too_short, Within}
use Rattle.tree.specs.declared.Unparsed.{Unparsed}
use Rattle.tree.specs.declared.Unparsed.TheVariants as Ra
use Rattle.tree.proofs.Stages.{few-good, decoded-entries, entries-size}
use Rattle.code.specs.Generate.{text_of}
use Rattle.compiler.specs.Compiles.{decided, answer_of, Begins, Translates, Lent, Serves, ReadySymbols, ReadyTree, Clean}
use Rattle.compiler.proofs.Clearing.{cleared-all, padded-long, padded-on, padded-clean, clean_all, zeros-behind}

-- ---- what the refusals are, stage by stage

-- a refusal: nothing is said of the text
pub refusing : {source s s' : List ℕ} {number place : ℕ} {t t' : List ℕ} {w : Refusal} → w ≡ refusal source number place
    → decided source (length s) (length t) ≡ refused number place → s' ≡ replicate (length s) 0 → Translates source s s' t t' (Err w)
refusing {source} {s} {s'} {number} {place} {t} {t'} q e z =
    record { answers = ap Err q ∙ ap (answer_of source) (sym e); clears = z; begins = subst (Begins source t') (sym e) tt }

pub lent_still : {source : List ℕ} {n m : ℕ} → Lent source n → m ≡ n → Lent source m
lent_still l e = record { short = l.short; asked = e ∙ l.asked }

-- other scratch, with the same refusals
decided-alike : {source s s' t t' : List ℕ} {a : Result ℕ Refusal} → Translates source s s' t t' a → {s₀ s₂ : List ℕ}
    → decided source (length s) (length t) ≡ decided source (length s₀) (length t) → s₂ ≡ replicate (length s₀) 0 → Translates source s₀ s₂ t t' a
decided-alike {source} {s} {s'} {t} {t'} x e z =
    record { answers = x.answers ∙ ap (answer_of source) e; clears = z; begins = subst (Begins source t') e x.begins }

pub with-scratch : {source s s₀ s' t t' : List ℕ} {a : Result ℕ Refusal} → length s ≡ length s₀ → Translates source s s' t t' a
    → Translates source s₀ s' t t' a
with-scratch e x = decided-alike x (rw e) (rw (x.clears, e))

module _ {source s s' t t' : List ℕ} {w : Refusal} {b : Bool} (e : b ≡ too_long source) (z : s' ≡ take 0 s ++ replicate (length s - 0) 0) where
  pub too_long_lem : b ≡ true → w ≡ refusal source 1 0 → Translates source s s' t t' (Err w)
  unfolding decided refusal_in refusal_of read_source
  too_long_lem h q = refusing q (rw (sym e ∙ h) refl) (cleared-all s z)

  pub too_short_lem : {d : Bool} → b ≡ false → d ≡ scratch_too_short source (length s) → d ≡ true → w ≡ refusal source 15 0
      → Translates source s s' t t' (Err w)
  unfolding decided refusal_in refusal_of read_source
  too_short_lem h k g q = refusing q (rw (sym e ∙ h, sym k ∙ g) refl) (cleared-all s z)

enough-scratch : {source : List ℕ} {n m : ℕ} → Lent source n → n ≤ m → (room : ℕ)
    → decided source m room ≡ unless_fits (length (text_of source)) room (on_read source (parsed source))
unfolding decided refusal_in refusal_of read_source too_long scratch_too_short
enough-scratch {source} {n} {m} l h room = rw (le-ltb 16384 (length source) l.short, le-ltb m (8 * length source + 64) (omega arith)) refl

module _ {source : List ℕ} {scratch : ℕ} (l : Lent source scratch) (room : ℕ) where
  by-parsed : decided source scratch room ≡ unless_fits (length (text_of source)) room (on_read source (parsed source))
  by-parsed = enough-scratch l (omega arith) room

  pub symbols-refused : (number place : ℕ) → symbols_of source ≡ faulty number place → decided source scratch room ≡ refused number place
  unfolding parsed
  symbols-refused number place e = by-parsed ∙ rw e refl

  pub tree-refused : (ss : List Symbol) (number at : ℕ) → symbols_of source ≡ good ss
      → tree_of (record { symbols = ss; size = length source }) ≡ no number at
      → decided source scratch room ≡ refused number (place_at (record { symbols = ss; size = length source }) at)
  unfolding parsed read_symbols
  tree-refused ss number at e k = by-parsed ∙ rw (e, k) refl

  pub rules-decide : (ss : List Symbol) (p : Program) (next : ℕ) → symbols_of source ≡ good ss
      → tree_of (record { symbols = ss; size = length source }) ≡ ok p next
      → decided source scratch room ≡ unless_fits (length (text_of source)) room (rules_refuse source p)
  unfolding parsed read_symbols
  rules-decide ss p next e k = by-parsed ∙ rw (e, k) refl

-- ---- after `read_symbols`

module _ {source s s' : List ℕ} {a : Result ℕ Unread} (short : length source ≤ 16384) (room : length source * 3 ≤ length s)
    (r : Reads source s a s') where
  both_ways : symbols_read source s ≡ outcome (length s) (symbols_of source)
  unfolding symbols_read too_long
  both_ways = rw (le-ltb 16384 (length source) short, le-ltb (length s) (length source * 3) room) refl

  pub symbols-left : (x : Symbols) → symbols_of source ≡ x → s' ≡ (outcome (length s) x).scratch
  symbols-left x e = r.leaves ∙ (rw (both_ways, e))

  -- the symbols, or a refusal
  by-symbols : (P : Type 0) → ((ss : List Symbol) → symbols_of source ≡ good ss → YA.answer_of a ≡ YA.read (length ss) → P)
      → ((number place : ℕ) → symbols_of source ≡ faulty number place → YA.answer_of a ≡ YA.refused number place → P) → P
  by-symbols P f g = elim (symbols_of source) as (λ x. symbols_of source ≡ x → YA.answer_of a ≡ (outcome (length s) x).answer → P)
      [ good ss ↦ f ss | faulty number place ↦ g number place ] refl (r.answers ∙ rw both_ways)

module _ {source s s' : List ℕ} {a : Result ℕ Unread} (l : Lent source (length s)) (r : Reads source s a s') where
  room : length source * 3 ≤ length s
  room = omega arith

  pub ready-symbols : {count : ℕ} → length s' ≡ length s → a ≡ Ok count → ReadySymbols source s' count
  ready-symbols {count} same e = by-symbols l.short room r (ReadySymbols source s' count) (λ ss q w. record {
    lent = lent_still l same;
    symbols = ss;
    reads = q;
    counts = (let k : YA.read count ≡ YA.read (length ss) = ap YA.answer_of (sym e) ∙ w in cc);
    stand = symbols-left l.short room r (good ss) q ∙ ap (λ (n : ℕ). (outcome n (good ss)).scratch) (sym same);
  }) (λ number place q w. let k : YA.read count ≡ YA.refused number place = ap YA.answer_of (sym e) ∙ w in contradiction cc)

  pub symbols-answer : {fault : N.Fault} {place : ℕ} {t t' : List ℕ} {w : Refusal} → a ≡ Err (U.Refused fault place)
      → w ≡ refusal source (number_of fault) place
      → Translates source s s' t t' (Err w)
  symbols-answer {fault} {place} {t} {t'} {w} e q = by-symbols l.short room r (Translates source s s' t t' (Err w))
      (λ ss z v. let k : YA.refused (number_of fault) place ≡ YA.read (length ss) = ap YA.answer_of (sym e) ∙ v in contradiction cc)
      (λ m p z v. let k : YA.refused (number_of fault) place ≡ YA.refused m p = ap YA.answer_of (sym e) ∙ v in
      let i : m ≡ number_of fault = cc in let j : p ≡ place = cc in
      refusing q (symbols-refused l (length t) m p z ∙ rw (i, j)) (symbols-left l.short room r (faulty m p) z))

  pub never-long : a ≡ Err U.TooLong → ⊥
  never-long e = by-symbols l.short room r ⊥
      (λ ss q w. let k : YA.long ≡ YA.read (length ss) = ap YA.answer_of (sym e) ∙ w in contradiction cc)
      (λ number place q w. let k : YA.long ≡ YA.refused number place = ap YA.answer_of (sym e) ∙ w in contradiction cc)

  pub never-short : a ≡ Err U.TooShort → ⊥
  never-short e = by-symbols l.short room r ⊥
      (λ ss q w. let k : YA.short ≡ YA.read (length ss) = ap YA.answer_of (sym e) ∙ w in contradiction cc)
      (λ number place q w. let k : YA.short ≡ YA.refused number place = ap YA.answer_of (sym e) ∙ w in contradiction cc)

-- ---- after `read_tree`, which is lent eight entries a symbol and 64

module _ {source s : List ℕ} {count : ℕ} (y : ReadySymbols source s count) where
  abbrev src : Source
  src = record { symbols = y.symbols; size = length source }

  abbrev most : ℕ
  most = count * 8 + 64

  abbrev ss : List ℕ
  ss = entries y.symbols

  few : count ≤ length source
  few = omega (arith, few-good source y.symbols y.reads)

  pub tree-room : most ≤ length s
  tree-room = omega (arith, few)

  pub symbols-room : {n : ℕ} → n ≡ length s → count * 3 ≤ n
  symbols-room e = omega (arith, tree-room)

  size : length ss ≡ count * 3
  size = omega (arith, entries-size y.symbols)

  -- what is lent, and zeros behind it
  lent-parts : (take most s ≡ padded most ss) × (drop most s ≡ replicate (length s - most) 0)
  lent-parts = let zeros = replicate {A = ℕ} (length s - most) 0 in let l = padded-long ss most (omega (arith, size)) in
      let e = y.stand ∙ padded-on ss most (omega (arith, size)) (length s) tree-room in
      (ap (take most) e ∙ take_at (padded most ss) zeros most l, ap (drop most) e ∙ drop_at (padded most ss) zeros most l)

  fits : too_short (length (take most s)) count ≡ false
  unfolding too_short
  fits = let small : most ≤ 2 ^ 32 - 1 = omega (arith, few) in
      rw (length-take-le most s tree-room, le-ltb most most (omega arith), le-ltb (2 ^ 32 - 1) most small) refl

  source_is : source_in (take most s) count (length source) ≡ src
  unfolding source_in
  source_is = ap (λ (z : List Symbol). record { symbols = z; size = length source }) (ap (λ (n : ℕ). decoded n (take most s)) y.counts
      ∙ (ap (decoded (length y.symbols)) lent-parts.0 ∙ decoded-entries y.symbols (replicate (most - length ss) 0)))

  symbols-first : take (count * 3) (take most s) ≡ ss
  symbols-first = ap (take (count * 3)) lent-parts.0 ∙ take_at ss (replicate (most - length ss) 0) (count * 3) size

  module _ {front : List ℕ} {a : Result ℕ Unparsed} (r : ReadsTree (take most s) count (length source) a front) where
    tree-told : (R.answer_of a ≡ R.answer_by src count (tree_of src)) × (front ≡ left_by count (take most s) (tree_of src))
    unfolding tree_read tree_left
    tree-told = (r.answers ∙ rw (fits, source_is) refl, r.leaves ∙ rw (fits, source_is) refl)

    abbrev s' : List ℕ
    s' = front ++ drop most s

    -- the zeros behind what is lent go on
    whole : (w : List ℕ) → length w ≤ most → front ≡ padded (length (take most s)) w → (s' ≡ padded (length s) w) × (length s' ≡ length s)
    whole w h e = let f : front ≡ padded most w = rw (e, length-take-le most s tree-room) in
        let g : s' ≡ padded (length s) w = rw (lent-parts.1, f, padded-on w most h (length s) tree-room) in
        (g, ap length g ∙ padded-long w (length s) (omega (arith, tree-room)))

    pub ready-tree : {end : ℕ} → a ≡ Ok end → ReadyTree source s' count end
    ready-tree {end} e = go (tree_of src) refl (sym (ap R.answer_of e) ∙ tree-told.0) tree-told.1
      where
        go : (o : Out Program) → tree_of src ≡ o → R.read end ≡ R.answer_by src count o → front ≡ left_by count (take most s) o
            → ReadyTree source s' count end
        go (ok p next) q w z =
            let k : end ≡ count * 3 + length (encode_program p) = cc in let within : end ≤ count * 8 = subst (λ (x : Result ℕ Unparsed). Within (count * 8) (R.answer_of x)) e r.room in
            let all : List ℕ = ss ++ encode_program p in let few : length all ≤ most = omega (arith, length-append ss (encode_program p), size) in
            let u = whole all few (rw (z, symbols-first)) in let stand = u.0 in let same = u.1 in
            record {
              lent = lent_still y.lent same;
              symbols = y.symbols;
              program = p;
              next = next;
              reads = y.reads;
              parses = q;
              counts = y.counts;
              stand = cc;
              ends = k;
              room = within;
            }
        go (no number at) q w z = contradiction cc

    -- the symbols are cleared
    pub tree-answer : {fault : N.Fault} {place : ℕ} {t t' z : List ℕ} {w : Refusal} → a ≡ Err (Ra.Refused fault place)
        → w ≡ refusal source (number_of fault) place
        → z ≡ take 0 (take (count * 3) s') ++ replicate (length (take (count * 3) s') - 0) 0
        → Translates source s (z ++ drop (count * 3) s') t t' (Err w)
    tree-answer {fault} {place} {t} {t'} {z} {w} e q c = go (tree_of src) refl (sym (ap R.answer_of e) ∙ tree-told.0) tree-told.1
      where
        go : (o : Out Program) → tree_of src ≡ o → R.refused (number_of fault) place ≡ R.answer_by src count o → front ≡ left_by count (take most s) o
            → Translates source s (z ++ drop (count * 3) s') t t' (Err w)
        go (ok p next) k v l = contradiction cc
        go (no m at) k v l =
            let i : m ≡ number_of fault = cc in let j : place_at src at ≡ place = cc in let few : length ss ≤ most = omega (arith, size) in let u = whole ss
            few (l ∙ ap (padded (length (take most s))) symbols-first) in let stand = u.0 in let same = u.1 in let clean : Clean (count * 3) s'
            = padded-clean ss (length s) stand (omega (arith, size)) in
            refusing q (tree-refused y.lent (length t) y.symbols m at y.reads k ∙ rw (i, j) refl)
            (rw (clean_all clean (symbols-room same) c, same))

    pub never-unfit : a ≡ Err Ra.TooShort → ⊥
    never-unfit e = elim (tree_of src) as (λ o. R.short ≡ R.answer_by src count o → ⊥)
        [ ok p next ↦ λ w. contradiction cc | no m at ↦ λ w. contradiction cc ] (sym (ap R.answer_of e) ∙ tree-told.0)

-- ---- the scratch that is lent on

abbrev asked : List ℕ → ℕ
asked source = length source * 8 + 64

pub serves : {source s : List ℕ} {b d : Bool} → b ≡ too_long source → b ≡ false → d ≡ scratch_too_short source (length s) → d ≡ false → Serves source s
unfolding too_long scratch_too_short
serves {source} {s} e f k g = record {
  short = ltb-false 16384 (length source) (sym e ∙ f);
  long = omega (arith, ltb-false (length s) (8 * length source + 64) (sym k ∙ g));
}

module _ {source s : List ℕ} (v : Serves source s) where
  front_long : length (take (asked source) s) ≡ asked source
  front_long = length-take-le (asked source) s v.long

  pub front-lent : Lent source (length (take (asked source) s))
  front-lent = record { short = v.short; asked = omega (arith, front_long) }

  pub front-inside : {k : ℕ} → k ≡ length s → asked source ≤ k
  front-inside e = omega arith

  -- more scratch than is asked for makes no other answer, and is cleared
  pub more-scratch : {s' front t t' : List ℕ} {a : Result ℕ Refusal} → Translates source (take (asked source) s) front t t' a
      → s' ≡ take (asked source) (front ++ drop (asked source) s) ++ replicate (length (front ++ drop (asked source) s) - asked source) 0
      → Translates source s s' t t' a
  more-scratch {s'} {front} {t} x c = let enough = enough-scratch {m = length s} front-lent (omega (arith, front_long)) (length t) in
      decided-alike x (by-parsed front-lent (length t) ∙ sym enough) (zeros-behind s front (asked source) front_long v.long x.clears c)
