-- What a source that is accepted satisfies: it is read as a program that is fine, written with at least its tokens, and has no refusal.
use Rattle.laws.proofs.Basics.{ℕ, ◌+◌, ◌*◌, ◌<◌, ◌≤◌, ◌≡◌, refl, ap, ◌∙◌, List, [], ◌∷◌, Bool, true, false, cond, length, get_or, take, ltb, arith}
use Rattle.laws.proofs.Basics.{ltb-false}
use Rattle.laws.proofs.Cases.{contradiction}
use Rattle.language.specs.Tree.{Program}
use Rattle.language.specs.Constants.{Fault}
use Rattle.language.specs.Brackets.{first_fault, brackets}
use Rattle.language.specs.Symbols as Y
use Rattle.language.specs.Symbols.{scan}
use Rattle.language.specs.Source as S
use Rattle.language.specs.Source.{symbols_of, parsed, read_source, read_symbols, too_long, scratch_too_short}
use Rattle.language.specs.Reader.{Out, ok, no}
use Rattle.language.specs.Grammar.{tree_of}
use Rattle.language.specs.Program.{Refused, accepted, least_or, rules_refuse, faults_of_program, functions_of, height_faults}
use Rattle.language.specs.Run.{no_fun}
use Rattle.language.specs.Whole.{refusal_of, on_read, funs, functions_in, strings_in, strings_among}
use Rattle.language.specs.Fine.{FineProgram}
use Rattle.language.proofs.Tokens.{program_tokens}
use Rattle.language.proofs.Takes.{Of, given}
use Rattle.language.proofs.ReadTokens.{program}
use Rattle.language.proofs.SymbolFacts.{scan-length, cost, cost-length, symbols_now, source_now, counts, cost-now}
use Rattle.language.proofs.Widths.{covered}
use Rattle.language.proofs.Formed.{FormedF}
use Rattle.language.proofs.Forming.{formed-at, program-formed}

-- a text that is read, its symbols and its tree
pub record IsRead (text : List ℕ) (p : Program) : Type 0 where
  pub symbols : symbols_of text ≡ S.good (symbols_now text)
  pub next : ℕ
  pub tree : tree_of (source_now text) ≡ ok p next

parsed-read : (text : List ℕ) (p : Program) → parsed text ≡ S.read p → IsRead text p
unfolding parsed symbols_of read_symbols
parsed-read text p h = go (first_fault (length text) (brackets [] (scan text).symbols) (scan text).ending) refl h
  where
    onto : (o : Out Program) → tree_of (source_now text) ≡ o → symbols_of text ≡ S.good (symbols_now text) → S.on_tree (source_now text) o ≡ S.read p
        → IsRead text p
    onto (ok q n) e k m = let z : q ≡ p = cc in record { symbols = k; next = n; tree = e ∙ ap (λ (x : Program). ok x n) z }
    onto (no number at) e k m = contradiction cc

    go : (f : Y.Fault) → first_fault (length text) (brackets [] (scan text).symbols) (scan text).ending ≡ f
        → S.on_symbols (length text) (S.on_fault f (symbols_now text)) ≡ S.read p → IsRead text p
    go Y.none e m = onto (tree_of (source_now text)) refl (rw e refl) m
    go (Y.fault number place) e m = contradiction cc

module _ (text : List ℕ) (p : Program) (r : IsRead text p) where
  pub strings-are : strings_in text ≡ strings_among text (symbols_now text)
  unfolding strings_in
  strings-are = rw r.symbols refl

  read-fine : (loops : ℕ) → 1 ≤ loops → length text ≤ 65535 → cost loops (scan text).symbols ≤ 65535
      → FineProgram (length (strings_in text)) p × (program_tokens loops p ≤ cost loops (scan text).symbols)
  read-fine loops some short few =
      go (rw r.tree at (program (source_now text) (length (strings_among text (symbols_now text))) (λ at. cost loops (take at (symbols_now text)))
      (counts loops some text short few)))
    where
      go : Of (source_now text) (length (strings_among text (symbols_now text))) (λ at. cost loops (take at (symbols_now text)))
          (counts loops some text short few) (FineProgram (length (strings_among text (symbols_now text)))) (program_tokens loops) 0 (ok p r.next)
          → FineProgram (length (strings_in text)) p × (program_tokens loops p ≤ cost loops (scan text).symbols)
      go (given f l) = (rw strings-are f, omega (arith, cost-now loops text r.next))

pub record Facts (source : List ℕ) : Type 0 where
  pub tree : Program
  pub reads : parsed source ≡ S.read tree
  pub short : length source ≤ 16384
  pub fine : FineProgram (length (strings_in source)) tree
  pub tokens : program_tokens 1 tree ≤ length (scan source).symbols
  -- a REPEAT form counted as three
  pub weights : program_tokens 3 tree ≤ cost 3 (scan source).symbols
  pub strings : strings_in source ≡ strings_among source (symbols_now source)
  pub functions : functions_in source ≡ funs (functions_of source tree)
  pub no-faults : faults_of_program source tree ≡ []
  pub no-heights : height_faults (functions_of source tree) ≡ []

or_else : (fs : List Fault) (x : Refused) → least_or fs x ≡ accepted → (fs ≡ []) × (x ≡ accepted)
or_else [] x h = (refl, h)
or_else (f ∷ fs) x h = contradiction cc

functions-of : (source : List ℕ) (p : Program) → parsed source ≡ S.read p → functions_in source ≡ funs (functions_of source p)
unfolding functions_in
functions-of source p e = rw e refl

pub facts : (source : List ℕ) (scratch : ℕ) → refusal_of source scratch ≡ accepted → Facts source
unfolding refusal_of read_source too_long scratch_too_short rules_refuse
facts source scratch h = go (ltb 16384 (length source)) refl (ltb scratch (8 * length source + 64)) (parsed source) refl h
  where
    onto : (x : S.Read) → parsed source ≡ x → length source ≤ 16384 → on_read source x ≡ accepted → Facts source
    onto (S.refused number place) e l m = contradiction cc
    onto (S.read p) e l m = let r : IsRead source p = parsed-read source p e in
        let f = read-fine source p r 1 (omega arith) (omega arith) (omega (arith, cost-length (scan source).symbols, scan-length source)) in
        let g = read-fine source p r 3 (omega arith) (omega arith) (omega (arith, covered source)) in
        let a = or_else (faults_of_program source p) _ m in
        let b = or_else (height_faults (functions_of source p)) _ a.1 in
        record {
          tree = p;
          reads = e;
          short = l;
          fine = f.0;
          tokens = omega (arith, f.1, cost-length (scan source).symbols);
          weights = g.1;
          strings = strings-are source p r;
          functions = functions-of source p e;
          no-faults = a.0;
          no-heights = b.0;
        }

    go : (a : Bool) → ltb 16384 (length source) ≡ a → (b : Bool) → (x : S.Read) → parsed source ≡ x
        → on_read source (cond a (S.refused 1 0) (cond b (S.refused 15 0) x)) ≡ accepted → Facts source
    go true ea b x ex m = contradiction cc
    go false ea true x ex m = contradiction cc
    go false ea false x ex m = onto x ex (ltb-false 16384 (length source) ea) m

-- its functions are formed
pub formed : (source : List ℕ) → Facts source → (k : ℕ) → k < length (functions_in source)
    → FormedF (length (functions_in source)) (length (strings_in source)) (2 + (get_or (functions_in source) k no_fun).parameters)
    (get_or (functions_in source) k no_fun).body
formed source x =
    rw x.functions (formed-at (length (funs (functions_of source x.tree))) (length (strings_in source)) (functions_of source x.tree)
    (program-formed (length (strings_in source)) source x.tree x.fine x.no-faults))
