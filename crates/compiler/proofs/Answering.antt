-- From the walk of the tree to the answer: what the walk asks holds of every tree that is read, and what it leaves is the generator's text.
use Rattle.std.specs.Prelude.{Result}
use Rattle.laws.proofs.Basics.{ℕ, zero, suc, ◌+◌, ◌-◌, ◌*◌, ◌≤◌, ◌≡◌, refl, sym, ap, ◌∙◌, List, [], ◌∷◌, ◌++◌, append_assoc, Bool, true, false, not}
use Rattle.laws.proofs.Basics.{cond, length, get_or, take, drop, replicate, length-append, List·getD-append, length-take-le, get_or-append-add, eqb}
use Rattle.laws.proofs.Basics.{ltb}
use Rattle.laws.proofs.Basics.{add-one, arith, eqb-true, ne_eqb, ltb-false}
use Rattle.laws.proofs.Cases.{by_cases, contradiction}
use Rattle.language.specs.Kinds.{STRING}
use Rattle.items.specs.Item.{Item}
use Rattle.language.specs.Symbols as Y
use Rattle.language.specs.Symbols.{Symbol, scan}
use Rattle.language.specs.Brackets.{first_fault, brackets}
use Rattle.language.specs.Source as S
use Rattle.language.specs.Source.{good, symbols_of, parsed, read_symbols}
use Rattle.language.specs.Reader.{ok}
use Rattle.language.specs.Grammar.{tree_of}
use Rattle.language.specs.Tree as T
use Rattle.compiler.proofs.Language.{Program, Function, Fault, Start, nowhere, in_global, program_depth, FineProgram, encode_items}
use Rattle.compiler.proofs.Language.{encode_functions, encode_program}
use Rattle.language.specs.Program.{Refused, accepted, refused, least_or, rules_refuse, Walk, begin, Named, after_declaration, functions_from}
use Rattle.language.specs.Program.{functions_of, faults_from, faults_of_program, height_faults, has_start, starts_in_one, functions_after, group_of}
use Rattle.language.specs.Whole.{functions_in, strings_in, strings_among, funs, unless_fits}
use Rattle.language.proofs.CommandDepths.{LowProgram, low-program}
use Rattle.language.proofs.Forming.{length-funs, group-length}
use Rattle.language.proofs.Gives as Gives
use Rattle.language.proofs.Takes as Takes
use Rattle.language.proofs.Takes.{Counts}
use Rattle.language.proofs.Tokens.{program_tokens}
use Rattle.language.proofs.ReadTokens.{program as read_program}
use Rattle.language.proofs.SymbolFacts.{scan-length, cost, cost-length, symbols_now, source_now, counts}
use Rattle.compiler.proofs.Vocabulary.{STRINGS, Holds}
use Rattle.symbols.specs.Read.{entries, Reads}
use Rattle.symbols.specs.declared.Unread.{Unread}
use Rattle.tree.specs.Read.{padded, decoded}
use Rattle.code.specs.Generate.{functions_code, strings_code, starts_code, items_of, text_of}
use Rattle.writing.specs.Text.{Text, Appends, over, lines}
use Rattle.writing.proofs.Laws.{over-length, lines_then, appends_none, appends_then, appends_as, upto-in}
use Rattle.compiler.specs.declared.program.Done.{Done}
use Rattle.compiler.specs.Groups.{FineDs, Starting, encode_function, function_count, CountsFunctions}
use Rattle.compiler.specs.Programs.{starts_of, ReadyProgram, Walked, GaveProgram}
use Rattle.compiler.specs.Strings.{string_count, WritesStrings, WritesStarts}
use Rattle.compiler.specs.Compiles.{decided, answer_of, Begins, Translates, Clean, Lent, ReadyTree, AllStrings, Behind, NONE, by_keys}
use Rattle.tree.proofs.Stages.{few-good, decoded-entries, entries-size}
use Rattle.compiler.proofs.Rendered.{rendered}
use Rattle.compiler.proofs.Deciding.{decides}
use Rattle.compiler.proofs.Clearing.{padded-long, padded-clean, clean-front, clean_all}
use Rattle.compiler.proofs.Translating.{lent_still, rules-decide, symbols-left}
use Rattle.compiler.proofs.StringsEnd.{string-count-is, strings-end}
use Rattle.text.specs.declared.Refusal.{Refusal}

-- ---- how many functions there are

functions-counted : (text : List ℕ) (w : Walk) (p : Program) → length (functions_from text w p) ≡ function_count p
unfolding functions_from function_count
functions-counted text w [] = refl
functions-counted text w (T.globals is ∷ p) = functions-counted text (after_declaration text w (T.globals is)) p
functions-counted text w (T.manifests is ∷ p) = functions-counted text (after_declaration text w (T.manifests is)) p
functions-counted text w (T.functions fs ∷ p) =
    let more = after_declaration text w (T.functions fs) in let here = group_of text w.functions w.scope (functions_after text w.functions
    w.scope fs) fs in let l : length here ≡ length fs = group-length 0 0 text w.functions w.scope (functions_after text w.functions
    w.scope fs) fs in
    omega (arith, length-append here (functions_from text more p), functions-counted text more p)

few-in-group : (fs : List Function) → length fs ≤ length (encode_functions fs)
unfolding encode_functions
few-in-group [] = omega arith
few-in-group (f ∷ fs) = omega (arith, length-append (encode_function f) (encode_functions fs), few-in-group fs)

few-functions : (p : Program) → function_count p ≤ length (encode_program p)
unfolding function_count encode_program
few-functions [] = omega arith
few-functions (T.globals is ∷ p) = omega (arith, length-append (encode_items is) (encode_program p), few-functions p)
few-functions (T.manifests is ∷ p) = omega (arith, length-append (encode_items is) (encode_program p), few-functions p)
few-functions (T.functions fs ∷ p) = omega (arith, length-append (encode_functions fs) (encode_program p), few-in-group fs, few-functions p)

few-strings : (text : List ℕ) (ss : List Symbol) → length (strings_among text ss) ≤ length ss
unfolding strings_among
few-strings text [] = omega arith
few-strings text (s ∷ ss) = let h = few-strings text ss in by_cases (eqb s.kind STRING) (λ e. rw e (omega arith)) (λ e. rw e (omega arith))

-- ---- START

-- a function that starts in global 1
record Somewhere (ns : List Named) : Type 0 where
  at : ℕ
  starts : get_or (starts_of (funs ns)) at nowhere ≡ in_global 1

found-start : (ns : List Named) → has_start ns ≡ true → Somewhere ns
unfolding has_start starts_of funs
found-start [] h = contradiction cc
found-start (f ∷ ns) h = go f.fun.start refl h (found-start ns)
  where
    after : Somewhere ns → Somewhere (f ∷ ns)
    after z = record { at = suc z.at; starts = z.starts }

    onto : (n : ℕ) → f.fun.start ≡ in_global n → (b : Bool) → eqb n 1 ≡ b → cond b true (has_start ns) ≡ true → (has_start ns ≡ true → Somewhere ns)
        → Somewhere (f ∷ ns)
    onto n e true k h more = record { at = 0; starts = e ∙ ap in_global (eqb-true n 1 k) }
    onto n e false k h more = after (more h)

    go : (s : Start) → f.fun.start ≡ s → cond (starts_in_one s) true (has_start ns) ≡ true → (has_start ns ≡ true → Somewhere ns) → Somewhere (f ∷ ns)
    go nowhere e h more = after (more h)
    go (in_global n) e h more = onto n e (eqb n 1) refl h more

no_start : (ns : List Named) → has_start ns ≡ false → (l : ℕ) → get_or (starts_of (funs ns)) l nowhere ≡ in_global 1 → ⊥
unfolding has_start starts_of funs
no_start [] h l e = contradiction cc
no_start (f ∷ ns) h zero e = let z : true ≡ false = rw e at h in contradiction cc
no_start (f ∷ ns) h (suc l) e =
    no_start ns (by_cases (starts_in_one f.fun.start) (λ b. let z : true ≡ false = rw b at h in contradiction cc) (λ b. rw b at h)) l e

-- the table has a label for global 1 just where a function starts there
start-told : (table : List ℕ) (ns : List Named) → Starting table (starts_of (funs ns)) → eqb (get_or table 1 0) 0 ≡ not (has_start ns)
start-told table ns k = go (has_start ns) refl (get_or table 1 0) refl
  where
    go : (b : Bool) → has_start ns ≡ b → (v : ℕ) → get_or table 1 0 ≡ v → eqb v 0 ≡ not b
    go true h zero e = let z = found-start ns h in absurd (omega (arith, k.has 1 z.at z.starts))
    go true h (suc l) e = ne_eqb (suc l) 0 (λ z. omega arith)
    go false h zero e = refl
    go false h (suc l) e = absurd (no_start ns h l (k.is 1 l (omega arith) e))

-- ---- the text

nothing_put : (first : ℕ) {at : ℕ} {t : List ℕ} → Appends (lines (strings_code first [])) at at t t
unfolding lines strings_code
nothing_put first = appends_none

text-start : (t : List ℕ) → Text t [] 0 t
unfolding over
text-start t = record { is = refl; place = sym (upto-in (length t) 0 (omega arith)) }

over-front : (out t : List ℕ) → length out ≤ length t → take (length out) (over out t) ≡ out
unfolding over
over-front [] t h = refl
over-front (b ∷ out) [] h = absurd (omega arith)
over-front (b ∷ out) (x ∷ t) h = ap (λ (z : List ℕ). b ∷ z) (over-front out t (omega arith))

-- ---- what follows the functions

-- no strings: nothing to write
pub no-strings : {source s t : List ℕ} {count names first at : ℕ} → names ≡ 0 → AllStrings source s s count names first at at t t
no-strings {source} {s} {t} {count} {names} {first} {at} z = record {
  clean = record { by = λ ss e k h c. c };
  by = λ ss e k n. none (strings_among source ss) (sym n ∙ z);
}
  where
    none : (xs : List (List ℕ)) → length xs ≡ 0 → Appends (lines (strings_code first xs)) at at t t
    none [] q = nothing_put first
    none (x ∷ xs) q = absurd (omega arith)

-- the symbols read again
module _ {source : List ℕ} (s : List ℕ) {front : List ℕ} {a : Result ℕ Unread} {count : ℕ} (l : Lent source (length s))
    (r : Reads source (take (length source * 3) s) a front) (ss : List Symbol) (e : symbols_of source ≡ good ss) (k : count ≡ length ss) where
  abbrev room : ℕ
  room = length source * 3

  part : length (take room s) ≡ room
  part = length-take-le room s (omega arith)

  again : front ≡ padded room (entries ss)
  again = symbols-left l.short (omega (arith, part)) r (good ss) e ∙ ap (λ (n : ℕ). padded n (entries ss)) part

  again-decoded : decoded count (front ++ drop room s) ≡ ss
  again-decoded = rw (k, again, append_assoc, decoded-entries ss _)

  again-clean : {used : ℕ} → count * 3 ≤ used → Clean used s → Clean used (front ++ drop room s)
  again-clean h c = let long : length (entries ss) ≤ room = omega (arith, entries-size ss, few-good source ss e) in
      clean-front room (ap length again ∙ padded-long (entries ss) room long) (padded-clean (entries ss) room again (omega (arith, entries-size ss)))
      c

pub strings-gave : {source s front t t' : List ℕ} {a : Result ℕ Unread} {count names first at x : ℕ} → Lent source (length s)
    → Reads source (take (length source * 3) s) a front → WritesStrings source (front ++ drop (length source * 3) s) count first at x t t'
    → AllStrings source s (front ++ drop (length source * 3) s) count names first at x t t'
strings-gave {source} {s} {front} {t} {t'} {a} {count} {names} {first} {at} l r w = record {
  clean = record { by = λ ss e k h c. again-clean s l r ss e k h c };
  by = λ ss e k n. rw (again-decoded s l r ss e k) at w.by (strings-end source ss e);
}

pub behind-gave : {source s s' table t t₁ t₂ t₃ : List ℕ} {count names functions at x y z : ℕ}
    → AllStrings source s s' count names (functions + 1) at x t t₁ → WritesStarts table functions x y t₁ t₂ → Appends (90 ∷ 10 ∷ []) y z t₂ t₃
    → Behind source s s' count names functions table at z t t₃
behind-gave {source} {s} {s'} {table} {t} {t₁} {t₂} {t₃} {count} {names} {functions} {at} w v c = record {
  clean = w.clean;
  by = λ ss fs e k n long few start. let shifted = rw (add-one functions) at (w.by ss e k n) in
      appends_as (appends_then (appends_then shifted (v.by fs long few start)) c)
      (rw (lines_then (strings_code (suc functions) (strings_among source ss)) (starts_code 1 fs)));
}

-- what is accepted has no faults, and room
no-faults : (fs : List Fault) (x : Refused) → least_or fs x ≡ accepted → fs ≡ []
no-faults [] x h = refl
no-faults (f ∷ fs) x h = contradiction cc

fitting : (size room : ℕ) (x : Refused) → unless_fits size room x ≡ accepted → (x ≡ accepted) × (size ≤ room)
fitting size room (refused number place) h = contradiction cc
fitting size room accepted h =
    (refl, by_cases (ltb room size) (λ e. let z : refused 15 0 ≡ accepted = rw e at h in contradiction cc) (λ e. ltb-false room size e))

-- ---- what the walk asks

module _ {source s : List ℕ} {count end : ℕ} (y : ReadyTree source s count end) where
  abbrev p : Program
  p = y.program

  abbrev ns : List Named
  ns = functions_from source begin p

  size : length (entries y.symbols) ≡ count * 3
  size = omega (arith, entries-size y.symbols)

  pub lies : Holds s (count * 3) (encode_program p)
  lies = record {
    at = λ i h. ap (λ (z : List ℕ). get_or z (count * 3 + i) 0) y.stand
        ∙ (List·getD-append (entries y.symbols ++ encode_program p) (replicate (length s - length (entries y.symbols ++ encode_program p)) 0) 0
        (count * 3 + i) (omega (arith, length-append (entries y.symbols) (encode_program p), size))
        ∙ (ap (λ (n : ℕ). get_or (entries y.symbols ++ encode_program p) (n + i) 0) (sym size) ∙ get_or-append-add (entries y.symbols)
        (encode_program p) i 0));
  }

  symbols-are : decoded count s ≡ y.symbols
  symbols-are = rw (y.counts, y.stand, append_assoc, decoded-entries y.symbols _)

  pub end-inside : {k : ℕ} → k ≡ length s → end ≤ k
  end-inside e = omega (arith, few-good source y.symbols y.reads)

  clean-at-end : Clean end s
  clean-at-end = padded-clean (entries y.symbols ++ encode_program p) (length s) y.stand
      (omega (arith, length-append (entries y.symbols) (encode_program p), size))

  pub few-symbols : count ≤ 16384
  few-symbols = omega (arith, few-good source y.symbols y.reads)

  symbols-now : y.symbols ≡ symbols_now source
  unfolding symbols_of
  symbols-now = go (first_fault (length source) (brackets [] (scan source).symbols) (scan source).ending) y.reads
    where
      go : (f : Y.Fault) → S.on_fault f (symbols_now source) ≡ good y.symbols → y.symbols ≡ symbols_now source
      go Y.none e = cc
      go (Y.fault number place) e = contradiction cc

  tree-now : tree_of (source_now source) ≡ ok p y.next
  tree-now = ap (λ (z : List Symbol). tree_of (record { symbols = z; size = length source })) (sym symbols-now) ∙ y.parses

  few-scanned : length (scan source).symbols ≤ 16384
  few-scanned = omega (arith, scan-length source)

  -- as language's `counts`, in a text of any number of strings up to STRINGS
  counted : Counts 1 (source_now source) STRINGS (λ at. cost 1 (take at (symbols_now source)))
  counted = let k = counts 1 (omega arith) source (omega arith) (omega (arith, cost-length (scan source).symbols, few-scanned)) in
      record {
        up = k.up;
        one = k.one;
        again = k.again;
        most = k.most;
        numbers = k.numbers;
        names = k.names;
        quotes = λ at e. omega (arith, k.quotes at e, few-strings source (symbols_now source), ap length symbols-now, few-symbols);
      }

  fine : FineDs p
  fine = go (rw tree-now at (read_program (source_now source) STRINGS (λ at. cost 1 (take at (symbols_now source))) counted))
    where
      go : Takes.Of (source_now source) STRINGS (λ at. cost 1 (take at (symbols_now source))) counted (FineProgram STRINGS) (program_tokens 1) 0
          (ok p y.next) → FineDs p
      go (Takes.given f l) = f

  shallow : program_depth p ≤ 520
  shallow = go (rw tree-now at (low-program (source_now source)))
    where
      go : Gives.Of LowProgram (ok p y.next) → program_depth p ≤ 520
      go (Gives.given l) = l.low

  module _ {functions names : ℕ} (cf : CountsFunctions s (count * 3) end functions) (cn : names ≡ string_count (decoded count s)) where
    f : functions ≡ length ns
    f = cf.by p lies y.ends ∙ sym (functions-counted source begin p)

    n : names ≡ length (strings_among source y.symbols)
    n = cn ∙ (ap string_count symbols-are ∙ string-count-is source y.symbols)

    few-in-all : functions ≤ 81920
    few-in-all = omega (arith, f, functions-counted source begin p, few-functions p, few-symbols)

    few-names : names ≤ 16384
    few-names = omega (arith, n, few-strings source y.symbols, few-symbols)

    pub few_labels : functions + 1 + names ≤ 98305
    few_labels = omega (arith, few-in-all, few-names)

    pub ready-behind : {k : ℕ} → k ≡ length s → Lent source k × (count ≤ 16384) × (functions ≤ 81920)
    ready-behind e = (lent_still y.lent e, few-symbols, few-in-all)

    pub ready-program : (at : ℕ) {table : List ℕ} → table ≡ replicate 400 0
        → ReadyProgram s table (count * 3) end 520 (functions + 1)
        (record { tall = NONE; state = record { at = at; label = functions + 1 + names; worst = NONE; high = 0 } })
    ready-program at e = record {
      program = p;
      lies = lies;
      ends = y.ends;
      long = omega (arith, few-good source y.symbols y.reads);
      small = omega (arith, few-symbols);
      room = omega arith;
      height = omega (arith, few-symbols);
      label = omega (arith, few-symbols, few-in-all, few-names);
      some = omega arith;
      names = omega (arith, few-in-all);
      shallow = shallow;
      fine = fine;
      low = refl;
      empty = e;
    }

    -- ---- the answer

    module _ {s₁ s₂ table table' t t₁ t₂ t₃ : List ℕ} {at last : ℕ} {d' : Done}
        (o : Appends (36 ∷ 10 ∷ []) 0 at t t₁) (g : GaveProgram source s s₁ table table' (count * 3) end 520 (functions + 1) t₁ t₂
        (record { tall = NONE; state = record { at = at; label = functions + 1 + names; worst = NONE; high = 0 } }) d')
        (none : table ≡ replicate 400 0) (b : Behind source s₁ s₂ count names functions table' d'.state.at last t₂ t₃) where
      w : Walked source p (count * 3) (functions + 1) s s₁ table table' t₁ t₂
          (record { tall = NONE; state = record { at = at; label = functions + 1 + names; worst = NONE; high = 0 } }) d'
      unfolding ready-program
      w = g.by (ready-program at none)

      functions-are : functions_in source ≡ funs ns
      unfolding functions_in parsed read_symbols functions_of
      functions-are = rw (y.reads, y.parses) refl

      strings-are : strings_in source ≡ strings_among source y.symbols
      unfolding strings_in
      strings-are = rw y.reads refl

      abbrev code : List Item
      code = functions_code (functions + 1) 1 (functions + 1 + names) (funs ns)

      abbrev behind : List Item
      behind = strings_code (suc functions) (strings_among source y.symbols) ++ starts_code 1 (funs ns)

      items-are : items_of (functions_in source) (strings_in source) ≡ code ++ behind
      unfolding items_of
      items-are =
          let strings = strings_among source y.symbols in let l : length (funs ns) ≡ functions = length-funs ns ∙ sym f in let all : ℕ → ℕ → List
          Item = λ m k. functions_code (suc m) 1 (suc m + k) (funs ns) ++ (strings_code (suc m) strings ++ starts_code 1 (funs ns)) in
          rw (functions-are, strings-are, l, n, add-one functions)

      the-text : ((36 ∷ 10 ∷ []) ++ lines code) ++ (lines behind ++ (90 ∷ 10 ∷ [])) ≡ text_of source
      unfolding text_of
      the-text = append_assoc (36 ∷ 10 ∷ []) (lines code) (lines behind ++ (90 ∷ 10 ∷ []))
          ∙ (simp (append_assoc, lines_then code behind, rendered (code ++ behind), items-are))

      -- the text is the generator's
      written : faults_from source begin p ≡ [] → Text t (text_of source) last t₃
      written e = let x = o.by t [] (text-start t) in let y' = (w.did.clean e).text.by t (36 ∷ 10 ∷ []) x in let z = b.by y.symbols (funs ns)
          y.reads y.counts n w.long (f ∙ sym (length-funs ns)) (w.starting e) in
          rw the-text at (z.by t _ y')

      answers : by_keys source d'.state.worst d'.tall (get_or table' 1 0) last (length t) ≡ answer_of source (decided source (length s) (length t))
      unfolding rules_refuse faults_of_program functions_of
      answers =
          decides source (faults_from source begin p) (height_faults ns) (has_start ns) d'.state.worst d'.tall (get_or table' 1 0) last (length t)
          w.did.fits w.fits w.did.worst w.tall (λ e. start-told table' ns (w.starting e)) (λ e. (written e).place)
          ∙ ap (answer_of source) (sym (rules-decide y.lent (length t) y.symbols p y.next y.reads y.parses))

      begins : Begins source t₃ (decided source (length s) (length t))
      unfolding rules_refuse faults_of_program functions_of
      begins = go (decided source (length s) (length t)) refl
        where
          go : (d : Refused) → decided source (length s) (length t) ≡ d → Begins source t₃ d
          go (refused number place) e = tt
          go accepted e = let k = fitting (length (text_of source)) (length t) _
              (sym (rules-decide y.lent (length t) y.symbols p y.next y.reads y.parses) ∙ e) in
              let x = written (no-faults (faults_from source begin p) _ k.0) in (
                ap (take (length (text_of source))) x.is ∙ over-front (text_of source) t k.1,
                omega (arith, k.1, ap length x.is, over-length (text_of source) t),
              )

      clean-behind : Clean end s₂
      clean-behind = b.clean.by y.symbols y.reads y.counts (omega arith)
          (record { zeros = λ i h. w.keeps.above i (omega arith) ∙ clean-at-end.zeros i h })

      pub translates : {start room : ℕ} {a : Result ℕ Refusal} {z : List ℕ} → start ≡ get_or table' 1 0 → room ≡ length t
          → a ≡ by_keys source d'.state.worst d'.tall start last room → length s₂ ≡ length s → z ≡ take 0 (take end s₂) ++ replicate
          (length (take end s₂) - 0) 0 → Translates source s (z ++ drop end s₂) t t₃ a
      translates e k q same c =
          record { answers = q ∙ (rw (e, k, answers)); clears = rw (clean_all clean-behind (end-inside same) c, same); begins = begins }
