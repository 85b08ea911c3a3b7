-- The whole program: its declarations one after another, with the walk, the faults and the functions so far.
use Rattle.laws.proofs.Basics.{ℕ, suc, ◌+◌, ◌*◌, ◌<◌, ◌≤◌, ◌≡◌, refl, sym, ap, subst, ◌∙◌, List, [], ◌∷◌, ◌++◌, append_assoc, append-nil, Bool, true}
use Rattle.laws.proofs.Basics.{false, length, get_or, replicate, length-append, length-replicate, get_or-replicate, arith}
use Rattle.laws.proofs.Cases.{contradiction}
use Rattle.language.specs.Tree as T
use Rattle.compiler.proofs.Language.{Declaration, Program, Fault, Start, nowhere, in_global, FineDeclaration, FineProgram, declaration_depth}
use Rattle.compiler.proofs.Language.{program_depth, encode_program}
use Rattle.language.specs.Program.{Walk, Named, begin, among, functions_after, after_declaration, declaration_faults, declaration_functions}
use Rattle.language.specs.Program.{faults_from}
use Rattle.language.specs.Program.{functions_from}
use Rattle.language.specs.Whole.{funs}
use Rattle.compiler.specs.Scope as S
use Rattle.compiler.proofs.Vocabulary.{STRINGS, Small, Taken, Starting, FineDs, starts_of, encode_declared, Stands, Yields, ReadyDeclaration}
use Rattle.compiler.proofs.Vocabulary.{GaveDeclaration, ReadyProgram, GaveProgram}
use Rattle.compiler.specs.declared.program.Done.{Done}
use Rattle.compiler.specs.declared.program.Progress.{Progress}
use Rattle.compiler.proofs.Common.{keeps-lower, nil-left, nil-right, keeps-lies, Rest, rest_all, taken-sizes, rest-next}
use Rattle.compiler.proofs.FunctionCounts.{IsDeclaration, is-declaration, no-declaration}
use Rattle.compiler.proofs.FunctionLists.{functions-long, yields_none, yields-then, yields-as}
use Rattle.compiler.proofs.Levels.{group-long}

-- ---- the functions of a declaration

made-few : (text : List ℕ) (w : Walk) (p : Declaration) → length (declaration_functions text w p) ≤ length (encode_declared p)
made-few text w (T.globals is) = omega arith
made-few text w (T.manifests is) = omega arith
made-few text w (T.functions fs) =
    omega (arith, group-long text w.functions w.scope (functions_after text w.functions w.scope fs) fs, functions-long fs)

made-many : (text : List ℕ) (w : Walk) (p : Declaration)
    → (after_declaration text w p).functions ≡ w.functions + length (declaration_functions text w p)
unfolding after_declaration
made-many text w (T.globals is) = refl
made-many text w (T.manifests is) = refl
made-many text w (T.functions fs) = rw (group-long text w.functions w.scope (functions_after text w.functions w.scope fs) fs)

-- ---- where functions start

starts-long : (gs : List Named) → length (starts_of (funs gs)) ≡ length gs
unfolding starts_of funs
starts-long [] = refl
starts-long (g ∷ gs) = ap suc (starts-long gs)

starts-then : (gs hs : List Named) → starts_of (funs (gs ++ hs)) ≡ starts_of (funs gs) ++ starts_of (funs hs)
unfolding starts_of funs
starts-then [] hs = refl
starts-then (g ∷ gs) hs = rw (starts-then gs hs)

none-taken : {table : List ℕ} → table ≡ replicate 400 0 → Taken table []
unfolding among
none-taken e = record {
  long = ap length e ∙ length-replicate {A = ℕ} 400 0;
  free = λ n l q. rw (e, get_or-replicate {A = ℕ} 400 n 0 0 l);
  used = λ n l q. let z : ◌≡◌ {A = Bool} false true = q in contradiction cc;
}

none-starting : {table : List ℕ} → table ≡ replicate 400 0 → Starting table []
none-starting {table} e = record {
  is = λ n l m q. let z : get_or table n 0 ≡ 0 = rw (e, get_or-replicate {A = ℕ} 400 n 0 0 m) in absurd (omega arith);
  has = λ n l q. let z : ◌≡◌ {A = Start} nowhere (in_global n) = q in contradiction cc;
}

none-small : Small begin.scope
unfolding Small
none-small = tt

-- ---- the loop

abbrev at_first : Done → Progress
at_first d = record { top = 0; functions = 0; done = d }

module _ (text t₀ : List ℕ) {s₀ table₀ : List ℕ} {base end left strings : ℕ} (d₀ : Done) where
  -- `rest` is left at `at`; the declarations before it have these faults and these functions
  pub record ProgramPart (y : ReadyProgram s₀ table₀ base end left strings d₀) (s table t : List ℕ) (at : ℕ) (l : Progress) : Type 0 where
    pub left_over : Rest encode_program base 0 s₀ s end at
    pub walk : Walk
    pub found : List Fault
    pub made : List Named
    pub used : ℕ
    pub stands : Stands base s table walk l
    pub bounds : (walk.functions ≡ length made) × (program_depth left_over.rest ≤ left) × (length made ≤ used)
        × (used + length (encode_program left_over.rest) ≤ length (encode_program y.program))
        × (l.top * 2 + length (encode_program left_over.rest) ≤ base * 2)
    pub fine : FineDs left_over.rest
    pub faults-are : found ++ faults_from text walk left_over.rest ≡ faults_from text begin y.program
    pub made-are : made ++ functions_from text walk left_over.rest ≡ functions_from text begin y.program
    pub yields : Yields strings 1 found made (2 * used) t₀ t d₀ l.done
    pub starting : found ≡ [] → Starting table (starts_of (funs made))

  pub program-begin : (y : ReadyProgram s₀ table₀ base end left strings d₀) → ProgramPart y s₀ table₀ t₀ base (at_first d₀)
  unfolding starts_of funs
  program-begin y = record {
    left_over = rest_all y.program y.lies y.ends (omega arith);
    walk = begin;
    found = [];
    made = [];
    used = 0;
    stands = record { shows = S.nothing refl; globals = none-small; free = none-taken y.empty; many = refl; some = y.some; low = y.low };
    bounds = omega arith;
    fine = y.fine;
    faults-are = refl;
    made-are = refl;
    yields = yields_none strings 1;
    starting = λ e. none-starting y.empty;
  }

  module _ {s table t : List ℕ} {at size next tag : ℕ} {l : Progress} (lt : at < end) (es : size ≡ get_or s at 0) (en : next ≡ at + 2 + size)
      (et : tag ≡ get_or s (at + 1) 0) (y : ReadyProgram s₀ table₀ base end left strings d₀) (p : ProgramPart y s table t at l) where
    abbrev pub program-one : IsDeclaration s₀ at end p.left_over.rest
    program-one = is-declaration p.left_over.rest p.left_over.lies p.left_over.ends lt

    pub program-sizes : let u = program-one in ((size ≡ length (encode_declared u.part))
        × (length (encode_program p.left_over.rest) ≡ 2 + length (encode_declared u.part) + length (encode_program u.more)))
        × (declaration_depth u.part ≤ left) × (program_depth u.more ≤ left)
    unfolding program_depth
    program-sizes = let e = ap program_depth program-one.same in (taken-sizes p.left_over program-one es, omega arith, omega arith)

    pub program-fine : FineDeclaration STRINGS program-one.part × FineDs program-one.more
    unfolding FineProgram
    program-fine = subst FineDs program-one.same p.fine

    abbrev pub program-ready : ReadyDeclaration s table (at + 2) next tag left strings l
    program-ready = record {
      base = base;
      walk = p.walk;
      part = program-one.part;
      stands = p.stands;
      lies = keeps-lies p.left_over.keeps (omega arith) program-one.lies;
      ends = omega (arith, en, program-sizes);
      word = et ∙ p.left_over.keeps.above (at + 1) (omega arith) ∙ program-one.word_of;
      above = omega arith;
      long = omega arith;
      small = omega (arith, y.small, en, program-sizes, program-one.ends);
      room = omega (arith, program-sizes);
      height = omega (arith, program-sizes);
      label = omega (arith, program-sizes);
      few = omega (arith, program-sizes);
      names = omega arith;
      shallow = program-sizes.1;
      fine = program-fine.0;
    }

    pub program-next : {s₁ table₁ t₁ : List ℕ} {r : Progress} → GaveDeclaration text s s₁ table table₁ (at + 2) next tag left strings t t₁ l r
        → ProgramPart y s₁ table₁ t₁ next r
    unfolding faults_from functions_from
    program-next {s₁} {table₁} g =
        let u = program-one in let x = g.by program-ready in let w = p.walk in let w' = after_declaration text w u.part in
        let fs = declaration_faults text w u.part in let gs = declaration_functions text w u.part in
        record {
          left_over = rest-next p.left_over u es en (keeps-lower (omega arith) x.keeps);
          walk = w';
          found = p.found ++ fs;
          made = p.made ++ gs;
          used = p.used + (2 + length (encode_declared u.part));
          stands = x.stands;
          bounds = omega (arith, program-sizes, length-append p.made gs, made-few text w u.part, made-many text w u.part);
          fine = program-fine.1;
          faults-are = append_assoc p.found fs (faults_from text w' u.more)
              ∙ ap (λ (z : Program). p.found ++ faults_from text w z) (sym u.same) ∙ p.faults-are;
          made-are = append_assoc p.made gs (functions_from text w' u.more)
              ∙ ap (λ (z : Program). p.made ++ functions_from text w z) (sym u.same) ∙ p.made-are;
          yields = yields-as (2 * (p.used + (2 + length (encode_declared u.part)))) refl refl (omega arith) (yields-then (w.functions + 1)
              (omega arith) p.yields x.yields);
          starting = λ e. subst (Starting table₁) (sym (starts-then p.made gs))
              (x.starting (nil-right p.found fs e) (starts_of (funs p.made)) (starts-long p.made ∙ sym p.bounds.0)
              (p.starting (nil-left p.found fs e)));
        }

  pub program-end : {s table t : List ℕ} {at : ℕ} {l : Progress} → end ≤ at
      → ((y : ReadyProgram s₀ table₀ base end left strings d₀) → ProgramPart y s table t at l)
      → GaveProgram text s₀ s table₀ table base end left strings t₀ t d₀ l.done
  unfolding faults_from functions_from
  program-end {s} {table} {t} {at} lt q = record {
    by = λ y. let p = q y in let e = no-declaration p.left_over.rest p.left_over.ends lt in
        let fe : p.found ≡ faults_from text begin y.program
        = cc (append-nil p.found) in
        let me : p.made ≡ functions_from text begin y.program = cc (append-nil p.made) in let r = yields-as
        (2 * length (encode_program y.program)) fe me (omega arith) p.yields in
        record {
          did = r.did;
          tall = r.tall;
          fits = r.fits;
          starting = λ c. rw me at (p.starting (fe ∙ c));
          long = p.stands.free.long;
          keeps = p.left_over.keeps;
        };
  }
