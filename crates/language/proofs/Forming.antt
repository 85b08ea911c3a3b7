-- The functions of a text that is accepted are formed.
use Rattle.laws.proofs.Basics.{ℕ, zero, suc, ◌+◌, ◌<◌, ◌≤◌, ◌≡◌, refl, ap, List, [], ◌∷◌, ◌++◌, true, false, length, get_or, length-append, arith}
use Rattle.language.specs.Tree as T
use Rattle.language.specs.Tree.{Item, Function, Declaration, Program}
use Rattle.language.specs.Names as N
use Rattle.language.specs.Names.{Scope, opened, lookup}
use Rattle.language.specs.Constants.{judge, judged_word, for_global}
use Rattle.language.specs.Resolved.{Start, nowhere, in_global}
use Rattle.language.specs.Program as P
use Rattle.language.specs.Program.{globals_after, manifests_after, start_of, with_function, functions_after, declared_by, inside, body_of, resolved}
use Rattle.language.specs.Program.{body_faults, function_faults, Walk, after_declaration, group_name_faults, group_faults, declaration_faults, Named}
use Rattle.language.specs.Program.{group_of, declaration_functions, faults_from, functions_from, begin, functions_of, faults_of_program}
use Rattle.language.specs.Run.{no_fun}
use Rattle.language.specs.Whole.{funs}
use Rattle.language.specs.Fine.{FineBody, FineFunctions, FineItems, FineDeclaration, FineProgram}
use Rattle.language.proofs.Formed.{FormedF}
use Rattle.language.proofs.Leaving.{none_left, none_right, nones, LeavesF, good-e, good-c}
use Rattle.language.proofs.Resolving.{KnownFound, lookup-known, Scoped, scoped-up, declared-all, judge-word, word_below, within-most}

-- a function starts in a global, if in any
abbrev pub FormedStart : Start → Type 0
FormedStart nowhere = Unit {0}
FormedStart (in_global n) = n < 400

-- formed, with labels and heights in bounds
unfoldable pub AllFormed : (functions strings : ℕ) → List Named → Type 0
AllFormed f s [] = Unit {0}
AllFormed f s (n ∷ ns) = FormedF f s (2 + n.fun.parameters) n.fun.body × AllFormed f s ns × FormedStart n.fun.start × LeavesF n.fun.body

all_both : (f s : ℕ) (xs ys : List Named) → AllFormed f s xs → AllFormed f s ys → AllFormed f s (xs ++ ys)
unfolding AllFormed
all_both f s [] ys p q = q
all_both f s (x ∷ xs) ys p q = (p.0, all_both f s xs ys p.1 q, p.2, p.3)

pub formed-at : (f s : ℕ) (ns : List Named) → AllFormed f s ns → (k : ℕ) → k < length (funs ns)
    → FormedF f s (2 + (get_or (funs ns) k no_fun).parameters) (get_or (funs ns) k no_fun).body
unfolding AllFormed funs
formed-at f s [] p k l = absurd (omega arith)
formed-at f s (n ∷ ns) p zero l = p.0
formed-at f s (n ∷ ns) p (suc k) l = formed-at f s ns p.1 k (omega arith)

pub length-funs : (ns : List Named) → length (funs ns) ≡ length ns
unfolding funs
length-funs [] = refl
length-funs (n ∷ ns) = ap suc (length-funs ns)

module _ (functions strings : ℕ) (text : List ℕ) where
  globals-scoped : (s : Scope) (is : List Item) → Scoped functions 0 s → Scoped functions 0 (globals_after text s is)
  unfolding globals_after Scoped
  globals-scoped s [] sc = sc
  globals-scoped s (i ∷ is) sc = globals-scoped (N.declared s i.name (N.global (judged_word (for_global text s i.constant)))) is (omega (arith, within-most i.constant 399 (judge text s i.constant)), sc)

  manifests-scoped : (s : Scope) (is : List Item) → FineItems strings is → Scoped functions 0 s → Scoped functions 0 (manifests_after text s is)
  unfolding manifests_after Scoped FineItems
  manifests-scoped s [] f sc = sc
  manifests-scoped s (i ∷ is) f sc =
      manifests-scoped (N.declared s i.name (N.manifest (judged_word (judge text s i.constant)))) is f.1 (word_below (judge text s i.constant) (judge-word functions 0 text s i.constant sc f.0.constant), sc)

  function-scoped : (s : Scope) (n : T.Name) (k : ℕ) (x : Start) → k < functions → Scoped functions 0 s → Scoped functions 0 (with_function s n k x)
  unfolding Scoped
  function-scoped s n k nowhere l sc = (l, sc)
  function-scoped s n k (in_global m) l sc = sc

  functions-scoped : (k : ℕ) (s : Scope) (fs : List Function) → k + length fs ≤ functions → Scoped functions 0 s
      → Scoped functions 0 (functions_after text k s fs)
  unfolding functions_after
  functions-scoped k s [] l sc = sc
  functions-scoped k s (f ∷ fs) l sc =
      functions-scoped (k + 1) _ fs (omega arith) (function-scoped s f.name k (start_of (lookup text s f.name)) (omega arith) sc)

  body-good : (s : Scope) (h : ℕ) (b : T.Body) → Scoped functions h s → FineBody strings b → body_faults text s h b ≡ []
      → FormedF functions strings h (body_of text s h b) × LeavesF (body_of text s h b)
  body-good s h (T.value e) sc f n =
      good-e functions strings text s (record { loop = false; switch = false; valof = false; routine = false }) h e sc f n
  body-good s h (T.routine c) sc f n =
      good-c functions strings text s (record { loop = false; switch = false; valof = false; routine = true }) h c sc f n

  start-formed : (x : N.Found) → KnownFound functions 0 x → FormedStart (start_of x)
  start-formed N.unknown p = tt
  start-formed (N.known (N.global n)) p = p
  start-formed (N.known (N.local k)) p = tt
  start-formed (N.known (N.manifest v)) p = tt
  start-formed (N.known (N.function k)) p = tt

  open-two : (s : Scope) → Scoped functions 0 s → Scoped functions 2 (opened s)
  unfolding Scoped
  open-two s sc = scoped-up functions s (omega arith) sc

  group-formed : (k : ℕ) (before s : Scope) (fs : List Function) → k + length fs ≤ functions → Scoped functions 0 before → Scoped functions 0 s
      → FineFunctions strings fs → group_faults text s fs ≡ [] → AllFormed functions strings (group_of text k before s fs)
  unfolding group_of group_faults function_faults resolved FineFunctions AllFormed
  group-formed k before s [] l sb sc f n = tt
  group-formed k before s (x ∷ fs) l sb sc f n = let h : ℕ = 2 + length x.parameters in
      let p = body-good (inside s x) h x.body (declared-all functions (opened s) 2 x.parameters (open-two s sc)) f.0.body (search nones) in
      let sb' = function-scoped before x.name k (start_of (lookup text before x.name)) (omega arith) sb in
      let st = start-formed (lookup text before x.name) (lookup-known functions 0 text before x.name sb) in
      (p.0, group-formed (k + 1) _ s fs (omega arith) sb' sc f.1 (search nones), st, p.1)

  pub group-length : (k : ℕ) (before s : Scope) (fs : List Function) → length (group_of text k before s fs) ≡ length fs
  unfolding group_of
  group-length k before s [] = refl
  group-length k before s (x ∷ fs) = ap suc (group-length (k + 1) _ s fs)

  declaration-scoped : (w : Walk) (d : Declaration) → w.functions + P.function_count d ≤ functions → FineDeclaration strings d
      → Scoped functions 0 w.scope
      → Scoped functions 0 (declared_by text w.functions w.scope d)
  unfolding declared_by
  declaration-scoped w (T.globals is) l f sc = globals-scoped w.scope is sc
  declaration-scoped w (T.manifests is) l f sc = manifests-scoped w.scope is f sc
  declaration-scoped w (T.functions fs) l f sc = functions-scoped w.functions w.scope fs l sc

  declaration-formed : (w : Walk) (d : Declaration) → w.functions + P.function_count d ≤ functions → FineDeclaration strings d
      → Scoped functions 0 w.scope → declaration_faults text w d ≡ []
      → AllFormed functions strings (declaration_functions text w d)
  unfolding AllFormed
  declaration-formed w (T.globals is) l f sc n = tt
  declaration-formed w (T.manifests is) l f sc n = tt
  declaration-formed w (T.functions fs) l f sc n =
      group-formed w.functions w.scope _ fs l sc (functions-scoped w.functions w.scope fs l sc) f
      (none_right (group_name_faults text w.functions w.scope w.taken fs) _ n)

  declaration-length : (w : Walk) (d : Declaration) → length (declaration_functions text w d) ≡ P.function_count d
  declaration-length w = elim [ T.globals is ↦ refl | T.manifests is ↦ refl | T.functions fs ↦ group-length w.functions w.scope _ fs ]

  all-formed : (w : Walk) (p : Program) → w.functions + length (functions_from text w p) ≤ functions → FineProgram strings p
      → Scoped functions 0 w.scope → faults_from text w p ≡ []
      → AllFormed functions strings (functions_from text w p)
  unfolding functions_from faults_from FineProgram AllFormed after_declaration
  all-formed w [] l f sc n = tt
  all-formed w (d ∷ ds) l f sc n = let e = length-append (declaration_functions text w d) (functions_from text (after_declaration text w d) ds) in
      let g = declaration-length w d in
      let m : w.functions + P.function_count d ≤ functions = omega arith in
      all_both functions strings (declaration_functions text w d) (functions_from text (after_declaration text w d) ds)
      (declaration-formed w d m f.0 sc (none_left (declaration_faults text w d) _ n))
      (all-formed (after_declaration text w d) ds (omega arith) f.1 (declaration-scoped w d m f.0 sc)
      (none_right (declaration_faults text w d) _ n))

-- a program without refusals 8 to 13
pub program-formed : (strings : ℕ) (text : List ℕ) (p : Program) → FineProgram strings p → faults_of_program text p ≡ []
    → AllFormed (length (funs (functions_of text p))) strings (functions_of text p)
unfolding faults_of_program functions_of Scoped
program-formed strings text p f n =
    all-formed (length (funs (functions_from text begin p))) strings text begin p (omega (arith, length-funs (functions_from text begin p))) f tt n
