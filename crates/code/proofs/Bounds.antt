-- No more than one inner label a symbol, and three a REPEAT form; no more than eight program words a symbol.
use Rattle.laws.proofs.Basics.{ℕ, ◌+◌, ◌*◌, ◌≤◌, ◌≡◌, List, [], ◌∷◌, ◌++◌, Bool, true, false, cond, length, length-append, eqb, arith}
use Rattle.language.specs.Kinds.{IF, WHILE, UNTIL, REPEATWHILE}
use Rattle.language.specs.Tree as T
use Rattle.language.specs.Tree.{Expression, Expressions, Suffixes, Operations, Command, Commands, Unlabelled, Repeats, Function, Declaration, Program}
use Rattle.language.specs.Names as N
use Rattle.language.specs.Names.{Found, Scope, opened, declared, lookup}
use Rattle.language.specs.Constants.{for_vector, judged_word}
use Rattle.language.specs.Resolve as E
use Rattle.language.specs.Resolve.{Side, side, no_side, declare_all, of_meaning, side_of, target_of, address_of, under, scope_after, pair_up}
use Rattle.language.specs.Resolve.{values_before}
use Rattle.language.specs.Resolve.{labels_before, leaving}
use Rattle.language.specs.Resolved as R
use Rattle.language.specs.Resolved.{Expr, Exprs, Cmd, Locals, case_count}
use Rattle.language.specs.Program.{body_of, inside, resolved, start_of, with_function, functions_after, Walk, after_declaration, Named, group_of}
use Rattle.language.specs.Program.{declaration_functions, functions_from}
use Rattle.language.specs.Fine.{Fine, FineList, FineSuffixes, FineOperations, FineCommand, FineCommands, FineUnlabelled, FineRepeats, FineLocals}
use Rattle.language.specs.Fine.{FineBody, FineFunctions, FineDeclaration, FineProgram}
use Rattle.language.proofs.Cases.{by-monadic, by-leaving, by-guard, by_side}
use Rattle.language.proofs.Tokens.{not-bare, labels-tokens, started, started-tokens, labels_tokens, tokens, list_tokens, suffixes_tokens}
use Rattle.language.proofs.Tokens.{operations_tokens, command_tokens, commands_tokens, unlabelled_tokens, repeats_tokens, locals_tokens, body_tokens}
use Rattle.language.proofs.Tokens.{functions_tokens, declaration_tokens, program_tokens}
use Rattle.language.proofs.Resolving.{cases-before}
use Rattle.code.specs.Generate.{commands_in, expr_labels, exprs_labels, target_labels, pairs_labels, cmd_labels, cmds_labels, cases_labels}
use Rattle.code.specs.Generate.{locals_labels, body_labels}
use Rattle.language.specs.Whole.{funs}
use Rattle.code.proofs.Measures.{fun_labels, fun_words}
use Rattle.code.proofs.WordCounts.{expr_words, exprs_words, target_words, pairs_words, cmd_words, cmds_words, cases_words, locals_words, body_words}

-- what a left side needs more words
abbrev extra_of : Side → ℕ
extra_of (side (R.to_local k)) = 2
extra_of (side (R.to_global n)) = 2
extra_of (side (R.to_contents e)) = 6
extra_of (side (R.to_index a b)) = 6
extra_of no_side = 2

abbrev extra : Expr → ℕ
extra e = extra_of (side_of e)

record Sided (e : Expr) (x : Side) : Type 0 where
  two : 2 ≤ extra_of x
  target : (target_labels (target_of x) ≤ expr_labels e) × (target_words (target_of x) ≤ expr_words e + extra_of x)
  address : (expr_labels (address_of x) ≤ expr_labels e) × (expr_words (address_of x) + extra (address_of x) ≤ expr_words e + 4)

sided : (e : Expr) → Sided e (side_of e)
unfolding expr_labels expr_words side_of
sided = by_side Sided (λ _. omega arith) (λ _. omega arith) (λ _. omega arith) (λ _ _. omega arith) (λ _. omega arith)

-- so many labels, and so many words with those of a left side
abbrev Of : (labels words : ℕ) → Expr → Type 0
Of n m e = (expr_labels e ≤ n) × (expr_words e + extra e ≤ m)

-- of what was written with so many
abbrev Written : (labels words : ℕ) → Expr → Type 0
Written n m e = (expr_labels e + 1 ≤ n) × (expr_words e + extra e ≤ m)

abbrev OfCommand : (labels words : ℕ) → Cmd → Type 0
OfCommand n m c = (cmd_labels c ≤ n) × (cmd_words c ≤ m)

name-few : (x : Found) → Of 0 8 (of_meaning x)
unfolding expr_labels expr_words side_of
name-few N.unknown = omega arith
name-few (N.known (N.local k)) = omega arith
name-few (N.known (N.global n)) = omega arith
name-few (N.known (N.manifest v)) = omega arith
name-few (N.known (N.function k)) = omega arith

monadic-few : (o : ℕ) (e : Expr) → Of (expr_labels e) (expr_words e + 8) (E.resolved_monadic o e)
unfolding expr_labels expr_words side_of
monadic-few o e = by-monadic (Of (expr_labels e) (expr_words e + 8)) o e (omega arith) (omega (arith, (sided e).address)) (omega arith)

leaving-few : (w : ℕ) → OfCommand 0 2 (leaving w)
unfolding expr_labels expr_words
leaving-few w = by-leaving (OfCommand 0 2) w (omega arith) (omega arith) (omega arith) (omega arith) (omega arith)

guard-few : (e : Expr) (c : Cmd) (sense a b : Bool) → OfCommand (2 + expr_labels e + cmd_labels c) (4 + expr_words e + cmd_words c)
    (cond a (R.while true e c) (cond b (R.while false e c) (R.when sense e c)))
unfolding expr_labels expr_words
guard-few e c sense a b =
    by-guard (OfCommand (2 + expr_labels e + cmd_labels c) (4 + expr_words e + cmd_words c)) e c sense a b (omega arith) (omega arith) (omega arith)

unfoldable side_words : Exprs → ℕ
side_words R.none = 0
side_words (R.and e es) = expr_words e + extra e + side_words es

pairs-few : (l r : Exprs) → (pairs_labels (pair_up l r) ≤ exprs_labels l + exprs_labels r) × (pairs_words (pair_up l r) ≤ side_words l + side_words r)
unfolding expr_labels expr_words side_words
pairs-few R.none r = omega arith
pairs-few (R.and e es) R.none = omega arith
pairs-few (R.and e es) (R.and d ds) = omega (arith, (sided e).target, pairs-few es ds)

values-few : (es : Exprs) (ls : Locals)
    → (locals_labels (values_before es ls) ≤ exprs_labels es + locals_labels ls) × (locals_words (values_before es ls) ≤ exprs_words es + locals_words ls)
unfolding expr_labels expr_words
values-few R.none ls = omega arith
values-few (R.and e es) ls = omega (arith, values-few es ls)

module _ (strings : ℕ) (text : List ℕ) where
  two : (s : Scope) (h : ℕ) (e : Expression) → 2 ≤ extra (E.expression text s h e)
  two s h e = (sided (E.expression text s h e)).two

  mutual
    unfolding E.expression expr_labels expr_words side_of side_words tokens commands_in case_count Fine

    pub count-e : (s : Scope) (h : ℕ) (e : Expression) → Fine strings e → Written (tokens 3 e) (8 * tokens 1 e) (E.expression text s h e)
    count-e s h (T.number place v) f = omega arith
    count-e s h (T.string place k) f = omega arith
    count-e s h (T.name n) f = omega (arith, name-few (lookup text s n))
    count-e s h (T.bracketed place e) f = omega (arith, count-e s h e f)
    count-e s h (T.valof place c) f = omega (arith, count-c s h c f)
    count-e s h (T.monadic place o e) f = omega (arith, monadic-few o (E.expression text s h e), count-e s h e f)
    count-e s h (T.suffixed e ss) f = omega (arith, count-x s h ss (E.expression text s (under ss h) e) f.1, count-e s (under ss h) e f.0)
    count-e s h (T.dyadic e os) f = omega (arith, count-o s h os (E.expression text s h e) f.1, count-e s h e f.0)

    count-x : (s : Scope) (h : ℕ) (ss : Suffixes) (x : Expr) → FineSuffixes strings ss
        → Of (expr_labels x + suffixes_tokens 3 ss) (expr_words x + extra x + 8 * suffixes_tokens 1 ss) (E.suffixes text s h x ss)
    count-x s h T.no_suffixes x f = omega arith
    count-x s h (T.call es ss) x f =
        omega (arith, count-x s h ss (R.call x (E.expressions text s (under ss h + 2) es)) f.1, count-a s (under ss h + 2) es f.0, (sided x).two)
    count-x s h (T.index d ss) x f = let g : ℕ = under ss h + 1 in
        omega (arith, count-x s h ss (R.index x (E.expression text s g d)) f.1, count-e s g d f.0, two s g d, (sided x).two)

    count-o : (s : Scope) (h : ℕ) (os : Operations) (x : Expr) → FineOperations strings os
        → Of (expr_labels x + operations_tokens 3 os) (expr_words x + extra x + 8 * operations_tokens 1 os) (E.operations text s h x os)
    count-o s h T.no_operations x f = omega arith
    count-o s h (T.operation o d os) x f =
        omega (arith, count-o s h os (R.binary o x (E.expression text s (h + 1) d)) f.1, count-e s (h + 1) d f.0, two s (h + 1) d, (sided x).two)

    count-a : (s : Scope) (h : ℕ) (es : Expressions) → FineList strings es
        → (exprs_labels (E.expressions text s h es) ≤ list_tokens 3 es) × (exprs_words (E.expressions text s h es) ≤ 8 * list_tokens 1 es)
    count-a s h T.no_expressions f = omega arith
    count-a s h (T.and_expression e es) f = omega (arith, count-e s h e f.0, two s h e, count-a s (h + 1) es f.1)

    count-sides : (s : Scope) (h : ℕ) (es : Expressions) → FineList strings es
        → (exprs_labels (E.sides text s h es) ≤ list_tokens 3 es) × (side_words (E.sides text s h es) ≤ 8 * list_tokens 1 es)
    count-sides s h T.no_expressions f = omega arith
    count-sides s h (T.and_expression e es) f = omega (arith, count-e s h e f.0, count-sides s h es f.1)

    -- a command's own label in a list after INTO too, and words its labels apart
    pub count-c : (s : Scope) (h : ℕ) (c : Command) → FineCommand strings c
        → (cmd_labels (E.command text s h c) + 1 ≤ command_tokens 3 c)
        × (cmd_words (E.command text s h c) + 8 * labels_tokens (labels_before c) ≤ 8 * command_tokens 1 c)
    count-c s h (T.command ls u rs) f = let z : 1 ≤ labels_tokens ls + started u = not-bare f.3 in
        omega (arith, count-r s h rs (E.unlabelled text s h u) f.2, count-u s h u (labels_tokens ls) (omega (arith, started-tokens 3 u)) f.1)

    count-r : (s : Scope) (h : ℕ) (rs : Repeats) (x : Cmd) → FineRepeats strings rs
        → OfCommand (cmd_labels x + repeats_tokens 3 rs) (cmd_words x + 8 * repeats_tokens 1 rs) (E.repeats text s h x rs)
    count-r s h T.no_repeats x f = omega arith
    count-r s h (T.repeat rs) x f = omega (arith, count-r s h rs (R.repeat x) f)
    count-r s h (T.repeat_on w e rs) x f =
        omega (arith, count-r s h rs (R.repeat_while (eqb w REPEATWHILE) x (E.expression text s h e)) f.1, count-e s h e f.0, two s h e)

    count-u : (s : Scope) (h : ℕ) (u : Unlabelled) (before : ℕ) → 1 ≤ before + unlabelled_tokens 3 u → FineUnlabelled strings u
        → (cmd_labels (E.unlabelled text s h u) + 1 ≤ before + unlabelled_tokens 3 u) × (cmd_words (E.unlabelled text s h u) ≤ 8 * unlabelled_tokens 1 u)
    count-u s h T.empty b z f = omega arith
    count-u s h (T.assignment left right) b z f = omega
        (arith, pairs-few (E.sides text s (h + 1) left) (E.sides text s h right), count-sides s (h + 1) left f.0, count-sides s h right f.1)
    count-u s h (T.call_command e) b z f = omega (arith, count-e s h e f.0)
    count-u s h (T.test e c d) b z f = omega (arith, count-e s h e f.0, count-c s h c f.1, count-c s h d f.2)
    count-u s h (T.guarded w e c) b z f = let g = guard-few (E.expression text s h e) (E.command text s h c) (eqb w IF) (eqb w WHILE) (eqb w UNTIL) in
        omega (arith, g, count-e s h e f.0, count-c s h c f.1)
    count-u s h (T.for n e d k c) b z f =
        omega (arith, count-e s h e f.0, count-e s (h + 1) d f.1, count-c (declared (opened s) n (N.local h)) (h + 2) c f.3)
    count-u s h (T.switchon e cs) b z f = omega (arith, count-e s h e f.0, count-s s h cs f.1)
    count-u s h (T.resultis place e) b z f = omega (arith, count-e s h e f)
    count-u s h (T.leave w place) b z f = omega (arith, leaving-few w)
    count-u s h (T.block ls cs) b z f =
        omega (arith, count-l (opened s) h ls f.0, count-b (scope_after text (opened s) h ls) (E.height_after text (opened s) h ls) cs f.1)

    count-l : (s : Scope) (h : ℕ) (ls : T.Locals) → FineLocals strings ls
        → (locals_labels (E.locals text s h ls) ≤ locals_tokens 3 ls) × (locals_words (E.locals text s h ls) ≤ 8 * locals_tokens 1 ls)
    count-l s h T.no_locals f = omega arith
    count-l s h (T.vector n k ls) f = omega (arith, count-l (declared s n (N.local h)) (h + 2 + judged_word (for_vector text s k)) ls f.1)
    count-l s h (T.values ns es ls) f = let g = values-few (E.expressions text s h es) (E.locals text (declare_all s h ns) (h + length ns) ls) in
        omega (arith, g, count-a s h es f.0, count-l (declare_all s h ns) (h + length ns) ls f.1)

    count-b : (s : Scope) (h : ℕ) (cs : Commands) → FineCommands strings cs
        → (cmds_labels (E.commands text s h cs) ≤ commands_tokens 3 cs) × (cmds_words (E.commands text s h cs) ≤ 8 * commands_tokens 1 cs)
    count-b s h T.no_commands f = omega arith
    count-b s h (T.and_command c cs) f = omega (arith, count-c s h c f.0, count-b s h cs f.1)

    count-s : (s : Scope) (h : ℕ) (cs : Commands) → FineCommands strings cs
        → (commands_in (E.case_list text s h cs) + cases_labels (E.case_list text s h cs) ≤ commands_tokens 3 cs)
        × (4 * case_count (E.case_list text s h cs) + cases_words (E.case_list text s h cs) ≤ 8 * commands_tokens 1 cs)
    count-s s h T.no_commands f = omega arith
    count-s s h (T.and_command c cs) f =
        omega (arith, count-c s h c f.0, count-s s h cs f.1, cases-before 0 0 text s (labels_before c), labels-tokens (labels_before c))

-- ---- of whole programs

abbrev pub inner_labels : List Named → ℕ
inner_labels ns = fun_labels (funs ns)

abbrev pub all_words : List Named → ℕ
all_words ns = fun_words (funs ns)

-- a function takes four symbols more than its parameters and body: so there are four labels to spare
abbrev Few : (tokens tokens' : ℕ) → List Named → Type 0
Few t t' ns = (inner_labels ns + 4 * length ns ≤ t) × (all_words ns ≤ 8 * t')

few-both : (xs ys : List Named) → (inner_labels (xs ++ ys) ≡ inner_labels xs + inner_labels ys) × (all_words (xs ++ ys) ≡ all_words xs + all_words ys)
unfolding funs fun_labels fun_words
few-both [] ys = omega arith
few-both (x ∷ xs) ys = omega (arith, few-both xs ys)

module _ (strings : ℕ) (text : List ℕ) where
  few-body : (s : Scope) (h : ℕ) (b : T.Body) → FineBody strings b
      → (body_labels (body_of text s h b) + 1 ≤ body_tokens 3 b) × (body_words (body_of text s h b) ≤ 8 * body_tokens 1 b)
  unfolding body_labels
  few-body s h (T.value e) f = omega (arith, count-e strings text s h e f)
  few-body s h (T.routine c) f = omega (arith, count-c strings text s h c f)

  few-group : (k : ℕ) (before s : Scope) (fs : List Function) → FineFunctions strings fs
      → Few (functions_tokens 3 fs) (functions_tokens 1 fs) (group_of text k before s fs)
  unfolding group_of resolved funs fun_labels fun_words functions_tokens FineFunctions
  few-group k before s [] f = omega arith
  few-group k before s (x ∷ fs) f = omega (
    arith,
    few-body (inside s x) (2 + length x.parameters) x.body f.0.body,
    few-group (k + 1) (with_function before x.name k (start_of (lookup text before x.name))) s fs f.1,
  )

  few-declaration : (w : Walk) (d : Declaration) → FineDeclaration strings d
      → Few (declaration_tokens 3 d) (declaration_tokens 1 d) (declaration_functions text w d)
  unfolding funs fun_labels fun_words
  few-declaration w (T.globals is) f = omega arith
  few-declaration w (T.manifests is) f = omega arith
  few-declaration w (T.functions fs) f = few-group w.functions w.scope (functions_after text w.functions w.scope fs) fs f

  pub few-program : (w : Walk) (p : Program) → FineProgram strings p → Few (program_tokens 3 p) (program_tokens 1 p) (functions_from text w p)
  unfolding functions_from FineProgram program_tokens funs fun_labels fun_words
  few-program w [] f = omega arith
  few-program w (d ∷ ds) f = let xs : List Named = declaration_functions text w d in
      let ys : List Named = functions_from text (after_declaration text w d) ds in
      omega (arith, few-declaration w d f.0, few-program (after_declaration text w d) ds f.1, few-both xs ys, length-append xs ys)
