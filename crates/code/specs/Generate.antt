-- The code generator: from resolved trees to the items of the compiler's text.
-- An expression's code leaves its value in A. Frame words from the height up hold what waits. Labels: the functions' 1, 2 and on, then
-- the strings', then inner ones, numbered in the order in which one walk through the text meets what needs them: a form's own labels
-- first (a SWITCHON's after its value), then those of its parts in the order of their code.
use Rattle.std.specs.Prelude.{ℕ, suc, ◌+◌, Bool, true, false, cond, List, [], ◌∷◌, ◌++◌, length, eqb, leb}
use Rattle.items.specs.Item.{number, address, none, P, G, Item, label, instruction, constant, string, global}
use Rattle.items.specs.Render.{render_all}
use Rattle.language.specs.Kinds.{PLUS, MINUS, STAR, SLASH, REM, EQUAL, UNEQUAL, LESS, ATMOST, MORE, ATLEAST, LEFT, RIGHT, AMPERSAND, BAR, NOT}
use Rattle.language.specs.Resolved as R
use Rattle.language.specs.Resolved.{CaseLabel, has_default, case_count, Expr, Exprs, Target, Pairs, Cmd, Cmds, Cases, Locals, Body, Start, nowhere}
use Rattle.language.specs.Resolved.{in_global, Fun}
use Rattle.language.specs.Heights.{count, height_with}
use Rattle.language.specs.Whole.{functions_in, strings_in}

-- ---- the instructions used, by their letters

abbrev pub plain : (function : ℕ) (operand : ℕ) → Item
plain f n = instruction f false none (number false n)

abbrev pub to : (function : ℕ) (label : ℕ) → Item
to f l = instruction f false none (address l)

-- L n; LL n; LP n; LG n; LIP n; LIG n
abbrev pub L : ℕ → Item
L n = plain 0 n

abbrev pub LL : ℕ → Item
LL l = to 0 l

abbrev pub LP : ℕ → Item
LP n = instruction 0 false P (number false n)

abbrev pub LG : ℕ → Item
LG n = instruction 0 false G (number false n)

abbrev pub LIP : ℕ → Item
LIP n = instruction 0 true P (number false n)

abbrev pub LIG : ℕ → Item
LIG n = instruction 0 true G (number false n)

abbrev pub SP : ℕ → Item
SP n = instruction 1 false P (number false n)

abbrev pub SG : ℕ → Item
SG n = instruction 1 false G (number false n)

abbrev pub Sip : ℕ → Item
Sip n = instruction 1 true P (number false n)

abbrev pub A : ℕ → Item
A n = plain 2 n

abbrev pub AIP : ℕ → Item
AIP n = instruction 2 true P (number false n)

abbrev pub JL : ℕ → Item
JL l = to 3 l

abbrev pub FL : ℕ → Item
FL l = to 5 l

abbrev pub K : ℕ → Item
K n = plain 6 n

abbrev pub X : ℕ → Item
X n = plain 7 n

abbrev pub D : ℕ → Item
D n = constant (number false n)

abbrev pub DL : ℕ → Item
DL l = constant (address l)

-- a jump where the value in A is as wanted, and where it is not
abbrev pub jump_when : (sense : Bool) (label : ℕ) → Item
jump_when sense l = to (cond sense 4 5) l

abbrev pub jump_unless : (sense : Bool) (label : ℕ) → Item
jump_unless sense l = to (cond sense 5 4) l

-- ---- the acts of the operators

-- monadic + needs none
unfoldable pub monadic_act : (operator : ℕ) → List Item
monadic_act o = cond (eqb o MINUS) (X 2 ∷ []) (cond (eqb o NOT) (X 3 ∷ []) [])

-- 0, which is no act, for what is no dyadic operator
unfoldable pub dyadic_act : (operator : ℕ) → ℕ
dyadic_act o =
    cond (eqb o STAR) 5
    (cond (eqb o SLASH) 6
    (cond (eqb o REM) 7
    (cond (eqb o PLUS) 8
    (cond (eqb o MINUS) 9
    (cond (eqb o EQUAL) 10
    (cond (eqb o UNEQUAL) 11
    (cond (eqb o LESS) 12
    (cond (eqb o ATMOST) 15
    (cond (eqb o MORE) 14
    (cond (eqb o ATLEAST) 13
    (cond (eqb o LEFT) 16
    (cond (eqb o RIGHT) 17
    (cond (eqb o AMPERSAND) 18
    (cond (eqb o BAR) 19 0))))))))))))))

-- FOR tests i <= limit, or >= for a negative BY
abbrev pub limit_act : (by : ℕ) → ℕ
limit_act by = cond (leb 32768 by) 13 15

-- ---- inner labels used by a part

-- each command of the list after INTO has a label
unfoldable pub commands_in : Cases → ℕ
commands_in R.no_cases = 0
commands_in (R.cases ls c cs) = suc (commands_in cs)

unfoldable mutual
  pub expr_labels : Expr → ℕ
  expr_labels (R.constant v) = 0
  expr_labels (R.local k) = 0
  expr_labels (R.global n) = 0
  expr_labels (R.function k) = 0
  expr_labels (R.string k) = 0
  expr_labels (R.address_of_local k) = 0
  expr_labels (R.address_of_global n) = 0
  expr_labels (R.address_of_contents e) = expr_labels e
  expr_labels (R.address_of_index a b) = expr_labels a + expr_labels b
  expr_labels (R.contents e) = expr_labels e
  expr_labels (R.index a b) = expr_labels a + expr_labels b
  expr_labels (R.unary o e) = expr_labels e
  expr_labels (R.binary o a b) = expr_labels a + expr_labels b
  expr_labels (R.call e es) = exprs_labels es + expr_labels e
  -- its end
  expr_labels (R.valof c) = 1 + cmd_labels c

  pub exprs_labels : Exprs → ℕ
  exprs_labels R.none = 0
  exprs_labels (R.and e es) = expr_labels e + exprs_labels es

  pub target_labels : Target → ℕ
  target_labels (R.to_local k) = 0
  target_labels (R.to_global n) = 0
  target_labels (R.to_contents e) = expr_labels e
  target_labels (R.to_index a b) = expr_labels a + expr_labels b

  pub pairs_labels : Pairs → ℕ
  pairs_labels R.no_pairs = 0
  pairs_labels (R.pair t e ps) = expr_labels e + target_labels t + pairs_labels ps

  pub cmd_labels : Cmd → ℕ
  cmd_labels R.empty = 0
  cmd_labels (R.assign ps) = pairs_labels ps
  cmd_labels (R.perform e) = expr_labels e
  -- the command after OR, and the end
  cmd_labels (R.test e c d) = 2 + expr_labels e + cmd_labels c + cmd_labels d
  -- the end
  cmd_labels (R.when sense e c) = 1 + expr_labels e + cmd_labels c
  -- the test, and the end
  cmd_labels (R.while sense e c) = 2 + expr_labels e + cmd_labels c
  -- the body, what follows it, and the end
  cmd_labels (R.repeat c) = 3 + cmd_labels c
  cmd_labels (R.repeat_while sense c e) = 3 + cmd_labels c + expr_labels e
  -- the test, the step, and the end
  cmd_labels (R.for first limit by c) = 3 + expr_labels first + expr_labels limit + cmd_labels c
  -- the end, and the commands of the list
  cmd_labels (R.switch e cs) = expr_labels e + 1 + commands_in cs + cases_labels cs
  cmd_labels (R.resultis e) = expr_labels e
  cmd_labels R.break = 0
  cmd_labels R.loop = 0
  cmd_labels R.endcase = 0
  cmd_labels R.return = 0
  cmd_labels R.finish = 0
  cmd_labels (R.block ls cs) = locals_labels ls + cmds_labels cs

  pub cmds_labels : Cmds → ℕ
  cmds_labels R.no_cmds = 0
  cmds_labels (R.and_cmd c cs) = cmd_labels c + cmds_labels cs

  -- the labels inside the commands
  pub cases_labels : Cases → ℕ
  cases_labels R.no_cases = 0
  cases_labels (R.cases ls c cs) = cmd_labels c + cases_labels cs

  pub locals_labels : Locals → ℕ
  locals_labels R.no_locals = 0
  locals_labels (R.vector n ls) = locals_labels ls
  locals_labels (R.value e ls) = expr_labels e + locals_labels ls

unfoldable pub body_labels : Body → ℕ
body_labels (R.expression e) = expr_labels e
body_labels (R.routine c) = cmd_labels c

-- ---- the words after X23: how many numbers, the default's address, and each number with its address. The commands of the list are
-- labelled from `l` on

unfoldable pub default_of : (l end : ℕ) → Cases → ℕ
default_of l end R.no_cases = end
default_of l end (R.cases ls c cs) = cond (has_default ls) l (default_of (suc l) end cs)

unfoldable pub pairs_of : (l : ℕ) → List CaseLabel → List Item
pairs_of l [] = []
pairs_of l (R.case v ∷ ls) = D v ∷ DL l ∷ pairs_of l ls
pairs_of l (R.default ∷ ls) = pairs_of l ls

unfoldable pub table_of : (l : ℕ) → Cases → List Item
table_of l R.no_cases = []
table_of l (R.cases ls c cs) = pairs_of l ls ++ table_of (suc l) cs

-- ---- the code of a part, at a height `h`, with inner labels from `n` on

-- where BREAK, LOOP, ENDCASE and RESULTIS go; 0, which is no label, for nowhere
pub record Exits : Type 0 where
  pub break : ℕ
  pub loop : ℕ
  pub endcase : ℕ
  pub result : ℕ

abbrev pub nowhere_else : Exits
nowhere_else = record { break = 0; loop = 0; endcase = 0; result = 0 }

-- in a VALOF nothing outside it but its end is reached
abbrev pub in_valof : (end : ℕ) → Exits
in_valof end = record { break = 0; loop = 0; endcase = 0; result = end }

abbrev pub in_loop : (next end : ℕ) → Exits → Exits
in_loop next end x = record { break = end; loop = next; endcase = x.endcase; result = x.result }

abbrev pub in_switch : (end : ℕ) → Exits → Exits
in_switch end x = record { break = x.break; loop = x.loop; endcase = end; result = x.result }

-- the strings' labels start at `strings`
module _ (strings : ℕ) where
  unfoldable mutual
    unfolding expr_labels exprs_labels target_labels pairs_labels cmd_labels cmds_labels cases_labels locals_labels commands_in

    pub expr_code : (h n : ℕ) → Expr → List Item
    expr_code h n (R.constant v) = L v ∷ []
    expr_code h n (R.local k) = LIP k ∷ []
    expr_code h n (R.global m) = LIG m ∷ []
    expr_code h n (R.function k) = LL (suc k) ∷ []
    expr_code h n (R.string k) = LL (strings + k) ∷ []
    expr_code h n (R.address_of_local k) = LP k ∷ []
    expr_code h n (R.address_of_global m) = LG m ∷ []
    expr_code h n (R.address_of_contents e) = expr_code h n e
    expr_code h n (R.address_of_index a b) = expr_code h n a ++ (SP h ∷ expr_code (h + 1) (n + expr_labels a) b ++ (AIP h ∷ []))
    expr_code h n (R.contents e) = expr_code h n e ++ (X 1 ∷ [])
    expr_code h n (R.index a b) = expr_code h n a ++ (SP h ∷ expr_code (h + 1) (n + expr_labels a) b ++ (AIP h ∷ X 1 ∷ []))
    expr_code h n (R.unary o e) = expr_code h n e ++ monadic_act o
    -- B is to be the left operand, A the right one
    expr_code h n (R.binary o a b) =
        expr_code h n a ++ (SP h ∷ expr_code (h + 1) (n + expr_labels a) b ++ (SP (h + 1) ∷ LIP h ∷ LIP (h + 1) ∷ X (dyadic_act o) ∷ []))
    expr_code h n (R.call e es) =
        exprs_code (h + 2) n es ++ (expr_code (h + 2 + count es) (n + exprs_labels es) e ++ (K h ∷ []))
    expr_code h n (R.valof c) = cmd_code h (n + 1) (in_valof n) c ++ (label n ∷ [])

    -- arguments: each into the word of its height
    pub exprs_code : (h n : ℕ) → Exprs → List Item
    exprs_code h n R.none = []
    exprs_code h n (R.and e es) = expr_code h n e ++ (SP h ∷ exprs_code (h + 1) (n + expr_labels e) es)

    -- from a right side in A to its left side
    pub target_code : (h n : ℕ) → Target → List Item
    target_code h n (R.to_local k) = SP k ∷ []
    target_code h n (R.to_global m) = SG m ∷ []
    target_code h n (R.to_contents e) = SP h ∷ expr_code (h + 1) n e ++ (SP (h + 1) ∷ LIP h ∷ Sip (h + 1) ∷ [])
    target_code h n (R.to_index a b) =
        SP h ∷ expr_code (h + 1) n a ++ (SP (h + 1) ∷ expr_code (h + 2) (n + expr_labels a) b
        ++ (AIP (h + 1) ∷ SP (h + 1) ∷ LIP h ∷ Sip (h + 1) ∷ []))

    pub pairs_code : (h n : ℕ) → Pairs → List Item
    pairs_code h n R.no_pairs = []
    pairs_code h n (R.pair t e ps) =
        expr_code h n e ++ (target_code h (n + expr_labels e) t ++ pairs_code h (n + expr_labels e + target_labels t) ps)

    pub cmd_code : (h n : ℕ) → Exits → Cmd → List Item
    cmd_code h n x R.empty = []
    cmd_code h n x (R.assign ps) = pairs_code h n ps
    cmd_code h n x (R.perform e) = expr_code h n e
    cmd_code h n x (R.test e c d) =
        expr_code h (n + 2) e ++ (FL n ∷ cmd_code h (n + 2 + expr_labels e) x c
        ++ (JL (n + 1) ∷ label n ∷ cmd_code h (n + 2 + expr_labels e + cmd_labels c) x d ++ (label (n + 1) ∷ [])))
    cmd_code h n x (R.when sense e c) =
        expr_code h (n + 1) e ++ (jump_unless sense n ∷ cmd_code h (n + 1 + expr_labels e) x c ++ (label n ∷ []))
    cmd_code h n x (R.while sense e c) =
        label n ∷ expr_code h (n + 2) e ++ (jump_unless sense (n + 1) ∷ cmd_code h (n + 2 + expr_labels e) (in_loop n (n + 1) x) c
        ++ (JL n ∷ label (n + 1) ∷ []))
    cmd_code h n x (R.repeat c) =
        label n ∷ cmd_code h (n + 3) (in_loop (n + 1) (n + 2) x) c ++ (label (n + 1) ∷ JL n ∷ label (n + 2) ∷ [])
    cmd_code h n x (R.repeat_while sense c e) =
        label n ∷ cmd_code h (n + 3) (in_loop (n + 1) (n + 2) x) c
        ++ (label (n + 1) ∷ expr_code h (n + 3 + cmd_labels c) e ++ (jump_when sense n ∷ label (n + 2) ∷ []))
    cmd_code h n x (R.for first limit by c) =
        expr_code h (n + 3) first ++ (SP h ∷ expr_code (h + 1) (n + 3 + expr_labels first) limit ++ (SP (h + 1)
        ∷ label n ∷ LIP h ∷ LIP (h + 1) ∷ X (limit_act by) ∷ FL (n + 2)
        ∷ cmd_code (h + 2) (n + 3 + expr_labels first + expr_labels limit) (in_loop (n + 1) (n + 2) x) c
        ++ (label (n + 1) ∷ LIP h ∷ A by ∷ SP h ∷ JL n ∷ label (n + 2) ∷ [])))
    cmd_code h n x (R.switch e cs) =
        expr_code h n e ++ (X 23 ∷ D (case_count cs) ∷ DL (default_of (n + expr_labels e + 1) (n + expr_labels e) cs)
        ∷ table_of (n + expr_labels e + 1) cs
        ++ (cases_code h (n + expr_labels e + 1) (n + expr_labels e + 1 + commands_in cs) (in_switch (n + expr_labels e) x) cs
        ++ (label (n + expr_labels e) ∷ [])))
    cmd_code h n x (R.resultis e) = expr_code h n e ++ (JL x.result ∷ [])
    cmd_code h n x R.break = JL x.break ∷ []
    cmd_code h n x R.loop = JL x.loop ∷ []
    cmd_code h n x R.endcase = JL x.endcase ∷ []
    cmd_code h n x R.return = X 4 ∷ []
    cmd_code h n x R.finish = X 22 ∷ []
    cmd_code h n x (R.block ls cs) = locals_code h n ls ++ cmds_code (height_with h ls) (n + locals_labels ls) x cs

    pub cmds_code : (h n : ℕ) → Exits → Cmds → List Item
    cmds_code h n x R.no_cmds = []
    cmds_code h n x (R.and_cmd c cs) = cmd_code h n x c ++ cmds_code h (n + cmd_labels c) x cs

    -- each command has its label in front, from `l` on
    pub cases_code : (h l n : ℕ) → Exits → Cases → List Item
    cases_code h l n x R.no_cases = []
    cases_code h l n x (R.cases ls c cs) = label l ∷ cmd_code h n x c ++ cases_code h (suc l) (n + cmd_labels c) x cs

    -- first values, and a vector's address, each into its name's word
    pub locals_code : (h n : ℕ) → Locals → List Item
    locals_code h n R.no_locals = []
    locals_code h n (R.vector m ls) = LP (h + 1) ∷ SP h ∷ locals_code (h + 2 + m) n ls
    locals_code h n (R.value e ls) = expr_code h n e ++ (SP h ∷ locals_code (h + 1) (n + expr_labels e) ls)

  unfoldable pub body_code : (h n : ℕ) → Body → List Item
  body_code h n (R.expression e) = expr_code h n e
  body_code h n (R.routine c) = cmd_code h n nowhere_else c

  -- functions in text order, each with its label, from `l` on, and a return at its end
  unfoldable pub functions_code : (l n : ℕ) → List Fun → List Item
  functions_code l n [] = []
  functions_code l n (f ∷ fs) =
      label l ∷ body_code (2 + f.parameters) n f.body ++ (X 4 ∷ functions_code (suc l) (n + body_labels f.body) fs)

-- ---- the whole text

-- strings, each with its label
unfoldable pub strings_code : (l : ℕ) → List (List ℕ) → List Item
strings_code l [] = []
strings_code l (cs ∷ ss) = label l ∷ string cs ∷ strings_code (suc l) ss

-- G items for the functions that start in globals
abbrev pub start_in : Start → (l : ℕ) → List Item → List Item
start_in nowhere l is = is
start_in (in_global n) l is = global n l ∷ is

unfoldable pub starts_code : (l : ℕ) → List Fun → List Item
starts_code l [] = []
starts_code l (f ∷ fs) = start_in f.start l (starts_code (suc l) fs)

unfoldable pub items_of : List Fun → List (List ℕ) → List Item
items_of functions strings =
    functions_code (suc (length functions)) 1 (suc (length functions) + length strings) functions
    ++ (strings_code (suc (length functions)) strings ++ starts_code 1 functions)

-- the compiler's text of a source that is accepted
unfoldable pub text_of : (source : List ℕ) → List ℕ
text_of source = render_all (items_of (functions_in source) (strings_in source))
