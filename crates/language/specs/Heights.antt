-- Heights: every height that a function's text reaches, run or not (document 01, "Places"; refusal 16).
-- "Height counts the frame's words in use." A list, in the order of the walk; the largest is the function's.
use Rattle.std.specs.Prelude.{ℕ, suc, ◌+◌, cond, List, [], ◌∷◌, ◌++◌, ltb}
use Rattle.language.specs.Resolved as R
use Rattle.language.specs.Resolved.{Expr, Exprs, Target, Pairs, Cmd, Cmds, Cases, Locals, Body, Fun}

unfoldable pub count : Exprs → ℕ
count R.none = 0
count (R.and e es) = suc (count es)

-- the height after declarations
unfoldable pub height_with : ℕ → Locals → ℕ
height_with h R.no_locals = h
height_with h (R.vector n ls) = height_with (h + 2 + n) ls
height_with h (R.value e ls) = height_with (h + 1) ls

unfoldable mutual
  pub of_expr : ℕ → Expr → List ℕ
  of_expr h (R.constant v) = []
  of_expr h (R.local k) = []
  of_expr h (R.global n) = []
  of_expr h (R.function k) = []
  of_expr h (R.string k) = []
  of_expr h (R.address_of_local k) = []
  of_expr h (R.address_of_global n) = []
  of_expr h (R.address_of_contents e) = of_expr h e
  of_expr h (R.address_of_index a b) = of_expr h a ++ ((h + 1) ∷ of_expr (h + 1) b)
  of_expr h (R.contents e) = of_expr h e
  of_expr h (R.index a b) = of_expr h a ++ ((h + 1) ∷ of_expr (h + 1) b)
  of_expr h (R.unary o e) = of_expr h e
  -- while a right operand is evaluated the left one keeps one word
  of_expr h (R.binary o a b) = of_expr h a ++ ((h + 1) ∷ of_expr (h + 1) b)
  -- two link words, then arguments; the function expression is evaluated above them
  of_expr h (R.call e es) = (h + 2) ∷ of_exprs (h + 2) es ++ of_expr (h + 2 + count es) e
  of_expr h (R.valof c) = of_cmd h c

  -- each is kept in the next word
  pub of_exprs : ℕ → Exprs → List ℕ
  of_exprs h R.none = []
  of_exprs h (R.and e es) = of_expr h e ++ ((h + 1) ∷ of_exprs (h + 1) es)

  -- a right side keeps one word while its left side's parts are found
  pub of_target : ℕ → Target → List ℕ
  of_target h (R.to_local k) = []
  of_target h (R.to_global n) = []
  of_target h (R.to_contents e) = (h + 1) ∷ of_expr (h + 1) e
  of_target h (R.to_index a b) = (h + 1) ∷ of_expr (h + 1) a ++ ((h + 2) ∷ of_expr (h + 2) b)

  pub of_pairs : ℕ → Pairs → List ℕ
  of_pairs h R.no_pairs = []
  of_pairs h (R.pair t e ps) = of_expr h e ++ of_target h t ++ of_pairs h ps

  pub of_cmd : ℕ → Cmd → List ℕ
  of_cmd h R.empty = []
  of_cmd h (R.assign ps) = of_pairs h ps
  of_cmd h (R.perform e) = of_expr h e
  of_cmd h (R.test e c d) = of_expr h e ++ of_cmd h c ++ of_cmd h d
  of_cmd h (R.when b e c) = of_expr h e ++ of_cmd h c
  of_cmd h (R.while b e c) = of_expr h e ++ of_cmd h c
  of_cmd h (R.repeat c) = of_cmd h c
  of_cmd h (R.repeat_while b c e) = of_cmd h c ++ of_expr h e
  -- FOR takes two words
  of_cmd h (R.for first limit by c) = of_expr h first ++ ((h + 1) ∷ of_expr (h + 1) limit) ++ ((h + 2) ∷ of_cmd (h + 2) c)
  of_cmd h (R.switch e cs) = of_expr h e ++ of_cases h cs
  of_cmd h (R.resultis e) = of_expr h e
  of_cmd h R.break = []
  of_cmd h R.loop = []
  of_cmd h R.endcase = []
  of_cmd h R.return = []
  of_cmd h R.finish = []
  of_cmd h (R.block ls cs) = of_locals h ls ++ of_cmds (height_with h ls) cs

  pub of_cmds : ℕ → Cmds → List ℕ
  of_cmds h R.no_cmds = []
  of_cmds h (R.and_cmd c cs) = of_cmd h c ++ of_cmds h cs

  pub of_cases : ℕ → Cases → List ℕ
  of_cases h R.no_cases = []
  of_cases h (R.cases ls c cs) = of_cmd h c ++ of_cases h cs

  -- each local takes the next word; VEC n takes its name's word and n+1 more
  pub of_locals : ℕ → Locals → List ℕ
  of_locals h R.no_locals = []
  of_locals h (R.vector n ls) = (h + 2 + n) ∷ of_locals (h + 2 + n) ls
  of_locals h (R.value e ls) = of_expr h e ++ ((h + 1) ∷ of_locals (h + 1) ls)

abbrev pub of_body : ℕ → Body → List ℕ
of_body h (R.expression e) = of_expr h e
of_body h (R.routine c) = of_cmd h c

-- parameters start at word 2 of the frame
unfoldable pub heights_of : Fun → List ℕ
heights_of f = (2 + f.parameters) ∷ of_body (2 + f.parameters) f.body

unfoldable pub greatest : ℕ → List ℕ → ℕ
greatest x [] = x
greatest x (h ∷ hs) = greatest (cond (ltb x h) h x) hs

unfoldable pub largest_height : Fun → ℕ
largest_height f = greatest 0 (heights_of f)
