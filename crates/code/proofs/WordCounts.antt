-- Program words of resolved trees at most, counted as two an instruction and two a constant.
use Rattle.laws.proofs.Basics.{ℕ, ◌+◌, ◌*◌}
use Rattle.language.specs.Resolved as R
use Rattle.language.specs.Resolved.{Expr, Exprs, Target, Pairs, Cmd, Cmds, Cases, Locals, Body, case_count}

unfoldable mutual
  pub expr_words : Expr → ℕ
  expr_words (R.constant v) = 2
  expr_words (R.local k) = 2
  expr_words (R.global n) = 2
  expr_words (R.function k) = 2
  expr_words (R.string k) = 2
  expr_words (R.address_of_local k) = 2
  expr_words (R.address_of_global n) = 2
  expr_words (R.address_of_contents e) = expr_words e
  expr_words (R.address_of_index a b) = expr_words a + expr_words b + 4
  expr_words (R.contents e) = expr_words e + 2
  expr_words (R.index a b) = expr_words a + expr_words b + 6
  expr_words (R.unary o e) = expr_words e + 2
  expr_words (R.binary o a b) = expr_words a + expr_words b + 10
  expr_words (R.call e es) = exprs_words es + expr_words e + 2
  expr_words (R.valof c) = cmd_words c

  pub exprs_words : Exprs → ℕ
  exprs_words R.none = 0
  exprs_words (R.and e es) = expr_words e + 2 + exprs_words es

  pub target_words : Target → ℕ
  target_words (R.to_local k) = 2
  target_words (R.to_global n) = 2
  target_words (R.to_contents e) = expr_words e + 8
  target_words (R.to_index a b) = expr_words a + expr_words b + 12

  pub pairs_words : Pairs → ℕ
  pairs_words R.no_pairs = 0
  pairs_words (R.pair t e ps) = expr_words e + target_words t + pairs_words ps

  pub cmd_words : Cmd → ℕ
  cmd_words R.empty = 0
  cmd_words (R.assign ps) = pairs_words ps
  cmd_words (R.perform e) = expr_words e
  cmd_words (R.test e c d) = expr_words e + cmd_words c + cmd_words d + 4
  cmd_words (R.when sense e c) = expr_words e + cmd_words c + 2
  cmd_words (R.while sense e c) = expr_words e + cmd_words c + 4
  cmd_words (R.repeat c) = cmd_words c + 2
  cmd_words (R.repeat_while sense c e) = cmd_words c + expr_words e + 2
  cmd_words (R.for first limit by c) = expr_words first + expr_words limit + cmd_words c + 20
  cmd_words (R.switch e cs) = expr_words e + 6 + 4 * case_count cs + cases_words cs
  cmd_words (R.resultis e) = expr_words e + 2
  cmd_words R.break = 2
  cmd_words R.loop = 2
  cmd_words R.endcase = 2
  cmd_words R.return = 2
  cmd_words R.finish = 2
  cmd_words (R.block ls cs) = locals_words ls + cmds_words cs

  pub cmds_words : Cmds → ℕ
  cmds_words R.no_cmds = 0
  cmds_words (R.and_cmd c cs) = cmd_words c + cmds_words cs

  pub cases_words : Cases → ℕ
  cases_words R.no_cases = 0
  cases_words (R.cases ls c cs) = cmd_words c + cases_words cs

  pub locals_words : Locals → ℕ
  locals_words R.no_locals = 0
  locals_words (R.vector n ls) = 4 + locals_words ls
  locals_words (R.value e ls) = expr_words e + 2 + locals_words ls

abbrev pub body_words : Body → ℕ
body_words (R.expression e) = expr_words e
body_words (R.routine c) = cmd_words c
