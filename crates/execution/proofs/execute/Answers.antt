use Rattle.std.proofs.Common.{rules, ◌≡◌}
use Rattle.std.specs.Prelude.{Ok}
use Rattle.execution.proofs.Following.{source-ran}
use Rattle.execution.proofs.execute.Goals as goal

pub returns : goal.returns
returns c = let e : c.compile.result ≡ Ok c.in_ok-n.n = search rules in source-ran c.compile.ensures e c.run_text.ensures
