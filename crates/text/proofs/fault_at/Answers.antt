use Rattle.std.proofs.Common.{sym, ◌∙◌, drop}
use Rattle.text.specs.Quoted.{quoted}
use Rattle.text.proofs.Constants.{fault-closed, fault-unclosed}
use Rattle.text.proofs.fault_at.Goals as goal

pub returns-then-closes : goal.returns-then-closes
returns-then-closes c = fault-closed _ _ (quoted c.args.quote 0 0 (drop c.args.at c.args.text.now)) (sym c.closes.ensures ∙ c.if-closes.true)

pub returns-else-closes : goal.returns-else-closes
returns-else-closes c = fault-unclosed _ _ (quoted c.args.quote 0 0 (drop c.args.at c.args.text.now)) (sym c.closes.ensures ∙ c.if-closes.false)
