use Rattle.laws.proofs.Basics.{sym, ◌∙◌}
use Rattle.compiler.proofs.Scoping.{other_last}
use Rattle.compiler.proofs.scope.alike.Goals as goal

pub returns-then-last_byte-last : goal.returns-then-last_byte-last
returns-then-last_byte-last c = other_last c.args.source.now c.args.p c.args.q c.args.n c.if-n-gt0.true
    (λ e. c.if-last_byte-last.true (c.last_byte.ensures ∙ e ∙ sym c.requires.3))
