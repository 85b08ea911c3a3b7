use Rattle.std.proofs.Common.{◌≡◌, ◌-◌}
use Rattle.machine.specs.Acts.{sought}
use Rattle.machine.proofs.switch_address.Given as goal

-- the whole search is what is left of it
abbrev pub invariant-loop : goal.invariant-loop
invariant-loop l = sought l.memory l.a l.default l.n l.from ≡ sought l.memory l.a l.default (l.n - l.counter) l.i
