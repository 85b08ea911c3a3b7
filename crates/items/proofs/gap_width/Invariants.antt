use Rattle.std.proofs.Common.{◌+◌, ◌≡◌, false, drop}
use Rattle.items.specs.Scan.{gaps}
use Rattle.items.proofs.gap_width.Given as goal

abbrev pub invariant-loop-i : goal.invariant-loop-i
invariant-loop-i l = l.i + gaps l.comment (drop l.i l.bytes) ≡ gaps false l.bytes
