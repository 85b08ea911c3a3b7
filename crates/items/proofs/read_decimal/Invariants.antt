use Rattle.std.proofs.Common.{◌+◌, ◌≡◌, ◌≤◌, drop}
use Rattle.items.specs.Reader.{digits, digit_count}
use Rattle.items.proofs.read_decimal.Given as goal

abbrev pub invariant-loop-width : goal.invariant-loop-width
invariant-loop-width l = record {
  small : l.value ≤ 65536;
  number : digits l.value (drop l.width l.bytes) ≡ digits 0 l.bytes;
  count : l.width + digit_count (drop l.width l.bytes) ≡ digit_count l.bytes;
}
