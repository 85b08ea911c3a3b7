-- Worked examples by computation: the corners that document 01 names.
use Rattle.laws.proofs.Basics.{◌≡◌, refl, lit<, arith}
use Rattle.laws.proofs.Cases.{contradiction}
use Rattle.words.specs.Words.{value, word_of, add, sub, neg, complement, mul, quot, rem, below, eq, ne, lt, ge, gt, le, conj, disj, shl, shr}
use Rattle.words.proofs.Division.{Divides, divides}

-- sums, differences, negation and products wrap at 65,536
adds : add 65535 2 ≡ 1
adds = refl

subtracts : sub 1 2 ≡ 65535
subtracts = refl

negates : neg 32768 ≡ 32768
negates = refl

complements : complement 0 ≡ 65535
complements = refl

multiplies : mul 300 300 ≡ 24464
unfolding mul
multiplies = refl

-- -7 / 2 is -3, remainder -1; -7 / -2 is 3, remainder -1
cuts-toward-zero : quot 65529 2 ≡ 65533
unfolding quot value word_of
cuts-toward-zero = refl

takes-the-sign : rem 65529 2 ≡ 65535
unfolding rem value word_of
takes-the-sign = refl

both-minus : quot 65529 65534 ≡ 3
unfolding quot value word_of
both-minus = refl

-- -32768 / -1 is -32768, remainder 0
wraps : quot 32768 65535 ≡ 32768
unfolding quot value word_of
wraps = refl

leaves_nothing : rem 32768 65535 ≡ 0
unfolding rem value word_of
leaves_nothing = refl

-- -1 < 0, though 65535 is the larger word; the six relations on -1 and 0
is-less : lt 65535 0 ≡ 65535
unfolding below value
is-less = refl

is-not-at-least : ge 65535 0 ≡ 0
unfolding below value
is-not-at-least = refl

is-not-greater : gt 65535 0 ≡ 0
unfolding below value
is-not-greater = refl

is-at-most : le 65535 0 ≡ 65535
unfolding below value
is-at-most = refl

is-equal : eq 7 7 ≡ 65535
is-equal = refl

is-not-unequal : ne 7 7 ≡ 0
is-not-unequal = refl

-- shifts fill with zeros; the count is unsigned, so -1 is 65535 places
shifts_left : shl 32769 1 ≡ 2
unfolding shl
shifts_left = refl

shifts_right : shr 32769 1 ≡ 16384
unfolding shr
shifts_right = refl

shifts-all-left : shl 1 16 ≡ 0
unfolding shl
shifts-all-left = refl

shifts-all-right : shr 65535 65535 ≡ 0
unfolding shr
shifts-all-right = refl

-- and, or: bit by bit
ands : conj 12 10 ≡ 8
ands = refl

ors : disj 12 10 ≡ 14
ors = refl

-- a closed instance of the law of division: -7 by 2
minus-seven-by-two : Divides 65529 2
unfolding value
minus-seven-by-two = divides 65529 2 (lit< tt) (lit< tt) (λ e. omega arith) (λ p q. contradiction cc)
