-- Sixteen-bit words: the acts that the machine and the source run share (document 01, "The source run", first paragraph).
-- A word is a number below 65,536. It stands for a signed number, its `value`: 65535 for -1, 32768 for -32768.
-- Relations, quotients and remainders are those of the signed numbers; a result wraps to the word that stands for it.
use Rattle.std.specs.Prelude.{ℕ, ◌+◌, ◌-◌, ◌*◌, ◌/◌, ◌%◌, ◌^◌, Bool, true, false, cond, not, ℤ, pos, negsuc, ◌==◌, bit_and, bit_or, int_div, int_lt}
use Rattle.std.specs.Prelude.{int_rem, nat_lt}

-- wraps at 65,536
abbrev pub word : ℕ → ℕ
word n = n % 65536

-- the signed number that a word stands for
unfoldable pub value : ℕ → ℤ
value x = cond (nat_lt x 32768) (pos x) (negsuc (65535 - x))

-- the word that a signed number wraps to; `negsuc n` is -(n + 1)
unfoldable pub word_of : ℤ → ℕ
word_of (pos n) = word n
word_of (negsuc n) = 65535 - word n

-- sums, differences and negation wrap, and so does a product
abbrev pub add : ℕ → ℕ → ℕ
add x y = word (x + y)

abbrev pub sub : ℕ → ℕ → ℕ
sub x y = word (x + (65536 - y))

abbrev pub neg : ℕ → ℕ
neg x = sub 0 x

unfoldable pub mul : ℕ → ℕ → ℕ
mul x y = word (x * y)

-- every bit the other way
abbrev pub complement : ℕ → ℕ
complement x = 65535 - x

-- quotients cut toward zero, and the remainder takes the dividend's sign: the library's `int_div` and `int_rem` are these
unfoldable pub quot : ℕ → ℕ → ℕ
quot x y = word_of (int_div (value x) (value y))

unfoldable pub rem : ℕ → ℕ → ℕ
rem x y = word_of (int_rem (value x) (value y))

-- -1 or 0
abbrev pub truth : Bool → ℕ
truth true = 65535
truth false = 0

-- the signed order
unfoldable pub below : ℕ → ℕ → Bool
below x y = int_lt (value x) (value y)

-- the six relations
abbrev pub eq : ℕ → ℕ → ℕ
eq x y = truth (x == y)

abbrev pub ne : ℕ → ℕ → ℕ
ne x y = truth (not (x == y))

abbrev pub lt : ℕ → ℕ → ℕ
lt x y = truth (below x y)

abbrev pub ge : ℕ → ℕ → ℕ
ge x y = truth (not (below x y))

abbrev pub gt : ℕ → ℕ → ℕ
gt x y = truth (below y x)

abbrev pub le : ℕ → ℕ → ℕ
le x y = truth (not (below y x))

-- and, or: bit by bit
abbrev pub conj : ℕ → ℕ → ℕ
conj x y = bit_and x y

abbrev pub disj : ℕ → ℕ → ℕ
disj x y = bit_or x y

-- shifts fill with zeros; a count, unsigned, of 16 or more gives 0
unfoldable pub shl : ℕ → ℕ → ℕ
shl x n = cond (nat_lt n 16) (word (x * 2 ^ n)) 0

unfoldable pub shr : ℕ → ℕ → ℕ
shr x n = cond (nat_lt n 16) (x / 2 ^ n) 0
