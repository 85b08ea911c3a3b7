-- Operands in range.
use Rattle.laws.proofs.Basics.{ℕ, ◌<◌, ◌≤◌, ◌≡◌, Bool, true, false, leb, arith, leb-true}
use Rattle.laws.proofs.Cases.{both_true}
use Rattle.items.specs.Item.{number}
use Rattle.assembler.specs.Words.{label_in_range, operand_in_range}

pub number-below : (minus : Bool) {size : ℕ} → operand_in_range (number minus size) ≡ true → size < 65536
unfolding operand_in_range
number-below true {size} h = let z : size ≤ 32768 = leb-true _ _ h in omega arith
number-below false {size} h = let z : size ≤ 65535 = leb-true _ _ h in omega arith

pub label-range : (n : ℕ) → label_in_range n ≡ true → (1 ≤ n) × (n ≤ 32767)
label-range n h = let b : (leb 1 n ≡ true) × (leb n 32767 ≡ true) = both_true (leb 1 n) (leb n 32767) h in
    (leb-true 1 n b.0, leb-true n 32767 b.1)
