-- Decimals, digit by digit.
use Rattle.laws.proofs.Basics.{ℕ, suc, ◌+◌, ◌-◌, ◌*◌, ◌<◌, ◌≤◌, ◌≡◌, refl, List, cond, length, get_or, drop}
use Rattle.text.proofs.Bytes.{at_byte, past_end}
use Rattle.items.specs.Item.{capped}
use Rattle.items.specs.Reader.{is_digit, digits, digit_count}

module _ (bytes : List ℕ) (i : ℕ) where
  pub digits_here : (n : ℕ) → i < length bytes → digits n (drop i bytes) ≡
      cond (is_digit (get_or bytes i 0)) (digits (capped (n * 10 + (get_or bytes i 0 - 48))) (drop (i + 1) bytes)) n
  unfolding digits
  digits_here n h = at_byte (digits n) bytes i h refl

  pub count_here : i < length bytes → digit_count (drop i bytes) ≡ cond (is_digit (get_or bytes i 0)) (suc (digit_count (drop (i + 1) bytes))) 0
  unfolding digit_count
  count_here h = at_byte digit_count bytes i h refl

  pub digits_past : (n : ℕ) → length bytes ≤ i → digits n (drop i bytes) ≡ n
  unfolding digits
  digits_past n h = past_end (digits n) bytes i h

  pub count_past : length bytes ≤ i → digit_count (drop i bytes) ≡ 0
  unfolding digit_count
  count_past h = past_end digit_count bytes i h

pub ruleset digit_steps = (digits_here, count_here, digits_past, count_past)
