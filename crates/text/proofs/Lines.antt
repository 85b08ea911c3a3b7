-- The newlines of a text, counted by a test.
use Rattle.laws.proofs.Basics.{ℕ, suc, ◌+◌, ◌≡◌, refl, List, take, Bool, true, false, cond, eqb, arith}
use Rattle.std.specs.Prelude.{◌==◌, count_by}
use Rattle.std.proofs.lemmas.List.Recursion.{is_count_by}
use Rattle.text.specs.Line.{newlines, line_of}

newlines_count : (text : List ℕ) → newlines text ≡ count_by (λ c. c == 10) text
unfolding newlines
newlines_count text = is_count_by newlines (λ c. c == 10) refl (λ c r. by (eqb c 10) (newlines r)) text
  where
    by : (b : Bool) (n : ℕ) → cond b (suc n) n ≡ cond b (1 + n) n
    by true n = omega arith
    by false n = refl

pub counted_line : (text : List ℕ) (place : ℕ) → line_of text place ≡ 1 + count_by (λ c. c == 10) (take place text)
unfolding line_of
counted_line text place = omega (arith, newlines_count (take place text))
