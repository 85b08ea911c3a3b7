-- Gaps, byte by byte.
use Rattle.laws.proofs.Basics.{ℕ, suc, ◌+◌, ◌<◌, ◌≤◌, ◌≡◌, refl, ◌∙◌, List, [], ◌∷◌, Bool, true, false, cond, length, get_or, drop, ne_eqb, arith}
use Rattle.laws.proofs.Cases.{by_equal, by_cond}
use Rattle.text.proofs.Bytes.{at_byte, past_end}
use Rattle.items.specs.Scan.{gaps}
use Rattle.items.specs.Parts.{in_gap, in_comment}

pub gap-byte : (comment : Bool) (c : ℕ) (r : List ℕ) → gaps comment (c ∷ r) ≡ cond (in_gap comment c) (suc (gaps (in_comment comment c) r)) 0
unfolding gaps in_gap in_comment
gap-byte true c r = refl
gap-byte false c r = by_equal c 32 (λ e. rw e refl) (λ a. by_equal c 10 (λ e. rw e refl) (λ b. by_equal c 47 (λ e. rw e refl) (λ d.
    rw (ne_eqb c 32 a, ne_eqb c 10 b, ne_eqb c 47 d) refl)))

pub gaps-within : (comment : Bool) (bytes : List ℕ) → gaps comment bytes ≤ length bytes
unfolding gaps
gaps-within comment [] = omega arith
gaps-within comment (c ∷ r) = rw (gap-byte comment c r)
    (by_cond (λ n. n ≤ suc (length r)) (in_gap comment c) (omega (arith, gaps-within (in_comment comment c) r)) (omega arith))

-- from a byte of some bytes on, and past their end

pub gap_here : (bytes : List ℕ) (i : ℕ) (comment : Bool) → i < length bytes → gaps comment (drop i bytes) ≡
    cond (in_gap comment (get_or bytes i 0)) (suc (gaps (in_comment comment (get_or bytes i 0)) (drop (i + 1) bytes))) 0
gap_here bytes i comment h = at_byte (gaps comment) bytes i h refl ∙ gap-byte comment (get_or bytes i 0) (drop (i + 1) bytes)

pub gap_past : (bytes : List ℕ) (i : ℕ) (comment : Bool) → length bytes ≤ i → gaps comment (drop i bytes) ≡ 0
unfolding gaps
gap_past bytes i comment h = past_end (gaps comment) bytes i h

pub ruleset gap_steps = (gap_here, gap_past)
