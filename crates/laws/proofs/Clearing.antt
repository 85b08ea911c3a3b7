-- The loop that writes zeros from a place on to a slice's end: what holds at each turn, and what it comes to.
use Rattle.laws.proofs.Basics.{ℕ, ◌+◌, ◌-◌, ◌<◌, ◌≤◌, ◌≡◌, sym, ap, ◌∙◌, List, [], ◌∷◌, ◌++◌, append_assoc, append-nil, arith, add-one}
use Rattle.laws.proofs.Basics.{length, get_or, set, take, drop, replicate, length-append, length-set, length-replicate, length-take-le}
use Rattle.laws.proofs.Basics.{drop-cons, drop_of_length-le, take-append-drop, replicate-append-replicate, set_at}

-- zeros from `from` on have come up to i; where `from` lies past the end, nothing is written
pub record Clearing (s₀ : List ℕ) (from : ℕ) (s : List ℕ) (i : ℕ) : Type 0 where
  pub begun : from ≤ i
  pub within : i - from ≤ length s₀ - from
  pub zeros : s ≡ (take from s₀ ++ replicate (i - from) 0) ++ drop i s₀
  pub size : length s ≡ length s₀

pub clearing-starts : (s : List ℕ) (from : ℕ) → Clearing s from s from
clearing-starts s from = record {
  begun = omega arith;
  within = omega arith;
  zeros = let z : from - from ≡ 0 = omega arith in rw (z, append-nil) (sym (take-append-drop from s));
  size = omega arith;
}

module _ {s₀ : List ℕ} {from : ℕ} {s : List ℕ} {i : ℕ} (c : Clearing s₀ from s i) where
  pub clearing-goes-on : i < length s → Clearing s₀ from (set s i 0) (i + 1)
  clearing-goes-on k = let d : drop i s₀ ≡ get_or s₀ i 0 ∷ drop (i + 1) s₀ = drop-cons s₀ i 0 (omega arith) ∙ rw add-one in
      let before = take from s₀ ++ replicate (i - from) 0 in
      let l : length before ≡ i = omega (
        arith,
        length-append (take from s₀) (replicate (i - from) 0),
        length-take-le from s₀ (omega arith),
        length-replicate {A = ℕ} (i - from) 0,
      ) in
      let z : i + 1 - from ≡ i - from + 1 = omega arith in
      let r : replicate {A = ℕ} (i + 1 - from) 0 ≡ replicate (i - from) 0 ++ (0 ∷ []) = rw z (sym (replicate-append-replicate (i - from) 1 0)) in
      record {
        begun = omega arith;
        within = omega arith;
        zeros = rw (c.zeros, d, set_at before (get_or s₀ i 0) (drop (i + 1) s₀) 0 i l, r) (simp append_assoc);
        size = length-set s i 0 ∙ c.size;
      }

  pub clearing-ends : length s ≤ i → s ≡ take from s₀ ++ replicate (length s₀ - from) 0
  clearing-ends k = let past : length s₀ ≤ i = omega arith in let z : i - from ≡ length s₀ - from = omega arith in
      c.zeros ∙ rw (drop_of_length-le s₀ past, append-nil, z)

-- from the first on
pub all-cleared : {s₀ s : List ℕ} {i : ℕ} → Clearing s₀ 0 s i → length s ≤ i → s ≡ replicate (length s₀) 0
all-cleared {s₀} c k = let z : length s₀ - 0 ≡ length s₀ = omega arith in clearing-ends c k ∙ ap (λ (n : ℕ). replicate n 0) z
