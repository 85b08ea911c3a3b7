-- The fetch by its parts, and the forms of a word that `fetch` tells at once: what the functions' answers cite.
use Rattle.laws.proofs.Basics.{ℕ, ◌/◌, ◌%◌, ◌<◌, ◌≡◌, sym, ap, ◌∙◌, List, arith, eq-eqb, ne_eqb}
use mathlib.Core.Logic.{◌≢◌}
use Rattle.words.specs.Words.{add}
use Rattle.machine.specs.Outcome.{Out, ok, read}
use Rattle.machine.specs.Fetch.{fetch}
use Rattle.machine.specs.Forms.{fetched_at, fetched_from, decoded}
use Rattle.machine.specs.Answers.{out_of, fetched_by, as_fetched}
use Rattle.machine.specs.declared.Registers.{Registers}
use Rattle.machine.specs.declared.stops.Stop.{Stop}
use Rattle.machine.specs.declared.Fetched.{Fetched}
use Rattle.std.proofs.Common.{Result, Ok}

-- ---- the forms: a word whose operand is its address, or its address and P, and the word there

sum-none : (n : ℕ) → n < 65536 → add (add n 0) 0 ≡ n
sum-none n h = omega (arith, h)

sum_one : (n p : ℕ) → add (add n p) 0 ≡ add n p
sum_one n p = omega arith

module _ (r : Registers) (m : List ℕ) (w : ℕ) where
  module _ (h512 : w / 512 % 2 ≢ 1) (h1024 : w / 1024 % 2 ≢ 1) where
    decoded-plain : (f : ℕ) → w / 8192 ≡ f → w / 2048 % 2 ≢ 1 → w / 4096 % 2 ≢ 1
        → decoded r m w ≡ ok (record { function = f; operand = w % 512; past = add r.c 1 })
    unfolding decoded fetched_from
    decoded-plain f hf h2048 h4096 =
        simp (ne_eqb _ _ h512, ne_eqb _ _ h1024, ne_eqb _ _ h2048, ne_eqb _ _ h4096, sum-none (w % 512) (omega arith), hf)

    decoded-p : (f : ℕ) → w / 8192 ≡ f → w / 2048 % 2 ≡ 1 → w / 4096 % 2 ≢ 1
        → decoded r m w ≡ ok (record { function = f; operand = add (w % 512) r.p; past = add r.c 1 })
    unfolding decoded fetched_from
    decoded-p f hf h2048 h4096 = simp (ne_eqb _ _ h512, ne_eqb _ _ h1024, eq-eqb _ _ h2048, ne_eqb _ _ h4096, sum_one (w % 512) r.p, hf)

    decoded-ip : (f : ℕ) → w / 8192 ≡ f → w / 2048 % 2 ≡ 1 → w / 4096 % 2 ≡ 1 → decoded r m w ≡ fetched_at m f (add (w % 512) r.p) (add r.c 1)
    unfolding decoded fetched_from fetched_at
    decoded-ip f hf h2048 h4096 = simp (ne_eqb _ _ h512, ne_eqb _ _ h1024, eq-eqb _ _ h2048, eq-eqb _ _ h4096, sum_one (w % 512) r.p, hf)

-- ---- `fetch`, its word being w

module _ (r : Registers) (m : List ℕ) {w : ℕ} {a : Result ℕ Stop} (pa : out_of a ≡ read m r.c) (qa : a ≡ Ok w) where
  fetch-is : fetch r m ≡ decoded r m w
  unfolding fetch decoded fetched_from
  fetch-is = let e : read m r.c ≡ ok w = sym pa ∙ ap out_of qa in simp e

  pub fetch_any : {d : Out Fetched} → d ≡ as_fetched r (decoded r m w) → d ≡ as_fetched r (fetch r m)
  fetch_any e = rw fetch-is e

  module _ {e : ℕ} (he : e ≡ add r.c 1) where
    plain : (f : ℕ) {t : Fetched} → w / 8192 ≡ f → w / 2048 % 2 ≢ 1 → w / 4096 % 2 ≢ 1 → w / 512 % 2 ≢ 1 → w / 1024 % 2 ≢ 1
        → t ≡ fetched_by r f (w % 512) e → ok t ≡ as_fetched r (fetch r m)
    plain f hf h2 h4 h5 h1 ht = simp (fetch-is, decoded-plain r m w h5 h1 f hf h2 h4, ← he, ht)

    -- L n
    pub fetch_l : {t : Fetched} → w / 512 ≡ 0 → t ≡ fetched_by r 0 (w % 512) e → ok t ≡ as_fetched r (fetch r m)
    fetch_l k ht = plain 0 (omega (arith, k)) (omega (arith, k)) (omega (arith, k)) (omega (arith, k)) (omega (arith, k)) ht

    -- X n
    pub fetch_x : {t : Fetched} → w / 512 ≡ 112 → t ≡ fetched_by r 7 (w % 512) e → ok t ≡ as_fetched r (fetch r m)
    fetch_x k ht = plain 7 (omega (arith, k)) (omega (arith, k)) (omega (arith, k)) (omega (arith, k)) (omega (arith, k)) ht

    -- SP n
    pub fetch_sp : {x : ℕ} {t : Fetched} → w / 512 ≡ 20 → x ≡ add (w % 512) r.p → t ≡ fetched_by r 1 x e → ok t ≡ as_fetched r (fetch r m)
    fetch_sp k hx ht = simp (
      fetch-is,
      decoded-p r m w (omega (arith, k)) (omega (arith, k)) 1 (omega (arith, k)) (omega (arith, k)) (omega (arith, k)),
      ← hx,
      ← he,
      ht,
    )

    -- LIP n
    pub fetch_lip : {x : ℕ} {d : Out Fetched} → w / 512 ≡ 12 → x ≡ add (w % 512) r.p → d ≡ as_fetched r (fetched_at m 0 x e)
        → d ≡ as_fetched r (fetch r m)
    fetch_lip k hx hd = simp (
      fetch-is,
      decoded-ip r m w (omega (arith, k)) (omega (arith, k)) 0 (omega (arith, k)) (omega (arith, k)) (omega (arith, k)),
      ← hx,
      ← he,
    ) hd
