-- The small tests: kinds that end and begin a line, by their tables, and the room in scratch.
use Rattle.laws.proofs.Basics.{ℕ, ◌+◌, ◌-◌, ◌*◌, ◌/◌, ◌<◌, ◌≤◌, ◌≡◌, refl, sym, Bool, true, false, cond, get_or, eqb, ltb, arith, ltb-true, ltb-false}
use Rattle.laws.proofs.Basics.{lt-ltb, le-ltb}
use Rattle.laws.proofs.Cases.{by_cases}
use Rattle.language.specs.Semicolons.{ends_line, begins_line}
use Rattle.symbols.specs.Parts.{gain}
use Rattle.symbols.proofs.Table.{tabulate, tabulate-at}

abbrev pub mark : Bool → ℕ
mark t = cond t 49 48

-- a table of such marks
module _ (f : ℕ → Bool) (n : ℕ) where
  pub marked : (k : ℕ) → k < n → eqb (get_or (tabulate (λ k. mark (f k)) 0 n) k 0) 49 ≡ f k
  marked k h = let z : 0 + k ≡ k = omega arith in rw (tabulate-at (λ k. mark (f k)) 0 n k h, z) (by_cases (f k) (λ e. rw e refl) (λ e. rw e refl))

-- whether a semicolon is inserted: whether a line ends is asked first, and by the definition last
module _ (before kind : ℕ) where
  pub gain-within : gain before kind false ≡ false
  gain-within = by_cases (ends_line before) (λ e. rw e (by_cases (begins_line kind) (λ f. rw f refl) (λ f. rw f refl))) (λ e. rw e refl)

  pub gain-between : ends_line before ≡ true → gain before kind true ≡ begins_line kind
  gain-between e = rw e (by_cases (begins_line kind) (λ f. rw f refl) (λ f. rw f refl))

module _ (room size : ℕ) where
  pub room-short : room < 64 → true ≡ ltb room (8 * size + 64)
  room-short h = sym (lt-ltb room (8 * size + 64) (omega arith))

  pub room-rest : 64 ≤ room → ltb ((room - 64) / 8) size ≡ ltb room (8 * size + 64)
  room-rest h =
      by_cases (ltb ((room - 64) / 8) size) (λ e. rw e (sym (lt-ltb room (8 * size + 64) (omega (arith, ltb-true ((room - 64) / 8) size e)))))
      (λ e. rw e (sym (le-ltb room (8 * size + 64) (omega (arith, ltb-false ((room - 64) / 8) size e)))))
