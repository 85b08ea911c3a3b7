-- What an item without fault satisfies.
use Rattle.laws.proofs.Basics.{ℕ, zero, suc, ◌+◌, ◌<◌, ◌≤◌, ◌≡◌, refl, List, ◌∷◌, true, false, length, ltb, arith, ltb-false, le-leb}
use Rattle.laws.proofs.Cases.{by_cases, by_order, contradiction}
use Rattle.items.specs.Item as I
use Rattle.assembler.specs.Words.{in_range, size}
use Rattle.assembler.specs.declared.Label.{Label}
use Rattle.assembler.specs.Layout.{defined, noted, Laid, laid, on_fault, misplaced, fault, lay}
use Rattle.assembler.specs.Passes.{label_fault, beyond}
use Rattle.assembler.proofs.Operands.{label-range}

-- ---- the first item of a layout: where there is a layout, it has no fault

no-fault : (number place : ℕ) {o : Laid} {ls : List Label} {end : ℕ} → on_fault number place o ≡ laid ls end → (number ≡ 0) × (o ≡ laid ls end)
no-fault zero place h = (refl, h)
no-fault (suc k) place h = contradiction cc

pub laid-first : (memory room at : ℕ) (labels : List Label) (p : I.Placed) (ps : List I.Placed) {ls : List Label} {end : ℕ}
    → lay memory room at labels (p ∷ ps) ≡ laid ls end
    → (fault memory room at labels p.item ≡ 0) × (lay memory room (at + size p.item) (noted at labels p.item) ps ≡ laid ls end)
unfolding lay
laid-first memory room at labels p ps h = no-fault (fault memory room at labels p.item) p.place h

pub on-fault-alike : (number place : ℕ) {o o' : Laid} → (number ≡ 0 → o ≡ o') → on_fault number place o ≡ on_fault number place o'
on-fault-alike zero place h = h refl
on-fault-alike (suc k) place h = refl

-- ---- what an item without fault satisfies

module _ (memory room at : ℕ) (labels : List Label) where
  pub no-fault-ranged : (i : I.Item) → fault memory room at labels i ≡ 0 → in_range i ≡ true
  unfolding fault
  no-fault-ranged i h = by_cases (in_range i) (λ e. e) (λ e. let z : ◌≡◌ {A = ℕ} 23 0 = rw e at h in absurd (omega arith))

  pub no-fault-placed : (i : I.Item) → fault memory room at labels i ≡ 0 → misplaced memory room at labels i ≡ 0
  unfolding fault
  no-fault-placed i h = rw (no-fault-ranged i h) at h

  pub label-placed : (n : ℕ) → label_fault room labels n ≡ 0 → (defined labels n ≡ false) × (length labels < room)
  label-placed n h = by_cases (defined labels n) (λ p. let z : ◌≡◌ {A = ℕ} 21 0 = rw p at h in absurd (omega arith)) (λ p.
      by_order (length labels) room (λ l. (p, l)) (λ l.
      let z : ◌≡◌ {A = ℕ} 25 0 = rw (p, le-leb room (length labels) l) at h in absurd (omega arith)))

  within : (words : ℕ) → beyond memory at words ≡ 0 → at + words ≤ memory
  within words h = by_cases (ltb memory (at + words)) (λ e. let z : ◌≡◌ {A = ℕ} 24 0 = rw e at h in absurd (omega arith)) (λ e. ltb-false _ _ e)

  pub no-fault-label : (n : ℕ) → fault memory room at labels (I.label n) ≡ 0 → (n ≤ 32767) × (length labels < room) × (defined labels n ≡ false)
  unfolding misplaced in_range
  no-fault-label n h = let p : (defined labels n ≡ false) × (length labels < room) = label-placed n (no-fault-placed (I.label n) h) in
      ((label-range n (no-fault-ranged (I.label n) h)).1, p.1, p.0)

  pub no-fault-fits : (i : I.Item) → fault memory room at labels i ≡ 0 → at ≤ memory → at + size i ≤ memory
  unfolding misplaced size
  no-fault-fits (I.label n) h l = omega arith
  no-fault-fits (I.instruction f i b x) h l = within (size (I.instruction f i b x)) (no-fault-placed (I.instruction f i b x) h)
  no-fault-fits (I.constant x) h l = within (size (I.constant x)) (no-fault-placed (I.constant x) h)
  no-fault-fits (I.string cs) h l = within (size (I.string cs)) (no-fault-placed (I.string cs) h)
  no-fault-fits (I.global n m) h l = omega arith
