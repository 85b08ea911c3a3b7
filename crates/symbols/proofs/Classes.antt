-- The table of classes: each byte's entry is its class, as a digit.
use Rattle.laws.proofs.Basics.{ℕ, ◌+◌, ◌-◌, ◌<◌, ◌≤◌, ◌≡◌, ◌∙◌, List, get_or, arith}
use Rattle.language.specs.Bytes.{class_of}
use Rattle.symbols.proofs.Table.{tabulate, tabulate-at}

-- a list that holds each byte's class, as a digit
pub record Classes (table : List ℕ) : Type 0 where
  pub holds : (byte : ℕ) → byte < 256 → get_or table byte 0 ≡ 48 + class_of byte

abbrev pub digit_for : ℕ → ℕ
digit_for byte = 48 + class_of byte

entry-is : (byte : ℕ) → byte < 256 → get_or (tabulate digit_for 0 256) byte 0 ≡ 48 + class_of byte
entry-is byte h = tabulate-at digit_for 0 256 byte h ∙ let e : 0 + byte ≡ byte = omega arith in rw e

pub all-classes-hold : Classes (tabulate digit_for 0 256)
all-classes-hold = record { holds = entry-is }

module _ (table : List ℕ) (t : Classes table) (byte : ℕ) (h : byte < 256) where
  pub class-digit : 48 ≤ get_or table byte 0
  class-digit = omega (arith, t.holds byte h)

  pub class-is : get_or table byte 0 - 48 ≡ class_of byte
  class-is = omega (arith, t.holds byte h)
