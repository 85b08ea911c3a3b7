-- Laws of whole readings: a law over what each part reads and writes, applied to what the calls ensure, one call after another.
-- The room that the calls leave together is counted along with it.
use Rattle.laws.proofs.Basics.{ℕ, ◌+◌, ◌≡◌, List, true, leb}
use Rattle.language.specs.Reader.{Source, Reader}
use Rattle.tree.specs.Reads.{HoldsSymbols, LeavesRoom, TakesRoom, Reading, ReadingAt}
use Rattle.tree.proofs.Choices.{KindsHere}
use Rattle.tree.proofs.Rooms.{Moves, left, taken, ◌plus◌, ◌less◌, room-left, room-taken}
use Rattle.tree.proofs.Symbols.{lies-still}
use Rattle.tree.specs.declared.scratch.State.{State}

-- from r₀ to r so many entries are gained and so many lost, and F holds of every source whose symbols stand in scratch
pub record Whole (gain loss : ℕ) (s₀ s : List ℕ) (n : ℕ) (r₀ r : State) (F : Source → Type 0) : Type 0 where
  pub room : Moves gain loss s₀ s n r₀ r
  pub holds : (src : Source) → HoldsSymbols src n s₀ → F src

module _ {s s' : List ℕ} {n : ℕ} {r r' : State} {k : ℕ} {F : Source → Type 0} where
  -- the first call, which reads or writes
  infixl 5 ◌from◌
  pub ◌from◌ :
      {G : Source → Type 0} → ((src : Source) → HoldsSymbols src n s → G src → F src)
      → LeavesRoom k s s' n r r' × ((src : Source) → HoldsSymbols src n s → G src) → Whole k 0 s s' n r r' F
  law from d = record { room = left d.0; holds = λ src l. law src l (d.1 src l) }

  infixl 5 ◌writing◌
  pub ◌writing◌ : {X : Type 0} → ((src : Source) → HoldsSymbols src n s → X → F src) → TakesRoom k s s' n r r' × X → Whole 0 k s s' n r r' F
  law writing d = record { room = taken d.0; holds = λ src l. law src l d.1 }

  module _ {gain loss : ℕ} {s₀ : List ℕ} {r₀ : State} where
    -- the next one: it reads, and leaves room or takes some; or it writes, and takes room or leaves it
    module _ {G : Source → Type 0} (f : Whole gain loss s₀ s n r₀ r (λ src. G src → F src)) where
      infixl 5 ◌with◌
      pub ◌with◌ :
          LeavesRoom k s s' n r r' × ((src : Source) → HoldsSymbols src n s → G src) → Whole (gain + k) (loss + 0) s₀ s' n r₀ r' F
      ◌with◌ d = record { room = f.room plus d.0; holds = λ src l. f.holds src l (d.1 src (lies-still l f.room.kept)) }

      infixl 5 ◌taking◌
      pub ◌taking◌ :
          TakesRoom k s s' n r r' × ((src : Source) → HoldsSymbols src n s → G src) → Whole (gain + 0) (loss + k) s₀ s' n r₀ r' F
      ◌taking◌ d = record { room = f.room less d.0; holds = λ src l. f.holds src l (d.1 src (lies-still l f.room.kept)) }

    module _ {X : Type 0} (f : Whole gain loss s₀ s n r₀ r (λ src. X → F src)) where
      infixl 5 ◌adding◌
      pub ◌adding◌ : TakesRoom k s s' n r r' × X → Whole (gain + 0) (loss + k) s₀ s' n r₀ r' F
      ◌adding◌ d = record { room = f.room less d.0; holds = λ src l. f.holds src l d.1 }

      infixl 5 ◌setting◌
      pub ◌setting◌ : LeavesRoom k s s' n r r' × X → Whole (gain + k) (loss + 0) s₀ s' n r₀ r' F
      ◌setting◌ d = record { room = f.room plus d.0; holds = λ src l. f.holds src l d.1 }

-- what all of them ensure together
module _ {gain loss m : ℕ} {s s' : List ℕ} {n : ℕ} {r r' : State} {F : Source → Type 0} (f : Whole gain loss s s' n r r' F) where
  pub leaves : leb (m + loss) gain ≡ true → LeavesRoom m s s' n r r' × ((src : Source) → HoldsSymbols src n s → F src)
  leaves q = (room-left f.room q, f.holds)

  pub takes : leb loss (gain + m) ≡ true → TakesRoom m s s' n r r' × ((src : Source) → HoldsSymbols src n s → F src)
  takes q = (room-taken f.room q, f.holds)

-- a part that asks for the symbol's kind
pub of-kind :
    {A : Type 0} {k kind : ℕ} {read : Reader A} {Says : A → List ℕ → Type 0} {s s' : List ℕ} {n : ℕ} {r r' : State}
    → KindsHere s n r kind → ReadingAt kind k read Says s s' n r r' → Reading k read Says s s' n r r'
of-kind kinds d = (d.0, λ src l. d.1 src l (kinds src l))
