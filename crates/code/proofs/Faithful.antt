-- Demand 3 for the compiler's text, where its items can be read back and its functions are formed.
use Rattle.laws.proofs.Basics.{ℕ, suc, ◌+◌, ◌≤◌, ◌≡◌, refl, List, length, arith}
use Rattle.assembler.specs.Assemble.{assembled}
use Rattle.std.specs.Prelude.{Ok}
use Rattle.assembler.specs.declared.Label.{Label}
use Rattle.language.specs.State.{State}
use Rattle.language.specs.Whole.{functions_in, strings_in, SourceRunEnds}
use Rattle.machine.specs.Run.{run}
use Rattle.code.specs.Faithful.{placement_of, Follows, Faithful}
use Rattle.code.specs.Generate.{text_of}
use Rattle.code.proofs.Program.{Built, built, addresses-length}
use Rattle.code.proofs.Start.{Γ, finishes}
use Rattle.code.proofs.Good.{Good}
use Rattle.code.proofs.WellPlaced as W
use Rattle.code.proofs.AnyBudget.{Holds, follows}
use Rattle.language.proofs.Held.{ended-globals, ended-strings}
use Rattle.language.specs.Resolved.{Fun}

module _ (source : List ℕ) (good : Good source) (memory room first : ℕ) (accepted : (assembled (text_of source) memory room).answer ≡ Ok first)
    (input : List ℕ) (s : State)
    (runs : SourceRunEnds source (placement_of source (assembled (text_of source) memory room).table first) memory input s)
    (below : s.used + 8 ≤ memory) where
  image : List ℕ
  image = (assembled (text_of source) memory room).memory

  table : List Label
  table = (assembled (text_of source) memory room).table

  stands : Built (functions_in source) (strings_in source) memory room first image table
  unfolding text_of image table
  stands = built (functions_in source) (strings_in source) memory room first good.sound accepted

  -- the globals and the strings lie below the stack
  holding : Holds (strings_in source) (placement_of source (assembled (text_of source) memory room).table first) s
  unfolding image table
  holding = let fs : List Fun = functions_in source in
      let ss : List (List ℕ) = strings_in source in
      record {
        globals = λ n l. ended-globals fs ss _ memory input runs.fuel s runs.over n l (omega (arith, stands.past-start));
        constants = λ k i l m. let above = W.string-above stands k l in let below = W.string-below stands k l in
            ended-strings fs ss _ memory input runs.fuel s runs.over k i l (addresses-length table (suc (length fs)) (length ss)) m
            (omega arith) (omega arith);
      }

  demanded : (output : List ℕ) (budget : ℕ)
      → Follows (strings_in source) (placement_of source (assembled (text_of source) memory room).table first) s (length output) budget
      (run first (assembled (text_of source) memory room).memory input output budget)
  unfolding image table
  demanded output budget =
      follows (Γ input stands) (strings_in source) (omega (arith, stands.fills, stands.least)) (omega (arith, stands.fills, stands.most)) _ s refl
      (finishes input stands good.formed runs.fuel s runs.over below) holding output budget

pub faithful : (source : List ℕ) → Good source → Faithful source (text_of source)
faithful source good = record { follows = demanded source good }
