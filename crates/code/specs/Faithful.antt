-- Demand 3: what holds of a compiled text and its source. In the mission's words:
-- "Take any source that is compiled and whose text is assembled, and any input. Suppose its source run, by the definition in 01 and
-- with that image's placement, ends without an undefined act and uses none of the memory's last eight words. Run the image, untouched,
-- from its start, with output room for at least the bytes that the source run writes. For every budget of at least sixteen times the
-- source run's steps and sixteen more, the machine then stops as finished, and the count it returns is no greater than that sum. It has
-- written exactly the source run's bytes, taken exactly as many bytes of the input, and each global and string word ends equal to the
-- source run's. For every smaller budget it either stops as finished with all this so, or stops for budget having written a beginning of
-- those bytes; with less room, too, it has written such a beginning."
use Rattle.std.specs.Prelude.{ℕ, zero, suc, ◌+◌, ◌*◌, ◌≤◌, ◌<◌, ◌≡◌, ◌⊎◌, List, [], ◌∷◌, length, get_or, take}
use Rattle.text.specs.Packed.{packed}
use Rattle.machine.specs.Run.{Outcome, run}
use Rattle.assembler.specs.Layout.{address_of}
use Rattle.assembler.specs.Assemble.{assembled}
use Rattle.assembler.specs.declared.Label.{Label}
use Rattle.std.specs.Prelude.{Ok}
use Rattle.language.specs.State.{holds, State}
use Rattle.language.specs.Run.{Placement}
use Rattle.language.specs.Whole.{functions_in, strings_in, SourceRunEnds}

-- ---- the placement is what the assembler answers: labels' addresses in its table, and the first stack word

-- the addresses of so many labels, from one on
unfoldable pub addresses_from : (table : List Label) (label count : ℕ) → List ℕ
addresses_from table n zero = []
addresses_from table n (suc k) = address_of table n ∷ addresses_from table (suc n) k

-- the functions are labelled 1, 2 and on, then the string constants, each in source order
abbrev pub placement_of : (source : List ℕ) (table : List Label) (first : ℕ) → Placement
placement_of source table first =
    record {
      entries = addresses_from table 1 (length (functions_in source));
      strings = addresses_from table (suc (length (functions_in source))) (length (strings_in source));
      first = first;
    }

-- ---- what a run of the machine has to be, where the source run ended in a state

-- a word ends equal: the source run's holds what the machine's is
pub record SameWord (s : State) (o : Outcome) (address : ℕ) : Type 0 where
  pub same : s.cells address ≡ holds (get_or o.state.mem address 0)

-- it has written exactly the source run's bytes, taken as many of the input, and each global and string word ends equal
pub record Agrees (strings : List (List ℕ)) (place : Placement) (s : State) (o : Outcome) : Type 0 where
  pub bytes : take o.state.regs.written o.state.out ≡ s.output
  pub taken : o.state.regs.taken ≡ s.taken
  pub globals : (n : ℕ) → n < 400 → SameWord s o (16 + n)
  pub constants : (k i : ℕ) → k < length strings → i < length (packed (get_or strings k [])) → SameWord s o (get_or place.strings k 0 + i)

-- it stops as finished, with a count no greater than sixteen times the steps and sixteen more, and agrees
pub record Finishes (strings : List (List ℕ)) (place : Placement) (s : State) (o : Outcome) : Type 0 where
  pub stops : o.stop ≡ 30
  pub counts : o.count ≤ 16 * s.steps + 16
  pub agrees : Agrees strings place s o

-- it has written a beginning of the source run's bytes
pub record Begins (s : State) (o : Outcome) : Type 0 where
  pub within : o.state.regs.written ≤ length s.output
  pub bytes : take o.state.regs.written o.state.out ≡ take o.state.regs.written s.output

-- it stops for budget
pub record Pauses (s : State) (o : Outcome) : Type 0 where
  pub stops : o.stop ≡ 31
  pub begins : Begins s o

-- what came of a run with room for so many bytes and a budget, against a source run that ended in `s`
pub record Follows (strings : List (List ℕ)) (place : Placement) (s : State) (room budget : ℕ) (o : Outcome) : Type 0 where
  pub enough : length s.output ≤ room → 16 * s.steps + 16 ≤ budget → Finishes strings place s o
  pub any_budget : length s.output ≤ room → Finishes strings place s o ⊎ Pauses s o
  pub any_room : Begins s o

-- for every memory and label table with which the text is assembled, every input, and every source run that ends and uses none of the
-- memory's last eight words
pub record Faithful (source text : List ℕ) : Type 0 where
  pub follows : (memory room first : ℕ) → (assembled text memory room).answer ≡ Ok first
      → (input : List ℕ) (s : State) → SourceRunEnds source (placement_of source (assembled text memory room).table first) memory input s
      → s.used + 8 ≤ memory
      → (output : List ℕ) (budget : ℕ)
      → Follows (strings_in source) (placement_of source (assembled text memory room).table first) s (length output) budget
      (run first (assembled text memory room).memory input output budget)
