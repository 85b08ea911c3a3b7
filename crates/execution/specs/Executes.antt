-- What becomes of a source, an input and the lent buffers, for all of them. What came out is spoken of as it came out: the answer, and
-- memory and output at the end.
use Rattle.std.specs.Prelude.{ℕ, ◌+◌, ◌≤◌, ◌≡◌, List, length, replicate, Result, Ok, Err}
use Rattle.text.specs.Line.{refusal}
use Rattle.text.specs.declared.Refusal.{Refusal}
use Rattle.machine.specs.Run.{run}
use Rattle.machine.specs.Answers.{Ends, outcome_of}
use Rattle.machine.specs.declared.Ran.{Ran}
use Rattle.assembler.specs.Assemble.{Assembly, assembled}
use Rattle.language.specs.State.{State}
use Rattle.language.specs.Program.{Refused, accepted, refused}
use Rattle.language.specs.Whole.{strings_in, SourceRunEnds}
use Rattle.code.specs.Faithful.{placement_of, Follows}
use Rattle.code.specs.Generate.{text_of}
use Rattle.compiler.specs.Compiles.{decided, text_after}
use Rattle.execution.specs.declared.NotRun.{NotRun}
use Rattle.execution.specs.declared.NotRun.TheVariants as N

-- ---- a text, assembled with room for every label

abbrev pub image : (text : List ℕ) (memory : ℕ) → Assembly
image text memory = assembled text memory 32767

-- the machine's run of the image, from its start
pub record RanFrom (a : Assembly) (first : ℕ) (memory' input output output' : List ℕ) (budget : ℕ) (executed : Result Ran NotRun) : Type 0 where
  pub ran : Ran
  pub answers : executed ≡ Ok ran
  pub ends : Ends (run first a.memory input output budget) ran memory' output'

-- refused, with memory as the assembler leaves it and the output untouched; or run
abbrev pub RanBy : (a : Assembly) → Result ℕ Refusal → (memory' input output output' : List ℕ) (budget : ℕ) → Result Ran NotRun → Type 0
RanBy a (Err r) memory' input output output' budget executed = (executed ≡ Err (N.Text r)) × (memory' ≡ a.memory) × (output' ≡ output)
RanBy a (Ok first) memory' input output output' budget executed = RanFrom a first memory' input output output' budget executed

pub record RunsText (text memory memory' input output output' : List ℕ) (budget : ℕ) (executed : Result Ran NotRun) : Type 0 where
  pub by : RanBy (image text (length memory)) (image text (length memory)).answer memory' input output output' budget executed

-- ---- a source

-- refused, with memory and output untouched; or its text assembled and run
abbrev pub ExecutedBy : (source : List ℕ) → Refused → (memory memory' input output output' : List ℕ) (budget : ℕ) → Result Ran NotRun → Type 0
ExecutedBy source (refused number place) memory memory' input output output' budget executed =
    (executed ≡ Err (N.Source (refusal source number place))) × (memory' ≡ memory) × (output' ≡ output)
ExecutedBy source accepted memory memory' input output output' budget executed =
    RunsText (text_of source) memory memory' input output output' budget executed

-- demand 3, of what came out: where the text is accepted and a source run with that image's placement ends with no undefined act, and
-- uses none of the memory's last eight words, the machine's run follows it
pub record Delivers (source memory memory' input output output' : List ℕ) (budget : ℕ) (ran : Ran) : Type 0 where
  pub follows : (first : ℕ) → (image (text_of source) (length memory)).answer ≡ Ok first
      → (s : State) → SourceRunEnds source (placement_of source (image (text_of source) (length memory)).table first) (length memory) input s
      → s.used + 8 ≤ length memory
      → Follows (strings_in source) (placement_of source (image (text_of source) (length memory)).table first) s (length output) budget
      (outcome_of ran memory' output')

pub record Executes (source scratch scratch' text text' memory memory' input output output' : List ℕ) (budget : ℕ) (executed : Result Ran NotRun)
    : Type 0 where
  -- scratch and text as `compile` leaves them
  pub clears : scratch' ≡ replicate (length scratch) 0
  pub writes : text' ≡ text_after source (length text) (decided source (length scratch) (length text))
  pub becomes : ExecutedBy source (decided source (length scratch) (length text)) memory memory' input output output' budget executed
  pub delivers : (ran : Ran) → executed ≡ Ok ran → Delivers source memory memory' input output output' budget ran
