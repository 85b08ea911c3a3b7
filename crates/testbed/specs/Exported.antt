-- What an exported call leaves in the lent answer.
use Rattle.std.specs.Prelude.{ℕ, ◌≡◌, Bool, cond, List, [], ◌∷◌, length, replicate}
use Rattle.machine.specs.Run.{Outcome}
use Rattle.machine.specs.declared.Ran.{Ran}
use Rattle.machine.specs.declared.Registers.{Registers}
use Rattle.assembler.specs.Assemble as A
use Rattle.assembler.specs.Assemble.{Assembly}
use Rattle.text.specs.Line.{line_of}
use Rattle.symbols.specs.Read as S
use Rattle.symbols.specs.Read.{symbols_read}
use Rattle.tree.specs.Read.{numbers_of, tree_read, tree_left}
use Rattle.tree.specs.Read as T
use Rattle.assembler.specs.declared.Label.{Label}
use Rattle.language.specs.Program.{Refused, accepted, refused}
use Rattle.code.specs.Generate.{text_of}
use Rattle.compiler.specs.Compiles.{decided, text_after}

abbrev pub registers_of : (a b c p g taken written : ℕ) (stored : Bool) (from words : ℕ) → Registers
registers_of a b c p g taken written stored from words =
    record { a = a; b = b; c = c; p = p; g = g; taken = taken; written = written; stored = stored; from = from; words = words }

abbrev pub flag_of : Bool → ℕ
flag_of b = cond b 1 0

-- stop, count, taken, written, A, B, C, P, G; whether anything was stored last, 1 or 0, the first address, and the number of words
abbrev run_numbers : (stop count : ℕ) → Registers → List ℕ
run_numbers stop count r =
    stop ∷ count ∷ r.taken ∷ r.written ∷ r.a ∷ r.b ∷ r.c ∷ r.p ∷ r.g ∷ flag_of r.stored ∷ r.from ∷ r.words ∷ []

abbrev pub ran_numbers : Ran → List ℕ
ran_numbers ran = run_numbers ran.stop ran.count ran.registers

pub record RunExported (outcome : Outcome) (memory output answer : List ℕ) : Type 0 where
  pub stores : memory ≡ outcome.state.mem
  pub writes : output ≡ outcome.state.out
  pub answers : answer ≡ run_numbers outcome.stop outcome.count outcome.state.regs

pub record AssembleExported (assembly : Assembly) (memory : List ℕ) (table : List Label) (answer : List ℕ) : Type 0 where
  pub fills : memory ≡ assembly.memory
  pub tables : table ≡ assembly.table
  pub answers : answer ≡ A.numbers assembly.answer

pub record SymbolsExported (text scratch scratch' answer : List ℕ) : Type 0 where
  pub leaves : scratch' ≡ (symbols_read text scratch).scratch
  pub answers : answer ≡ S.numbers text (symbols_read text scratch).answer

-- a tree's numbers, and the refusal's line, or 0
abbrev pub tree_line : (text : List ℕ) → T.Answer → ℕ
tree_line text T.short = 1
tree_line text (T.read end) = 0
tree_line text (T.refused number place) = line_of text place

abbrev pub tree_numbers : (text : List ℕ) → T.Answer → List ℕ
tree_numbers text answer = (numbers_of answer).number ∷ (numbers_of answer).value ∷ tree_line text answer ∷ []

-- so many symbols stand in scratch, of that text
pub record TreeAnswered (text : List ℕ) (count : ℕ) (scratch scratch' answer : List ℕ) : Type 0 where
  pub leaves : scratch' ≡ tree_left scratch count (length text)
  pub answers : answer ≡ tree_numbers text (tree_read scratch count (length text))

-- after the reading of symbols: a refusal of theirs, or what is said of the tree
abbrev pub AfterSymbols : (text scratch scratch' answer : List ℕ) → S.Answer → Type 0
AfterSymbols text s s' answer S.long = (s' ≡ s) × (answer ≡ S.numbers text S.long)
AfterSymbols text s s' answer S.short = (s' ≡ s) × (answer ≡ S.numbers text S.short)
AfterSymbols text s s' answer (S.read count) = TreeAnswered text count s s' answer
AfterSymbols text s s' answer (S.refused number place) = (s' ≡ s) × (answer ≡ S.numbers text (S.refused number place))

pub record TreeExported (text scratch scratch' answer : List ℕ) : Type 0 where
  pub after : AfterSymbols text (symbols_read text scratch).scratch scratch' answer (symbols_read text scratch).answer

-- 0, the text's length, 0; or a refusal's number, place and line
abbrev pub compiled_numbers : (source : List ℕ) → Refused → List ℕ
compiled_numbers source accepted = 0 ∷ length (text_of source) ∷ 0 ∷ []
compiled_numbers source (refused number place) = number ∷ place ∷ line_of source place ∷ []

pub record CompileExported (source scratch scratch' text text' answer : List ℕ) : Type 0 where
  pub clears : scratch' ≡ replicate (length scratch) 0
  pub writes : text' ≡ text_after source (length text) (decided source (length scratch) (length text))
  pub answers : answer ≡ compiled_numbers source (decided source (length scratch) (length text))
