-- What is demanded for every source that is accepted: its text is faithful to it and follows the rules on the compiler's text.
use Rattle.laws.proofs.Basics.{ℕ, ◌+◌, ◌*◌, ◌≤◌, ◌≡◌, List, [], ◌⊎◌, length, arith}
use Rattle.items.specs.Scan.{scan}
use Rattle.assembler.specs.Assemble.{assembled}
use Rattle.language.specs.Symbols as Y
use Rattle.language.specs.Program.{accepted}
use Rattle.language.specs.Whole.{refusal_of, strings_in}
use Rattle.machine.specs.Run.{run}
use Rattle.code.specs.Faithful.{placement_of, Follows, Faithful}
use Rattle.code.specs.Placed.{label_count, word_count, string_words, Proper}
use Rattle.code.specs.Generate.{text_of}
use Rattle.code.proofs.GoodSource.{compiled-faithful, compiled-placed}
use Rattle.code.proofs.Sizes as S
use Rattle.code.proofs.Refusals as F
use Rattle.code.proofs.Lengths as L
use Rattle.code.proofs.Instance.{source, accepts, written, answers, full, refuses, final, runs, low, several, several-accepted}

module _ (source : List ℕ) (scratch : ℕ) (accepts : refusal_of source scratch ≡ accepted) where
  -- demand 3
  pub faithful : Faithful source (text_of source)
  faithful = compiled-faithful source scratch accepts

  -- the rules on the text
  pub proper : Proper source (text_of source)
  proper = record {
    well_placed = compiled-placed source scratch accepts;
    few_words = S.few_words source scratch accepts;
    few_labels = omega (arith, F.few_labels source scratch accepts);
    short = omega (arith, L.short source scratch accepts);
    refused_only = F.refused_only source scratch accepts;
  }

-- ---- on the closed instance

demanded : (output : List ℕ) (budget : ℕ)
    → Follows (strings_in source) (placement_of source (assembled (text_of source) 512 4).table 421) final (length output) budget
    (run 421 (assembled (text_of source) 512 4).memory [] output budget)
demanded output budget = (faithful source 1000 accepts).follows 512 4 421 (rw written answers) [] final runs low output budget

words : word_count (scan (text_of source)).items ≤ 8 * length (Y.scan source).symbols + 16 + string_words (strings_in source)
words = (proper source 1000 accepts).few_words

labels : label_count (scan (text_of source)).items ≤ length source + 8
labels = (proper source 1000 accepts).few_labels

bytes : length (text_of source) ≤ 64 * length source + 1024
bytes = (proper source 1000 accepts).short

refusal : (full.number ≡ 24) ⊎ (full.number ≡ 25)
refusal = (proper source 1000 accepts).refused_only 512 0 full (rw written refuses)

several-proper : Proper several (text_of several)
several-proper = proper several 4000 several-accepted
