-- A refusal 6 or 7 depends only on the symbols up to the one refused: a source that has the same symbols up to there is refused alike.
use Rattle.laws.proofs.Basics.{ℕ, ◌≡◌, ◌∙◌, arith}
use Rattle.language.specs.Reader.{Source, no}
use Rattle.language.specs.Grammar.{tree_of}
use Rattle.language.proofs.Local.{Agree, stopped}
use Rattle.language.proofs.ExtraGrammar.{program}

-- a source is refused at a symbol: so is every source with the same symbols up to that one, and by the same number
pub refused-alike : {s t : Source} (number at : ℕ) → tree_of s ≡ no number at → Agree s t at → tree_of t ≡ no number at
unfolding tree_of
refused-alike number at e g = (program.local.local g 0).same (rw e (stopped {q = at} (omega arith))) ∙ e
