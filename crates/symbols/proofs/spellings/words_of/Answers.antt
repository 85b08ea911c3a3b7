use Rattle.std.proofs.Common.{refl}
use Rattle.language.specs.Kinds.{reserved}
use Rattle.language.specs.Candidates.{candidates_in, candidates}
use Rattle.symbols.specs.Spellings.{rows_of, of_length}
use Rattle.symbols.proofs.Spelling.{spans, no_span}
use Rattle.symbols.proofs.spellings.words_of.Goals as goal

pub returns-in-65 : goal.returns-in-65
unfolding reserved candidates_in candidates rows_of of_length
returns-in-65 c = spans 65 _ (λ _. refl) c.in-65.is

pub returns-in-66 : goal.returns-in-66
unfolding reserved candidates_in candidates rows_of of_length
returns-in-66 c = spans 66 _ (λ _. refl) c.in-66.is

pub returns-in-67 : goal.returns-in-67
unfolding reserved candidates_in candidates rows_of of_length
returns-in-67 c = spans 67 _ (λ _. refl) c.in-67.is

pub returns-in-68 : goal.returns-in-68
unfolding reserved candidates_in candidates rows_of of_length
returns-in-68 c = spans 68 _ (λ _. refl) c.in-68.is

pub returns-in-69 : goal.returns-in-69
unfolding reserved candidates_in candidates rows_of of_length
returns-in-69 c = spans 69 _ (λ _. refl) c.in-69.is

pub returns-in-70 : goal.returns-in-70
unfolding reserved candidates_in candidates rows_of of_length
returns-in-70 c = spans 70 _ (λ _. refl) c.in-70.is

pub returns-in-71 : goal.returns-in-71
unfolding reserved candidates_in candidates rows_of of_length
returns-in-71 c = spans 71 _ (λ _. refl) c.in-71.is

pub returns-in-73 : goal.returns-in-73
unfolding reserved candidates_in candidates rows_of of_length
returns-in-73 c = spans 73 _ (λ _. refl) c.in-73.is

pub returns-in-76 : goal.returns-in-76
unfolding reserved candidates_in candidates rows_of of_length
returns-in-76 c = spans 76 _ (λ _. refl) c.in-76.is

pub returns-in-77 : goal.returns-in-77
unfolding reserved candidates_in candidates rows_of of_length
returns-in-77 c = spans 77 _ (λ _. refl) c.in-77.is

pub returns-in-78 : goal.returns-in-78
unfolding reserved candidates_in candidates rows_of of_length
returns-in-78 c = spans 78 _ (λ _. refl) c.in-78.is

pub returns-in-79 : goal.returns-in-79
unfolding reserved candidates_in candidates rows_of of_length
returns-in-79 c = spans 79 _ (λ _. refl) c.in-79.is

pub returns-in-82 : goal.returns-in-82
unfolding reserved candidates_in candidates rows_of of_length
returns-in-82 c = spans 82 _ (λ _. refl) c.in-82.is

pub returns-in-83 : goal.returns-in-83
unfolding reserved candidates_in candidates rows_of of_length
returns-in-83 c = spans 83 _ (λ _. refl) c.in-83.is

pub returns-in-84 : goal.returns-in-84
unfolding reserved candidates_in candidates rows_of of_length
returns-in-84 c = spans 84 _ (λ _. refl) c.in-84.is

pub returns-in-85 : goal.returns-in-85
unfolding reserved candidates_in candidates rows_of of_length
returns-in-85 c = spans 85 _ (λ _. refl) c.in-85.is

pub returns-in-86 : goal.returns-in-86
unfolding reserved candidates_in candidates rows_of of_length
returns-in-86 c = spans 86 _ (λ _. refl) c.in-86.is

pub returns-in-87 : goal.returns-in-87
unfolding reserved candidates_in candidates rows_of of_length
returns-in-87 c = spans 87 _ (λ _. refl) c.in-87.is

pub returns-in_default : goal.returns-in_default
returns-in_default c = no_span _ c.in_default.in_default-own.rest
