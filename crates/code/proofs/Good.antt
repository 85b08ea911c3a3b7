-- What is used of a source that is accepted.
use Rattle.laws.proofs.Basics.{ℕ, ◌+◌, ◌<◌, List, length, get_or}
use Rattle.items.proofs.Rendered.{AllSound}
use Rattle.language.specs.Run.{no_fun}
use Rattle.language.specs.Whole.{functions_in, strings_in}
use Rattle.language.proofs.Formed.{FormedF}
use Rattle.code.specs.Generate.{items_of}

-- what the rules of the source give: numbers and labels in bounds, strings that can be written, positions of functions and strings
pub record Good (source : List ℕ) : Type 0 where
  pub sound : AllSound (items_of (functions_in source) (strings_in source))
  pub formed : (k : ℕ) → k < length (functions_in source)
      → FormedF (length (functions_in source)) (length (strings_in source)) (2 + (get_or (functions_in source) k no_fun).parameters)
      (get_or (functions_in source) k no_fun).body
