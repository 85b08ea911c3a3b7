-- Trees that were read are fine (language's `Fine`): its predicates, for a text of any number of strings.
use Rattle.std.specs.Prelude.{ℕ, ◌≡◌}
use Rattle.language.specs.Tree as T
use Rattle.language.specs.Tree.{Expression, Expressions, Suffixes, Operations, Command, Commands, Unlabelled, Repeats, Locals}
use Rattle.language.specs.Fine as F

-- more than any text has
abbrev pub STRINGS : ℕ
STRINGS = 65536

abbrev pub FineE : Expression → Type 0
FineE e = F.Fine STRINGS e

abbrev pub FineEs : Expressions → Type 0
FineEs es = F.FineList STRINGS es

abbrev pub FineSs : Suffixes → Type 0
FineSs ss = F.FineSuffixes STRINGS ss

abbrev pub FineOs : Operations → Type 0
FineOs os = F.FineOperations STRINGS os

abbrev pub FineC : Command → Type 0
FineC c = F.FineCommand STRINGS c

abbrev pub FineCs : Commands → Type 0
FineCs cs = F.FineCommands STRINGS cs

-- a command that is not empty
abbrev pub FinePlain : Unlabelled → Type 0
FinePlain u = F.FineUnlabelled STRINGS u × (u ≡ T.empty → ⊥)

abbrev pub FineRs : Repeats → Type 0
FineRs rs = F.FineRepeats STRINGS rs

abbrev pub FineLs : Locals → Type 0
FineLs ls = F.FineLocals STRINGS ls
