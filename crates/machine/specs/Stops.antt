-- Document 01's numbers of the stops ("Stops").
use Rattle.std.specs.Prelude.{ℕ, ◌≡◌, ◌≢◌, Result, MatchResult}
use Rattle.machine.specs.declared.stops.Stop.{Stop}
use Rattle.machine.specs.declared.stops.Stop.TheVariants as S
use Rattle.machine.specs.declared.stops.UnknownStop.{UnknownStop}

abbrev pub number_of : Stop → ℕ
number_of S.MemoryLength = 24
number_of S.Finished = 30
number_of S.Budget = 31
number_of S.Address = 32
number_of S.ZeroDivisor = 33
number_of S.UnlistedAct = 34
number_of S.OutputFull = 35

-- a number's stop, or that number again, which no stop has
abbrev pub Numbers : ℕ → Result Stop UnknownStop → Type 0
Numbers number r = MatchResult r (λ s. number_of s ≡ number) (λ e. (e.0 ≡ number) × ((s : Stop) → number_of s ≢ number))
