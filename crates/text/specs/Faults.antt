-- Document 01's numbers of the faults ("Refusal numbers"; 40 to 43 in place of its 4: document 02, Req 02).
use Rattle.std.specs.Prelude.{ℕ, ◌≡◌, ◌≢◌, Result, MatchResult}
use Rattle.text.specs.declared.faults.Fault.{Fault}
use Rattle.text.specs.declared.faults.Fault.TheVariants as F
use Rattle.text.specs.declared.faults.UnknownNumber.{UnknownNumber}

abbrev pub number_of : Fault → ℕ
number_of F.SourceTooLong = 1
number_of F.NoSymbol = 2
number_of F.Number = 3
number_of F.Bracket = 5
number_of F.Unexpected = 6
number_of F.TooDeep = 7
number_of F.UnknownName = 8
number_of F.NameTwice = 9
number_of F.NoPlace = 10
number_of F.Constant = 11
number_of F.Case = 12
number_of F.NothingToLeave = 13
number_of F.NoStart = 14
number_of F.RoomTooShort = 15
number_of F.TooHigh = 16
number_of F.Unreadable = 20
number_of F.LabelTwice = 21
number_of F.UnknownLabel = 22
number_of F.OutOfRange = 23
number_of F.Memory = 24
number_of F.TableTooShort = 25
number_of F.Unclosed = 40
number_of F.Escape = 41
number_of F.QuotedByte = 42
number_of F.QuotedLength = 43

-- a number's fault, or that number again, which no fault has
abbrev pub Numbers : ℕ → Result Fault UnknownNumber → Type 0
Numbers number r = MatchResult r (λ f. number_of f ≡ number) (λ e. (e.0 ≡ number) × ((f : Fault) → number_of f ≢ number))
