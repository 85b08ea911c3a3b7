use Rattle.laws.proofs.Basics.{needs}
use Rattle.compiler.proofs.StringTexts.{symbol-none, symbol-put}
use Rattle.compiler.proofs.strings.string_symbol.Tie as tie

pub string_symbol_spec : {M : Type 1} → Rattle.compiler.proofs.strings.string_symbol.Statement.statement M
string_symbol_spec = tie.close (tie.spec (λ c. search symbol-none) (search needs) (search needs) (search needs) (λ c. search symbol-put))
