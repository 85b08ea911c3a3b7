use Rattle.laws.proofs.Basics.{sym, length-take-le, arith, needs}
use Rattle.compiler.proofs.Answering.{no-strings, strings-gave}
use Rattle.compiler.proofs.all_strings.Tie as tie

pub all_strings_spec : {M : Type 1} → Rattle.compiler.proofs.all_strings.Statement.statement M
all_strings_spec =
    tie.close (tie.spec (λ c. search no-strings) (search needs) (λ c. omega arith) (λ c. sym (length-take-le _ _ (omega arith))) (search needs)
    (search needs) (search needs) (search needs) (λ c. search strings-gave))
