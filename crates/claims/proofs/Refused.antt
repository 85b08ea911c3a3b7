-- A call on a source that is refused: LET START() BE FOO() is 8 at place 15, line 1, and text and scratch end as zeros.
use Rattle.std.specs.Prelude.{Err, Result}
use Rattle.laws.proofs.Basics.{ℕ, ◌≡◌, refl, List, replicate}
use Rattle.text.specs.Line.{newlines, line_of, refusal}
use Rattle.text.specs.Written.{bytes}
use Rattle.language.specs.Program.{refused}
use Rattle.language.specs.Whole.{refusal_of, refusal_in}
use Rattle.language.proofs.Whole.{judged_bytes}
use Rattle.compiler.specs.Compiles.{decided, Compiles}
use Rattle.claims.proofs.Main.{refuses}
use Rattle.text.specs.declared.Refusal.{Refusal}

abbrev unknown : List ℕ
unknown = bytes "LET START() BE FOO()"

refused-by-8 : decided unknown 1000 100 ≡ refused 8 15
unfolding decided refusal_in refusal_of judged_bytes
refused-by-8 = refl

told : {scratch' text' : List ℕ} {answer : Result ℕ Refusal} → Compiles unknown (replicate 1000 7) scratch' (replicate 100 7) text' answer
    → (answer ≡ Err (record { number = 8; place = 15; line = 1 })) × (text' ≡ replicate 100 0) × (scratch' ≡ replicate 1000 0)
unfolding newlines line_of refusal
told call = refuses call 8 15 refused-by-8
