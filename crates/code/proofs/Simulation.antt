-- The simulation: the source run of every part, with any fuel, is followed by the machine's run of its code.
use Rattle.laws.proofs.Basics.{ℕ, zero, suc}
use Rattle.language.specs.Resolved as R
use Rattle.language.specs.Resolved.{Expr, Cmd}
use Rattle.language.specs.Run.{Loop, whiling, repeating, repeating_while, counting, Sem, sem}
use Rattle.code.proofs.Results.{p-unfinished}
use Rattle.code.proofs.Standing.{Env}
use Rattle.code.proofs.Related.{ticked}
use Rattle.code.proofs.Goals.{Fits, Sims}
use Rattle.code.proofs.Expressions
use Rattle.code.proofs.Expressions.{GoalE}
use Rattle.code.proofs.Calls
use Rattle.code.proofs.Commands
use Rattle.code.proofs.Commands.{GoalC}
use Rattle.code.proofs.Blocks
use Rattle.code.proofs.Loops
use Rattle.code.proofs.Loops.{GoalT}
use Rattle.code.proofs.Switches

module _ (Γ : Env) (fits : Fits Γ) (q : Sem) (ih : Sims Γ q) where
  expressions : (e : Expr) → GoalE Γ q e
  expressions (R.constant v) = Expressions.sim-constant Γ fits q ih v
  expressions (R.local k) = Expressions.sim-local Γ fits q ih k
  expressions (R.global n) = Expressions.sim-global Γ fits q ih n
  expressions (R.function k) = Expressions.sim-function Γ fits q ih k
  expressions (R.string k) = Expressions.sim-string Γ fits q ih k
  expressions (R.address_of_local k) = Expressions.sim-address_of_local Γ fits q ih k
  expressions (R.address_of_global n) = Expressions.sim-address_of_global Γ fits q ih n
  expressions (R.address_of_contents e) = Expressions.sim-address_of_contents Γ fits q ih e
  expressions (R.address_of_index a b) = Expressions.sim-address_of_index Γ fits q ih a b
  expressions (R.contents e) = Expressions.sim-contents Γ fits q ih e
  expressions (R.index a b) = Expressions.sim-index Γ fits q ih a b
  expressions (R.unary o e) = Expressions.sim-unary Γ fits q ih o e
  expressions (R.binary o a b) = Expressions.sim-binary Γ fits q ih o a b
  expressions (R.call e es) = Calls.sim-call Γ fits q ih e es
  expressions (R.valof c) = Expressions.sim-valof Γ fits q ih c

  commands : (c : Cmd) → GoalC Γ q c
  commands R.empty = Commands.sim-empty Γ fits q ih
  commands (R.assign ps) = Commands.sim-assign Γ fits q ih ps
  commands (R.perform e) = Commands.sim-perform Γ fits q ih e
  commands (R.test e c d) = Commands.sim-test Γ fits q ih e c d
  commands (R.when sense e c) = Commands.sim_when Γ fits q ih sense e c
  commands (R.while sense e c) = Loops.sim-while Γ fits q ih sense e c
  commands (R.repeat c) = Loops.sim-repeat Γ fits q ih c
  commands (R.repeat_while sense c e) = Loops.sim-repeat_while Γ fits q ih sense c e
  commands (R.for first limit by c) = Loops.sim-for Γ fits q ih first limit by c
  commands (R.switch e cs) = Switches.sim-switch Γ fits q ih e cs
  commands (R.resultis e) = Commands.sim-resultis Γ fits q ih e
  commands R.break = Commands.sim-break Γ fits q ih
  commands R.loop = Commands.sim-loop Γ fits q ih
  commands R.endcase = Commands.sim-endcase Γ fits q ih
  commands R.return = Commands.sim-return Γ fits q ih
  commands R.finish = Commands.sim-finish Γ fits q ih
  commands (R.block ls cs) = Blocks.sim-block Γ fits q ih ls cs

  turns : (l : Loop) → GoalT Γ q l
  turns (whiling sense e c) = Loops.turn-while Γ fits q ih sense e c
  turns (repeating c) = Loops.turn-repeat Γ fits q ih c
  turns (repeating_while sense c e) = Loops.turn-repeat_while Γ fits q ih sense c e
  turns (counting limit by c) = Loops.turn-for Γ fits q ih limit by c

pub sims : (Γ : Env) → Fits Γ → (fuel : ℕ) → Sims Γ (sem Γ.functions Γ.place Γ.limit Γ.input fuel)
unfolding sem
sims Γ fits zero = record { evaluate = λ e n k f pc r. p-unfinished; run = λ c n k f pc r. p-unfinished; turn = λ l t pc r. p-unfinished }
sims Γ fits (suc n) = record {
  evaluate = λ e m k f pc r. expressions Γ fits _ (sims Γ fits n) e _ _ m _ _ _ _ k f pc (ticked Γ r);
  run = λ c m k f pc r. commands Γ fits _ (sims Γ fits n) c _ _ m _ _ _ _ _ k f pc r;
  turn = λ l t pc r. turns Γ fits _ (sims Γ fits n) l _ _ _ _ _ _ _ t pc r;
}
