-- The definitions' values from the code's answers that stand for them.
use Rattle.laws.proofs.Basics.{ℕ, ◌≡◌, sym, ap, ◌∙◌, List, length}
use Rattle.laws.proofs.Cases.{contradiction}
use Rattle.text.specs.Faults.{number_of}
use Rattle.text.specs.Answers as A
use Rattle.text.specs.Answers.{as_written, counted, found}
use Rattle.text.specs.declared.faults.Fault.{Fault}
use Rattle.text.specs.declared.Character.{Character}
use Rattle.text.specs.declared.Character.TheVariants.{Is, Closing, Ended, Mistake}
use Rattle.text.specs.Quoted as Q

module _ (ch : Q.Character) {r : Character} (p : as_written r ≡ ch) where
  pub when-is : {v w : ℕ} → r ≡ Is v w → ch ≡ Q.is v w
  when-is q = sym p ∙ ap as_written q

  pub when-closing : r ≡ Closing → ch ≡ Q.closing
  when-closing q = sym p ∙ ap as_written q

  pub when-ended : r ≡ Ended → ch ≡ Q.ended
  when-ended q = sym p ∙ ap as_written q

  pub when-mistake : {fault : Fault} → r ≡ Mistake fault → ch ≡ Q.mistake (number_of fault)
  when-mistake q = sym p ∙ ap as_written q

-- of a constant that is closed, its characters
pub record Counted (q : Q.Quoted) (n width : ℕ) : Type 0 where
  pub characters : List ℕ
  pub is : q ≡ Q.closed characters width
  pub count : n ≡ length characters

pub when-closed : (q : Q.Quoted) {n w : ℕ} → A.closed n w ≡ counted q → Counted q n w
unfolding counted
when-closed (Q.closed cs m) e = record { characters = cs; is = cc; count = cc }
when-closed Q.unclosed e = contradiction cc
when-closed (Q.faulty k m) e = contradiction cc

pub when-unclosed : (q : Q.Quoted) → A.unclosed ≡ counted q → q ≡ Q.unclosed
unfolding counted
when-unclosed (Q.closed cs m) e = contradiction cc
when-unclosed Q.unclosed e = cc
when-unclosed (Q.faulty k m) e = contradiction cc

pub when-faulty : (q : Q.Quoted) {number offset : ℕ} → A.faulty number offset ≡ counted q → q ≡ Q.faulty number offset
unfolding counted
when-faulty (Q.closed cs m) e = contradiction cc
when-faulty Q.unclosed e = contradiction cc
when-faulty (Q.faulty k m) e = cc
