-- From the contracts of `compile`, `load` and `run` to that of all three together.
use Rattle.std.specs.Prelude.{Err, Ok, Result}
use Rattle.laws.proofs.Basics.{ℕ, ◌-◌, ◌≤◌, ◌≡◌, refl, sym, ap, subst, ◌∙◌, List, ◌++◌, length, take, replicate, length-append, length-take-le, arith}
use Rattle.laws.proofs.Cases.{contradiction}
use lib.Seq.{take-append_seam}
use Rattle.text.specs.declared.Refusal.{Refusal}
use Rattle.text.specs.Line.{refusal}
use Rattle.machine.specs.Run.{run}
use Rattle.machine.specs.Answers.{Ends}
use Rattle.machine.proofs.Parts.{came-out}
use Rattle.machine.specs.declared.Ran.{Ran}
use Rattle.assembler.specs.Passes.{Loads}
use Rattle.language.specs.Program.{Refused, accepted, refused}
use Rattle.language.specs.Whole.{strings_in}
use Rattle.code.specs.Faithful.{placement_of, Follows}
use Rattle.code.specs.Generate.{text_of}
use Rattle.compiler.specs.Compiles.{decided, answer_of, text_after, Compiles}
use Rattle.execution.specs.declared.NotRun.{NotRun}
use Rattle.execution.specs.declared.NotRun.TheVariants as N
use Rattle.execution.specs.Executes.{image, RanBy, RunsText, ExecutedBy, Delivers, Executes}

-- ---- a text

module _ {text memory memory₁ input output : List ℕ} {budget : ℕ} {a : Result ℕ Refusal} (l : Loads (image text (length memory)) a memory₁) where
  pub text-refused : {r : Refusal} → a ≡ Err r → RunsText text memory memory₁ input output output budget (Err (N.Text r))
  text-refused {r} e = record {
    by = subst (λ (x : Result ℕ Refusal). RanBy (image text (length memory)) x memory₁ input output output budget (Err (N.Text r))) (sym e ∙ l.answers)
        (refl, l.fills, refl);
  }

  pub text-ran : {first : ℕ} {ran : Ran} {memory₂ output₂ : List ℕ} → a ≡ Ok first
      → Ends (run first memory₁ input output budget) ran memory₂ output₂
      → RunsText text memory memory₂ input output output₂ budget (Ok ran)
  text-ran {first} {ran} {memory₂} {output₂} e x = record {
    by = subst (λ (x : Result ℕ Refusal). RanBy (image text (length memory)) x memory₂ input output output₂ budget (Ok ran)) (sym e ∙ l.answers)
        (record {
          ran = ran;
          answers = refl;
          ends = subst (λ (m : List ℕ). Ends (run first m input output budget) ran memory₂ output₂) l.fills x;
        });
  }

-- ---- a source

module _ {source scratch scratch' text text' : List ℕ} {a : Result ℕ Refusal} (c : Compiles source scratch scratch' text text' a) where
  abbrev d : Refused
  d = decided source (length scratch) (length text)

  pub source-refused : {memory input output : List ℕ} {budget : ℕ} {r : Refusal} → a ≡ Err r
      → Executes source scratch scratch' text text' memory memory input output output budget (Err (N.Source r))
  source-refused {memory} {input} {output} {budget} {r} e = record {
    clears = c.clears;
    writes = c.writes;
    becomes = go d (sym e ∙ c.answers);
    delivers = λ ran q. contradiction cc;
  }
    where
      go : (x : Refused) → Err r ≡ answer_of source x → ExecutedBy source x memory memory input output output budget (Err (N.Source r))
      go accepted q = contradiction cc
      go (refused number place) q = let z : r ≡ refusal source number place = cc in (ap (λ (w : Refusal). Err (N.Source w)) z, refl, refl)

  -- what is accepted is the generator's text, at the front
  pub record Front (n : ℕ) : Type 0 where
    pub accepts : d ≡ accepted
    pub fits : n ≤ length text'
    pub text-is : take n text' ≡ text_of source

  pub front : {n : ℕ} → a ≡ Ok n → Front n
  front {n} e = go d refl (sym e ∙ c.answers) c.writes
    where
      go : (x : Refused) → d ≡ x → Ok n ≡ answer_of source x → text' ≡ text_after source (length text) x → Front n
      go (refused number place) k q w = contradiction cc
      go accepted k q w = let z : n ≡ length (text_of source) = cc in let zeros : List ℕ = replicate (length text - length (text_of source)) 0 in
          record {
            accepts = k;
            fits = omega (arith, z, ap length w, length-append (text_of source) zeros);
            text-is = ap (take n) w ∙ (ap (λ (m : ℕ). take m (text_of source ++ zeros)) z ∙ take-append_seam (text_of source) zeros);
          }

  pub text-fits : {n : ℕ} → a ≡ Ok n → n ≤ length text'
  text-fits e = (front e).fits

  pub text-front : {n : ℕ} → a ≡ Ok n → n ≡ length (take n text')
  text-front {n} e = sym (length-take-le n text' (text-fits e))

  module _ {n : ℕ} (e : a ≡ Ok n) {memory memory' input output output' : List ℕ} {budget : ℕ} {x : Result Ran NotRun}
      (r : RunsText (take n text') memory memory' input output output' budget x) where
    runs : RunsText (text_of source) memory memory' input output output' budget x
    runs = subst (λ (t : List ℕ). RunsText t memory memory' input output output' budget x) (front e).text-is r

    delivered : (ran : Ran) → x ≡ Ok ran → Delivers source memory memory' input output output' budget ran
    delivered ran q = record {
      follows = λ first k s over below. let came = go (image (text_of source) (length memory)).answer first k runs.by in
          subst (Follows (strings_in source) (placement_of source (image (text_of source) (length memory)).table first) s (length output) budget)
          (came-out came) ((c.faithful (front e).accepts).follows (length memory) 32767 first k input s over below output budget);
    }
      where
        go : (y : Result ℕ Refusal) (first : ℕ) → y ≡ Ok first
            → RanBy (image (text_of source) (length memory)) y memory' input output output' budget x
            → Ends (run first (image (text_of source) (length memory)).memory input output budget) ran memory' output'
        go (Err w) first k z = contradiction cc
        go (Ok m) first k z = let u : m ≡ first = cc in let v : z.ran ≡ ran = cc in
            subst (λ (j : ℕ). Ends (run j (image (text_of source) (length memory)).memory input output budget) ran memory' output') u
            (subst (λ (y : Ran). Ends (run m (image (text_of source) (length memory)).memory input output budget) y memory' output') v z.ends)

    pub source-ran : Executes source scratch scratch' text text' memory memory' input output output' budget x
    source-ran = record {
      clears = c.clears;
      writes = c.writes;
      becomes = subst (λ (y : Refused). ExecutedBy source y memory memory' input output output' budget x) (sym (front e).accepts) runs;
      delivers = delivered;
    }
