-- What is proved, demand by demand: what to read first.
--
-- Each of the functions `compile`, `assemble`, `run` and `execute` meets its contract for all inputs, ends, and touches no memory but what it
-- is lent: that is what `rt check` proves of the code, and a call is known here by its contract alone (`Compiles`, `Assembles`, `Ends`).
-- This page says what the contracts say together. `Table.antt` has the rows that document 01 marks P.
use Rattle.std.specs.Prelude.{Err, Ok, Result}
use Rattle.laws.proofs.Basics.{ℕ, ◌+◌, ◌-◌, ◌≤◌, ◌≡◌, refl, sym, ap, subst, ◌∙◌, List, [], ◌++◌, length, take, replicate}
use Rattle.text.specs.Line.{refusal}
use Rattle.machine.specs.Run.{run}
use Rattle.machine.specs.Answers.{Ends, outcome_of}
use Rattle.machine.proofs.Parts.{came-out}
use Rattle.machine.specs.declared.Ran.{Ran}
use Rattle.assembler.specs.Assemble.{Assembly, Assembles, assembled, numbers}
use Rattle.assembler.specs.declared.Label.{Label}
use Rattle.language.specs.State.{State}
use Rattle.language.specs.Program.{accepted, refused}
use Rattle.language.specs.Whole.{refusal_in, strings_in, SourceRunEnds}
use Rattle.code.specs.Faithful.{placement_of, Follows}
use Rattle.code.specs.Placed.{Proper}
use Rattle.code.specs.Generate.{text_of}
use Rattle.compiler.specs.Compiles.{decided, answer_of, text_after, Compiles}
use Rattle.code.proofs.Theorem.{faithful, proper}
use Rattle.code.proofs.Instance.{source, written, answers, accepts as source-accepted, final, runs, low}
use Rattle.execution.proofs.Following.{front}
use Rattle.text.specs.declared.Refusal.{Refusal}

-- a call of `compile`
module _ {source scratch scratch' text text' : List ℕ} {answer : Result ℕ Refusal} (call : Compiles source scratch scratch' text text' answer) where
  -- ---- demands 1 and 2: it answers or refuses by document 01's rules, in their order (language's `refusal_in`), and leaves the buffers
  -- as it says

  pub refuses : (number place : ℕ) → decided source (length scratch) (length text) ≡ refused number place
      → (answer ≡ Err (refusal source number place)) × (text' ≡ replicate (length text) 0) × (scratch' ≡ replicate (length scratch) 0)
  refuses number place e = (call.answers ∙ ap (answer_of source) e, call.writes ∙ ap (text_after source (length text)) e, call.clears)

  pub accepts : decided source (length scratch) (length text) ≡ accepted
      → (answer ≡ Ok (length (text_of source))) × (text' ≡ text_of source ++ replicate (length text - length (text_of source)) 0) ×
      (scratch' ≡ replicate (length scratch) 0)
  accepts e = (call.answers ∙ ap (answer_of source) e, call.writes ∙ ap (text_after source (length text)) e, call.clears)

  -- the rules on the text: where functions, strings and stack lie, its sizes, and that it is refused by 24 and 25 only
  pub is-proper : {n : ℕ} → answer ≡ Ok n → Proper source (text_of source)
  is-proper e = call.proper (front call e).accepts

  -- ---- demand 3: for every source that compiles to a text of n bytes, which assembles in a memory and a label table, and every source run
  -- with that placement that ends with no undefined act and uses none of the memory's last eight words, a run of the image follows it:
  -- "the machine does what the source run does", within 16 instructions a step plus 16

  pub machine_follows : {n : ℕ} → answer ≡ Ok n
      → {memory memory' : List ℕ} {labels labels' : List Label} {first : ℕ} → Assembles (take n text') memory labels (Ok first) memory'
      labels'
      → {input : List ℕ} {s : State} → SourceRunEnds source (placement_of source labels' first) (length memory) input s → s.used + 8 ≤ length memory
      → (output : List ℕ) (budget : ℕ) {output' memory'' : List ℕ} {ran : Ran} → Ends (run first memory' input output budget) ran memory'' output'
      → Follows (strings_in source) (placement_of source labels' first) s (length output) budget (outcome_of ran memory'' output')
  machine_follows {n} e {memory} {memory'} {labels} {labels'} {first} a {input} {s} over below output budget {output'} {memory''} {ran} ends =
      let f = front call e in
      let asm = assembled (text_of source) (length memory) (length labels) in
      let same : assembled (take n text') (length memory) (length labels) ≡ asm = ap (λ (t : List ℕ). assembled t (length memory) (length labels))
      f.text-is in
      let tables : labels' ≡ asm.table = a.tables ∙ ap (λ (x : Assembly). x.table) same in
      let fills : memory' ≡ asm.memory = a.fills ∙ ap (λ (x : Assembly). x.memory) same in
      let placed = subst (λ (ls : List Label). SourceRunEnds source (placement_of source ls first) (length memory) input s) tables over in
      let demanded = (call.faithful f.accepts).follows (length memory) (length labels) first
      (sym (a.answers ∙ ap (λ (x : Assembly). x.answer) same))
      input s placed below output budget in
      let there = subst (λ (ls : List Label). Follows (strings_in source) (placement_of source ls first) s (length output) budget
      (run first asm.memory input output budget)) (sym tables) demanded in
      subst (Follows (strings_in source) (placement_of source labels' first) s (length output) budget)
      (ap (λ (m : List ℕ). run first m input output budget) (sym fills) ∙ came-out ends) there

-- ---- on a closed instance: LET START() BE WRCH('A'), with 512 words, and 100 bytes of text lent

lent : decided source 1000 100 ≡ accepted
unfolding decided refusal_in
lent = rw (source-accepted, written) refl

compiled : Compiles source (replicate 1000 7) (replicate 1000 0) (replicate 100 7) (text_after source 100 (decided source 1000 100))
    (Ok (length (text_of source)))
compiled = record {
  answers = ap (answer_of source) (sym lent);
  clears = refl;
  writes = refl;
  faithful = λ e. faithful source 1000 source-accepted;
  proper = λ e. proper source 1000 source-accepted;
}

assembly : Assembles (take (length (text_of source)) (text_after source 100 (decided source 1000 100))) (replicate 512 7)
    (replicate 4 (record { number = 7; address = 7 }))
    (Ok 421) (assembled (text_of source) 512 4).memory (assembled (text_of source) 512 4).table
assembly = let same = ap (λ (t : List ℕ). assembled t 512 4) (front compiled refl).text-is in
    let accepts-it = ap (λ (t : List ℕ). (assembled t 512 4).answer) ((front compiled refl).text-is ∙ written) ∙ answers in
    record {
      answers = sym accepts-it;
      tells = ap numbers (sym accepts-it);
      fills = ap (λ (x : Assembly). x.memory) (sym same);
      tables = ap (λ (x : Assembly). x.table) (sym same);
    }

-- whatever the room and the budget: the run writes A, or a beginning of it, as the source run does
followed : (output : List ℕ) (budget : ℕ) {output' memory' : List ℕ} {ran : Ran}
    → Ends (run 421 (assembled (text_of source) 512 4).memory [] output budget) ran memory' output'
    → Follows (strings_in source) (placement_of source (assembled (text_of source) 512 4).table 421) final (length output) budget
    (outcome_of ran memory' output')
followed output budget ends = machine_follows compiled refl assembly runs low output budget ends
