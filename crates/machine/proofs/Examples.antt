-- Worked examples by computation: small images, each stop, and closed instances of the laws.
use Rattle.laws.proofs.Basics.{ℕ, ◌+◌, ◌-◌, ◌≡◌, refl, List, [], ◌∷◌, ◌++◌, Bool, true, false, length, get_or, replicate, lit≤}
use Rattle.laws.proofs.Table.{Table, ◌gives◌, Each}
use Rattle.words.specs.Words.{value, word_of, mul, quot, rem, below, shl, shr}
use Rattle.machine.specs.Outcome.{read, write}
use Rattle.machine.specs.State.{at, start_registers}
use Rattle.machine.specs.Fetch.{fetch}
use Rattle.machine.specs.Acts.{indirected, returned, combined, sought, switched, received, sent}
use Rattle.machine.specs.Step.{keep, stored, called, jumped, perform, execute, step}
use Rattle.machine.specs.Run.{Outcome, steps, resume, carried_on, largest, allowed, run}
use Rattle.machine.specs.declared.Registers.{Registers}
use Rattle.machine.proofs.Budget.{Grows, resume-add, budget-beginning}
use Rattle.machine.proofs.Parts.{TwoParts, two-parts, in_parts, parts-are-whole}
use Rattle.machine.proofs.Without as W
use Rattle.machine.proofs.Unchanged.{bare_outcome, run-unchanged}

-- a memory of 512 words that begins with these
image : List ℕ → List ℕ
image ws = ws ++ replicate (512 - length ws) 0

-- words 0 to 7 of every image, START in global 1 at 416, and from there L65 X28 X4: it writes A and returns
letter : List ℕ
letter = 5121 ∷ 49154 ∷ 57366 ∷ 57371 ∷ 57348 ∷ 6146 ∷ 57372 ∷ 57348 ∷
    (replicate 9 0 ++ (416 ∷ (replicate 398 0 ++ (65 ∷ 57372 ∷ 57348 ∷ replicate 93 0))))

-- L200; A-1; T1; X22: two hundred turns of two instructions
countdown : List ℕ
countdown = image (200 ∷ 16896 ∷ 65535 ∷ 32769 ∷ 57366 ∷ [])

-- L2; X23 with two numbers: 1 goes to 20, 2 to 30, any other to 40
choice : ℕ → List ℕ
choice n = image (n ∷ 57367 ∷ 2 ∷ 40 ∷ 1 ∷ 20 ∷ 2 ∷ 30 ∷ [])

-- the run of an image from its start, with the first stack word 100, no input and one byte of room that holds 7
ran : ℕ → List ℕ → Outcome
ran budget m = run 100 m [] (7 ∷ []) budget

-- by a budget and an image: the stop and the count
abbrev end-table : Table (ℕ × List ℕ) (ℕ × ℕ)
end-table =
    -- finished: six instructions; two hundred turns
    (100, letter) gives (30, 6) ∷ (1000, countdown) gives (30, 402) ∷
    -- 31: the budget is over; the jump at 3 is not done
    (3, countdown) gives (31, 3) ∷
    -- 32: L600 I, an operand past the memory; C past the memory at the next fetch, the jump done and counted
    (9, image (4608 ∷ 600 ∷ [])) gives (32, 0) ∷ (9, image (25088 ∷ 600 ∷ [])) gives (32, 1) ∷
    -- 32: K411 stores at 511 and 512, so at neither
    (9, image (49563 ∷ [])) gives (32, 0) ∷
    -- 33: 0 / 0; 34: X20; 35: a second byte
    (9, image (57350 ∷ [])) gives (33, 0) ∷ (9, image (57364 ∷ [])) gives (34, 0) ∷ (9, image (65 ∷ 57372 ∷ 57372 ∷ [])) gives (35, 2) ∷
    -- 24: memory of 511 words; nothing changed
    (9, replicate 511 0) gives (24, 0) ∷ []

-- where C stands
abbrev place-table : Table (ℕ × List ℕ) ℕ
place-table =
    -- past the X22 at 2; before the operand that is not there; a switch on 1, 2 and 3
    (100, letter) gives 3 ∷ (9, image (4608 ∷ 600 ∷ [])) gives 0 ∷ (2, choice 1) gives 20 ∷ (2, choice 2) gives 30 ∷ (2, choice 3) gives 40 ∷ []

-- the byte of output
abbrev output-table : Table (ℕ × List ℕ) (List ℕ)
output-table = (100, letter) gives (65 ∷ []) ∷ (9, image (65 ∷ 57372 ∷ 57372 ∷ [])) gives (65 ∷ []) ∷ []

record Runs : Type 0 where
  ends : Each (λ g. ((ran g.0 g.1).stop, (ran g.0 g.1).count)) end-table
  places : Each (λ g. (ran g.0 g.1).state.regs.c) place-table
  writes : Each (λ g. (ran g.0 g.1).state.out) output-table
  written : (ran 100 letter).state.regs.written ≡ 1
  half-call-kept : get_or (ran 9 (image (49563 ∷ []))).state.mem 511 9 ≡ 0
  -- the end of the input is -1
  end-of-input : (ran 1 (image (57371 ∷ []))).state.regs.a ≡ 65535

runs : Runs
unfolding image letter countdown choice ran value word_of mul quot rem below shl shr read write fetch indirected returned combined sought switched
    received sent keep stored called jumped perform execute step steps resume
runs = record { ends = refl; places = refl; writes = refl; written = refl; half-call-kept = refl; end-of-input = refl }

-- ---- the last store (document 02, Req 07)

-- L5; S300; L6; X22
storing : List ℕ
storing = image (5 ∷ 8492 ∷ 6 ∷ 57366 ∷ [])

-- what the registers say of it: whether anything, the first address, and the number of words
said : Outcome → Bool × ℕ × ℕ
said o = (o.state.regs.stored, o.state.regs.from, o.state.regs.words)

nothing : Bool × ℕ × ℕ
nothing = (false, 0, 0)

abbrev store-table : Table (ℕ × List ℕ) (Bool × ℕ × ℕ)
store-table =
    -- at the start, after the L, after the S, and after the next L
    (0, storing) gives nothing ∷ (1, storing) gives nothing ∷ (2, storing) gives (true, 300, 1) ∷ (3, storing) gives nothing ∷
    -- K2, P being 100
    (2, letter) gives (true, 102, 2) ∷
    -- S300 and X22: the finish is done, and stores nothing
    (9, image (8492 ∷ 57366 ∷ [])) gives nothing ∷
    -- S300, and an instruction that is not done: X20, X6 by zero, a second S past the memory, half a K
    (9, image (8492 ∷ 57364 ∷ [])) gives (true, 300, 1) ∷ (9, image (8492 ∷ 57350 ∷ [])) gives (true, 300, 1) ∷
    (9, image (8492 ∷ 8704 ∷ 600 ∷ [])) gives (true, 300, 1) ∷ (9, image (8492 ∷ 49563 ∷ [])) gives (true, 300, 1) ∷ []

stores : Each (λ g. said (ran g.0 g.1)) store-table
unfolding image letter storing ran said nothing value word_of mul quot rem below shl shr read write fetch indirected returned combined sought switched
    received sent keep stored called jumped perform execute step steps resume
stores = refl

-- a closed instance of the law of Unchanged: the letter's run, and the same run without the last store, which finishes too
unchanged : bare_outcome (run 100 letter [] (7 ∷ []) 100) ≡ W.run 100 letter [] (7 ∷ []) 100
unchanged = run-unchanged 100 letter [] (7 ∷ []) 100

unchanged-count : (W.run 100 letter [] (7 ∷ []) 100).count ≡ 6
unfolding letter value word_of mul quot rem below shl shr read write sought W.fetch W.indirected W.returned W.combined W.switched W.received W.sent
    W.keep W.stored W.called W.jumped W.perform W.execute W.step W.steps W.resume
unchanged-count = refl

-- ---- parts and places (document 02, Req 08)

-- registers at the start, with those places in input and output
placed : (taken written : ℕ) → Registers
placed taken written = record { a = 0; b = 0; c = 0; p = 100; g = 16; taken = taken; written = written; stored = false; from = 0; words = 0 }

-- L65; X27; X28, from those places, with an input of two bytes and one byte of room that holds 7
from_places : (taken written budget : ℕ) → Outcome
from_places taken written budget = resume (10 ∷ 11 ∷ []) budget (at (placed taken written) (image (65 ∷ 57371 ∷ 57372 ∷ [])) (7 ∷ []))

record Places : Type 0 where
  -- an input place past the end reads -1, the largest place too, and stays
  reads_end : Each (λ taken. (from_places taken 0 2).state.regs.a) (9 gives 65535 ∷ largest gives 65535 ∷ [])
  takes_none : (from_places 9 0 2).state.regs.taken ≡ 9
  -- an output place past the room stops 35 at the next write: the two instructions before it are done, place and room are kept
  stops-full : (from_places 0 9 9).stop ∷ (from_places 0 9 9).count ∷ (from_places 0 9 9).state.regs.written ∷ [] ≡ 35 ∷ 2 ∷ 9 ∷ []
  room-kept : (from_places 0 9 9).state.out ≡ 7 ∷ []
  -- two parts of the letter's run: two instructions, then four of 98 allowed; the whole run's six
  counts : (ran 2 letter).count ∷ (resume [] 98 (ran 2 letter).state).count ∷ (ran 100 letter).count ∷ [] ≡ 2 ∷ 4 ∷ 6 ∷ []
  -- a further budget is cut at the largest budget number
  cut : allowed (largest - 3) 5 ≡ 3

places : Places
unfolding image letter ran placed from_places value word_of mul quot rem below shl shr read write fetch indirected returned combined sought switched
    received sent keep stored called jumped perform execute step steps resume
places = record { reads_end = refl; takes_none = refl; stops-full = refl; room-kept = refl; counts = refl; cut = refl }

-- closed instances of the laws of Parts: the letter's run in two parts, and in three
halves : TwoParts (ran (2 + 98) letter) (ran 2 letter) (resume [] 98 (ran 2 letter).state)
unfolding ran
halves = two-parts [] 2 98 (at (start_registers 100) letter (7 ∷ []))

thirds : in_parts [] (2 ∷ 1 ∷ 97 ∷ []) (at (start_registers 100) letter (7 ∷ [])) ≡ run 100 letter [] (7 ∷ []) 100
thirds = parts-are-whole [] (2 ∷ 1 ∷ 97 ∷ []) (at (start_registers 100) letter (7 ∷ []))

-- closed instances of the laws of Budget: the letter's run of 2 + 98 instructions, and of 2 against 100
carried : run 100 letter [] (7 ∷ []) (2 + 98) ≡ carried_on (run 100 letter [] (7 ∷ []) 2) (λ t. resume [] 98 t)
carried = resume-add [] 2 98 (at (start_registers 100) letter (7 ∷ []))

begun : Grows (steps [] 2 (at (start_registers 100) letter (7 ∷ []))).state (steps [] 100 (at (start_registers 100) letter (7 ∷ []))).state
begun = budget-beginning [] (at (start_registers 100) letter (7 ∷ [])) (lit≤ tt)
