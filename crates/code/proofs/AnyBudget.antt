-- Demand 3 of a run that goes to a finish: what it says of every budget and every output room.
use Rattle.laws.proofs.Basics.{ℕ, zero, suc, ◌+◌, ◌-◌, ◌*◌, ◌<◌, ◌≤◌, ◌≡◌, refl, sym, ap, ◌∙◌, List, [], ◌++◌, ◌⊎◌, inl, inr, length, get_or, take}
use Rattle.laws.proofs.Basics.{replicate, length-append, length-replicate, length-take-le, get_or-take, ext_get_or, arith, le-leb}
use Rattle.laws.proofs.Cases.{by_order}
use native.Mathlib.Decide.{dec_lt}
use Rattle.machine.specs.State as M
use Rattle.machine.specs.State.{at, start_registers, with_c}
use Rattle.machine.specs.Step.{finished, step}
use Rattle.machine.specs.Run.{Outcome, after, steps, resume, run}
use Rattle.machine.proofs.Budget.{Grows, steps-grow, budget-beginning}
use Rattle.machine.proofs.Room.{Roomier, Beginning, whole, cut, room-beginning}
use Rattle.language.specs.State.{Cell, State, holds}
use Rattle.language.specs.Run.{Placement}
use Rattle.text.specs.Packed.{packed}
use Rattle.code.specs.Faithful.{SameWord, Finishes, Begins, Pauses, Follows}
use Rattle.language.proofs.Runs.{Held, held}
use Rattle.code.proofs.Machine.{Star, here, then, Reach}
use Rattle.code.proofs.Instructions.{do-X22}
use Rattle.code.proofs.Standing.{Env}
use Rattle.code.proofs.Related.{Ends}

module _ (input : List ℕ) where
  after_none : (o : Outcome) → o ≡ after 0 o
  after_none o = let z : o.count ≡ 0 + o.count = omega arith in λ i. record { stop = o.stop; count = z i; state = o.state }

  after_more : (n : ℕ) (o : Outcome) → after 1 (after n o) ≡ after (suc n) o
  after_more n o = let z : 1 + (n + o.count) ≡ suc n + o.count = omega arith in λ i. record { stop = o.stop; count = z i; state = o.state }

  star-run : {n : ℕ} {s t : M.State} → Star input n s t → (k : ℕ) → steps input (n + k) s ≡ after n (steps input k t)
  unfolding steps
  star-run {s = s} here k = let z : 0 + k ≡ k = omega arith in rw z (after_none (steps input k s))
  star-run {s = s} {t = u} (then {n = n} {t = t} e x) k = let z : suc n + k ≡ suc (n + k) = omega arith in
      rw (z, e) (ap (after 1) (star-run x k) ∙ after_more n (steps input k u))

  star-short : {n : ℕ} {s t : M.State} → Star input n s t → (b : ℕ) → b ≤ n → (steps input b s).stop ≡ 31
  unfolding steps
  star-short x zero l = refl
  star-short here (suc b) l = absurd (omega arith)
  star-short (then e x) (suc b) l = rw e (star-short x b (omega arith))

  -- the bytes written lie within the room
  inside : (n : ℕ) (s : M.State) → s.regs.written ≤ length s.out → (steps input n s).state.regs.written ≤ length (steps input n s).state.out
  inside n s h = let g = steps-grow input n s in
      let a = g.within h in
      let e = g.room in
      omega arith

-- a beginning, byte by byte
record Prefix (s : State) (o : Outcome) : Type 0 where
  within : o.state.regs.written ≤ length s.output
  each : (i : ℕ) → i < o.state.regs.written → get_or o.state.out i 0 ≡ get_or s.output i 0

begins : (s : State) (o : Outcome) → Prefix s o → o.state.regs.written ≤ length o.state.out → Begins s o
begins s o p l = record {
  within = p.within;
  bytes = ext_get_or 0 (take o.state.regs.written o.state.out) (take o.state.regs.written s.output)
      (length-take-le o.state.regs.written o.state.out l ∙ sym (length-take-le o.state.regs.written s.output p.within)) (λ i k.
      let j : i < o.state.regs.written = omega (arith, length-take-le o.state.regs.written o.state.out l) in
      get_or-take o.state.regs.written o.state.out i 0 j ∙ p.each i j ∙ sym (get_or-take o.state.regs.written s.output i 0 j));
}

-- with less room, a beginning of a beginning
less-room : (s : State) {x y : Outcome} → Beginning x y → Prefix s y → Prefix s x
less-room s (whole k n r m h) p = record { within = p.within; each = λ i l. h.same i l ∙ p.each i l }
less-room s (cut n t x h k) p = record { within = omega (arith, p.within); each = λ i l. k i l ∙ p.each i (omega arith) }

-- the globals' words and the strings' hold something
pub record Holds (strings : List (List ℕ)) (place : Placement) (s : State) : Type 0 where
  pub globals : (n : ℕ) → n < 400 → Held (s.cells (16 + n))
  pub constants : (k i : ℕ) → k < length strings → i < length (packed (get_or strings k [])) → Held (s.cells (get_or place.strings k 0 + i))

same-cell : {c : Cell} (w : ℕ) → Held c → ((v : ℕ) → c ≡ holds v → w ≡ v) → c ≡ holds w
same-cell w (held {v}) f = ap holds (sym (f v refl))

same_word : {s : State} {o : Outcome} (a : ℕ) → Held (s.cells a) → ((w : ℕ) → s.cells a ≡ holds w → get_or o.state.mem a 0 ≡ w) → SameWord s o a
same_word {s} {o} a h f = record { same = same-cell (get_or o.state.mem a 0) h f }

module _ (Γ : Env) (strings : List (List ℕ)) (least : 512 ≤ length Γ.image) (most : length Γ.image ≤ 32768) (s₀ s : State)
    (none : s₀.steps ≡ 0)
    (e : Ends Γ 5 s₀ (record { regs = start_registers Γ.place.first; mem = Γ.image; bytes = [] }) s) (holding : Holds strings Γ.place s) where
  abbrev begin : List ℕ → M.State
  begin o = at (start_registers Γ.place.first) Γ.image o

  -- the run to the finish
  record Whole (o : List ℕ) : Type 0 where
    last : M.State
    runs : (k : ℕ) → steps Γ.input (e.n + suc k) (begin o) ≡ record { stop = 30; count = e.n + 1; state = last }
    written : last.regs.written ≡ length s.output
    fits : length s.output ≤ length last.out
    bytes : take (length s.output) last.out ≡ s.output
    taken : last.regs.taken ≡ s.taken
    words : (a w : ℕ) → s.cells a ≡ holds w → get_or last.mem a 0 ≡ w
    paused : (b : ℕ) → b ≤ e.n → (steps Γ.input b (begin o)).stop ≡ 31

  wholly : (o : List ℕ) → length s.output ≤ length o → Whole o
  unfolding steps
  wholly o l = let lb : length e.v'.bytes ≡ length s.output = ap length e.bytes in
      let r : Reach Γ.input e.n _ e.v' o = e.goes.from o (record { written = refl; fits = omega arith; same = refl }) (omega arith) in
      let f : step Γ.input (at e.v'.regs e.v'.mem r.output) ≡ finished (at (with_c e.past e.v'.regs) e.v'.mem r.output)
      = do-X22 Γ e.v' e.agree refl e.finish r.output in
      record {
        last = at (with_c e.past e.v'.regs) e.v'.mem r.output;
        runs = λ k. star-run Γ.input r.star (suc k) ∙ ap (after e.n) (rw f refl);
        written = r.shows.written ∙ lb;
        fits = omega (arith, r.shows.fits);
        bytes = ap (λ (n : ℕ). take n r.output) (sym lb) ∙ r.shows.same ∙ e.bytes;
        taken = e.taken;
        words = e.vals;
        paused = λ b k. star-short Γ.input r.star b k;
      }

  module _ (o : List ℕ) (enough : length s.output ≤ length o) where
    abbrev x : Whole o
    x = wholly o enough

    done-run : (b : ℕ) → e.n + 1 ≤ b → steps Γ.input b (begin o) ≡ record { stop = 30; count = e.n + 1; state = x.last }
    done-run b h = let z : e.n + suc (b - (e.n + 1)) ≡ b = omega arith in rw z at (x.runs (b - (e.n + 1)))

    prefix-last : Prefix s (record { stop = 30; count = e.n + 1; state = x.last })
    prefix-last = record {
      within = omega (arith, x.written);
      each = λ i l. let j : i < length s.output = omega (arith, x.written) in
          sym (get_or-take (length s.output) x.last.out i 0 j) ∙ ap (λ (b : List ℕ). get_or b i 0) x.bytes;
    }

    finishes : (b : ℕ) → e.n + 1 ≤ b → Finishes strings Γ.place s (steps Γ.input b (begin o))
    finishes b h = rw (done-run b h) (record {
      stops = refl;
      counts = omega (arith, e.time, none);
      agrees = record {
        bytes = ap (λ (n : ℕ). take n x.last.out) x.written ∙ x.bytes;
        taken = x.taken;
        globals = λ n l. same_word (16 + n) (holding.globals n l) (x.words (16 + n));
        constants =
            λ k i l j. same_word (get_or Γ.place.strings k 0 + i) (holding.constants k i l j) (x.words (get_or Γ.place.strings k 0 + i));
      };
    })

    prefix : (b : ℕ) → Prefix s (steps Γ.input b (begin o))
    prefix b = by_order b (e.n + 1) (λ h. let g : Grows (steps Γ.input b (begin o)).state x.last
        = rw (done-run (e.n + 1) (omega arith)) at (budget-beginning Γ.input {n = b} {n' = e.n + 1} (begin o) (omega arith)) in
        record { within = omega (arith, g.place, x.written); each = λ i l. sym (g.kept i l) ∙ prefix-last.each i (omega (arith, g.place)) })
        (λ h. rw (done-run b h) prefix-last)

    pauses : (b : ℕ) → b < e.n + 1 → Pauses s (steps Γ.input b (begin o))
    pauses b h = record {
      stops = x.paused b (omega arith);
      begins = begins s (steps Γ.input b (begin o)) (prefix b) (inside Γ.input b (begin o) (omega arith));
    }

  in-time : e.n + 1 ≤ 16 * s.steps + 16
  in-time = omega (arith, e.time, none)

  run_is : (o : List ℕ) (b : ℕ) → run Γ.place.first Γ.image Γ.input o b ≡ steps Γ.input b (begin o)
  unfolding resume
  run_is o b = rw (le-leb 512 (length Γ.image) least, le-leb (length Γ.image) 32768 most) refl

  pub follows : (o : List ℕ) (b : ℕ) → Follows strings Γ.place s (length o) b (run Γ.place.first Γ.image Γ.input o b)
  follows o b = record {
    enough = λ l h. rw (run_is o b) (finishes o l b (omega (arith, in-time)));
    any_budget = λ l. rw (run_is o b) (pick l (dec_lt b (e.n + 1)));
    any_room = rw (run_is o b) (begins s (steps Γ.input b (begin o))
        (less-room s (room-beginning Γ.input b (start_registers Γ.place.first) Γ.image o more roomier) (prefix more longer b))
        (inside Γ.input b (begin o) (omega arith)));
  }
    where
      pick : length s.output ≤ length o → Dec (b < e.n + 1)
          → Finishes strings Γ.place s (steps Γ.input b (begin o)) ⊎ Pauses s (steps Γ.input b (begin o))
      pick l (yes h) = inr (pauses o l b h)
      pick l (no h) = inl (finishes o l b (omega arith))

      more : List ℕ
      more = o ++ replicate (length s.output) 0

      sizes : length more ≡ length o + length s.output
      sizes = length-append o (replicate (length s.output) 0) ∙ ap (length o +◌) (length-replicate (length s.output) 0)

      longer : length s.output ≤ length more
      longer = omega (arith, sizes)

      roomier : Roomier 0 o more
      roomier = record { room = omega (arith, sizes); same = λ i l. absurd (omega arith) }
