-- The start: the machine at word 0 of an accepted image and the source run's first state are related, and the call of START follows.
use Rattle.laws.proofs.Basics.{ℕ, suc, ◌+◌, ◌-◌, ◌<◌, ◌≤◌, ◌≡◌, refl, ◌∙◌, List, [], ◌∷◌, true, false, cond, Option, some, none, length, get_or, eqb}
use Rattle.laws.proofs.Basics.{ltb, leb, le_refl, arith, ltb-true, lt-ltb, le-ltb, leb-true, le-leb, lt-leb}
use Rattle.laws.proofs.Cases.{by_order, contradiction}
use Rattle.text.specs.Packed.{packed}
use Rattle.words.specs.Globals.{no_globals}
use Rattle.machine.specs.State.{start_registers}
use Rattle.assembler.specs.declared.Label.{Label}
use Rattle.assembler.specs.Layout.{address_of}
use Rattle.language.specs.Resolved.{Fun}
use Rattle.language.specs.State.{Cell, gone, holds, Value, State, Result, finished, ok}
use Rattle.language.specs.Run.{Sem, sem, called, reach, received, sent, enter_at, position_of, nth, no_fun, run_body, parameters}
use Rattle.language.specs.Whole.{globals_with, string_cell, cells_at_start, at_start, run_with, Over, by_return, by_finish}
use Rattle.code.specs.Faithful.{addresses_from}
use Rattle.code.specs.Generate.{strings_code}
use Rattle.code.proofs.Results.{Post, p-undefined, p-finished, p-ok, post-cond}
use Rattle.code.proofs.Machine.{Mach}
use Rattle.code.proofs.Standing.{Env, Code, is-label, is-string, end, next}
use Rattle.code.proofs.Related.{Rel, Ends, Reached, Runs, at-finish}
use Rattle.code.proofs.Steps.{step-LIG}
use Rattle.language.proofs.Formed.{FormedF}
use Rattle.code.proofs.Goals.{Fits, Valued}
use Rattle.code.proofs.Arguments.{holding-none}
use Rattle.code.proofs.Calls.{sim-called}
use Rattle.code.proofs.Simulation.{sims}
use Rattle.language.proofs.Limits.{Both, b-finished, b-ok, both-called, both-sem}
use Rattle.code.proofs.Placing.{past}
use Rattle.code.proofs.Program as G
use Rattle.code.proofs.Program.{Built}

-- ---- the strings' cells

-- what is known of a cell x where strings stand from a to b
record Stringed (mem : List ℕ) (a b x : ℕ) (c : Cell) : Type 0 where
  before : x < a → c ≡ gone
  past_end : b ≤ x → c ≡ gone
  value : (w : ℕ) → c ≡ holds w → get_or mem x 0 ≡ w

one-string : {mem : List ℕ} {a c b x : ℕ} (ws : List ℕ) (d : Cell) → ((j : ℕ) → j < length ws → get_or mem (a + j) 0 ≡ get_or ws j 0) → a + length ws ≡ c
    → c ≤ b → Stringed mem c b x d
    → Stringed mem a b x (cond (leb a x) (cond (ltb x (a + length ws)) (holds (get_or ws (x - a) 0)) d) d)
one-string {mem} {a} {c} {b} {x} ws d f e l s =
    by_order x a (λ u. rw (lt-leb a x u) (record { before = λ h. s.before (omega arith); past_end = s.past_end; value = s.value })) (λ u.
    by_order x (a + length ws) (λ v. let z : a + (x - a) ≡ x = omega arith in
    rw (le-leb a x u, lt-ltb x (a + length ws) v) (record {
      before = λ h. absurd (omega arith);
      past_end = λ h. absurd (omega arith);
      value = λ w h. let k : get_or ws (x - a) 0 ≡ w = cc in (rw z at (f (x - a) (omega arith))) ∙ k;
    }))
    (λ v. rw (le-leb a x u, le-ltb x (a + length ws) v) (record { before = λ h. absurd (omega arith); past_end = s.past_end; value = s.value })))

string-cells : (Γ : Env) (table : List Label) → ((n : ℕ) → 1 ≤ n → address_of table n ≡ Γ.lab n) → (x l : ℕ) (ss : List (List ℕ)) {a b : ℕ} → 1 ≤ l
    → Code Γ a (strings_code l ss) b
    → Stringed Γ.image a b x (string_cell ss (addresses_from table l (length ss)) x)
unfolding strings_code string_cell addresses_from
string-cells Γ table same x l [] h (end e) = record { before = λ k. refl; past_end = λ k. refl; value = λ w k. contradiction cc }
string-cells Γ table same x l (cs ∷ ss) {a} {b} h (next (is-label t e) (next (is-string f g) k)) =
    let r = string-cells Γ table same x (suc l) ss (omega arith) k in
    let z : address_of table l ≡ a = same l h ∙ t in
    rw (z, e) (one-string (packed cs) (string_cell ss (addresses_from table (suc l) (length ss)) x) f g (G.strings-up Γ (suc l) ss k) r)

module _
    {fs : List Fun} {ss : List (List ℕ)} {memory room first : ℕ} {mem : List ℕ} {table : List Label} (input : List ℕ)
    (b : Built fs ss memory room first mem table) where
  abbrev pub Γ : Env
  Γ = G.env input b

  abbrev pub s₀ : State
  s₀ = at_start fs ss Γ.place

  abbrev pub v₀ : Mach
  v₀ = record { regs = start_registers first; mem = mem; bytes = [] }

  abbrev strings_end : ℕ
  strings_end = past (G.code_end input b) (strings_code (suc (length fs)) ss)

  cells_of : (x : ℕ) → Stringed mem (G.code_end input b) strings_end x (string_cell ss Γ.place.strings x)
  cells_of x = string-cells Γ table (G.same_address input b) x (suc (length fs)) ss (omega arith) (G.standing input b).strings

  pub starts : first + 2 ≤ memory - 8 → Rel Γ first 2 s₀ v₀
  unfolding cells_at_start
  starts l = record {
    agree = record { size = refl; same = λ x c. refl };
    frame_at = refl;
    globals-at = refl;
    room = l;
    base = G.code_below input b;
    vals = val;
    above = λ a k. out a (omega arith) ((cells_of a).past_end (omega (arith, G.strings-first input b)));
    code-gone = λ a c. by_order a 16 (λ u. rw (lt-leb 16 a u) refl) (λ u.
        by_order a 416 (λ t. let z : false ≡ true = rw (le-ltb a 16 u, lt-leb 416 a t) at c in contradiction cc) (λ t.
        out a t ((cells_of a).before (ltb-true a _ (rw (le-ltb a 16 u, le-leb 416 a t) at c)))));
    bytes = refl;
    taken = refl;
  }
    where
      out : (a : ℕ) → 416 ≤ a → string_cell ss Γ.place.strings a ≡ gone → s₀.cells a ≡ gone
      out a k g = rw (le-leb 16 a (omega arith), le-ltb a 416 k) g

      val : (a w : ℕ) → s₀.cells a ≡ holds w → get_or mem a 0 ≡ w
      val a w g = by_order a 16 (λ u. let z : gone ≡ holds w = rw (lt-leb 16 a u) at g in contradiction cc) (λ u. by_order a 416
          (λ t. let c : holds (get_or (globals_with fs Γ.place.entries no_globals) (a - 16) 0) ≡ holds w = rw (le-leb 16 a u, lt-ltb a 416 t) at g in
          let z : 16 + (a - 16) ≡ a = omega arith in
          let k : get_or (globals_with fs Γ.place.entries no_globals) (a - 16) 0 ≡ w = cc in
          (rw z at (G.global-word input b (a - 16) (omega arith))) ∙ k) (λ t. (cells_of a).value w (rw (le-leb 16 a u, le-ltb a 416 t) at g)))

  -- a frame past the limit
  no_room : {A : Type 0} {Q : A → State → Type 0} {L E : State → Type 0} (limit base k : ℕ) (s : State) (more : State → Result A) → limit < base
      → Post Q L E (reach limit base k s more)
  no_room limit base k s more l =
      post-cond (leb (base + k) limit) (λ e. let h : base + k ≤ limit = leb-true _ _ e in absurd (omega arith)) (λ e. p-undefined)

  not-called : {Q : Value → State → Type 0} {L E : State → Type 0} (limit base v : ℕ) (q : Sem) (s : State) → limit < base
      → Post Q L E (called fs Γ.place limit input q v base [] s)
  unfolding called
  not-called {Q} {L} {E} limit base v q s l = post-cond (eqb v 3) (λ e. no_room limit base 2 s (received input) l)
      (λ e. post-cond (eqb v 5) (λ e. no_room limit base 3 s (sent (nth [] 0)) l) (λ e. go (position_of v Γ.place.entries 0)))
    where
      go : (x : Option ℕ) → Post Q L E (enter_at fs limit q x base [] s)
      go none = p-undefined
      go (some k) = no_room limit base (2 + (get_or fs k no_fun).parameters) s
          (λ t. run_body q (get_or fs k no_fun).body base (2 + (get_or fs k no_fun).parameters) (parameters base (get_or fs k no_fun).parameters [] t)) l

  module _ (formed : (k : ℕ) → k < length fs → FormedF (length fs) (length ss) (2 + (get_or fs k no_fun).parameters) (get_or fs k no_fun).body) where
    abbrev fits : Fits Γ
    fits = G.fits input b formed

    -- the call of START, from word 0 on
    runs : (fuel : ℕ) → Runs Γ (Valued Γ 2) 5 first 2 2 s₀ v₀ (run_with fuel fs ss Γ.place (memory - 8) input)
    unfolding run_with
    runs fuel = by_order (memory - 8) (first + 2) (λ l. not-called (memory - 8) (first + 2) _ _ s₀ l) (λ l.
        step-LIG Γ fits.sized (le_refl 2) (starts (omega arith)) refl (G.start-0 input b) (omega (arith, b.least)) λ w r c a.
        sim-called Γ fits (sem fs Γ.place (memory - 8) input fuel) (sims Γ fits fuel)
        (get_or (globals_with fs Γ.place.entries no_globals) 1 0) [] r c
        (G.start-1 input b) (a ∙ G.global-word input b 1 (omega arith)) (holding-none w.mem (first + 2 + 2)))

    -- a source run that ends below the last eight words is followed to a finish
    pub finishes : (fuel : ℕ) (s : State) → Over (run_with fuel fs ss Γ.place memory input) s → s.used + 8 ≤ memory → Ends Γ 5 s₀ v₀ s
    unfolding run_with
    finishes fuel s o h = go o (both-called (memory - 8) fs Γ.place memory (omega arith) input _ _
        (both-sem (memory - 8) fs Γ.place memory (omega arith) input fuel) (get_or (globals_with fs Γ.place.entries no_globals) 1 0)
        (first + 2) [] s₀) (runs fuel)
      where
        over : {v : Value} → Reached Γ (Valued Γ 2) 5 first 2 2 s₀ v₀ v s → Ends Γ 5 s₀ v₀ s
        over e = at-finish Γ {past = 3} e.sim.goes e.sim.rel (rw e.is.at (G.start-2 input b)) e.sim.time

        reached : {v : Value} {y : Result Value} → y ≡ ok v s → Runs Γ (Valued Γ 2) 5 first 2 2 s₀ v₀ y → Ends Γ 5 s₀ v₀ s
        reached {v} e r = take (rw e at r)
          where
            take : Runs Γ (Valued Γ 2) 5 first 2 2 s₀ v₀ (ok v s) → Ends Γ 5 s₀ v₀ s
            take (p-ok q) = over q

        ended : {y : Result Value} → y ≡ finished s → Runs Γ (Valued Γ 2) 5 first 2 2 s₀ v₀ y → Ends Γ 5 s₀ v₀ s
        ended e r = take (rw e at r)
          where
            take : Runs Γ (Valued Γ 2) 5 first 2 2 s₀ v₀ (finished s) → Ends Γ 5 s₀ v₀ s
            take (p-finished q) = q

        go : {x y : Result Value} → Over x s → Both (memory - 8) 0 x y → Runs Γ (Valued Γ 2) 5 first 2 2 s₀ v₀ y → Ends Γ 5 s₀ v₀ s
        go by_return (b-ok l e) r = reached (e (omega arith)) r
        go by_finish (b-finished l e) r = ended (e (omega arith)) r
