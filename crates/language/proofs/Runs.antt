-- One induction over all forms of the source run. A relation between two results that come of one state is `Closed` where it bears what the
-- forms do: end, change the state, reach a height, and go on from one result to the next. If the meanings of the parts are so related
-- (`Related`), then so are an expression, a command, a turn of a loop and a call of them. `Limits`, `Fuel` and `Held` are its instances.
use Rattle.laws.proofs.Basics.{ℕ, suc, ◌+◌, ◌<◌, ◌≤◌, ◌≡◌, refl, List, [], ◌∷◌, ◌++◌, Bool, true, false, cond, Option, some, none, length, get_or}
use Rattle.laws.proofs.Basics.{eqb}
use Rattle.laws.proofs.Basics.{ltb, leb, arith, leb-true}
use Rattle.laws.proofs.Cases.{by_cases, by_cond}
use Rattle.words.specs.Words.{add}
use Rattle.language.specs.Resolved as R
use Rattle.language.specs.Resolved.{Expr, Exprs, Target, Pairs, Cmd, Cmds, Cases, Locals, Body, Fun}
use Rattle.language.specs.Heights.{count, height_with}
use Rattle.language.specs.Operators.{apply_dyadic}
use Rattle.language.specs.State.{Cell, gone, unset, holds, Value, absent, word, State, Result, unfinished, undefined, finished, returned, ok}
use Rattle.language.specs.State.{bind, step, read_cell, write_cell, demand, forget, put}
use Rattle.language.specs.Run.{Placement, Sem, Flow, normal, broke, looped, ended, gave, Loop, whiling, repeating, repeating_while, counting}
use Rattle.language.specs.Run.{onwards, around, value_of, selected, is_true, same, goes_on, no_fun, position_of, nth, demand_all, reach, received}
use Rattle.language.specs.Run.{sent, at_end, of_routine, run_body, of_function, enter_at, called, arguments, two, or_undefined, evaluated, assigned}
use Rattle.language.specs.Run.{assigned_all, sequence, cases, declared, tested, leaving, executed, turned, sem, parameters, vector_words}

-- ---- what a relation has to bear

-- a word that was stored
pub data Held : Cell → Type 0 where
  held : {v : ℕ} → Held (holds v)

-- a change of state by the forms: below the first stack word what is held stays held, and the greatest use is the same
pub record Change (first : ℕ) (s t : State) : Type 0 where
  pub keeps : (a : ℕ) → a < first → Held (s.cells a) → Held (t.cells a)
  pub used : s.used ≡ t.used

-- what is done after a RETURN and after a result: `bind`, and the ends of functions and routines, are of this form
abbrev pub after : {A B : Type 0} → Result A → (State → Result B) → (A → State → Result B) → Result B
after unfinished m f = unfinished
after undefined m f = undefined
after (finished s) m f = finished s
after (returned s) m f = m s
after (ok a s) m f = f a s

-- between two results that come of one state
abbrev pub Relation : Type 1
Relation = (A : Type 0) → State → Result A → Result A → Type 0

-- the first result is of a run in so much memory, the second of one up to a limit
pub record Closed (first memory limit : ℕ) (T : Relation) : Type 1 where
  pub stops : {A : Type 0} {s : State} → T A s undefined undefined
  pub finishes : {A : Type 0} {s : State} → T A s (finished s) (finished s)
  pub returns : {A : Type 0} {s : State} → T A s (returned s) (returned s)
  pub gives : {A : Type 0} {a : A} {s : State} → T _ s (ok a s) (ok a s)
  pub changes : {A : Type 0} {s t : State} {x y : Result A} → Change first s t → T _ t x y → T _ s x y
  pub reaches : {A : Type 0} (p h : ℕ) (s : State) {f g : State → Result A} → ((t : State) → T _ t (f t) (g t))
      → T _ s (reach memory p h s f) (reach limit p h s g)
  pub goes_on_lem : {A B : Type 0} {s : State} {x y : Result A} {m n : State → Result B} {f g : A → State → Result B} → T _ s x y
      → ((t : State) → T _ t (m t) (n t)) → ((a : A) (t : State) → T _ t (f a t) (g a t)) → T _ s (after x m f) (after y n g)

-- parts whose meanings are related, in frames from the first stack word on
pub record Related (first : ℕ) (T : Relation) (q r : Sem) : Type 0 where
  pub evaluate : (e : Expr) (p h : ℕ) (s : State) → first ≤ p → T _ s (q.evaluate e p h s) (r.evaluate e p h s)
  pub run : (c : Cmd) (p h : ℕ) (s : State) → first ≤ p → T _ s (q.run c p h s) (r.run c p h s)
  pub turn : (l : Loop) (p h : ℕ) (s : State) → first ≤ p → T _ s (q.turn l p h s) (r.turn l p h s)

-- ---- the forms' changes of state

module _ {first : ℕ} where
  -- words are changed only from an address on that is above the first stack word
  above : (a b : ℕ) (c d : Cell) → first ≤ b → a < first → Held d → Held (cond (leb b a) c d)
  above a b c d l m h = by_cases (leb b a) (λ e. rw e (let k : b ≤ a = leb-true b a e in absurd (omega arith))) (λ e. rw e h)

  stepped : {s : State} → Change first s (step s)
  stepped = record { keeps = λ a m h. h; used = refl }

  forgotten : {s : State} (b : ℕ) → first ≤ b → Change first s (forget b s)
  forgotten b l = record { keeps = λ a m h. above a b _ _ l m h; used = refl }

  given : {s : State} (base n : ℕ) (vs : List ℕ) → first ≤ base → Change first s (parameters base n vs s)
  given base n vs l = record { keeps = λ a m h. above a (base + 2) _ _ (omega arith) m h; used = refl }

  vector : {s : State} (b n : ℕ) → first ≤ b → Change first s (vector_words b n s)
  vector b n l = record { keeps = λ a m h. above a b _ _ l m h; used = refl }

  -- a value is put into a word anywhere
  stored : {s : State} (b v : ℕ) → Change first s (put b (holds v) s)
  stored {s} b v = record { keeps = λ a m h. by_cond Held (eqb a b) held h; used = refl }

-- ---- the forms that go on after a result

bind-after : {A B : Type 0} (x : Result A) (f : A → State → Result B) → bind x f ≡ after x returned f
unfolding bind
bind-after = elim [ unfinished ↦ λ f. refl | undefined ↦ λ f. refl | finished s ↦ λ f. refl | returned s ↦ λ f. refl | ok a s ↦ λ f. refl ]

function-after : (base : ℕ) (x : Result Value) → of_function base x ≡ after x (λ s. undefined) (λ v s. ok v (forget base s))
function-after base = elim [ unfinished ↦ refl | undefined ↦ refl | finished s ↦ refl | returned s ↦ refl | ok v s ↦ refl ]

routine-after : (base : ℕ) (x : Result Flow) → of_routine base x ≡ after x (λ s. ok absent (forget base s)) (at_end base)
routine-after base = elim [ unfinished ↦ refl | undefined ↦ refl | finished s ↦ refl | returned s ↦ refl | ok f s ↦ refl ]

module _ (first memory limit : ℕ) (T : Relation) (closed : Closed first memory limit T) where
  open closed use {stops, finishes, returns, gives, changes, reaches, goes_on_lem}

  binds : {A B : Type 0} {s : State} {x y : Result A} {f g : A → State → Result B} → T _ s x y → ((a : A) (t : State) → T _ t (f a t) (g a t))
      → T _ s (bind x f) (bind y g)
  binds {x = x} {y = y} {f = f} {g = g} b h = rw (bind-after x f, bind-after y g) (goes_on_lem b (λ t. returns) h)

  chooses : {A : Type 0} {s : State} {x y x' y' : Result A} (b : Bool) → T _ s x y → T _ s x' y' → T _ s (cond b x x') (cond b y y')
  chooses true h k = h
  chooses false h k = k

  demands : {A : Type 0} {s : State} (v : Value) {f g : ℕ → Result A} → ((w : ℕ) → T _ s (f w) (g w)) → T _ s (demand v f) (demand v g)
  demands absent h = stops
  demands (word w) h = h w

  demands-all : {A : Type 0} {s : State} (vs : List Value) (ws : List ℕ) {f g : List ℕ → Result A} → ((us : List ℕ) → T _ s (f us) (g us))
      → T _ s (demand_all vs ws f) (demand_all vs ws g)
  demands-all [] ws h = h ws
  demands-all (v ∷ vs) ws h = demands v (λ w. demands-all vs (ws ++ (w ∷ [])) h)

  reads : (c : Cell) (s : State) → T _ s (read_cell c s) (read_cell c s)
  reads = elim [ gone ↦ λ s. stops | unset ↦ λ s. stops | holds v ↦ λ s. gives ]

  writes : {A : Type 0} {s : State} (c : Cell) {x y : Result A} → T _ s x y → T _ s (write_cell c x) (write_cell c y)
  writes = elim [ gone ↦ λ h. stops | unset ↦ λ h. h | holds v ↦ λ h. h ]

  -- a value written at an address
  stores : {A : Type 0} {s : State} (b w : ℕ) {f g : State → Result A} → ((t : State) → T _ t (f t) (g t))
      → T _ s (write_cell (s.cells b) (f (put b (holds w) s))) (write_cell (s.cells b) (g (put b (holds w) s)))
  stores {s = s} b w h = writes (s.cells b) (changes (stored b w) (h (put b (holds w) s)))

  or-undefined : (x : Option ℕ) (s : State) → T _ s (or_undefined x s) (or_undefined x s)
  or-undefined none s = stops
  or-undefined (some v) s = gives

  value : (f : Flow) (s : State) → T _ s (value_of f s) (value_of f s)
  value = elim [ normal ↦ λ s. gives | broke ↦ λ s. stops | looped ↦ λ s. stops | ended ↦ λ s. stops | gave v ↦ λ s. gives ]

  goes-onwards : (f : Flow) (s : State) {m n : State → Result Flow} → ((t : State) → T _ t (m t) (n t)) → T _ s (onwards f s m) (onwards f s n)
  goes-onwards normal s k = k s
  goes-onwards broke s k = gives
  goes-onwards looped s k = gives
  goes-onwards ended s k = gives
  goes-onwards (gave v) s k = gives

  goes-around : (f : Flow) (s : State) {m n : State → Result Flow} → ((t : State) → T _ t (m t) (n t)) → T _ s (around f s m) (around f s n)
  goes-around normal s k = k s
  goes-around broke s k = gives
  goes-around looped s k = k s
  goes-around ended s k = gives
  goes-around (gave v) s k = gives

  leaves : {s : State} {x y : Result Flow} (b : ℕ) → first ≤ b → T _ s x y → T _ s (leaving b x) (leaving b y)
  leaves b l h = binds h (λ f t. changes (forgotten b l) gives)

  ends : (base : ℕ) → first ≤ base → (f : Flow) (s : State) → T _ s (at_end base f s) (at_end base f s)
  ends base l =
      elim [ normal ↦ λ s. changes (forgotten base l) gives | broke ↦ λ s. stops | looped ↦ λ s. stops | ended ↦ λ s. stops | gave v ↦ λ s. stops ]

  receives : (input : List ℕ) (s : State) → T _ s (received input s) (received input s)
  receives input s = chooses (ltb s.taken (length input)) (changes (record { keeps = λ a m h. h; used = refl }) gives) gives

  sends : (x : Option ℕ) (s : State) → T _ s (sent x s) (sent x s)
  sends none s = stops
  sends (some v) s = changes (record { keeps = λ a m h. h; used = refl }) gives

  -- ---- the forms of parts whose meanings are related

  module _ (q r : Sem) (parts : Related first T q r) where
    body : (b : Body) (base h : ℕ) (s : State) → first ≤ base → T _ s (run_body q b base h s) (run_body r b base h s)
    body (R.expression e) base h s l = rw (function-after base (q.evaluate e base h s), function-after base (r.evaluate e base h s))
        (goes_on_lem (parts.evaluate e base h s l) (λ t. stops) (λ v t. changes (forgotten base l) gives))
    body (R.routine c) base h s l = rw (routine-after base (q.run c base h s), routine-after base (r.run c base h s))
        (goes_on_lem (parts.run c base h s l) (λ t. changes (forgotten base l) gives) (ends base l))

    tests : (e : Expr) (p h : ℕ) (s : State) → first ≤ p → {f g : Bool → State → Result Flow} → ((b : Bool) (t : State) → T _ t (f b t) (g b t))
        → T _ s (tested q e p h s f) (tested r e p h s g)
    tests e p h s l k = binds (parts.evaluate e p h s l) (λ v t. demands v (λ w. k (is_true w) t))

    in-sequence : (cs : Cmds) (p h : ℕ) (s : State) → first ≤ p → T _ s (sequence q cs p h s) (sequence r cs p h s)
    unfolding sequence
    in-sequence R.no_cmds p h s l = gives
    in-sequence (R.and_cmd c cs) p h s l = binds (parts.run c p h s l) (λ f t. goes-onwards f t (λ u. in-sequence cs p h u l))

    in-cases : (cs : Cases) (p h : ℕ) (s : State) → first ≤ p → T _ s (cases q cs p h s) (cases r cs p h s)
    unfolding cases
    in-cases R.no_cases p h s l = gives
    in-cases (R.cases ls c cs) p h s l = binds (parts.run c p h s l) (λ f t. goes-onwards f t (λ u. in-cases cs p h u l))

    in-arguments : (es : Exprs) (p h : ℕ) (s : State) → first ≤ p → {f g : List Value → State → Result Value}
        → ((vs : List Value) (t : State) → T _ t (f vs t) (g vs t))
        → T _ s (arguments memory q es p h s f) (arguments limit r es p h s g)
    unfolding arguments
    in-arguments R.none p h s l k = k [] s
    in-arguments (R.and e es) p h s l k =
        binds (parts.evaluate e p h s l) (λ v t. reaches p (h + 1) t (λ u. in-arguments es p (h + 1) u l (λ vs w. k (v ∷ vs) w)))

    in_two : (a b : Expr) (p h : ℕ) (s : State) → first ≤ p → {f g : ℕ → ℕ → State → Result Value}
        → ((v w : ℕ) (t : State) → T _ t (f v w t) (g v w t))
        → T _ s (two memory q a b p h s f) (two limit r a b p h s g)
    in_two a b p h s l k = binds (parts.evaluate a p h s l) (λ v t. reaches p (h + 1) t (λ u.
        binds (parts.evaluate b p (h + 1) u l) (λ w x. demands v (λ m. demands w (λ n. k m n x)))))

    in-assigned : (t : Target) (v : Value) (p h : ℕ) (s : State) → first ≤ p → {f g : State → Result Flow} → ((u : State) → T _ u (f u) (g u))
        → T _ s (assigned memory q t v p h s f) (assigned limit r t v p h s g)
    unfolding assigned
    in-assigned (R.to_local k) v p h s l m = demands v (λ w. stores (p + k) w m)
    in-assigned (R.to_global n) v p h s l m = demands v (λ w. stores (16 + n) w m)
    in-assigned (R.to_contents e) v p h s l m =
        reaches p (h + 1) s (λ t. binds (parts.evaluate e p (h + 1) t l) (λ a u. demands v (λ w. demands a (λ b. stores b w m))))
    in-assigned (R.to_index a b) v p h s l m = reaches p (h + 1) s (λ t. binds (parts.evaluate a p (h + 1) t l) (λ x u. reaches p (h + 2) u (λ y.
        binds (parts.evaluate b p (h + 2) y l) (λ z k. demands v (λ w. demands x (λ i. demands z (λ j. stores (add i j) w m)))))))

    in_pairs : (ps : Pairs) (p h : ℕ) (s : State) → first ≤ p → T _ s (assigned_all memory q ps p h s) (assigned_all limit r ps p h s)
    unfolding assigned_all
    in_pairs R.no_pairs p h s l = gives
    in_pairs (R.pair t e ps) p h s l = binds (parts.evaluate e p h s l) (λ v u. in-assigned t v p h u l (λ w. in_pairs ps p h w l))

    in-declared : (ls : Locals) (p h : ℕ) (s : State) → first ≤ p → {f g : State → Result Flow} → ((u : State) → T _ u (f u) (g u))
        → T _ s (declared memory q ls p h s f) (declared limit r ls p h s g)
    unfolding declared
    in-declared R.no_locals p h s l m = m s
    in-declared (R.vector n ls) p h s l m = changes stepped (changes (vector (p + h + 1) n (omega arith))
        (changes (stored (p + h) (p + h + 1)) (reaches p (h + 2 + n) _ (λ t. in-declared ls p (h + 2 + n) t l m))))
    in-declared (R.value e ls) p h s l m = binds (parts.evaluate e p h s l) (λ v t.
        demands v (λ w. changes stepped (changes (stored (p + h) w) (reaches p (h + 1) _ (λ u. in-declared ls p (h + 1) u l m)))))

    pub in-executed : (c : Cmd) (p h : ℕ) (s : State) → first ≤ p → T _ s (executed memory q c p h s) (executed limit r c p h s)
    unfolding executed
    in-executed R.empty p h s l = gives
    in-executed (R.assign ps) p h s l = changes stepped (in_pairs ps p h (step s) l)
    in-executed (R.perform e) p h s l = binds (parts.evaluate e p h s l) (λ v t. gives)
    in-executed (R.test e c d) p h s l = changes stepped (tests e p h (step s) l (λ b t. chooses b (parts.run c p h t l) (parts.run d p h t l)))
    in-executed (R.when sense e c) p h s l =
        changes stepped (tests e p h (step s) l (λ b t. chooses (same sense b) (parts.run c p h t l) (gives {a = normal})))
    in-executed (R.while sense e c) p h s l = changes stepped (parts.turn (whiling sense e c) p h (step s) l)
    in-executed (R.repeat c) p h s l = parts.turn (repeating c) p h s l
    in-executed (R.repeat_while sense c e) p h s l = parts.turn (repeating_while sense c e) p h s l
    in-executed (R.for from to by c) p h s l = changes stepped (binds (parts.evaluate from p h (step s) l) (λ v t.
        demands v (λ i. changes stepped (changes (stored (p + h) i) (reaches p (h + 1) _ (λ u.
        binds (parts.evaluate to p (h + 1) u l) (λ w x.
        demands w (λ m. reaches p (h + 2) x (λ y. leaves (p + h) (omega arith) (parts.turn (counting m by c) p h y l))))))))))
    in-executed (R.switch e cs) p h s l =
        changes stepped (binds (parts.evaluate e p h (step s) l) (λ v t. demands v (λ w. binds (in-cases (selected w cs) p h t l) (λ f u. gives))))
    in-executed (R.resultis e) p h s l = changes stepped (binds (parts.evaluate e p h (step s) l) (λ v t. gives))
    in-executed R.break p h s l = changes stepped gives
    in-executed R.loop p h s l = changes stepped gives
    in-executed R.endcase p h s l = changes stepped gives
    in-executed R.return p h s l = changes stepped returns
    in-executed R.finish p h s l = changes stepped finishes
    in-executed (R.block ls cs) p h s l =
        changes stepped (leaves (p + h) (omega arith) (in-declared ls p h (step s) l (λ t. in-sequence cs p (height_with h ls) t l)))

    pub in-turned : (o : Loop) (p h : ℕ) (s : State) → first ≤ p → T _ s (turned q o p h s) (turned r o p h s)
    unfolding turned
    in-turned (whiling sense e c) p h s l = tests e p h s l (λ b t.
        chooses (same sense b) (changes stepped (binds (parts.run c p h (step t) l) (λ f u.
        goes-around f u (λ w. parts.turn (whiling sense e c) p h w l)))) (gives {a = normal}))
    in-turned (repeating c) p h s l =
        changes stepped (binds (parts.run c p h (step s) l) (λ f u. goes-around f u (λ w. parts.turn (repeating c) p h w l)))
    in-turned (repeating_while sense c e) p h s l = changes stepped (binds (parts.run c p h (step s) l) (λ f u.
        goes-around f u (λ w. tests e p h w l (λ b x. chooses (same sense b) (parts.turn (repeating_while sense c e) p h x l) (gives {a = normal})))))
    in-turned (counting to by c) p h s l = binds (reads (s.cells (p + h)) s) (λ v t. demands v (λ i. chooses (goes_on by i to)
        (changes stepped (binds (parts.run c p (h + 2) (step t) l) (λ f u.
        goes-around f u (λ w.
        binds (reads (w.cells (p + h)) w) (λ x y. demands x (λ j. stores (p + h) (add j by) (λ z. parts.turn (counting to by c) p h z l)))))))
        gives))

    module _ (functions : List Fun) where
      in-enter : (x : Option ℕ) (base : ℕ) (vs : List ℕ) (s : State) → first ≤ base
          → T _ s (enter_at functions memory q x base vs s) (enter_at functions limit r x base vs s)
      in-enter none base vs s l = stops
      in-enter (some k) base vs s l = reaches base (2 + (get_or functions k no_fun).parameters) s (λ t.
          changes (given base (get_or functions k no_fun).parameters vs l)
          (body (get_or functions k no_fun).body base (2 + (get_or functions k no_fun).parameters) _ l))

      module _ (place : Placement) (input : List ℕ) where
        pub in-called : (v base : ℕ) (vs : List ℕ) (s : State) → first ≤ base
            → T _ s (called functions place memory input q v base vs s) (called functions place limit input r v base vs s)
        unfolding called
        in-called v base vs s l = chooses (eqb v 3) (reaches base 2 s (receives input))
            (chooses (eqb v 5) (reaches base 3 s (sends (nth vs 0))) (in-enter (position_of v place.entries 0) base vs s l))

        pub in-evaluated : (e : Expr) (p h : ℕ) (s : State) → first ≤ p
            → T _ s (evaluated functions place memory input q e p h s) (evaluated functions place limit input r e p h s)
        unfolding evaluated
        in-evaluated (R.constant v) p h s l = gives
        in-evaluated (R.local k) p h s l = reads (s.cells (p + k)) s
        in-evaluated (R.global n) p h s l = reads (s.cells (16 + n)) s
        in-evaluated (R.function k) p h s l = gives
        in-evaluated (R.string k) p h s l = gives
        in-evaluated (R.address_of_local k) p h s l = gives
        in-evaluated (R.address_of_global n) p h s l = gives
        in-evaluated (R.address_of_contents e) p h s l = binds (parts.evaluate e p h s l) (λ v t. demands v (λ a. gives))
        in-evaluated (R.address_of_index a b) p h s l = in_two a b p h s l (λ v w t. gives)
        in-evaluated (R.contents e) p h s l = binds (parts.evaluate e p h s l) (λ v t. demands v (λ a. reads (t.cells a) t))
        in-evaluated (R.index a b) p h s l = in_two a b p h s l (λ v w t. reads (t.cells (add v w)) t)
        in-evaluated (R.unary o e) p h s l = binds (parts.evaluate e p h s l) (λ v t. demands v (λ w. gives))
        in-evaluated (R.binary o a b) p h s l = in_two a b p h s l (λ v w t. or-undefined (apply_dyadic o v w) t)
        in-evaluated (R.call e es) p h s l = reaches p (h + 2) s (λ t. in-arguments es p (h + 2) t l (λ vs u.
            binds (parts.evaluate e p (h + 2 + count es) u l) (λ v w.
            demands-all vs [] (λ ws. demands v (λ a. in-called a (p + h) ws w (omega arith))))))
        in-evaluated (R.valof c) p h s l = binds (parts.run c p h s l) value

  -- ---- one more of fuel on both sides

  pub in-sem : (functions : List Fun) (place : Placement) (input : List ℕ) (n m : ℕ)
      → Related first T (sem functions place memory input n) (sem functions place limit input m)
      → Related first T (sem functions place memory input (suc n)) (sem functions place limit input (suc m))
  unfolding sem
  in-sem functions place input n m parts = record {
    evaluate = λ e p h s l. changes stepped (in-evaluated _ _ parts functions place input e p h (step s) l);
    run = in-executed _ _ parts;
    turn = in-turned _ _ parts;
  }
