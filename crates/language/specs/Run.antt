-- The source run (document 01, "The source run"). A part is evaluated or run in a frame at `p` at a height `h`, from a state.
-- The parts' own meanings are given by a record `Sem`, so that each definition here is one step; `sem` ties them together, with
-- fuel, a number of nested parts that is enough where the run ends.
use Rattle.std.specs.Prelude.{ℕ, zero, suc, ◌+◌, ◌-◌, ◌%◌, Bool, true, false, not, cond, List, [], ◌∷◌, ◌++◌, length, get_or, eqb, leb, ltb}
use Rattle.std.proofs.Math.Option.{Option, none, some}
use Rattle.words.specs.Words.{add, below}
use Rattle.language.specs.Resolved as R
use Rattle.language.specs.Resolved.{Expr, Exprs, Target, Pairs, Cmd, Cmds, Cases, CaseLabel, has_case, has_default, Locals, Body, Fun, nowhere}
use Rattle.language.specs.Heights.{height_with, count}
use Rattle.language.specs.Operators.{apply_monadic, apply_dyadic}
use Rattle.language.specs.State.{Cell, unset, holds, Value, absent, word, State, Result, unfinished, undefined, finished, returned, ok, bind}
use Rattle.language.specs.State.{step, with_cells, put, forget, read, write, demand}

-- how a command ends: to the next one, by BREAK, LOOP or ENDCASE, or by RESULTIS
pub data Flow : Type 0 where
  normal broke looped ended : Flow
  gave : Value → Flow

-- what goes round: WHILE and UNTIL, REPEAT, REPEATWHILE and REPEATUNTIL, FOR with its limit
pub data Loop : Type 0 where
  whiling : (sense : Bool) → Expr → Cmd → Loop
  repeating : Cmd → Loop
  repeating_while : (sense : Bool) → Cmd → Expr → Loop
  counting : (limit by : ℕ) → Cmd → Loop

pub record Sem : Type 0 where
  pub evaluate : Expr → (p h : ℕ) → State → Result Value
  pub run : Cmd → (p h : ℕ) → State → Result Flow
  pub turn : Loop → (p h : ℕ) → State → Result Flow

-- the placement: the functions' entries, the strings' addresses, and the first stack word
pub record Placement : Type 0 where
  pub entries : List ℕ
  pub strings : List ℕ
  pub first : ℕ

-- zero alone is false
abbrev pub is_true : ℕ → Bool
is_true v = not (eqb v 0)

abbrev pub same : Bool → Bool → Bool
same true b = b
same false b = not b

-- ---- after a command

abbrev pub onwards : Flow → State → (State → Result Flow) → Result Flow
onwards normal s more = more s
onwards broke s more = ok broke s
onwards looped s more = ok looped s
onwards ended s more = ok ended s
onwards (gave v) s more = ok (gave v) s

-- after a loop's body: BREAK leaves the loop, LOOP goes to its next test or step
abbrev pub around : Flow → State → (State → Result Flow) → Result Flow
around normal s more = more s
around broke s more = ok normal s
around looped s more = more s
around ended s more = ok ended s
around (gave v) s more = ok (gave v) s

abbrev pub after_switch : Flow → Flow
after_switch normal = normal
after_switch broke = broke
after_switch looped = looped
after_switch ended = normal
after_switch (gave v) = gave v

-- a VALOF that ends without RESULTIS has no value
abbrev pub value_of : Flow → State → Result Value
value_of normal s = ok absent s
value_of broke s = undefined
value_of looped s = undefined
value_of ended s = undefined
value_of (gave v) s = ok v s

-- ---- SWITCHON: CASE labels fall through; with no match nor DEFAULT nothing runs

-- the commands from the one with a label on
unfoldable pub from : (List CaseLabel → Bool) → Cases → Option Cases
from test R.no_cases = none
from test (R.cases ls c cs) = cond (test ls) (some (R.cases ls c cs)) (from test cs)

abbrev pub or_none : Option Cases → Cases
or_none none = R.no_cases
or_none (some cs) = cs

abbrev pub or_else : Option Cases → Cases → Cases
or_else none other = other
or_else (some cs) other = cs

unfoldable pub selected : ℕ → Cases → Cases
selected v cs = or_else (from (has_case v) cs) (or_none (from has_default cs))

-- ---- the words that a call gives its parameters: each argument in its parameter; the others are live and not stored

abbrev pub parameter : Option ℕ → Cell
parameter none = unset
parameter (some v) = holds v

unfoldable pub nth : List ℕ → ℕ → Option ℕ
nth [] i = none
nth (v ∷ vs) zero = some v
nth (v ∷ vs) (suc i) = nth vs i

abbrev pub parameters : (base n : ℕ) → List ℕ → State → State
parameters base n vs s =
    with_cells (λ b. cond (leb (base + 2) b) (cond (ltb b (base + 2 + n)) (parameter (nth vs (b - (base + 2)))) (s.cells b)) (s.cells b)) s

-- a vector's words are live and not stored
abbrev pub vector_words : (address n : ℕ) → State → State
vector_words a n s = with_cells (λ b. cond (leb a b) (cond (leb b (a + n)) unset (s.cells b)) (s.cells b)) s

-- all values are used when the call acts
abbrev pub demand_all : {A : Type 0} → List Value → List ℕ → (List ℕ → Result A) → Result A
demand_all [] vs more = more vs
demand_all (v ∷ rest) vs more = demand v (λ w. demand_all rest (vs ++ (w ∷ [])) more)

-- the position of an entry
unfoldable pub position_of : ℕ → List ℕ → ℕ → Option ℕ
position_of v [] i = none
position_of v (a ∷ rest) i = cond (eqb v a) (some i) (position_of v rest (suc i))

abbrev pub no_fun : Fun
no_fun = record { parameters = 0; body = R.expression (R.constant 0); start = nowhere }

-- ---- RDCH and WRCH, and how a function and a routine end

-- RDCH takes and gives the next byte of the input, or gives -1 at the end
abbrev pub received : (input : List ℕ) → State → Result Value
received input s =
    cond (ltb s.taken (length input))
    (ok (word (get_or input s.taken 0)) (record { cells = s.cells; taken = suc s.taken; output = s.output; steps = s.steps; used = s.used }))
    (ok (word 65535) s)

-- WRCH writes the low eight bits of its parameter
abbrev pub sent : Option ℕ → State → Result Value
sent none s = undefined
sent (some v) s = ok absent (record { cells = s.cells; taken = s.taken; output = s.output ++ ((v % 256) ∷ []); steps = s.steps; used = s.used })

-- a function with = gives the value of its expression. That a RETURN reaches it is refused 13, and undefined here
abbrev pub of_function : (base : ℕ) → Result Value → Result Value
of_function base unfinished = unfinished
of_function base undefined = undefined
of_function base (finished s) = finished s
of_function base (returned s) = undefined
of_function base (ok v s) = ok v (forget base s)

-- a routine has no value; it ends by RETURN or with its command. That BREAK, LOOP, ENDCASE or RESULTIS ends it is refused 13, and
-- undefined here
abbrev pub at_end : (base : ℕ) → Flow → State → Result Value
at_end base normal s = ok absent (forget base s)
at_end base broke s = undefined
at_end base looped s = undefined
at_end base ended s = undefined
at_end base (gave v) s = undefined

abbrev pub of_routine : (base : ℕ) → Result Flow → Result Value
of_routine base unfinished = unfinished
of_routine base undefined = undefined
of_routine base (finished s) = finished s
of_routine base (returned s) = ok absent (forget base s)
of_routine base (ok f s) = at_end base f s

abbrev pub run_body : Sem → Body → (base h : ℕ) → State → Result Value
run_body r (R.expression e) base h s = of_function base (r.evaluate e base h s)
run_body r (R.routine c) base h s = of_routine base (r.run c base h s)

abbrev pub or_undefined : Option ℕ → State → Result Value
or_undefined none s = undefined
or_undefined (some v) s = ok (word v) s

-- ---- commands one after another, conditions, and what is left

unfoldable pub sequence : Sem → Cmds → (p h : ℕ) → State → Result Flow
sequence r R.no_cmds p h s = ok normal s
sequence r (R.and_cmd c cs) p h s = bind (r.run c p h s) (λ f t. onwards f t (λ u. sequence r cs p h u))

unfoldable pub cases : Sem → Cases → (p h : ℕ) → State → Result Flow
cases r R.no_cases p h s = ok normal s
cases r (R.cases ls c cs) p h s = bind (r.run c p h s) (λ f t. onwards f t (λ u. cases r cs p h u))

-- a condition, tested against zero
abbrev pub tested : Sem → Expr → (p h : ℕ) → State → (Bool → State → Result Flow) → Result Flow
tested r e p h s more = bind (r.evaluate e p h s) (λ v t. demand v (λ w. more (is_true w) t))

-- a block's or a FOR's words are live no longer once it is left
abbrev pub leaving : (address : ℕ) → Result Flow → Result Flow
leaving a x = bind x (λ f s. ok f (forget a s))

-- ---- loops: each turn, the body begun, is a step. FOR tests i <= limit, or >= for a negative BY; its step wraps

abbrev pub goes_on : (by i limit : ℕ) → Bool
goes_on by i limit = cond (leb 32768 by) (not (below i limit)) (not (below limit i))

unfoldable pub turned : Sem → Loop → (p h : ℕ) → State → Result Flow
turned r (whiling sense e c) p h s =
    tested r e p h s (λ b t. cond (same sense b) (bind (r.run c p h (step t)) (λ f u. around f u (λ w. r.turn (whiling sense e c) p h w)))
    (ok normal t))
turned r (repeating c) p h s = bind (r.run c p h (step s)) (λ f u. around f u (λ w. r.turn (repeating c) p h w))
turned r (repeating_while sense c e) p h s =
    bind (r.run c p h (step s)) (λ f u.
    around f u (λ w. tested r e p h w (λ b x. cond (same sense b) (r.turn (repeating_while sense c e) p h x) (ok normal x))))
turned r (counting limit by c) p h s =
    bind (read (p + h) s) (λ v t.
    demand v (λ i.
    cond (goes_on by i limit)
    (bind (r.run c p (h + 2) (step t)) (λ f u.
    around f u (λ w.
    bind (read (p + h) w) (λ x y. demand x (λ j. write (p + h) (add j by) y (λ z. r.turn (counting limit by c) p h z))))))
    (ok normal t)))

-- ---- in a memory of so many words

module _ (memory : ℕ) where
  -- the height of a frame reaches h: a frame word past the memory is undefined
  abbrev pub reach : {A : Type 0} → (p h : ℕ) → State → (State → Result A) → Result A
  reach p h s more =
      cond (leb (p + h) memory)
      (more (record {
        cells = s.cells;
        taken = s.taken;
        output = s.output;
        steps = s.steps;
        used = cond (ltb s.used (p + h)) (p + h) s.used;
      }))
      undefined

  -- parameters start at word 2 of the frame
  abbrev pub enter : Sem → Fun → (base : ℕ) → List ℕ → State → Result Value
  enter r f base vs s = reach base (2 + f.parameters) s (λ t. run_body r f.body base (2 + f.parameters) (parameters base f.parameters vs t))

  -- ---- the parts of expressions

  -- arguments: each is kept in the word of its height
  unfoldable pub arguments : Sem → Exprs → (p h : ℕ) → State → (List Value → State → Result Value) → Result Value
  arguments r R.none p h s more = more [] s
  arguments r (R.and e es) p h s more =
      bind (r.evaluate e p h s) (λ v t. reach p (h + 1) t (λ u. arguments r es p (h + 1) u (λ vs w. more (v ∷ vs) w)))

  abbrev pub two : Sem → Expr → Expr → (p h : ℕ) → State → (ℕ → ℕ → State → Result Value) → Result Value
  two r a b p h s more =
      bind (r.evaluate a p h s) (λ v t. reach p (h + 1) t
      (λ u. bind (r.evaluate b p (h + 1) u) (λ w x. demand v (λ m. demand w (λ n. more m n x)))))

  -- ---- assignment: the right side, then the left side's parts; in lists each pair in turn

  unfoldable pub assigned : Sem → Target → Value → (p h : ℕ) → State → (State → Result Flow) → Result Flow
  assigned r (R.to_local k) v p h s more = demand v (λ w. write (p + k) w s more)
  assigned r (R.to_global n) v p h s more = demand v (λ w. write (16 + n) w s more)
  assigned r (R.to_contents e) v p h s more =
      reach p (h + 1) s (λ t. bind (r.evaluate e p (h + 1) t) (λ a u. demand v (λ w. demand a (λ b. write b w u more))))
  assigned r (R.to_index a b) v p h s more =
      reach p (h + 1) s (λ t.
      bind (r.evaluate a p (h + 1) t) (λ x u.
      reach p (h + 2) u (λ y.
      bind (r.evaluate b p (h + 2) y) (λ z q.
      demand v (λ w. demand x (λ m. demand z (λ n. write (add m n) w q more)))))))

  unfoldable pub assigned_all : Sem → Pairs → (p h : ℕ) → State → Result Flow
  assigned_all r R.no_pairs p h s = ok normal s
  assigned_all r (R.pair t e ps) p h s = bind (r.evaluate e p h s) (λ v u. assigned r t v p h u (λ w. assigned_all r ps p h w))

  -- ---- declarations and commands

  -- each name given its word is a step
  unfoldable pub declared : Sem → Locals → (p h : ℕ) → State → (State → Result Flow) → Result Flow
  declared r R.no_locals p h s more = more s
  declared r (R.vector n ls) p h s more =
      reach p (h + 2 + n) (put (p + h) (holds (p + h + 1)) (vector_words (p + h + 1) n (step s))) (λ t. declared r ls p (h + 2 + n) t more)
  declared r (R.value e ls) p h s more =
      bind (r.evaluate e p h s) (λ v t. demand v (λ w. reach p (h + 1) (put (p + h) (holds w) (step t)) (λ u. declared r ls p (h + 1) u more)))

  -- a command begun is a step; a REPEAT form, and a call command, whose call counts, add none
  unfoldable pub executed : Sem → Cmd → (p h : ℕ) → State → Result Flow
  executed r R.empty p h s = ok normal s
  executed r (R.assign ps) p h s = assigned_all r ps p h (step s)
  executed r (R.perform e) p h s = bind (r.evaluate e p h s) (λ v t. ok normal t)
  executed r (R.test e c d) p h s = tested r e p h (step s) (λ b t. cond b (r.run c p h t) (r.run d p h t))
  executed r (R.when sense e c) p h s = tested r e p h (step s) (λ b t. cond (same sense b) (r.run c p h t) (ok normal t))
  executed r (R.while sense e c) p h s = r.turn (whiling sense e c) p h (step s)
  executed r (R.repeat c) p h s = r.turn (repeating c) p h s
  executed r (R.repeat_while sense c e) p h s = r.turn (repeating_while sense c e) p h s
  -- FOR evaluates its limit once
  executed r (R.for first limit by c) p h s =
      bind (r.evaluate first p h (step s)) (λ v t.
      demand v (λ i.
      reach p (h + 1) (put (p + h) (holds i) (step t)) (λ u.
      bind (r.evaluate limit p (h + 1) u) (λ w x.
      demand w (λ m. reach p (h + 2) x (λ y. leaving (p + h) (r.turn (counting m by c) p h y)))))))
  executed r (R.switch e cs) p h s =
      bind (r.evaluate e p h (step s)) (λ v t. demand v (λ w. bind (cases r (selected w cs) p h t) (λ f u. ok (after_switch f) u)))
  executed r (R.resultis e) p h s = bind (r.evaluate e p h (step s)) (λ v t. ok (gave v) t)
  executed r R.break p h s = ok broke (step s)
  executed r R.loop p h s = ok looped (step s)
  executed r R.endcase p h s = ok ended (step s)
  executed r R.return p h s = returned (step s)
  executed r R.finish p h s = finished (step s)
  executed r (R.block ls cs) p h s = leaving (p + h) (declared r ls p h (step s) (λ t. sequence r cs p (height_with h ls) t))

-- ---- the run of a program's functions with a placement, in a memory of so many words, on an input

module _ (functions : List Fun) (memory : ℕ) where
  abbrev pub enter_at : Sem → Option ℕ → (base : ℕ) → List ℕ → State → Result Value
  enter_at r none base vs s = undefined
  enter_at r (some k) base vs s = enter memory r (get_or functions k no_fun) base vs s

module _ (functions : List Fun) (place : Placement) (memory : ℕ) (input : List ℕ) where
  -- a call of a number: 3 is RDCH, 5 is WRCH, else it is a function's entry
  unfoldable pub called : Sem → (callee base : ℕ) → List ℕ → State → Result Value
  called r v base vs s =
      cond (eqb v 3) (reach memory base 2 s (received input))
      (cond (eqb v 5) (reach memory base 3 s (sent (nth vs 0)))
      (enter_at functions memory r (position_of v place.entries 0) base vs s))

  -- ---- expressions: each counts a step, and so does each of its parts

  unfoldable pub evaluated : Sem → Expr → (p h : ℕ) → State → Result Value
  evaluated r (R.constant v) p h s = ok (word v) s
  evaluated r (R.local k) p h s = read (p + k) s
  evaluated r (R.global n) p h s = read (16 + n) s
  evaluated r (R.function k) p h s = ok (word (get_or place.entries k 0)) s
  evaluated r (R.string k) p h s = ok (word (get_or place.strings k 0)) s
  evaluated r (R.address_of_local k) p h s = ok (word (p + k)) s
  evaluated r (R.address_of_global n) p h s = ok (word (16 + n)) s
  evaluated r (R.address_of_contents e) p h s = bind (r.evaluate e p h s) (λ v t. demand v (λ a. ok (word a) t))
  evaluated r (R.address_of_index a b) p h s = two memory r a b p h s (λ v w t. ok (word (add v w)) t)
  evaluated r (R.contents e) p h s = bind (r.evaluate e p h s) (λ v t. demand v (λ a. read a t))
  evaluated r (R.index a b) p h s = two memory r a b p h s (λ v w t. read (add v w) t)
  evaluated r (R.unary o e) p h s = bind (r.evaluate e p h s) (λ v t. demand v (λ w. ok (word (apply_monadic o w)) t))
  evaluated r (R.binary o a b) p h s = two memory r a b p h s (λ v w t. or_undefined (apply_dyadic o v w) t)
  -- arguments, then the function, evaluated above them; the frame is put at the height
  evaluated r (R.call e es) p h s =
      reach memory p (h + 2) s (λ t.
      arguments memory r es p (h + 2) t (λ vs u.
      bind (r.evaluate e p (h + 2 + count es) u) (λ v w.
      demand_all vs [] (λ ws. demand v (λ a. called r a (p + h) ws w)))))
  evaluated r (R.valof c) p h s = bind (r.run c p h s) value_of

  unfoldable pub sem : (fuel : ℕ) → Sem
  sem zero = record { evaluate = λ e p h s. unfinished; run = λ c p h s. unfinished; turn = λ l p h s. unfinished }
  sem (suc n) =
      record {
        evaluate = λ e p h s. evaluated (sem n) e p h (step s);
        run = λ c p h s. executed memory (sem n) c p h s;
        turn = λ l p h s. turned (sem n) l p h s;
      }
