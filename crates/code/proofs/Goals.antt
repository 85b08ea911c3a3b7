-- What the simulation says of each kind of part, and what it rests on: the functions' code, RDCH and WRCH in place.
use Rattle.laws.proofs.Basics.{ℕ, suc, ◌+◌, ◌<◌, ◌≤◌, ◌≡◌, List, [], ◌∷◌, ◌++◌, Bool, some, length, get_or}
use Rattle.items.specs.Item.{Item, label}
use Rattle.language.specs.Resolved as R
use Rattle.language.specs.Resolved.{Expr, Cmd}
use Rattle.language.specs.State.{gone, Value, State, step}
use Rattle.language.specs.Run.{Flow, normal, broke, looped, ended, gave, Loop, whiling, repeating, repeating_while, counting, Sem, position_of}
use Rattle.language.specs.Run.{no_fun}
use Rattle.code.specs.Generate.{Exits, in_loop, expr_code, cmd_code, body_code, X, LIP, A, SP, FL, JL, limit_act}
use Rattle.code.proofs.Results.{Has}
use Rattle.code.proofs.Machine.{Mach}
use Rattle.code.proofs.Standing.{Env, Code}
use Rattle.code.proofs.Related.{Rel, Runs}
use Rattle.code.proofs.Steps.{Sized}
use Rattle.language.proofs.Formed.{FormedE, FormedC, FormedF}

-- a FOR's code from its test on, with labels n, n + 1 and n + 2, and its body's from n'
abbrev pub for_code : (strings h n n' : ℕ) → Exits → (by : ℕ) → Cmd → List Item
for_code strings h n n' x by c = label n ∷ LIP h ∷ LIP (h + 1) ∷ X (limit_act by) ∷ FL (n + 2) ∷ cmd_code strings (h + 2) n' (in_loop (n + 1) (n + 2) x) c
    ++ (label (n + 1) ∷ LIP h ∷ A by ∷ SP h ∷ JL n ∷ label (n + 2) ∷ [])

module _ (Γ : Env) where
  abbrev pub F : ℕ
  F = length Γ.functions

  abbrev pub S : ℕ
  S = length Γ.place.strings

  -- a function's code at its entry
  pub record Entered (v k : ℕ) : Type 0 where
    pub labels : ℕ
    pub end : ℕ
    pub code : Code Γ v (body_code (suc F) (2 + (get_or Γ.functions k no_fun).parameters) labels (get_or Γ.functions k no_fun).body ++ (X 4 ∷ [])) end
    pub formed : FormedF F S (2 + (get_or Γ.functions k no_fun).parameters) (get_or Γ.functions k no_fun).body

  pub record Fits : Type 0 where
    pub sized : Sized Γ
    pub entered : (v k : ℕ) → position_of v Γ.place.entries 0 ≡ some k → Entered v k
    pub functions : (k : ℕ) → k < F → Γ.lab (suc k) ≡ get_or Γ.place.entries k 0
    pub strings : (k : ℕ) → k < S → Γ.lab (suc F + k) ≡ get_or Γ.place.strings k 0
    pub rdch : (b : ℕ) × Code Γ 3 (X 27 ∷ X 4 ∷ []) b
    pub wrch : (b : ℕ) × Code Γ 5 (LIP 2 ∷ X 28 ∷ X 4 ∷ []) b

  -- the value is in A, and C at the end
  pub record Valued (b : ℕ) (x : Value) (v : Mach) : Type 0 where
    pub at : v.regs.c ≡ b
    pub has : Has x v.regs.a

  -- where a command's end leaves C
  pub data Where (b : ℕ) (x : Exits) : Flow → Mach → Type 0 where
    w-normal : {v : Mach} → v.regs.c ≡ b → Where b x normal v
    w-broke : {v : Mach} → 1 ≤ x.break → v.regs.c ≡ Γ.lab x.break → Where b x broke v
    w-looped : {v : Mach} → 1 ≤ x.loop → v.regs.c ≡ Γ.lab x.loop → Where b x looped v
    w-ended : {v : Mach} → 1 ≤ x.endcase → v.regs.c ≡ Γ.lab x.endcase → Where b x ended v
    w-gave : {v : Mach} {y : Value} → 1 ≤ x.result → v.regs.c ≡ Γ.lab x.result → Has y v.regs.a → Where b x (gave y) v

  -- where a loop stands before a turn
  pub data Turning (x : Exits) (p h a b : ℕ) (s : State) (v : Mach) : Loop → Type 0 where
    at-while : (n : ℕ) {sense : Bool} {e : Expr} {c : Cmd} → Code Γ a (cmd_code (suc F) h n x (R.while sense e c)) b
        → FormedC F S h (R.while sense e c)
        → Turning x p h a b s v (whiling sense e c)
    at-repeat : (n : ℕ) {c : Cmd} → Code Γ a (cmd_code (suc F) h n x (R.repeat c)) b → FormedC F S h (R.repeat c) → Turning x p h a b s v (repeating c)
    at-repeat_while : (n : ℕ) {sense : Bool} {e : Expr} {c : Cmd} → Code Γ a (cmd_code (suc F) h n x (R.repeat_while sense c e)) b
        → FormedC F S h (R.repeat_while sense c e) → Turning x p h a b s v (repeating_while sense c e)
    at-for : (n n' : ℕ) {limit by : ℕ} {c : Cmd} → Code Γ a (for_code (suc F) h n n' x by c) b → FormedC F S (h + 2) c
        → s.cells (p + (h + 1)) ≡ gone → get_or v.mem (p + (h + 1)) 0 ≡ limit → Turning x p h a b s v (counting limit by c)

  -- a FOR keeps two words, and its last test is counted with what stands around it
  abbrev pub inner : Loop → ℕ → ℕ
  inner (whiling sense e c) h = h
  inner (repeating c) h = h
  inner (repeating_while sense c e) h = h
  inner (counting limit by c) h = h + 2

  abbrev pub last_test : Loop → ℕ
  last_test (whiling sense e c) = 0
  last_test (repeating c) = 0
  last_test (repeating_while sense c e) = 0
  last_test (counting limit by c) = 4

  pub record Sims (q : Sem) : Type 0 where
    pub evaluate : (e : Expr) (n : ℕ) {p h a b : ℕ} {s : State} {v : Mach} → Code Γ a (expr_code (suc F) h n e) b → FormedE F S h e
        → v.regs.c ≡ a → Rel Γ p h s v → Runs Γ (Valued b) 6 p h h (step s) v (q.evaluate e p h s)
    pub run : (c : Cmd) (n : ℕ) {p h a b : ℕ} {x : Exits} {s : State} {v : Mach} → Code Γ a (cmd_code (suc F) h n x c) b → FormedC F S h c
        → v.regs.c ≡ a → Rel Γ p h s v → Runs Γ (Where b x) 0 p h h s v (q.run c p h s)
    pub turn : (l : Loop) {p h a b : ℕ} {x : Exits} {s : State} {v : Mach} → Turning x p h a b s v l
        → v.regs.c ≡ a → Rel Γ p (inner l h) s v → Runs Γ (Where b x) (last_test l) p (inner l h) (inner l h) s v (q.turn l p h s)
