-- The relation between a state of the source run and one of the machine, and runs of the machine that keep it.
-- A run starts at a height h, below which words that are gone are kept, and ends at a height h', above which all words are gone.
use Rattle.laws.proofs.Basics.{ℕ, ◌+◌, ◌*◌, ◌<◌, ◌≤◌, ◌≡◌, refl, sym, ◌∙◌, List, true, false, length, get_or, set, length-set, get_or-set_same}
use Rattle.laws.proofs.Basics.{get_or-set_other, leb, arith, eq-eqb, ne_eqb, leb-true, le-leb}
use Rattle.laws.proofs.Cases.{by_order, by_equal, by_cond, contradiction}
use Rattle.items.specs.Item as I
use Rattle.machine.specs.State as M
use Rattle.language.specs.State.{Cell, gone, holds, State, Result, ok, bind, step, put, forget}
use Rattle.language.specs.Run.{reach}
use Rattle.code.proofs.Results.{Post, p-unfinished, p-ok, p-returned, p-finished, p-undefined, post-map, post-bind, post-cond, Live}
use Rattle.code.proofs.Results.{live-unset, live-holds}
use Rattle.code.proofs.Machine.{Mach, Leads, leads-not, leads-on}
use Rattle.code.proofs.Standing.{Env, Agree, At}
use Rattle.code.proofs.Instructions.{with_mem}

pub gone-holds : {c : Cell} {v : ℕ} → c ≡ gone → c ≡ holds v → ⊥
gone-holds e f = contradiction cc

pub gone-live : {c : Cell} → Live c → c ≡ gone → ⊥
gone-live live-unset e = contradiction cc
gone-live live-holds e = contradiction cc

-- ---- cells forgotten

pub forget-above : (base : ℕ) (s : State) (a : ℕ) → base ≤ a → (forget base s).cells a ≡ gone
forget-above base s a l = rw (le-leb base a l) refl

pub forget-gone : (base : ℕ) (s : State) (a : ℕ) → s.cells a ≡ gone → (forget base s).cells a ≡ gone
forget-gone base s a g = by_cond (λ c. c ≡ gone) (leb base a) refl g

pub forget-holds : (base : ℕ) (s : State) (a w : ℕ) → (forget base s).cells a ≡ holds w → s.cells a ≡ holds w
forget-holds base s a w g = by_cond (λ c. c ≡ holds w → s.cells a ≡ holds w) (leb base a) (λ e. cc) (λ e. e) g

-- the same state but for its greatest use
pub record Like (s u : State) : Type 0 where
  pub cells : (a : ℕ) → u.cells a ≡ s.cells a
  pub taken : u.taken ≡ s.taken
  pub output : u.output ≡ s.output
  pub steps : u.steps ≡ s.steps

module _ (Γ : Env) where
  pub record Rel (p h : ℕ) (s : State) (v : Mach) : Type 0 where
    pub agree : Agree Γ v.mem
    pub frame_at : v.regs.p ≡ p
    pub globals-at : v.regs.g ≡ 16
    pub room : p + h ≤ Γ.limit
    pub base : (x : ℕ) → Γ.is_code x ≡ true → x < p
    pub vals : (a w : ℕ) → s.cells a ≡ holds w → get_or v.mem a 0 ≡ w
    pub above : (a : ℕ) → p + h ≤ a → s.cells a ≡ gone
    pub code-gone : (a : ℕ) → Γ.is_code a ≡ true → s.cells a ≡ gone
    pub bytes : v.bytes ≡ s.output
    pub taken : v.regs.taken ≡ s.taken

  -- within t instructions over 16 a step
  pub record Sim (t p h h' : ℕ) (s : State) (v : Mach) (s' : State) (v' : Mach) : Type 0 where
    pub n : ℕ
    pub goes : Leads Γ.input n v v'
    pub rel : Rel p h' s' v'
    pub keep : (a : ℕ) → a < p + h → s.cells a ≡ gone → s'.cells a ≡ gone
    pub frame : (a : ℕ) → a < p + h → s.cells a ≡ gone → get_or v'.mem a 0 ≡ get_or v.mem a 0
    pub time : n + 16 * s.steps ≤ t + 16 * s'.steps

  -- to a return of the function
  pub record Leaves (t p h : ℕ) (s : State) (v : Mach) (s' : State) : Type 0 where
    pub h' : ℕ
    pub v' : Mach
    pub sim : Sim t p h h' s v s' v'
    pub past : ℕ
    pub return : At Γ v'.regs.c 7 false I.none 4 past

  -- to a finish
  pub record Ends (t : ℕ) (s : State) (v : Mach) (s' : State) : Type 0 where
    pub v' : Mach
    pub n : ℕ
    pub goes : Leads Γ.input n v v'
    pub past : ℕ
    pub finish : At Γ v'.regs.c 7 false I.none 22 past
    pub agree : Agree Γ v'.mem
    pub vals : (a w : ℕ) → s'.cells a ≡ holds w → get_or v'.mem a 0 ≡ w
    pub bytes : v'.bytes ≡ s'.output
    pub taken : v'.regs.taken ≡ s'.taken
    pub time : n + 16 * s.steps ≤ t + 16 * s'.steps

  -- to a result, where Q holds of it and the machine
  pub record Reached {A : Type 0} (Q : A → Mach → Type 0) (t p h h' : ℕ) (s : State) (v : Mach) (a : A) (s' : State) : Type 0 where
    pub v' : Mach
    pub sim : Sim t p h h' s v s' v'
    pub is : Q a v'

  abbrev pub Runs : {A : Type 0} → (A → Mach → Type 0) → (t p h h' : ℕ) → State → Mach → Result A → Type 0
  Runs Q t p h h' s v x = Post (Reached Q t p h h' s v) (Leaves t p h s v) (Ends t s v) x

  -- ---- one run after another

  pub seq_sim : {t t' p h h₁ h₂ h₃ : ℕ} {s s₁ s₂ : State} {v v₁ v₂ : Mach} → h ≤ h₁
      → Sim t p h₁ h₂ s v s₁ v₁ → Sim t' p h h₃ s₁ v₁ s₂ v₂ → Sim (t + t') p h h₃ s v s₂ v₂
  seq_sim l x y = record {
    n = _;
    goes = leads-on Γ.input x.goes y.goes;
    rel = y.rel;
    keep = λ a k g. y.keep a k (x.keep a (omega arith) g);
    frame = λ a k g. y.frame a k (x.keep a (omega arith) g) ∙ x.frame a (omega arith) g;
    time = omega (arith, x.time, y.time);
  }

  seq-leaves : {t t' p h h₁ h₂ : ℕ} {s s₁ s₂ : State} {v v₁ : Mach} → h ≤ h₁
      → Sim t p h₁ h₂ s v s₁ v₁ → Leaves t' p h s₁ v₁ s₂ → Leaves (t + t') p h s v s₂
  seq-leaves l x y = record { h' = y.h'; v' = y.v'; sim = seq_sim l x y.sim; past = y.past; return = y.return }

  -- the same end, of a run that starts earlier and within other bounds
  pub ends-from : {t t' k : ℕ} {s u s' : State} {v₀ v : Mach} → Leads Γ.input k v₀ v
      → ((n m : ℕ) → n + 16 * u.steps ≤ t + 16 * m → k + n + 16 * s.steps ≤ t' + 16 * m) → Ends t u v s' → Ends t' s v₀ s'
  ends-from g f e = record {
    v' = e.v';
    n = _;
    goes = leads-on Γ.input g e.goes;
    past = e.past;
    finish = e.finish;
    agree = e.agree;
    vals = e.vals;
    bytes = e.bytes;
    taken = e.taken;
    time = f _ _ e.time;
  }

  -- a run to a finish
  pub at-finish : {t p h n past : ℕ} {s s' : State} {v v' : Mach} → Leads Γ.input n v v' → Rel p h s' v'
      → At Γ v'.regs.c 7 false I.none 22 past → n + 16 * s.steps ≤ t + 16 * s'.steps → Ends t s v s'
  at-finish {n = n} {past = past} {v' = v'} g r i l = record {
    v' = v';
    n = n;
    goes = g;
    past = past;
    finish = i;
    agree = r.agree;
    vals = r.vals;
    bytes = r.bytes;
    taken = r.taken;
    time = l;
  }

  pub more-ends : {t t' : ℕ} {s s' : State} {v : Mach} → Ends t s v s' → t ≤ t' → Ends t' s v s'
  more-ends {v = v} e l = ends-from (leads-not Γ.input v) (λ n m k. omega arith) e

  pub after : {A : Type 0} {Q : A → Mach → Type 0} {t t' p h h₁ h₂ h₃ : ℕ} {s s₁ : State} {v v₁ : Mach} {x : Result A} → h ≤ h₁
      → Sim t p h₁ h₂ s v s₁ v₁ → Runs Q t' p h h₃ s₁ v₁ x → Runs Q (t + t') p h h₃ s v x
  after l y z = post-map z (λ a s e. record { v' = e.v'; sim = seq_sim l y e.sim; is = e.is }) (λ s e. seq-leaves l y e)
      (λ s e. ends-from y.goes (λ n m k. omega (arith, y.time)) e)

  -- ---- fewer instructions, and a lower start

  abbrev Looser : (t t' p h h₁ : ℕ) (s u : State) → Type 0
  Looser t t' p h h₁ s u =
      (h ≤ h₁) × ((n m : ℕ) → n + 16 * u.steps ≤ t + 16 * m → n + 16 * s.steps ≤ t' + 16 * m) × ((a : ℕ) → u.cells a ≡ s.cells a)

  loose-sim : {t t' p h h₁ h₂ : ℕ} {s u s' : State} {v v' : Mach} → Looser t t' p h h₁ s u → Sim t p h₁ h₂ u v s' v' → Sim t' p h h₂ s v s' v'
  loose-sim {h = h} {h₁ = h₁} q x = record {
    n = _;
    goes = x.goes;
    rel = x.rel;
    keep = λ a k g. let l : h ≤ h₁ = q.0 in x.keep a (omega arith) (q.2 a ∙ g);
    frame = λ a k g. let l : h ≤ h₁ = q.0 in x.frame a (omega arith) (q.2 a ∙ g);
    time = q.1 _ _ x.time;
  }

  loose-leaves : {t t' p h h₁ : ℕ} {s u s' : State} {v : Mach} → Looser t t' p h h₁ s u → Leaves t p h₁ u v s' → Leaves t' p h s v s'
  loose-leaves q e = record { h' = e.h'; v' = e.v'; sim = loose-sim q e.sim; past = e.past; return = e.return }

  loose : {A : Type 0} {Q : A → Mach → Type 0} {t t' p h h₁ h₂ : ℕ} {s u : State} {v : Mach} {x : Result A} → Looser t t' p h h₁ s u
      → Runs Q t p h₁ h₂ u v x → Runs Q t' p h h₂ s v x
  loose {v = v} q z = post-map z (λ a s e. record { v' = e.v'; sim = loose-sim q e.sim; is = e.is }) (λ s e. loose-leaves q e)
      (λ s e. ends-from (leads-not Γ.input v) (λ n m k. omega (arith, q.1 n m k)) e)

  pub weaken : {A : Type 0} {Q : A → Mach → Type 0} {t t' p h h₂ : ℕ} {s : State} {v : Mach} {x : Result A}
      → Runs Q t p h h₂ s v x → t ≤ t' → Runs Q t' p h h₂ s v x
  weaken z l = loose (omega arith, (λ n m k. omega arith), (λ a. refl)) z

  -- one step of the source more allows 16 instructions more
  pub in-a-step : {A : Type 0} {Q : A → Mach → Type 0} {t p h h₂ : ℕ} {s : State} {v : Mach} {x : Result A}
      → Runs Q t p h h₂ (step s) v x → t ≤ 16 → Runs Q 0 p h h₂ s v x
  in-a-step z l = loose (omega arith, (λ n m k. omega arith), (λ a. refl)) z

  pub lower : {A : Type 0} {Q : A → Mach → Type 0} {t p h h₁ h₂ : ℕ} {s : State} {v : Mach} {x : Result A} → h ≤ h₁
      → Runs Q t p h₁ h₂ s v x → Runs Q t p h h₂ s v x
  lower l z = loose (l, (λ n m k. k), (λ a. refl)) z

  like-runs : {A : Type 0} {Q : A → Mach → Type 0} {t p h h₂ : ℕ} {s u : State} {v : Mach} {x : Result A} → Like s u
      → Runs Q t p h h₂ u v x → Runs Q t p h h₂ s v x
  like-runs q z = loose (omega arith, (λ n m k. omega (arith, q.steps)), q.cells) z

  -- ---- results of parts

  pub then : {A B : Type 0} {Q : A → Mach → Type 0} {Q' : B → Mach → Type 0} {t t' p h h₁ h₂ h₃ : ℕ} {s : State} {v : Mach} {x : Result A}
      {f : A → State → Result B} → h ≤ h₁ → Runs Q t p h₁ h₂ s v x
      → ((a : A) (s₁ : State) (v₁ : Mach) → Sim t p h₁ h₂ s v s₁ v₁ → Q a v₁ → Runs Q' t' p h h₃ s₁ v₁ (f a s₁))
      → Runs Q' (t + t') p h h₃ s v (bind x f)
  then l z g = post-bind z (λ a s₁ e. after l e.sim (g a s₁ e.v' e.sim e.is))
      (λ s₁ e. loose-leaves (l, (λ n m k. omega arith), (λ a. refl)) e) (λ s₁ e. more-ends e (omega arith))

  -- the same where nothing more is run
  pub ending : {A : Type 0} {Q Q' : A → Mach → Type 0} {t t' p h h₁ h₂ h₃ : ℕ} {s : State} {v : Mach} {x : Result A} → h ≤ h₁
      → Runs Q t p h₁ h₂ s v x → ((a : A) (s₁ : State) (v₁ : Mach) → Sim t p h₁ h₂ s v s₁ v₁ → Q a v₁ → Runs Q' t' p h h₃ s₁ v₁ (ok a s₁))
      → Runs Q' (t + t') p h h₃ s v x
  ending l p-unfinished g = p-unfinished
  ending l p-undefined g = p-undefined
  ending l (p-finished e) g = p-finished (more-ends e (omega arith))
  ending l (p-returned e) g = p-returned (loose-leaves (l, (λ n m k. omega arith), (λ a. refl)) e)
  ending l (p-ok e) g = after l e.sim (g _ _ e.v' e.sim e.is)

  pub stay : {p h : ℕ} {s : State} {v : Mach} → Rel p h s v → Sim 0 p h h s v s v
  stay {v = v} r = record { n = 0; goes = leads-not Γ.input v; rel = r; keep = λ a l g. g; frame = λ a l g. refl; time = omega arith }

  -- over, here
  pub over : {A : Type 0} {Q : A → Mach → Type 0} {p h₀ h : ℕ} {s : State} {v : Mach} {a : A} → h₀ ≤ h → Rel p h s v → Q a v
      → Runs Q 0 p h₀ h s v (ok a s)
  over {v = v} l r q = p-ok (record { v' = v; sim = loose-sim (l, (λ n m k. k), (λ a. refl)) (stay r); is = q })

  -- ---- heights

  -- other cells, beside the same machine
  with-cells : {p h h' : ℕ} {s s' : State} {v : Mach} → Rel p h s v → p + h' ≤ Γ.limit → ((a w : ℕ) → s'.cells a ≡ holds w → get_or v.mem a 0 ≡ w)
      → ((a : ℕ) → p + h' ≤ a → s'.cells a ≡ gone) → ((a : ℕ) → Γ.is_code a ≡ true → s'.cells a ≡ gone)
      → s'.output ≡ s.output → s'.taken ≡ s.taken → Rel p h' s' v
  with-cells r room vals above code eo et = record {
    agree = r.agree;
    frame_at = r.frame_at;
    globals-at = r.globals-at;
    room = room;
    base = r.base;
    vals = vals;
    above = above;
    code-gone = code;
    bytes = r.bytes ∙ sym eo;
    taken = r.taken ∙ sym et;
  }

  pub like-rel : {p h : ℕ} {s u : State} {v : Mach} → Like s u → Rel p h s v → Rel p h u v
  like-rel q r =
      with-cells r r.room (λ a w g. r.vals a w (sym (q.cells a) ∙ g)) (λ a l. q.cells a ∙ r.above a l) (λ a l. q.cells a ∙ r.code-gone a l)
      q.output q.taken

  pub ticked : {p h : ℕ} {s : State} {v : Mach} → Rel p h s v → Rel p h (step s) v
  ticked r = with-cells r r.room r.vals r.above r.code-gone refl refl

  -- a greater height
  pub raise : {p h h' : ℕ} {s : State} {v : Mach} → Rel p h s v → h ≤ h' → p + h' ≤ Γ.limit → Rel p h' s v
  raise r l k = with-cells r k r.vals (λ a j. r.above a (omega arith)) r.code-gone refl refl

  -- and back, after a run at the greater one
  pub sink-rel : {p h h' : ℕ} {s s' : State} {v v' : Mach} → Rel p h s v → h ≤ h' → Rel p h' s' v'
      → ((a : ℕ) → a < p + h' → s.cells a ≡ gone → s'.cells a ≡ gone) → Rel p h s' v'
  sink-rel {p} {h} {h'} {s} {s'} r l x keep =
      with-cells x (omega (arith, x.room)) x.vals (λ a k. by_order a (p + h') (λ m. keep a m (r.above a k)) (λ m. x.above a m))
      x.code-gone refl refl

  pub sink : {t p h h' : ℕ} {s s' : State} {v v' : Mach} → Rel p h s v → h ≤ h' → Sim t p h' h' s v s' v' → Rel p h s' v'
  sink r l x = sink-rel r l x.rel x.keep

  -- the height reached, in any frame and in this one
  pub reaching-in : {A : Type 0} {Q : A → Mach → Type 0} {t p h h₂ : ℕ} {s : State} {v : Mach} (base k : ℕ) (more : State → Result A)
      → ((u : State) → Like s u → base + k ≤ Γ.limit → Runs Q t p h h₂ u v (more u))
      → Runs Q t p h h₂ s v (reach Γ.limit base k s more)
  reaching-in base k more f = post-cond (leb (base + k) Γ.limit)
      (λ e. let q : Like _ _ = record { cells = λ a. refl; taken = refl; output = refl; steps = refl } in like-runs q
      (f _ q (leb-true (base + k) Γ.limit e))) (λ e. p-undefined)

  pub reaching : {A : Type 0} {Q : A → Mach → Type 0} {t p h h₂ : ℕ} {s : State} {v : Mach} (k : ℕ) (more : State → Result A)
      → ((u : State) → Like s u → p + k ≤ Γ.limit → Runs Q t p h h₂ u v (more u))
      → Runs Q t p h h₂ s v (reach Γ.limit p k s more)
  reaching {p = p} k more f = reaching-in p k more f

  -- the same, where the run is told from an earlier state
  pub reaching-on : {A : Type 0} {Q : A → Mach → Type 0} {t p h h₂ : ℕ} {s s' : State} {v : Mach} (base k : ℕ) (more : State → Result A)
      → ((u : State) → Like s' u → base + k ≤ Γ.limit → Runs Q t p h h₂ s v (more u))
      → Runs Q t p h h₂ s v (reach Γ.limit base k s' more)
  reaching-on base k more f = post-cond (leb (base + k) Γ.limit)
      (λ e. f _ (record { cells = λ a. refl; taken = refl; output = refl; steps = refl }) (leb-true (base + k) Γ.limit e)) (λ e. p-undefined)

  -- ---- scopes

  -- new words, from the height on, are live
  pub open-scope : {p h h' : ℕ} {s u : State} {v : Mach} → Rel p h s v → p + h' ≤ Γ.limit → h ≤ h'
      → ((a : ℕ) → a < p + h → u.cells a ≡ s.cells a) → ((a w : ℕ) → p + h ≤ a → u.cells a ≡ holds w → get_or v.mem a 0 ≡ w)
      → ((a : ℕ) → p + h' ≤ a → u.cells a ≡ gone) → u.output ≡ s.output → u.taken ≡ s.taken → s.steps ≤ u.steps → Sim 0 p h h' s v u v
  open-scope {p} {h} {h'} {s} {u} {v} r l k same vals above eo et es = record {
    n = 0;
    goes = leads-not Γ.input v;
    rel = with-cells r l (λ a w g. by_order a (p + h) (λ j. r.vals a w (sym (same a j) ∙ g)) (λ j. vals a w j g)) above
        (λ a c. same a (omega (arith, r.base a c)) ∙ r.code-gone a c) eo et;
    keep = λ a j g. same a j ∙ g;
    frame = λ a j g. refl;
    time = omega arith;
  }

  -- they are live no longer
  pub close-scope : {A : Type 0} {Q : A → Mach → Type 0} {t p h h' : ℕ} {s : State} {v : Mach} {x : Result A} → h ≤ h'
      → Runs Q t p h h' s v x → Runs Q t p h h s v (bind x (λ f u. ok f (forget (p + h) u)))
  close-scope {t = t} {p = p} {h = h} {h' = h'} {s = s} {v = v} l z =
      post-bind z (λ a s₁ e. p-ok (record { v' = e.v'; sim = shut s₁ e.v' e.sim; is = e.is })) (λ s₁ e. e) (λ s₁ e. e)
    where
      shut : (s₁ : State) (v₁ : Mach) → Sim t p h h' s v s₁ v₁ → Sim t p h h s v (forget (p + h) s₁) v₁
      shut s₁ v₁ x = record {
        n = _;
        goes = x.goes;
        rel = with-cells x.rel (omega (arith, x.rel.room)) (λ a w g. x.rel.vals a w (forget-holds (p + h) s₁ a w g)) (forget-above (p + h) s₁)
            (λ a k. forget-gone (p + h) s₁ a (x.rel.code-gone a k)) refl refl;
        keep = λ a k g. forget-gone (p + h) s₁ a (x.keep a k g);
        frame = x.frame;
        time = x.time;
      }

  -- a cell that is live lies below the height
  pub live_below : {p h : ℕ} {s : State} {v : Mach} → Rel p h s v → (a : ℕ) → (s.cells a ≡ gone → ⊥) → a < p + h
  live_below {p} {h} r a n = by_order a (p + h) (λ l. l) (λ k. absurd (n (r.above a k)))

  -- ---- instructions

  -- one that leaves memory, P and G alone, where input or output go on
  pub spoken : {p h : ℕ} {s s' : State} {v v' : Mach} → Rel p h s v → Leads Γ.input 1 v v'
      → v'.mem ≡ v.mem → v'.regs.p ≡ v.regs.p → v'.regs.g ≡ v.regs.g → v'.regs.taken ≡ s'.taken → v'.bytes ≡ s'.output
      → ((a : ℕ) → s'.cells a ≡ s.cells a) → s'.steps ≡ s.steps → Sim 1 p h h s v s' v'
  spoken r e em ep eg et eb ec es = record {
    n = _;
    goes = e;
    rel = record {
      agree = rw em r.agree;
      frame_at = ep ∙ r.frame_at;
      globals-at = eg ∙ r.globals-at;
      room = r.room;
      base = r.base;
      vals = λ a w g. rw em (r.vals a w (sym (ec a) ∙ g));
      above = λ a l. ec a ∙ r.above a l;
      code-gone = λ a l. ec a ∙ r.code-gone a l;
      bytes = eb;
      taken = et;
    };
    keep = λ a l g. ec a ∙ g;
    frame = λ a l g. rw em refl;
    time = omega (arith, es);
  }

  -- and where they do not
  pub quiet : {p h : ℕ} {s : State} {v v' : Mach} → Rel p h s v → Leads Γ.input 1 v v'
      → v'.mem ≡ v.mem → v'.regs.p ≡ v.regs.p → v'.regs.g ≡ v.regs.g → v'.regs.taken ≡ v.regs.taken → v'.bytes ≡ v.bytes
      → Sim 1 p h h s v s v'
  quiet r e em ep eg et eb = spoken r e em ep eg (et ∙ r.taken) (eb ∙ r.bytes) (λ a. refl) refl

  pub agree-set : {m : List ℕ} {a : ℕ} (w : ℕ) → Agree Γ m → ((x : ℕ) → Γ.is_code x ≡ true → x < a) → Agree Γ (set m a w)
  agree-set {m} {a} w g k = record {
    size = length-set m a w ∙ g.size;
    same = λ x c. get_or-set_other m a x w 0 (λ e. omega (arith, k x c)) ∙ g.same x c;
  }

  abbrev pub storing : ℕ → ℕ → Mach → Mach
  storing b a v = with_mem (M.having_stored a 1 (M.with_c b v.regs)) (set v.mem a v.regs.a) v

  -- a store to a word that waits
  pub temp : {p h a b : ℕ} {s : State} {v : Mach} → Rel p h s v → Leads Γ.input 1 v (storing b a v) → p + h ≤ a → Sim 1 p h h s v s (storing b a v)
  temp {p} {h} {a} {b} {s} {v} r e k = record {
    n = _;
    goes = e;
    rel = record {
      agree = agree-set v.regs.a r.agree (λ x c. omega (arith, r.base x c));
      frame_at = r.frame_at;
      globals-at = r.globals-at;
      room = r.room;
      base = r.base;
      vals = λ x w g. get_or-set_other v.mem a x v.regs.a 0 (λ q. gone-holds (r.above x (omega arith)) g) ∙ r.vals x w g;
      above = r.above;
      code-gone = r.code-gone;
      bytes = r.bytes;
      taken = r.taken;
    };
    keep = λ x l g. g;
    frame = λ x l g. get_or-set_other v.mem a x v.regs.a 0 (λ q. omega arith);
    time = omega arith;
  }

  -- one word put anew
  pub put_same : (s : State) (a : ℕ) (c : Cell) → (put a c s).cells a ≡ c
  put_same s a c = rw (eq-eqb a a refl) refl

  pub put_other : (s : State) (a : ℕ) (c : Cell) (x : ℕ) → (x ≡ a → ⊥) → (put a c s).cells x ≡ s.cells x
  put_other s a c x n = rw (ne_eqb x a n) refl

  -- a store to a live word
  pub cell : {p h a b w : ℕ} {s : State} {v : Mach} → Rel p h s v → a < length Γ.image → (s.cells a ≡ gone → ⊥) → v.regs.a ≡ w
      → Leads Γ.input 1 v (storing b a v)
      → Sim 1 p h h s v (put a (holds w) s) (storing b a v)
  cell {p} {h} {a} {b} {w} {s} {v} r la n ew e = record {
    n = _;
    goes = e;
    rel = record {
      agree = record {
        size = length-set v.mem a v.regs.a ∙ r.agree.size;
        same = λ x c. get_or-set_other v.mem a x v.regs.a 0 (λ q. n (rw (← q) (r.code-gone x c))) ∙ r.agree.same x c;
      };
      frame_at = r.frame_at;
      globals-at = r.globals-at;
      room = r.room;
      base = r.base;
      vals = λ x y g. by_equal x a (written x y g)
          (λ q. get_or-set_other v.mem a x v.regs.a 0 q ∙ r.vals x y (sym (put_other s a (holds w) x q) ∙ g));
      above = λ x k. other x (r.above x k);
      code-gone = λ x c. other x (r.code-gone x c);
      bytes = r.bytes;
      taken = r.taken;
    };
    keep = λ x l g. other x g;
    frame = λ x l g. get_or-set_other v.mem a x v.regs.a 0 (λ q. n (rw (← q) g));
    time = omega arith;
  }
    where
      other : (x : ℕ) → s.cells x ≡ gone → (put a (holds w) s).cells x ≡ gone
      other x g = put_other s a (holds w) x (λ q. n (rw (← q) g)) ∙ g

      written : (x y : ℕ) → (put a (holds w) s).cells x ≡ holds y → x ≡ a → get_or (set v.mem a v.regs.a) x 0 ≡ y
      written x y g q = let k : holds w ≡ holds y = sym (put_same s a (holds w)) ∙ (rw q at g) in
          rw q (get_or-set_same v.mem a v.regs.a 0 (omega (arith, r.agree.size)) ∙ (cc))
