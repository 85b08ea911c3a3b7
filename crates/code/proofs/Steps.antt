-- Instructions as runs: what follows gets the machine after one as a variable, with what is known of it.
use Rattle.laws.proofs.Basics.{ℕ, ◌+◌, ◌<◌, ◌≤◌, ◌≡◌, refl, ap, Bool, true, false, cond, length, get_or, get_or-set_same, get_or-set_other, eqb}
use Rattle.laws.proofs.Basics.{arith}
use Rattle.words.specs.Words.{add, neg, complement}
use Rattle.items.specs.Item as I
use Rattle.items.specs.Item.{P, G}
use Rattle.machine.specs.Outcome.{Out}
use Rattle.machine.specs.Outcome as O
use Rattle.machine.specs.Acts.{act_of, dyadic}
use Rattle.machine.specs.declared.Registers.{Registers}
use Rattle.language.specs.State.{holds, State, Result, put}
use Rattle.code.proofs.Results.{Live}
use Rattle.code.proofs.Machine.{Mach, Leads}
use Rattle.code.proofs.Standing.{Env, At, sum_of}
use Rattle.code.proofs.Instructions.{with_regs, do-L, do-LI, do-S, do-SI, do-A, do-AI, do-J, do-T, do-F, do-X1, do-X2, do-X3, do-dyadic}
use Rattle.code.proofs.Instructions.{sum-none, sum-P, sum-G}
use Rattle.code.proofs.Related.{Rel, Runs, after, quiet, temp, cell, live_below, gone-holds, gone-live}

-- the memory has eight words above every frame
pub record Sized (Γ : Env) : Type 0 where
  pub slack : Γ.limit + 8 ≤ length Γ.image
  pub most : length Γ.image ≤ 32768

module _ (Γ : Env) {p h a : ℕ} {s : State} {v : Mach} (r : Rel Γ p h s v) (pc : v.regs.c ≡ a) where
  over-P : (k : ℕ) → p + k < 65536 → sum_of P k v.regs ≡ p + k
  over-P k l = sum-P Γ v r.agree pc k (p + k) (ap (◌+ k) r.frame_at) l

  over-G : (k : ℕ) → 16 + k < 65536 → sum_of G k v.regs ≡ 16 + k
  over-G k l = sum-G Γ v r.agree pc k (16 + k) r.globals-at refl l

module _ (Γ : Env) (sized : Sized Γ) {A : Type 0} {Q : A → Mach → Type 0} {t p h₀ h h₃ a : ℕ} {s : State} {v : Mach} {x : Result A} (le : h₀ ≤ h)
    (r : Rel Γ p h s v) (pc : v.regs.c ≡ a) where
  -- an instruction on A, B and C alone
  only : {g : Registers} → Leads Γ.input 1 v (with_regs g v) → g.p ≡ v.regs.p → g.g ≡ v.regs.g → g.taken ≡ v.regs.taken
      → (Rel Γ p h s (with_regs g v) → Runs Γ Q t p h₀ h₃ s (with_regs g v) x) → Runs Γ Q (1 + t) p h₀ h₃ s v x
  only e ep eg et f = let z = quiet Γ r e refl ep eg et refl in after Γ le z (f z.rel)

  -- L n; LP n; LG n
  pub step-L : {k b : ℕ} → At Γ a 0 false I.none k b → ((w : Mach) → Rel Γ p h s w → w.regs.c ≡ b → w.regs.a ≡ k → Runs Γ Q t p h₀ h₃ s w x)
      → Runs Γ Q (1 + t) p h₀ h₃ s v x
  step-L i f = only (do-L Γ v r.agree pc i (sum-none Γ v r.agree pc i.small)) refl refl refl (λ q. f _ q refl refl)

  pub step-LP : {k b : ℕ} → At Γ a 0 false P k b → p + k < 65536
      → ((w : Mach) → Rel Γ p h s w → w.regs.c ≡ b → w.regs.a ≡ p + k → Runs Γ Q t p h₀ h₃ s w x) → Runs Γ Q (1 + t) p h₀ h₃ s v x
  step-LP {k} i l f = only (do-L Γ v r.agree pc i (over-P Γ r pc k l)) refl refl refl (λ q. f _ q refl refl)

  pub step-LG : {k b : ℕ} → At Γ a 0 false G k b → 16 + k < 65536
      → ((w : Mach) → Rel Γ p h s w → w.regs.c ≡ b → w.regs.a ≡ 16 + k → Runs Γ Q t p h₀ h₃ s w x) → Runs Γ Q (1 + t) p h₀ h₃ s v x
  step-LG {k} i l f = only (do-L Γ v r.agree pc i (over-G Γ r pc k l)) refl refl refl (λ q. f _ q refl refl)

  -- LIP n; LIG n
  pub step-LIP : {k b : ℕ} → At Γ a 0 true P k b → p + k < Γ.limit + 8 → ((w : Mach) → Rel Γ p h s w → w.regs.c ≡ b → w.regs.a ≡ get_or v.mem
      (p + k) 0 → w.regs.b ≡ v.regs.a → w.mem ≡ v.mem → Runs Γ Q t p h₀ h₃ s w x)
      → Runs Γ Q (1 + t) p h₀ h₃ s v x
  step-LIP {k} i l f =
      only (do-LI Γ v r.agree pc i (over-P Γ r pc k (omega (arith, sized))) (omega (arith, sized))) refl refl refl (λ q. f _ q refl refl refl refl)

  pub step-LIG : {k b : ℕ} → At Γ a 0 true G k b → 16 + k < Γ.limit + 8
      → ((w : Mach) → Rel Γ p h s w → w.regs.c ≡ b → w.regs.a ≡ get_or v.mem (16 + k) 0 → Runs Γ Q t p h₀ h₃ s w x)
      → Runs Γ Q (1 + t) p h₀ h₃ s v x
  step-LIG {k} i l f =
      only (do-LI Γ v r.agree pc i (over-G Γ r pc k (omega (arith, sized))) (omega (arith, sized))) refl refl refl (λ q. f _ q refl refl)

  -- SP n, into a word that waits
  pub step-SP : {k b : ℕ} → At Γ a 1 false P k b → h ≤ k → p + k < Γ.limit + 8
      → ((w : Mach) → Rel Γ p h s w → w.regs.c ≡ b → w.regs.a ≡ v.regs.a → get_or w.mem (p + k) 0 ≡ v.regs.a
      → ((y : ℕ) → (y ≡ p + k → ⊥) → get_or w.mem y 0 ≡ get_or v.mem y 0) → Runs Γ Q t p h₀ h₃ s w x) → Runs Γ Q (1 + t) p h₀ h₃ s v x
  step-SP {k} i j l f = let z = temp Γ r (do-S Γ v r.agree pc i (over-P Γ r pc k (omega (arith, sized))) (omega (arith, sized))) (omega arith) in
      after Γ le z (f _ z.rel refl refl (get_or-set_same v.mem (p + k) v.regs.a 0 (omega (arith, sized, r.agree.size)))
      (λ y ne. get_or-set_other v.mem (p + k) y v.regs.a 0 ne))

  -- A n; AIP n
  pub step-A : {k b : ℕ} → At Γ a 2 false I.none k b
      → ((w : Mach) → Rel Γ p h s w → w.regs.c ≡ b → w.regs.a ≡ add v.regs.a k → w.mem ≡ v.mem → Runs Γ Q t p h₀ h₃ s w x)
      → Runs Γ Q (1 + t) p h₀ h₃ s v x
  step-A i f = only (do-A Γ v r.agree pc i (sum-none Γ v r.agree pc i.small)) refl refl refl (λ q. f _ q refl refl refl)

  pub step-AIP : {k b : ℕ} → At Γ a 2 true P k b → p + k < Γ.limit + 8 → ((w : Mach) → Rel Γ p h s w → w.regs.c ≡ b → w.regs.a ≡ add v.regs.a
      (get_or v.mem (p + k) 0) → w.mem ≡ v.mem → Runs Γ Q t p h₀ h₃ s w x) → Runs Γ Q (1 + t) p h₀ h₃ s v x
  step-AIP {k} i l f =
      only (do-AI Γ v r.agree pc i (over-P Γ r pc k (omega (arith, sized))) (omega (arith, sized))) refl refl refl (λ q. f _ q refl refl refl)

  -- J; T and F
  pub step-J : {k b : ℕ} → At Γ a 3 false I.none k b
      → ((w : Mach) → Rel Γ p h s w → w.regs.c ≡ k → w.regs.a ≡ v.regs.a → w.mem ≡ v.mem → Runs Γ Q t p h₀ h₃ s w x)
      → Runs Γ Q (1 + t) p h₀ h₃ s v x
  step-J i f = only (do-J Γ v r.agree pc i) refl refl refl (λ q. f _ q refl refl refl)

  pub step-T : {k b : ℕ} → At Γ a 4 false I.none k b
      → ((w : Mach) → Rel Γ p h s w → w.regs.c ≡ cond (eqb v.regs.a 0) b k → w.mem ≡ v.mem → Runs Γ Q t p h₀ h₃ s w x)
      → Runs Γ Q (1 + t) p h₀ h₃ s v x
  step-T i f = only (do-T Γ v r.agree pc i) refl refl refl (λ q. f _ q refl refl)

  pub step-F : {k b : ℕ} → At Γ a 5 false I.none k b
      → ((w : Mach) → Rel Γ p h s w → w.regs.c ≡ cond (eqb v.regs.a 0) k b → w.mem ≡ v.mem → Runs Γ Q t p h₀ h₃ s w x)
      → Runs Γ Q (1 + t) p h₀ h₃ s v x
  step-F i f = only (do-F Γ v r.agree pc i) refl refl refl (λ q. f _ q refl refl)

  -- a jump by what is wanted: where the value is so, and where not
  pub step-when : {k b : ℕ} (sense : Bool) → At Γ a (cond sense 4 5) false I.none k b
      → ((w : Mach) → Rel Γ p h s w → w.regs.c ≡ cond (eqb v.regs.a 0) (cond sense b k)
      (cond sense k b) → w.mem ≡ v.mem → Runs Γ Q t p h₀ h₃ s w x) → Runs Γ Q (1 + t) p h₀ h₃ s v x
  step-when true i f = step-T i f
  step-when false i f = step-F i f

  pub step-unless : {k b : ℕ} (sense : Bool) → At Γ a (cond sense 5 4) false I.none k b
      → ((w : Mach) → Rel Γ p h s w → w.regs.c ≡ cond (eqb v.regs.a 0) (cond sense k b)
      (cond sense b k) → w.mem ≡ v.mem → Runs Γ Q t p h₀ h₃ s w x) → Runs Γ Q (1 + t) p h₀ h₃ s v x
  step-unless true i f = step-F i f
  step-unless false i f = step-T i f

  -- the value of a cell; X2; X3; a dyadic act
  pub step-X1 : {y w b : ℕ} → At Γ a 7 false I.none 1 b → v.regs.a ≡ y → s.cells y ≡ holds w
      → ((u : Mach) → Rel Γ p h s u → u.regs.c ≡ b → u.regs.a ≡ w → Runs Γ Q t p h₀ h₃ s u x) → Runs Γ Q (1 + t) p h₀ h₃ s v x
  step-X1 {y} {w} i e g f = let l : y < p + h = live_below Γ r y (λ z. gone-holds z g) in
      only (do-X1 Γ v r.agree pc i (omega (arith, r.room, sized))) refl refl refl (λ q. f _ q refl (rw e (r.vals y w g)))

  pub step-X2 : {b : ℕ} → At Γ a 7 false I.none 2 b
      → ((w : Mach) → Rel Γ p h s w → w.regs.c ≡ b → w.regs.a ≡ neg v.regs.a → Runs Γ Q t p h₀ h₃ s w x) → Runs Γ Q (1 + t) p h₀ h₃ s v x
  step-X2 i f = only (do-X2 Γ v r.agree pc i) refl refl refl (λ q. f _ q refl refl)

  pub step-X3 : {b : ℕ} → At Γ a 7 false I.none 3 b
      → ((w : Mach) → Rel Γ p h s w → w.regs.c ≡ b → w.regs.a ≡ complement v.regs.a → Runs Γ Q t p h₀ h₃ s w x)
      → Runs Γ Q (1 + t) p h₀ h₃ s v x
  step-X3 i f = only (do-X3 Γ v r.agree pc i) refl refl refl (λ q. f _ q refl refl)

  pub step-dyadic : {k b y : ℕ} (g : ℕ → ℕ → Out ℕ) → At Γ a 7 false I.none k b → act_of k ≡ dyadic g → g v.regs.b v.regs.a ≡ O.ok y
      → ((w : Mach) → Rel Γ p h s w → w.regs.c ≡ b → w.regs.a ≡ y → w.mem ≡ v.mem → Runs Γ Q t p h₀ h₃ s w x) → Runs Γ Q (1 + t) p h₀ h₃ s v x
  step-dyadic g i e q f = only (do-dyadic Γ v r.agree pc g i e q) refl refl refl (λ q. f _ q refl refl refl)

  -- a store to a live cell: SP n, SG n, SIP n
  pub cell-P : {k b w : ℕ} → At Γ a 1 false P k b → v.regs.a ≡ w → Live (s.cells (p + k))
      → ((u : Mach) → Rel Γ p h (put (p + k) (holds w) s) u → u.regs.c ≡ b
      → ((y : ℕ) → (y ≡ p + k → ⊥) → get_or u.mem y 0 ≡ get_or v.mem y 0) → Runs Γ Q t p h₀ h₃ (put (p + k) (holds w) s) u x)
      → Runs Γ Q (1 + t) p h₀ h₃ s v x
  cell-P {k} i e g f = let l : p + k < p + h = live_below Γ r (p + k) (gone-live g) in
      let m : p + k < length Γ.image = omega (arith, r.room, sized) in
      let z = cell Γ r m (gone-live g) e (do-S Γ v r.agree pc i (over-P Γ r pc k (omega (arith, sized))) m) in
      after Γ le z (f _ z.rel refl (λ y ne. get_or-set_other v.mem (p + k) y v.regs.a 0 ne))

  pub cell-G : {k b w : ℕ} → At Γ a 1 false G k b → v.regs.a ≡ w → Live (s.cells (16 + k))
      → ((u : Mach) → Rel Γ p h (put (16 + k) (holds w) s) u → u.regs.c ≡ b → Runs Γ Q t p h₀ h₃ (put (16 + k) (holds w) s) u x)
      → Runs Γ Q (1 + t) p h₀ h₃ s v x
  cell-G {k} i e g f = let l : 16 + k < p + h = live_below Γ r (16 + k) (gone-live g) in
      let m : 16 + k < length Γ.image = omega (arith, r.room, sized) in
      let z = cell Γ r m (gone-live g) e (do-S Γ v r.agree pc i (over-G Γ r pc k (omega (arith, sized))) m) in
      after Γ le z (f _ z.rel refl)

  pub cell-IP : {k b y w : ℕ} → At Γ a 1 true P k b → v.regs.a ≡ w → p + k < Γ.limit + 8 → get_or v.mem (p + k) 0 ≡ y → Live (s.cells y)
      → ((u : Mach) → Rel Γ p h (put y (holds w) s) u → u.regs.c ≡ b → Runs Γ Q t p h₀ h₃ (put y (holds w) s) u x) → Runs Γ Q (1 + t) p h₀ h₃ s v x
  cell-IP {k} {y = y} i e d q g f = let l : y < p + h = live_below Γ r y (gone-live g) in
      let o : y < length Γ.image = omega (arith, r.room, sized) in
      let z = cell Γ r o (gone-live g) e (do-SI Γ v r.agree pc i (over-P Γ r pc k (omega (arith, sized))) (omega (arith, sized)) q o) in
      after Γ le z (f _ z.rel refl)
