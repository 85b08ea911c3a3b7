-- What a reader answers depends only on the symbols up to where it ends: up to the symbol after what it read, or up to the symbol that
-- it refuses. Here are the rules for the ways to put readers together; Locality has the grammar.
use Rattle.laws.proofs.Basics.{ℕ, zero, suc, ◌+◌, ◌≤◌, ◌≡◌, refl, sym, ap, ◌∙◌, Bool, true, false, cond, length, List·getD-eq-default, eqb, arith}
use Rattle.language.specs.Kinds as K
use Rattle.language.specs.Symbols.{Symbol}
use Rattle.language.specs.Reader.{Source, Out, ok, no, Reader, on_out, ◌>>=◌, return, symbol_at, kind_at, is, unexpected, any, here, the, many_up_to}
use Rattle.language.specs.Reader.{many, more_up_to, items}

-- two sources have the same symbols at all positions up to one, the end included
pub record Agree (s t : Source) (p : ℕ) : Type 0 where
  pub agree : (i : ℕ) → i ≤ p → symbol_at t i ≡ symbol_at s i

-- an answer ends at a position or before it
pub data EndsBy {A : Type 0} (p : ℕ) : Out A → Type 0 where
  gave : {a : A} {next : ℕ} → next ≤ p → EndsBy p (ok a next)
  stopped : {number q : ℕ} → q ≤ p → EndsBy p (no number q)

-- an answer takes so many symbols at least, and refuses none before the first
pub data Ahead {A : Type 0} (k at : ℕ) : Out A → Type 0 where
  took : {a : A} {next : ℕ} → k + at ≤ next → Ahead k at (ok a next)
  refused : {number q : ℕ} → at ≤ q → Ahead k at (no number q)

-- two answers from a position: the second is the first, if that ends by p
pub record Rel {A : Type 0} (k p at : ℕ) (o o' : Out A) : Type 0 where
  pub ahead : Ahead k at o
  pub same : EndsBy p o → o' ≡ o

module _ {A : Type 0} where
  ends-ok : {a : A} {p n : ℕ} → EndsBy p (ok a n) → n ≤ p
  ends-ok (gave h) = h

  ends-no : {p k n : ℕ} → EndsBy {A = A} p (no k n) → n ≤ p
  ends-no (stopped h) = h

  pub reach : {k at p : ℕ} {o : Out A} → Ahead k at o → EndsBy p o → at ≤ p
  reach (took h) (gave g) = omega arith
  reach (refused h) (stopped g) = omega arith

  pub later : {j k at n : ℕ} {o : Out A} → Ahead k n o → j + at ≤ n → Ahead j at o
  later (took {next = x} h) g = took {next = x} (omega arith)
  later (refused {q = x} h) g = refused {q = x} (omega arith)

  pub rel-ok : {k p at : ℕ} (a : A) (next : ℕ) → k + at ≤ next → Rel k p at (ok a next) (ok a next)
  rel-ok a next h = record { ahead = took h; same = λ e. refl }

  pub rel-no : {k p at : ℕ} (number : ℕ) → Rel {A = A} k p at (no number at) (no number at)
  rel-no {at = at} number = record { ahead = refused {q = at} (omega arith); same = λ e. refl }

  module _ {k p at : ℕ} {x x' y y' : Out A} where
    pub rel-elim : (b b' : Bool) → (at ≤ p → b' ≡ b) → Rel k p at x x' → Rel k p at y y'
        → Rel {A = A} k p at (elim b [ true ↦ x | false ↦ y ]) (elim b' [ true ↦ x' | false ↦ y' ])
    rel-elim true b' h l l' = record { ahead = l.ahead; same = λ e. rw (h (reach l.ahead e)) (l.same e) }
    rel-elim false b' h l l' = record { ahead = l'.ahead; same = λ e. rw (h (reach l'.ahead e)) (l'.same e) }

    pub rel-cond : (b b' : Bool) → (at ≤ p → b' ≡ b) → Rel k p at x x' → Rel k p at y y' → Rel k p at (cond b x y) (cond b' x' y')
    rel-cond true b' h l l' = record { ahead = l.ahead; same = λ e. rw (h (reach l.ahead e)) (l.same e) }
    rel-cond false b' h l l' = record { ahead = l'.ahead; same = λ e. rw (h (reach l'.ahead e)) (l'.same e) }

  pub weaker : {k p at : ℕ} {o o' : Out A} → Rel k p at o o' → Rel 0 p at o o'
  weaker l = record { ahead = less l.ahead; same = l.same }
    where
      less : {k at : ℕ} {o : Out A} → Ahead k at o → Ahead 0 at o
      less (took {next = x} h) = took {next = x} (omega arith)
      less (refused h) = refused h

module _ {A B : Type 0} {j p at : ℕ} {f f' : A → ℕ → Out B} (m : (a : A) (n : ℕ) → j + at ≤ n → Rel 0 p n (f a n) (f' a n)) where
  pub ahead-bind : {o : Out A} → Ahead j at o → Ahead j at (on_out o f)
  ahead-bind (took {a = a} {next = n} h) = later (m a n h).ahead h
  ahead-bind (refused h) = refused h

  same-bind : {o o' : Out A} → Ahead j at o → (EndsBy p o → o' ≡ o) → EndsBy p (on_out o f) → on_out o' f' ≡ on_out o f
  same-bind (took {a = a} {next = n} h) q e = rw (q (gave (reach (m a n h).ahead e))) ((m a n h).same e)
  same-bind (refused h) q (stopped e) = rw (q (stopped e)) refl

  pub rel_bind : {o o' : Out A} → Rel j p at o o' → Rel j p at (on_out o f) (on_out o' f')
  rel_bind l = record { ahead = ahead-bind l.ahead; same = same-bind l.ahead l.same }

-- an item before the others
put-before : {A : Type 0} {k p at : ℕ} {o o' : Out (A → A)} {rest rest' : ℕ → Out A} → Rel k p at o o'
    → ((n : ℕ) → k + at ≤ n → Rel 0 p n (rest n) (rest' n))
    → Rel k p at (on_out o (λ put n. on_out (rest n) (λ x m. ok (put x) m))) (on_out o' (λ put n. on_out (rest' n) (λ x m. ok (put x) m)))
put-before l f = rel_bind (λ put n h. rel_bind (λ x m _. rel-ok (put x) m (omega arith)) (f n h)) l

-- a reader that takes so many symbols at least, and looks no further than where it ends
pub record Local {A : Type 0} (k : ℕ) (r : Reader A) : Type 0 where
  pub local : {s t : Source} {p : ℕ} → Agree s t p → (at : ℕ) → Rel k p at (r s at) (r t at)

-- a source agrees with itself
pub self : (s : Source) (p : ℕ) → Agree s s p
self s p = record { agree = λ i h. refl }

pub kinds-agree : {s t : Source} {p : ℕ} → Agree s t p → (at : ℕ) → at ≤ p → kind_at t at ≡ kind_at s at
kinds-agree g at h = ap (λ (x : Symbol). x.kind) (g.agree at h)

module _ {A : Type 0} where
  pub local-weaker : {k : ℕ} {r : Reader A} → Local k r → Local 0 r
  local-weaker l = record { local = λ g at. weaker (l.local g at) }

  pub local-return : (a : A) → Local 0 (return a)
  local-return a = record { local = λ g at. rel-ok a at (omega arith) }

  pub local-unexpected : {k : ℕ} → Local k (unexpected {A = A})
  unfolding unexpected
  local-unexpected = record { local = λ g at. rel-no 6 }

  -- a choice by the symbol here
  pub local-cond : {k : ℕ} (r r' : Reader A) → Local k r → Local k r' → (b : ℕ → Bool) → Local k (λ s at. cond (b (kind_at s at)) (r s at) (r' s at))
  local-cond r r' l l' b = record
      { local = λ {s} {t} g at. rel-cond (b (kind_at s at)) (b (kind_at t at)) (λ h. ap b (kinds-agree g at h)) (l.local g at) (l'.local g at) }

pub local-bind : {A B : Type 0} {j : ℕ} (r : Reader A) (f : A → Reader B) → Local j r → ((a : A) → Local 0 (f a)) → Local j (r >>= f)
local-bind r f l m = record { local = λ g at. rel_bind (λ a n h. (m a).local g n) (l.local g at) }

pub local-any : Local 1 any
unfolding any
local-any = record {
  local = λ g at. record
      { ahead = took {next = at + 1} (omega arith); same = λ e. ap (λ (x : Symbol). ok x (at + 1)) (g.agree at (omega (arith, ends-ok e))) };
}

pub local-here : Local 0 here
unfolding here
local-here = record {
  local = λ g at. record { ahead = took {next = at} (omega arith); same = λ e. ap (λ (x : Symbol). ok x.place at) (g.agree at (ends-ok e)) };
}

pub local-the : (kind : ℕ) → Local 1 (the kind)
unfolding the any
local-the kind = local-cond _ _ (local-bind any (λ x. return x.place) local-any (λ x. local-return _)) local-unexpected (λ k. eqb k kind)

-- past the symbols stands the end
pub ended : (s : Source) (at : ℕ) → length s.symbols ≤ at → kind_at s at ≡ K.NOTHING
ended s at h = ap (λ (x : Symbol). x.kind) (List·getD-eq-default s.symbols _ h)

not_so : {B : Type 0} (x y : B) {b : Bool} → b ≡ false → elim b as (λ _. B) [ true ↦ x | false ↦ y ] ≡ y
not_so x y e = rw e refl

bind-no : {A B : Type 0} (o : Out A) (f : A → ℕ → Out B) {number q : ℕ} → o ≡ no number q → on_out o f ≡ no number q
bind-no o f e = rw e refl

no-semicolon : (s : Source) (at : ℕ) → kind_at s at ≡ K.NOTHING → the K.SEMICOLON s at ≡ no 6 at
unfolding the unexpected
no-semicolon s at e = rw e refl

-- no item begins here
pub none_here : {A : Type 0} (none : A) (begins : ℕ → Bool) (item : Reader (A → A)) (n : ℕ) (s : Source) (at : ℕ) → begins (kind_at s at) ≡ false
    → many_up_to n none begins item s at ≡ ok none at
unfolding many_up_to
none_here none begins item zero s at f = refl
none_here none begins item (suc n) s at f = not_so _ _ f

-- { item }: so many turns are enough, for each source its own number
module _ {A : Type 0} (none : A) (begins : ℕ → Bool) (item : Reader (A → A)) (l : Local 1 item) where
  turn : (n m : ℕ) {s t : Source} {p : ℕ} → Agree s t p → (at : ℕ)
      → ((next : ℕ) → 1 + at ≤ next → Rel 0 p next (many_up_to n none begins item s next) (many_up_to m none begins item t next))
      → Rel 0 p at (many_up_to (suc n) none begins item s at) (many_up_to (suc m) none begins item t at)
  unfolding many_up_to
  turn n m {s} {t} g at f =
      rel-elim (begins (kind_at s at)) (begins (kind_at t at)) (λ h. ap begins (kinds-agree g at h)) (weaker (put-before (l.local g at) f))
      (rel-ok none at (omega arith))

  pub fixed : (n : ℕ) → Local 0 (many_up_to n none begins item)
  unfolding many_up_to
  fixed zero = local-return none
  fixed (suc n) = record { local = λ g at. turn n n g at (λ next _. (fixed n).local g next) }

  module _ (stop : begins K.NOTHING ≡ false) where
    none-there : (n : ℕ) (s : Source) (at : ℕ) → kind_at s at ≡ K.NOTHING → many_up_to n none begins item s at ≡ ok none at
    none-there n s at e = none_here none begins item n s at (ap begins e ∙ stop)

    pub each : (n m : ℕ) {s t : Source} {p : ℕ} → Agree s t p → (at : ℕ) → length s.symbols ≤ n + at → length t.symbols ≤ m + at
        → Rel 0 p at (many_up_to n none begins item s at) (many_up_to m none begins item t at)
    unfolding many_up_to
    each zero m {s} {t} g at h k =
        record { ahead = took {next = at} (omega arith); same = λ e. none-there m t at (kinds-agree g at (ends-ok e) ∙ ended s at (omega arith)) }
    each (suc n) zero {s} {t} {p} g at h k = let a = ((fixed (suc n)).local (self s p) at).ahead in
        record { ahead = a; same = λ e. sym (none-there (suc n) s at (sym (kinds-agree g at (reach a e)) ∙ ended t at (omega arith))) }
    each (suc n) (suc m) g at h k = turn n m g at (λ next q. each n m g next (omega arith) (omega arith))

    pub local-many : Local 0 (many none begins item)
    unfolding many
    local-many = record { local = λ {s} {t} g at. each (length s.symbols) (length t.symbols) g at (omega arith) (omega arith) }

-- { ; item } [;] $)
module _ {A : Type 0} (none : A) (item : Reader (A → A)) (l : Local 0 item) where
  at-end : {s t : Source} {p : ℕ} → Agree s t p → (at : ℕ) {o o' : Out A} → Rel 0 p at o o'
      → Rel {A = A} 0 p at (elim (is K.END s at) [ true ↦ ok none (at + 1) | false ↦ o ])
      (elim (is K.END t at) [ true ↦ ok none (at + 1) | false ↦ o' ])
  at-end {s} {t} g at f =
      rel-elim (is K.END s at) (is K.END t at) (λ h. ap (λ (k : ℕ). eqb k K.END) (kinds-agree g at h)) (rel-ok none (at + 1) (omega arith)) f

  turn_more : (n m : ℕ) {s t : Source} {p : ℕ} → Agree s t p → (at : ℕ)
      → ((next : ℕ) → 1 + at ≤ next → Rel 0 p next (more_up_to n none item s next) (more_up_to m none item t next))
      → Rel 0 p at (more_up_to (suc n) none item s at) (more_up_to (suc m) none item t at)
  unfolding more_up_to
  turn_more n m g at f = at-end g at (weaker (rel_bind (λ _ next h. at-end g next (put-before (l.local g next) (λ x q. f x (omega arith))))
      ((local-the K.SEMICOLON).local g at)))

  pub fixed_more : (n : ℕ) → Local 0 (more_up_to n none item)
  unfolding more_up_to
  fixed_more zero = local-unexpected
  fixed_more (suc n) = record { local = λ g at. turn_more n n g at (λ next _. (fixed_more n).local g next) }

  none_more : (n : ℕ) (s : Source) (at : ℕ) → kind_at s at ≡ K.NOTHING → more_up_to n none item s at ≡ no 6 at
  unfolding more_up_to unexpected
  none_more zero s at e = refl
  none_more (suc n) s at e = not_so _ _ (ap (λ (k : ℕ). eqb k K.END) e) ∙ bind-no _ _ (no-semicolon s at e)

  each_more : (n m : ℕ) {s t : Source} {p : ℕ} → Agree s t p → (at : ℕ) → length s.symbols ≤ n + at → length t.symbols ≤ m + at
      → Rel 0 p at (more_up_to n none item s at) (more_up_to m none item t at)
  unfolding more_up_to unexpected
  each_more zero m {s} {t} g at h k =
      record { ahead = refused {q = at} (omega arith); same = λ e. none_more m t at (kinds-agree g at (ends-no e) ∙ ended s at (omega arith)) }
  each_more (suc n) zero {s} {t} {p} g at h k = let a = ((fixed_more (suc n)).local (self s p) at).ahead in
      record { ahead = a; same = λ e. sym (none_more (suc n) s at (sym (kinds-agree g at (reach a e)) ∙ ended t at (omega arith))) }
  each_more (suc n) (suc m) g at h k = turn_more n m g at (λ next q. each_more n m g next (omega arith) (omega arith))

  -- item { ; item } [;] $)
  pub local-items : Local 0 (items none item)
  unfolding items
  local-items = record {
    local = λ {s} {t} g at. put-before (l.local g at) (λ n _. each_more (length s.symbols) (length t.symbols) g n (omega arith) (omega arith));
  }
