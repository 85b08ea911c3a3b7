-- Two sources, the second with extra semicolons, each between a LOOP and a symbol of the second list of inserted semicolons, but for a
-- bracket. What a reader gives of the first it gives of the second. Here are the rules for the ways to put readers together, with
-- those of Local, so that the grammar is gone through once for both; ExtraGrammar has the grammar, Loops the texts.
use Rattle.laws.proofs.Basics.{ℕ, zero, suc, ◌+◌, ◌≤◌, ◌≡◌, refl, sym, ap, ◌∙◌, List, [], ◌∷◌, Bool, true, false, cond, length, get_or, drop}
use Rattle.laws.proofs.Basics.{drop-drop}
use Rattle.laws.proofs.Basics.{get_or-drop, eqb, arith, eqb-true}
use Rattle.laws.proofs.Cases.{by_cases, contradiction}
use Rattle.language.specs.Kinds as K
use Rattle.language.specs.Kinds.{member}
use Rattle.language.specs.Symbols.{Symbol}
use Rattle.language.specs.Semicolons.{seconds, semicolon}
use Rattle.language.specs.Reader.{Source, Out, ok, no, Reader, on_out, ◌>>=◌, return, symbol_at, kind_at, is, unexpected, any, here, the, optional}
use Rattle.language.specs.Reader.{a_name, many_up_to, many, more_up_to, items, is_comma, further_items, one_up_to_close, up_to_close}
use Rattle.language.proofs.Local as L
use Rattle.language.proofs.Local.{Local, Ahead, took, refused, self, ended, none_here}

abbrev pub without : ℕ → List ℕ → List ℕ
without x [] = []
without x (k ∷ ks) = cond (eqb k x) (without x ks) (k ∷ without x ks)

-- the second list, but for the bracket
abbrev pub others : List ℕ
others = without K.OPEN seconds

-- Where a reader stands in the second source: flush, at the symbol at which it stands in the first; or near, there or at an extra
-- semicolon before it
abbrev pub flush : Bool
flush = false

abbrev pub near : Bool
near = true

-- the symbols of both from such positions on
pub data Rest : Bool → List Symbol → List Symbol → Type 0 where
  both_end : {i : Bool} → Rest i [] []
  alike : {i : Bool} {x : Symbol} {xs ys : List Symbol} → Rest (eqb x.kind K.LOOP) xs ys → Rest i (x ∷ xs) (x ∷ ys)
  extra : {x : Symbol} {xs ys : List Symbol} → member x.kind others ≡ true → Rest flush (x ∷ xs) ys → Rest near (x ∷ xs) (semicolon x ∷ ys)

pub record Wider (s t : Source) : Type 0 where
  pub size : t.size ≡ s.size
  pub longer : length s.symbols ≤ length t.symbols

pub record Stands (s t : Source) (i : Bool) (at x : ℕ) : Type 0 where
  pub rest : Rest i (drop at s.symbols) (drop x t.symbols)

-- the second answer is the first, if that is a tree, and ends where the first does
pub data Kept {A : Type 0} (s t : Source) (o : Bool) : Out A → Out A → Type 0 where
  gave : {a : A} {n y : ℕ} → Stands s t o n y → Kept s t o (ok a n) (ok a y)
  refuses : {number q : ℕ} {any : Out A} → Kept s t o (no number q) any

-- whether a reader is known to take a symbol
abbrev pub least : Bool → ℕ
least true = 1
least false = 0

-- a reader that starts so, and ends so
pub record Keeps {A : Type 0} (k i o : Bool) (r : Reader A) : Type 0 where
  pub local : Local (least k) r
  pub keeps : {s t : Source} → Wider s t → (at x : ℕ) → Stands s t i at x → Kept s t o (r s at) (r t x)

-- the same of a reader that starts flush at a symbol of some kinds only
pub record KeepsAt {A : Type 0} (k : Bool) (b : ℕ → Bool) (o : Bool) (r : Reader A) : Type 0 where
  pub local : Local (least k) r
  pub keeps-at : {s t : Source} → Wider s t → (at x : ℕ) → b (kind_at s at) ≡ true → Stands s t flush at x → Kept s t o (r s at) (r t x)

-- ---- positions

pub longer-rest : {i : Bool} {xs ys : List Symbol} → Rest i xs ys → length xs ≤ length ys
longer-rest both_end = omega arith
longer-rest (alike r) = omega (arith, longer-rest r)
longer-rest (extra h r) = omega (arith, longer-rest r)

nearer-rest : {i : Bool} {xs ys : List Symbol} → Rest i xs ys → Rest near xs ys
nearer-rest both_end = both_end
nearer-rest (alike r) = alike r
nearer-rest (extra h r) = extra h r

flush-nearer : {i : Bool} {xs ys : List Symbol} → Rest flush xs ys → Rest i xs ys
flush-nearer both_end = both_end
flush-nearer (alike r) = alike r

first_alike : {xs ys : List Symbol} (d : Symbol) → Rest flush xs ys → get_or ys 0 d ≡ get_or xs 0 d
first_alike d both_end = refl
first_alike d (alike r) = refl

rest-on : {xs ys : List Symbol} (d : Symbol) → Rest flush xs ys → Rest (eqb (get_or xs 0 d).kind K.LOOP) (drop 1 xs) (drop 1 ys)
rest-on d both_end = both_end
rest-on d (alike r) = r

near-rest : {T : Type 0} {xs ys : List Symbol} (d e : Symbol) → Rest near xs ys → (Rest flush xs ys → T)
    → ((get_or ys 0 e).kind ≡ K.SEMICOLON → member (get_or xs 0 d).kind others ≡ true → Rest flush xs (drop 1 ys) → T) → T
near-rest d e both_end f g = f both_end
near-rest d e (alike r) f g = f (alike r)
near-rest d e (extra h r) f g = g refl h r

at_zero : {A : Type 0} (l : List A) (n : ℕ) (d : A) → get_or (drop n l) 0 d ≡ get_or l n d
at_zero l n d = get_or-drop n l 0 d ∙ ap (λ (k : ℕ). get_or l k d) (omega arith)

-- what stands past the symbols
abbrev ending : Source → Symbol
ending s = record { kind = K.NOTHING; value = 0; place = s.size }

module _ {s t : Source} {at x : ℕ} where
  pub nearer : {i : Bool} → Stands s t i at x → Stands s t near at x
  nearer p = record { rest = nearer-rest p.rest }

  any-start : {i : Bool} → Stands s t flush at x → Stands s t i at x
  any-start p = record { rest = flush-nearer p.rest }

  same-symbol : Wider s t → Stands s t flush at x → symbol_at t x ≡ symbol_at s at
  same-symbol w p = ap (λ (k : ℕ). get_or t.symbols x (record { kind = K.NOTHING; value = 0; place = k })) w.size ∙
      sym (at_zero t.symbols x _) ∙ first_alike _ p.rest ∙ at_zero s.symbols at _

  same_kind : Wider s t → Stands s t flush at x → kind_at t x ≡ kind_at s at
  same_kind w p = ap (λ (y : Symbol). y.kind) (same-symbol w p)

  -- past a symbol
  on : Stands s t flush at x → Stands s t (eqb (kind_at s at) K.LOOP) (at + 1) (x + 1)
  on p = record { rest = rw (at_zero, drop-drop 1 at s.symbols, drop-drop 1 x t.symbols) at (rest-on (ending s) p.rest) }

  -- flush after all, or at an extra semicolon
  near-cases : {T : Type 0} → Stands s t near at x → (Stands s t flush at x → T)
      → (kind_at t x ≡ K.SEMICOLON → member (kind_at s at) others ≡ true → Stands s t flush at (x + 1) → T) → T
  near-cases p f g = near-rest (ending s) (ending t) p.rest (λ r. f (record { rest = r }))
      (λ e h r. g (rw at_zero at e) (rw at_zero at h) (record { rest = rw drop-drop at r }))

-- ---- tests of the symbol here

-- a test that holds of no kind in a list
abbrev pub none_of : (ℕ → Bool) → List ℕ → Bool
none_of b [] = true
none_of b (k ∷ ks) = cond (b k) false (none_of b ks)

pub none_of_lem : (b : ℕ → Bool) (ks : List ℕ) (k : ℕ) → none_of b ks ≡ true → member k ks ≡ true → b k ≡ false
unfolding member
none_of_lem b [] k h m = cc
none_of_lem b (j ∷ ks) k h m = by_cases (b j) (λ g. let z : false ≡ true = rw g at h in contradiction cc) (λ g.
    by_cases (eqb k j) (λ e. ap b (eqb-true k j e) ∙ g) (λ e. none_of_lem b ks k (rw g at h) (rw e at m)))

one_more : (k j : ℕ) (ks : List ℕ) → member k ks ≡ true → member k (j ∷ ks) ≡ true
unfolding member
one_more k j ks m = by_cases (eqb k j) (λ outcome. rw outcome) (λ outcome. rw outcome m)

-- from near, a test that holds neither of a semicolon nor of what may stand after an extra one
abbrev pub blind : Bool → (ℕ → Bool) → Bool
blind false b = true
blind true b = none_of b (K.SEMICOLON ∷ others)

-- what a test says of the symbol here is the same in both sources, and where it holds the second stands flush
tested : {T : Type 0} {s t : Source} (i : Bool) (b : ℕ → Bool) → blind i b ≡ true → Wider s t → (at x : ℕ) → Stands s t i at x
    → (b (kind_at t x) ≡ b (kind_at s at) → (b (kind_at s at) ≡ true → Stands s t flush at x) → T) → T
unfolding member
tested false b h w at x p f = f (ap b (same_kind w p)) (λ _. p)
tested {s = s} {t = t} true b h w at x p f = near-cases p (λ q. f (ap b (same_kind w q)) (λ _. q))
    (λ e m _. let no-t : b (kind_at t x) ≡ false = ap b e ∙ none_of_lem b (K.SEMICOLON ∷ others) K.SEMICOLON h refl in
    let no-s : b (kind_at s at) ≡ false = none_of_lem b (K.SEMICOLON ∷ others) (kind_at s at) h (one_more (kind_at s at) K.SEMICOLON others m) in
    f (no-t ∙ sym no-s) (λ y. contradiction cc))

-- ---- readers put together

kept_near : {A : Type 0} {s t : Source} {i : Bool} {x y : Out A} → Kept s t i x y → Kept s t near x y
kept_near (gave p) = gave (nearer p)
kept_near refuses = refuses

gave-same : {A : Type 0} {s t : Source} {o : Bool} {a a' : A} {n y : ℕ} → a' ≡ a → Stands s t o n y → Kept s t o (ok a n) (ok a' y)
gave-same e p = rw e (gave p)

module _ {A : Type 0} {s t : Source} {o : Bool} where
  kept-cond : {x x' y y' : Out A} (b b' : Bool) → b' ≡ b → (b ≡ true → Kept s t o x x') → (b ≡ false → Kept s t o y y')
      → Kept s t o (cond b x y) (cond b' x' y')
  kept-cond true b' h f g = rw h (f refl)
  kept-cond false b' h f g = rw h (g refl)

  kept-elim : {x x' y y' : Out A} (b b' : Bool) → b' ≡ b → (b ≡ true → Kept s t o x x') → (b ≡ false → Kept s t o y y')
      → Kept {A = A} s t o (elim b [ true ↦ x | false ↦ y ]) (elim b' [ true ↦ x' | false ↦ y' ])
  kept-elim true b' h f g = rw h (f refl)
  kept-elim false b' h f g = rw h (g refl)

  kept-bind : {B : Type 0} {i : Bool} {x y : Out B} {f g : B → ℕ → Out A} → Kept s t i x y
      → ((b : B) (n m : ℕ) → Stands s t i n m → Kept s t o (f b n) (g b m)) → Kept s t o (on_out x f) (on_out y g)
  kept-bind (gave {a = b} {n = n} {y = m} p) h = h b n m p
  kept-bind refuses h = refuses

  kept-ahead : {B : Type 0} {i : Bool} {at : ℕ} {x y : Out B} {f g : B → ℕ → Out A} → Ahead 1 at x → Kept s t i x y
      → ((b : B) (n m : ℕ) → 1 + at ≤ n → Stands s t i n m → Kept s t o (f b n) (g b m)) → Kept s t o (on_out x f) (on_out y g)
  kept-ahead (took j) (gave {a = b} {n = n} {y = m} p) h = h b n m j p
  kept-ahead (refused j) refuses h = refuses

-- one symbol taken is as many as are asked for
taken-one : {A : Type 0} {r : Reader A} (k : Bool) → Local 1 r → Local (least k) r
taken-one true l = l
taken-one false l = L.local-weaker l

pub keeps-return : {A : Type 0} {i : Bool} (a : A) → Keeps false i i (return a)
keeps-return a = record { local = L.local-return a; keeps = λ w at x p. gave p }

module _ {A : Type 0} {k : Bool} where
  pub keeps-unexpected : {i o : Bool} → Keeps k i o (unexpected {A = A})
  unfolding unexpected
  keeps-unexpected = record { local = L.local-unexpected; keeps = λ w at x p. refuses }

  pub keeps-near : {i o : Bool} {r : Reader A} → Keeps k i o r → Keeps k i near r
  keeps-near l = record { local = l.local; keeps = λ w at x p. kept_near (l.keeps w at x p) }

  -- from near, all the more from flush
  pub keeps-flush : {i o : Bool} {r : Reader A} → Keeps k i o r → Keeps k flush o r
  keeps-flush l = record { local = l.local; keeps = λ w at x p. l.keeps w at x (any-start p) }

  pub at-any : {b : ℕ → Bool} {o : Bool} {r : Reader A} → Keeps k flush o r → KeepsAt k b o r
  at-any l = record { local = l.local; keeps-at = λ w at x h p. l.keeps w at x p }

  -- a choice by the symbol here
  pub keeps-cond : {i o : Bool} {r r' : Reader A} (b : ℕ → Bool) → blind i b ≡ true → KeepsAt k b o r → Keeps k i o r'
      → Keeps k i o (λ s at. cond (b (kind_at s at)) (r s at) (r' s at))
  keeps-cond {i} b h l l' = record {
    local = L.local-cond _ _ l.local l'.local b;
    keeps = λ {s} {t} w at x p.
        tested i b h w at x p (λ e q. kept-cond (b (kind_at s at)) (b (kind_at t x)) e (λ y. l.keeps-at w at x y (q y)) (λ _. l'.keeps w at x p));
  }

  pub at-cond : {o : Bool} {b : ℕ → Bool} {r r' : Reader A} (b' : ℕ → Bool) → KeepsAt k b o r → KeepsAt k b o r'
      → KeepsAt k b o (λ s at. cond (b' (kind_at s at)) (r s at) (r' s at))
  at-cond b' l l' = record {
    local = L.local-cond _ _ l.local l'.local b';
    keeps-at = λ {s} {t} w at x h p.
        kept-cond (b' (kind_at s at)) (b' (kind_at t x)) (ap b' (same_kind w p)) (λ _. l.keeps-at w at x h p) (λ _. l'.keeps-at w at x h p);
  }

  -- a choice that does not depend on the symbols
  pub keeps-choice : {i o : Bool} {r r' : Reader A} (b : Bool) → Keeps k i o r → Keeps k i o r' → Keeps k i o (λ s at. cond b (r s at) (r' s at))
  keeps-choice true l l' = l
  keeps-choice false l l' = l'

module _ {A B : Type 0} {k m o : Bool} {r : Reader A} {f : A → Reader B} where
  pub after : {i : Bool} → Keeps k i m r → ((a : A) → Keeps false m o (f a)) → Keeps k i o (r >>= f)
  after l g = record {
    local = L.local-bind r f l.local (λ a. (g a).local);
    keeps = λ w at x p. kept-bind (l.keeps w at x p) (λ a n y q. (g a).keeps w n y q);
  }

  pub at_after : {b : ℕ → Bool} → KeepsAt k b m r → ((a : A) → Keeps false m o (f a)) → KeepsAt k b o (r >>= f)
  at_after l g = record {
    local = L.local-bind r f l.local (λ a. (g a).local);
    keeps-at = λ w at x h p. kept-bind (l.keeps-at w at x h p) (λ a n y q. (g a).keeps w n y q);
  }

-- ---- symbols

not-loop : (b : ℕ → Bool) (k : ℕ) → b K.LOOP ≡ false → b k ≡ true → eqb k K.LOOP ≡ false
not-loop b k h e = by_cases (eqb k K.LOOP) (λ z. rw z (let y : true ≡ false = sym e ∙ ap b (eqb-true k K.LOOP z) ∙ h in y)) (λ z. rw z)

pub keeps-any : {k : Bool} → Keeps k flush near any
unfolding any
keeps-any {k} = record { local = taken-one k L.local-any; keeps = λ w at x p. gave-same (same-symbol w p) (nearer (on p)) }

-- past a symbol that is no LOOP stands no extra semicolon
pub at_symbol : {k : Bool} (b : ℕ → Bool) → b K.LOOP ≡ false → KeepsAt k b flush any
unfolding any
at_symbol {k} b h = record {
  local = taken-one k L.local-any;
  keeps-at = λ {s} {t} w at x e p. gave-same (same-symbol w p) (rw (not-loop b (kind_at s at) h e) at (on p));
}

-- and what is made of it
pub at-made : {A : Type 0} {k : Bool} (b : ℕ → Bool) (f : Symbol → A) → b K.LOOP ≡ false → KeepsAt k b flush (any >>= λ x. return (f x))
at-made b f h = at_after (at_symbol b h) (λ x. keeps-return (f x))

pub keeps_here : Keeps false flush flush here
unfolding here
keeps_here = record { local = L.local-here; keeps = λ w at x p. gave-same (ap (λ (y : Symbol). y.place) (same-symbol w p)) p }

-- a symbol of a kind, not LOOP; from near, of no kind that stands after an extra semicolon, so that the first source is refused there
abbrev pub barred : Bool → List ℕ
barred false = K.LOOP ∷ []
barred true = others

the-flush : {k : Bool} (kind : ℕ) → eqb K.LOOP kind ≡ false → Keeps k flush flush (the kind)
unfolding the any
the-flush kind l = keeps-cond (λ k. eqb k kind) refl (at-made _ (λ x. x.place) l) keeps-unexpected

pub keeps-the : {k i : Bool} (kind : ℕ) → none_of (λ k. eqb k kind) (barred i) ≡ true → Keeps k i flush (the kind)
unfolding the unexpected member
keeps-the {i = false} kind h = the-flush kind (none_of_lem (λ k. eqb k kind) (barred flush) K.LOOP h refl)
keeps-the {k} {i = true} kind h = record {
  local = taken-one k (L.local-the kind);
  keeps = λ {s} {t} w at x p. near-cases p ((the-flush {k = false} kind (none_of_lem (λ k. eqb k kind) others K.LOOP h refl)).keeps w at x)
      (λ e m q. rw (none_of_lem (λ k. eqb k kind) others (kind_at s at) h m) refuses);
}

pub keeps-name : {k : Bool} → Keeps k flush flush a_name
unfolding a_name any
keeps-name = keeps-cond (λ k. eqb k K.NAME) refl (at-made _ (λ x. record { place = x.place; width = x.value }) refl) keeps-unexpected

-- an optional semicolon is the one place where an extra one may stand
module _ {A : Type 0} (a : A) where
  optional-flush : Keeps false flush flush (optional K.SEMICOLON >>= λ _. return a)
  unfolding optional any
  optional-flush = after (keeps-cond (λ k. eqb k K.SEMICOLON) refl (at-made _ (λ _. true) refl) (keeps-return false)) (λ _. keeps-return a)

  taken : {s t : Source} (at x : ℕ) (b b' : Bool) → b ≡ false → b' ≡ true → Stands s t flush at (x + 1)
      → Kept s t flush (on_out (cond b (ok true (at + 1)) (ok false at)) (λ _ n. ok a n))
      (on_out (cond b' (ok true (x + 1)) (ok false x)) (λ _ n. ok a n))
  taken at x b b' h h' p = rw (h, h') (gave p)

  pub keeps-optional : Keeps false near flush (optional K.SEMICOLON >>= λ _. return a)
  unfolding optional
  keeps-optional = record {
    local = optional-flush.local;
    keeps = λ {s} {t} w at x p. near-cases p (optional-flush.keeps w at x)
        (λ e m q. taken at x (is K.SEMICOLON s at) (is K.SEMICOLON t x) (none_of_lem (λ k. eqb k K.SEMICOLON) others (kind_at s at) refl m)
        (ap (λ (k : ℕ). eqb k K.SEMICOLON) e) q);
  }

-- ---- lists

-- { item }, from and to positions of one kind
module _ {A : Type 0} {i : Bool} (none : A) (begins : ℕ → Bool) (item : Reader (A → A)) (h : blind i begins ≡ true)
    (l : KeepsAt true begins i item) where
  -- with as many turns in both
  pub keeps-fixed : (n : ℕ) → Keeps false i i (many_up_to n none begins item)
  unfolding many_up_to
  keeps-fixed zero = keeps-return none
  keeps-fixed (suc n) = record {
    local = L.fixed none begins item l.local (suc n);
    keeps = λ {s} {t} w at x p. tested i begins h w at x p (λ e q. kept-elim (begins (kind_at s at)) (begins (kind_at t x)) e
        (λ y. kept-bind (l.keeps-at w at x y (q y)) (λ put n₁ x₁ p₁. kept-bind ((keeps-fixed n).keeps w n₁ x₁ p₁) (λ rest n₂ x₂ p₂. gave p₂)))
        (λ _. gave p));
  }

  module _ (stop : begins K.NOTHING ≡ false) where
    -- with turns enough in the first source, and as many or more in the second
    each : (n m : ℕ) → n ≤ m → {s t : Source} → Wider s t → (at x : ℕ) → length s.symbols ≤ n + at → Stands s t i at x
        → Kept s t i (many_up_to n none begins item s at) (many_up_to m none begins item t x)
    unfolding many_up_to
    each zero m k {s} {t} w at x z p =
        tested i begins h w at x p (λ e _. let f : begins (kind_at t x) ≡ false = e ∙ ap begins (ended s at (omega arith)) ∙ stop in
        rw (none_here none begins item m t x f) (gave p))
    each (suc n) zero k w at x z p = absurd (omega arith)
    each (suc n) (suc m) k {s} {t} w at x z p = tested i begins h w at x p (λ e q. kept-elim (begins (kind_at s at)) (begins (kind_at t x)) e
        (λ y. kept-ahead (l.local.local (self s at) at).ahead (l.keeps-at w at x y (q y))
        (λ put n₁ x₁ a p₁. kept-bind (each n m (omega arith) w n₁ x₁ (omega arith) p₁) (λ rest n₂ x₂ p₂. gave p₂))) (λ _. gave p))

    pub keeps-many : Keeps false i i (many none begins item)
    unfolding many
    keeps-many = record {
      local = L.local-many none begins item l.local stop;
      keeps = λ {s} {t} w at x p. each (length s.symbols) (length t.symbols) w.longer w at x (omega arith) p;
    }

-- { ; item } [;] $)
module _ {A : Type 0} (none : A) (item : Reader (A → A)) (l : Keeps false flush near item) where
  keeps-more : (n m : ℕ) → n ≤ m → {s t : Source} → Wider s t → (at x : ℕ) → Stands s t near at x
      → Kept s t flush (more_up_to n none item s at) (more_up_to m none item t x)
  unfolding more_up_to unexpected
  keeps-more zero m k w at x p = refuses
  keeps-more (suc n) zero k w at x p = absurd (omega arith)
  keeps-more (suc n) (suc m) k {s} {t} w at x p = at-end near refl at x p
      (kept-bind ((keeps-the {k = false} K.SEMICOLON refl).keeps w at x p) (λ _ n₁ x₁ p₁. at-end flush refl n₁ x₁ p₁
      (kept-bind (l.keeps w n₁ x₁ p₁) (λ put n₂ x₂ p₂. kept-bind (keeps-more n m (omega arith) w n₂ x₂ p₂) (λ rest n₃ x₃ p₃. gave p₃)))))
    where
      at-end : (i : Bool) → blind i (λ k. eqb k K.END) ≡ true → (at x : ℕ) → Stands s t i at x → {o o' : Out A} → Kept s t flush o o'
          → Kept {A = A} s t flush (elim (is K.END s at) [ true ↦ ok none (at + 1) | false ↦ o ])
          (elim (is K.END t x) [ true ↦ ok none (x + 1) | false ↦ o' ])
      at-end i h at x p f = tested i (λ k. eqb k K.END) h w at x p (λ e q. kept-elim (is K.END s at) (is K.END t x) e
          (λ y. gave (rw (not-loop (λ k. eqb k K.END) (kind_at s at) refl y) at (on (q y)))) (λ _. f))

  -- item { ; item } [;] $)
  pub keeps-items : Keeps false flush flush (items none item)
  unfolding items
  keeps-items = record {
    local = L.local-items none item l.local;
    keeps = λ {s} {t} w at x p. kept-bind (l.keeps w at x p) (λ put n₁ x₁ p₁.
        kept-bind (keeps-more (length s.symbols) (length t.symbols) w.longer w n₁ x₁ p₁) (λ rest n₂ x₂ p₂. gave p₂));
  }

  -- { , item }
  pub keeps-further : Keeps false near near (further_items none item)
  unfolding further_items
  keeps-further = keeps-many none is_comma _ refl (at-any (after (keeps-the K.COMMA refl) (λ _. l))) refl

  -- [item { , item }] )
  pub keeps-up-to-close : Keeps false flush flush (up_to_close none item)
  unfolding up_to_close one_up_to_close any
  keeps-up-to-close = keeps-cond (λ k. eqb k K.CLOSE) refl (at-made _ (λ _. none) refl)
      (after l (λ put. after keeps-further (λ rest. after (keeps-the K.CLOSE refl) (λ _. keeps-return _))))
