-- What a reader answers, when it gives a tree at all: one rule for each way to put readers together, over one source.
use Rattle.laws.proofs.Basics.{ℕ, zero, suc, ◌+◌, ◌≡◌, refl, Bool, true, false, cond, length, eqb-true}
use Rattle.language.specs.Kinds.{COMMA, SEMICOLON, CLOSE, END}
use Rattle.language.specs.Reader.{Source, Out, ok, no, Reader, on_out, kind_at, is, unexpected, the, many_up_to, many, more_up_to, items, is_comma}
use Rattle.language.specs.Reader.{further_items, one_up_to_close, up_to_close}
use Rattle.language.specs.Expressions.{Readers, Inside, opening}
use Rattle.language.proofs.Levels.{InsideOf, none_left, some_left}

-- what is given has the property
pub data Of {A : Type 0} (P : A → Type 0) : Out A → Type 0 where
  given : {a : A} {next : ℕ} → P a → Of P (ok a next)
  refused : {number at : ℕ} → Of P (no number at)

-- what is given, and the position after it, are so related
pub data Answer {A : Type 0} (R : A → ℕ → Type 0) : Out A → Type 0 where
  answer : {a : A} {next : ℕ} → R a next → Answer R (ok a next)
  refusal : {number at : ℕ} → Answer R (no number at)

module _ {A B : Type 0} {Q : B → ℕ → Type 0} where
  pub bind : {R : A → ℕ → Type 0} {o : Out A} {f : A → ℕ → Out B} → Answer R o → ((a : A) (n : ℕ) → R a n → Answer Q (f a n)) → Answer Q (on_out o f)
  bind (answer r) g = g _ _ r
  bind refusal g = refusal

  -- what is given first does not matter
  pub on : (o : Out A) {f : A → ℕ → Out B} → ((a : A) (n : ℕ) → Answer Q (f a n)) → Answer Q (on_out o f)
  on (ok a n) g = g a n
  on (no number at) g = refusal

module _ {A : Type 0} {R : A → ℕ → Type 0} where
  -- a function, so that what is to be shown is known where it is shown
  pub give : {a : A} {n : ℕ} → R a n → Answer R (ok a n)
  give r = answer r

  pub related : {Q : A → ℕ → Type 0} {o : Out A} → Answer R o → ((a : A) (n : ℕ) → R a n → Q a n) → Answer Q o
  related (answer r) g = answer (g _ _ r)
  related refusal g = refusal

  pub either : {x y : Out A} (b : Bool) → (b ≡ true → Answer R x) → (b ≡ false → Answer R y) → Answer R (cond b x y)
  either true f g = f refl
  either false f g = g refl

  pub both : {x y : Out A} (b : Bool) → Answer R x → Answer R y → Answer R (cond b x y)
  both b p q = either b (λ _. p) (λ _. q)

  pub opened : {P : Readers → Type 0} {inner : Inside} {s : Source} {at : ℕ} (form : Readers → Reader A) → InsideOf P inner
      → ((r : Readers) → P r → Answer R (form r s at)) → Answer R (opening inner form s at)
  unfolding opening
  opened form none_left f = refusal
  opened form (some_left {r = r} p) f = f r p

  choice : {x y : Out A} (b : Bool) → (b ≡ true → Answer R x) → (b ≡ false → Answer R y) → Answer R (elim b [ true ↦ x | false ↦ y ])
  choice true f g = f refl
  choice false f g = g refl

-- past a symbol of a kind
pub record Past (s : Source) (at k n : ℕ) : Type 0 where
  pub kind : kind_at s at ≡ k
  pub next : n ≡ at + 1

pub past : (s : Source) (at kind : ℕ) → Answer (λ _ n. Past s at kind n) (the kind s at)
unfolding the unexpected
past s at kind = either (is kind s at) (λ e. answer (record { kind = eqb-true _ _ e; next = refl })) (λ _. refusal)

-- Lists, whose parts between two positions are so related. An item goes before a list
abbrev pub Put : {A : Type 0} → (ℕ → A → ℕ → Type 0) → ℕ → Out (A → A) → Type 0
Put {A} I at o = Answer (λ put n. (a : A) (m : ℕ) → I n a m → I at (put a) m) o

-- the list of no items stands between a position and itself
module _ {A : Type 0} (s : Source) (I : ℕ → A → ℕ → Type 0) (none : A) (nil : (at : ℕ) → I at none at) (item : Reader (A → A)) where
  before : {at : ℕ} {o : Out (A → A)} {rest : ℕ → Out A} → Put I at o → ((n : ℕ) → Answer (I n) (rest n))
      → Answer (I at) (on_out o (λ put n. on_out (rest n) (λ x m. ok (put x) m)))
  before p f = bind p (λ put n keep. bind (f n) (λ x m i. answer (keep x m i)))

  module _ (begins : ℕ → Bool) (g : (at : ℕ) → begins (kind_at s at) ≡ true → Put I at (item s at)) where
    pub many-up-to : (n at : ℕ) → Answer (I at) (many_up_to n none begins item s at)
    unfolding many_up_to
    many-up-to zero at = answer (nil at)
    many-up-to (suc n) at = choice (begins (kind_at s at)) (λ e. before (g at e) (many-up-to n)) (λ _. answer (nil at))

    pub many-of : (at : ℕ) → Answer (I at) (many none begins item s at)
    unfolding many
    many-of at = many-up-to (length s.symbols) at

  module _ (skip : (at : ℕ) (a : A) (m : ℕ) → I (at + 1) a m → I at a m) (g : (at : ℕ) → Put I at (item s at)) where
    at-end : {at : ℕ} {x : Out A} → Answer (I at) x → Answer (I at) (elim (is END s at) [ true ↦ ok none (at + 1) | false ↦ x ])
    at-end {at} f = choice (is END s at) (λ _. answer (skip at none (at + 1) (nil (at + 1)))) (λ _. f)

    skipped : {at n : ℕ} {o : Out A} → Past s at SEMICOLON n → Answer (I n) o → Answer (I at) o
    skipped {at} q f = related f (λ a m i. skip at a m (rw q.next at i))

    more_of : (n at : ℕ) → Answer (I at) (more_up_to n none item s at)
    unfolding more_up_to unexpected
    more_of zero at = refusal
    more_of (suc n) at = at-end (bind (past s at SEMICOLON) (λ _ m q. skipped q (at-end (before (g m) (more_of n)))))

    pub items_of : (at : ℕ) → Answer (I at) (items none item s at)
    unfolding items
    items_of at = before (g at) (more_of (length s.symbols))

module _ {A : Type 0} (s : Source) (I : ℕ → A → ℕ → Type 0) (none : A) (nil : (at : ℕ) → I at none at) (item : Reader (A → A)) where
  module _ (skip : (at : ℕ) (a : A) (m : ℕ) → I (at + 1) a m → I at a m) (g : (at : ℕ) → Put I at (item s at)) where
    pub further-of : (at : ℕ) → Answer (I at) (further_items none item s at)
    unfolding further_items
    further-of = many-of s I none nil _ is_comma
        (λ at _. bind (past s at COMMA) (λ _ n q. related (g n) (λ put m keep a k i. skip at (put a) k (rw q.next at (keep a k i)))))

    -- up to a closing bracket, which may change the relation
    pub close_of : (J : ℕ → A → ℕ → Type 0) → ((at : ℕ) (a : A) (m : ℕ) → kind_at s m ≡ CLOSE → I at a m → J at a (m + 1))
        → (at : ℕ) → Answer (J at) (up_to_close none item s at)
    unfolding up_to_close one_up_to_close
    close_of J close at = either (is CLOSE s at) (λ e. answer (close at none at (eqb-true _ _ e) (nil at)))
        (λ _. bind (g at) λ put n keep. bind (further-of n) λ a m i. bind (past s m CLOSE) λ _ k q.
        answer (rw q.next (close at (put a) m q.kind (keep a m i))))
