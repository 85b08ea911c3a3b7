-- What a reader gives, and how many symbols it takes: rules for each way to put readers together, over one source.
use Rattle.laws.proofs.Basics.{ℕ, suc, ◌+◌, ◌<◌, ◌≤◌, ◌≡◌, refl, sym, ◌∙◌, Bool, true, arith, eqb-true}
use Rattle.language.specs.Kinds.{SEMICOLON, CLOSE, NAME, NUMBER, STRING}
use Rattle.language.specs.Binding.{is_repeat}
use Rattle.language.specs.Tree.{Name}
use Rattle.language.specs.Fine.{FineName}
use Rattle.language.specs.Reader.{Source, Out, ok, no, Reader, on_out, symbol_at, kind_at, value_at, place_at, is, unexpected, any, the, optional}
use Rattle.language.specs.Reader.{a_name, many_up_to, many, items, further_items, up_to_close}
use Rattle.language.proofs.Gives as Gives
use Rattle.language.proofs.Gives.{Answer, refusal, give, either, Put}

-- a count of the symbols before a position, semicolons apart; and what is known of the symbols' values
pub record Counts (loops : ℕ) (s : Source) (strings : ℕ) (c : ℕ → ℕ) : Type 0 where
  pub up : (at : ℕ) → c at ≤ c (at + 1)
  pub one : (at : ℕ) → 1 ≤ kind_at s at → (kind_at s at ≡ SEMICOLON → ⊥) → suc (c at) ≤ c (at + 1)
  -- a REPEAT form is counted as so many
  pub again : (at : ℕ) → is_repeat (kind_at s at) ≡ true → c at + loops ≤ c (at + 1)
  pub most : (at : ℕ) → c at ≤ 65535
  pub numbers : (at : ℕ) → kind_at s at ≡ NUMBER → value_at s at < 65536
  pub names : (at : ℕ) → kind_at s at ≡ NAME → FineName (record { place = place_at s at; width = value_at s at })
  pub quotes : (at : ℕ) → kind_at s at ≡ STRING → value_at s at < strings

-- a kind that is a symbol, and no semicolon
abbrev pub Solid : ℕ → Type 0
Solid k = (1 ≤ k) × (k ≡ SEMICOLON → ⊥)

-- what is given has the property, and is not written with fewer symbols than so many
pub data Of {loops : ℕ} (s : Source) (strings : ℕ) (c : ℕ → ℕ) (k : Counts loops s strings c) {A : Type 0} (P : A → Type 0) (W : A → ℕ) (at : ℕ)
    : Out A → Type 0 where
  given : {a : A} {next : ℕ} → P a → c at + W a ≤ c next → Of s strings c k P W at (ok a next)
  refused : {number place : ℕ} → Of s strings c k P W at (no number place)

pub record NameHere (s : Source) (at : ℕ) (n : Name) : Type 0 where
  pub stands_here : n.place ≡ place_at s at
  pub fine : FineName n

-- the same between two positions
pub record Written {loops : ℕ} {s : Source} {strings : ℕ} {c : ℕ → ℕ} (k : Counts loops s strings c) {A : Type 0} (P : A → Type 0) (W : A → ℕ)
    (at : ℕ) (a : A) (next : ℕ) : Type 0 where
  pub has : P a
  pub taken : c at + W a ≤ c next

module _ {loops : ℕ} {s : Source} {strings : ℕ} {c : ℕ → ℕ} {k : Counts loops s strings c} where
  pub got : {A : Type 0} {P : A → Type 0} {W : A → ℕ} {at : ℕ} {a : A} {n : ℕ} → P a → c at + W a ≤ c n → Answer (Written k P W at) (ok a n)
  got p l = give (record { has = p; taken = l })

  pub take : {A B : Type 0} {P : A → Type 0} {W : A → ℕ} {Q : B → ℕ → Type 0} {at : ℕ} {o : Out A} {f : A → ℕ → Out B} → Answer (Written k P W at) o
      → ((a : A) (n : ℕ) → P a → c at + W a ≤ c n → Answer Q (f a n)) → Answer Q (on_out o f)
  take p g = Gives.bind p (λ a n q. g a n q.has q.taken)

  -- what an item puts before a list keeps the property, and adds no more symbols than were taken
  pub putting : {A : Type 0} {P : A → Type 0} {W : A → ℕ} {at : ℕ} {put : A → A} {n : ℕ} → ((a : A) → P a → P (put a))
      → ((a : A) → c at + W (put a) ≤ c n + W a) → Put (Written k P W) at (ok put n)
  putting keep adds = give (λ a m i. record { has = keep a i.has; taken = omega (arith, adds a) })

module _ {loops : ℕ} {s : Source} {strings : ℕ} {c : ℕ → ℕ} (k : Counts loops s strings c) where
  -- of what is only passed over
  abbrev pub Passed : {A : Type 0} → ℕ → ℕ → A → ℕ → Type 0
  Passed w at = Written k (λ _. Unit) (λ _. w) at

  solid : (at kind : ℕ) → kind_at s at ≡ kind → Solid kind → suc (c at) ≤ c (at + 1)
  solid at kind e h = k.one at (rw e h.0) (λ z. h.1 (sym e ∙ z))

  -- a symbol of a kind
  pub the_one : (kind at : ℕ) → Solid kind → Answer (Passed 1 at) (the kind s at)
  unfolding the unexpected
  the_one kind at h = either (is kind s at) (λ e. got tt (omega (arith, solid at kind (eqb-true _ _ e) h))) (λ _. refusal)

  -- a semicolon, which is not counted
  pub the-semicolon : (at : ℕ) → Answer (Passed 0 at) (the SEMICOLON s at)
  unfolding the unexpected
  the-semicolon at = either (is SEMICOLON s at) (λ _. got tt (omega (arith, k.up at))) (λ _. refusal)

  pub optional-semicolon : (at : ℕ) → Answer (Passed 0 at) (optional SEMICOLON s at)
  unfolding optional
  optional-semicolon at = either (is SEMICOLON s at) (λ _. got tt (omega (arith, k.up at))) (λ _. got tt (omega arith))

  pub a-name : (at : ℕ) → Answer (Written k (NameHere s at) (λ _. 1) at) (a_name s at)
  unfolding a_name unexpected
  a-name at = either (is NAME s at)
      (λ e. got (record { stands_here = refl; fine = k.names at (eqb-true _ _ e) }) (omega (arith, solid at NAME (eqb-true _ _ e) (omega arith))))
      (λ _. refusal)

  pub any-one : (at : ℕ) → Solid (kind_at s at) → Answer (Written k (λ x. x ≡ symbol_at s at) (λ _. 1) at) (any s at)
  unfolding any
  any-one at h = got refl (omega (arith, k.one at h.0 h.1))

  -- a REPEAT form's word
  pub again-one : (at : ℕ) → is_repeat (kind_at s at) ≡ true → Answer (Passed loops at) (any s at)
  unfolding any
  again-one at h = got tt (omega (arith, k.again at h))

  pub again-the : (at : ℕ) → is_repeat (kind_at s at) ≡ true → (kind : ℕ) → Answer (Passed loops at) (the kind s at)
  unfolding the unexpected
  again-the at h kind = either (is kind s at) (λ _. got tt (omega (arith, k.again at h))) (λ _. refusal)

  -- ---- lists

  module _ {A : Type 0} (P : A → Type 0) (W : A → ℕ) (none : A) (p : P none) (w : W none ≤ 0) (item : Reader (A → A)) where
    nil : (at : ℕ) → Written k P W at none at
    nil at = record { has = p; taken = omega arith }

    skip : (at : ℕ) (a : A) (m : ℕ) → Written k P W (at + 1) a m → Written k P W at a m
    skip at a m i = record { has = i.has; taken = omega (arith, i.taken, k.up at) }

    module _ (begins : ℕ → Bool) (g : (at : ℕ) → begins (kind_at s at) ≡ true → Put (Written k P W) at (item s at)) where
      pub many-up-to : (n at : ℕ) → Answer (Written k P W at) (many_up_to n none begins item s at)
      many-up-to = Gives.many-up-to s (Written k P W) none nil item begins g

      pub many-of : (at : ℕ) → Answer (Written k P W at) (many none begins item s at)
      many-of = Gives.many-of s (Written k P W) none nil item begins g

    module _ (g : (at : ℕ) → Put (Written k P W) at (item s at)) where
      pub items_of : (at : ℕ) → Answer (Written k P W at) (items none item s at)
      items_of = Gives.items_of s (Written k P W) none nil item skip g

      pub further-of : (at : ℕ) → Answer (Written k P W at) (further_items none item s at)
      further-of = Gives.further-of s (Written k P W) none nil item skip g

      -- up to a closing bracket, which is counted
      pub close_of : (at : ℕ) → Answer (Written k P (λ b. suc (W b)) at) (up_to_close none item s at)
      close_of = Gives.close_of s (Written k P W) none nil item skip g (Written k P (λ b. suc (W b)))
          (λ at a m e i. record { has = i.has; taken = omega (arith, i.taken, solid m CLOSE e (omega arith)) })
