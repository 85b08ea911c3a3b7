-- Laws of room: what one call after another leaves of what the symbols read allow, and what the next call may ask.
use Rattle.laws.proofs.Basics.{ℕ, ◌+◌, ◌-◌, ◌*◌, ◌^◌, ◌<◌, ◌≤◌, ◌≡◌, refl, ap, ◌∙◌, List, true, length, take, leb, arith, leb-true}
use Rattle.tree.specs.Reads.{Ready, LeavesRoom, TakesRoom, next_of, low_of, free_of, live, reach}
use Rattle.tree.proofs.Helpers.{itself, base, low}
use Rattle.tree.specs.declared.scratch.State.{State}
use Rattle.tree.specs.declared.scratch.State.TheVariants.{Read, Refused}

-- a refusal stays one
by-lives : (P : ℕ → ℕ → Type 0) → P 0 0 → P 1 0 → P 1 1 → (r r' : State) → live r' ≤ live r → P (live r) (live r')
unfolding live
by-lives P a b c (Refused k p) (Refused i q) h = a
by-lives P a b c (Refused k p) (Read at free) h = absurd (omega arith)
by-lives P a b c (Read at free) (Refused k p) h = b
by-lives P a b c (Read at free) (Read m nf) h = c

-- from r to r' so many entries are gained, and so many lost
pub record Moves (gain loss : ℕ) (s s' : List ℕ) (n : ℕ) (r r' : State) : Type 0 where
  pub placed : next_of r' ≤ n
  pub above : n * 3 ≤ low_of n r'
  pub moves : reach n r' + live r' * gain ≤ reach n r + live r' * loss
  pub lives : live r' ≤ live r
  pub dead : reach n r' ≤ live r' * 2 ^ 32
  pub kept : take (n * 3) s' ≡ take (n * 3) s

module _ {s s' : List ℕ} {n : ℕ} {r r' : State} where
  pub left : {k : ℕ} → LeavesRoom k s s' n r r' → Moves k 0 s s' n r r'
  left f = record { placed = f.placed; above = f.above; moves = omega (arith, f.leaves); lives = f.lives; dead = f.dead; kept = f.kept }

  pub taken : {k : ℕ} → TakesRoom k s s' n r r' → Moves 0 k s s' n r r'
  taken f = record { placed = f.placed; above = f.above; moves = omega (arith, f.more); lives = f.lives; dead = f.dead; kept = f.kept }

  leaving : {a b m : ℕ} → Moves a b s s' n r r' → m + b ≤ a → LeavesRoom m s s' n r r'
  leaving {a} {b} {m} f h = record {
    placed = f.placed;
    above = f.above;
    leaves = by-lives (λ _ y. reach n r' + y * a ≤ reach n r + y * b → reach n r' + y * m ≤ reach n r) (omega arith) (omega arith) (omega arith) r
        r' f.lives f.moves;
    lives = f.lives;
    dead = f.dead;
    kept = f.kept;
  }

  taking : {a b m : ℕ} → Moves a b s s' n r r' → b ≤ a + m → TakesRoom m s s' n r r'
  taking {a} {b} {m} f h = record {
    placed = f.placed;
    above = f.above;
    more = by-lives (λ _ y. reach n r' + y * a ≤ reach n r + y * b → reach n r' ≤ reach n r + y * m) (omega arith) (omega arith) (omega arith) r
        r' f.lives f.moves;
    lives = f.lives;
    dead = f.dead;
    kept = f.kept;
  }

  pub room-left : {m a b : ℕ} → Moves a b s s' n r r' → leb (m + b) a ≡ true → LeavesRoom m s s' n r r'
  room-left {m} {a} {b} f h = leaving f (omega (arith, leb-true (m + b) a h))

  pub room-taken : {m a b : ℕ} → Moves a b s s' n r r' → leb b (a + m) ≡ true → TakesRoom m s s' n r r'
  room-taken {m} {a} {b} f h = taking f (omega (arith, leb-true b (a + m) h))

  -- one call
  pub leaves-less : {m j : ℕ} → LeavesRoom j s s' n r r' → leb m j ≡ true → LeavesRoom m s s' n r r'
  leaves-less {m} {j} f h = leaving (left f) (omega (arith, leb-true m j h))

  pub takes-more : {m j : ℕ} → TakesRoom j s s' n r r' → leb j m ≡ true → TakesRoom m s s' n r r'
  takes-more {m} {j} f h = taking (taken f) (omega (arith, leb-true j m h))

  pub takes_none : {m j : ℕ} → LeavesRoom j s s' n r r' → TakesRoom m s s' n r r'
  takes_none f = taking (left f) (omega arith)

  -- what the next call may ask
  pub ready-leaves : {m k : ℕ} → LeavesRoom k s s' n r r' → length s' ≡ length s → leb m 64 ≡ true → Ready (m - k) s n r → Ready m s' n r'
  ready-leaves {m} {k} f e q h = record {
    placed = f.placed;
    above = f.above;
    room = by-lives (λ _ y. reach n r' + y * k ≤ reach n r → reach n r' ≤ y * 2 ^ 32 → reach n r' + m ≤ length s')
        (omega (arith, h.wide, leb-true m 64 q)) (omega (arith, h.wide, leb-true m 64 q)) (omega (arith, h.room)) r r' f.lives f.leaves
        f.dead;
    wide = omega (arith, h.wide);
    small = omega (arith, h.small);
  }

  pub ready-takes : {m k : ℕ} → TakesRoom k s s' n r r' → length s' ≡ length s → Ready (m + k) s n r → Ready m s' n r'
  ready-takes {m} {k} f e h = record {
    placed = f.placed;
    above = f.above;
    room = by-lives (λ _ y. reach n r' ≤ reach n r + y * k → reach n r' ≤ y * 2 ^ 32 → reach n r' + m ≤ length s')
        (omega (arith, h.room)) (omega (arith, h.room)) (omega (arith, h.room)) r r' f.lives f.more f.dead;
    wide = omega (arith, h.wide);
    small = omega (arith, h.small);
  }

module _ {s s' s'' : List ℕ} {n : ℕ} {r r' r'' : State} where
  infixr 5 ◌and_then◌
  ◌and_then◌ : {a b c d : ℕ} → Moves a b s s' n r r' → Moves c d s' s'' n r' r'' → Moves (a + c) (b + d) s s'' n r r''
  ◌and_then◌ {a} {b} {c} {d} f g = record {
    placed = g.placed;
    above = g.above;
    moves = by-lives (λ x y. reach n r' + x * a ≤ reach n r + x * b → reach n r'' + y * c ≤ reach n r' + y * d → reach n r'' ≤ y * 2 ^ 32
        → reach n r'' + y * (a + c) ≤ reach n r + y * (b + d))
        (omega arith) (omega arith) (omega arith) r' r'' g.lives f.moves g.moves g.dead;
    lives = omega (arith, f.lives, g.lives);
    dead = g.dead;
    kept = g.kept ∙ f.kept;
  }

  -- one call after another, and what they leave or take together
  infixl 6 ◌plus◌
  pub ◌plus◌ : {a b k : ℕ} → Moves a b s s' n r r' → LeavesRoom k s' s'' n r' r'' → Moves (a + k) (b + 0) s s'' n r r''
  f plus g = f and_then left g

  infixl 6 ◌less◌
  pub ◌less◌ : {a b k : ℕ} → Moves a b s s' n r r' → TakesRoom k s' s'' n r' r'' → Moves (a + 0) (b + k) s s'' n r r''
  f less g = f and_then taken g

  -- what either of two calls leaves, both leave
  pub leaves-first : {j k : ℕ} → LeavesRoom j s s' n r r' → LeavesRoom k s' s'' n r' r'' → LeavesRoom j s s'' n r r''
  leaves-first f g = leaving (left f and_then left g) (omega arith)

  pub leaves_last : {j k : ℕ} → LeavesRoom j s s' n r r' → LeavesRoom k s' s'' n r' r'' → LeavesRoom k s s'' n r r''
  leaves_last f g = leaving (left f and_then left g) (omega arith)

module _ {j : ℕ} {s : List ℕ} {n : ℕ} {r : State} where
  pub ready-part : {m : ℕ} → Ready j s n r → leb m j ≡ true → Ready m s n r
  ready-part {m} h q =
      record { placed = h.placed; above = h.above; room = omega (arith, h.room, leb-true m j q); wide = h.wide; small = h.small }

  pub leaves_all : Ready j s n r → LeavesRoom 0 s s n r r
  leaves_all h = itself h

-- the same after a call, by what it asked and ensures: of a symbol, of a part, and of a part that was asked something more
module _ {s : List ℕ} {n : ℕ} {r r' : State} {m : ℕ} {X Y : Type 0} where
  pub past-symbol : leb m 5 ≡ true → (Ready 0 s n r × Y) × (LeavesRoom 5 s s n r r' × X) → Ready m s n r'
  past-symbol q e = ready-part (ready-leaves {m = 5} e.1.0 refl refl e.0.0) q

  module _ {s' : List ℕ} {j k : ℕ} (q : leb m j ≡ true) where
    pub past-part : (Y × Ready j s n r) × (LeavesRoom k s s' n r r' × X) → length s' ≡ length s → Ready m s' n r'
    past-part e l = let f = e.1.0 in let h = e.0.1 in record {
      placed = f.placed;
      above = f.above;
      room = omega (arith, f.leaves, h.room, leb-true m j q);
      wide = omega (arith, h.wide);
      small = omega (arith, h.small);
    }

    pub past-expression : {Z : Type 0} → (Y × (Ready j s n r × Z)) × (LeavesRoom k s s' n r r' × X) → length s' ≡ length s → Ready m s' n r'
    past-expression e = past-part ((e.0.0, e.0.1.0), e.1)

-- an item begins behind the symbols, and what it holds is smaller than an entry can count
module _ {s : List ℕ} {n : ℕ} {r : State} where
  pub item-low : {lo : ℕ} → lo ≡ free_of (length s) r → Ready 0 s n r → n * 3 ≤ lo
  item-low e h = omega (arith, base h)

  pub size_small : (lo : ℕ) {size free : ℕ} → size ≡ free - lo → free ≡ free_of (length s) r → Ready 0 s n r → size < 2 ^ 32
  size_small lo q e h = omega (arith, low h, h.small)

-- the next free entry, and the size of what stands from lo on, where scratch is as long as it was
pub freed : (r : State) {free z z' : ℕ} → free ≡ free_of z' r → z' ≡ z → free ≡ free_of z r
freed r e k = e ∙ ap (λ (x : ℕ). free_of x r) k

pub measured : (r : State) (lo : ℕ) {size free z z' : ℕ} → size ≡ free - lo → free ≡ free_of z' r → z' ≡ z → size ≡ free_of z r - lo
measured r lo q e k = q ∙ ap (λ (y : ℕ). y - lo) (freed r e k)

-- the size of what stands between two states
pub for-size :
    (r r' : State) {value free free' z z' : ℕ} → value ≡ free - free' → free ≡ free_of z' r → free' ≡ free_of z' r' → z' ≡ z
    → value ≡ free_of z r - free_of z r'
for-size r r' v e e' k = let a = freed r e k in let b = freed r' e' k in omega arith
