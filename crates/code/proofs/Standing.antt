-- What stands in memory while a program runs: its code, told by what each instruction's fetch gives, with start and end addresses.
use Rattle.laws.proofs.Basics.{ℕ, suc, ◌+◌, ◌<◌, ◌≤◌, ◌≡◌, refl, List, [], ◌∷◌, ◌++◌, Bool, true, false, cond, length, get_or}
use Rattle.words.specs.Words.{add}
use Rattle.items.specs.Item as I
use Rattle.items.specs.Item.{number, address, Base, P, G, Item, label, instruction, constant, string, global}
use Rattle.text.specs.Packed.{packed}
use Rattle.machine.specs.Outcome.{Out, ok, ◌>>=◌, read}
use Rattle.machine.specs.Fetch.{Fetch, fetch}
use Rattle.machine.specs.declared.Registers.{Registers}
use Rattle.language.specs.Resolved.{Fun}
use Rattle.language.specs.Run.{Placement}

-- what is fixed: the input, the memory at the start, which of its words are code, where frames must end, labels' addresses, functions
-- and placement
pub record Env : Type 0 where
  pub input : List ℕ
  pub image : List ℕ
  pub is_code : ℕ → Bool
  pub limit : ℕ
  pub lab : ℕ → ℕ
  pub functions : List Fun
  pub place : Placement

-- the operand before it is fetched through I
abbrev pub sum_of : Base → ℕ → Registers → ℕ
sum_of I.none k r = add (add k 0) 0
sum_of P k r = add (add k r.p) 0
sum_of G k r = add (add k 0) r.g

-- what the fetch of an instruction gives
abbrev pub fetches : (f : ℕ) (i : Bool) (past : ℕ) (m : List ℕ) (sum : ℕ) → Out Fetch
fetches f i b m x = cond i (read m x) (ok x) >>= (λ y. ok (record { function = f; operand = y; past = b }))

module _ (Γ : Env) where
  -- the memory has the program in place
  pub record Agree (m : List ℕ) : Type 0 where
    pub size : length m ≡ length Γ.image
    pub same : (x : ℕ) → Γ.is_code x ≡ true → get_or m x 0 ≡ get_or Γ.image x 0

  -- wherever the program is in place, an instruction stands at a, and the next one at b
  pub record At (a f : ℕ) (i : Bool) (base : Base) (k b : ℕ) : Type 0 where
    pub small : k < 65536
    pub is : (r : Registers) (m : List ℕ) → Agree m → r.c ≡ a → fetch r m ≡ fetches f i b m (sum_of base k r)

  -- a data word
  pub record Word (a v : ℕ) : Type 0 where
    pub below : a < length Γ.image
    pub is : (m : List ℕ) → Agree m → get_or m a 0 ≡ v

  -- an item from a to b
  pub data Is : ℕ → Item → ℕ → Type 0 where
    is_number : {f k a b : ℕ} {i : Bool} {base : Base} → At a f i base k b → Is a (instruction f i base (number false k)) b
    is_address : {f l a b : ℕ} {i : Bool} {base : Base} → 1 ≤ l → At a f i base (Γ.lab l) b → Is a (instruction f i base (address l)) b
    is-label : {l a b : ℕ} → Γ.lab l ≡ a → a ≡ b → Is a (label l) b
    is_word : {k a b : ℕ} → Word a k → suc a ≡ b → Is a (constant (number false k)) b
    is-place : {l a b : ℕ} → Word a (Γ.lab l) → suc a ≡ b → Is a (constant (address l)) b
    -- the strings' words at the start; and items that no code has
    is-string : {cs : List ℕ} {a b : ℕ} → ((j : ℕ) → j < length (packed cs) → get_or Γ.image (a + j) 0 ≡ get_or (packed cs) j 0)
        → a + length (packed cs) ≡ b → Is a (string cs) b
    is-global : {n m a b : ℕ} → a ≡ b → Is a (global n m) b
    is-minus : {f k a b : ℕ} {i : Bool} {base : Base} → Is a (instruction f i base (number true k)) b
    is_negative : {k a b : ℕ} → Is a (constant (number true k)) b

  pub data Code : ℕ → List Item → ℕ → Type 0 where
    end : {a b : ℕ} → a ≡ b → Code a [] b
    next : {x : Item} {xs : List Item} {a b c : ℕ} → Is a x c → Code c xs b → Code a (x ∷ xs) b

  -- the two parts of a code, and where they meet
  pub record Parts (a : ℕ) (xs ys : List Item) (b : ℕ) : Type 0 where
    pub mid : ℕ
    pub fst : Code a xs mid
    pub snd : Code mid ys b

  more : {x : Item} {xs ys : List Item} {a b c : ℕ} → Is a x c → Parts c xs ys b → Parts a (x ∷ xs) ys b
  more i q = record { mid = q.mid; fst = next i q.fst; snd = q.snd }

  pub split : (xs ys : List Item) {a b : ℕ} → Code a (xs ++ ys) b → Parts a xs ys b
  split [] ys {a} k = record { mid = a; fst = end refl; snd = k }
  split (x ∷ xs) ys (next i k) = more i (split xs ys k)

  -- the same with the parts handed on as variables
  pub cut : {T : Type 0} (xs ys : List Item) {a b : ℕ} → Code a (xs ++ ys) b → ((c : ℕ) → Code a xs c → Code c ys b → T) → T
  cut xs ys k f = let q = split xs ys k in f q.mid q.fst q.snd

  -- the first item taken off
  pub cut-number : {T : Type 0} {a f k b : ℕ} {i : Bool} {base : Base} {xs : List Item} → Code a (instruction f i base (number false k) ∷ xs) b
      → ((c : ℕ) → At a f i base k c → Code c xs b → T) → T
  cut-number (next {c = c} (is_number t) r) u = u c t r

  pub cut-address : {T : Type 0} {a f l b : ℕ} {i : Bool} {base : Base} {xs : List Item} → Code a (instruction f i base (address l) ∷ xs) b
      → ((c : ℕ) → 1 ≤ l → At a f i base (Γ.lab l) c → Code c xs b → T) → T
  cut-address (next {c = c} (is_address o t) r) u = u c o t r

  pub cut-label : {T : Type 0} {a l b : ℕ} {xs : List Item} → Code a (label l ∷ xs) b → (Γ.lab l ≡ a → Code a xs b → T) → T
  cut-label {T} {a} {l} {b} {xs} (next (is-label t e) r) u = u t (rw e r)

  pub cut_word : {T : Type 0} {a k b : ℕ} {xs : List Item} → Code a (constant (number false k) ∷ xs) b → (Word a k → Code (suc a) xs b → T) → T
  cut_word {T} {a} {k} {b} {xs} (next (is_word t e) r) u = u t (rw e r)

  pub cut-place : {T : Type 0} {a l b : ℕ} {xs : List Item} → Code a (constant (address l) ∷ xs) b → (Word a (Γ.lab l) → Code (suc a) xs b → T) → T
  cut-place {T} {a} {l} {b} {xs} (next (is-place t e) r) u = u t (rw e r)

  pub at-end : {a b : ℕ} → Code a [] b → a ≡ b
  at-end (end e) = e

  pub code-append : {xs ys : List Item} {a b c : ℕ} → Code a xs b → Code b ys c → Code a (xs ++ ys) c
  code-append {ys = ys} {c = c} (end e) k = rw e k
  code-append (next i j) k = next i (code-append j k)
