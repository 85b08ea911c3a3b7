-- Names, what they mean, and the scope in which a name is looked up (document 01, "Grammar", its last paragraph).
use Rattle.std.specs.Prelude.{ℕ, Bool, true, false, cond, ◌&&◌, List, [], ◌∷◌, take, drop, eqb}
use Rattle.language.specs.Tree.{Name}

-- a local, parameter, vector or FOR name is a word of the frame; a global and a manifest name have their numbers; a function is
-- known by its position in the text, from 0
pub data Meaning : Type 0 where
  local : (offset : ℕ) → Meaning
  global : (number : ℕ) → Meaning
  manifest : (value : ℕ) → Meaning
  function : (position : ℕ) → Meaning

pub data Found : Type 0 where
  unknown : Found
  known : Meaning → Found

-- the names declared so far, the last one outermost here, with a mark where a block opens. The outermost level is one block
pub data Scope : Type 0 where
  outermost : Scope
  opened : Scope → Scope
  declared : Scope → Name → Meaning → Scope

unfoldable pub same_bytes : List ℕ → List ℕ → Bool
same_bytes [] [] = true
same_bytes [] (d ∷ ds) = false
same_bytes (c ∷ cs) [] = false
same_bytes (c ∷ cs) (d ∷ ds) = cond (eqb c d) (same_bytes cs ds) false

-- names are the same if they are as wide, and their bytes in the text the same
abbrev pub spelling : List ℕ → Name → List ℕ
spelling text n = take n.width (drop n.place text)

abbrev pub same_name : List ℕ → Name → Name → Bool
same_name text n m = eqb n.width m.width && same_bytes (spelling text n) (spelling text m)

-- the innermost match, of the later declaration first
unfoldable pub lookup : List ℕ → Scope → Name → Found
lookup text outermost n = unknown
lookup text (opened s) n = lookup text s n
lookup text (declared s m w) n = cond (same_name text m n) (known w) (lookup text s n)

-- what a name means in the innermost block itself
unfoldable pub in_block : List ℕ → Scope → Name → Found
in_block text outermost n = unknown
in_block text (opened s) n = unknown
in_block text (declared s m w) n = cond (same_name text m n) (known w) (in_block text s n)

-- by whether a name is known
abbrev pub on_found : {A : Type 0} → Found → A → A → A
on_found unknown a b = a
on_found (known w) a b = b
