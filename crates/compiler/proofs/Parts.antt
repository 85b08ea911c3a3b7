-- From a tree that is ready to its parts.
use Rattle.laws.proofs.Basics.{ℕ, ◌+◌, ◌-◌, ◌*◌, ◌^◌, ◌<◌, ◌≤◌, ◌≡◌, refl, ◌∙◌, List, ◌++◌, length, get_or, length-append, arith}
use Rattle.tree.specs.Encoding.{closed}
use Rattle.compiler.proofs.Language.{Name, Scope, encode_names, FineNames}
use Rattle.compiler.proofs.Vocabulary.{Shows, Keeps, State, Here, Holds, Ready, ReadyNames}
use Rattle.compiler.proofs.Scoping.{keeps-shows}
use Rattle.compiler.proofs.Trees.{first, second, keeps-lies, kid, ends, value-is, size_is, IsTwo, is-two}

-- two parts, one after the other, in one record
pub record TwoAt (s : List ℕ) (lo end : ℕ) (x y : List ℕ) : Type 0 where
  pub lies : Holds s lo x
  pub lies-list : Holds s (lo + length x) y
  pub value_of : get_or s (end - 3) 0 ≡ length x
  pub size_of : get_or s (end - 4) 0 ≡ length x + length y
  pub ends : end ≡ lo + length x + length y + 4

pub two_at : {s : List ℕ} {lo end : ℕ} (x y : List ℕ) (p k : ℕ) → Holds s lo (closed (x ++ y) (length x) p k)
    → end ≡ lo + length (closed (x ++ y) (length x) p k) → TwoAt s lo end x y
two_at {lo = lo} x y p k h e = let w = x ++ y in let v = length x in record {
  lies = first x y (kid w v p k h e);
  lies-list = second x y (lo + length x) (kid w v p k h e) refl;
  value_of = value-is w v p k h e;
  size_of = size_is w v p k h e ∙ length-append x y;
  ends = omega (arith, ends w v p k h e, length-append x y);
}

pub two-closed : {A L T : Type 0} (one : A → List ℕ) (enc : L → List ℕ) (Is : A → L → T) {s : List ℕ} {lo end : ℕ} (x : A) (xs : L) (p k : ℕ)
    → Holds s lo (closed (one x ++ enc xs) (length (one x)) p k) → end ≡ lo + length (closed (one x ++ enc xs) (length (one x)) p k)
    → IsTwo one enc Is s lo end (Is x xs)
two-closed one enc Is x xs p k h e = let w = one x ++ enc xs in let v = length (one x) in
    is-two one enc Is x xs (kid w v p k h e) (size_is w v p k h e) (value-is w v p k h e) (ends w v p k h e)

-- a part lies inside, and there are heights, labels and levels for it
pub record Fits {B : Type 0} (enc : B → List ℕ) (deep : B → ℕ) (lo end : ℕ) (here : Here) (lo' end' : ℕ) (here' : Here) (st' : State) (part : B)
    : Type 0 where
  pub ends : end' ≡ lo' + length (enc part)
  pub low : lo ≤ lo'
  pub high : end' ≤ end
  pub strings : here'.strings ≡ here.strings
  pub height : here'.height + 4100 * length (enc part) ≤ 2 ^ 29
  pub label : st'.label + 2 * length (enc part) ≤ 2 ^ 29
  pub some : 0 < st'.label
  pub shallow : deep part ≤ here'.left

module _ {A B : Type 0} {enc_a : A → List ℕ} {deep_a : A → ℕ} {FineA : A → Type 0} {enc_b : B → List ℕ} {deep_b : B → ℕ} {FineB : B → Type 0}
    {s s' : List ℕ} {end : ℕ} {here : Here} {st : State} {end' lo' : ℕ} {here' : Here} {st' : State} {part : B}
    (y : Ready enc_a deep_a FineA s end here st) (k : Keeps y.base here.top s s') where
  -- in another scope
  abbrev pub moved : (sc : Scope) → Holds s lo' (enc_b part) → Shows s' here'.top sc → here'.top * 2 + length (enc_b part) ≤ y.base * 2
      → Fits enc_b deep_b y.lo end here lo' end' here' st' part → FineB part → Ready enc_b deep_b FineB s' end' here' st'
  moved sc h shows room f fine = record {
    base = y.base;
    lo = lo';
    tree = part;
    scope = sc;
    lies = keeps-lies k (omega arith) h;
    ends = f.ends;
    above = omega arith;
    long = omega arith;
    small = omega arith;
    shows = shows;
    room = room;
    height = f.height;
    label = f.label;
    some = f.some;
    strings = omega arith;
    shallow = f.shallow;
    fine = fine;
  }

  -- in the same scope
  abbrev pub sub : Holds s lo' (enc_b part) → here'.top ≡ here.top → Fits enc_b deep_b y.lo end here lo' end' here' st' part → FineB part
      → Ready enc_b deep_b FineB s' end' here' st'
  sub h top f fine = moved y.scope h (keeps-shows k (omega arith) (rw top y.shows)) (omega arith) f fine

-- names that stand there, with room for them
abbrev pub ready-names : {s : List ℕ} {from end top height : ℕ} (base : ℕ) (sc : Scope) (ns : List Name) → Holds s from (encode_names ns)
    → Shows s top sc → FineNames ns → (end ≡ from + length (encode_names ns)) × (base ≤ from) × (base ≤ length s) × (end < 2 ^ 32)
    × (top + 2 * length ns ≤ base) × (height + length ns ≤ 2 ^ 29) → ReadyNames s from end top height
ready-names base sc ns h sh f b = record {
  base = base;
  scope = sc;
  names = ns;
  lies = h;
  ends = b.0;
  above = b.1;
  long = b.2;
  small = b.3;
  shows = sh;
  room = b.4;
  heights = b.5;
  fine = f;
}
