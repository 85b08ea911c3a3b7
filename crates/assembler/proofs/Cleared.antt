-- A memory of zeros with the words in it that do not come from the text.
use Rattle.laws.proofs.Basics.{ℕ, ◌+◌, ◌-◌, ◌≤◌, ◌≡◌, refl, sym, ap, ◌∙◌, List, [], ◌∷◌, ◌++◌, length, set, replicate, replicate-append-replicate}
use Rattle.laws.proofs.Basics.{drop, arith}
use Rattle.assembler.specs.Assemble.{start}
use Rattle.words.specs.Globals.{no_globals}
use Rattle.assembler.specs.Passes.{Zeros}

-- words 0 to 7, and globals 13 and 14
abbrev fixed : List ℕ → List ℕ
fixed m = set (set ((5121 ∷ 49154 ∷ 57366 ∷ 57371 ∷ 57348 ∷ 6146 ∷ 57372 ∷ 57348 ∷ []) ++ drop 8 m) 29 3) 30 5

fixed-zeros : (t : List ℕ) → fixed (replicate 416 0 ++ t) ≡ start ++ no_globals ++ t
unfolding no_globals
fixed-zeros t = refl

pub fixed-is : (m : List ℕ) → Zeros m → 416 ≤ length m → fixed m ≡ start ++ no_globals ++ replicate (length m - 416) 0
fixed-is m z h = let n : 416 + (length m - 416) ≡ length m = omega arith in
    let e : m ≡ replicate 416 0 ++ replicate (length m - 416) 0 = z ∙ sym (replicate-append-replicate 416 (length m - 416) 0 ∙ rw n) in
    ap fixed e ∙ fixed-zeros (replicate (length m - 416) 0)
