-- The text as lines; globals in scope.
use Rattle.laws.proofs.Basics.{ℕ, ◌<◌, ◌≡◌, refl, ap, ◌∙◌, List, [], ◌∷◌, ◌++◌, append_assoc, arith}
use Rattle.laws.proofs.Cases.{by_cases, contradiction}
use Rattle.items.specs.Item.{Item}
use Rattle.items.specs.Render.{render, render_lines, render_all}
use Rattle.writing.specs.Text.{line, lines}
use Rattle.compiler.proofs.Language.{Name, Scope, lookup, same_name}
use Rattle.language.specs.Names as N
use Rattle.compiler.proofs.Vocabulary.{Small}

lines_end : (is : List Item) → render_lines is ≡ lines is ++ (90 ∷ 10 ∷ [])
unfolding render_lines lines line
lines_end [] = refl
lines_end (i ∷ is) = ap (λ (z : List ℕ). render i ++ (10 ∷ z)) (lines_end is) ∙ simp append_assoc

-- `$`, the items, and `Z`, each on a line
pub rendered : (is : List Item) → render_all is ≡ (36 ∷ 10 ∷ []) ++ (lines is ++ (90 ∷ 10 ∷ []))
unfolding render_all
rendered is = rw (lines_end is)

-- a global that is found has its place in the table
pub small-found : (text : List ℕ) (sc : Scope) (n : Name) (m : ℕ) → Small sc → lookup text sc n ≡ N.known (N.global m) → m < 400
unfolding Small lookup
small-found text N.outermost n m h e = contradiction cc
small-found text (N.opened s) n m h e = small-found text s n m h e
small-found text (N.declared s x w) n m h e = by_cases (same_name text x n) (λ b. here w h (rw b at e)) (λ b. small-found text s n m (below w h)
    (rw b at e))
  where
    here : (w : N.Meaning) → Small (N.declared s x w) → N.known w ≡ N.known (N.global m) → m < 400
    here (N.global k) h e = let z : k ≡ m = cc in omega arith
    here (N.local k) h e = contradiction cc
    here (N.manifest k) h e = contradiction cc
    here (N.function k) h e = contradiction cc

    below : (w : N.Meaning) → Small (N.declared s x w) → Small s
    below = elim [ N.global k ↦ λ h. h.1 | N.local k ↦ λ h. h | N.manifest k ↦ λ h. h | N.function k ↦ λ h. h ]
