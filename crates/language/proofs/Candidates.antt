-- The candidates of a word (document 02, Req 03) alone decide its kind, and of no list of bytes are there more than three.
use Rattle.laws.proofs.Basics.{ℕ, suc, ◌≤◌, ◌≡◌, refl, sym, ◌∙◌, List, [], ◌∷◌, Bool, true, false, ◌&&◌, cond, length, get_or, eqb, leb, arith}
use Rattle.laws.proofs.Basics.{eqb-true, leb-true}
use Rattle.laws.proofs.Cases.{by_cases, by_cond, both_true, both_left, both_right}
use lib.Dec.{eqb-zero-suc, eqb-suc-zero}
use Rattle.language.specs.Kinds.{Spelled, reserved}
use Rattle.language.specs.Symbols.{begins, same, kind_in, kind_of}
use Rattle.language.specs.Candidates.{alike, keep, candidates_in, candidates, compared_in, compared}

-- ---- the kind is that of the first candidate that is the same, or a name's

-- what is the same is alike
same_alike : (ss bs : List ℕ) → alike ss bs ≡ false → same ss bs ≡ false
unfolding begins
same_alike [] [] e = cc
same_alike [] (b ∷ bs) e = rw (eqb-zero-suc (length bs))
same_alike (s ∷ ss) [] e = rw (eqb-suc-zero (length ss))
same_alike (s ∷ ss) (b ∷ bs) e = go (eqb s b) (eqb (length (s ∷ ss)) (length (b ∷ bs))) (begins ss bs) e
  where
    go : (first long rest : Bool) → (first && long) ≡ false → (long && (first && rest)) ≡ false
    go true true rest e = cc
    go true false rest e = refl
    go false true rest e = refl
    go false false rest e = refl

-- by whether the first word is that of the bytes
pub kind-cons : (w : Spelled) (ws : List Spelled) (bs : List ℕ) → kind_in (w ∷ ws) bs ≡ cond (same w.spelling bs) w.kind (kind_in ws bs)
unfolding kind_in
kind-cons w ws bs = elim (same w.spelling bs) as (λ t. elim t [ true ↦ w.kind | false ↦ kind_in ws bs ] ≡ cond t w.kind (kind_in ws bs))
    [ true ↦ refl | false ↦ refl ]

kind-in-candidates : (ws : List Spelled) (bs : List ℕ) → kind_in ws bs ≡ kind_in (candidates_in ws bs) bs
unfolding candidates_in
kind-in-candidates [] bs = refl
kind-in-candidates (w ∷ ws) bs = go (alike w.spelling bs) refl (kind-in-candidates ws bs)
  where
    go : (t : Bool) → alike w.spelling bs ≡ t → kind_in ws bs ≡ kind_in (candidates_in ws bs) bs
        → kind_in (w ∷ ws) bs ≡ kind_in (keep t w (candidates_in ws bs)) bs
    go true e ih = kind-cons w ws bs ∙ rw ih (sym (kind-cons w (candidates_in ws bs) bs))
    go false e ih = kind-cons w ws bs ∙ rw (same_alike w.spelling bs e) ih

pub kind-by-candidates : (bs : List ℕ) → kind_of bs ≡ kind_in (candidates bs) bs
unfolding kind_of candidates
kind-by-candidates bs = kind-in-candidates reserved bs

-- ---- never more than three

compared-within : (ws : List Spelled) (bs : List ℕ) → compared_in ws bs ≤ length ws
unfolding compared_in
compared-within [] bs = omega arith
compared-within (w ∷ ws) bs = by_cond (λ n. suc n ≤ suc (length ws)) (same w.spelling bs) (omega arith) (omega (arith, compared-within ws bs))

-- bytes alike have the same candidates
alike-candidates : (ws : List Spelled) (ss bs : List ℕ) → alike ss bs ≡ true → candidates_in ws ss ≡ candidates_in ws bs
unfolding candidates_in
alike-candidates [] ss bs e = refl
alike-candidates (w ∷ ws) ss bs e = let first : get_or ss 0 0 ≡ get_or bs 0 0 = eqb-true _ _ (both_left _ _ e) in
    let long : length ss ≡ length bs = eqb-true _ _ (both_right (eqb (get_or ss 0 0) (get_or bs 0 0)) _ e) in
    rw (first, long, alike-candidates ws ss bs e)

-- the test over the table: no word of it has more than three candidates
abbrev few : List Spelled → Bool
few [] = true
few (w ∷ ws) = leb (length (candidates w.spelling)) 3 && few ws

abbrev Few : List ℕ → Type 0
Few bs = length (candidates bs) ≤ 3

-- one that is alike to a word of the table has its candidates; one that is alike to none has none
few-candidates : (ws : List Spelled) (bs : List ℕ) → few ws ≡ true → (length (candidates_in ws bs) ≤ 3 → Few bs) → Few bs
unfolding candidates_in candidates
few-candidates [] bs t k = k (omega arith)
few-candidates (w ∷ ws) bs t k = let b = both_true (leb (length (candidates w.spelling)) 3) (few ws) t in
    by_cases (alike w.spelling bs)
    (λ e. let h : Few w.spelling = leb-true _ _ b.0 in rw (← alike-candidates reserved w.spelling bs e) h)
    (λ e. few-candidates ws bs b.1 (rw e at k))

at-most-three : (bs : List ℕ) → Few bs
unfolding candidates_in candidates reserved
at-most-three bs = few-candidates reserved bs refl (λ k. k)

pub compared-at-most-three : (bs : List ℕ) → compared bs ≤ 3
unfolding compared
compared-at-most-three bs = omega (arith, compared-within (candidates bs) bs, at-most-three bs)
