-- Brackets (document 01, refusal 5). Round brackets and $( $) are matched with one stack of the closing brackets that are wanted, the
-- innermost first.
use Rattle.std.specs.Prelude.{ℕ, cond, List, [], ◌∷◌, eqb}
use Rattle.language.specs.Kinds as K
use Rattle.language.specs.Symbols.{Symbol, Fault, none, fault}

-- So far all match, and these are wanted; or a bracket at a place does not match
pub data Matching : Type 0 where
  matched : (wanted : List ℕ) → Matching
  unmatched : (place : ℕ) → Matching

unfoldable pub closing : (wanted : List ℕ) → Symbol → Matching
closing [] s = unmatched s.place
closing (k ∷ wanted) s = cond (eqb s.kind k) (matched wanted) (unmatched s.place)

unfoldable pub bracket : (wanted : List ℕ) → Symbol → Matching
bracket wanted s =
    cond (eqb s.kind K.OPEN) (matched (K.CLOSE ∷ wanted))
    (cond (eqb s.kind K.BEGIN) (matched (K.END ∷ wanted))
    (cond (eqb s.kind K.CLOSE) (closing wanted s)
    (cond (eqb s.kind K.END) (closing wanted s)
    (matched wanted))))

abbrev pub on_matched : Matching → (List ℕ → Matching) → Matching
on_matched (matched wanted) more = more wanted
on_matched (unmatched place) more = unmatched place

unfoldable pub brackets : (wanted : List ℕ) → List Symbol → Matching
brackets wanted [] = matched wanted
brackets wanted (s ∷ r) = on_matched (bracket wanted s) (λ o. brackets o r)

-- the first refusal 2 to 5: a bracket before the place where reading stopped, then what stopped it; a bracket still open at the
-- end has the text's length for its place
abbrev pub first_fault : (size : ℕ) → Matching → Fault → Fault
first_fault size (unmatched place) f = fault 5 place
first_fault size (matched wanted) (fault number place) = fault number place
first_fault size (matched []) none = none
first_fault size (matched (k ∷ wanted)) none = fault 5 size
