-- Constants: a number, TRUE, FALSE, a manifest name, or one of these negated (document 01, "Grammar"; refusals 8 and 11).
use Rattle.std.specs.Prelude.{ℕ, Bool, true, false, cond, List, [], ◌∷◌, leb, eqb}
use Rattle.words.specs.Words.{neg}
use Rattle.language.specs.Tree.{Name, Simple, literal, known, Constant}
use Rattle.language.specs.Names as N
use Rattle.language.specs.Names.{Scope, lookup}

-- a refusal's number with its place
pub record Fault : Type 0 where
  pub place : ℕ
  pub number : ℕ

abbrev pub fault : (place number : ℕ) → List Fault
fault place number = record { place = place; number = number } ∷ []

-- a constant's word, or what is refused in it
pub data Judged : Type 0 where
  good : (value : ℕ) → Judged
  refused : List Fault → Judged

abbrev pub signed : Bool → ℕ → ℕ
signed true v = neg v
signed false v = v

-- an unknown name is 8 at the name, a known one that is no manifest 11 at the constant
abbrev pub of_found : Constant → Name → N.Found → Judged
of_found c n N.unknown = refused (fault n.place 8)
of_found c n (N.known (N.manifest v)) = good (signed c.minus v)
of_found c n (N.known (N.local k)) = refused (fault c.place 11)
of_found c n (N.known (N.global k)) = refused (fault c.place 11)
of_found c n (N.known (N.function k)) = refused (fault c.place 11)

abbrev pub of_simple : List ℕ → Scope → Constant → Simple → Judged
of_simple text s c (literal v) = good (signed c.minus v)
of_simple text s c (known n) = of_found c n (lookup text s n)

unfoldable pub judge : List ℕ → Scope → Constant → Judged
judge text s c = of_simple text s c c.simple

-- the same, and 11 at the constant where a good word fails a test
abbrev pub within : Constant → (ℕ → Bool) → Judged → Judged
within c test (good v) = cond (test v) (good v) (refused (fault c.place 11))
within c test (refused fs) = refused fs

-- GLOBAL takes 0 to 399, VEC 0 to 4095, BY any but 0
abbrev pub for_global : List ℕ → Scope → Constant → Judged
for_global text s c = within c (λ v. leb v 399) (judge text s c)

abbrev pub for_vector : List ℕ → Scope → Constant → Judged
for_vector text s c = within c (λ v. leb v 4095) (judge text s c)

abbrev pub for_by : List ℕ → Scope → Constant → Judged
for_by text s c = within c (λ v. cond (eqb v 0) false true) (judge text s c)

-- the word, with 0 where it is refused
abbrev pub judged_word : Judged → ℕ
judged_word (good v) = v
judged_word (refused fs) = 0

abbrev pub faults_of : Judged → List Fault
faults_of (good v) = []
faults_of (refused fs) = fs
