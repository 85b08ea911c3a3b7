-- How many functions a program has: the loop over its declarations.
use Rattle.laws.proofs.Basics.{ℕ, ◌+◌, ◌<◌, ◌≤◌, ◌≡◌, refl, ap, subst, ◌∙◌, List, [], ◌∷◌, ◌++◌, length, get_or, length-append, arith}
use Rattle.language.specs.Kinds as K
use Rattle.language.specs.Tree as T
use Rattle.compiler.proofs.Language.{Declaration, Program, encode_program}
use Rattle.compiler.specs.Walks.{Holds}
use Rattle.compiler.proofs.Vocabulary.{function_count, CountsFunctions, CountsGroup, encode_declared, declared_word}
use Rattle.compiler.proofs.Common.{First, first_of, Rest, rest_all, rest-next, keeps-all}

pub program-step : (d : Declaration) (p : Program)
    → encode_program (d ∷ p) ≡ (length (encode_declared d) ∷ declared_word d ∷ encode_declared d) ++ encode_program p
unfolding encode_program
program-step = elim [ T.globals is ↦ λ p. refl | T.manifests is ↦ λ p. refl | T.functions fs ↦ λ p. refl ]

-- the declaration at the front
abbrev pub IsDeclaration : (s : List ℕ) (at end : ℕ) → Program → Type 0
IsDeclaration = First encode_program encode_declared declared_word (λ d p. d ∷ p)

pub is-declaration : {s : List ℕ} {at end : ℕ} (p : Program)
    → Holds s at (encode_program p) → end ≡ at + length (encode_program p) → at < end → IsDeclaration s at end p
unfolding encode_program
is-declaration [] h e l = absurd (omega arith)
is-declaration {s} {at} (d ∷ p) h e l =
    first_of encode_program encode_declared declared_word (λ d p. d ∷ p) d p (subst (Holds s at) (program-step d p) h) (rw (e, program-step d p))

pub no-declaration : {at end : ℕ} (p : Program) → end ≡ at + length (encode_program p) → end ≤ at → p ≡ []
no-declaration [] e l = refl
no-declaration (d ∷ p) e l = let a = ap length (program-step d p) in
    absurd (omega (arith, a, length-append (length (encode_declared d) ∷ declared_word d ∷ encode_declared d) (encode_program p)))

-- the functions of one declaration
abbrev own_count : Declaration → ℕ
own_count (T.globals is) = 0
own_count (T.manifests is) = 0
own_count (T.functions fs) = length fs

count-step : (d : Declaration) (p : Program) → function_count (d ∷ p) ≡ own_count d + function_count p
unfolding function_count
count-step = elim [ T.globals is ↦ λ p. omega arith | T.manifests is ↦ λ p. omega arith | T.functions fs ↦ λ p. refl ]

count_none : function_count [] ≡ 0
unfolding function_count
count_none = refl

pub record Part (s : List ℕ) (at end n : ℕ) (p : Program) : Type 0 where
  pub left : Rest encode_program 0 0 s s end at
  pub sum : n + function_count left.rest ≡ function_count p

abbrev pub Counted : (s : List ℕ) (from end at n : ℕ) → Type 0
Counted s from end at n = (p : Program) → Holds s from (encode_program p) → end ≡ from + length (encode_program p) → Part s at end n p

pub counted-begin : {s : List ℕ} {from end : ℕ} → Counted s from end from 0
counted-begin p h e = record { left = rest_all p h e (omega arith); sum = omega arith }

module _ {s : List ℕ} {from end at n size word : ℕ} (l : at < end) (es : size ≡ get_or s at 0) (ew : word ≡ get_or s (at + 1) 0)
    (q : Counted s from end at n) where
  -- one more, with so many functions of its own
  onwards : (m : ℕ)
      → ((d : Declaration) → word ≡ declared_word d → Holds s (at + 2) (encode_declared d) → size ≡ length (encode_declared d) → m ≡ own_count d)
      → Counted s from end (at + 2 + size) (n + m)
  onwards m own p h e = let c = q p h e in let u = is-declaration c.left.rest c.left.lies c.left.ends l in
      record {
        left = rest-next c.left u es refl keeps-all;
        sum = omega (arith, ap function_count u.same, count-step u.part u.more, own u.part (ew ∙ u.word_of) u.lies (es ∙ u.size_of));
      }

  pub counted-group : {m : ℕ} → word ≡ K.LET → CountsGroup s (at + 2) (at + 2 + size) m → Counted s from end (at + 2 + size) (n + m)
  counted-group {m} e g = onwards m (elim [
    | T.globals is ↦ λ w h k. absurd (omega arith)
    | T.manifests is ↦ λ w h k. absurd (omega arith)
    | T.functions fs ↦ λ w h k. g.by fs h (omega arith)
  ])

  pub counted-other : (word ≡ K.LET → ⊥) → Counted s from end (at + 2 + size) n
  counted-other e p h k = subst (λ (z : ℕ). Part s (at + 2 + size) end z p) (omega arith) (onwards 0
      (elim [ T.globals is ↦ λ w h k. refl | T.manifests is ↦ λ w h k. refl | T.functions fs ↦ λ w h k. absurd (e w) ]) p h k)

  -- a group never reaches past the end
  pub counted-past : end < at + 2 + size → Counted s from end (at + 2 + size) n
  counted-past g p h e = let c = q p h e in let u = is-declaration c.left.rest c.left.lies c.left.ends l in absurd (omega arith)

pub counted-end : {s : List ℕ} {from end at n : ℕ} → end ≤ at → Counted s from end at n → CountsFunctions s from end n
counted-end l q = record {
  by = λ p h e. let c = q p h e in let z = no-declaration c.left.rest c.left.ends l in omega (arith, ap function_count z, count_none);
}
