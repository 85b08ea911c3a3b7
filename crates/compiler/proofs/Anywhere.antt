-- What an expression may leave is of no account but for RETURN: its faults are the same anywhere.
use Rattle.laws.proofs.Basics.{ℕ, ◌+◌, ◌≡◌, refl, List, ◌++◌}
use Rattle.language.specs.Tree as T
use Rattle.compiler.proofs.Language.{Expression, Expressions, Suffixes, Operations, Scope, Fault, under, Leavable, in_expression, in_suffixes}
use Rattle.compiler.proofs.Language.{in_operations, in_expressions}
use Rattle.compiler.proofs.Vocabulary.{State, Here, Ways, leavable, leavable_by, Did, Code}

two : {a b c d : List Fault} → a ≡ b → c ≡ d → a ++ c ≡ b ++ d
two p q = cc

module _ (text : List ℕ) (l m : Leavable) (q : l.routine ≡ m.routine) where
  mutual
    unfolding in_expression in_suffixes in_operations in_expressions

    pub any-expression : (sc : Scope) (h : ℕ) (e : Expression) → in_expression text sc l h e ≡ in_expression text sc m h e
    any-expression sc h (T.number p v) = refl
    any-expression sc h (T.string p v) = refl
    any-expression sc h (T.name n) = refl
    any-expression sc h (T.bracketed p e) = any-expression sc h e
    any-expression sc h (T.valof p c) = rw q
    any-expression sc h (T.monadic p o e) = rw (any-expression sc h e)
    any-expression sc h (T.suffixed e ss) = two (any-expression sc (under ss h) e) (any-suffixes sc h ss)
    any-expression sc h (T.dyadic e os) = two (any-expression sc h e) (any-operations sc h os)

    pub any-suffixes : (sc : Scope) (h : ℕ) (ss : Suffixes) → in_suffixes text sc l h ss ≡ in_suffixes text sc m h ss
    any-suffixes sc h T.no_suffixes = refl
    any-suffixes sc h (T.call es ss) = two (any-expressions sc (under ss h + 2) es) (any-suffixes sc h ss)
    any-suffixes sc h (T.index e ss) = two (any-expression sc (under ss h + 1) e) (any-suffixes sc h ss)

    pub any-operations : (sc : Scope) (h : ℕ) (os : Operations) → in_operations text sc l h os ≡ in_operations text sc m h os
    any-operations sc h T.no_operations = refl
    any-operations sc h (T.operation o e os) = two (any-expression sc (h + 1) e) (any-operations sc h os)

    pub any-expressions : (sc : Scope) (h : ℕ) (es : Expressions) → in_expressions text sc l h es ≡ in_expressions text sc m h es
    any-expressions sc h T.no_expressions = refl
    any-expressions sc h (T.and_expression e es) = two (any-expression sc h e) (any-expressions sc (h + 1) es)

-- what was done for an expression, said of a place with ways out
module _ (text : List ℕ) (sc : Scope) (here : Here) (ways : Ways) (h : ℕ) {c : ℕ → Code} {k : ℕ} {t t' : List ℕ} {st r : State} where
  pub with-ways : (e : Expression) → Did (in_expression text sc (leavable here) h e) c k t t' st r
      → Did (in_expression text sc (leavable_by ways here) h e) c k t t' st r
  with-ways e d = rw (any-expression text (leavable here) (leavable_by ways here) refl sc h e) at d
