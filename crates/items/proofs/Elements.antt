-- The code's values and the definitions' ones, and what stands past the end of a text.
use Rattle.laws.proofs.Basics.{ℕ, ◌+◌, ◌<◌, ◌≤◌, ◌≡◌, refl, ◌∙◌, List, [], ◌∷◌, false, length, drop, drop_of_length-le, arith}
use Rattle.std.specs.Prelude.{Some, None, Err}
use Rattle.laws.proofs.Cases.{contradiction}
use Rattle.text.specs.Quoted.{Quoted, closed, unclosed, faulty, character, quoted}
use Rattle.text.specs.Parts.{value_if}
use Rattle.text.specs.Answers as A
use Rattle.text.specs.Answers.{counted, found}
use Rattle.text.specs.declared.Flaw.{Flaw}
use Rattle.text.specs.declared.Flaw.TheVariants.{Unclosed, Faulty}
use Rattle.text.proofs.Quotes.{first-if, is-closed}
use Rattle.text.proofs.Answers.{Counted, when-closed, when-unclosed, when-faulty}
use Rattle.items.specs.Item.{number}
use Rattle.items.specs.Reader.{got, nothing, head}
use Rattle.items.specs.Read.{as_character, quoted_character, as_string, quoted_string, item, function_of}
use Rattle.items.specs.Scan.{gaps}
use Rattle.items.specs.Next.{element_at, next_in}
use Rattle.items.specs.Answers.{as_operand, as_base, operand_of, base_of, as_next}
use Rattle.items.specs.declared.Operand.{Operand}
use Rattle.items.specs.declared.Operand.TheVariants as O
use Rattle.items.specs.declared.Base.{Base}
use Rattle.items.specs.declared.Base.TheVariants as B
use Rattle.items.specs.declared.Next.TheVariants as M

pub operand_both : (o : Operand) → as_operand (operand_of o) ≡ o
unfolding as_operand
operand_both = elim [ O.Number minus size ↦ refl | O.Address n ↦ refl ]

pub base_both : (b : Base) → as_base (base_of b) ≡ b
unfolding as_base
base_both = elim [ B.Plain ↦ refl | B.P ↦ refl | B.G ↦ refl ]

pub next_past : (text : List ℕ) (at : ℕ) → length text < at → as_next (next_in text at) ≡ M.Unreadable at
unfolding next_in element_at gaps head item function_of as_next
next_past text at h = let z : at + 0 ≡ at = omega arith in let e : drop at text ≡ [] = drop_of_length-le text (omega arith) in rw (e, z, e)

-- ---- what the code found between quotes

unclosed-given : (f : Flaw) (q : Quoted) → found (Err f) ≡ counted q → (P : Quoted → Type 0) → P unclosed → ((n k : ℕ) → P (faulty n k)) → P q
unclosed-given Unclosed q e P u f = let k : q ≡ unclosed = when-unclosed q e in rw k u
unclosed-given (Faulty fault offset) q e P u f = rw (when-faulty q e) (f _ offset)

module _ (bytes : List ℕ) where
  pub no_string : (f : Flaw) → found (Err f) ≡ counted (quoted 34 255 0 bytes) → quoted_string bytes ≡ nothing
  unfolding quoted_string
  no_string f e = unclosed-given f _ e (λ q. as_string q ≡ nothing) refl (λ n k. refl)

  pub no_character : (f : Flaw) → found (Err f) ≡ counted (quoted 39 1 0 bytes) → quoted_character bytes ≡ nothing
  unfolding quoted_character
  no_character f e = unclosed-given f _ e (λ q. as_character q ≡ nothing) refl (λ n k. refl)

  pub closed_within : (quote room : ℕ) {n w : ℕ} → A.closed n w ≡ counted (quoted quote room 0 bytes) → w ≤ length bytes
  closed_within quote room {n} {w} e = let h : Counted (quoted quote room 0 bytes) n w = when-closed _ e in
      (is-closed quote room 0 bytes h.is).within

  -- with the value of the first character, if there is one
  module _ {n w : ℕ} (e : A.closed n w ≡ counted (quoted 39 1 0 bytes)) where
    h : Counted (quoted 39 1 0 bytes) n w
    h = when-closed _ e

    pub a_character : {v : ℕ} → Some v ≡ value_if (character 39 bytes) → quoted_character bytes ≡ got (number false v) w
    unfolding quoted_character
    a_character {v} k = by h.characters h.is
      where
        by : (cs : List ℕ) → quoted 39 1 0 bytes ≡ closed cs w → as_character (quoted 39 1 0 bytes) ≡ got (number false v) w
        by [] f = let z : Some v ≡ None = k ∙ first-if 39 1 bytes f in contradiction cc
        by (c ∷ cs) f = let z : Some v ≡ Some c = k ∙ first-if 39 1 bytes f in rw f cc

    pub no_value : None ≡ value_if (character 39 bytes) → quoted_character bytes ≡ nothing
    unfolding quoted_character
    no_value k = by h.characters h.is
      where
        by : (cs : List ℕ) → quoted 39 1 0 bytes ≡ closed cs w → as_character (quoted 39 1 0 bytes) ≡ nothing
        by [] f = rw f
        by (c ∷ cs) f = let z : None ≡ Some c = k ∙ first-if 39 1 bytes f in contradiction cc
