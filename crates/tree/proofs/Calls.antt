-- What the last two entries of an expression's words say: its place, and whether it is a call.
use Rattle.laws.proofs.Basics.{ℕ, ◌+◌, ◌-◌, ◌<◌, ◌≤◌, ◌≡◌, refl, sym, ap, ◌∙◌, List, [], ◌∷◌, ◌++◌, append_assoc, Bool, true, false, length, get_or}
use Rattle.laws.proofs.Basics.{take, length-append, length-take-le, get_or-take, get_or-append-add, eqb, arith}
use Rattle.language.specs.Kinds as K
use Rattle.language.specs.Tree as T
use Rattle.language.specs.Tree.{Expression, is_call, ends_in_call, place_of}
use Rattle.tree.specs.Reads.{Ready}
use Rattle.tree.specs.Between.{CallHere, PlaceHere}
use Rattle.tree.specs.Encoding.{MONADIC, CALLED, DYADIC, suffixed_kind, closed, encode, encode_name, encode_command, encode_suffixes}
use Rattle.tree.specs.Encoding.{encode_operations}
use Rattle.tree.proofs.Helpers.{free-is, room-is}
use Rattle.tree.specs.declared.scratch.State.{State}
use Rattle.tree.specs.declared.scratch.State.TheVariants.{Read}

-- an expression's words end in its record, which has its place and says by its kind whether it is a call
record Recorded (e : Expression) : Type 0 where
  contents : List ℕ
  value : ℕ
  kind : ℕ
  words : encode e ≡ closed contents value (place_of e) kind
  call : eqb kind CALLED ≡ is_call e

called : (b : Bool) → eqb (suffixed_kind b) CALLED ≡ b
unfolding suffixed_kind
called true = refl
called false = refl

recorded : (e : Expression) → Recorded e
unfolding encode encode_name is_call place_of
recorded (T.number p v) = record { contents = []; value = v; kind = K.NUMBER; words = refl; call = refl }
recorded (T.string p v) = record { contents = []; value = v; kind = K.STRING; words = refl; call = refl }
recorded (T.name n) = record { contents = []; value = n.width; kind = K.NAME; words = refl; call = refl }
recorded (T.bracketed p e) = record { contents = encode e; value = 0; kind = K.OPEN; words = refl; call = refl }
recorded (T.valof p c) = record { contents = encode_command c; value = 0; kind = K.VALOF; words = refl; call = refl }
recorded (T.monadic p o e) = record { contents = encode e; value = o; kind = MONADIC; words = refl; call = refl }
recorded (T.suffixed e ss) = record {
  contents = encode e ++ encode_suffixes ss;
  value = length (encode e);
  kind = suffixed_kind (ends_in_call false ss);
  words = refl;
  call
      = called (ends_in_call false ss);
}
recorded (T.dyadic e os) = record { contents = encode e ++ encode_operations os; value = length (encode e); kind = DYADIC; words = refl; call = refl }

-- what is read last stands below the next free entry
module _ (a b : List ℕ) (v p k : ℕ) (s : List ℕ) (free : ℕ) (le : free ≤ length s) (e : take free s ≡ a ++ closed b v p k) where
  front : take free s ≡ (a ++ b) ++ (length b ∷ v ∷ p ∷ k ∷ [])
  front = e ∙ sym (append_assoc a b (length b ∷ v ∷ p ∷ k ∷ []))

  front-size : free ≡ length (a ++ b) + 4
  front-size = sym (length-take-le free s le) ∙ ap length front ∙ length-append (a ++ b) (length b ∷ v ∷ p ∷ k ∷ [])

  behind : (i j : ℕ) → i < free → i ≡ length (a ++ b) + j → get_or s i 0 ≡ get_or (length b ∷ v ∷ p ∷ k ∷ []) j 0
  behind i j h q =
      sym (get_or-take free s i 0 h) ∙ ap (λ (l : List ℕ). get_or l i 0) front ∙ ap (λ (m : ℕ). get_or ((a ++ b) ++ (length b ∷ v ∷ p ∷ k ∷ [])) m 0) q
      ∙ get_or-append-add (a ++ b) (length b ∷ v ∷ p ∷ k ∷ []) j 0

  kind-last : get_or s (free - 1) 0 ≡ k
  kind-last = behind (free - 1) 3 (omega (arith, front-size)) (omega (arith, front-size))

  place-last : get_or s (free - 2) 0 ≡ p
  place-last = behind (free - 2) 2 (omega (arith, front-size)) (omega (arith, front-size))

-- the entries that the code reads
module _ {s : List ℕ} {n : ℕ} {r : State} {at free : ℕ} (h : Ready 0 s n r) (e : r ≡ Read at free) where
  module _ (at' free' : ℕ) (before : List ℕ) (x : Expression) (e' : r ≡ Read at' free') (t : take free' s ≡ before ++ encode x) where
    last-record : take free s ≡ before ++ closed (recorded x).contents (recorded x).value (place_of x) (recorded x).kind
    last-record = ap (λ (m : ℕ). take m s) (sym (free-is e 0) ∙ free-is e' 0) ∙ t ∙ ap (λ (l : List ℕ). before ++ l) (recorded x).words

    at-end : free ≤ length s
    at-end = omega (arith, room-is h e)

    size_is : free ≡ length (before ++ (recorded x).contents) + 4
    size_is = front-size before (recorded x).contents (recorded x).value (place_of x) (recorded x).kind s free at-end last-record

    kind-is : get_or s (free - 1) 0 ≡ (recorded x).kind
    kind-is = kind-last before (recorded x).contents (recorded x).value (place_of x) (recorded x).kind s free at-end last-record

    place_is : get_or s (free - 2) 0 ≡ place_of x
    place_is = place-last before (recorded x).contents (recorded x).value (place_of x) (recorded x).kind s free at-end last-record

  pub call-short : {call : Bool} → free < 1 → CallHere s r call
  call-short l = record { here = λ at' free' before x e' t. absurd (omega (arith, size_is at' free' before x e' t)) }

  pub call-kind : CallHere s r (eqb (get_or s (free - 1) 0) CALLED)
  call-kind = record { here = λ at' free' before x e' t. ap (λ (k : ℕ). eqb k CALLED) (kind-is at' free' before x e' t) ∙ (recorded x).call }

  pub place_short : free < 2 → PlaceHere s r 0
  place_short l = record { here = λ at' free' before x e' t. absurd (omega (arith, size_is at' free' before x e' t)) }

  pub place-entry : PlaceHere s r (get_or s (free - 2) 0)
  place-entry = record { here = λ at' free' before x e' t. place_is at' free' before x e' t }
