-- An item's words in the memory: each kind of item, known or not.
use Rattle.laws.proofs.Basics.{ℕ, ◌+◌, ◌*◌, ◌/◌, ◌<◌, ◌≤◌, ◌≡◌, refl, sym, ap, ◌∙◌, List, Bool, true, false, cond, length, set, length-set, sets}
use Rattle.laws.proofs.Basics.{length-sets, eqb, leb, add-one, arith, ne_eqb, ltb-true, leb-true}
use Rattle.laws.proofs.Cases.{by_cond, contradiction, both_true}
use Rattle.items.specs.Item as I
use Rattle.assembler.specs.Words.{label_in_range, operand_in_range, in_range, short, signed, size, indirect_bit, base_bit, operand_word, words}
use Rattle.text.specs.Packed.{pairs}
use Rattle.assembler.specs.declared.Label.{Label}
use Rattle.assembler.specs.Layout.{defined, address_of, used_by, uses, known}
use Rattle.assembler.specs.Passes.{as_found, value_of, put, Writable, Writes, letters, Quoting, Spelling}
use Rattle.std.specs.Prelude.{Option, Some, None}
use Rattle.assembler.proofs.Operands.{label-range}
use Rattle.assembler.proofs.Lookup.{was-at, was-missing}

-- ---- an item that is known, and one that is not

pub length-put : (labels : List Label) (at : ℕ) (memory : List ℕ) (i : I.Item) → length (put labels at memory i) ≡ length memory
unfolding put
length-put labels at memory (I.label n) = refl
length-put labels at memory (I.instruction f i b x) = length-sets memory at (words (address_of labels) (I.instruction f i b x))
length-put labels at memory (I.constant x) = length-sets memory at (words (address_of labels) (I.constant x))
length-put labels at memory (I.string cs) = length-sets memory at (words (address_of labels) (I.string cs))
length-put labels at memory (I.global n m) = length-set memory (16 + n) (address_of labels m)

module _ (labels : List Label) (i : I.Item) (at : ℕ) (memory : List ℕ) where
  pub writes-unknown : known labels i ≡ false → Writes labels i at memory None memory
  writes-unknown h = record { same = refl; answers = rw h; writes = λ t. let y : true ≡ false = sym t ∙ h in contradiction cc }

  pub writes-known : {a : ℕ} {memory' : List ℕ} → known labels i ≡ true → a ≡ at + size i → memory' ≡ put labels at memory i
      → Writes labels i at memory (Some a) memory'
  writes-known h e m = record { same = ap length m ∙ length-put labels at memory i; answers = rw h (ap Some e); writes = λ t. m }

-- ---- operands

abbrev used : List Label → ℕ → Bool
used labels n = cond (eqb n 0) true (defined labels n)

used-label : (labels : List Label) (n : ℕ) → label_in_range n ≡ true → used labels n ≡ defined labels n
used-label labels n h = rw (ne_eqb n 0 (λ e. let z : 1 ≤ n = (label-range n h).0 in omega arith))

module _ (labels : List Label) {f : Option ℕ} where
  value-at : (x : I.Operand) {w : ℕ} → operand_in_range x ≡ true → f ≡ value_of labels x → f ≡ Some w
      → (used labels (used_by x) ≡ true) × (operand_word (address_of labels) x ≡ w)
  unfolding operand_in_range value_of operand_word
  value-at (I.number minus s) h p q = (refl, cc)
  value-at (I.address n) h p q = (used-label labels n h ∙ (was-at labels n p q).0, (was-at labels n p q).1)

  value-missing : (x : I.Operand) → operand_in_range x ≡ true → f ≡ value_of labels x → f ≡ None → used labels (used_by x) ≡ false
  unfolding operand_in_range value_of
  value-missing (I.number minus s) h p q = contradiction cc
  value-missing (I.address n) h p q = used-label labels n h ∙ was-missing labels n p q

  pub short-below : (x : I.Operand) {w : ℕ} → f ≡ value_of labels x → f ≡ Some w → short x ≡ true → w < 512
  unfolding value_of short
  short-below (I.number minus s) {w} p q h = let z : signed minus s ≡ w = cc in
      let l : signed minus s < 512 = ltb-true (signed minus s) 512 h in
      rw z at l
  short-below (I.address n) p q h = contradiction cc

-- ---- an instruction

module _ (f : ℕ) (i : Bool) (b : I.Base) (x : I.Operand) where
  pub first_fits : (at : ℕ) {n : ℕ} → at + size (I.instruction f i b x) ≤ n → at < n
  unfolding size
  first_fits at {n} h = omega (arith, h, by_cond (λ k. 1 ≤ k) (short x) {x = 1} {y = 2} (omega arith) (omega arith))

  pub second_fits : (at : ℕ) {n : ℕ} → short x ≡ false → at + size (I.instruction f i b x) ≤ n → at + 1 < n
  unfolding size
  second_fits at {n} e h = let k : at + 2 ≤ n = rw e at h in omega arith

  module _ (labels : List Label) (at : ℕ) (memory : List ℕ) {found : Option ℕ} (r : Writable (I.instruction f i b x) at memory)
      (p : found ≡ value_of labels x) where
    ranged : operand_in_range x ≡ true
    unfolding in_range
    ranged = r.ranged

    pub instruction-unknown : found ≡ None → Writes labels (I.instruction f i b x) at memory None memory
    unfolding known uses
    instruction-unknown q = writes-unknown labels (I.instruction f i b x) at memory (value-missing labels x ranged p q)

    module _ {word w : ℕ} (e : word ≡ f * 8192 + indirect_bit i + base_bit b) (q : found ≡ Some w) where
      pub instruction-short : short x ≡ true → Writes labels (I.instruction f i b x) at memory (Some (at + 1)) (set memory at (word + w))
      unfolding known uses put words size
      instruction-short s = writes-known labels (I.instruction f i b x) at memory (value-at labels x ranged p q).0 (rw s)
          (rw (s, (value-at labels x ranged p q).1, ← e))

      pub instruction-long : short x ≡ false
          → Writes labels (I.instruction f i b x) at memory (Some (at + 2)) (set (set memory at (word + 512)) (at + 1) w)
      unfolding known uses put words size
      instruction-long s = writes-known labels (I.instruction f i b x) at memory (value-at labels x ranged p q).0 (rw s)
          (rw (s, (value-at labels x ranged p q).1, ← e, add-one))

-- ---- a constant

module _ (x : I.Operand) (labels : List Label) (at : ℕ) (memory : List ℕ) {found : Option ℕ} (r : Writable (I.constant x) at memory)
    (p : found ≡ value_of labels x) where
  constant-ranged : operand_in_range x ≡ true
  unfolding in_range
  constant-ranged = r.ranged

  pub constant-unknown : found ≡ None → Writes labels (I.constant x) at memory None memory
  unfolding known uses
  constant-unknown q = writes-unknown labels (I.constant x) at memory (value-missing labels x constant-ranged p q)

  pub constant-known : {w : ℕ} → found ≡ Some w → Writes labels (I.constant x) at memory (Some (at + 1)) (set memory at w)
  unfolding known uses put words size
  constant-known q = writes-known labels (I.constant x) at memory (value-at labels x constant-ranged p q).0
      refl (rw (value-at labels x constant-ranged p q).1)

-- ---- a global

pub global-range : (n m : ℕ) → in_range (I.global n m) ≡ true → (n ≤ 399) × (label_in_range m ≡ true)
unfolding in_range
global-range n m h = let b : (leb n 399 ≡ true) × (label_in_range m ≡ true) = both_true (leb n 399) (label_in_range m) h in (leb-true n 399 b.0, b.1)

module _ (n m : ℕ) (labels : List Label) (at : ℕ) (memory : List ℕ) {found : Option ℕ} (r : Writable (I.global n m) at memory)
    (p : found ≡ as_found labels m) where
  pub global-unknown : found ≡ None → Writes labels (I.global n m) at memory None memory
  unfolding known uses
  global-unknown q = writes-unknown labels (I.global n m) at memory (used-label labels m (global-range n m r.ranged).1 ∙ was-missing labels m p q)

  pub global-known : {w : ℕ} → found ≡ Some w → Writes labels (I.global n m) at memory (Some at) (set memory (16 + n) w)
  unfolding known uses put size
  global-known q = writes-known labels (I.global n m) at memory (used-label labels m (global-range n m r.ranged).1 ∙ (was-at labels m p q).0)
      (omega arith) (rw (was-at labels m p q).1)

-- ---- a label, and a string

pub label-writes : (n : ℕ) (labels : List Label) (at : ℕ) (memory : List ℕ) → Writes labels (I.label n) at memory (Some at) memory
unfolding known uses put size
label-writes n labels at memory = writes-known labels (I.label n) at memory refl (omega arith) refl

module _ (text : List ℕ) (place n at : ℕ) (memory : List ℕ) (r : Writable (I.string (letters text place)) at memory)
    (q : Quoting text place × (length (letters text place) ≡ n) × (place ≤ length text)) where
  pub string-spelling : Spelling text place n at memory
  unfolding size
  string-spelling = record { quoting = q.0; byte = omega (arith, r.sound, q.1); fits = r.fits }

  pub string-writes : (labels : List Label) {memory' : List ℕ} → memory' ≡ sets memory at (pairs n (letters text place))
      → Writes labels (I.string (letters text place)) at memory (Some (at + (n / 2 + 1))) memory'
  unfolding known uses put words size
  string-writes labels e = writes-known labels (I.string (letters text place)) at memory
      refl (rw (q.1, add-one)) (rw q.1 e)
