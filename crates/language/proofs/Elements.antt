-- What is known of the elements that a source is scanned into: a number is a word, a name no wider than the bytes there, a string
-- closed; and a REPEAT form takes three bytes, a string its characters and two, any other one.
use Rattle.laws.proofs.Basics.{ℕ, suc, ◌+◌, ◌-◌, ◌<◌, ◌≤◌, min, ◌≡◌, refl, List, [], ◌∷◌, Bool, true, false, not, ◌&&◌, cond, length, take, drop}
use Rattle.laws.proofs.Basics.{length-take, length-drop, eqb, leb, arith, eqb-true, eqb-false, ne_eqb, leb-true, not-true}
use Rattle.laws.proofs.Cases.{by-choice, contradiction, both_true}
use Rattle.text.specs.Quoted.{Quoted, closed, unclosed, faulty, characters_of, quoted}
use Rattle.text.proofs.Quotes.{Closed, is-closed, each-byte}
use Rattle.language.specs.Kinds.{Spelled, member, NAME, NUMBER, STRING, reserved, signs}
use Rattle.language.specs.Bytes.{LETTER, DIGIT, HASH, QUOTE, DOUBLE, SIGN, SEPARATOR, NEWLINE, class_of}
use Rattle.language.specs.Binding.{is_repeat}
use Rattle.language.specs.Symbols.{Element, symbol, gap, wrong, same, begins, in_word, word_width, kind_in, kind_of, word, digits, value_of, decimal}
use Rattle.language.specs.Symbols.{octal, as_character, character, as_string, string, sign_in, comment, sign, sign_or_comment, by_class}

-- the bytes that a kind takes at least, and the characters if it is a string's
abbrev pub needs : (kind : ℕ) (characters : List ℕ) → ℕ
needs kind cs = cond (is_repeat kind) 3 (cond (eqb kind STRING) (length cs + 2) 1)

-- the characters of a string that begins at some bytes
abbrev pub inside : List ℕ → List ℕ
inside bs = characters_of (quoted 34 255 0 (drop 1 bs))

-- a string's characters and its quote stand there
pub record Closes (bs : List ℕ) : Type 0 where
  pub characters : List ℕ
  pub width : ℕ
  pub closes : quoted 34 255 0 bs ≡ closed characters width

pub closes-short : {bs : List ℕ} → Closes bs → length (characters_of (quoted 34 255 0 bs)) ≤ 255
closes-short {bs} c = rw c.closes (is-closed 34 255 0 bs c.closes).short

pub record Known (bs : List ℕ) (kind value width : ℕ) : Type 0 where
  pub number : kind ≡ NUMBER → value < 65536
  pub name : kind ≡ NAME → value ≤ length bs
  pub wide : needs kind (inside bs) ≤ suc (min (width - 1) (length bs - 1))
  pub closes : kind ≡ STRING → Closes (drop 1 bs)

pub data KnownElement (bs : List ℕ) : Element → Type 0 where
  a-symbol : {kind value width : ℕ} → Known bs kind value width → KnownElement bs (symbol kind value width)
  a-gap : {width : ℕ} → KnownElement bs (gap width)
  a-fault : {number offset : ℕ} → KnownElement bs (wrong number offset)

is-symbol : {bs : List ℕ} {kind value width : ℕ} → Known bs kind value width → KnownElement bs (symbol kind value width)
is-symbol k = a-symbol k

-- what holds of each spelling of a table
all_of : (Spelled → Bool) → List Spelled → Bool
all_of t [] = true
all_of t (w ∷ ws) = t w && all_of t ws

-- a spelling of a REPEAT form is long; none is a number's or a string's
abbrev long : Spelled → Bool
long w = (cond (is_repeat w.kind) (leb 3 (length w.spelling)) true && not (eqb w.kind STRING)) && not (eqb w.kind NUMBER)

abbrev plain : Spelled → Bool
plain w = not (is_repeat w.kind) && not (eqb w.kind STRING)

record Spelling (kind : ℕ) (bs : List ℕ) : Type 0 where
  long : is_repeat kind ≡ true → 3 ≤ length bs
  string : kind ≡ STRING → ⊥
  number : kind ≡ NUMBER → ⊥

spelling-in : (ws : List Spelled) (bs : List ℕ) → all_of long ws ≡ true → Spelling (kind_in ws bs) bs
unfolding kind_in all_of is_repeat member
spelling-in [] bs h = record { long = λ e. contradiction cc; string = λ e. omega arith; number = λ e. omega arith }
spelling-in (w ∷ ws) bs h = let p = both_true (long w) (all_of long ws) h in
    go (same w.spelling bs) refl (both_true _ (not (eqb w.kind NUMBER)) p.0) (spelling-in ws bs p.1)
  where
    go : (b : Bool) → same w.spelling bs ≡ b
        → (cond (is_repeat w.kind) (leb 3 (length w.spelling)) true && not (eqb w.kind STRING) ≡ true) × (not (eqb w.kind NUMBER) ≡ true)
        → Spelling (kind_in ws bs) bs → Spelling (elim b [ true ↦ w.kind | false ↦ kind_in ws bs ]) bs
    go true e q k = let o = both_true (cond (is_repeat w.kind) (leb 3 (length w.spelling)) true) (not (eqb w.kind STRING)) q.0 in record {
      long = λ r. let m : length w.spelling ≡ length bs
          = eqb-true _ _ (both_true (eqb (length w.spelling) (length bs)) (begins w.spelling bs) e).0 in
          omega (arith, leb-true 3 (length w.spelling) (rw r at o.0));
      string = eqb-false w.kind STRING (not-true (eqb w.kind STRING) o.1);
      number = eqb-false w.kind NUMBER (not-true (eqb w.kind NUMBER) q.1);
    }
    go false e q k = k

word-within : (bs : List ℕ) → word_width bs ≤ length bs
unfolding word_width
word-within [] = omega arith
word-within (c ∷ r) = by-choice (λ n. n ≤ suc (length r)) (in_word (class_of c)) (omega (arith, word-within r)) (omega arith)

either : {bs : List ℕ} (b : Bool) {x y : Element} → (b ≡ true → KnownElement bs x) → KnownElement bs y → KnownElement bs (cond b x y)
either true f g = f refl
either false f g = g

module _ (bs : List ℕ) where
  known-word : KnownElement bs (word bs)
  unfolding word kind_of all_of reserved is_repeat member
  known-word = go (kind_in reserved (take (word_width bs) bs)) (spelling-in reserved (take (word_width bs) bs) refl)
    where
      go : (kind : ℕ) → Spelling kind (take (word_width bs) bs) → KnownElement bs (symbol kind (word_width bs) (word_width bs))
      go kind k = is-symbol (record
          { number = λ e. absurd (k.number e); name = λ _. word-within bs; wide = by (is_repeat kind) refl; closes = λ e. absurd (k.string e) })
        where
          by : (b : Bool) → is_repeat kind ≡ b → needs kind (inside bs) ≤ suc (min (word_width bs - 1) (length bs - 1))
          by true e = rw e (omega (arith, k.long e, length-take (word_width bs) bs, word-within bs))
          by false e = rw (e, ne_eqb kind STRING k.string) (omega arith)

  is_number : {v w : ℕ} → v < 65536 → KnownElement bs (symbol NUMBER v w)
  unfolding is_repeat member
  is_number l = is-symbol (record { number = λ _. l; name = λ e. absurd (omega arith); wide = omega arith; closes = λ e. absurd (omega arith) })

  known-decimal : KnownElement bs (decimal bs)
  unfolding decimal
  known-decimal = either (leb (value_of 10 0 bs) 32767) (λ h. is_number (omega (arith, leb-true (value_of 10 0 bs) 32767 h))) a-fault

  known-octal : (cs : List ℕ) → KnownElement bs (octal cs)
  unfolding octal
  known-octal cs = either (leb 1 (digits 8 cs) && leb (value_of 8 0 cs) 65535)
      (λ h. is_number (omega (arith, leb-true (value_of 8 0 cs) 65535 (both_true (leb 1 (digits 8 cs)) (leb (value_of 8 0 cs) 65535) h).1))) a-fault

  known-character : (cs : List ℕ) → KnownElement bs (character cs)
  unfolding character
  known-character cs = go (quoted 39 1 0 cs) refl
    where
      go : (q : Quoted) → quoted 39 1 0 cs ≡ q → KnownElement bs (as_character q)
      go (closed [] n) e = a-fault
      go (closed (x ∷ xs) n) e =
          let k : Closed 1 0 (length cs) (x ∷ xs) n = is-closed 39 1 0 cs e in is_number (omega (arith, each-byte (x ∷ xs) k.each 0))
      go unclosed e = a-fault
      go (faulty number n) e = a-fault

  known-string : KnownElement bs (string (drop 1 bs))
  unfolding string is_repeat member
  known-string = go (quoted 34 255 0 (drop 1 bs)) refl
    where
      go : (q : Quoted) → quoted 34 255 0 (drop 1 bs) ≡ q → KnownElement bs (as_string q)
      go (closed cs n) e = let k : Closed 255 0 (length (drop 1 bs)) cs n = is-closed 34 255 0 (drop 1 bs) e in is-symbol (record {
        number = λ z. absurd (omega arith);
        name = λ z. absurd (omega arith);
        wide = rw e (omega (arith, k.enough, k.within, length-drop 1 bs));
        closes = λ _. record { characters = cs; width = n; closes = e };
      })
      go unclosed e = a-fault
      go (faulty number n) e = a-fault

  sign-in : (ws : List Spelled) (cs : List ℕ) → all_of plain ws ≡ true → KnownElement bs (sign_in ws cs)
  unfolding sign_in all_of
  sign-in [] cs h = a-fault
  sign-in (w ∷ ws) cs h = let p = both_true (plain w) (all_of plain ws) h in
      go (begins w.spelling cs) (both_true (not (is_repeat w.kind)) (not (eqb w.kind STRING)) p.0) (sign-in ws cs p.1)
    where
      go : (b : Bool) → (not (is_repeat w.kind) ≡ true) × (not (eqb w.kind STRING) ≡ true) → KnownElement bs (sign_in ws cs)
          → KnownElement bs (elim b [ true ↦ symbol w.kind 0 (length w.spelling) | false ↦ sign_in ws cs ])
      go true q f = let z = not-true (eqb w.kind STRING) q.1 in is-symbol (record {
        number = λ _. omega arith;
        name = λ _. omega arith;
        wide = rw (not-true (is_repeat w.kind) q.0, z) (omega arith);
        closes = λ e. absurd (eqb-false w.kind STRING z e);
      })
      go false q f = f

  pub known-element : (class : ℕ) → KnownElement bs (by_class class bs)
  unfolding by_class sign_or_comment comment sign all_of signs is_repeat member
  known-element class = either (eqb class LETTER) (λ _. known-word) (either (eqb class DIGIT) (λ _. known-decimal)
      (either (eqb class HASH) (λ _. known-octal (drop 1 bs)) (either (eqb class QUOTE) (λ _. known-character (drop 1 bs))
      (either (eqb class DOUBLE) (λ _. known-string)
      (either (eqb class SIGN) (λ _. either (begins (47 ∷ 47 ∷ []) bs) (λ _. a-gap) (sign-in signs bs refl))
      (either (eqb class SEPARATOR) (λ _. a-gap) (either (eqb class NEWLINE) (λ _. a-gap) a-fault)))))))
