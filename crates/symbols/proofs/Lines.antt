-- What stands at a place is at least a byte, ends within the text, and holds no newline, unless it is a gap of that one byte.
use Rattle.laws.proofs.Basics.{ℕ, zero, suc, ◌+◌, ◌-◌, ◌<◌, ◌≤◌, ◌≡◌, refl, sym, ap, ◌∙◌, List, [], ◌∷◌, Bool, true, false, not, ◌&&◌, cond, length}
use Rattle.laws.proofs.Basics.{take, eqb, ltb, leb, arith, eqb-true, ne_eqb, ltb-true, lt-ltb, leb-true}
use Rattle.laws.proofs.Cases.{by-choice, either, contradiction, both_true, both_left, both_right}
use lib.Dec.{T, T_not}
use Rattle.text.specs.Line.{newlines}
use Rattle.text.specs.Quoted as Q
use Rattle.text.specs.Quoted.{Quoted, closed, unclosed, faulty, quoted}
use Rattle.text.proofs.Quotes.{Written, is-written, each-byte, digit-bounds, Closed, is-closed, fault-within}
use Rattle.language.specs.Bytes.{between, class_of, LETTER, DIGIT, HASH, QUOTE, DOUBLE, SIGN, SEPARATOR, NEWLINE}
use Rattle.language.specs.Kinds.{Spelled, reserved, signs}
use Rattle.language.specs.Symbols.{Element, symbol, gap, wrong, begins, in_word, word_width, same, kind_in, kind_of, word, digit_of, digits, value_of}
use Rattle.language.specs.Symbols.{decimal, octal, as_character, character, as_string, string, sign_in, sign, comment, sign_or_comment, by_class}
use Rattle.symbols.proofs.Runs.{Run, word-run, digits-run, comment-run, run-within, run-line}
use Rattle.symbols.proofs.Numbers.{from-digits}
use Rattle.symbols.proofs.Table.{every}

-- ---- characters between quotes

abbrev CharacterLine : List ℕ → Q.Character → Type 0
CharacterLine bs (Q.is v w) = newlines (take w bs) ≡ 0
CharacterLine bs Q.closing = newlines (take 1 bs) ≡ 0
CharacterLine bs Q.ended = Unit {0}
CharacterLine bs (Q.mistake number) = Unit {0}

record OneLine (bs : List ℕ) (ch : Q.Character) : Type 0 where
  pub line : CharacterLine bs ch

number-line : (bs : List ℕ) → OneLine (42 ∷ bs) (Q.by_number bs)
unfolding Q.by_number Q.by_digits newlines
number-line [] = record { line = tt }
number-line (a ∷ []) = record { line = tt }
number-line (a ∷ b ∷ []) = record { line = tt }
number-line (a ∷ b ∷ c ∷ r) = either (OneLine (42 ∷ a ∷ b ∷ c ∷ r)) (Q.digit a && (Q.digit b && (Q.digit c && leb (Q.number_of a b c) 255)))
    (λ e. let p = both_true (Q.digit a) _ e in
    let q = both_true (Q.digit b) _ p.1 in
    record { line = rw (no-newline a p.0, no-newline b q.0, no-newline c (both_true (Q.digit c) _ q.1).0) })
    (λ _. record { line = tt })
  where
    no-newline : (d : ℕ) → Q.digit d ≡ true → eqb d 10 ≡ false
    no-newline d e = ne_eqb d 10 (λ k. omega (arith, digit-bounds d e))

escape-line : (bs : List ℕ) → OneLine (42 ∷ bs) (Q.escape bs)
unfolding Q.escape newlines
escape-line [] = record { line = tt }
escape-line (c ∷ r) = one 78 10 refl (one 83 32 refl (one 84 9 refl (one 66 8 refl (one 80 12 refl
    (one 67 13 refl (one 42 42 refl (one 39 39 refl (one 34 34 refl (number-line (c ∷ r))))))))))
  where
    one : (k v : ℕ) {other : Q.Character} → eqb k 10 ≡ false → OneLine (42 ∷ c ∷ r) other → OneLine (42 ∷ c ∷ r) (cond (eqb c k) (Q.is v 2) other)
    one k v n p = either (OneLine (42 ∷ c ∷ r)) (eqb c k) (λ e. record { line = rw (eqb-true c k e, n) }) (λ e. p)

character-line : (quote : ℕ) → eqb quote 10 ≡ false → (bs : List ℕ) → CharacterLine bs (Q.character quote bs)
unfolding Q.character newlines
character-line quote n [] = tt
character-line quote n (c ∷ r) = either (CharacterLine (c ∷ r)) (eqb c quote) (λ e. rw (eqb-true c quote e, n))
    (λ _. either (CharacterLine (c ∷ r)) (eqb c 42) (λ e. rw (eqb-true c 42 e) (escape-line r).line)
    (λ _. either (CharacterLine (c ∷ r)) (eqb c 10) (λ _. tt) (λ _. either (CharacterLine (c ∷ r)) (leb 32 c)
    (λ l. either (CharacterLine (c ∷ r)) (leb c 126) (λ h. rw (ne_eqb c 10 (λ e. omega (arith, leb-true 32 c l)))) (λ _. tt)) (λ _. tt))))

-- the newlines of a quotation are those of the bytes passed over first
abbrev QuotedLine : (k : ℕ) → List ℕ → Quoted → Type 0
QuotedLine k bs (closed cs n) = newlines (take n bs) ≡ newlines (take k bs)
QuotedLine k bs unclosed = Unit {0}
QuotedLine k bs (faulty number n) = Unit {0}

wider-line : (c : ℕ) (r : List ℕ) (k : ℕ) (q : Quoted) → QuotedLine k r q → QuotedLine (suc k) (c ∷ r) (Q.wider q)
unfolding newlines
wider-line c r k = elim [ closed cs m ↦ λ h. rw h | unclosed ↦ λ h. tt | faulty number n ↦ λ h. tt ]

after_line : (v w c : ℕ) (r : List ℕ) (q : Quoted) → newlines (take (suc w) (c ∷ r)) ≡ 0 → QuotedLine w r q → QuotedLine 0 (c ∷ r) (Q.after v q)
unfolding newlines
after_line v w c r (closed cs m) h k = rw k h
after_line v w c r unclosed h k = tt
after_line v w c r (faulty number n) h k = tt

fault-line : (number k : ℕ) (bs : List ℕ) (q : Quoted) → QuotedLine k bs (Q.fault_before number q)
fault-line number k bs = elim [ closed cs m ↦ tt | unclosed ↦ tt | faulty j n ↦ tt ]

quoted-line : (quote : ℕ) → eqb quote 10 ≡ false → (room k : ℕ) (bs : List ℕ) → QuotedLine k bs (quoted quote room k bs)
unfolding quoted newlines
quoted-line quote n room k [] = tt
quoted-line quote n room (suc k) (c ∷ r) = wider-line c r k (quoted quote room k r) (quoted-line quote n room k r)
quoted-line quote n room zero (c ∷ r) = by (Q.character quote (c ∷ r)) room refl (character-line quote n (c ∷ r)) (λ a k. quoted-line quote n a k r)
  where
    by : (ch : Q.Character) (room : ℕ) → Q.character quote (c ∷ r) ≡ ch → CharacterLine (c ∷ r) ch → ((a k : ℕ)
        → QuotedLine k r (quoted quote a k r)) → QuotedLine 0 (c ∷ r) (Q.on_character ch room (λ a k. quoted quote a k r))
    by (Q.is v zero) room e h more = absurd (let w : Written (suc (length r)) v zero = is-written quote (c ∷ r) e in omega arith)
    by (Q.is v (suc w)) (suc a) e h more = let z : suc w - 1 ≡ w = omega arith in rw z (after_line v w c r (quoted quote a w r) h (more a w))
    by (Q.is v (suc w)) zero e h more = fault-line 43 0 (c ∷ r) (quoted quote 0 (suc w - 1) r)
    by Q.closing room e h more = h
    by Q.ended room e h more = tt
    by (Q.mistake number) room e h more = fault-line number 0 (c ∷ r) (quoted quote room 0 r)

-- ---- what stands at a place

-- so many bytes at the head, with so many newlines
pub record Stood (bs : List ℕ) (lines width : ℕ) : Type 0 where
  pub some : 1 ≤ width
  pub within : width ≤ length bs
  pub line : newlines (take width bs) ≡ lines

abbrev pub Given : List ℕ → (lines : ℕ) → Element → Type 0
Given bs lines (symbol k v w) = Stood bs 0 w × (k < 62) × (v ≤ 65535 + w)
Given bs lines (gap w) = Stood bs lines w
Given bs lines (wrong n k) = k < length bs

-- every kind of a word and of a sign is below 62, and every sign is a byte or more, on one line
abbrev known : Spelled → Bool
known s = ltb s.kind 62

abbrev on_one_line : Spelled → Bool
on_one_line s = (leb 1 (length s.spelling) && (eqb (newlines s.spelling) 0 && known s))

kind-known : (ws : List Spelled) (bs : List ℕ) → every known (record { spelling = []; kind = 0 }) ws ≡ true → kind_in ws bs < 62
unfolding kind_in
kind-known [] bs t = omega arith
kind-known (w ∷ ws) bs t =
    by-choice (λ k. k < 62) (same w.spelling bs) (ltb-true w.kind 62 (both_left (known w) _ t)) (kind-known ws bs (both_right (known w) _ t))

begins-within : (ss bs : List ℕ) → begins ss bs ≡ true → (length ss ≤ length bs) × (newlines (take (length ss) bs) ≡ newlines ss)
unfolding begins newlines
begins-within [] bs e = (omega arith, refl)
begins-within (s ∷ ss) [] e = contradiction cc
begins-within (s ∷ ss) (b ∷ bs) e = let k : s ≡ b = eqb-true s b (both_left (eqb s b) (begins ss bs) e) in
    let h : (length ss ≤ length bs) × (newlines (take (length ss) bs) ≡ newlines ss) = begins-within ss bs (both_right (eqb s b) (begins ss bs) e) in
    (omega (arith, h.0), rw (k, h.1))

sign-given : (ss : List Spelled) (bs : List ℕ) (lines : ℕ) → 0 < length bs → every on_one_line (record { spelling = []; kind = 0 }) ss ≡ true
    → Given bs lines (sign_in ss bs)
unfolding sign_in
sign-given [] bs lines l t = l
sign-given (s ∷ ss) bs lines l t =
    by (begins s.spelling bs) refl (both_left (on_one_line s) _ t) (sign-given ss bs lines l (both_right (on_one_line s) _ t))
  where
    by : (b : Bool) → begins s.spelling bs ≡ b → on_one_line s ≡ true → Given bs lines (sign_in ss bs)
        → Given bs lines (elim b [ true ↦ symbol s.kind 0 (length s.spelling) | false ↦ sign_in ss bs ])
    by true e o h = let w : (length s.spelling ≤ length bs) × (newlines (take (length s.spelling) bs) ≡ newlines s.spelling) = begins-within
        s.spelling bs e in
        let p : (eqb (newlines s.spelling) 0 && known s) ≡ true = both_right (leb 1 (length s.spelling)) _ o in (
          record {
            some = leb-true 1 (length s.spelling) (both_left (leb 1 (length s.spelling)) _ o);
            within = w.0;
            line = w.1 ∙ eqb-true (newlines s.spelling) 0 (both_left (eqb (newlines s.spelling) 0) _ p);
          },
          ltb-true s.kind 62 (both_right (eqb (newlines s.spelling) 0) (known s) p),
          omega arith,
        )
    by false e o h = h

run-stood : {p : ℕ → Bool} {f : List ℕ → ℕ} → Run p f → (c : ℕ) (r : List ℕ) → p c ≡ true → p 10 ≡ false → Stood (c ∷ r) 0 (f (c ∷ r))
run-stood {p} {f} run c r e n = let k : f (c ∷ r) ≡ suc (f r) = run.some c r ∙ rw e in
    record { some = omega (arith, k); within = run-within run (c ∷ r); line = run-line run n (c ∷ r) }

-- after a byte that is no newline
past-stood : (c : ℕ) (r : List ℕ) {n : ℕ} → (c ≡ 10 → ⊥) → n ≤ length r → newlines (take n r) ≡ 0 → Stood (c ∷ r) 0 (suc n)
unfolding newlines
past-stood c r h w e = record { some = omega arith; within = omega arith; line = rw (ne_eqb c 10 h) e }

other-class : (c m : ℕ) → class_of c ≡ m → (m ≡ 9 → ⊥) → c ≡ 10 → ⊥
unfolding class_of
other-class c m e h k = h (sym e ∙ ap class_of k)

-- a byte that is neither a letter nor a digit
abbrev others : ℕ → ℕ
others c = cond (eqb c 46) 3 (cond (eqb c 35) 4 (cond (eqb c 39) 5 (cond (eqb c 34) 6 (cond (eqb c 32) 8 (cond (eqb c 9) 8 (cond (eqb c 13) 8
    (cond (eqb c 10) 9 (cond (eqb c 33) 7 (cond (eqb c 36) 7 (cond (eqb c 38) 7 (cond (between 40 45 c) 7 (cond (eqb c 47) 7 (cond (between 58 62 c) 7
    (cond (eqb c 64) 7 (cond (eqb c 124) 7 (cond (eqb c 126) 7 0))))))))))))))))

-- a byte of the class of digits is a digit
digit-class : (c : ℕ) → class_of c ≡ 2 → digit_of 10 c ≡ true
unfolding class_of
digit-class c = by (between 65 90 c) (between 48 57 c) refl
  where
    low : between 48 57 c ≡ true → digit_of 10 c ≡ true
    low e = let l : 48 ≤ c = leb-true 48 c (both_left (leb 48 c) (leb c 57) e) in
        let h : c ≤ 57 = leb-true c 57 (both_right (leb 48 c) (leb c 57) e) in
        from-digits 10 c l ∙ lt-ltb c 58 (omega arith)

    never : (t : Bool) (k : ℕ) {n : ℕ} → T (not (eqb k 2)) → (n ≡ 2 → ⊥) → cond t k n ≡ 2 → ⊥
    never true k a b = λ e. T_not (eqb k 2) a (rw e tt)
    never false k a b = b

    rest : others c ≡ 2 → ⊥
    rest = never (eqb c 46) 3 tt (never (eqb c 35) 4 tt (never (eqb c 39) 5 tt (never (eqb c 34) 6 tt (never (eqb c 32) 8 tt (never (eqb c 9) 8 tt
        (never (eqb c 13) 8 tt (never (eqb c 10) 9 tt (never (eqb c 33) 7 tt (never (eqb c 36) 7 tt (never (eqb c 38) 7 tt
        (never (between 40 45 c) 7 tt (never (eqb c 47) 7 tt (never (between 58 62 c) 7 tt (never (eqb c 64) 7 tt (never (eqb c 124) 7 tt
        (never (eqb c 126) 7 tt (λ e. omega arith)))))))))))))))))

    by : (a b : Bool) → between 48 57 c ≡ b → cond a 1 (cond b 2 (others c)) ≡ 2 → digit_of 10 c ≡ true
    by true b e k = absurd (omega arith)
    by false true e k = low e
    by false false e k = absurd (rest k)

-- ---- by the class of the first byte

module _ (c : ℕ) (r : List ℕ) (lines : ℕ) where
  word-given : class_of c ≡ 1 → Given (c ∷ r) lines (word (c ∷ r))
  unfolding word kind_of reserved class_of
  word-given e = (run-stood word-run c r (ap in_word e) refl, kind-known reserved (take (word_width (c ∷ r)) (c ∷ r)) refl, omega arith)

  decimal-given : class_of c ≡ 2 → Given (c ∷ r) lines (decimal (c ∷ r))
  unfolding decimal
  decimal-given e = either (Given (c ∷ r) lines) (leb (value_of 10 0 (c ∷ r)) 32767)
      (λ h. (run-stood (digits-run 10) c r (digit-class c e) refl, omega arith, omega (arith, leb-true (value_of 10 0 (c ∷ r)) 32767 h)))
      (λ _. omega arith)

  module _ (n : c ≡ 10 → ⊥) where
    octal-given : Given (c ∷ r) lines (octal r)
    unfolding octal
    octal-given = either (Given (c ∷ r) lines) (leb 1 (digits 8 r) && leb (value_of 8 0 r) 65535) (λ h. (
      past-stood c r n (run-within (digits-run 8) r) (run-line (digits-run 8) refl r),
      omega arith,
      omega (arith, leb-true (value_of 8 0 r) 65535 (both_right (leb 1 (digits 8 r)) _ h)),
    )) (λ _. omega arith)

    character-given : Given (c ∷ r) lines (character r)
    unfolding character newlines
    character-given = by (quoted 39 1 0 r) refl (quoted-line 39 refl 1 0 r)
      where
        by : (q : Quoted) → quoted 39 1 0 r ≡ q → QuotedLine 0 r q → Given (c ∷ r) lines (as_character q)
        by (closed [] w) e k = omega arith
        by (closed (v ∷ vs) w) e k = let d : Closed 1 0 (length r) (v ∷ vs) w = is-closed 39 1 0 r e in
            (past-stood c r n d.within k, omega arith, omega (arith, each-byte (v ∷ vs) d.each 0))
        by unclosed e k = omega arith
        by (faulty number w) e k = omega (arith, fault-within 39 1 0 r e)

    string-given : Given (c ∷ r) lines (string r)
    unfolding string newlines
    string-given = by (quoted 34 255 0 r) refl (quoted-line 34 refl 255 0 r)
      where
        by : (q : Quoted) → quoted 34 255 0 r ≡ q → QuotedLine 0 r q → Given (c ∷ r) lines (as_string q)
        by (closed cs w) e k = let d : Closed 255 0 (length r) cs w = is-closed 34 255 0 r e in
            (past-stood c r n d.within k, omega arith, omega (arith, d.short))
        by unclosed e k = omega arith
        by (faulty number w) e k = omega (arith, fault-within 34 255 0 r e)

module _ (c : ℕ) (r : List ℕ) where
  abbrev here : ℕ
  here = cond (eqb c 10) 1 0

  one-given : Stood (c ∷ r) here 1
  unfolding newlines
  one-given = record { some = omega arith; within = omega arith; line = refl }

  comment-given : begins (47 ∷ 47 ∷ []) (c ∷ r) ≡ true → Given (c ∷ r) here (comment (c ∷ r))
  unfolding comment begins
  comment-given e = let k : 47 ≡ c = eqb-true 47 c (both_left (eqb 47 c) _ e) in
      let n : eqb c 10 ≡ false = ne_eqb c 10 (λ j. omega arith) in
      rw n (run-stood comment-run c r (rw n) refl)

  sign-or-comment-given : Given (c ∷ r) here (sign_or_comment (c ∷ r))
  unfolding sign_or_comment sign signs newlines
  sign-or-comment-given = either (Given (c ∷ r) here) (begins (47 ∷ 47 ∷ []) (c ∷ r)) comment-given
      (λ _. sign-given signs (c ∷ r) here (omega arith) refl)

  pub element-given : Given (c ∷ r) here (by_class (class_of c) (c ∷ r))
  unfolding by_class
  element-given = either (Given (c ∷ r) here) (eqb (class_of c) LETTER) (λ e. word-given c r here (eqb-true _ _ e))
      (λ _. either (Given (c ∷ r) here) (eqb (class_of c) DIGIT) (λ e. decimal-given c r here (eqb-true _ _ e))
      (λ _. either (Given (c ∷ r) here) (eqb (class_of c) HASH) (λ e. octal-given c r here (other-class c 4 (eqb-true _ _ e) (λ k. omega arith)))
      (λ _. either (Given (c ∷ r) here) (eqb (class_of c) QUOTE) (λ e. character-given c r here (other-class c 5 (eqb-true _ _ e) (λ k. omega arith)))
      (λ _. either (Given (c ∷ r) here) (eqb (class_of c) DOUBLE) (λ e. string-given c r here (other-class c 6 (eqb-true _ _ e) (λ k. omega arith)))
      (λ _. either (Given (c ∷ r) here) (eqb (class_of c) SIGN) (λ _. sign-or-comment-given)
      (λ _. either (Given (c ∷ r) here) (eqb (class_of c) SEPARATOR) (λ _. one-given)
      (λ _. either (Given (c ∷ r) here) (eqb (class_of c) NEWLINE) (λ _. one-given) (λ _. omega arith))))))))
