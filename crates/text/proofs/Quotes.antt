-- Characters between quotes: one at a time, and what every reading of them satisfies.
use Rattle.laws.proofs.Basics.{ℕ, zero, suc, ◌+◌, ◌-◌, ◌<◌, ◌≤◌, ◌≡◌, refl, sym, ap, ◌∙◌, List, [], ◌∷◌, true, false, ◌&&◌, cond, length, get_or}
use Rattle.laws.proofs.Basics.{drop}
use Rattle.laws.proofs.Basics.{length-drop, eqb, leb, arith, eq-eqb, ne_eqb, leb-true, le-leb}
use Rattle.std.specs.Prelude.{Option, Some, None}
use Rattle.laws.proofs.Cases.{by_cases, either, contradiction, both_true}
use Rattle.text.proofs.Bytes.{Unlike}
use Rattle.text.specs.Quoted.{Character, is, closing, ended, mistake, digit, number_of, by_digits, by_number, escape, character}
use Rattle.text.specs.Quoted.{Quoted, closed, unclosed, faulty, wider, after, fault_before, on_character, quoted}
use Rattle.text.specs.Parts.{value_of, value_if, is_closed, widened}

-- ---- the character at the head, by the head

module _ (quote c : ℕ) (r : List ℕ) where
  pub at-quote : c ≡ quote → character quote (c ∷ r) ≡ closing
  unfolding character
  at-quote e = simp (eq-eqb c quote e)

  module _ (other : c ≡ quote → ⊥) where
    pub at-asterisk : c ≡ 42 → character quote (c ∷ r) ≡ escape r
    unfolding character
    at-asterisk e = rw (ne_eqb c quote other, eq-eqb c 42 e)

    module _ (no-escape : c ≡ 42 → ⊥) where
      pub at_plain : 32 ≤ c → c ≤ 126 → character quote (c ∷ r) ≡ is c 1
      unfolding character
      at_plain l h = rw (ne_eqb c quote other, ne_eqb c 42 no-escape, ne_eqb c 10 (λ n. omega arith), le-leb 32 c l, le-leb c 126 h)

pub no-letter : (c : ℕ) (r : List ℕ) → Unlike c (34 ∷ 39 ∷ 42 ∷ 67 ∷ 80 ∷ 66 ∷ 84 ∷ 83 ∷ 78 ∷ []) → escape (c ∷ r) ≡ by_number (c ∷ r)
unfolding escape
no-letter c r h = rw (
  ne_eqb c 78 h.0.0.0.0.0.0.0.0.1,
  ne_eqb c 83 h.0.0.0.0.0.0.0.1,
  ne_eqb c 84 h.0.0.0.0.0.0.1,
  ne_eqb c 66 h.0.0.0.0.0.1,
  ne_eqb c 80 h.0.0.0.0.1,
  ne_eqb c 67 h.0.0.0.1,
  ne_eqb c 42 h.0.0.1,
  ne_eqb c 39 h.0.1,
  ne_eqb c 34 h.1,
)

-- ---- a character by its number

pub digit-bounds : (c : ℕ) → digit c ≡ true → (48 ≤ c) × (c ≤ 57)
digit-bounds c e = by_cases (leb 48 c) (λ l. (leb-true 48 c l, leb-true c 57 (rw l at e))) (λ l. let z : false ≡ true = rw l at e in contradiction cc)

pub a_byte : (a b c : ℕ) → digit a ≡ true → digit b ≡ true → digit c ≡ true → {n : ℕ} → n ≡ number_of a b c → n ≤ 255 → by_digits a b c ≡ is n 4
unfolding by_digits
a_byte a b c x y z e h = rw (x, y, z, ← e, le-leb _ 255 h)

-- ---- a character's value and width

-- a character written by `width` of some n bytes
pub record Written (n value width : ℕ) : Type 0 where
  pub some : 1 ≤ width
  pub within : width ≤ n
  pub one : value ≤ 255

-- each of some characters can be written: it is a byte
abbrev pub Writable : List ℕ → Type 0
Writable [] = Unit {0}
Writable (c ∷ cs) = (c ≤ 255) × Writable cs

pub each-byte : (characters : List ℕ) → Writable characters → (k : ℕ) → get_or characters k 0 ≤ 255
each-byte [] w k = omega arith
each-byte (c ∷ cs) w zero = w.0
each-byte (c ∷ cs) w (suc k) = each-byte cs w.1 k

abbrev pub IfIs : ℕ → Character → Type 0
IfIs n (is v w) = Written n v w
IfIs n closing = Unit {0}
IfIs n ended = Unit {0}
IfIs n (mistake number) = Unit {0}

-- of each character that n bytes may begin with
record Fits (n : ℕ) (ch : Character) : Type 0 where
  pub fits : IfIs n ch

number-written : (bytes : List ℕ) → Fits (suc (length bytes)) (by_number bytes)
unfolding by_number by_digits
number-written [] = record { fits = tt }
number-written (a ∷ []) = record { fits = tt }
number-written (a ∷ b ∷ []) = record { fits = tt }
number-written (a ∷ b ∷ c ∷ r) = either (Fits _) (digit a && (digit b && (digit c && leb (number_of a b c) 255)))
    (λ e. record { fits = record { some = omega arith; within = omega arith; one = small e } }) (λ _. record { fits = tt })
  where
    small : (digit a && (digit b && (digit c && leb (number_of a b c) 255))) ≡ true → number_of a b c ≤ 255
    small e = leb-true (number_of a b c) 255 (both_true (digit c) _ (both_true (digit b) _ (both_true (digit a) _ e).1).1).1

escape-written : (bytes : List ℕ) → Fits (suc (length bytes)) (escape bytes)
unfolding escape
escape-written [] = record { fits = tt }
escape-written (c ∷ r) =
    each 78 10 (omega arith) (each 83 32 (omega arith) (each 84 9 (omega arith) (each 66 8 (omega arith) (each 80 12 (omega arith)
    (each 67 13 (omega arith) (each 42 42 (omega arith) (each 39 39 (omega arith) (each 34 34 (omega arith) (number-written (c ∷ r))))))))))
  where
    each : (k v : ℕ) {other : Character} → v ≤ 255 → Fits (suc (suc (length r))) other → Fits (suc (suc (length r))) (cond (eqb c k) (is v 2) other)
    each k v w p = either (Fits _) (eqb c k) (λ _. record { fits = record { some = omega arith; within = omega arith; one = w } }) (λ _. p)

character-written : (quote : ℕ) (bytes : List ℕ) → Fits (length bytes) (character quote bytes)
unfolding character
character-written quote [] = record { fits = tt }
character-written quote (c ∷ r) = either (Fits _) (eqb c quote) (λ _. record { fits = tt }) (λ _. either (Fits _) (eqb c 42) (λ _. escape-written r)
    (λ _. either (Fits _) (eqb c 10) (λ _. record { fits = tt }) (λ _. either (Fits _) (leb 32 c) (λ _. either (Fits _) (leb c 126)
    (λ h. record { fits = record { some = omega arith; within = omega arith; one = omega (arith, leb-true c 126 h) } }) (λ _. record { fits = tt }))
    (λ _. record { fits = tt }))))

pub is-written : (quote : ℕ) (bytes : List ℕ) {v w : ℕ} → character quote bytes ≡ is v w → Written (length bytes) v w
is-written quote bytes e = (rw e at (character-written quote bytes)).fits

-- at a place of a text
module _ (quote : ℕ) (text : List ℕ) (at : ℕ) where
  pub is-inside : {v w : ℕ} → character quote (drop at text) ≡ is v w → (1 ≤ w) × (at + w ≤ length text)
  is-inside {v} {w} e = let h : Written (length (drop at text)) v w = is-written quote (drop at text) e in
      let l : length (drop at text) ≡ length text - at = length-drop at text in (h.some, omega arith)

  some-inside : (character quote (drop at text) ≡ ended → ⊥) → at < length text
  unfolding character
  some-inside other = by (drop at text) other (length-drop at text)
    where
      by : (bytes : List ℕ) → (character quote bytes ≡ ended → ⊥) → length bytes ≡ length text - at → at < length text
      by [] k l = absurd (k refl)
      by (c ∷ r) k l = omega arith

  pub closing-inside : character quote (drop at text) ≡ closing → at < length text
  closing-inside e = some-inside (λ k. contradiction cc)

  pub mistake-inside : {number : ℕ} → character quote (drop at text) ≡ mistake number → at < length text
  mistake-inside e = some-inside (λ k. contradiction cc)

-- ---- a constant by the character at its head

-- a character v of w bytes before it
abbrev pub onward : (v w : ℕ) → Quoted → Quoted
onward v w (closed cs n) = closed (v ∷ cs) (w + n)
onward v w unclosed = unclosed
onward v w (faulty number n) = faulty number (w + n)

widened-zero : (q : Quoted) → widened 0 q ≡ q
widened-zero = elim [ closed cs n ↦ ap (closed cs) (omega arith) | unclosed ↦ refl | faulty number n ↦ ap (faulty number) (omega arith) ]

widened-suc : (k : ℕ) (q : Quoted) → wider (widened k q) ≡ widened (suc k) q
widened-suc k = elim [ closed cs n ↦ ap (closed cs) (omega arith) | unclosed ↦ refl | faulty number n ↦ ap (faulty number) (omega arith) ]

after-widened : (v w : ℕ) (q : Quoted) → after v (widened w q) ≡ onward v (suc w) q
after-widened v w = elim [ closed cs n ↦ ap (closed (v ∷ cs)) (omega arith) | unclosed ↦ refl | faulty number n ↦ ap (faulty number) (omega arith) ]

fault-widened : (number w : ℕ) (q : Quoted) → fault_before number (widened w q) ≡ fault_before number q
fault-widened number w = elim [ closed cs n ↦ refl | unclosed ↦ refl | faulty k n ↦ refl ]

pub quoted-over : (quote room k : ℕ) (bytes : List ℕ) → quoted quote room k bytes ≡ widened k (quoted quote room 0 (drop k bytes))
unfolding quoted
quoted-over quote room zero bytes = sym (widened-zero (quoted quote room 0 bytes))
quoted-over quote room (suc k) [] = refl
quoted-over quote room (suc k) (c ∷ r) = ap wider (quoted-over quote room k r) ∙ widened-suc k (quoted quote room 0 (drop k r))

module _ (quote room : ℕ) where
  pub quoted-next : (bytes : List ℕ) {v w : ℕ} → character quote bytes ≡ is v w
      → quoted quote (suc room) 0 bytes ≡ onward v w (quoted quote room 0 (drop w bytes))
  unfolding quoted
  quoted-next [] {v = v} {w = w} e = absurd (let h : Written 0 v w = is-written quote [] e in omega arith)
  quoted-next (c ∷ r) {v = v} {w = zero} e = absurd (let h : Written (suc (length r)) v zero = is-written quote (c ∷ r) e in omega arith)
  quoted-next (c ∷ r) {v = v} {w = suc w} e = let z : suc w - 1 ≡ w = omega arith in
      rw (e, z, quoted-over quote room w r) (after-widened v w (quoted quote room 0 (drop w r)))

  pub quoted-end : (bytes : List ℕ) → character quote bytes ≡ closing → quoted quote room 0 bytes ≡ closed [] 1
  unfolding quoted character
  quoted-end [] e = contradiction cc
  quoted-end (c ∷ r) e = rw e

  pub quoted-ended : (bytes : List ℕ) → character quote bytes ≡ ended → quoted quote room 0 bytes ≡ unclosed
  unfolding quoted
  quoted-ended [] e = refl
  quoted-ended (c ∷ r) e = rw e

  pub quoted-mistake : (bytes : List ℕ) {number : ℕ} → character quote bytes ≡ mistake number
      → quoted quote room 0 bytes ≡ fault_before number (quoted quote room 0 (drop 1 bytes))
  unfolding quoted character
  quoted-mistake [] e = contradiction cc
  quoted-mistake (c ∷ r) e = rw e

-- a character that there is no room for
pub quoted-full : (quote : ℕ) (bytes : List ℕ) {v w : ℕ} → character quote bytes ≡ is v w
    → quoted quote 0 0 bytes ≡ fault_before 43 (quoted quote 0 0 (drop w bytes))
unfolding quoted
quoted-full quote [] {v = v} {w = w} e = absurd (let h : Written 0 v w = is-written quote [] e in omega arith)
quoted-full quote (c ∷ r) {v = v} {w = zero} e = absurd (let h : Written (suc (length r)) v zero = is-written quote (c ∷ r) e in omega arith)
quoted-full quote (c ∷ r) {v = v} {w = suc w} e = let z : suc w - 1 ≡ w = omega arith in
    rw (e, z, quoted-over quote 0 w r) (fault-widened 43 w (quoted quote 0 0 (drop w r)))

-- ---- whether a constant is closed, however much room there is

closed-wider : (q : Quoted) → is_closed (wider q) ≡ is_closed q
closed-wider = elim [ closed cs n ↦ refl | unclosed ↦ refl | faulty number n ↦ refl ]

closed_after : (v : ℕ) (q : Quoted) → is_closed (after v q) ≡ is_closed q
closed_after v = elim [ closed cs n ↦ refl | unclosed ↦ refl | faulty number n ↦ refl ]

pub closed-fault : (number : ℕ) (q : Quoted) → is_closed (fault_before number q) ≡ is_closed q
closed-fault number = elim [ closed cs n ↦ refl | unclosed ↦ refl | faulty k n ↦ refl ]

pub closed-alike : (quote room k : ℕ) (bytes : List ℕ) → is_closed (quoted quote room k bytes) ≡ is_closed (quoted quote 0 k bytes)
unfolding quoted
closed-alike quote room k [] = refl
closed-alike quote room (suc k) (c ∷ r) = closed-wider (quoted quote room k r) ∙ closed-alike quote room k r ∙ sym (closed-wider (quoted quote 0 k r))
closed-alike quote room zero (c ∷ r) = by (character quote (c ∷ r)) room (λ a k. closed-alike quote a k r)
  where
    by : (ch : Character) (room : ℕ) → ((a k : ℕ) → is_closed (quoted quote a k r) ≡ is_closed (quoted quote 0 k r))
        → is_closed (on_character ch room (λ a k. quoted quote a k r)) ≡ is_closed (on_character ch 0 (λ a k. quoted quote a k r))
    by (is v w) zero more = refl
    by (is v w) (suc a) more = closed_after v (quoted quote a (w - 1) r) ∙ more a (w - 1) ∙ sym (closed-fault 43 (quoted quote 0 (w - 1) r))
    by closing room more = refl
    by ended room more = refl
    by (mistake number) room more = closed-fault number (quoted quote room 0 r) ∙ more room 0 ∙ sym (closed-fault number (quoted quote 0 0 r))

-- ---- what every constant of n bytes satisfies, k of them passed over first, if it is closed; and a fault in it is at one of its bytes

pub record Closed (room k n : ℕ) (characters : List ℕ) (width : ℕ) : Type 0 where
  -- the quote, and at least a byte for each character
  pub enough : k + 1 + length characters ≤ width
  pub within : width ≤ n
  pub short : length characters ≤ room
  pub each : Writable characters

abbrev IfClosed : (room k n : ℕ) → Quoted → Type 0
IfClosed room k n (closed cs w) = Closed room k n cs w
IfClosed room k n unclosed = Unit {0}
IfClosed room k n (faulty number w) = w < n

wider-closed : (room k n : ℕ) (q : Quoted) → IfClosed room k n q → IfClosed room (suc k) (suc n) (wider q)
wider-closed room k n (closed cs w) h = record { enough = omega arith; within = omega arith; short = h.short; each = h.each }
wider-closed room k n unclosed h = tt
wider-closed room k n (faulty number w) h = omega arith

after-closed : (v room k n : ℕ) (q : Quoted) → v ≤ 255 → IfClosed room k n q → IfClosed (suc room) 0 (suc n) (after v q)
after-closed v room k n (closed cs w) one h = record { enough = omega arith; within = omega arith; short = omega arith; each = (one, h.each) }
after-closed v room k n unclosed one h = tt
after-closed v room k n (faulty number w) one h = omega arith

fault-closed : (number room k n : ℕ) (q : Quoted) → IfClosed room k (suc n) (fault_before number q)
fault-closed number room k n = elim [ closed cs w ↦ omega arith | unclosed ↦ tt | faulty j w ↦ omega arith ]

quoted-each : (quote room k : ℕ) (bytes : List ℕ) → IfClosed room k (length bytes) (quoted quote room k bytes)
unfolding quoted
quoted-each quote room k [] = tt
quoted-each quote room (suc k) (c ∷ r) = wider-closed room k (length r) (quoted quote room k r) (quoted-each quote room k r)
quoted-each quote room zero (c ∷ r) = by (character quote (c ∷ r)) room (character-written quote (c ∷ r)) (λ a k. quoted-each quote a k r)
  where
    by : (ch : Character) (room : ℕ) → Fits (suc (length r)) ch → ((a k : ℕ) → IfClosed a k (length r) (quoted quote a k r))
        → IfClosed room 0 (suc (length r)) (on_character ch room (λ a k. quoted quote a k r))
    by (is v w) (suc a) f more = after-closed v a (w - 1) (length r) (quoted quote a (w - 1) r) f.fits.one (more a (w - 1))
    by (is v w) zero f more = fault-closed 43 0 0 (length r) (quoted quote 0 (w - 1) r)
    by closing room f more = record { enough = omega arith; within = omega arith; short = omega arith; each = tt }
    by ended room f more = tt
    by (mistake number) room f more = fault-closed number room 0 (length r) (quoted quote room 0 r)

pub is-closed : (quote room k : ℕ) (bytes : List ℕ) {cs : List ℕ} {w : ℕ} → quoted quote room k bytes ≡ closed cs w
    → Closed room k (length bytes) cs w
is-closed quote room k bytes e = rw e at (quoted-each quote room k bytes)

pub fault-within : (quote room k : ℕ) (bytes : List ℕ) {number w : ℕ} → quoted quote room k bytes ≡ faulty number w → w < length bytes
fault-within quote room k bytes e = rw e at (quoted-each quote room k bytes)

-- the first of its characters, if it has any
abbrev pub first : List ℕ → Option ℕ
first [] = None
first (c ∷ cs) = Some c

pub first-if : (quote room : ℕ) (bytes : List ℕ) {cs : List ℕ} {w : ℕ} → quoted quote room 0 bytes ≡ closed cs w
    → value_if (character quote bytes) ≡ first cs
unfolding quoted character
first-if quote room [] e = contradiction cc
first-if quote room (b ∷ r) {cs} {w} e = by (character quote (b ∷ r)) room e
  where
    after_first : (v : ℕ) (q : Quoted) → after v q ≡ closed cs w → Some v ≡ first cs
    after_first v = elim [ closed ds n ↦ λ k. let e : v ∷ ds ≡ cs = cc in ap first e | unclosed ↦ λ k. contradiction cc | faulty number n ↦ λ k. contradiction cc ]

    no-fault : {A : Type 0} (number : ℕ) (q : Quoted) → fault_before number q ≡ closed cs w → A
    no-fault number = elim [ closed ds n ↦ λ k. contradiction cc | unclosed ↦ λ k. contradiction cc | faulty j n ↦ λ k. contradiction cc ]

    by : (ch : Character) (room : ℕ) → on_character ch room (λ a k. quoted quote a k r) ≡ closed cs w → value_if ch ≡ first cs
    by (is v n) (suc a) k = after_first v (quoted quote a (n - 1) r) k
    by (is v n) zero k = no-fault 43 (quoted quote 0 (n - 1) r) k
    by closing room k = let e : [] ≡ cs = cc in ap first e
    by ended room k = contradiction cc
    by (mistake number) room k = no-fault number (quoted quote room 0 r) k

-- the first of its characters
pub first-is : (quote room : ℕ) (bytes : List ℕ) {c : ℕ} {cs : List ℕ} {w : ℕ} → quoted quote room 0 bytes ≡ closed (c ∷ cs) w
    → value_of (character quote bytes) ≡ c
first-is quote room bytes {c} e = given (character quote bytes) (first-if quote room bytes e)
  where
    given : (ch : Character) → value_if ch ≡ Some c → value_of ch ≡ c
    given = elim [ is v n ↦ λ k. cc | closing ↦ λ k. contradiction cc | ended ↦ λ k. contradiction cc | mistake number ↦ λ k. contradiction cc ]

-- ---- a constant that is closed is so in any room for its characters

abbrev IfSame : (room : ℕ) (p q : Quoted) → Type 0
IfSame room (closed cs w) q = length cs ≤ room → q ≡ closed cs w
IfSame room unclosed q = Unit {0}
IfSame room (faulty number n) q = Unit {0}

wider-same : (room : ℕ) (p q : Quoted) → IfSame room p q → IfSame room (wider p) (wider q)
wider-same room (closed cs w) q h = λ l. ap wider (h l)
wider-same room unclosed q h = tt
wider-same room (faulty number n) q h = tt

after_same : (v room : ℕ) (p q : Quoted) → IfSame room p q → IfSame (suc room) (after v p) (after v q)
after_same v room (closed cs w) q h = λ l. ap (after v) (h (omega arith))
after_same v room unclosed q h = tt
after_same v room (faulty number n) q h = tt

after-full : (v : ℕ) (p q : Quoted) → IfSame 0 (after v p) q
after-full v = elim [ closed cs w ↦ λ q. λ l. absurd (omega arith) | unclosed ↦ λ q. tt | faulty number n ↦ λ q. tt ]

fault-same : (number room : ℕ) (p q : Quoted) → IfSame room (fault_before number p) q
fault-same number room = elim [ closed cs w ↦ λ q. tt | unclosed ↦ λ q. tt | faulty k n ↦ λ q. tt ]

quoted-same : (quote some other k : ℕ) (bytes : List ℕ) → IfSame other (quoted quote some k bytes) (quoted quote other k bytes)
unfolding quoted
quoted-same quote some other k [] = tt
quoted-same quote some other (suc k) (c ∷ r) = wider-same other (quoted quote some k r) (quoted quote other k r) (quoted-same quote some other k r)
quoted-same quote some other zero (c ∷ r) = by (character quote (c ∷ r)) some other (λ a b k. quoted-same quote a b k r)
  where
    by : (ch : Character) (a b : ℕ) → ((a b k : ℕ) → IfSame b (quoted quote a k r) (quoted quote b k r))
        → IfSame b (on_character ch a (λ a k. quoted quote a k r)) (on_character ch b (λ a k. quoted quote a k r))
    by (is v w) (suc a) (suc b) h = after_same v b (quoted quote a (w - 1) r) (quoted quote b (w - 1) r) (h a b (w - 1))
    by (is v w) (suc a) zero h = after-full v (quoted quote a (w - 1) r) (fault_before 43 (quoted quote 0 (w - 1) r))
    by (is v w) zero b h = fault-same 43 b (quoted quote 0 (w - 1) r) (on_character (is v w) b (λ a k. quoted quote a k r))
    by closing a b h = λ l. refl
    by ended a b h = tt
    by (mistake number) a b h = fault-same number b (quoted quote a 0 r) (fault_before number (quoted quote b 0 r))

pub with-room : (quote some other k : ℕ) (bytes : List ℕ) {cs : List ℕ} {w : ℕ} → quoted quote some k bytes ≡ closed cs w → length cs ≤ other
    → quoted quote other k bytes ≡ closed cs w
with-room quote some other k bytes e = rw e at (quoted-same quote some other k bytes)
