-- A constant from a place of a text on, as the code reads it: character by character.
use Rattle.laws.proofs.Basics.{ℕ, zero, suc, ◌+◌, ◌-◌, ◌<◌, ◌≤◌, ◌≡◌, refl, sym, ap, ◌∙◌, List, [], ◌∷◌, true, false, length, drop, length-drop}
use Rattle.laws.proofs.Basics.{drop-drop, arith}
use Rattle.laws.proofs.Cases.{contradiction}
use Rattle.text.specs.Quoted.{is, closing, ended, mistake, character, Quoted, closed, unclosed, faulty, fault_before, quoted}
use Rattle.text.specs.Parts.{is_closed, widened}
use Rattle.text.specs.Answers as A
use Rattle.text.specs.Answers.{Found, counted}
use Rattle.text.proofs.Answers.{Counted}
use Rattle.text.proofs.Quotes as Q
use Rattle.text.proofs.Quotes.{onward, quoted-next, quoted-end, quoted-ended, quoted-mistake, quoted-full, closed-fault, closed-alike}

-- ---- whether it is closed

module _ (quote : ℕ) (text : List ℕ) (i : ℕ) where
  pub closes-next : {v w : ℕ} → character quote (drop i text) ≡ is v w
      → is_closed (quoted quote 0 0 (drop i text)) ≡ is_closed (quoted quote 0 0 (drop (i + w) text))
  closes-next {v} {w} e = ap is_closed (quoted-full quote (drop i text) e) ∙ closed-fault 43 (quoted quote 0 0 (drop w (drop i text))) ∙
      ap (λ (l : List ℕ). is_closed (quoted quote 0 0 l)) (drop-drop w i text)

  pub closes-mistake : {number : ℕ} → character quote (drop i text) ≡ mistake number
      → is_closed (quoted quote 0 0 (drop i text)) ≡ is_closed (quoted quote 0 0 (drop (i + 1) text))
  closes-mistake {number} e = ap is_closed (quoted-mistake quote 0 (drop i text) e) ∙ closed-fault number (quoted quote 0 0 (drop 1 (drop i text))) ∙
      ap (λ (l : List ℕ). is_closed (quoted quote 0 0 l)) (drop-drop 1 i text)

  pub closes-end : character quote (drop i text) ≡ closing → is_closed (quoted quote 0 0 (drop i text)) ≡ true
  closes-end e = ap is_closed (quoted-end quote 0 (drop i text) e)

  pub closes-never : character quote (drop i text) ≡ ended → is_closed (quoted quote 0 0 (drop i text)) ≡ false
  closes-never e = ap is_closed (quoted-ended quote 0 (drop i text) e)

-- ---- a fault in it

module _ (number offset : ℕ) (q : Quoted) where
  pub fault-closed : is_closed q ≡ true → A.faulty number offset ≡ counted (widened offset (fault_before number q))
  unfolding counted
  fault-closed = by q
    where
      by : (q : Quoted) → is_closed q ≡ true → A.faulty number offset ≡ counted (widened offset (fault_before number q))
      by (closed cs n) e = ap (A.faulty number) (omega arith)
      by unclosed e = contradiction cc
      by (faulty k n) e = ap (A.faulty number) (omega arith)

  pub fault-unclosed : is_closed q ≡ false → A.unclosed ≡ counted (widened offset (fault_before number q))
  unfolding counted
  fault-unclosed = by q
    where
      by : (q : Quoted) → is_closed q ≡ false → A.unclosed ≡ counted (widened offset (fault_before number q))
      by (closed cs n) e = contradiction cc
      by unclosed e = refl
      by (faulty k n) e = contradiction cc

-- a fault in front depends on the rest's closing alone
fault-alike : (number : ℕ) (p q : Quoted) → is_closed p ≡ is_closed q → fault_before number p ≡ fault_before number q
fault-alike number (closed cs n) (closed ds m) e = refl
fault-alike number (closed cs n) unclosed e = contradiction cc
fault-alike number (closed cs n) (faulty k m) e = refl
fault-alike number unclosed (closed ds m) e = contradiction cc
fault-alike number unclosed unclosed e = refl
fault-alike number unclosed (faulty k m) e = contradiction cc
fault-alike number (faulty j n) (closed ds m) e = refl
fault-alike number (faulty j n) unclosed e = contradiction cc
fault-alike number (faulty j n) (faulty k m) e = refl

-- ---- the whole of it, n characters and k bytes before those that are read

abbrev pub added : (n k : ℕ) → Found → Found
added n k = elim [ A.closed m w ↦ A.closed (n + m) (k + w) | A.unclosed ↦ A.unclosed | A.faulty number w ↦ A.faulty number (k + w) ]

added_none : (k : ℕ) → k ≡ 0 → (r : Found) → r ≡ added 0 k r
added_none k e (A.closed m w) = let a : m ≡ 0 + m = omega arith in let b : w ≡ k + w = omega arith in cc
added_none k e A.unclosed = refl
added_none k e (A.faulty number w) = ap (A.faulty number) (omega arith)

pub constant-start : (quote room : ℕ) (text : List ℕ) (at : ℕ)
    → counted (quoted quote room 0 (drop at text)) ≡ added 0 (at - at) (counted (quoted quote (room - 0) 0 (drop at text)))
constant-start quote room text at = let z : room - 0 ≡ room = omega arith in rw z (added_none (at - at) (omega arith) _)

module _ (quote room : ℕ) (text : List ℕ) (at i n : ℕ) where
  abbrev left : Found
  left = added n (i - at) (counted (quoted quote (room - n) 0 (drop i text)))

  pub constant-next : {v w : ℕ} → character quote (drop i text) ≡ is v w → n < room → at ≤ i
      → left ≡ added (n + 1) (i + w - at) (counted (quoted quote (room - (n + 1)) 0 (drop (i + w) text)))
  unfolding counted
  constant-next {v} {w} e l h = let z : room - n ≡ suc (room - (n + 1)) = omega arith in
      rw (z, quoted-next quote (room - (n + 1)) (drop i text) e, drop-drop w i text) (by (quoted quote (room - (n + 1)) 0 (drop (i + w) text)))
    where
      by : (q : Quoted) → added n (i - at) (counted (onward v w q)) ≡ added (n + 1) (i + w - at) (counted q)
      by (closed cs m) = let a : n + suc (length cs) ≡ n + 1 + length cs = omega arith in let b : i - at + (w + m) ≡ i + w - at + m = omega arith in
          cc
      by unclosed = refl
      by (faulty k m) = ap (A.faulty k) (omega arith)

  pub constant-end : character quote (drop i text) ≡ closing → A.closed n (i - at + 1) ≡ left
  unfolding counted
  constant-end e = rw (quoted-end quote (room - n) (drop i text) e) (ap (λ (m : ℕ). A.closed m (i - at + 1)) (omega arith))

  pub constant-unclosed : character quote (drop i text) ≡ ended → A.unclosed ≡ left
  unfolding counted
  constant-unclosed e = rw (quoted-ended quote (room - n) (drop i text) e)

  moved : (number : ℕ) (q : Quoted) → counted (widened (i - at) (fault_before number q)) ≡ added n (i - at) (counted (fault_before number q))
  unfolding counted
  moved number = elim [ closed cs m ↦ refl | unclosed ↦ refl | faulty k m ↦ refl ]

  module _ (number : ℕ) (q : Quoted) (e : quoted quote (room - n) 0 (drop i text) ≡ fault_before number q) where
    faulted : is_closed (quoted quote 0 0 (drop i text)) ≡ is_closed q
    faulted = sym (closed-alike quote (room - n) 0 (drop i text)) ∙ ap is_closed e ∙ closed-fault number q

    constant-fault : counted (widened (i - at) (fault_before number (quoted quote 0 0 (drop i text)))) ≡ left
    constant-fault = rw (fault-alike number (quoted quote 0 0 (drop i text)) q faulted, e) (moved number q)

  pub constant-mistake : {number : ℕ} → character quote (drop i text) ≡ mistake number
      → counted (widened (i - at) (fault_before number (quoted quote 0 0 (drop i text)))) ≡ left
  constant-mistake {number} e =
      constant-fault number (quoted quote (room - n) 0 (drop 1 (drop i text))) (quoted-mistake quote (room - n) (drop i text) e)

  pub constant-full : {v w : ℕ} → character quote (drop i text) ≡ is v w → n ≡ room
      → counted (widened (i - at) (fault_before 43 (quoted quote 0 0 (drop i text)))) ≡ left
  constant-full {w = w} e k =
      constant-fault 43 (quoted quote 0 0 (drop w (drop i text))) (let z : room - n ≡ 0 = omega arith in rw z (quoted-full quote (drop i text) e))

-- a constant that is closed lies within the text
pub closed-inside : (quote room : ℕ) (text : List ℕ) (at : ℕ) {n w : ℕ} → Counted (quoted quote room 0 (drop at text)) n w
    → (n + 1 ≤ w) × (at + w ≤ length text) × (n ≤ room)
closed-inside quote room text at {n} {w} h =
    let k : Q.Closed room 0 (length (drop at text)) h.characters w = Q.is-closed quote room 0 (drop at text) h.is in
    let e : n ≡ length h.characters = h.count in
    let l : length (drop at text) ≡ length text - at = length-drop at text in (omega arith, omega arith, omega arith)

-- ---- one that is closed, from a place on: a character and the rest, or the closing quote

-- the rest, after a character v of k bytes
pub record Continues (quote room : ℕ) (text : List ℕ) (past v k : ℕ) (cs : List ℕ) (w : ℕ) : Type 0 where
  pub rest : List ℕ
  pub width : ℕ
  pub more : quoted quote room 0 (drop past text) ≡ closed rest width
  pub are : cs ≡ v ∷ rest
  pub wide : w ≡ k + width

no-fault : {A : Type 0} (number : ℕ) (q : Quoted) {cs : List ℕ} {w : ℕ} → fault_before number q ≡ closed cs w → A
no-fault number = elim [ closed ds n ↦ λ e. contradiction cc | unclosed ↦ λ e. contradiction cc | faulty k n ↦ λ e. contradiction cc ]

module _ (quote room : ℕ) (text : List ℕ) (i : ℕ) {cs : List ℕ} {w : ℕ} (h : quoted quote room 0 (drop i text) ≡ closed cs w) where
  pub closed-next : {v k : ℕ} → character quote (drop i text) ≡ is v k → Continues quote room text (i + k) v k cs w
  closed-next {v} {k} e = by room h
    where
      by : (a : ℕ) → quoted quote a 0 (drop i text) ≡ closed cs w → Continues quote a text (i + k) v k cs w
      by zero j = no-fault 43 (quoted quote 0 0 (drop k (drop i text))) (sym (quoted-full quote (drop i text) e) ∙ j)
      by (suc a) j = go (quoted quote a 0 (drop (i + k) text)) refl
          (ap (λ (l : List ℕ). onward v k (quoted quote a 0 l)) (sym (drop-drop k i text)) ∙ sym (quoted-next quote a (drop i text) e) ∙ j)
        where
          go : (q : Quoted) → quoted quote a 0 (drop (i + k) text) ≡ q → onward v k q ≡ closed cs w → Continues quote (suc a) text (i + k) v k cs w
          go (closed ds n) f g = let b : length ds ≤ a = (Q.is-closed quote a 0 (drop (i + k) text) f).short in
              record { rest = ds; width = n; more = Q.with-room quote a (suc a) 0 (drop (i + k) text) f (omega arith); are = cc; wide = cc }
          go unclosed f g = contradiction cc
          go (faulty number n) f g = contradiction cc

  pub closed-end : character quote (drop i text) ≡ closing → cs ≡ []
  closed-end e = let y : closed [] 1 ≡ closed cs w = sym (quoted-end quote room (drop i text) e) ∙ h in cc

  pub closed-goes-on : character quote (drop i text) ≡ ended → ⊥
  closed-goes-on e = let y : unclosed ≡ closed cs w = sym (quoted-ended quote room (drop i text) e) ∙ h in
      contradiction cc

  pub closed-right : {number : ℕ} → character quote (drop i text) ≡ mistake number → ⊥
  closed-right {number} e = no-fault number (quoted quote room 0 (drop 1 (drop i text))) (sym (quoted-mistake quote room (drop i text) e) ∙ h)
