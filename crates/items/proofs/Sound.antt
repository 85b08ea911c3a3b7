-- What every item that is read satisfies: it takes one byte or more of those there, its numbers are capped and its
-- characters are bytes.
use Rattle.laws.proofs.Basics.{ℕ, suc, ◌+◌, ◌-◌, ◌*◌, ◌<◌, ◌≤◌, ◌≡◌, refl, List, [], ◌∷◌, Bool, true, false, cond, length, drop, length-drop}
use Rattle.laws.proofs.Basics.{drop-drop, eqb, ltb, arith, eqb-true, ltb-true}
use Rattle.laws.proofs.Cases.{by_cond, contradiction}
use Rattle.text.specs.Quoted.{Quoted, closed, unclosed, faulty, quoted}
use Rattle.text.proofs.Quotes.{Writable, each-byte, Closed, is-closed}
use Rattle.items.specs.Item.{capped, Operand, number, address, Item, label, instruction, constant, string, global}
use Rattle.items.specs.Reader.{Got, got, nothing, wide, on_got, head, byte, optional, is_digit, digits, digit_count, decimal}
use Rattle.items.specs.Read.{ended, as_character, quoted_character, as_string, quoted_string, negative, quotation, labelled, positive, operand}
use Rattle.items.specs.Read.{base, label_item, instruction_item, constant_item, string_item, global_item, function_of, item}
use Rattle.items.specs.Scan.{mark}
use Rattle.items.specs.Next.{one, one_of, last_of, element_at, next_in}

-- ---- what is to hold

abbrev pub SoundOperand : Operand → Type 0
SoundOperand (number minus size) = size ≤ 65536
SoundOperand (address n) = n ≤ 65536

pub record SoundString (characters : List ℕ) : Type 0 where
  pub short : length characters ≤ 255
  pub each : Writable characters

pub record SoundInstruction (function : ℕ) (x : Operand) : Type 0 where
  pub eight : function < 8
  pub sound : SoundOperand x

pub record SoundGlobal (n m : ℕ) : Type 0 where
  pub first : n ≤ 65536
  pub second : m ≤ 65536

abbrev pub Sound : Item → Type 0
Sound (label n) = n ≤ 65536
Sound (instruction f i b x) = SoundInstruction f x
Sound (constant x) = SoundOperand x
Sound (string cs) = SoundString cs
Sound (global n m) = SoundGlobal n m

-- characters between double quotes, from past the first of them on
pub record Between (bytes characters : List ℕ) : Type 0 where
  pub width : ℕ
  pub reading : quoted 34 255 0 bytes ≡ closed characters width

-- a string's characters are those of the bytes from the third on
abbrev pub Quoting : List ℕ → Item → Type 0
Quoting bytes (string cs) = Between (drop 2 bytes) cs
Quoting bytes (label n) = Unit {0}
Quoting bytes (instruction f i b x) = Unit {0}
Quoting bytes (constant x) = Unit {0}
Quoting bytes (global n m) = Unit {0}

pub record Stands (bytes : List ℕ) (i : Item) : Type 0 where
  pub sound : Sound i
  pub quotes : Quoting bytes i

-- ---- readers that give what satisfies P, of l bytes or more, out of m

pub record Given {A : Type 0} (m l : ℕ) (P : A → Type 0) (value : A) (width : ℕ) : Type 0 where
  pub holds : P value
  pub some : l ≤ width
  pub within : width ≤ m

abbrev IfGot : {A : Type 0} (m l : ℕ) (P : A → Type 0) → Got A → Type 0
IfGot m l P (got a n) = Given m l P a n
IfGot m l P nothing = Unit {0}

record Meets {A : Type 0} (m l : ℕ) (P : A → Type 0) (g : Got A) : Type 0 where
  pub met : IfGot m l P g

fails : {A : Type 0} {m l : ℕ} {P : A → Type 0} → Meets {A = A} m l P nothing
fails = record { met = tt }

gives : {A : Type 0} {m l n : ℕ} {P : A → Type 0} {a : A} → P a → l ≤ n → n ≤ m → Meets m l P (got a n)
gives p s w = record { met = record { holds = p; some = s; within = w } }

-- a value that takes no byte of its own
returns : {A : Type 0} {m : ℕ} {P : A → Type 0} (a : A) → P a → Meets m 0 P (got a 0)
returns a p = gives p (omega arith) (omega arith)

either : {A : Type 0} {m l : ℕ} {P : A → Type 0} {g h : Got A} (t : Bool) → (t ≡ true → Meets m l P g) → Meets m l P h → Meets m l P (cond t g h)
either true p q = p refl
either false p q = q

-- one reader after another
then : {A B : Type 0} {l k : ℕ} {P : A → Type 0} {Q : B → Type 0} {f : A → ℕ → Got B} (bytes : List ℕ) (g : Got A) → Meets (length bytes) l P g
    → ((a : A) (n : ℕ) → P a → Meets (length (drop n bytes)) k Q (f a n)) → Meets (length bytes) (l + k) Q (on_got g (λ a n. wide n (f a n)))
then bytes nothing h more = fails
then {B = B} {l = l} {k = k} {Q = Q} {f = f} bytes (got a n) h more = on (f a n) (more a n h.met.holds)
  where
    on : (g : Got B) → Meets (length (drop n bytes)) k Q g → Meets (length bytes) (l + k) Q (wide n g)
    on nothing j = fails
    on (got b m) j = gives j.met.holds (omega arith) (omega (arith, length-drop n bytes))

-- ---- the parts

-- nothing is said of the value
abbrev Any : {A : Type 0} → A → Type 0
Any a = Unit {0}

byte_meets : (c : ℕ) → c < 256 → (bytes : List ℕ) → Meets (length bytes) 1 Any (byte c bytes)
unfolding byte head
byte_meets c h [] = either (eqb 256 c) (λ e. absurd (omega (arith, eqb-true 256 c e))) fails
byte_meets c h (d ∷ r) = either (eqb d c) (λ _. gives tt (omega arith) (omega arith)) fails

optional-meets : (c : ℕ) → c < 256 → (bytes : List ℕ) → Meets (length bytes) 0 Any (optional c bytes)
unfolding optional head
optional-meets c h [] = either (eqb 256 c) (λ e. absurd (omega (arith, eqb-true 256 c e))) (gives tt (omega arith) (omega arith))
optional-meets c h (d ∷ r) = either (eqb d c) (λ _. gives tt (omega arith) (omega arith)) (gives tt (omega arith) (omega arith))

ended-meets : (bytes : List ℕ) → Meets (length bytes) 0 Any (ended bytes)
unfolding ended
ended-meets bytes = one (eqb (head bytes) 32) (one (eqb (head bytes) 10) (one (eqb (head bytes) 47) (one (eqb (head bytes) 256) fails)))
  where
    one : (t : Bool) {g : Got Bool} → Meets (length bytes) 0 Any g → Meets (length bytes) 0 Any (cond t (got true 0) g)
    one t p = either t (λ _. gives tt (omega arith) (omega arith)) p

base-meets : (bytes : List ℕ) → Meets (length bytes) 0 Any (base bytes)
unfolding base head
base-meets [] = gives tt (omega arith) (omega arith)
base-meets (c ∷ r) = either (eqb c 80) (λ _. gives tt (omega arith) (omega arith))
    (either (eqb c 71) (λ _. gives tt (omega arith) (omega arith)) (gives tt (omega arith) (omega arith)))

digits-small : (v : ℕ) (bytes : List ℕ) → v ≤ 65536 → digits v bytes ≤ 65536
unfolding digits
digits-small v [] h = h
digits-small v (c ∷ r) h = by_cond (λ n. n ≤ 65536) (is_digit c) (digits-small (capped (v * 10 + (c - 48))) r (omega arith)) h

digits-within : (bytes : List ℕ) → digit_count bytes ≤ length bytes
unfolding digit_count
digits-within [] = omega arith
digits-within (c ∷ r) = by_cond (λ n. n ≤ suc (length r)) (is_digit c) (omega (arith, digits-within r)) (omega arith)

decimal-meets : (bytes : List ℕ) → Meets (length bytes) 1 (λ (n : ℕ). n ≤ 65536) (decimal bytes)
unfolding decimal head digit_count
decimal-meets [] = fails
decimal-meets (c ∷ r) = either (is_digit c) (λ e. gives (digits-small 0 (c ∷ r) (omega arith)) (rw e (omega arith)) (digits-within (c ∷ r))) fails

-- ---- operands

character-meets : (bytes : List ℕ) → Meets (length bytes) 1 SoundOperand (quoted_character bytes)
unfolding quoted_character
character-meets bytes = by (quoted 39 1 0 bytes) refl
  where
    by : (q : Quoted) → quoted 39 1 0 bytes ≡ q → Meets (length bytes) 1 SoundOperand (as_character q)
    by (closed [] w) e = fails
    by (closed (c ∷ cs) w) e = let k : Closed 1 0 (length bytes) (c ∷ cs) w = is-closed 39 1 0 bytes e in
        gives (omega (arith, each-byte (c ∷ cs) k.each 0)) (omega arith) (omega arith)
    by unclosed e = fails
    by (faulty k n) e = fails

negative-meets : (bytes : List ℕ) → Meets (length bytes) 2 SoundOperand (negative bytes)
unfolding negative
negative-meets bytes = then bytes (byte 45 bytes) (byte_meets 45 (omega arith) bytes)
    (λ _ n _. then (drop n bytes) (decimal (drop n bytes)) (decimal-meets (drop n bytes)) (λ v m h. returns (number true v) h))

labelled-meets : (bytes : List ℕ) → Meets (length bytes) 2 SoundOperand (labelled bytes)
unfolding labelled
labelled-meets bytes = then bytes (byte 76 bytes) (byte_meets 76 (omega arith) bytes)
    (λ _ n _. then (drop n bytes) (decimal (drop n bytes)) (decimal-meets (drop n bytes)) (λ v m h. returns (address v) h))

positive-meets : (bytes : List ℕ) → Meets (length bytes) 1 SoundOperand (positive bytes)
unfolding positive
positive-meets bytes = then bytes (decimal bytes) (decimal-meets bytes) (λ v m h. returns (number false v) h)

quotation-meets : (bytes : List ℕ) → Meets (length bytes) 2 SoundOperand (quotation bytes)
unfolding quotation
quotation-meets bytes = then bytes (byte 39 bytes) (byte_meets 39 (omega arith) bytes) (λ _ n _. character-meets (drop n bytes))

-- of fewer bytes at least
fewer : {A : Type 0} {m l : ℕ} {P : A → Type 0} (g : Got A) → Meets m (suc l) P g → Meets m 1 P g
fewer (got a n) h = gives h.met.holds (omega arith) (omega arith)
fewer nothing h = fails

operand-meets : (bytes : List ℕ) → Meets (length bytes) 1 SoundOperand (operand bytes)
unfolding operand
operand-meets bytes = either (eqb (head bytes) 45) (λ _. fewer (negative bytes) (negative-meets bytes))
    (either (eqb (head bytes) 39) (λ _. fewer (quotation bytes) (quotation-meets bytes))
    (either (eqb (head bytes) 76) (λ _. fewer (labelled bytes) (labelled-meets bytes)) (positive-meets bytes)))

-- ---- items

label-meets : (all bytes : List ℕ) → Meets (length bytes) 2 (Stands all) (label_item bytes)
unfolding label_item
label-meets all bytes = then bytes (decimal bytes) (decimal-meets bytes)
    (λ v n h. then (drop n bytes) (byte 58 (drop n bytes)) (byte_meets 58 (omega arith) (drop n bytes))
    (λ _ _ _. returns (label v) (record { sound = h; quotes = tt })))

instruction-meets : (all bytes : List ℕ) (f : ℕ) → f < 8 → Meets (length bytes) 1 (Stands all) (instruction_item f bytes)
unfolding instruction_item
instruction-meets all bytes f small = then bytes (optional 73 bytes) (optional-meets 73 (omega arith) bytes)
    (λ i n _. then (drop n bytes) (base (drop n bytes)) (base-meets (drop n bytes))
    (λ b m _. then (drop m (drop n bytes)) (operand (drop m (drop n bytes))) (operand-meets (drop m (drop n bytes)))
    (λ x k h. then (drop k (drop m (drop n bytes))) (ended (drop k (drop m (drop n bytes)))) (ended-meets (drop k (drop m (drop n bytes))))
    (λ _ _ _. returns (instruction f i b x) (record { sound = record { eight = small; sound = h }; quotes = tt })))))

constant-meets : (all bytes : List ℕ) → Meets (length bytes) 1 (Stands all) (constant_item bytes)
unfolding constant_item
constant-meets all bytes = then bytes (operand bytes) (operand-meets bytes)
    (λ x n h. then (drop n bytes) (ended (drop n bytes)) (ended-meets (drop n bytes))
    (λ _ _ _. returns (constant x) (record { sound = h; quotes = tt })))

global-meets : (all bytes : List ℕ) → Meets (length bytes) 3 (Stands all) (global_item bytes)
unfolding global_item
global-meets all bytes = then bytes (decimal bytes) (decimal-meets bytes)
    (λ v n h. then (drop n bytes) (byte 76 (drop n bytes)) (byte_meets 76 (omega arith) (drop n bytes))
    (λ _ m _. then (drop m (drop n bytes)) (decimal (drop m (drop n bytes))) (decimal-meets (drop m (drop n bytes)))
    (λ w k j. then (drop k (drop m (drop n bytes))) (ended (drop k (drop m (drop n bytes)))) (ended-meets (drop k (drop m (drop n bytes))))
    (λ _ _ _. returns (global v w) (record { sound = record { first = h; second = j }; quotes = tt })))))

-- one byte before
after : {A : Type 0} {m l : ℕ} {P : A → Type 0} (g : Got A) → Meets m l P g → Meets (suc m) (suc l) P (wide 1 g)
after (got a n) h = gives h.met.holds (omega arith) (omega arith)
after nothing h = fails

-- the characters of a string that begins with the bytes c and d
characters-meet : (c d : ℕ) (bytes : List ℕ) → Meets (length bytes) 1 (Stands (c ∷ d ∷ bytes)) (quoted_string bytes)
unfolding quoted_string
characters-meet c d bytes = by (quoted 34 255 0 bytes) refl
  where
    by : (q : Quoted) → quoted 34 255 0 bytes ≡ q → Meets (length bytes) 1 (Stands (c ∷ d ∷ bytes)) (as_string q)
    by unclosed e = fails
    by (faulty k n) e = fails
    by (closed cs w) e = let k : Closed 255 0 (length bytes) cs w = is-closed 34 255 0 bytes e in
        gives (record { sound = record { short = k.short; each = k.each }; quotes = record { width = w; reading = e } }) (omega arith) (omega arith)

string-meets : (c : ℕ) (bytes : List ℕ) → Meets (length bytes) 2 (Stands (c ∷ bytes)) (string_item bytes)
unfolding string_item byte head
string-meets c [] = fails
string-meets c (d ∷ r) = by (eqb d 34)
  where
    rest : Got Item
    rest = on_got (quoted_string r) (λ s n. wide n (on_got (ended (drop n r)) (λ _ m. wide m (got s 0))))

    rest_meets : Meets (length r) 1 (Stands (c ∷ d ∷ r)) rest
    rest_meets = then r (quoted_string r) (characters-meet c d r) (λ s n h. then (drop n r) (ended (drop n r)) (ended-meets (drop n r))
        (λ _ _ _. returns s h))

    by : (t : Bool)
        → Meets (suc (length r)) 2 (Stands (c ∷ d ∷ r)) (on_got (cond t (got true 1) nothing)
        (λ _ k. wide k (on_got (quoted_string (drop k (d ∷ r))) (λ s n. wide n (on_got (ended (drop n (drop k (d ∷ r)))) (λ _ m. wide m (got s 0)))))))
    by true = after rest rest_meets
    by false = fails

item-meets : (bytes : List ℕ) → Meets (length bytes) 1 (Stands bytes) (item bytes)
unfolding item head function_of
item-meets [] = fails
item-meets (c ∷ r) = either (is_digit c) (λ _. fewer (label_item (c ∷ r)) (label-meets (c ∷ r) (c ∷ r)))
    (either (eqb c 68) (λ _. fewer (wide 1 (constant_item r)) (after (constant_item r) (constant-meets (c ∷ r) r)))
    (either (eqb c 67) (λ _. fewer (wide 1 (string_item r)) (after (string_item r) (string-meets c r)))
    (either (eqb c 71) (λ _. fewer (wide 1 (global_item r)) (after (global_item r) (global-meets (c ∷ r) r))) (either (ltb (function_of c) 8)
    (λ e. fewer (wide 1 (instruction_item (function_of c) r)) (after (instruction_item (function_of c) r)
    (instruction-meets (c ∷ r) r (function_of c) (ltb-true (function_of c) 8 e))))
    fails))))

-- ---- what was read

pub item-given : (bytes : List ℕ) {i : Item} {n : ℕ} → item bytes ≡ got i n → Given (length bytes) 1 (Stands bytes) i n
item-given bytes e = (rw e at (item-meets bytes)).met

pub record NextGiven (text : List ℕ) (at place : ℕ) (i : Item) (past : ℕ) : Type 0 where
  pub from : at ≤ place
  pub some : place < past
  pub within : past ≤ length text
  pub reading : item (drop place text) ≡ got i (past - place)
  pub stands : Stands (drop place text) i

element-given : (text : List ℕ) {place p q : ℕ} {i : Item} (at : ℕ) → at ≤ place → element_at place (drop place text) ≡ one p i q
    → NextGiven text at p i q
unfolding element_at
element-given text {place} {p} {q} {i} at from e = by (eqb (head (drop place text)) 90) e
  where
    last : (g : Got Bool) → last_of place g (drop place text) ≡ one p i q → NextGiven text at p i q
    last (got t n) k = contradiction cc
    last nothing k = contradiction cc

    found : (g : Got Item) → item (drop place text) ≡ g → one_of place g ≡ one p i q → NextGiven text at p i q
    found nothing d k = contradiction cc
    found (got j n) d k = let h : Given (length (drop place text)) 1 (Stands (drop place text)) j n = item-given (drop place text) d in
        let m : place + n - place ≡ n = omega arith in
        let l : length (drop place text) ≡ length text - place = length-drop place text in
        let a : p ≡ place = cc in
        let b : i ≡ j = cc in
        let c : q ≡ place + n = cc in
        rw (a, b, c) (record { from = from; some = omega arith; within = omega arith; reading = rw m d; stands = h.holds })

    by : (t : Bool) → cond t (last_of place (mark 90 (drop place text)) (drop place text)) (one_of place (item (drop place text))) ≡ one p i q
        → NextGiven text at p i q
    by true k = last (mark 90 (drop place text)) k
    by false k = found (item (drop place text)) refl k

pub next-given : (text : List ℕ) (at : ℕ) {p q : ℕ} {i : Item} → next_in text at ≡ one p i q → NextGiven text at p i q
unfolding next_in
next-given text at e = element-given text at (omega arith) e

-- a string's characters, from past its first quote on
pub next-string : (text : List ℕ) (at : ℕ) {p q : ℕ} {cs : List ℕ} → next_in text at ≡ one p (string cs) q → Between (drop (p + 2) text) cs
next-string text at {p = p} {cs = cs} e = let h : Between (drop 2 (drop p text)) cs = (next-given text at e).stands.quotes in
    record { width = h.width; reading = rw (← drop-drop 2 p text) h.reading }
