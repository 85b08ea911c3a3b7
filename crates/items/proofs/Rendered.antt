-- What is rendered is read back: an item alone, and a whole text. Every item that is read (`Sound`) can be rendered.
use Rattle.laws.proofs.Basics.{ℕ, zero, suc, ◌+◌, ◌-◌, ◌*◌, ◌/◌, ◌%◌, ◌<◌, ◌≤◌, ◌≡◌, refl, sym, ap, ◌∙◌, List, [], ◌∷◌, ◌++◌, append_assoc, Bool}
use Rattle.laws.proofs.Basics.{true, false, ◌&&◌, cond, length, drop, length-append, drop-drop, drop-append-add, eqb, ltb, leb, add-one, arith}
use Rattle.laws.proofs.Basics.{eqb-true, eqb-false, ne_eqb, ltb-true, ltb-false, leb-true, le-leb}
use Rattle.laws.proofs.Cases.{by_cases, either, contradiction, ◌&◌, both_true}
use lib.Seq.{drop-append_seam}
use Rattle.text.specs.Quoted.{is, by_number, escape, character, closed, quoted}
use Rattle.text.proofs.Quotes.{Writable, digit-bounds, at-quote, at-asterisk, at_plain, no-letter, a_byte, quoted-next, quoted-end}
use Rattle.items.specs.Item.{capped, Operand, number, address, Base, none, P, G, Item, Placed, label, instruction, constant, string, global}
use Rattle.items.specs.Reader.{got, wide, head, byte, optional, is_digit, digits, digit_count, decimal}
use Rattle.items.specs.Read.{ended, quoted_string, negative, labelled, positive, operand, base, label_item, instruction_item, constant_item}
use Rattle.items.specs.Read.{string_item, global_item, function_of, item}
use Rattle.items.specs.Scan.{gaps, whole, goes_on, mark, trailing, body, scan}
use Rattle.items.specs.Next.{one, element_at}
use Rattle.items.specs.Render.{numeral, numeral_of, operand_text, base_text, indirect_text, letter, plain_text, character_text, characters_text}
use Rattle.items.specs.Render.{render, render_lines, render_all}
use Rattle.items.proofs.Scans.{on_next, body-element}
use Rattle.items.proofs.Sound.{SoundOperand, Sound}

-- ---- numerals

-- l writes n, whatever follows it
record Writes (l : List ℕ) (n : ℕ) : Type 0 where
  pub value : (rest : List ℕ) → digits 0 (l ++ rest) ≡ digits n rest
  pub count : (rest : List ℕ) → digit_count (l ++ rest) ≡ length l + digit_count rest
  pub first : (rest : List ℕ) → is_digit (head (l ++ rest)) ≡ true

digit : (d : ℕ) → d < 10 → is_digit (48 + d) ≡ true
digit d h = rw (le-leb 48 (48 + d) (omega arith)) (le-leb (48 + d) 57 (omega arith))

one-digit : (n : ℕ) → n < 10 → Writes ((48 + n) ∷ []) n
unfolding digits digit_count head
one-digit n h = let v : capped (0 * 10 + (48 + n - 48)) ≡ n = omega arith in
    record { value = λ rest. rw (digit n h, v); count = λ rest. rw (digit n h) (omega arith); first = λ rest. digit n h }

more-digits : {l : List ℕ} (n : ℕ) → n ≤ 65536 → Writes l (n / 10) → Writes (l ++ ((48 + n % 10) ∷ [])) n
unfolding digits digit_count
more-digits {l} n h w = let d : is_digit (48 + n % 10) ≡ true = digit (n % 10) (omega arith) in
    let v : capped (n / 10 * 10 + (48 + n % 10 - 48)) ≡ n = omega arith in
    record {
      value = λ rest. rw append_assoc (w.value ((48 + n % 10) ∷ rest) ∙ rw (d, v));
      count = λ rest. rw (append_assoc, w.count ((48 + n % 10) ∷ rest), d, length-append l ((48 + n % 10) ∷ [])) (omega arith);
      first = λ rest. rw append_assoc (w.first ((48 + n % 10) ∷ rest));
    }

numeral-writes : (k n : ℕ) → n < k → n ≤ 65536 → Writes (numeral k n) n
unfolding numeral
numeral-writes zero n h l = absurd (omega arith)
numeral-writes (suc k) n h l = either (λ xs. Writes xs n) (ltb n 10) (λ e. one-digit n (ltb-true n 10 e)) (λ e.
    let j = ltb-false n 10 e in more-digits n l (numeral-writes k (n / 10) (omega arith) (omega arith)))

numeral-of : (n : ℕ) → n ≤ 65536 → Writes (numeral_of n) n
unfolding numeral_of
numeral-of n h = numeral-writes (suc n) n (omega arith) h

-- a number ends where no digit follows
no_more : (n : ℕ) (rest : List ℕ) → is_digit (head rest) ≡ false → (digits n rest ≡ n) × (digit_count rest ≡ 0)
unfolding digits digit_count head
no_more n [] e = (refl, refl)
no_more n (c ∷ r) e = (rw e, rw e)

decimal-text : (n : ℕ) (rest : List ℕ) → n ≤ 65536 → is_digit (head rest) ≡ false → decimal (numeral_of n ++ rest) ≡ got n (length (numeral_of n))
unfolding decimal
decimal-text n rest h e = let w : Writes (numeral_of n) n = numeral-of n h in
    let m : (digits n rest ≡ n) × (digit_count rest ≡ 0) = no_more n rest e in
    rw (w.first rest, w.value rest, w.count rest, m.0, m.1) (ap (got n) (omega arith))

-- ---- operands

module _ (rest : List ℕ) (e : is_digit (head rest) ≡ false) where
  plain-operand : (bytes : List ℕ) → is_digit (head bytes) ≡ true → operand bytes ≡ positive bytes
  unfolding operand
  plain-operand bytes d = let b : (48 ≤ head bytes) × (head bytes ≤ 57) = digit-bounds (head bytes) d in
      rw (ne_eqb (head bytes) 45 (λ k. omega arith), ne_eqb (head bytes) 39 (λ k. omega arith), ne_eqb (head bytes) 76 (λ k. omega arith))

  operand-text : (x : Operand) → SoundOperand x → operand (operand_text x ++ rest) ≡ got x (length (operand_text x))
  unfolding operand operand_text negative labelled positive byte head
  operand-text (number true n) h = rw (decimal-text n rest h e) (ap (got (number true n)) (omega arith))
  operand-text (number false n) h =
      plain-operand (numeral_of n ++ rest) ((numeral-of n h).first rest) ∙ rw (decimal-text n rest h e) (ap (got (number false n)) (omega arith))
  operand-text (address n) h = rw (decimal-text n rest h e) (ap (got (address n)) (omega arith))

  -- an operand begins with a minus, an L or a digit
  operand-begins : (c : ℕ) → (c ≡ 45 → ⊥) → (c ≡ 76 → ⊥) → is_digit c ≡ false → (x : Operand) → SoundOperand x → head (operand_text x ++ rest) ≡ c → ⊥
  unfolding operand_text head
  operand-begins c minus l d (number true n) h k = minus (sym k)
  operand-begins c minus l d (number false n) h k = let z : true ≡ false = sym ((numeral-of n h).first rest) ∙ ap is_digit k ∙ d in contradiction cc
  operand-begins c minus l d (address n) h k = l (sym k)

optional-text : (i : Bool) (rest : List ℕ) → (head rest ≡ 73 → ⊥) → optional 73 (indirect_text i ++ rest) ≡ got i (length (indirect_text i))
unfolding optional indirect_text head
optional-text true rest h = refl
optional-text false rest h = rw (ne_eqb _ 73 h)

base-text : (b : Base) (rest : List ℕ) → (head rest ≡ 80 → ⊥) → (head rest ≡ 71 → ⊥) → base (base_text b ++ rest) ≡ got b (length (base_text b))
unfolding base base_text head
base-text none rest h k = rw (ne_eqb _ 80 h, ne_eqb _ 71 k)
base-text P rest h k = refl
base-text G rest h k = refl

-- I stands before no base and no operand
base-begins : (b : Base) (rest : List ℕ) → (head rest ≡ 73 → ⊥) → head (base_text b ++ rest) ≡ 73 → ⊥
unfolding base_text head
base-begins none rest h k = h k
base-begins P rest h k = omega arith
base-begins G rest h k = omega arith

-- ---- strings

record Shows (rest : List ℕ) (c : ℕ) (l : List ℕ) : Type 0 where
  pub shows : character 34 (l ++ rest) ≡ is c (length l)

escaped : {rest l : List ℕ} {c : ℕ} (e k : ℕ) → character 34 (42 ∷ e ∷ rest) ≡ is k 2 → ((c ≡ k → ⊥) → Shows rest c l)
    → Shows rest c (cond (eqb c k) (42 ∷ e ∷ []) l)
escaped {rest} {l} {c} e k h more =
    by_cases (eqb c k) (λ j. rw j (record { shows = h ∙ ap (λ (v : ℕ). is v 2) (sym (eqb-true c k j)) })) (λ j. rw j (more (eqb-false c k j)))

-- three digits of a byte
three-digits : (c : ℕ) → c ≤ 255 → (rest : List ℕ) → escape ((48 + c / 100) ∷ (48 + c / 10 % 10) ∷ (48 + c % 10) ∷ rest) ≡ is c 4
unfolding by_number
three-digits c h rest = let a : c / 100 ≤ 2 = omega arith in
    no-letter (48 + c / 100) _ (omega arith) ∙
    a_byte (48 + c / 100) (48 + c / 10 % 10) (48 + c % 10) (digit (c / 100) (omega arith)) (digit (c / 10 % 10) (omega arith))
    (digit (c % 10) (omega arith)) (omega arith) h

plain-text : (c : ℕ) (rest : List ℕ) → c ≤ 255 → (c ≡ 34 → ⊥) → (c ≡ 42 → ⊥) → Shows rest c (plain_text c)
unfolding plain_text
plain-text c rest h n34 n42 = either (Shows rest c) (leb 32 c && leb c 126)
    (λ e. let b = both_true (leb 32 c) (leb c 126) e in record { shows = at_plain 34 c rest n34 n42 (leb-true 32 c b.0) (leb-true c 126 b.1) })
    (λ _. record { shows = at-asterisk 34 42 _ (λ e. omega arith) refl ∙ three-digits c h rest })

-- every byte is read back
character-text : (c : ℕ) (rest : List ℕ) → c ≤ 255 → Shows rest c (character_text c)
unfolding character_text character escape
character-text c rest h = escaped 78 10 refl (λ _. escaped 84 9 refl (λ _. escaped 66 8 refl (λ _. escaped 80 12 refl (λ _. escaped 67 13 refl
    (λ _. escaped 42 42 refl (λ n42. escaped 34 34 refl (λ n34. plain-text c rest h n34 n42)))))))

pub characters-text : (room : ℕ) (cs rest : List ℕ) → length cs ≤ room → Writable cs
    → quoted 34 room 0 (characters_text cs ++ (34 ∷ rest)) ≡ closed cs (length (characters_text cs) + 1)
unfolding characters_text
characters-text room [] rest l w = quoted-end 34 room (34 ∷ rest) (at-quote 34 34 rest refl)
characters-text zero (c ∷ cs) rest l w = absurd (omega arith)
characters-text (suc room) (c ∷ cs) rest l w =
    let s : Shows (characters_text cs ++ (34 ∷ rest)) c (character_text c) = character-text c (characters_text cs ++ (34 ∷ rest)) w.0 in
    rw (
      append_assoc,
      quoted-next 34 room _ s.shows,
      drop-append_seam (character_text c) (characters_text cs ++ (34 ∷ rest)),
      characters-text room cs rest (omega arith) w.1,
      length-append (character_text c) (characters_text cs),
    ) (ap (closed (c ∷ cs)) (omega arith))

-- ---- items

-- a function's letter, from A to X, begins its instruction
record Letter (f : ℕ) : Type 0 where
  pub reads : (bytes : List ℕ) → item (letter f ∷ bytes) ≡ wide 1 (instruction_item f bytes)
  pub low : leb 65 (letter f) ≡ true
  pub high : leb (letter f) 88 ≡ true

a-letter : (f : ℕ) → f < 8 → Letter f
unfolding item letter function_of head
a-letter zero h = record { reads = λ bytes. refl; low = refl; high = refl }
a-letter (suc zero) h = record { reads = λ bytes. refl; low = refl; high = refl }
a-letter (suc (suc zero)) h = record { reads = λ bytes. refl; low = refl; high = refl }
a-letter (suc (suc (suc zero))) h = record { reads = λ bytes. refl; low = refl; high = refl }
a-letter (suc (suc (suc (suc zero)))) h = record { reads = λ bytes. refl; low = refl; high = refl }
a-letter (suc (suc (suc (suc (suc zero))))) h = record { reads = λ bytes. refl; low = refl; high = refl }
a-letter (suc (suc (suc (suc (suc (suc zero)))))) h = record { reads = λ bytes. refl; low = refl; high = refl }
a-letter (suc (suc (suc (suc (suc (suc (suc zero))))))) h = record { reads = λ bytes. refl; low = refl; high = refl }
a-letter (suc (suc (suc (suc (suc (suc (suc (suc f)))))))) h = absurd (omega arith)

pub rendered-item : (i : Item) (rest : List ℕ) → Sound i → item (render i ++ (10 ∷ rest)) ≡ got i (length (render i))
unfolding render item label_item instruction_item constant_item string_item global_item quoted_string ended byte head
rendered-item (label n) rest h = rw (
  append_assoc,
  (numeral-of n h).first (58 ∷ 10 ∷ rest),
  decimal-text n (58 ∷ 10 ∷ rest) h refl,
  drop-append_seam (numeral_of n) (58 ∷ 10 ∷ rest),
  length-append (numeral_of n) (58 ∷ []),
)
rendered-item (instruction f i b x) rest h = rw (
  (a-letter f h.eight).reads ((indirect_text i ++ (base_text b ++ operand_text x)) ++ (10 ∷ rest)),
  append_assoc (indirect_text i) (base_text b ++ operand_text x) (10 ∷ rest),
  append_assoc (base_text b) (operand_text x) (10 ∷ rest),
  optional-text i (base_text b ++ (operand_text x ++ (10 ∷ rest))) (base-begins b _ (begins 73 (λ k. omega arith) (λ k. omega arith) refl)),
  drop-append_seam (indirect_text i) (base_text b ++ (operand_text x ++ (10 ∷ rest))),
  base-text b (operand_text x ++ (10 ∷ rest)) (begins 80 (λ k. omega arith) (λ k. omega arith) refl)
      (begins 71 (λ k. omega arith) (λ k. omega arith) refl),
  drop-append_seam (base_text b) (operand_text x ++ (10 ∷ rest)),
  operand-text (10 ∷ rest) refl x h.sound,
  drop-append_seam (operand_text x) (10 ∷ rest),
  length-append (indirect_text i) (base_text b ++ operand_text x),
  length-append (base_text b) (operand_text x),
) (ap (got (instruction f i b x)) (omega arith))
  where
    begins : (c : ℕ) → (c ≡ 45 → ⊥) → (c ≡ 76 → ⊥) → is_digit c ≡ false → head (operand_text x ++ (10 ∷ rest)) ≡ c → ⊥
    begins c m l d = operand-begins (10 ∷ rest) refl c m l d x h.sound
rendered-item (constant x) rest h =
    rw (operand-text (10 ∷ rest) refl x h, drop-append_seam (operand_text x) (10 ∷ rest)) (ap (got (constant x)) (omega arith))
rendered-item (string cs) rest h = rw (
  append_assoc,
  characters-text 255 cs (10 ∷ rest) h.short h.each,
  drop-append-add (characters_text cs) (34 ∷ 10 ∷ rest) 1,
  length-append (characters_text cs) (34 ∷ []),
) (ap (got (string cs)) (omega arith))
rendered-item (global n m) rest h = rw (
  append_assoc,
  decimal-text n (76 ∷ (numeral_of m ++ (10 ∷ rest))) h.first refl,
  drop-append_seam (numeral_of n) (76 ∷ (numeral_of m ++ (10 ∷ rest))),
  decimal-text m (10 ∷ rest) h.second refl,
  drop-append_seam (numeral_of m) (10 ∷ rest),
  length-append (numeral_of n) (76 ∷ numeral_of m),
) (ap (got (global n m)) (omega arith))

-- ---- a whole text

-- an item's text begins with no gap and no Z
record Begins (bytes : List ℕ) : Type 0 where
  pub no_gap : gaps false bytes ≡ 0
  pub no_end : head bytes ≡ 90 → ⊥

begins-with : (c : ℕ) (r : List ℕ) → 48 ≤ c → c ≤ 88 → Begins (c ∷ r)
unfolding gaps head
begins-with c r l h = record {
  no_gap = rw (ne_eqb c 32 (λ k. omega arith), ne_eqb c 10 (λ k. omega arith), ne_eqb c 47 (λ k. omega arith));
  no_end = λ k. omega arith;
}

digit-begins : (bytes : List ℕ) → is_digit (head bytes) ≡ true → Begins bytes
unfolding head
digit-begins [] e = contradiction cc
digit-begins (c ∷ r) e = let b : (48 ≤ c) × (c ≤ 57) = digit-bounds c e in begins-with c r b.0 (omega arith)

item-begins : (i : Item) (rest : List ℕ) → Sound i → Begins (render i ++ rest)
unfolding render
item-begins (label n) rest h = rw append_assoc (digit-begins _ ((numeral-of n h).first (58 ∷ rest)))
item-begins (instruction f i b x) rest h = let a : Letter f = a-letter f h.eight in
    begins-with (letter f) _ (omega (arith, leb-true 65 (letter f) a.low)) (leb-true (letter f) 88 a.high)
item-begins (constant x) rest h = begins-with 68 _ (omega arith) (omega arith)
item-begins (string cs) rest h = begins-with 67 _ (omega arith) (omega arith)
item-begins (global n m) rest h = begins-with 71 _ (omega arith) (omega arith)

abbrev pub AllSound : List Item → Type 0
AllSound [] = Unit {0}
AllSound (i ∷ items) = Sound i × AllSound items

-- the items of a rendered text at their places
unfoldable pub places : ℕ → List Item → List Placed
places p [] = []
places p (i ∷ items) = record { place = p; item = i } ∷ places (p + length (render i) + 1) items

newline-passed : (bytes : List ℕ) (p : ℕ) → gaps false bytes ≡ 0 → body 0 p (10 ∷ bytes) ≡ body 0 (p + 1) bytes
unfolding body gaps
newline-passed bytes p h = rw (h, add-one)

last_line : (p : ℕ) → body 0 p (10 ∷ 90 ∷ 10 ∷ []) ≡ record { items = []; ending = whole }
unfolding body gaps mark byte ended trailing head
last_line p = refl

item-element : (p : ℕ) (i : Item) (rest : List ℕ) → Sound i → element_at p (render i ++ (10 ∷ rest)) ≡ one p i (p + length (render i))
unfolding element_at
item-element p i rest h = rw (ne_eqb _ 90 (item-begins i (10 ∷ rest) h).no_end, rendered-item i rest h)

-- from the newline before a line on
body-lines : (text : List ℕ) (items : List Item) (p : ℕ) → drop p text ≡ 10 ∷ render_lines items → AllSound items
    → body 0 p (drop p text) ≡ record { items = places (p + 1) items; ending = whole }
unfolding render_lines places
body-lines text [] p e h = rw e (last_line p)
body-lines text (i ∷ items) p e h = rw e (newline-passed line p (item-begins i rest h.0).no_gap) ∙
    body-element text line (p + 1) (sym here) (item-begins i rest h.0).no_gap ∙
    ap (on_next text) element ∙
    ap (goes_on (p + 1) i) (body-lines text items (p + 1 + length (render i)) there h.1)
  where
    rest : List ℕ
    rest = 10 ∷ render_lines items

    line : List ℕ
    line = render i ++ rest

    here : drop (p + 1) text ≡ line
    here = sym (drop-drop 1 p text) ∙ ap (drop 1) e

    there : drop (p + 1 + length (render i)) text ≡ rest
    there = sym (drop-drop (length (render i)) (p + 1) text) ∙ ap (drop (length (render i))) here ∙ drop-append_seam (render i) rest

    element : element_at (p + 1) line ≡ one (p + 1) i (p + 1 + length (render i))
    element = item-element (p + 1) i (render_lines items) h.0

pub rendered : (items : List Item) → AllSound items → scan (render_all items) ≡ record { items = places 2 items; ending = whole }
unfolding scan render_all gaps mark byte ended head
rendered items h = body-lines (36 ∷ 10 ∷ render_lines items) items 1 refl h

-- ---- closed instances

-- a text of each kind of item, with the corners of numbers and characters: what is rendered, and that it is read back
sample : List Item
sample = label 1 ∷
    instruction 0 true P (number false 65535) ∷
    instruction 3 false none (address 10) ∷
    constant (number true 32768) ∷
    string (104 ∷ 34 ∷ 42 ∷ 10 ∷ 0 ∷ 255 ∷ []) ∷
    global 0 1 ∷ []

sample-text : render_all sample ≡
    36 ∷ 10 ∷
    49 ∷ 58 ∷ 10 ∷
    76 ∷ 73 ∷ 80 ∷ 54 ∷ 53 ∷ 53 ∷ 51 ∷ 53 ∷ 10 ∷
    74 ∷ 76 ∷ 49 ∷ 48 ∷ 10 ∷
    68 ∷ 45 ∷ 51 ∷ 50 ∷ 55 ∷ 54 ∷ 56 ∷ 10 ∷
    67 ∷ 34 ∷ 104 ∷ 42 ∷ 34 ∷ 42 ∷ 42 ∷ 42 ∷ 78 ∷ 42 ∷ 48 ∷ 48 ∷ 48 ∷ 42 ∷ 50 ∷ 53 ∷ 53 ∷ 34 ∷ 10 ∷
    71 ∷ 48 ∷ 76 ∷ 49 ∷ 10 ∷
    90 ∷ 10 ∷ []
unfolding sample numeral numeral_of operand_text base_text indirect_text letter plain_text character_text characters_text render render_lines render_all
sample-text = refl

sample-sound : AllSound sample
unfolding sample
sample-sound = omega arith &
    record { eight = omega arith; sound = omega arith } &
    record { eight = omega arith; sound = omega arith } &
    omega arith &
    record { short = omega arith; each = omega arith & omega arith & omega arith & omega arith & omega arith & omega arith & tt } &
    record { first = omega arith; second = omega arith } &
    tt

sample-read : scan (render_all sample) ≡ record { items = places 2 sample; ending = whole }
sample-read = rendered sample sample-sound
