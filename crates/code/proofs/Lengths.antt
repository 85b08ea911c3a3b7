-- The compiler's text is at most 64 bytes a source byte and 1,024 more: 10 bytes an instruction or constant, 7 a label, 13 a start in a
-- global, and a string twice its characters and 4.
use Rattle.laws.proofs.Basics.{ℕ, zero, suc, ◌+◌, ◌*◌, ◌/◌, ◌%◌, ◌<◌, ◌≤◌, ◌≡◌, refl, List, [], ◌∷◌, ◌++◌, Bool, true, false, ◌&&◌, cond, length}
use Rattle.laws.proofs.Basics.{length-append, eqb, ltb, leb, arith, lt-ltb}
use Rattle.laws.proofs.Cases.{by_cases}
use Rattle.items.specs.Item as I
use Rattle.items.specs.Item.{Operand, number, address, Base, Item, label, instruction, constant}
use Rattle.items.specs.Render.{numeral, numeral_of, operand_text, base_text, indirect_text, plain_text, character_text, characters_text, render}
use Rattle.items.specs.Render.{render_lines}
use Rattle.items.specs.Render.{render_all}
use Rattle.items.proofs.Sound.{Sound, SoundOperand}
use Rattle.items.proofs.Rendered.{AllSound}
use Rattle.language.specs.Resolved.{Fun}
use Rattle.language.specs.Program.{accepted}
use Rattle.language.specs.Whole.{refusal_of, functions_in, strings_in}
use Rattle.code.specs.Placed.{string_words}
use Rattle.code.specs.Generate.{items_of, text_of}
use Rattle.text.proofs.Packed.{length_pairs}
use Rattle.language.proofs.SymbolFacts.{same-now, scan-length}
use Rattle.language.proofs.Widths.{string_bytes, string_bytes_lem, covered}
use Rattle.code.proofs.Measures.{one, sum, text_sum, sum-items, marks, most, weigh}
use Rattle.code.proofs.Sizes.{items-words}
use Rattle.language.proofs.Accepted.{Facts, facts}
use Rattle.code.proofs.GoodSource.{ns, few-in-all, labels-few, good}
use Rattle.language.proofs.Forming.{length-funs}
use Rattle.code.proofs.Refusals.{number_of, items-count}

-- ---- numbers are at most five digits

one-digit : (k n : ℕ) → n < 10 → length (numeral k n) ≤ 1
unfolding numeral
one-digit zero n h = omega arith
one-digit (suc k) n h = rw (lt-ltb n 10 h) (omega arith)

more-digits : (m c : ℕ) → ((k n : ℕ) → n < m → length (numeral k n) ≤ c) → (k n : ℕ) → n < 10 * m → length (numeral k n) ≤ suc c
unfolding numeral
more-digits m c f zero n h = omega arith
more-digits m c f (suc k) n h = by_cases (ltb n 10) (λ outcome. rw outcome (omega arith))
    (λ outcome. rw outcome (omega (arith, length-append (numeral k (n / 10)) ((48 + n % 10) ∷ []), f k (n / 10) (omega arith))))

five-digits : (n : ℕ) → n ≤ 65536 → length (numeral_of n) ≤ 5
unfolding numeral_of
five-digits n h = more-digits 10000 4 (λ k m j. more-digits 1000 3 (λ k m j.
    more-digits 100 2 (λ k m j. more-digits 10 1 one-digit k m (omega arith)) k m (omega arith)) k m (omega arith)) (suc n) n (omega arith)

operand_short : (x : Operand) → SoundOperand x → length (operand_text x) ≤ 6
unfolding operand_text
operand_short (number true n) h = omega (arith, five-digits n h)
operand_short (number false n) h = omega (arith, five-digits n h)
operand_short (address n) h = omega (arith, five-digits n h)

base_short : (b : Base) → length (base_text b) ≤ 1
unfolding base_text
base_short = elim [ I.none ↦ omega arith | I.P ↦ omega arith | I.G ↦ omega arith ]

indirect-short : (b : Bool) → length (indirect_text b) ≤ 1
unfolding indirect_text
indirect-short true = omega arith
indirect-short false = omega arith

plain-short : (c : ℕ) → length (plain_text c) ≤ 4
unfolding plain_text
plain-short c = by_cases (leb 32 c && leb c 126) (λ outcome. rw outcome (omega arith)) (λ outcome. rw outcome (omega arith))

character-short : (c : ℕ) → length (character_text c) ≤ 4
unfolding character_text
character-short c =
    two (eqb c 10) 42 78 _ (two (eqb c 9) 42 84 _ (two (eqb c 8) 42 66 _ (two (eqb c 12) 42 80 _ (two (eqb c 13) 42 67 _ (two (eqb c 42) 42 42 _
    (two (eqb c 34) 42 34 _ (plain-short c)))))))
  where
    two : (t : Bool) (a b : ℕ) (more : List ℕ) → length more ≤ 4 → length (cond t (a ∷ b ∷ []) more) ≤ 4
    two true a b more h = omega arith
    two false a b more h = h

characters-short : (cs : List ℕ) → length (characters_text cs) ≤ 4 * length cs
unfolding characters_text
characters-short [] = omega arith
characters-short (c ∷ cs) = omega (arith, length-append (character_text c) (characters_text cs), character-short c, characters-short cs)

-- ---- lines

-- what strings and starts take beside
abbrev aside : List ℕ → ℕ
aside cs = 4 * length cs + 4

abbrev beside : Item → ℕ
beside x = one 0 aside 13 (λ _. 0) x

abbrev besides : List Item → ℕ
besides xs = sum 0 aside 13 (λ _. 0) xs

line-short : (x : Item) → Sound x → length (render x) + 1 ≤ 5 * most x + 7 * one 0 (λ _. 0) 0 number_of x + beside x
unfolding render
line-short (label n) h = omega (arith, length-append (numeral_of n) (58 ∷ []), five-digits n h)
line-short (instruction f t b x) h = let l = length-append (indirect_text t) (base_text b ++ operand_text x) in
    omega (arith, l, length-append (base_text b) (operand_text x), indirect-short t, base_short b, operand_short x h.sound)
line-short (constant x) h = omega (arith, operand_short x h)
line-short (I.string cs) h = omega (arith, length-append (characters_text cs) (34 ∷ []), characters-short cs)
line-short (I.global n m) h = omega (arith, length-append (numeral_of n) (76 ∷ numeral_of m), five-digits n h.first, five-digits m h.second)

lines-short : (xs : List Item) → AllSound xs → length (render_lines xs) ≤ 5 * weigh xs + 7 * marks number_of xs + besides xs + 2
unfolding render_lines sum
lines-short [] h = omega arith
lines-short (x ∷ xs) h = omega (arith, length-append (render x) (10 ∷ render_lines xs), line-short x h.0, lines-short xs h.1)

text-short : (xs : List Item) → AllSound xs → length (render_all xs) ≤ 5 * weigh xs + 7 * marks number_of xs + besides xs + 4
unfolding render_all
text-short xs h = omega (arith, lines-short xs h)

beside-bytes : (ss : List (List ℕ)) → text_sum aside ss ≤ 4 * string_bytes ss
unfolding text_sum string_bytes
beside-bytes [] = omega arith
beside-bytes (cs ∷ ss) = omega (arith, beside-bytes ss)

besides-items : (fs : List Fun) (ss : List (List ℕ)) → besides (items_of fs ss) ≤ 4 * string_bytes ss + 13 * length fs
besides-items fs ss = omega (arith, sum-items 0 aside 13 (λ _. 0) (λ _ _ _. omega arith) fs ss _ refl, beside-bytes ss)

-- a string's words are no more than its bytes
words-bytes : (ss : List (List ℕ)) → string_words ss ≤ string_bytes ss
unfolding string_words string_bytes
words-bytes [] = omega arith
words-bytes (cs ∷ ss) = omega (arith, words-bytes ss, length_pairs (length cs) cs)

pub short : (source : List ℕ) (scratch : ℕ) → refusal_of source scratch ≡ accepted → length (text_of source) ≤ 60 * length source + 4
unfolding text_of ns
short source scratch a = let x : Facts source = facts source scratch a in
    let is : List Item = items_of (functions_in source) (strings_in source) in
    let strings : string_bytes (strings_in source) ≤ length source = rw (x.strings, same-now source) (string_bytes_lem source) in
    let functions : length (functions_in source) ≡ length (ns source x) = rw x.functions (length-funs (ns source x)) in
    omega (
      arith,
      text-short is (good source x).sound,
      items-count source x,
      items-words source x,
      scan-length source,
      besides-items (functions_in source) (strings_in source),
      words-bytes (strings_in source),
      few-in-all source x,
      labels-few source x,
      x.weights,
      covered source,
    )
