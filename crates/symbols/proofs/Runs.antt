-- Runs of bytes that pass a test: the letters of a word, the digits of a number, the bytes of a comment.
use Rattle.laws.proofs.Basics.{ℕ, suc, ◌+◌, ◌<◌, ◌≤◌, ◌≡◌, refl, sym, ap, ◌∙◌, List, [], ◌∷◌, Bool, true, false, not, cond, length, get_or, take}
use Rattle.laws.proofs.Basics.{drop, eqb, ltb, arith, ne_eqb, ltb-false}
use Rattle.std.specs.Prelude.{Some, None}
use Rattle.std.specs.List.{position, position_or_len}
use Rattle.std.specs.Option.{unwrap_or}
use Rattle.std.proofs.lemmas.List.Recursion.{is_position_or_len}
use Rattle.laws.proofs.Cases.{by_cases, by_equal, by_cond, contradiction}
use Rattle.text.specs.Line.{newlines}
use Rattle.text.proofs.Bytes.{at_byte, past_end}
use Rattle.language.specs.Bytes.{class_of}
use Rattle.language.specs.Symbols.{in_word, word_width, digit_of, digits, to_line_end}

-- f is the number of bytes at the head that pass the test p
pub record Run (p : ℕ → Bool) (f : List ℕ → ℕ) : Type 0 where
  pub none : f [] ≡ 0
  pub some : (c : ℕ) (r : List ℕ) → f (c ∷ r) ≡ cond (p c) (suc (f r)) 0

by-test : (t : Bool) (n : ℕ) → elim t [ true ↦ suc n | false ↦ 0 ] ≡ cond t (suc n) 0
by-test true n = refl
by-test false n = refl

pub word-run : Run (λ c. in_word (class_of c)) word_width
unfolding word_width
word-run = record { none = refl; some = λ c r. by-test (in_word (class_of c)) (word_width r) }

pub digits-run : (base : ℕ) → Run (digit_of base) (digits base)
unfolding digits
digits-run base = record { none = refl; some = λ c r. by-test (digit_of base c) (digits base r) }

abbrev pub in_comment : ℕ → Bool
in_comment c = not (eqb c 10)

pub comment-run : Run in_comment to_line_end
unfolding to_line_end
comment-run = record { none = refl; some = λ c r. by (eqb c 10) (to_line_end r) }
  where
    by : (t : Bool) (n : ℕ) → elim t [ true ↦ 0 | false ↦ suc n ] ≡ cond (not t) (suc n) 0
    by true n = refl
    by false n = refl

module _ {p : ℕ → Bool} {f : List ℕ → ℕ} (run : Run p f) where
  -- ---- the loop over a run: all bytes before i pass the test
  abbrev pub Running : (bytes : List ℕ) (i : ℕ) → Type 0
  Running bytes i = i + f (drop i bytes) ≡ f bytes

  module _ {bytes : List ℕ} {i : ℕ} (r : Running bytes i) where
    pub run_ends : length bytes ≤ i → i ≡ f bytes
    run_ends h = omega (arith, r, past_end f bytes i h ∙ run.none)

    module _ (h : i < length bytes) where
      pub run-stops : p (get_or bytes i 0) ≡ false → i ≡ f bytes
      run-stops e = let z : f (drop i bytes) ≡ 0 = at_byte f bytes i h refl ∙ run.some _ _ ∙ rw e in omega (arith, r)

      pub run-goes-on : p (get_or bytes i 0) ≡ true → Running bytes (i + 1)
      run-goes-on e = let z : f (drop i bytes) ≡ suc (f (drop (i + 1) bytes)) = at_byte f bytes i h refl ∙ run.some _ _ ∙ rw e in omega (arith, r)

  -- ---- all of them
  pub run-within : (bytes : List ℕ) → f bytes ≤ length bytes
  run-within [] = omega (arith, run.none)
  run-within (c ∷ r) = rw (run.some c r) (by_cond (λ n. n ≤ suc (length r)) (p c) (omega (arith, run-within r)) (omega arith))

  -- the place of the first byte that fails the test, and the length where none does
  pub run-position : (bytes : List ℕ) → unwrap_or (position (λ c. not (p c)) bytes) (length bytes) ≡ f bytes
  run-position bytes = let e : f bytes ≡ position_or_len (λ c. not (p c)) bytes = is_position_or_len f (λ c. not (p c)) run.none step bytes in
      rw (← e) (by_cases (ltb (f bytes) (length bytes)) (λ t. rw t) (λ t. rw t (omega (arith, run-within bytes, ltb-false _ _ t))))
    where
      step : (c : ℕ) (r : List ℕ) → f (c ∷ r) ≡ cond (not (p c)) 0 (1 + f r)
      step c r = run.some c r ∙ by_cases (p c) (λ t. rw t (omega arith)) (λ t. rw t)

  -- a run of bytes other than a newline is on one line
  pub run-line : p 10 ≡ false → (bytes : List ℕ) → newlines (take (f bytes) bytes) ≡ 0
  unfolding newlines
  run-line out [] = rw run.none
  run-line out (c ∷ r) =
      rw (run.some c r) (by_cases (p c) (λ e. rw e (by_equal c 10 (λ z. let y : false ≡ true = sym out ∙ ap p (sym z) ∙ e in contradiction cc)
      (λ k. rw (ne_eqb c 10 k) (run-line out r)))) (λ e. rw e refl))

-- a comment's end is its newline
pub comment-end : (bytes : List ℕ) → unwrap_or (position (λ c. eqb c 10) bytes) (length bytes) ≡ to_line_end bytes
comment-end bytes = ap (λ (n : ℕ). unwrap_or (cond (ltb n (length bytes)) (Some n) None) (length bytes)) (ends bytes) ∙ run-position comment-run bytes
  where
    ends : (bytes : List ℕ) → position_or_len (λ c. eqb c 10) bytes ≡ position_or_len (λ c. not (in_comment c)) bytes
    ends [] = refl
    ends (c ∷ r) = by_cases (eqb c 10) (λ e. rw e) (λ e. rw (e, ends r))
