-- The whole: each answer of `read_symbols`, and what it leaves in scratch.
use Rattle.laws.proofs.Basics.{refl, ℕ, ◌-◌, ◌*◌, ◌<◌, ◌≤◌, ◌≡◌, sym, ap, ◌∙◌, List, [], ◌++◌, Bool, true, false, length, take, replicate, length-take-le, length-append, length-replicate}
use Rattle.laws.proofs.Basics.{ltb, arith, ltb-false, lt-ltb, le-ltb}
use Rattle.language.specs.Symbols.{Fault, none, fault, scan}
use Rattle.laws.proofs.Cases.{contradiction}
use Rattle.language.specs.Source.{Symbols, good, faulty, on_fault, symbols_of, too_long}
use Rattle.std.specs.Prelude.{Result, Ok, Err}
use Rattle.text.specs.Faults.{number_of}
use Rattle.symbols.specs.Read.{entries, refused, answer_of, Outcome, outcome, symbols_read, numbers, Reads}
use Rattle.symbols.specs.Parts.{read_all, ReadsAll}
use Rattle.symbols.specs.declared.Faulty.{Faulty}
use Rattle.symbols.specs.declared.Unread.{Unread}
use Rattle.symbols.specs.declared.Unread.TheVariants.{TooLong, TooShort, Refused}
use Rattle.symbols.proofs.Matching.{fault_from}
use Rattle.symbols.proofs.Semicolons.{symbols_in}
use Rattle.symbols.proofs.Writing.{length-entries, Putting}

pub short-text : (text : List ℕ) {t : Bool} → t ≡ too_long text → t ≡ false → length text ≤ 16384
unfolding too_long
short-text text e k = ltb-false 16384 (length text) (sym e ∙ k)

-- what a refusal leaves
pub refused-zeros : (room : ℕ) (ss : Symbols) {number place : ℕ} → refused number place ≡ (outcome room ss).answer → replicate room 0 ≡ (outcome room ss).scratch
refused-zeros room (good ss) e = contradiction cc
refused-zeros room (faulty number place) e = refl

module _ (text s : List ℕ) where
  reads : {answer : Result ℕ Unread} {s' : List ℕ} → answer_of answer ≡ (symbols_read text s).answer → s' ≡ (symbols_read text s).scratch → Reads text s answer s'
  reads e h = record { answers = e; tells = ap (numbers text) e; leaves = h }

  pub long : {t : Bool} → t ≡ too_long text → t ≡ true → Reads text s (Err TooLong) s
  unfolding symbols_read
  long e k = let z : too_long text ≡ true = sym e ∙ k in reads (rw z) (rw z)

  module _ (h : length text ≤ 16384) where
    not-long : too_long text ≡ false
    unfolding too_long
    not-long = le-ltb 16384 (length text) h

    pub short : length s < length text * 3 → Reads text s (Err TooShort) s
    unfolding symbols_read
    short k = let z : ltb (length s) (length text * 3) ≡ true = lt-ltb _ _ k in reads (rw (not-long, z)) (rw (not-long, z))

    module _ (k : length text * 3 ≤ length s) where
      enough : symbols_read text s ≡ outcome (length s) (symbols_of text)
      unfolding symbols_read
      enough = rw (not-long, le-ltb (length s) (length text * 3) k)

      pub reads-symbols : {r : Result ℕ Faulty} {s' : List ℕ} {count : ℕ} → ReadsAll text s r s' → r ≡ Ok count → Reads text s (Ok count) s'
      reads-symbols a e = reads (ap read_all (sym e) ∙ a.answers ∙ sym (ap (λ (o : Outcome). o.answer) enough))
          (a.leaves _ e ∙ sym (ap (λ (o : Outcome). o.scratch) enough))

      pub reads-fault : {r : Result ℕ Faulty} {s' s₂ : List ℕ} {f : Faulty} → ReadsAll text s r s' → r ≡ Err f → s₂ ≡ replicate (length s') 0
          → Reads text s (Err (Refused f.fault f.place)) s₂
      reads-fault {s' = s'} a e q = let n : refused _ _ ≡ (outcome (length s) (symbols_of text)).answer = ap read_all (sym e) ∙ a.answers in
          reads (n ∙ sym (ap (λ (o : Outcome). o.answer) enough))
          (q ∙ ap (λ (n : ℕ). replicate n 0) a.same ∙ refused-zeros (length s) (symbols_of text) n ∙ sym (ap (λ (o : Outcome). o.scratch) enough))

module _ (text s : List ℕ) {at count before strings : ℕ} {s₁ : List ℕ} (p : Putting text s at count before strings s₁) where
  pub all-refused : {e : Faulty} → fault_from text [] (scan text) ≡ fault (number_of e.fault) e.place → ReadsAll text s (Err e) s₁
  unfolding symbols_of fault_from symbols_in
  all-refused {e} f = let b : symbols_of text ≡ faulty (number_of e.fault) e.place = ap (λ (t : Fault). on_fault t (symbols_in text)) f in
      record { same = p.same; answers = rw b; leaves = λ count k. contradiction cc }

  pub all-read : {s₂ : List ℕ} → fault_from text [] (scan text) ≡ none → take (count * 3) s₁ ≡ entries (symbols_in text)
      → s₂ ≡ take (count * 3) s₁ ++ replicate (length s₁ - count * 3) 0 → ReadsAll text s (Ok count) s₂
  unfolding symbols_of fault_from symbols_in
  all-read {s₂} f w q = let b : symbols_of text ≡ good (symbols_in text) = ap (λ (t : Fault). on_fault t (symbols_in text)) f in
      let l : length (entries (symbols_in text)) ≡ count * 3 = ap length (sym w) ∙ length-take-le (count * 3) s₁ p.fits in
      let c : length (symbols_in text) ≡ count = omega (arith, length-entries (symbols_in text)) in
      let n : length s₁ - count * 3 ≡ length s - length (entries (symbols_in text)) = omega (arith, p.same) in
      record {
        same = ap length q ∙ simp (length-append, length-replicate) (omega (arith, l, ap length w, p.fits, p.same));
        answers = rw (b, c);
        leaves = λ count' k. q ∙ rw (b, w, n);
      }
