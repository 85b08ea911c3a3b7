-- Laws of what is written: bytes over the room, numbers, items and their lines.
use Rattle.laws.proofs.Basics.{ℕ, zero, suc, ◌+◌, ◌/◌, ◌%◌, ◌<◌, ◌≤◌, ◌≡◌, refl, sym, ap, subst, ◌∙◌, List, [], ◌∷◌, ◌++◌, append_assoc, append-nil}
use Rattle.laws.proofs.Basics.{Bool, false, length, set, length-append, ltb, leb, arith, ltb-false, lt-ltb, le-ltb, leb-true}
use Rattle.laws.proofs.Basics.{leb-false, le-leb, lt-leb}
use Rattle.laws.proofs.Cases.{by_cases}
use Rattle.items.specs.Item as I
use Rattle.items.specs.Render.{numeral, numeral_of, letter, indirect_text, base_text, operand_text, render}
use Rattle.writing.specs.Text.{over, upto, Text, Appends, line, lines}

pub over-length : (o t : List ℕ) → length (over o t) ≡ length t
unfolding over
over-length [] t = refl
over-length (b ∷ o) [] = refl
over-length (b ∷ o) (x ∷ t) = ap suc (over-length o t)

-- one byte more, wherever it is
over-snoc : (o t : List ℕ) (b : ℕ) → set (over o t) (length o) b ≡ over (o ++ (b ∷ [])) t
unfolding over
over-snoc [] [] b = refl
over-snoc [] (x ∷ t) b = refl
over-snoc (a ∷ o) [] b = refl
over-snoc (a ∷ o) (x ∷ t) b = ap (λ (l : List ℕ). a ∷ l) (over-snoc o t b)

over-past : (o t : List ℕ) (b : ℕ) → length t ≤ length o → over o t ≡ over (o ++ (b ∷ [])) t
unfolding over
over-past [] [] b h = refl
over-past [] (x ∷ t) b h = absurd (omega arith)
over-past (a ∷ o) [] b h = refl
over-past (a ∷ o) (x ∷ t) b h = ap (λ (l : List ℕ). a ∷ l) (over-past o t b (omega arith))

pub upto-in : (room n : ℕ) → n ≤ room → upto room n ≡ n
unfolding upto
upto-in room n h = rw (le-leb n room h)

pub upto-past : (room n : ℕ) → room < n → upto room n ≡ room + 1
unfolding upto
upto-past room n h = rw (lt-leb n room h)

at_room : {room n at : ℕ} → at ≡ upto room n → at < room → at ≡ n
at_room {room} {n} e h =
    by_cases (leb n room) (λ k. e ∙ upto-in room n (leb-true n room k)) (λ k. absurd (omega (arith, upto-past room n (leb-false n room k))))

past_room : {room n at : ℕ} → at ≡ upto room n → room ≤ at → room ≤ n
past_room {room} {n} e h = by_cases (leb n room) (λ k. omega (arith, upto-in room n (leb-true n room k))) (λ k. omega (arith, leb-false n room k))

-- a byte that has room, and one that has none
pub emitted : {t : List ℕ} {at : ℕ} (b : ℕ) → at < length t → Appends (b ∷ []) at (at + 1) t (set t at b)
emitted {t} {at} b h = record {
  by = λ t₀ o k.
      let el : length t ≡ length t₀ = ap length k.is ∙ over-length o t₀ in
      let ea : at ≡ length o = at_room k.place (omega arith) in
      record {
        is = ap (λ (l : List ℕ). set l at b) k.is ∙ ap (λ (i : ℕ). set (over o t₀) i b) ea ∙ over-snoc o t₀ b;
        place = ap (λ (i : ℕ). i + 1) ea ∙ sym (upto-in (length t₀) (length o + 1) (omega arith)) ∙
            ap (upto (length t₀)) (sym (length-append o (b ∷ [])));
      };
}

pub passed : {t : List ℕ} {at : ℕ} (b : ℕ) → length t ≤ at → Appends (b ∷ []) at (length t + 1) t t
passed {t} {at} b h = record {
  by = λ t₀ o k.
      let el : length t ≡ length t₀ = ap length k.is ∙ over-length o t₀ in
      let le : length t₀ ≤ length o = past_room k.place (omega arith) in
      record {
        is = k.is ∙ over-past o t₀ b le;
        place = ap (λ (i : ℕ). i + 1) el ∙ sym (upto-past (length t₀) (length (o ++ (b ∷ []))) (omega (arith, length-append o (b ∷ []))));
      };
}

pub appends_then : {w w' : List ℕ} {at x r : ℕ} {t t₁ t₂ : List ℕ} → Appends w at x t t₁ → Appends w' x r t₁ t₂ → Appends (w ++ w') at r t t₂
appends_then {w} {w'} {r = r} {t₂ = t₂} f g = record {
  by = λ t₀ o k.
      subst (λ (l : List ℕ). Text t₀ l r t₂) (append_assoc o w w') (g.by t₀ (o ++ w) (f.by t₀ o k));
}

pub appends_as : {w w' : List ℕ} {at r : ℕ} {t t' : List ℕ} → Appends w at r t t' → w' ≡ w → Appends w' at r t t'
appends_as {w} {w'} {at} {r} {t} {t'} f e = subst (λ (l : List ℕ). Appends l at r t t') (sym e) f

-- numbers: their digits don't depend on the fuel
enough : (f g n : ℕ) → n < f → n < g → numeral f n ≡ numeral g n
unfolding numeral
enough zero g n a b = absurd (omega arith)
enough (suc f) zero n a b = absurd (omega arith)
enough (suc f) (suc g) n a b = by_cases (ltb n 10) (λ e. rw e)
    (λ e. let l : 10 ≤ n = ltb-false n 10 e in rw (e, enough f g (n / 10) (omega arith) (omega arith)))

pub numeral_one : (n : ℕ) → n < 10 → numeral_of n ≡ (48 + n) ∷ []
unfolding numeral_of numeral
numeral_one n h = rw (lt-ltb n 10 h)

pub numeral_more : (n : ℕ) → 10 ≤ n → numeral_of n ≡ numeral_of (n / 10) ++ ((48 + n % 10) ∷ [])
unfolding numeral_of numeral
numeral_more n h = rw (le-ltb n 10 h) (ap (λ (l : List ℕ). l ++ ((48 + n % 10) ∷ [])) (enough n (suc (n / 10)) (n / 10) (omega arith) (omega arith)))

pub appends_none : {at : ℕ} {t : List ℕ} → Appends [] at at t t
appends_none {at} {t} = record { by = λ t₀ o k. subst (λ (l : List ℕ). Text t₀ l at t) (sym (append-nil o)) k }

-- items: a letter, then the rest
module _ (f : ℕ) {x : ℕ} {at p : ℕ} {t t₁ : List ℕ} (e : x ≡ letter f) (a : Appends (x ∷ []) at p t t₁) where
  lettered : Appends (letter f ∷ []) at p t t₁
  lettered = subst (λ (b : ℕ). Appends (b ∷ []) at p t t₁) e a

  pub instruction_put : (i : Bool) (b : I.Base) (n : ℕ) {q r z : ℕ} {t₂ t₃ t₄ : List ℕ}
      → Appends (indirect_text i) p q t₁ t₂ → Appends (base_text b) q r t₂ t₃ → Appends (numeral_of n ++ (10 ∷ [])) r z t₃ t₄
      → Appends (line (I.instruction f i b (I.number false n))) at z t t₄
  unfolding line render operand_text
  instruction_put i b n c d g = appends_as (appends_then lettered (appends_then c (appends_then d g))) (ap (λ (l : List ℕ). letter f ∷ l)
      (append_assoc (indirect_text i) (base_text b ++ numeral_of n) (10 ∷ []) ∙
      ap (λ (l : List ℕ). indirect_text i ++ l) (append_assoc (base_text b) (numeral_of n) (10 ∷ []))))

  pub labelled_put : (n : ℕ) {z : ℕ} {t₂ : List ℕ} → Appends (76 ∷ (numeral_of n ++ (10 ∷ []))) p z t₁ t₂
      → Appends (line (I.instruction f false I.none (I.address n))) at z t t₂
  unfolding line render operand_text indirect_text base_text
  labelled_put n c = appends_then lettered c

pub global_put : (n m : ℕ) {at p q z : ℕ} {t t₁ t₂ t₃ : List ℕ}
    → Appends (71 ∷ []) at p t t₁ → Appends (numeral_of n) p q t₁ t₂ → Appends (76 ∷ (numeral_of m ++ (10 ∷ []))) q z t₂ t₃
    → Appends (line (I.global n m)) at z t t₃
unfolding line render
global_put n m a b c = appends_as (appends_then a (appends_then b c))
    (ap (λ (l : List ℕ). 71 ∷ l) (append_assoc (numeral_of n) (76 ∷ numeral_of m) (10 ∷ [])))

-- lines one after another
pub lines_then : (a b : List I.Item) → lines (a ++ b) ≡ lines a ++ lines b
unfolding lines
lines_then [] b = refl
lines_then (i ∷ a) b = ap (λ (l : List ℕ). line i ++ l) (lines_then a b) ∙ sym (append_assoc (line i) (lines a) (lines b))
