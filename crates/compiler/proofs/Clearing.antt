-- Zeros from a place on, where scratch holds nothing but zeros, and `compile`'s contract once they are written.
use Rattle.std.specs.Prelude.{Err, Ok, Result}
use Rattle.laws.proofs.Basics.{ℕ, zero, suc, ◌+◌, ◌-◌, ◌≤◌, ◌≡◌, refl, sym, ap, ◌∙◌, List, ◌++◌, append_assoc, length, get_or, take, drop, replicate}
use Rattle.laws.proofs.Basics.{length-append, length-drop, length-replicate, replicate-append-replicate, List·getD-append, length-take-le, take_at}
use Rattle.laws.proofs.Basics.{get_or-drop, get_or-append-add, ext_get_or, ltb, arith, ltb-true, ltb-false}
use Rattle.laws.proofs.Cases.{by_cases, contradiction}
use Rattle.text.specs.declared.Refusal.{Refusal}
use Rattle.language.specs.Program.{Refused, accepted, refused}
use Rattle.language.specs.Whole.{refusal_of, refusal_in, unless_fits}
use Rattle.tree.specs.Read.{padded}
use Rattle.code.proofs.Theorem.{faithful, proper}
use Rattle.code.specs.Generate.{text_of}
use Rattle.compiler.specs.Compiles.{decided, answer_of, text_after, Begins, Compiles, Translates, Clean}

pub cleared-all : (s : List ℕ) {s' : List ℕ} → s' ≡ take 0 s ++ replicate (length s - 0) 0 → s' ≡ replicate (length s) 0
cleared-all s e = let z : length s - 0 ≡ length s = omega arith in rw (e, z)

-- ---- entries, and zeros behind them

module _ (w : List ℕ) (room : ℕ) (h : length w ≤ room) where
  pub padded-long : length (padded room w) ≡ room
  padded-long = omega (arith, length-append w (replicate (room - length w) 0), length-replicate {A = ℕ} (room - length w) 0)

  pub padded-on : (n : ℕ) → room ≤ n → padded n w ≡ padded room w ++ replicate (n - room) 0
  padded-on n k = let z : room - length w + (n - room) ≡ n - length w = omega arith in
      sym (append_assoc w (replicate (room - length w) 0) (replicate (n - room) 0)
      ∙ ap (λ (r : List ℕ). w ++ r) (replicate-append-replicate (room - length w) (n - room) 0 ∙ ap (λ (m : ℕ). replicate m 0) z))

zero-at : (n i : ℕ) → get_or (replicate {A = ℕ} n 0) i 0 ≡ 0
zero-at zero i = refl
zero-at (suc n) zero = refl
zero-at (suc n) (suc i) = zero-at n i

at-behind : (xs ys : List ℕ) (i : ℕ) → length xs ≤ i → get_or (xs ++ ys) i 0 ≡ get_or ys (i - length xs) 0
at-behind xs ys i h = let z : i ≡ length xs + (i - length xs) = omega arith in cc (get_or-append-add xs ys (i - length xs) 0)

pub padded-clean : {s : List ℕ} {used : ℕ} (w : List ℕ) (room : ℕ) → s ≡ padded room w → length w ≤ used → Clean used s
padded-clean w room e h = record {
  zeros = λ i k.
      ap (λ (z : List ℕ). get_or z i 0) e ∙ (at-behind w (replicate (room - length w) 0) i (omega arith) ∙ zero-at (room - length w) (i - length w));
}

-- a front that was lent
pub clean-front : {s front : List ℕ} {used : ℕ} (k : ℕ) → length front ≡ k → Clean used front → Clean used s → Clean used (front ++ drop k s)
clean-front {s} {front} {used} k e f c = record {
  zeros = λ i h. by_cases (ltb i k) (λ q. List·getD-append front (drop k s) 0 i (omega (arith, ltb-true i k q)) ∙ f.zeros i h)
      (λ q. let l = ltb-false i k q in
      at-behind front (drop k s) i (omega arith) ∙ (get_or-drop k s (i - length front) 0 ∙ c.zeros (k + (i - length front)) (omega arith)));
}

-- zeros are written below the place from which there are zeros
pub clean_all : {s z : List ℕ} {used : ℕ} → Clean used s → used ≤ length s → z ≡ take 0 (take used s) ++ replicate (length (take used s) - 0) 0
    → z ++ drop used s ≡ replicate (length s) 0
clean_all {s} {z} {used} c h e =
    let l : length (take used s) ≡ used = length-take-le used s h in let n : used + (length s - used) ≡ length s = omega arith in
    let behind : drop used s ≡ replicate (length s - used) 0 = ext_get_or 0 (drop used s) (replicate (length s - used) 0)
    (length-drop used s ∙ sym (length-replicate {A = ℕ} (length s - used) 0))
    (λ i k. get_or-drop used s i 0 ∙ (c.zeros (used + i) (omega arith) ∙ sym (zero-at (length s - used) i))) in
    ap (λ (y : List ℕ). y ++ drop used s) (cleared-all (take used s) e ∙ ap (λ (m : ℕ). replicate m 0) l)
    ∙ (ap (λ (y : List ℕ). replicate used 0 ++ y) behind ∙ (replicate-append-replicate used (length s - used) 0 ∙ ap (λ (m : ℕ). replicate m 0) n))

-- zeros are written behind a front of zeros
pub zeros-behind : (s front : List ℕ) {s' : List ℕ} (k : ℕ) → length (take k s) ≡ k → k ≤ length s → front ≡ replicate (length (take k s)) 0
    → s' ≡ take k (front ++ drop k s) ++ replicate (length (front ++ drop k s) - k) 0 → s' ≡ replicate (length s) 0
zeros-behind s front k e h f w = let l : length front ≡ k = ap length f ∙ (length-replicate {A = ℕ} (length (take k s)) 0 ∙ e) in
    let m : length (front ++ drop k s) - k ≡ length s - k = omega (arith, length-append front (drop k s), length-drop k s) in
    let n : k + (length s - k) ≡ length s = omega arith in
    w ∙ (ap (λ (i : ℕ). take k (front ++ drop k s) ++ replicate i 0) m
    ∙ (ap (λ (x : List ℕ). x ++ replicate (length s - k) 0) (take_at front (drop k s) k l ∙ (f ∙ ap (λ (i : ℕ). replicate i 0) e))
    ∙ (replicate-append-replicate k (length s - k) 0 ∙ ap (λ (i : ℕ). replicate i 0) n)))

-- ---- after the clearing

accepted-text : (source text t' : List ℕ) (n : ℕ) (d : Refused) → Ok n ≡ answer_of source d → Begins source t' d → length t' ≡ length text
    → (n ≤ length t') × (take n t' ++ replicate (length t' - n) 0 ≡ text_after source (length text) d)
accepted-text source text t' n accepted e b l = let z : n ≡ length (text_of source) = cc in (omega arith, rw (z, l, b.0))
accepted-text source text t' n (refused number place) e b l = contradiction cc

refused-text : (source text t' : List ℕ) (w : Refusal) (d : Refused) → Err w ≡ answer_of source d → length t' ≡ length text
    → replicate {A = ℕ} (length t' - 0) 0 ≡ text_after source (length text) d
refused-text source text t' w accepted e l = contradiction cc
refused-text source text t' w (refused number place) e l = let z : length t' - 0 ≡ length text = omega arith in rw z

-- what is accepted is faithful and proper
accepts : (source : List ℕ) (scratch room : ℕ) → decided source scratch room ≡ accepted → refusal_of source scratch ≡ accepted
unfolding decided refusal_in
accepts source scratch room = elim (refusal_of source scratch) as (λ x. unless_fits (length (text_of source)) room x ≡ accepted → x ≡ accepted)
    [ accepted ↦ λ h. refl | refused number place ↦ λ h. h ]

module _ {source scratch scratch' text text₁ : List ℕ} {a : Result ℕ Refusal} (t : Translates source scratch scratch' text text₁ a)
    (l : length text₁ ≡ length text) where
  abbrev decision : Refused
  decision = decided source (length scratch) (length text)

  pub accepted-fits : {n : ℕ} → a ≡ Ok n → n ≤ length text₁
  accepted-fits {n} e = (accepted-text source text text₁ n decision (sym e ∙ t.answers) t.begins l).0

  compiles : {text₂ : List ℕ} (b : Result ℕ Refusal) → a ≡ b → text₂ ≡ text_after source (length text) decision → Compiles source scratch scratch' text text₂ b
  compiles b e w = record {
    answers = sym e ∙ t.answers;
    clears = t.clears;
    writes = w;
    faithful = λ h. faithful source (length scratch) (accepts source (length scratch) (length text) h);
    proper = λ h. proper source (length scratch) (accepts source (length scratch) (length text) h);
  }

  pub compiles-accepted : {text₂ : List ℕ} {n : ℕ} → a ≡ Ok n → text₂ ≡ take n text₁ ++ replicate (length text₁ - n) 0
      → Compiles source scratch scratch' text text₂ (Ok n)
  compiles-accepted {text₂} {n} e et =
      compiles (Ok n) e (et ∙ (accepted-text source text text₁ n decision (sym e ∙ t.answers) t.begins l).1)

  pub compiles-refused : {text₂ : List ℕ} {w : Refusal} → a ≡ Err w → text₂ ≡ take 0 text₁ ++ replicate (length text₁ - 0) 0
      → Compiles source scratch scratch' text text₂ (Err w)
  compiles-refused {text₂} {w} e et = compiles (Err w) e (et ∙ refused-text source text text₁ w decision (sym e ∙ t.answers) l)
