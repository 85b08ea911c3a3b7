-- The assembler's image has the code of its items at their addresses.
use Rattle.laws.proofs.Basics.{ℕ, suc, ◌+◌, ◌*◌, ◌<◌, ◌≤◌, ◌≡◌, refl, sym, ap, ◌∙◌, List, [], ◌∷◌, ◌++◌, append_assoc, append-nil, Bool, true, false}
use Rattle.laws.proofs.Basics.{length, get_or, length-append, List·getD-append, get_or-append-add, eqb, ltb, add-zero, arith, eq-eqb, ltb-true}
use Rattle.laws.proofs.Cases.{by_cases, contradiction}
use Rattle.items.specs.Item.{number, address, Base, Item, label, instruction, constant, string, global, Placed}
use Rattle.items.specs.Render.{render}
use Rattle.items.proofs.Rendered.{places}
use Rattle.assembler.specs.Words.{in_range, operand_in_range, short, size, indirect_bit, base_bit, operand_word, words}
use Rattle.text.proofs.Packed.{length_pairs}
use Rattle.assembler.proofs.Image.{length-words}
use Rattle.assembler.specs.declared.Label.{Label}
use Rattle.assembler.specs.Layout.{defined, address_of, noted, laid, misplaced, fault, lay}
use Rattle.assembler.specs.Assemble.{program}
use Rattle.assembler.proofs.Operands.{number-below, label-range}
use Rattle.assembler.proofs.Faults.{laid-first, no-fault-ranged, no-fault-placed, label-placed}
use Rattle.code.proofs.Standing.{Env, At, Is, is_number, is_address, is-label, is_word, is-place, is-string, is-global, is-minus, is_negative}
use Rattle.code.proofs.Standing.{Code, end, next}
use Rattle.code.proofs.Fetching.{short-bits, long-bits, fetch-short, fetch-long}

-- ---- an item's words are as many as its size

-- where items end
unfoldable pub past : ℕ → List Item → ℕ
past at [] = at
past at (x ∷ xs) = past (at + size x) xs

pub past_more : (at : ℕ) (xs : List Item) → at ≤ past at xs
unfolding past
past_more at [] = omega arith
past_more at (x ∷ xs) = let h : at + size x ≤ past (at + size x) xs = past_more (at + size x) xs in omega arith

pub past-both : (at : ℕ) (xs ys : List Item) → past at (xs ++ ys) ≡ past (past at xs) ys
unfolding past
past-both at [] ys = refl
past-both at (x ∷ xs) ys = past-both (at + size x) xs ys

-- ---- the words of the items from an address on

pub record Spot (labels : List Label) (image : List ℕ) (at : ℕ) (ps : List Placed) : Type 0 where
  pub front : List ℕ
  pub rest : List ℕ
  pub is : image ≡ front ++ (program labels ps ++ rest)
  pub size : length front ≡ at

module _ {labels : List Label} {image : List ℕ} {at : ℕ} {p : Placed} {ps : List Placed} (s : Spot labels image at (p ∷ ps)) where
  pub spot-next : Spot labels image (at + size p.item) ps
  unfolding program
  spot-next = record {
    front = s.front ++ words (address_of labels) p.item;
    rest = s.rest;
    is = s.is ∙ simp append_assoc;
    size = omega (arith, length-append s.front (words (address_of labels) p.item), length-words (address_of labels) p.item, s.size);
  }

  pub spot-word : (j : ℕ) → j < length (words (address_of labels) p.item) → get_or image (at + j) 0 ≡ get_or (words (address_of labels) p.item) j 0
  unfolding program
  spot-word j l = let e : image ≡ s.front ++ (words (address_of labels) p.item ++ (program labels ps ++ s.rest))
      = s.is ∙ rw (append_assoc (words (address_of labels) p.item) (program labels ps) s.rest) refl in
      rw (e, ← s.size) (get_or-append-add s.front (words (address_of labels) p.item ++ (program labels ps ++ s.rest)) j 0
      ∙ List·getD-append (words (address_of labels) p.item) (program labels ps ++ s.rest) 0 j l)

-- ---- the layout

module _ (memory room : ℕ) where
  -- items from an address on, after the labels so far, give these labels and this end
  pub record Lays (at : ℕ) (ls : List Label) (ps : List Placed) (labels : List Label) (end : ℕ) : Type 0 where
    pub is : lay memory room at ls ps ≡ laid labels end

  pub lay_step : {at : ℕ} {ls labels : List Label} {p : Placed} {ps : List Placed} {end : ℕ} → Lays at ls (p ∷ ps) labels end
      → (fault memory room at ls p.item ≡ 0) × Lays (at + size p.item) (noted at ls p.item) ps labels end
  lay_step {at} {ls} {labels} {p} {ps} h = let f = laid-first memory room at ls p ps h.is in (f.0, record { is = f.1 })

  -- the labels found so far stay in front
  pub record Extends (ls labels : List Label) : Type 0 where
    pub more : List Label
    pub is : labels ≡ ls ++ more

  noted-extends : (at : ℕ) (ls : List Label) (i : Item) {labels : List Label} → Extends (noted at ls i) labels → Extends ls labels
  unfolding noted
  noted-extends at ls (label n) x = record
      { more = record { number = n; address = at } ∷ x.more; is = x.is ∙ append_assoc ls (record { number = n; address = at } ∷ []) x.more }
  noted-extends at ls (instruction f i b o) x = x
  noted-extends at ls (constant o) x = x
  noted-extends at ls (string cs) x = x
  noted-extends at ls (global n m) x = x

  pub lay-extends : (at : ℕ) (ls : List Label) (ps : List Placed) {labels : List Label} {end : ℕ} → Lays at ls ps labels end → Extends ls labels
  unfolding lay
  lay-extends at ls [] {labels} {end} h = let y : laid ls at ≡ laid labels end = h.is in
      let z : labels ≡ ls = cc in record { more = []; is = z ∙ sym (mathlib.Core.List.append-nil ls) }
  lay-extends at ls (p ∷ ps) h = noted-extends at ls p.item (lay-extends (at + size p.item) (noted at ls p.item) ps (lay_step h).1)

  found_at : (ls more : List Label) (n at : ℕ) → defined ls n ≡ false → address_of (ls ++ (record { number = n; address = at } ∷ more)) n ≡ at
  unfolding address_of defined
  found_at [] more n at h = rw (eq-eqb n n refl) refl
  found_at (l ∷ ls) more n at h =
      by_cases (eqb l.number n) (λ e. let z : true ≡ false = rw e at h in contradiction cc) (λ e. rw e (found_at ls more n at (rw e at h)))

  pub lays-end : (at p : ℕ) (ls : List Label) (xs : List Item) {labels : List Label} {end : ℕ} → Lays at ls (places p xs) labels end
      → past at xs ≡ end
  unfolding past places lay
  lays-end at p ls [] {labels} {end} h = let y : laid ls at ≡ laid labels end = h.is in cc
  lays-end at p ls (x ∷ xs) h = lays-end (at + size x) (p + length (render x) + 1) (noted at ls x) xs (lay_step h).1

  -- a label's address is where it stands
  pub label-found : {at n : ℕ} {ls labels : List Label} {p : ℕ} {ps : List Placed} {end : ℕ}
      → Lays at ls (record { place = p; item = label n } ∷ ps) labels end
      → address_of labels n ≡ at
  unfolding misplaced noted
  label-found {at} {n} {ls} {labels} {p} {ps} h = let s = lay_step h in
      let x : Extends (ls ++ (record { number = n; address = at } ∷ [])) labels
      = lay-extends (at + size (label n)) (ls ++ (record { number = n; address = at } ∷ [])) ps s.1 in
      rw (x.is, append_assoc ls (record { number = n; address = at } ∷ []) x.more)
      (found_at ls x.more n at (label-placed memory room at ls n (no-fault-placed memory room at ls (label n) s.0)).0)

  -- ---- the code

  module _ (Γ : Env) (labels : List Label) (lab-is : (n : ℕ) → Γ.lab n ≡ address_of labels n) (near : (n : ℕ) → address_of labels n < 65536)
      (most : length Γ.image ≤ 32768) where
    -- words that are code
    abbrev pub Coded : ℕ → Item → Type 0
    Coded at (label n) = Unit {0}
    Coded at (instruction f i b x) = (j : ℕ) → j < size (instruction f i b x) → (Γ.is_code (at + j) ≡ true) × (at + j < length Γ.image)
    Coded at (constant x) = (j : ℕ) → j < 1 → (Γ.is_code (at + j) ≡ true) × (at + j < length Γ.image)
    Coded at (string cs) = Unit {0}
    Coded at (global n m) = Unit {0}

    is-to : {a b c : ℕ} {x : Item} → Is Γ a x b → b ≡ c → Is Γ a x c
    is-to i e = rw e at i

    -- an instruction of two words
    at_long : (f x : ℕ) (i : Bool) (base : Base) {at : ℕ} → x < 65536 → (Γ.is_code (at + 0) ≡ true) × (at + 0 < length Γ.image)
        → (Γ.is_code (at + 1) ≡ true) × (at + 1 < length Γ.image)
        → get_or Γ.image (at + 0) 0 ≡ f * 8192 + indirect_bit i + base_bit base + 512 → get_or Γ.image (at + 1) 0 ≡ x
        → At Γ at f i base x (suc (suc at))
    at_long f x i base {at} l c₀ c₁ w₀ w₁ = record {
      small = l;
      is = λ r m agree pc. let o : at + 1 ≡ suc at = omega arith in
          let g : get_or m at 0 ≡ f * 8192 + indirect_bit i + base_bit base + 512 = rw (add-zero at) at (agree.same (at + 0) c₀.0 ∙ w₀) in
          let k : get_or m (suc at) 0 ≡ x = rw o at (agree.same (at + 1) c₁.0 ∙ w₁) in
          fetch-long r m pc (omega (arith, agree.size, c₀.1)) g base x (long-bits f i base) (omega (arith, c₁.1))
          (omega (arith, agree.size, c₁.1)) k;
    }

    pub at-short : (f x : ℕ) (i : Bool) (base : Base) {at : ℕ} → x < 512 → (Γ.is_code (at + 0) ≡ true) × (at + 0 < length Γ.image)
        → get_or Γ.image (at + 0) 0 ≡ f * 8192 + indirect_bit i + base_bit base + x → At Γ at f i base x (suc at)
    at-short f x i base {at} l c₀ w₀ = record {
      small = omega arith;
      is = λ r m agree pc.
          let g : get_or m at 0 ≡ f * 8192 + indirect_bit i + base_bit base + x = rw (add-zero at) at (agree.same (at + 0) c₀.0 ∙ w₀) in
          fetch-short r m pc (omega (arith, agree.size, c₀.1)) g base (short-bits f x l i base) (omega (arith, c₀.1));
    }

    item-is : {at p : ℕ} {ls : List Label} {ps : List Placed} {end : ℕ} (x : Item) → Lays at ls (record { place = p; item = x } ∷ ps) labels end
        → Spot labels Γ.image at (record { place = p; item = x } ∷ ps) → Coded at x → Is Γ at x (at + size x)
    unfolding size words operand_word short in_range operand_in_range
    item-is {at} (label n) h s c = is-to (is-label (lab-is n ∙ label-found h) refl) (omega arith)
    item-is {at} {ls = ls} (instruction f i base (number false k)) h s c =
        let k< = number-below false (no-fault-ranged memory room at ls (instruction f i base (number false k)) (lay_step h).0) in
        let first = f * 8192 + indirect_bit i + base_bit base in
        by_cases (ltb k 512) (λ e. let c' : (j : ℕ) → j < 1 → (Γ.is_code (at + j) ≡ true) × (at + j < length Γ.image) = rw e at c in
        let w' : (j : ℕ) → j < 1 → get_or Γ.image (at + j) 0 ≡ get_or ((first + k) ∷ []) j 0 = rw e at (spot-word s) in
        rw e (is-to (is_number (at-short f k i base (ltb-true k 512 e) (c' 0 (omega arith)) (w' 0 (omega arith)))) (omega arith)))
        (λ e. let c' : (j : ℕ) → j < 2 → (Γ.is_code (at + j) ≡ true) × (at + j < length Γ.image) = rw e at c in
        let w' : (j : ℕ) → j < 2 → get_or Γ.image (at + j) 0 ≡ get_or ((first + 512) ∷ k ∷ []) j 0 = rw e at (spot-word s) in
        rw e (is-to (is_number (at_long f k i base k< (c' 0 (omega arith)) (c' 1 (omega arith)) (w' 0 (omega arith)) (w' 1 (omega arith))))
        (omega arith)))
    item-is {at} {ls = ls} (instruction f i base (number true k)) h s c = is-minus
    item-is {at} {ls = ls} (instruction f i base (address l)) h s c =
        let r : (1 ≤ l) × (l ≤ 32767) = label-range l (no-fault-ranged memory room at ls (instruction f i base (address l)) (lay_step h).0) in
        let lt : Γ.lab l < 65536 = rw (lab-is l) (near l) in
        is-to (is_address r.0 (at_long f (Γ.lab l) i base lt (c 0 (omega arith)) (c 1 (omega arith)) (spot-word s 0 (omega arith))
        (spot-word s 1 (omega arith) ∙ sym (lab-is l)))) (omega arith)
    item-is {at} {ls = ls} (constant (number false k)) h s c = let w : get_or Γ.image at 0 ≡ k = rw (add-zero at) at (spot-word s 0 (omega arith)) in
        let o = rw (add-zero at) at (c 0 (omega arith)) in
        is-to (is_word (record { below = o.1; is = λ m agree. agree.same at o.0 ∙ w }) refl) (omega arith)
    item-is {at} (constant (number true k)) h s c = is_negative
    item-is {at} (constant (address l)) h s c =
        let w : get_or Γ.image at 0 ≡ Γ.lab l = rw (add-zero at) at (spot-word s 0 (omega arith) ∙ sym (lab-is l)) in
        let o = rw (add-zero at) at (c 0 (omega arith)) in
        is-to (is-place (record { below = o.1; is = λ m agree. agree.same at o.0 ∙ w }) refl) (omega arith)
    item-is {at} (string cs) h s c = is-string (spot-word s) (ap (at +◌) (length_pairs (length cs) cs))
    item-is {at} (global n m) h s c = let z : at ≡ at + 0 = omega arith in is-global z

    abbrev pub AllCoded : ℕ → List Item → Type 0
    AllCoded at [] = Unit {0}
    AllCoded at (x ∷ xs) = Coded at x × AllCoded (at + size x) xs

    pub laid_code : {T : Type 0} (xs ys : List Item) (p at : ℕ) (ls : List Label) {end : ℕ} → Lays at ls (places p (xs ++ ys)) labels end
        → Spot labels Γ.image at (places p (xs ++ ys)) → AllCoded at xs
        → ((p' : ℕ) (ls' : List Label) → Code Γ at xs (past at xs) → Lays (past at xs) ls' (places p' ys) labels end → Spot labels Γ.image
        (past at xs) (places p' ys) → T) → T
    unfolding places past
    laid_code [] ys p at ls h s c f = f p ls (end refl) h s
    laid_code (x ∷ xs) ys p at ls h s c f =
        laid_code xs ys (p + length (render x) + 1) (at + size x) (noted at ls x) (lay_step h).1 (spot-next s) c.1
        λ p' ls' k h' s'. f p' ls' (next (item-is x h s c.0) k) h' s'
