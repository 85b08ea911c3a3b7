-- The placement rules of the compiler's text: every function and string labelled, entries that differ, strings in place and apart.
use Rattle.laws.proofs.Basics.{ℕ, zero, suc, ◌+◌, ◌-◌, ◌<◌, ◌≤◌, ◌≡◌, refl, sym, ◌∙◌, List, [], ◌∷◌, ◌++◌, append_assoc, true, false, inl, length}
use Rattle.laws.proofs.Basics.{get_or, take, drop, replicate, length-drop, length-take-le, get_or-take, get_or-drop, ext_get_or, eqb, add-zero, arith}
use Rattle.laws.proofs.Basics.{eq-eqb}
use Rattle.laws.proofs.Basics.{ne_eqb, add-shift}
use Rattle.laws.proofs.Cases.{by_order, by_cond}
use Rattle.items.specs.Item.{Item, label}
use Rattle.items.specs.Render.{render}
use Rattle.items.proofs.Rendered.{places}
use Rattle.assembler.specs.Words.{size, short}
use Rattle.text.specs.Packed.{packed}
use Rattle.assembler.specs.declared.Label.{Label}
use Rattle.assembler.specs.Layout.{vacant, defined, address_of, noted}
use Rattle.assembler.specs.Assemble.{assembled}
use Rattle.std.specs.Prelude.{Ok}
use Rattle.language.specs.Resolved.{Fun}
use Rattle.language.specs.Whole.{functions_in, strings_in}
use Rattle.code.specs.Faithful.{addresses_from, placement_of}
use Rattle.code.specs.Placed.{WellPlaced}
use Rattle.code.specs.Generate.{X, body_code, body_labels, functions_code, strings_code, items_of, text_of}
use Rattle.code.proofs.Standing.{Env, Code, is-label, is-string, next}
use Rattle.code.proofs.Placing.{Lays, lay_step, lay-extends, label-found, past, past_more}
use Rattle.code.proofs.Program as G
use Rattle.code.proofs.Program.{Built, built}
use Rattle.code.proofs.Good.{Good}

-- ---- labels are defined

data In (n : ℕ) : List Item → Type 0 where
  here : {xs : List Item} → In n (label n ∷ xs)
  there : {x : Item} {xs : List Item} → In n xs → In n (x ∷ xs)

in_left : {n : ℕ} {xs : List Item} (ys : List Item) → In n xs → In n (xs ++ ys)
in_left ys here = here
in_left ys (there i) = there (in_left ys i)

in_right : {n : ℕ} (xs : List Item) {ys : List Item} → In n ys → In n (xs ++ ys)
in_right [] i = i
in_right (x ∷ xs) i = there (in_right xs i)

in-functions : (strings l n : ℕ) (fs : List Fun) (k : ℕ) → k < length fs → In (l + k) (functions_code strings l n fs)
unfolding functions_code
in-functions strings l n [] k h = absurd (omega arith)
in-functions strings l n (f ∷ fs) zero h = rw (add-zero l) here
in-functions strings l n (f ∷ fs) (suc k) h = rw (add-shift l k) (there (in_right (body_code strings (2 + f.parameters) n f.body)
    (there (in-functions strings (suc l) (n + body_labels f.body) fs k (omega arith)))))

in-strings : (l : ℕ) (ss : List (List ℕ)) (k : ℕ) → k < length ss → In (l + k) (strings_code l ss)
unfolding strings_code
in-strings l [] k h = absurd (omega arith)
in-strings l (cs ∷ ss) zero h = rw (add-zero l) here
in-strings l (cs ∷ ss) (suc k) h = rw (add-shift l k) (there (there (in-strings (suc l) ss k (omega arith))))

defined-in : (ls more : List Label) (n at : ℕ) → defined (ls ++ (record { number = n; address = at } ∷ more)) n ≡ true
unfolding defined
defined-in [] more n at = rw (eq-eqb n n refl) refl
defined-in (l ∷ ls) more n at = by_cond (λ x. x ≡ true) (eqb l.number n) refl (defined-in ls more n at)

module _ (memory room : ℕ) where
  laid-defined : {n : ℕ} {xs : List Item} → In n xs → (at p : ℕ) (ls : List Label) {labels : List Label} {end : ℕ}
      → Lays memory room at ls (places p xs) labels end → defined labels n ≡ true
  unfolding places noted
  laid-defined {n} (here {xs = xs}) at p ls h = let ls' : List Label = ls ++ (record { number = n; address = at } ∷ []) in
      let x = lay-extends memory room (at + size (label n)) ls' (places (p + length (render (label n)) + 1) xs) (lay_step memory room h).1 in
      rw (x.is, append_assoc ls (record { number = n; address = at } ∷ []) x.more) (defined-in ls x.more n at)
  laid-defined (there {x = x} i) at p ls h = laid-defined i (at + size x) (p + length (render x) + 1) (noted at ls x) (lay_step memory room h).1

  -- past some items
  skip : {T : Type 0} (xs ys : List Item) (at p : ℕ) (ls : List Label) {labels : List Label} {end : ℕ}
      → Lays memory room at ls (places p (xs ++ ys)) labels end
      → ((p' : ℕ) (ls' : List Label) → Lays memory room (past at xs) ls' (places p' ys) labels end → T) → T
  unfolding places past
  skip [] ys at p ls h f = f p ls h
  skip (x ∷ xs) ys at p ls h f = skip xs ys (at + size x) (p + length (render x) + 1) (noted at ls x) (lay_step memory room h).1 f

  -- entries go up
  record Up (labels : List Label) (l at count : ℕ) : Type 0 where
    low : (k : ℕ) → k < count → at ≤ address_of labels (l + k)
    strict : (i j : ℕ) → i < j → j < count → address_of labels (l + i) < address_of labels (l + j)

  functions-up : (strings l n : ℕ) (fs : List Fun) (ys : List Item) (at p : ℕ) (ls : List Label) {labels : List Label} {end : ℕ}
      → Lays memory room at ls (places p (functions_code strings l n fs ++ ys)) labels end → Up labels l at (length fs)
  unfolding functions_code places size short
  functions-up strings l n [] ys at p ls h = record { low = λ k j. absurd (omega arith); strict = λ i j u w. absurd (omega arith) }
  functions-up strings l n (f ∷ fs) ys at p ls {labels} {end} h = let a : address_of labels l ≡ at = label-found memory room h in
      let body : List Item = body_code strings (2 + f.parameters) n f.body in
      let rest : List Item = functions_code strings (suc l) (n + body_labels f.body) fs ++ ys in
      let t : Lays memory room (at + 0) (noted at ls (label l)) (places (p + length (render (label l)) + 1) (body ++ (X 4 ∷ rest))) labels end
      = rw (append_assoc body (X 4 ∷ functions_code strings (suc l) (n + body_labels f.body) fs) ys) at (lay_step memory room h).1 in
      skip body (X 4 ∷ rest) (at + 0) (p + length (render (label l)) + 1) (noted at ls (label l)) t λ p' ls' h'.
      let u : Up labels (suc l) (past (at + 0) body + 1) (length fs)
      = functions-up strings (suc l) (n + body_labels f.body) fs ys (past (at + 0) body + 1) _ _ (lay_step memory room h').1 in
      let m : at + 0 ≤ past (at + 0) body = past_more (at + 0) body in
      record { low = λ k j. low' a u m k j; strict = λ i j v w. strict' a u m i j v w }
    where
      low' : {b : ℕ} → address_of labels l ≡ at → Up labels (suc l) (b + 1) (length fs) → at + 0 ≤ b → (k : ℕ) → k < suc (length fs)
          → at ≤ address_of labels (l + k)
      low' a u m zero j = rw (add-zero l) (omega arith)
      low' a u m (suc k) j = rw (add-shift l k) (omega (arith, u.low k (omega arith)))

      strict' : {b : ℕ} → address_of labels l ≡ at → Up labels (suc l) (b + 1) (length fs) → at + 0 ≤ b → (i j : ℕ) → i < j → j < suc (length fs)
          → address_of labels (l + i) < address_of labels (l + j)
      strict' a u m i zero v w = absurd (omega arith)
      strict' a u m zero (suc j) v w = rw (add-zero l, add-shift l j) (omega (arith, u.low j (omega arith)))
      strict' a u m (suc i) (suc j) v w = rw (add-shift l i, add-shift l j) (u.strict i j (omega arith) (omega arith))

-- ---- strings

record StringAt (mem : List ℕ) (a b at : ℕ) (ws : List ℕ) : Type 0 where
  low : a ≤ at
  high : at + length ws ≤ b
  words : (j : ℕ) → j < length ws → get_or mem (at + j) 0 ≡ get_or ws j 0

module _ (Γ : Env) where
  string-at : (l : ℕ) (ss : List (List ℕ)) {a b : ℕ} → Code Γ a (strings_code l ss) b → (k : ℕ) → k < length ss
      → StringAt Γ.image a b (Γ.lab (l + k)) (packed (get_or ss k []))
  unfolding strings_code
  string-at l [] c k h = absurd (omega arith)
  string-at l (cs ∷ ss) {a} {b} (next (is-label t e) (next (is-string f g) c)) zero h = let u = G.strings-up Γ (suc l) ss c in
      rw (add-zero l, t, e) (record { low = omega arith; high = omega arith; words = f })
  string-at l (cs ∷ ss) {a} {b} (next (is-label t e) (next (is-string f g) c)) (suc k) h = let r = string-at (suc l) ss c k (omega arith) in
      rw (add-shift l k) (record { low = omega (arith, r.low); high = r.high; words = r.words })

  strings-apart : (l : ℕ) (ss : List (List ℕ)) {a b : ℕ} → Code Γ a (strings_code l ss) b → (i j : ℕ) → i < j → j < length ss
      → Γ.lab (l + i) + length (packed (get_or ss i [])) ≤ Γ.lab (l + j)
  unfolding strings_code
  strings-apart l [] c i j u h = absurd (omega arith)
  strings-apart l (cs ∷ ss) c i zero u h = absurd (omega arith)
  strings-apart l (cs ∷ ss) (next (is-label t e) (next (is-string f g) c)) zero (suc j) u h = let r = string-at (suc l) ss c j (omega arith) in
      rw (add-zero l, add-shift l j) (omega (arith, r.low))
  strings-apart l (cs ∷ ss) (next (is-label t e) (next (is-string f g) c)) (suc i) (suc j) u h =
      rw (add-shift l i, add-shift l j) (strings-apart (suc l) ss c i j (omega arith) (omega arith))

-- ---- the table has the labels

in-vacant : (k n : ℕ) → 1 ≤ n → defined (replicate k vacant) n ≡ false
unfolding defined
in-vacant zero n h = refl
in-vacant (suc k) n h = let z : 0 ≡ n → ⊥ = (λ e. omega arith) in rw (ne_eqb 0 n z) (in-vacant k n h)

table-defined : (ls : List Label) (k n : ℕ) → 1 ≤ n → defined (ls ++ replicate k vacant) n ≡ defined ls n
unfolding defined
table-defined [] k n h = in-vacant k n h
table-defined (l ∷ ls) k n h = rw (table-defined ls k n h) refl

-- ---- the rules

module _
    {fs : List Fun} {ss : List (List ℕ)} {memory room first : ℕ} {mem : List ℕ} {table : List Label}
    (b : Built fs ss memory room first mem table) where
  abbrev Γ : Env
  Γ = G.env [] b

  pub labelled : (n : ℕ) → 1 ≤ n → n ≤ length fs + length ss → defined table n ≡ true
  unfolding items_of
  labelled n l h = rw b.table_is (table-defined b.labels (room - length b.labels) n l ∙ laid-defined memory room place 416 2 [] b.lays)
    where
      place : In n (items_of fs ss)
      place = by_order (length fs) n (λ k. let z : suc (length fs) + (n - suc (length fs)) ≡ n = omega arith in
          in_right (functions_code (suc (length fs)) 1 (suc (length fs) + length ss) fs)
          (in_left _ (rw z at (in-strings (suc (length fs)) ss (n - suc (length fs)) (omega arith))))) (λ k. let z : 1 + (n - 1) ≡ n = omega arith in
          in_left _ (rw z at (in-functions (suc (length fs)) 1 (suc (length fs) + length ss) fs (n - 1) (omega arith))))

  up : Up memory room b.labels 1 416 (length fs)
  unfolding items_of
  up = functions-up memory room (suc (length fs)) 1 (suc (length fs) + length ss) fs _ 416 2 [] b.lays

  entry : (k : ℕ) → k < length fs → get_or (addresses_from table 1 (length fs)) k 0 ≡ address_of b.labels (1 + k)
  entry k l = G.addresses-at table 1 (length fs) k l ∙ G.same_address [] b (1 + k) (omega arith)

  string-entry : (k : ℕ) → k < length ss → get_or (addresses_from table (suc (length fs)) (length ss)) k 0 ≡ address_of b.labels (suc (length fs) + k)
  string-entry k l = G.addresses-at table (suc (length fs)) (length ss) k l ∙ G.same_address [] b (suc (length fs) + k) (omega arith)

  pub entries_differ : (i j : ℕ) → i < length fs → j < length fs
      → get_or (addresses_from table 1 (length fs)) i 0 ≡ get_or (addresses_from table 1 (length fs)) j 0 → i ≡ j
  entries_differ i j h k e = let q : address_of b.labels (1 + i) ≡ address_of b.labels (1 + j) = sym (entry i h) ∙ e ∙ entry j k in
      by_order i j (λ l. absurd (omega (arith, up.strict i j l k))) (λ l.
      by_order j i (λ m. absurd (omega (arith, up.strict j i m h))) (λ m. omega arith))

  pub entry-high : (i : ℕ) → i < length fs → 416 ≤ get_or (addresses_from table 1 (length fs)) i 0
  entry-high i h = rw (entry i h) (up.low i h)

  string-here : (i : ℕ) → i < length ss → StringAt mem (G.code_end [] b) (past (G.code_end [] b) (strings_code (suc (length fs)) ss))
      (get_or (addresses_from table (suc (length fs)) (length ss)) i 0) (packed (get_or ss i []))
  string-here i h = rw (string-entry i h) (string-at Γ (suc (length fs)) ss (G.standing [] b).strings i h)

  pub string-above : (i : ℕ) → i < length ss → 416 ≤ get_or (addresses_from table (suc (length fs)) (length ss)) i 0
  string-above i h = omega (arith, (string-here i h).low, past_more 416 (G.fcode [] b))

  pub string-below : (i : ℕ) → i < length ss → get_or (addresses_from table (suc (length fs)) (length ss)) i 0 + length (packed (get_or ss i [])) ≤ first
  string-below i h = omega (arith, (string-here i h).high, G.strings-first [] b)

  pub string-in-place : (i : ℕ) → i < length ss
      → take (length (packed (get_or ss i []))) (drop (get_or (addresses_from table (suc (length fs)) (length ss)) i 0) mem) ≡ packed (get_or ss i [])
  string-in-place i h = let n : ℕ = length (packed (get_or ss i [])) in
      let a : ℕ = get_or (addresses_from table (suc (length fs)) (length ss)) i 0 in
      let s = string-here i h in
      let d : length (drop a mem) ≡ length mem - a = length-drop a mem in
      let t : length (take n (drop a mem)) ≡ n = length-take-le n (drop a mem) (omega (arith, string-below i h, b.within, b.fills)) in
      ext_get_or 0 (take n (drop a mem)) (packed (get_or ss i [])) t
      (λ j l. get_or-take n (drop a mem) j 0 (omega arith) ∙ get_or-drop a mem j 0 ∙ s.words j (omega arith))

  pub string-apart : (i j : ℕ) → i < j → j < length ss
      → get_or (addresses_from table (suc (length fs)) (length ss)) i 0 + length (packed (get_or ss i [])) ≤ get_or
      (addresses_from table (suc (length fs)) (length ss)) j 0
  string-apart i j l h = rw (string-entry i (omega arith), string-entry j h) (strings-apart Γ (suc (length fs)) ss (G.standing [] b).strings i j l h)

module _ (source : List ℕ) (good : Good source) (memory room first : ℕ)
    (accepted : (assembled (text_of source) memory room).answer ≡ Ok first) where
  abbrev table : List Label
  table = (assembled (text_of source) memory room).table

  stands : Built (functions_in source) (strings_in source) memory room first (assembled (text_of source) memory room).memory table
  unfolding text_of
  stands = built (functions_in source) (strings_in source) memory room first good.sound accepted

  entries-count : length (addresses_from table 1 (length (functions_in source))) ≡ length (functions_in source)
  entries-count = G.addresses-length table 1 (length (functions_in source))

  strings-count : length (addresses_from table (suc (length (functions_in source))) (length (strings_in source))) ≡ length (strings_in source)
  strings-count = G.addresses-length table (suc (length (functions_in source))) (length (strings_in source))

  -- the placement, wherever the text is assembled
  pub well_placed : WellPlaced source (placement_of source table first) table (assembled (text_of source) memory room).memory
  well_placed = record {
    labelled = labelled stands;
    entries_differ = λ i j h k e. entries_differ stands i j (omega (arith, entries-count)) (omega (arith, entries-count)) e;
    not_read = λ i h e. let l = entry-high stands i (omega (arith, entries-count)) in omega arith;
    not_write = λ i h e. let l = entry-high stands i (omega (arith, entries-count)) in omega arith;
    above = λ i h. string-above stands i (omega (arith, strings-count));
    below = λ i h. string-below stands i (omega (arith, strings-count));
    in_place = λ i h. string-in-place stands i (omega (arith, strings-count));
    apart = λ i j l h. inl (string-apart stands i j l (omega (arith, strings-count)));
  }
