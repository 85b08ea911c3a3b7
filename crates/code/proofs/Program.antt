-- A whole program in an accepted image: its labels' addresses, its functions' code, its strings' words, its globals.
use Rattle.laws.proofs.Basics.{ℕ, zero, suc, ◌+◌, ◌-◌, ◌*◌, ◌<◌, ◌≤◌, ◌≡◌, refl, sym, ap, ◌∙◌, List, [], ◌∷◌, ◌++◌, append_assoc, Bool, true, false}
use Rattle.laws.proofs.Basics.{cond, some, length, get_or, set, replicate, length-append, length-set, List·getD-append, get_or-append-add, eqb, ltb}
use Rattle.laws.proofs.Basics.{leb, add-zero, arith, eqb-true, ne_eqb, ltb-true, lt-ltb, le-ltb, le-leb, lt-leb, add-shift}
use Rattle.laws.proofs.Cases.{by_cases, by_order, by_cond, contradiction}
use Rattle.items.specs.Item as I
use Rattle.items.specs.Item.{Item, label, instruction, constant, string, global}
use Rattle.items.specs.Scan.{scan, whole}
use Rattle.items.specs.Render.{render, render_all}
use Rattle.items.proofs.Rendered.{AllSound, places, rendered}
use Rattle.assembler.specs.Words.{size, indirect_bit, base_bit}
use Rattle.assembler.specs.declared.Label.{Label}
use Rattle.assembler.specs.Layout.{vacant, address_of}
use Rattle.assembler.specs.Assemble.{start, globals_after, globals, program, image, accept, Assembly, assembled}
use Rattle.words.specs.Globals.{no_globals}
use Rattle.std.specs.Prelude.{Ok}
use Rattle.assembler.proofs.Acceptance.{Acceptance, acceptance, Proper}
use Rattle.language.specs.Resolved.{Fun, Start, nowhere, in_global}
use Rattle.language.specs.Run.{position_of, no_fun}
use Rattle.language.specs.Whole.{with_entry, globals_with}
use Rattle.code.specs.Faithful.{addresses_from}
use Rattle.code.specs.Generate.{X, body_code, body_labels, functions_code, strings_code, starts_code, start_in, items_of}
use Rattle.code.proofs.Standing.{Env, At, Code, end, next, is_number, is-label, is-string, cut, cut-number, cut-label, code-append}
use Rattle.code.proofs.Placing.{Spot, Lays, laid_code, past, past_more, past-both, lays-end, Coded, AllCoded, at-short}
use Rattle.code.proofs.Measures.{sum, no-others}
use Rattle.code.proofs.Steps.{Sized}
use Rattle.language.proofs.Formed.{FormedF}
use Rattle.code.proofs.Goals.{Entered, Fits}

-- ---- labels and the table

address-near : (memory : ℕ) (ls : List Label) (n : ℕ) → Proper memory ls → address_of ls n ≤ memory
unfolding Proper address_of
address-near memory [] n p = omega arith
address-near memory (l ∷ ls) n p = by_cond (λ a. a ≤ memory) (eqb l.number n) p.3 (address-near memory ls n p.4)

no_address : (k n : ℕ) → 1 ≤ n → address_of (replicate k vacant) n ≡ 0
unfolding address_of
no_address zero n h = refl
no_address (suc k) n h = let z : 0 ≡ n → ⊥ = (λ e. omega arith) in rw (ne_eqb 0 n z) (no_address k n h)

table-address : (ls : List Label) (k n : ℕ) → 1 ≤ n → address_of (ls ++ replicate k vacant) n ≡ address_of ls n
unfolding address_of
table-address [] k n h = no_address k n h
table-address (l ∷ ls) k n h = rw (table-address ls k n h) refl

pub addresses-at : (table : List Label) (n c k : ℕ) → k < c → get_or (addresses_from table n c) k 0 ≡ address_of table (n + k)
unfolding addresses_from
addresses-at table n zero k l = absurd (omega arith)
addresses-at table n (suc c) zero l = rw (add-zero n) refl
addresses-at table n (suc c) (suc k) l = rw (add-shift n k) (addresses-at table (suc n) c k (omega arith))

pub addresses-length : (table : List Label) (n c : ℕ) → length (addresses_from table n c) ≡ c
unfolding addresses_from
addresses-length table n zero = refl
addresses-length table n (suc c) = ap suc (addresses-length table (suc n) c)

-- an entry's position
record Found (v : ℕ) (es : List ℕ) (i k : ℕ) : Type 0 where
  at : ℕ
  is : k ≡ i + at
  within : at < length es
  entry : get_or es at 0 ≡ v

position-found : (v : ℕ) (es : List ℕ) (i k : ℕ) → position_of v es i ≡ some k → Found v es i k
unfolding position_of
position-found v [] i k h = contradiction cc
position-found v (a ∷ es) i k h = by_cases (eqb v a) (λ e. let f : some i ≡ some k = rw e at h in let z : i ≡ k = cc in
    record { at = 0; is = omega arith; within = omega arith; entry = sym (eqb-true v a e) })
    (λ e. let x = position-found v es (suc i) k (rw e at h) in
    record { at = suc x.at; is = omega (arith, x.is); within = omega (arith, x.within); entry = x.entry })

-- ---- globals

unfoldable globals_items : List Label → List ℕ → List Item → List ℕ
globals_items labels gs [] = gs
globals_items labels gs (x ∷ xs) = globals_items labels (globals_after labels gs x) xs

globals-items : (labels : List Label) (gs : List ℕ) (p : ℕ) (xs : List Item) → globals labels gs (places p xs) ≡ globals_items labels gs xs
unfolding globals places globals_items
globals-items labels gs p [] = refl
globals-items labels gs p (x ∷ xs) = globals-items labels (globals_after labels gs x) (p + length (render x) + 1) xs

globals-both : (labels : List Label) (gs : List ℕ) (xs ys : List Item)
    → globals_items labels gs (xs ++ ys) ≡ globals_items labels (globals_items labels gs xs) ys
unfolding globals_items
globals-both labels gs [] ys = refl
globals-both labels gs (x ∷ xs) ys = globals-both labels (globals_after labels gs x) xs ys

globals-plain : (labels : List Label) (gs : List ℕ) (xs : List Item) → sum 0 (λ _. 1) 1 (λ _. 0) xs ≤ 0 → globals_items labels gs xs ≡ gs
unfolding globals_items globals_after sum
globals-plain labels gs [] h = refl
globals-plain labels gs (label n ∷ xs) h = globals-plain labels gs xs (omega arith)
globals-plain labels gs (instruction f i b x ∷ xs) h = globals-plain labels gs xs (omega arith)
globals-plain labels gs (constant x ∷ xs) h = globals-plain labels gs xs (omega arith)
globals-plain labels gs (string cs ∷ xs) h = absurd (omega arith)
globals-plain labels gs (global n m ∷ xs) h = absurd (omega arith)

globals-strings : (labels : List Label) (gs : List ℕ) (l : ℕ) (ss : List (List ℕ)) → globals_items labels gs (strings_code l ss) ≡ gs
unfolding globals_items globals_after strings_code
globals-strings labels gs l [] = refl
globals-strings labels gs l (cs ∷ ss) = globals-strings labels gs (suc l) ss

globals-starts : (labels : List Label) (table : List Label) → ((n : ℕ) → 1 ≤ n → address_of table n ≡ address_of labels n)
    → (gs : List ℕ) (l : ℕ) (fs : List Fun) → 1 ≤ l
    → globals_items labels gs (starts_code l fs) ≡ globals_with fs (addresses_from table l (length fs)) gs
unfolding globals_items globals_after starts_code globals_with addresses_from
globals-starts labels table same gs l [] h = refl
globals-starts labels table same gs l (f ∷ fs) h = go f.start (λ gs. globals-starts labels table same gs (suc l) fs (omega arith))
  where
    go : (s : Start) → ((gs : List ℕ) → globals_items labels gs (starts_code (suc l) fs) ≡ globals_with fs (addresses_from table (suc l) (length fs)) gs)
        → globals_items labels gs (start_in s l (starts_code (suc l) fs)) ≡ globals_with fs (addresses_from table (suc l) (length fs))
        (with_entry s (address_of table l) gs)
    go nowhere f = f gs
    go (in_global n) f = rw (same l h) (f (set gs n (address_of labels l)))

length-globals : (labels : List Label) (gs : List ℕ) (xs : List Item) → length (globals_items labels gs xs) ≡ length gs
unfolding globals_items globals_after
length-globals labels gs [] = refl
length-globals labels gs (x ∷ xs) = length-globals labels (globals_after labels gs x) xs ∙ one x
  where
    one : (x : Item) → length (globals_after labels gs x) ≡ length gs
    one (label n) = refl
    one (instruction f i b o) = refl
    one (constant o) = refl
    one (string cs) = refl
    one (global n m) = length-set gs n (address_of labels m)

-- ---- functions' code

module _ (Γ : Env) where
  pub record FunctionAt (strings a : ℕ) (f : Fun) : Type 0 where
    pub labels : ℕ
    pub end : ℕ
    pub code : Code Γ a (body_code strings (2 + f.parameters) labels f.body ++ (X 4 ∷ [])) end

  pub function-at : (strings : ℕ) (fs : List Fun) (l n k : ℕ) {a b : ℕ} → Code Γ a (functions_code strings l n fs) b → k < length fs
      → FunctionAt strings (Γ.lab (l + k)) (get_or fs k no_fun)
  unfolding functions_code
  function-at strings [] l n k c h = absurd (omega arith)
  function-at strings (f ∷ fs) l n zero c h = cut-label Γ c λ e c₀.
      cut Γ (body_code strings (2 + f.parameters) n f.body) _ c₀ λ b₁ c₁ c₂.
      cut-number Γ c₂ λ b₃ i₃ c₃.
      rw (add-zero l, e) (record { labels = n; end = b₃; code = code-append Γ c₁ (next (is_number i₃) (end refl)) })
  function-at strings (f ∷ fs) l n (suc k) c h = cut-label Γ c λ e c₀.
      cut Γ (body_code strings (2 + f.parameters) n f.body) _ c₀ λ b₁ c₁ c₂.
      cut-number Γ c₂ λ b₃ i₃ c₃.
      rw (add-shift l k) (function-at strings fs (suc l) (n + body_labels f.body) k c₃ (omega arith))

  -- strings are laid upwards
  pub strings-up : (l : ℕ) (ss : List (List ℕ)) {a b : ℕ} → Code Γ a (strings_code l ss) b → a ≤ b
  unfolding strings_code
  strings-up l [] (end e) = omega arith
  strings-up l (cs ∷ ss) (next (is-label t e) (next (is-string f g) k)) = let h = strings-up (suc l) ss k in omega arith

-- ---- what an accepted text gives

pub record Built (fs : List Fun) (ss : List (List ℕ)) (memory room first : ℕ) (mem : List ℕ) (table : List Label) : Type 0 where
  pub labels : List Label
  pub lays : Lays memory room 416 [] (places 2 (items_of fs ss)) labels first
  pub image-is : mem ≡ image memory labels (places 2 (items_of fs ss)) first
  pub table_is : table ≡ labels ++ replicate (room - length labels) vacant
  pub proper : Proper memory labels
  pub least : 512 ≤ memory
  pub most : memory ≤ 32768
  pub past-start : 416 ≤ first
  pub within : first ≤ memory
  pub fills : length mem ≡ memory

pub built : (fs : List Fun) (ss : List (List ℕ)) (memory room first : ℕ) → AllSound (items_of fs ss)
    → (assembled (render_all (items_of fs ss)) memory room).answer ≡ Ok first
    → Built fs ss memory room first (assembled (render_all (items_of fs ss)) memory room).memory
    (assembled (render_all (items_of fs ss)) memory room).table
unfolding accept
built fs ss memory room first sound h =
    let a : Acceptance (render_all (items_of fs ss)) memory room first = acceptance (render_all (items_of fs ss)) memory room h in
    let r : scan (render_all (items_of fs ss)) ≡ record { items = places 2 (items_of fs ss); ending = whole } = rendered (items_of fs ss) sound in
    let e = rw r at a.accepts in
    record {
      labels = a.labels;
      lays = record { is = rw r at a.lays };
      image-is = ap (λ (x : Assembly). x.memory) e;
      table_is = ap (λ (x : Assembly). x.table) e;
      proper = a.proper;
      least = a.least;
      most = a.most;
      past-start = a.past-start;
      within = a.within;
      fills = a.fills;
    }

module _
    {fs : List Fun} {ss : List (List ℕ)} {memory room first : ℕ} {mem : List ℕ} {table : List Label} (input : List ℕ)
    (b : Built fs ss memory room first mem table) where
  abbrev pub fcode : List Item
  fcode = functions_code (suc (length fs)) 1 (suc (length fs) + length ss) fs

  abbrev pub rest : List Item
  rest = strings_code (suc (length fs)) ss ++ starts_code 1 fs

  -- where the functions' code ends
  abbrev pub code_end : ℕ
  code_end = past 416 fcode

  abbrev pub entries : List ℕ
  entries = addresses_from table 1 (length fs)

  abbrev pub env : Env
  env = record {
    input = input;
    image = mem;
    is_code = λ x. cond (ltb x 16) true (cond (leb 416 x) (ltb x code_end) false);
    limit = memory - 8;
    lab = address_of b.labels;
    functions = fs;
    place = record { entries = entries; strings = addresses_from table (suc (length fs)) (length ss); first = first };
  }

  pub code_end-first : code_end ≤ first
  unfolding items_of
  code_end-first = let e : past 416 (fcode ++ rest) ≡ first = lays-end memory room 416 2 [] (fcode ++ rest) b.lays in
      omega (arith, e, past-both 416 fcode rest, past_more code_end rest)

  pub strings-first : past code_end (strings_code (suc (length fs)) ss) ≤ first
  unfolding items_of
  strings-first = let e : past 416 (fcode ++ rest) ≡ first = lays-end memory room 416 2 [] (fcode ++ rest) b.lays in
      let ws : List Item = strings_code (suc (length fs)) ss in
      omega (arith, e, past-both 416 fcode rest, past-both code_end ws (starts_code 1 fs), past_more (past code_end ws) (starts_code 1 fs))

  pub same_address : (n : ℕ) → 1 ≤ n → address_of table n ≡ address_of b.labels n
  same_address n h = rw b.table_is (table-address b.labels (room - length b.labels) n h)

  pub globals-are : globals b.labels no_globals (places 2 (items_of fs ss)) ≡ globals_with fs entries no_globals
  unfolding items_of
  globals-are = globals-items b.labels no_globals 2 (fcode ++ rest) ∙ globals-both b.labels no_globals fcode rest
      ∙ ap (λ (gs : List ℕ). globals_items b.labels gs rest)
      (globals-plain b.labels no_globals fcode (no-others (suc (length fs)) 1 (suc (length fs) + length ss) fs))
      ∙ globals-both b.labels no_globals (strings_code (suc (length fs)) ss) (starts_code 1 fs)
      ∙ ap (λ (gs : List ℕ). globals_items b.labels gs (starts_code 1 fs)) (globals-strings b.labels no_globals (suc (length fs)) ss)
      ∙ globals-starts b.labels table same_address no_globals 1 fs (omega arith)

  abbrev pub globals_now : List ℕ
  globals_now = globals b.labels no_globals (places 2 (items_of fs ss))

  four-hundred : length globals_now ≡ 400
  unfolding no_globals
  four-hundred = ap length (globals-items b.labels no_globals 2 (items_of fs ss)) ∙ length-globals b.labels no_globals (items_of fs ss)

  image-split : mem ≡ start ++ (globals_now ++ (program b.labels (places 2 (items_of fs ss)) ++ replicate (memory - first) 0))
  unfolding image
  image-split = b.image-is ∙ append_assoc (start ++ globals_now) (program b.labels (places 2 (items_of fs ss))) (replicate (memory - first) 0)
      ∙ append_assoc start globals_now (program b.labels (places 2 (items_of fs ss)) ++ replicate (memory - first) 0)

  spot : Spot b.labels mem 416 (places 2 (items_of fs ss))
  spot = record {
    front = start ++ globals_now;
    rest = replicate (memory - first) 0;
    is = image-split ∙ sym (append_assoc start globals_now (program b.labels (places 2 (items_of fs ss)) ++ replicate (memory - first) 0));
    size = omega (arith, length-append start globals_now, four-hundred);
  }

  -- a global's word at the start
  pub global-word : (n : ℕ) → n < 400 → get_or mem (16 + n) 0 ≡ get_or (globals_with fs entries no_globals) n 0
  global-word n l =
      rw image-split (get_or-append-add start (globals_now ++ (program b.labels (places 2 (items_of fs ss)) ++ replicate (memory - first) 0)) n 0
      ∙ List·getD-append globals_now (program b.labels (places 2 (items_of fs ss)) ++ replicate (memory - first) 0) 0 n (omega (arith, four-hundred))
      ∙ ap (λ (gs : List ℕ). get_or gs n 0) globals-are)

  in_code : (x : ℕ) → 416 ≤ x → x < code_end → env.is_code x ≡ true
  in_code x l h = rw (le-ltb x 16 (omega arith), le-leb 416 x l, lt-ltb x code_end h) refl

  pub code_below : (x : ℕ) → env.is_code x ≡ true → x < first
  code_below x h = by_order x 16 (λ l. omega (arith, b.past-start)) (λ l.
      by_order x 416 (λ m. let z : false ≡ true = rw (le-ltb x 16 l, lt-leb 416 x m) at h in contradiction cc) (λ m.
      omega (arith, ltb-true x code_end (rw (le-ltb x 16 l, le-leb 416 x m) at h), code_end-first)))

  near : (n : ℕ) → address_of b.labels n < 65536
  near n = omega (arith, address-near memory b.labels n b.proper, b.most)

  len : length mem ≤ 32768
  len = omega (arith, b.fills, b.most)

  abbrev Coded-here : ℕ → Item → Type 0
  Coded-here at x = Coded memory room env b.labels (λ n. refl) near len at x

  all_coded : (at : ℕ) (xs : List Item) → 416 ≤ at → past at xs ≤ code_end → AllCoded memory room env b.labels (λ n. refl) near len at xs
  unfolding past size
  all_coded at [] l h = tt
  all_coded at (x ∷ xs) l h = (one x (omega (arith, past_more (at + size x) xs)), all_coded (at + size x) xs (omega arith) h)
    where
      inside : (j k : ℕ) → at + k ≤ code_end → j < k → (env.is_code (at + j) ≡ true) × (at + j < length mem)
      inside j k m i = (in_code (at + j) (omega arith) (omega arith), omega (arith, code_end-first, b.within, b.fills))

      one : (x : Item) → at + size x ≤ code_end → Coded-here at x
      one (label n) m = tt
      one (instruction f i base o) m = λ j k. inside j (size (instruction f i base o)) m k
      one (constant o) m = λ j k. inside j 1 m k
      one (string cs) m = tt
      one (global n o) m = tt

  strings-coded : (at l : ℕ) (cs : List (List ℕ)) → AllCoded memory room env b.labels (λ n. refl) near len at (strings_code l cs)
  unfolding strings_code
  strings-coded at l [] = tt
  strings-coded at l (c ∷ cs) = (tt, (tt, strings-coded (at + size (label l) + size (string c)) (suc l) cs))

  -- the functions' code and the strings
  pub record Standing : Type 0 where
    pub functions : Code env 416 fcode code_end
    pub strings : Code env code_end (strings_code (suc (length fs)) ss) (past code_end (strings_code (suc (length fs)) ss))

  pub standing : Standing
  unfolding items_of
  standing =
      laid_code memory room env b.labels (λ n. refl) near len fcode rest 2 416 [] b.lays spot (all_coded 416 fcode (omega arith) (omega arith))
      λ p ls k h s.
      laid_code memory room env b.labels (λ n. refl) near len (strings_code (suc (length fs)) ss) (starts_code 1 fs) p code_end ls h s
      (strings-coded code_end (suc (length fs)) ss)
      λ p' ls' k' h' s'. record { functions = k; strings = k' }

  -- the words 0 to 7
  low_word : (n : ℕ) → n < 16 → get_or mem n 0 ≡ get_or start n 0
  low_word n l =
      rw image-split (List·getD-append start (globals_now ++ (program b.labels (places 2 (items_of fs ss)) ++ replicate (memory - first) 0)) 0 n l)

  low-at : (f x : ℕ) (i : Bool) (base : I.Base) (at : ℕ) → at < 16 → x < 512
      → get_or start at 0 ≡ f * 8192 + indirect_bit i + base_bit base + x → At env at f i base x (suc at)
  low-at f x i base at l k e = let z : at + 0 ≡ at = omega arith in
      let c : env.is_code (at + 0) ≡ true = rw (z, lt-ltb at 16 l) refl in
      at-short memory room env b.labels (λ n. refl) near len f x i base k (c, omega (arith, b.fills, b.least)) (rw z (low_word at l ∙ e))

  pub start-0 : At env 0 0 true I.G 1 1
  start-0 = low-at 0 1 true I.G 0 (omega arith) (omega arith) refl

  pub start-1 : At env 1 6 false I.none 2 2
  start-1 = low-at 6 2 false I.none 1 (omega arith) (omega arith) refl

  pub start-2 : At env 2 7 false I.none 22 3
  start-2 = low-at 7 22 false I.none 2 (omega arith) (omega arith) refl

  pub sized : Sized env
  sized = record { slack = omega (arith, b.fills, b.least); most = len }

  strings-count : length env.place.strings ≡ length ss
  strings-count = addresses-length table (suc (length fs)) (length ss)

  pub fits : ((k : ℕ) → k < length fs → FormedF (length fs) (length ss) (2 + (get_or fs k no_fun).parameters) (get_or fs k no_fun).body) → Fits env
  fits formed = record {
    sized = sized;
    entered = enters;
    functions = λ k h. sym (addresses-at table 1 (length fs) k h ∙ same_address (1 + k) (omega arith) ∙ ap (address_of b.labels) (omega arith));
    strings = λ k h. let l : k < length ss = omega (arith, strings-count) in
        sym (addresses-at table (suc (length fs)) (length ss) k l ∙ same_address (suc (length fs) + k) (omega arith));
    rdch = (
      5,
      next (is_number (low-at 7 27 false I.none 3 (omega arith) (omega arith) refl))
          (next (is_number (low-at 7 4 false I.none 4 (omega arith) (omega arith) refl)) (end refl)),
    );
    wrch = (
      8,
      next (is_number (low-at 0 2 true I.P 5 (omega arith) (omega arith) refl))
          (next (is_number (low-at 7 28 false I.none 6 (omega arith) (omega arith) refl))
          (next (is_number (low-at 7 4 false I.none 7 (omega arith) (omega arith) refl)) (end refl))),
    );
  }
    where
      enters : (v k : ℕ) → position_of v entries 0 ≡ some k → Entered env v k
      enters v k h = let x = position-found v entries 0 k h in
          let l : k < length fs = omega (arith, x.is, x.within, addresses-length table 1 (length fs)) in
          let z : x.at ≡ k = omega (arith, x.is) in
          let e : address_of b.labels (1 + k) ≡ v
          = sym (same_address (1 + k) (omega arith)) ∙ sym (addresses-at table 1 (length fs) k l) ∙ (rw z at x.entry) in
          let f : FunctionAt env (suc (length fs)) (address_of b.labels (1 + k)) (get_or fs k no_fun)
          = function-at env (suc (length fs)) fs 1 (suc (length fs) + length ss) k standing.functions l in
          record { labels = f.labels; end = f.end; code = rw e at f.code; formed = rw strings-count (formed k l) }
