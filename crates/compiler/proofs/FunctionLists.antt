-- The functions of a group, one after another: what each adds to the faults, the code and the heights, and the loop.
use Rattle.laws.proofs.Basics.{ℕ, suc, ◌+◌, ◌*◌, ◌^◌, ◌<◌, ◌≤◌, ◌≡◌, refl, sym, ap, subst, ◌∙◌, List, [], ◌∷◌, ◌++◌, append_assoc, append-nil, cond}
use Rattle.laws.proofs.Basics.{min, length, get_or, length-append, ltb, arith, lt-ltb, le-ltb}
use Rattle.laws.proofs.Cases.{either}
use Rattle.items.specs.Item as I
use Rattle.compiler.proofs.Language.{Function, Scope, lookup, Fault, fault, Fun, Start, heights_of, greatest, largest_height, FineFunctions}
use Rattle.compiler.proofs.Language.{functions_depth, encode_name, encode_names, encode_body, body_word, encode_functions}
use Rattle.language.specs.Program.{Named, start_of, with_function, resolved, function_faults, group_faults, group_of, height_faults}
use Rattle.language.specs.Whole.{funs}
use Rattle.code.specs.Generate as G
use Rattle.compiler.proofs.Vocabulary.{Did, Code, least, AllFit, no_fit, Holds, State, Here, encode_function, function_depth, FineF, FineFs}
use Rattle.compiler.proofs.Vocabulary.{function_says, functions_says, inner_labels, ReadyF, GaveF, ReadyFs, GaveFs, Yields}
use Rattle.compiler.specs.declared.program.Done.{Done}
use Rattle.compiler.proofs.Common.{and, keeps-shows, least-then, fit_then, fault-fits, nil-left, nil-right, did_none, did_then, did-as}
use Rattle.compiler.proofs.Common.{same_refl, code_is, keeps-lies, Rest, rest_all, taken-sizes, rest-next}
use Rattle.compiler.proofs.Done.{step-min}
use Rattle.compiler.proofs.GroupLaws.{IsFunction, is-function, no-function}

-- ---- the least 16

module _ (tall high place : ℕ) where
  pub tall_new : {r : ℕ} → 8192 < high → r ≡ min tall (place * 32 + 16) → r ≡ least tall (cond (ltb 8192 high) (fault place 16) [])
  unfolding least
  tall_new h e = e ∙ rw (lt-ltb 8192 high h) (sym (step-min (place * 32 + 16) tall))

  pub tall_low : high ≤ 8192 → tall ≡ least tall (cond (ltb 8192 high) (fault place 16) [])
  unfolding least
  tall_low l = rw (le-ltb 8192 high l)

-- ---- one list after another

pub funs-then : (gs hs : List Named) → funs (gs ++ hs) ≡ funs gs ++ funs hs
unfolding funs
funs-then [] hs = refl
funs-then (g ∷ gs) hs = rw (funs-then gs hs)

pub funs-long : (gs : List Named) → length (funs gs) ≡ length gs
unfolding funs
funs-long [] = refl
funs-long (g ∷ gs) = ap suc (funs-long gs)

pub heights-then : (gs hs : List Named) → height_faults (gs ++ hs) ≡ height_faults gs ++ height_faults hs
unfolding height_faults
heights-then [] hs = refl
heights-then (g ∷ gs) hs = let a = cond (ltb 8192 (largest_height g.fun)) (fault g.name.place 16) [] in simp (heights-then gs hs, append_assoc)

labels-then : (fs gs : List Fun) → inner_labels (fs ++ gs) ≡ inner_labels fs + inner_labels gs
unfolding inner_labels
labels-then [] gs = omega arith
labels-then (f ∷ fs) gs = omega (arith, labels-then fs gs)

code-then : (strings l n : ℕ) (fs gs : List Fun) {k m : ℕ} → k ≡ l + length fs → m ≡ n + inner_labels fs
    → G.functions_code strings l n (fs ++ gs) ≡ G.functions_code strings l n fs ++ G.functions_code strings k m gs
unfolding G.functions_code inner_labels
code-then strings l n [] gs {k} {m} a b = let p : l ≡ k = omega arith in let q : n ≡ m = omega arith in rw (p, q)
code-then strings l n (f ∷ fs) gs {k} {m} a b = let c = G.body_code strings (2 + f.parameters) n f.body in let n' = n + G.body_labels f.body in
    ap (λ (z : List I.Item). I.label l ∷ c ++ (G.X 4 ∷ z)) (code-then strings (suc l) n' fs gs (omega arith) (omega arith)) ∙ ap
    (λ (z : List I.Item). I.label l ∷ z) (sym (append_assoc c (G.X 4 ∷ G.functions_code strings (suc l) n' fs) (G.functions_code strings k m gs)))

pub says_then : (strings l n : ℕ) (gs hs : List Named) {k : ℕ} → k ≡ l + length gs
    → and (functions_says strings l (funs gs)) (functions_says strings k (funs hs)) n ≡ functions_says strings l (funs (gs ++ hs)) n
says_then strings l n gs hs {k} e = let f = funs gs in let h = funs hs in
    code_is (sym (ap (G.functions_code strings l n) (funs-then gs hs) ∙ code-then strings l n f h (omega (arith, funs-long gs)) refl)) refl
    (sym (ap inner_labels (funs-then gs hs) ∙ labels-then f h))

-- ---- what was done: nothing, then one part after another

pub yields_none : (strings l : ℕ) {t : List ℕ} {d : Done} → Yields strings l [] [] 0 t t d d
unfolding funs G.functions_code inner_labels height_faults least
yields_none strings l = record { did = did_none 0; tall = λ e. refl; fits = no_fit }

pub yields-then : {strings l : ℕ} (k : ℕ) {fs fs' : List Fault} {gs gs' : List Named} {m m' : ℕ} {t t₁ t₂ : List ℕ} {d d₁ d₂ : Done}
    → k ≡ l + length gs
    → Yields strings l fs gs m t t₁ d d₁ → Yields strings k fs' gs' m' t₁ t₂ d₁ d₂ → Yields strings l (fs ++ fs') (gs ++ gs') (m + m') t t₂ d d₂
yields-then {strings} {l} k {fs} {fs'} {gs} {gs'} {m} {m'} {t} {t₁} {t₂} {d} {d₁} {d₂} e x y = record {
  did = did-as (functions_says strings l (funs (gs ++ gs'))) (m + m') (did_then x.did y.did) same_refl (λ n c. says_then strings l n gs gs' e)
      (omega arith);
  tall = λ c. let i = y.tall (nil-right fs fs' c) in let j = x.tall (nil-left fs fs' c) in
      rw (i, j, least-then d.tall (height_faults gs) (height_faults gs'), heights-then gs gs');
  fits = subst AllFit (sym (heights-then gs gs')) (fit_then x.fits y.fits);
}

pub yields-as : {strings l : ℕ} {fs fs' : List Fault} {gs gs' : List Named} {m : ℕ} (m' : ℕ) {t t' : List ℕ} {d d' : Done} → fs ≡ fs' → gs ≡ gs'
    → m ≤ m' → Yields strings l fs gs m t t' d d' → Yields strings l fs' gs' m' t t' d d'
yields-as {strings} {l} {fs} {fs'} {gs} m' {t} {t'} {d} {d'} a b c x = rw (← a) (rw (← b)
    (record { did = did-as (functions_says strings l (funs gs)) m' x.did same_refl (λ n e. refl) c; tall = x.tall; fits = x.fits }))

-- ---- the height is taken away

abbrev pub flat : State → State
flat st = record { at = st.at; label = st.label; worst = st.worst; high = 0 }

pub did-flat : {fs : List Fault} {code : ℕ → Code} {m : ℕ} {t t' : List ℕ} {st a r : State} → st.high ≡ 0 → r ≡ flat a → Did fs code m t t' st a
    → Did fs (λ n. record { items = (code n).items; heights = []; labels = (code n).labels }) m t t' st r
unfolding greatest
did-flat low e x = rw e (record {
  worst = x.worst;
  fits = x.fits;
  few = x.few;
  grows = x.grows;
  clean = λ c. let w = x.clean c in record { text = w.text; high = sym low; label = w.label };
})

-- ---- one function

abbrev named_by : (text : List ℕ) (sc : Scope) (start : Start) → Function → Named
named_by text sc start f = record { name = f.name; fun = resolved text sc start f }

pub yields-one : (text : List ℕ) (sc : Scope) (start : Start) (strings l : ℕ) (f : Function) {m tall tall' place : ℕ} {t t' : List ℕ} {st a r : State}
    → Did (function_faults text sc f) (function_says text strings l sc f) m t t' st a → st.high ≡ 0 → r ≡ flat a → place ≡ f.name.place → place < 2 ^
    32 → tall' ≡ least tall (cond (ltb 8192 a.high) (fault place 16) []) → Yields strings l (function_faults text sc f)
    (named_by text sc start f ∷ []) m t t' (record { tall = tall; state = st }) (record { tall = tall'; state = r })
unfolding funs G.functions_code inner_labels height_faults largest_height heights_of resolved
yields-one text sc start strings l f {m} {tall} {tall'} {place} {t} {t'} {st} {a} {r} x low e ep small et =
    let g = named_by text sc start f in let hf : ℕ → List Fault = λ h. cond (ltb 8192 h) (fault f.name.place 16) [] in
    record {
      did = did-as (functions_says strings l (funs (g ∷ []))) m (did-flat low e x) same_refl (λ n c. code_is refl refl (omega arith)) (omega arith);
      tall = λ c. let q : a.high ≡ largest_height g.fun = rw ((x.clean c).high, low) in simp (et, ep, q, append-nil);
      fits = fit_then (either AllFit (ltb 8192 (largest_height g.fun)) (λ _. fault-fits (omega arith)) (λ _. no_fit)) no_fit;
    }

-- ---- the size of a function

pub functions-step : (f : Function) (fs : List Function) → 10 + length (encode_functions fs) ≤ length (encode_functions (f ∷ fs))
unfolding encode_functions encode_name
functions-step f fs = let ns = encode_names f.parameters in let w = encode_name f.name ++ (ns ++ encode_body f.body) in
    omega (arith, length-append (encode_function f) (encode_functions fs), length-append w (length w ∷ length ns ∷ 0 ∷ body_word f.body ∷ []))

pub functions-long : (fs : List Function) → 10 * length fs ≤ length (encode_functions fs)
functions-long [] = omega arith
functions-long (f ∷ fs) = omega (arith, functions-long fs, functions-step f fs)

-- its name stands first
function-place : {s : List ℕ} {lo : ℕ} (f : Function) → Holds s lo (encode_function f) → get_or s (lo + 2) 0 ≡ f.name.place
unfolding encode_name
function-place f h = h.at 2 (omega arith)

-- ---- the loop

module _ (text t₀ : List ℕ) {s₀ : List ℕ} {from end : ℕ} {here : Here} (label : ℕ) (d₀ : Done) where
  -- `rest` is left at `at`; the functions before it are `made`, with their faults
  pub record GroupPart (y : ReadyFs s₀ from end here d₀) (before : Scope) (k : ℕ) (s t : List ℕ) (at l : ℕ) (d : Done) : Type 0 where
    pub left : Rest encode_functions y.base here.top s₀ s end at
    pub found : List Fault
    pub made : List Named
    pub scope : Scope
    pub number : ℕ
    pub used : ℕ
    pub bounds : (l ≡ label + length made) × (0 < d.state.label) × (functions_depth left.rest ≤ here.left) × (length made ≤ used)
        × (used + length (encode_functions left.rest) ≤ length (encode_functions y.functions))
        × (here.top * 2 + length (encode_functions left.rest) + 2 ≤ y.base * 2 + 4 * length left.rest)
    pub low : d.state.high ≡ 0
    pub fine : FineFs left.rest
    pub faults-are : found ++ group_faults text y.scope left.rest ≡ group_faults text y.scope y.functions
    pub made-are : made ++ group_of text number scope y.scope left.rest ≡ group_of text k before y.scope y.functions
    pub yields : Yields here.strings label found made (2 * used) t₀ t d₀ d

  pub group-begin : (y : ReadyFs s₀ from end here d₀) (before : Scope) (k : ℕ) → GroupPart y before k s₀ t₀ from label d₀
  group-begin y before k = record {
    left = rest_all y.functions y.lies y.ends y.above;
    found = [];
    made = [];
    scope = before;
    number = k;
    used = 0;
    bounds = omega arith;
    low = y.low;
    fine = y.fine;
    faults-are = refl;
    made-are = refl;
    yields = yields_none here.strings label;
  }

  module _ {s t : List ℕ} {at l size next : ℕ} {d : Done} (lt : at < end) (es : size ≡ get_or s at 0) (en : next ≡ at + 2 + size)
      (y : ReadyFs s₀ from end here d₀) {before : Scope} {k : ℕ} (p : GroupPart y before k s t at l d) where
    abbrev pub group-one : IsFunction s₀ at end p.left.rest
    group-one = is-function p.left.rest p.left.lies p.left.ends lt

    -- its size, what it takes, and how deep it is
    pub group-sizes : let u = group-one in ((size ≡ length (encode_function u.part))
        × (length (encode_functions p.left.rest) ≡ 2 + length (encode_function u.part) + length (encode_functions u.more)))
        × (length p.left.rest ≡ suc (length u.more)) × (function_depth u.part ≤ here.left) × (functions_depth u.more ≤ here.left)
    unfolding functions_depth
    group-sizes = let e = ap functions_depth group-one.same in
        (taken-sizes p.left group-one es, ap length group-one.same, omega arith, omega arith)

    pub group-fine : FineF group-one.part × FineFs group-one.more
    unfolding FineFunctions
    group-fine = subst FineFs group-one.same p.fine

    abbrev pub group-ready : ReadyF s next here d.state
    group-ready = record {
      base = y.base;
      lo = at + 2;
      tree = group-one.part;
      scope = y.scope;
      lies = keeps-lies p.left.keeps (omega arith) group-one.lies;
      ends = omega (arith, en, group-sizes);
      above = omega arith;
      long = omega arith;
      small = omega (arith, y.small, en, group-sizes, group-one.ends);
      shows = keeps-shows p.left.keeps (omega arith) y.shows;
      room = omega (arith, group-sizes, functions-long group-one.more);
      height = omega (arith, group-sizes);
      label = omega (arith, group-sizes);
      some = p.bounds.1;
      strings = y.strings;
      shallow = group-sizes.2;
      fine = group-fine.0;
    }

    -- what the code needs at a function
    pub group-fits : (at + 2 + size ≤ end) × (end < 2 ^ 32) × (l < label + end)
    group-fits = (omega (arith, group-sizes, group-one.ends), y.small, omega arith)

    pub group-next : {s₁ t₁ : List ℕ} {tall place : ℕ} {a r : State} → GaveF text s s₁ l next here t t₁ d.state a → place ≡ get_or s₁ (at + 4) 0
        → place < 2 ^ 32 → tall ≡ least d.tall (cond (ltb 8192 a.high) (fault place 16) []) → r ≡ flat a → GroupPart y before k s₁ t₁ next
        (l + 1) (record { tall = tall; state = r })
    unfolding group_faults group_of
    group-next g ep small et er =
        let u = group-one in let f = u.part in let x = g.by group-ready in let start = start_of (lookup text p.scope f.name) in
        let n = named_by text y.scope start f in let q4 : at + 2 + 2 ≡ at + 4 = omega arith in let one = yields-one text y.scope start
        here.strings l f x.did p.low er (ep ∙ x.keeps.above (at + 4) (omega arith) ∙ p.left.keeps.above (at + 4) (omega arith)
        ∙ ap (λ (z : ℕ). get_or s₀ z 0) (sym q4) ∙ function-place f u.lies) small et in
        record {
          left = rest-next p.left u es en x.keeps;
          found = p.found ++ function_faults text y.scope f;
          made = p.made ++ (n ∷ []);
          scope = with_function p.scope f.name p.number start;
          number = p.number + 1;
          used = p.used + (2 + length (encode_function f));
          bounds = let a = length-append p.made (n ∷ []) in let b = ap (λ (z : List Function). length (encode_functions z)) u.same in
              omega (arith, group-sizes, functions-step f u.more);
          low = rw er;
          fine = group-fine.1;
          faults-are = cc (append_assoc p.found (function_faults text y.scope f) (group_faults text y.scope u.more));
          made-are = cc (append_assoc p.made (n ∷ []) (group_of text (p.number + 1) (with_function p.scope f.name p.number start)
              y.scope u.more));
          yields = yields-as (2 * (p.used + (2 + length (encode_function f)))) refl refl (omega arith) (yields-then l p.bounds.0 p.yields one);
        }

  pub group-end : {s t : List ℕ} {at l : ℕ} {d : Done} → end ≤ at
      → ((y : ReadyFs s₀ from end here d₀) (before : Scope) (k : ℕ) → GroupPart y before k s t at l d)
      → GaveFs text s₀ s from end label here t₀ t d₀ d
  unfolding group_faults group_of
  group-end lt q = record {
    by = λ y before k. let p = q y before k in let e = no-function p.left.rest p.left.ends lt in
        let fe : p.found ≡ group_faults text y.scope
        y.functions = cc (append-nil p.found) in let me : p.made ≡ group_of text k before y.scope y.functions = cc (append-nil
        p.made) in let r = yields-as (2 * length (encode_functions y.functions)) fe me (omega arith) p.yields in
        record { result = record { keeps = p.left.keeps; did = r.did }; tall = r.tall; fits = r.fits; low = p.low };
  }
