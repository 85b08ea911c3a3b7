-- The items of GLOBAL and MANIFEST.
use Rattle.laws.proofs.Basics.{ℕ, ◌+◌, ◌*◌, ◌^◌, ◌<◌, ◌≤◌, ◌≡◌, refl, sym, ap, subst, ◌∙◌, List, [], ◌∷◌, ◌++◌, append_assoc, Bool, true, false}
use Rattle.laws.proofs.Basics.{length, get_or, arith}
use Rattle.language.specs.Tree as T
use Rattle.compiler.proofs.Language.{Item, Scope, declared, in_block, on_found, fault, judged_word, faults_of, encode_name, encode_constant}
use Rattle.compiler.proofs.Language.{encode_items, FineName, FineConstant, FineItem, FineItems}
use Rattle.compiler.specs.Scope as S
use Rattle.compiler.proofs.Vocabulary.{Shows, PushedName, Worded, code, name_at, State, Did, Holds, STRINGS, Again, Verdict}
use Rattle.compiler.proofs.Common.{keeps-lower, keeps-name, name-there, pushed-keeps, pushed-name, did_none, did_then, did-as, same_refl}
use Rattle.compiler.proofs.Common.{second, keeps-lies, First, first_of, Rest, rest_all, rest-next}
use Rattle.compiler.specs.Commands.{nothing}
use Rattle.compiler.proofs.Judging.{judged-word, says-word}
use Rattle.compiler.specs.Locals.{word_of, Says, Judges, JudgesMost, Blames}
use Rattle.language.specs.Program.{globals_after, manifests_after, global_faults, manifest_faults}
use Rattle.compiler.specs.Items.{judged, meaning, after, faults, FineIs, JudgesItem, ReadyItems, Items}

pub item-global : {text s : List ℕ} {end top : ℕ} {g : Bool} {r : Verdict} → g ≡ true → JudgesMost 399 text s end top r
    → JudgesItem g text s end top r
unfolding judged
item-global e j = rw e (record { by = j.by; fits = j.fits; low = omega arith })

pub item-manifest : {text s : List ℕ} {end top : ℕ} {g : Bool} {r : Verdict} → g ≡ false → Judges text s end top r → JudgesItem g text s end top r
unfolding judged
item-manifest e j = rw e (record { by = j.by; fits = j.fits; low = j.low })

pub meaning-global : {g : Bool} (v : ℕ) {r : ℕ} → g ≡ true → r ≡ v * 4 + 2 → r ≡ code (meaning g v)
unfolding meaning code
meaning-global v e q = rw e q

pub meaning-manifest : {g : Bool} (v : ℕ) {r : ℕ} → g ≡ false → r ≡ v * 4 + 3 → r ≡ code (meaning g v)
unfolding meaning code
meaning-manifest v e q = rw e q

-- ---- an item at the front

abbrev item_code : Item → List ℕ
item_code i = encode_name i.name ++ encode_constant i.constant

abbrev pub IsItem : (s : List ℕ) (at end : ℕ) → List Item → Type 0
IsItem = First encode_items item_code (λ i. 0) (λ i is. i ∷ is)

pub is-item : {s : List ℕ} {at end : ℕ} (is : List Item) → Holds s at (encode_items is) → end ≡ at + length (encode_items is) → at < end
    → IsItem s at end is
unfolding encode_items
is-item [] h e l = absurd (omega arith)
is-item (i ∷ is) h e l = first_of encode_items item_code (λ i. 0) (λ i is. i ∷ is) i is h e

no_item : {at end : ℕ} (is : List Item) → end ≡ at + length (encode_items is) → end ≤ at → is ≡ []
unfolding encode_items encode_name
no_item [] e l = refl
no_item (i ∷ is) e l = absurd (omega arith)

-- ---- one more

meaning-word : (g : Bool) (text : List ℕ) (sc : Scope) (c : T.Constant) {s : List ℕ} {top : ℕ} → Shows s top sc → FineConstant c
    → Worded (meaning g (judged_word (judged g text sc c)))
unfolding meaning judged
meaning-word true text sc c sh f = tt
meaning-word false text sc c sh f = judged-word text sc c sh f

abbrev scope_with : Bool → List ℕ → Scope → Item → Scope
scope_with g text sc i = declared sc i.name (meaning g (judged_word (judged g text sc i.constant)))

one_more : (g : Bool) (text : List ℕ) (sc : Scope) (i : Item) (is : List Item) → let sc' = scope_with g text sc i in
    (after g text sc (i ∷ is) ≡ after g text sc' is) × (faults g text sc (i ∷ is)
    ≡ faults_of (judged g text sc i.constant) ++ (on_found (in_block text sc i.name) [] (fault i.name.place 9) ++ faults g text sc' is))
unfolding after globals_after manifests_after faults global_faults manifest_faults meaning judged
one_more true text sc i is = (refl, simp append_assoc)
one_more false text sc i is = (refl, simp append_assoc)

no_more : (g : Bool) (text : List ℕ) (sc : Scope) → (after g text sc [] ≡ sc) × (faults g text sc [] ≡ [])
unfolding after globals_after manifests_after faults global_faults manifest_faults
no_more true text sc = (refl, refl)
no_more false text sc = (refl, refl)

-- ---- the loop

module _ (g : Bool) (text : List ℕ) {s₀ : List ℕ} {from end top : ℕ} (st₀ : State) where
  pub record ItemsPart (y : ReadyItems s₀ from end top) (s : List ℕ) (at k : ℕ) (st : State) : Type 0 where
    pub left : Rest encode_items y.base top s₀ s end at
    pub scope : Scope
    pub shows : Shows s (top + 2 * k) scope
    pub many : k + length left.rest ≡ length y.items
    pub fine : FineIs left.rest
    pub same : after g text y.scope y.items ≡ after g text scope left.rest
    pub finish : (t : List ℕ) (st' : State) → Did (faults g text scope left.rest) nothing 0 t t st st'
        → Did (faults g text y.scope y.items) nothing 0 t t st₀ st'

  pub items-begin : (y : ReadyItems s₀ from end top) → ItemsPart y s₀ from 0 st₀
  items-begin y = let a : top ≡ top + 2 * 0 = omega arith in
      record {
        left = rest_all y.items y.lies y.ends y.above;
        scope = y.scope;
        shows = rw a at y.shows;
        many = omega arith;
        fine = y.fine;
        same = refl;
        finish = λ t st' d. d;
      }

  -- what the code needs at an item
  pub record Fits (y : ReadyItems s₀ from end top) (s : List ℕ) (at k : ℕ) : Type 0 where
    pub next : at + 2 + get_or s at 0 ≤ end
    pub room : top + 2 * k + 2 ≤ y.base
    pub long : y.base ≤ length s
    pub small : end < 2 ^ 32
    pub low : y.base ≤ end
    pub name : FineName (name_at s (at + 2))

  module _ {s : List ℕ} {at : ℕ} (k : ℕ) {st : State} (l : at < end) (y : ReadyItems s₀ from end top) (p : ItemsPart y s at k st) where
    abbrev pub front : IsItem s₀ at end p.left.rest
    front = is-item p.left.rest p.left.lies p.left.ends l

    item-name : name_at s (at + 2) ≡ front.part.name
    unfolding encode_name
    item-name = keeps-name p.left.keeps (omega arith) ∙ name-there s₀ (at + 2) (front.lies.at 1 (omega arith)) (front.lies.at 2 (omega arith))

    item-fine : FineItem STRINGS front.part × FineIs front.more
    unfolding FineItems
    item-fine = subst FineIs front.same p.fine

    pub items-fit : Fits y s at k
    items-fit = let u = front in let c : k + 1 + length u.more ≡ length y.items = omega (arith, ap length u.same) in record {
      next = omega (arith, p.left.keeps.above at p.left.above);
      room = omega arith;
      long = omega arith;
      small = y.small;
      low = omega arith;
      name = subst FineName (sym item-name) item-fine.0.name;
    }

    -- its constant judged
    item-says : {size next : ℕ} {c : Verdict} → size ≡ get_or s at 0 → next ≡ at + 2 + size → JudgesItem g text s next (top + 2 * k) c
        → Says c (judged g text p.scope front.part.constant)
    unfolding encode_name
    item-says es en ju = let u = front in let c = u.part.constant in ju.by p.scope (at + 6) c p.shows item-fine.0.constant
        (keeps-lies p.left.keeps (omega arith) (second (encode_name u.part.name) (encode_constant c) (at + 6) u.lies (omega arith)))
        (omega (arith, p.left.keeps.above at p.left.above))

  pub items-next : {s s₁ : List ℕ} {at size next m place x : ℕ} {c : Verdict} (k : ℕ) {st a r : State} → at < end → size ≡ get_or s at 0
      → next ≡ at + 2 + size → JudgesItem g text s next (top + 2 * k) c → S.Told text s (top + 2 * k) (at + 2) m → place ≡ get_or s (at + 4) 0 → Blames
      c st a → Again m place a r → PushedName s s₁ (top + 2 * k) (at + 2) x → {v : ℕ} → v ≡ word_of c → x ≡ code (meaning g v) → (y : ReadyItems s₀ from end top)
      → ItemsPart y s at k st → ItemsPart y s₁ next (k + 1) r
  items-next {s} {s₁} {at} {size} {next} {m} {place} {x} {c} k {st} {a} {r} l es en ju told ep bl ag pu {v} ev ex y p =
      let u = front k l y p in let f = items-fit k l y p in let told-k = item-says k l y p es en ju in let i = u.part in
      let sc = p.scope in let sc' = scope_with g text sc i in let j = judged g text sc i.constant in
      let n : name_at s (at + 2) ≡ i.name = item-name k l y p in let four : at + 4 ≡ at + 2 + 2 = omega arith in
      let ep' : place ≡ i.name.place = cc in
      let w : meaning g v ≡ meaning g (judged_word j) = ap (meaning g) (ev ∙ says-word j told-k) in
      let tk : top + 2 * k + 2 ≡ top + 2 * (k + 1) = omega arith in
      record {
        left = rest-next p.left u es en (keeps-lower (omega arith) (pushed-keeps pu.pushed f.room f.long));
        scope = sc';
        shows = rw tk at (rw n at (pushed-name pu f.room f.long (meaning g (judged_word j)) p.shows (ex ∙ ap code w)
            (meaning-word g text sc i.constant p.shows (item-fine k l y p).0.constant)));
        many = omega (arith, ap length u.same);
        fine = (item-fine k l y p).1;
        same = p.same ∙ ap (after g text sc) u.same ∙ (one_more g text sc i u.more).0;
        finish = λ t st' d. p.finish t st' (rw (ap (faults g text sc) u.same ∙ (one_more g text sc i u.more).1)
            (did-as nothing 0 (did_then (bl.by j told-k t) (did_then (rw ep' at (ag.by (in_block text sc i.name) (rw (told.by sc p.shows, n))
            t)) d)) same_refl (λ v e. refl) (omega arith)));
      }

  pub items-end : {s : List ℕ} {at : ℕ} (k : ℕ) {st : State} → end ≤ at → ((y : ReadyItems s₀ from end top) → ItemsPart y s at k st)
      → Items g text s₀ s from end top st₀ (record { top = top + 2 * k; state = st })
  items-end k {st} l q = record {
    by = λ y. let p = q y in let e = no_item p.left.rest p.left.ends l in let c : k ≡ length y.items = omega (arith, ap length e) in
        record {
          moved = omega arith;
          shows = rw (p.same ∙ ap (after g text p.scope) e ∙ (no_more g text p.scope).0) p.shows;
          keeps = p.left.keeps;
          did = λ t. p.finish t st (rw (ap (faults g text p.scope) e ∙ (no_more g text p.scope).1) (did_none 0));
        };
  }

  pub items-out : {s : List ℕ} {at : ℕ} (k : ℕ) {st : State} (y : ReadyItems s₀ from end top) → ItemsPart y s at k st → top + 2 * k ≤ length s₀
  items-out k y p = omega arith

pub code-small : (g : Bool) (v : ℕ) → v < 2 ^ 30 → code (meaning g v) < 2 ^ 32
unfolding meaning code
code-small true v l = omega arith
code-small false v l = omega arith
