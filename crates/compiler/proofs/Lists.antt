-- Lists in scratch: each item has its size and a word in front. What an item is, and a loop over the items.
use Rattle.laws.proofs.Basics.{ℕ, ◌+◌, ◌*◌, ◌^◌, ◌<◌, ◌≤◌, ◌≡◌, refl, sym, ap, subst, ◌∙◌, List, [], ◌∷◌, ◌++◌, length, get_or, length-append, arith}
use Rattle.language.specs.Constants.{Fault}
use Rattle.compiler.proofs.Vocabulary.{Keeps, State, Here, Did, Code, Holds, Ready}
use Rattle.compiler.proofs.Scoping.{keeps-all, keeps_then}
use Rattle.compiler.proofs.Trees.{first, second}
use Rattle.compiler.proofs.Parts.{sub}

-- the first item of a list that stands at `at`
pub record First {L A : Type 0} (all : L → List ℕ) (one : A → List ℕ) (word : A → ℕ) (with : A → L → L) (s : List ℕ) (at end : ℕ) (xs : L) : Type 0
  where
    pub part : A
    pub more : L
    pub same : xs ≡ with part more
    pub size_of : get_or s at 0 ≡ length (one part)
    pub word_of : get_or s (at + 1) 0 ≡ word part
    pub lies : Holds s (at + 2) (one part)
    pub lies_more : Holds s (at + 2 + length (one part)) (all more)
    pub ends : end ≡ at + 2 + length (one part) + length (all more)

pub first_of : {L A : Type 0} (all : L → List ℕ) (one : A → List ℕ) (word : A → ℕ) (with : A → L → L) {s : List ℕ} {at end : ℕ} (x : A) (xs : L)
    → Holds s at (length (one x) ∷ word x ∷ (one x ++ all xs)) → end ≡ at + length (length (one x) ∷ word x ∷ (one x ++ all xs))
    → First all one word with s at end (with x xs)
first_of all one word with {s} {at} x xs h e =
    let a : at + 0 ≡ at = omega arith in let r = second (length (one x) ∷ word x ∷ []) (one x ++ all xs) (at + 2) h refl in
    record {
      part = x;
      more = xs;
      same = refl;
      size_of = ap (λ (k : ℕ). get_or s k 0) (sym a) ∙ h.at 0 (omega arith);
      word_of = h.at 1 (omega arith);
      lies = first (one x) (all xs) r;
      lies_more = second (one x) (all xs) (at + 2 + length (one x)) r refl;
      ends = omega (arith, length-append (one x) (all xs));
    }

-- a loop over a list: at `at` the rest is left, and s keeps what stands from `base` on
pub record Rest {L : Type 0} (all : L → List ℕ) (base top : ℕ) (s₀ s : List ℕ) (end at : ℕ) : Type 0 where
  pub rest : L
  pub lies : Holds s₀ at (all rest)
  pub ends : end ≡ at + length (all rest)
  pub above : base ≤ at
  pub keeps : Keeps base top s₀ s

abbrev pub rest_all : {L : Type 0} {all : L → List ℕ} {base top : ℕ} {s₀ : List ℕ} {end from : ℕ} (xs : L) → Holds s₀ from (all xs)
    → end ≡ from + length (all xs) → base ≤ from → Rest all base top s₀ s₀ end from
rest_all xs h e l = record { rest = xs; lies = h; ends = e; above = l; keeps = keeps-all }

module _ {L A : Type 0} {all : L → List ℕ} {one : A → List ℕ} {word : A → ℕ} {with : A → L → L} {base top : ℕ} {s₀ s : List ℕ} {end at size : ℕ}
    (p : Rest all base top s₀ s end at) (u : First all one word with s₀ at end p.rest) (es : size ≡ get_or s at 0) where
  pub taken-sizes : (size ≡ length (one u.part)) × (length (all p.rest) ≡ 2 + length (one u.part) + length (all u.more))
  taken-sizes = (es ∙ p.keeps.above at p.above ∙ u.size_of, omega (arith, p.ends, u.ends))

  abbrev pub rest-next : {s₁ : List ℕ} {next : ℕ} → next ≡ at + 2 + size → Keeps base top s s₁ → Rest all base top s₀ s₁ end next
  rest-next en k = record {
    rest = u.more;
    lies = subst (λ (n : ℕ). Holds s₀ n (all u.more)) (omega (arith, taken-sizes)) u.lies_more;
    ends = omega (arith, u.ends, taken-sizes);
    above = omega arith;
    keeps = keeps_then p.keeps k;
  }

-- a kind of list: how it stands in scratch, its depth, what is fine of it, and that its first item can be taken off
pub record Kind (L A : Type 0) : Type 1 where
  pub all : L → List ℕ
  pub one : A → List ℕ
  pub word : A → ℕ
  pub with : A → L → L
  pub none : L
  pub deep : L → ℕ
  pub deep_one : A → ℕ
  pub Fine : L → Type 0
  pub Fine-one : A → Type 0
  pub takes : {s : List ℕ} {at end : ℕ} (xs : L) → Holds s at (all xs) → end ≡ at + length (all xs) → at < end → First all one word with s at end xs
  pub empty : (xs : L) → length (all xs) ≡ 0 → xs ≡ none
  pub deeper : (x : A) (xs : L) (k : ℕ) → deep (with x xs) ≤ k → (deep_one x ≤ k) × (deep xs ≤ k)
  pub finer : (x : A) (xs : L) → Fine (with x xs) → Fine-one x × Fine xs

-- a loop over a list, at `at`, where `rest` is left. What it does goes by an index, and its labels are counted by `few`
pub record Part {L A : Type 0} (k : Kind L A) (few : L → ℕ) (fs : ℕ → L → List Fault) (code : ℕ → L → ℕ → Code) (all : L)
    (from end base top left h₀ h i₀ i : ℕ) (s₀ s t₀ t : List ℕ) (st₀ st : State) (at : ℕ) : Type 0 where
  pub rest : L
  pub lies : Holds s₀ at (k.all rest)
  pub ends : end ≡ at + length (k.all rest)
  pub starts : from ≤ at
  pub keeps : Keeps base top s₀ s
  pub label : st.label + 2 * few rest ≤ st₀.label + 2 * few all
  pub some : 0 < st.label
  pub shallow : k.deep rest ≤ left
  pub fine : k.Fine rest
  pub height : h + 4100 * length (k.all rest) ≤ h₀ + 4100 * length (k.all all)
  pub finish : (t' : List ℕ) (st' : State) → Did (fs i rest) (code i rest) (2 * few rest) t t' st st'
      → Did (fs i₀ all) (code i₀ all) (2 * few all) t₀ t' st₀ st'

module _ {L A : Type 0} {k : Kind L A} {few : L → ℕ} {fs : ℕ → L → List Fault} {code : ℕ → L → ℕ → Code}
    {s₀ : List ℕ} {from end : ℕ} {here : Here} {before : State} (z : Ready k.all k.deep k.Fine s₀ end here before) (zs : z.lo ≡ from) where
  pub begins : {t₀ : List ℕ} {st₀ : State} {i₀ i : ℕ} {h : ℕ} → h ≡ here.height → i ≡ i₀ → 0 < st₀.label
      → Part k few fs code z.tree from end z.base here.top here.left here.height h i₀ i s₀ s₀ t₀ t₀ st₀ st₀ from
  begins eh e some = record {
    rest = z.tree;
    lies = rw zs at z.lies;
    ends = omega arith;
    starts = omega arith;
    keeps = keeps-all;
    label = omega arith;
    some = some;
    shallow = z.shallow;
    fine = z.fine;
    height = omega arith;
    finish = λ t' st' d. rw e at d;
  }

  module _ {h i₀ i : ℕ} {s t₀ t : List ℕ} {st₀ st : State} {at size next : ℕ} (l : at < end) (es : size ≡ get_or s at 0) (en : next ≡ at + 2 + size)
      (p : Part k few fs code z.tree from end z.base here.top here.left here.height h i₀ i s₀ s t₀ t st₀ st at) where
    abbrev pub item : First k.all k.one k.word k.with s₀ at end p.rest
    item = k.takes p.rest p.lies p.ends l

    pub one_size : size ≡ length (k.one item.part)
    one_size = es ∙ p.keeps.above at (omega arith) ∙ item.size_of

    pub one_word : {word : ℕ} → word ≡ get_or s (at + 1) 0 → word ≡ k.word item.part
    one_word e = e ∙ p.keeps.above (at + 1) (omega arith) ∙ item.word_of

    pub rest-length : length (k.all p.rest) ≡ 2 + length (k.one item.part) + length (k.all item.more)
    rest-length = omega (arith, p.ends, item.ends)

    pub both-deep : (k.deep_one item.part ≤ here.left) × (k.deep item.more ≤ here.left)
    both-deep = k.deeper item.part item.more here.left (rw item.same at p.shallow)

    pub both-fine : k.Fine-one item.part × k.Fine item.more
    both-fine = k.finer item.part item.more (subst k.Fine item.same p.fine)

    -- what the walk of the item may take for granted
    abbrev pub ready-one : (here' : Here) (st' : State) → here'.top ≡ here.top → here'.strings ≡ here.strings → here'.left ≡ here.left
        → here'.height ≤ h + 1 → st'.label + 2 * length (k.one item.part) ≤ 2 ^ 29 → 0 < st'.label
        → Ready k.one k.deep_one k.Fine-one s next here' st'
    ready-one here' st' et eg el eh few_labels some =
        sub z p.keeps item.lies et (omega (arith, one_size, item.ends, rest-length, both-deep.0)) both-fine.0

    -- the loop after the item
    pub goes_on_lem : {s₁ t₁ : List ℕ} {st₁ : State} {h' i' : ℕ} → Keeps z.base here.top s s₁ → h' ≤ h + 4100
        → st₁.label + 2 * few item.more ≤ st.label + 2 * few p.rest → 0 < st₁.label
        → ((t' : List ℕ) (st' : State) → Did (fs i' item.more) (code i' item.more) (2 * few item.more) t₁ t' st₁ st'
        → Did (fs i (k.with item.part item.more)) (code i (k.with item.part item.more)) (2 * few p.rest) t t' st st')
        → Part k few fs code z.tree from end z.base here.top here.left here.height h' i₀ i' s₀ s₁ t₀ t₁ st₀ st₁ next
    goes_on_lem kept up labels some step = record {
      rest = item.more;
      lies = subst (λ (n : ℕ). Holds s₀ n (k.all item.more)) (omega (arith, one_size)) item.lies_more;
      ends = omega (arith, item.ends, one_size);
      starts = omega arith;
      keeps = keeps_then p.keeps kept;
      label = omega arith;
      some = some;
      shallow = both-deep.1;
      fine = both-fine.1;
      height = omega (arith, rest-length);
      finish = λ t' st' d. p.finish t' st' (rw (← item.same) at (step t' st' d));
    }

-- the loop at its end
pub ended : {L A : Type 0} {k : Kind L A} {few : L → ℕ} {fs : ℕ → L → List Fault} {code : ℕ → L → ℕ → Code} {all : L}
    {from end base top left h₀ h i₀ i at : ℕ} {s₀ s t₀ t : List ℕ} {st₀ st : State} → Part k few fs code all from end base top left h₀ h i₀ i s₀ s t₀
    t st₀ st at → end ≤ at → ((m : ℕ) → Did (fs i k.none) (code i k.none) m t t st st) → Did (fs i₀ all) (code i₀ all) (2 * few all) t₀ t st₀ st
ended {k = k} {few} {fs} {t = t} {st = st} p l d = p.finish t st (rw (k.empty p.rest (omega arith)) (d _))
