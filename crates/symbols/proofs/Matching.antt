-- Brackets: the stack as the definitions' list, and the first refusal, one symbol at a time.
use Rattle.laws.proofs.Basics.{ℕ, zero, suc, ◌+◌, ◌-◌, ◌<◌, ◌≤◌, ◌≡◌, refl, sym, ap, ◌∙◌, List, [], ◌∷◌, Bool, true, false, length, get_or, set, length-set}
use Rattle.laws.proofs.Basics.{get_or-set_same, get_or-set_other, sets, eqb, add-one, arith, ne_eqb}
use Rattle.laws.proofs.Cases.{by_cases}
use Rattle.text.proofs.Bytes.{Unlike}
use Rattle.language.specs.Symbols.{Fault, none, fault, Scan, goes_on, scan}
use Rattle.language.specs.Brackets as B
use Rattle.language.specs.Brackets.{matched, unmatched, brackets, first_fault}
use Rattle.std.specs.Prelude.{Option, Some, None, Ok, Err}
use Rattle.text.specs.Faults as F
use Rattle.symbols.specs.Kinds.{number_of}
use Rattle.symbols.specs.Parts.{symbol_of, scan_by, Next, Finds, closer, stacked, wanting, as_matching, AtMost, Matches}
use Rattle.symbols.specs.declared.kinds.Kind.{Kind}
use Rattle.symbols.specs.declared.kinds.Kind.TheVariants as V
use Rattle.symbols.specs.declared.Found.{Found}
use Rattle.symbols.specs.declared.Faulty.{Faulty}
use Rattle.symbols.proofs.Scanning.{scan_at, scan-is, found, nearer-end}

-- ---- the stack

stacked-set : (s : List Bool) (i : ℕ) (v : Bool) (d : ℕ) → d ≤ i → stacked (set s i v) d ≡ stacked s d
stacked-set s i v zero h = refl
stacked-set s i v (suc d) h = rw (get_or-set_other s i d v false (λ e. omega arith), stacked-set s i v d (omega arith))

same-closer : (b c : Bool) → b ≡ c → eqb (closer b) (closer c) ≡ true
same-closer true c e = rw (← e)
same-closer false c e = rw (← e)

other-closer : (b c : Bool) → (b ≡ c → ⊥) → eqb (closer b) (closer c) ≡ false
other-closer true true n = absurd (n refl)
other-closer true false n = refl
other-closer false true n = refl
other-closer false false n = absurd (n refl)

module _ (s : List Bool) (depth : ℕ) (block : Bool) where
  pub on-top : 0 < depth → get_or s (depth - 1) false ≡ block → Some (depth - 1) ≡ wanting s depth block
  on-top = go depth
    where
      go : (d : ℕ) → 0 < d → get_or s (d - 1) false ≡ block → Some (d - 1) ≡ wanting s d block
      go zero h e = absurd (omega arith)
      go (suc d) h e = let z : suc d - 1 ≡ d = omega arith in
          rw (z, same-closer block (get_or s d false) (sym (ap (λ (n : ℕ). get_or s n false) (sym z) ∙ e)))

  pub not-on-top : (get_or s (depth - 1) false ≡ block → ⊥) → None ≡ wanting s depth block
  not-on-top = go depth
    where
      go : (d : ℕ) → (get_or s (d - 1) false ≡ block → ⊥) → None ≡ wanting s d block
      go zero e = refl
      go (suc d) e = let z : suc d - 1 ≡ d = omega arith in
          rw (other-closer block (get_or s d false) (λ k. e (ap (λ (n : ℕ). get_or s n false) z ∙ sym k)))

-- ---- the stack after a symbol

module _ (s : List Bool) (depth : ℕ) where
  -- an opening bracket
  module _ (kind : Kind) (block : Bool)
      (b : (ws : List ℕ) (value place : ℕ) → B.bracket ws (symbol_of (number_of kind) value place) ≡ matched (closer block ∷ ws)) where
    pub match-open : {k : Kind} {r : ℕ} {s' : List Bool} → k ≡ kind → depth < length s → r ≡ depth + 1 → s' ≡ sets s depth (block ∷ [])
        → Matches k depth s (Some r) s'
    unfolding as_matching AtMost
    match-open e h p q = rw (e, p, q) (record {
      same = length-set s depth block;
      gives = λ value place. rw (add-one, get_or-set_same s depth block false h, stacked-set s depth block depth (omega arith))
          (sym (b (stacked s depth) value place));
      low = omega arith;
    })

  -- a closing one
  module _ (kind : Kind) (block : Bool) (c : number_of kind ≡ closer block)
      (b : (ws : List ℕ) (value place : ℕ) → B.bracket ws (symbol_of (number_of kind) value place) ≡ B.closing ws (symbol_of (number_of kind) value place))
    where
      pub match-close : {k : Kind} {r : Option ℕ} → k ≡ kind → r ≡ wanting s depth block → Matches k depth s r s
      unfolding as_matching AtMost B.closing
      match-close e p =
          rw (e, p) (record { same = refl; gives = λ value place. go depth value place ∙ sym (b (stacked s depth) value place); low = low depth })
        where
          go : (d value place : ℕ) → as_matching place (wanting s d block) s ≡ B.closing (stacked s d) (symbol_of (number_of kind) value place)
          go zero value place = refl
          go (suc d) value place = rw c (by_cases (eqb (closer block) (closer (get_or s d false))) (λ t. rw t) (λ t. rw t))

          low : (d : ℕ) → AtMost (d + 1) (wanting s d block)
          low zero = tt
          low (suc d) = by_cases (eqb (closer block) (closer (get_or s d false))) (λ t. rw t (omega arith)) (λ t. rw t tt)

  pub match-other : (kind : Kind) → Unlike (number_of kind) (58 ∷ 52 ∷ 57 ∷ 51 ∷ []) → Matches kind depth s (Some depth) s
  unfolding as_matching AtMost B.bracket
  match-other kind u = record {
    same = refl;
    gives = λ value place. rw (
      ne_eqb (number_of kind) 51 u.0.0.0.1,
      ne_eqb (number_of kind) 57 u.0.0.1,
      ne_eqb (number_of kind) 52 u.0.1,
      ne_eqb (number_of kind) 58 u.1,
    );
    low = omega arith;
  }

pub opens-round : (ws : List ℕ) (value place : ℕ) → B.bracket ws (symbol_of 51 value place) ≡ matched (52 ∷ ws)
unfolding B.bracket
opens-round ws value place = refl

pub opens-block : (ws : List ℕ) (value place : ℕ) → B.bracket ws (symbol_of 57 value place) ≡ matched (58 ∷ ws)
unfolding B.bracket
opens-block ws value place = refl

pub closes-round : (ws : List ℕ) (value place : ℕ) → B.bracket ws (symbol_of 52 value place) ≡ B.closing ws (symbol_of 52 value place)
unfolding B.bracket
closes-round ws value place = refl

pub closes-block : (ws : List ℕ) (value place : ℕ) → B.bracket ws (symbol_of 58 value place) ≡ B.closing ws (symbol_of 58 value place)
unfolding B.bracket
closes-block ws value place = refl

other : (k : Kind) → (k ≡ V.Open → ⊥) → (k ≡ V.Begin → ⊥) → (k ≡ V.Close → ⊥) → (k ≡ V.End → ⊥)
    → ((number_of k ≡ 58 → ⊥) × (number_of k ≡ 52 → ⊥)) × ((number_of k ≡ 57 → ⊥) × (number_of k ≡ 51 → ⊥))
other k a b c d = grind arith

pub unlike-brackets : (k : Kind) → (k ≡ V.Open → ⊥) → (k ≡ V.Begin → ⊥) → (k ≡ V.Close → ⊥) → (k ≡ V.End → ⊥)
    → Unlike (number_of k) (58 ∷ 52 ∷ 57 ∷ 51 ∷ [])
unlike-brackets k a b c d = let o = other k a b c d in ((((tt, o.1.1), o.1.0), o.0.1), o.0.0)

-- ---- what the loop over the symbols keeps

-- the first refusal from a place on, with some brackets open
unfoldable pub fault_from : List ℕ → (wanted : List ℕ) → Scan → Fault
fault_from text wanted s = first_fault (length text) (brackets wanted s.symbols) s.ending

pub record Going (text : List ℕ) (s₀ : List Bool) (at depth : ℕ) (s : List Bool) : Type 0 where
  pub same : length s ≡ length s₀
  pub low : depth ≤ at
  pub within : at ≤ length text
  pub faults : fault_from text [] (scan text) ≡ fault_from text (stacked s depth) (scan_at text at)

pub going_start : (text : List ℕ) (s : List Bool) → Going text s 0 0 s
unfolding scan
going_start text s = record { same = refl; low = omega arith; within = omega arith; faults = refl }

module _ (text : List ℕ) (s₀ : List Bool) (at depth : ℕ) (s : List Bool) (g : Going text s₀ at depth s) {next : Next} (f : Finds text at next) where
  pub going-wrong : {e : Faulty} → next ≡ Err e → fault_from text [] (scan text) ≡ fault (F.number_of e.fault) e.place
  unfolding fault_from scan_by brackets
  going-wrong e = g.faults ∙ ap (fault_from text (stacked s depth)) (scan-is f e)

  module _ (e : next ≡ Ok None) where
    ended : fault_from text [] (scan text) ≡ first_fault (length text) (matched (stacked s depth)) none
    unfolding fault_from scan_by brackets
    ended = g.faults ∙ ap (fault_from text (stacked s depth)) (scan-is f e)

    pub going-whole : depth ≡ 0 → fault_from text [] (scan text) ≡ none
    going-whole z = ended ∙ ap (λ (d : ℕ). first_fault (length text) (matched (stacked s d)) none) z

    pub going-open : (depth ≡ 0 → ⊥) → fault_from text [] (scan text) ≡ fault 5 (length text)
    going-open n = ended ∙ go depth n
      where
        go : (d : ℕ) → (d ≡ 0 → ⊥) → first_fault (length text) (matched (stacked s d)) none ≡ fault 5 (length text)
        go zero h = absurd (h refl)
        go (suc d) h = refl

  module _ {one : Found} (e : next ≡ Ok (Some one)) where
    abbrev kind : ℕ
    kind = number_of one.kind

    abbrev value : ℕ
    value = one.value

    abbrev place : ℕ
    place = one.place

    abbrev past : ℕ
    past = one.past

    on-symbol : fault_from text [] (scan text) ≡ fault_from text (stacked s depth) (goes_on (symbol_of kind value place) (scan_at text past))
    unfolding scan_by
    on-symbol = g.faults ∙ ap (fault_from text (stacked s depth)) (scan-is f e)

    pub stack-fits : length text ≤ 16384 → length s₀ ≡ 16384 → depth < length s
    stack-fits h k = omega (arith, nearer-end f e, g.same, g.low)

    module _ {after : Option ℕ} {s' : List Bool} (m : Matches one.kind depth s after s') where
      pub going-unmatched : after ≡ None → fault_from text [] (scan text) ≡ fault 5 place
      unfolding fault_from as_matching brackets
      going-unmatched u = let b : B.bracket (stacked s depth) (symbol_of kind value place) ≡ unmatched place = sym (m.gives value place) ∙
          ap (λ (d : Option ℕ). as_matching place d s') u in
          on-symbol ∙ rw b

      pub going_on : {d : ℕ} → after ≡ Some d → Going text s₀ past d s'
      unfolding fault_from as_matching AtMost brackets
      going_on {d} u = let b : B.bracket (stacked s depth) (symbol_of kind value place) ≡ matched (stacked s' d) = sym (m.gives value place) ∙
          ap (λ (d : Option ℕ). as_matching place d s') u in
          let l : d ≤ depth + 1 = rw u at m.low in
          record {
            same = m.same ∙ g.same;
            low = omega (arith, (found f e).after, (found f e).some, g.low);
            within = (found f e).within;
            faults = on-symbol ∙ rw b;
          }
