-- The source that scratch holds: its symbols lie there. What the reading of it makes of scratch, and when scratch is fit for it.
use Rattle.laws.proofs.Basics.{ℕ, zero, suc, ◌+◌, ◌-◌, ◌*◌, ◌^◌, ◌<◌, ◌≤◌, ◌≡◌, refl, sym, ap, subst, ◌∙◌, List, ◌++◌, Bool, true, false, cond}
use Rattle.laws.proofs.Basics.{length, get_or, take, drop, replicate, List·getD-eq-default, length-take-le, get_or-drop, ltb, arith, ltb-true}
use Rattle.laws.proofs.Basics.{ltb-false}
use Rattle.laws.proofs.Cases.{by_cases, contradiction}
use Rattle.text.specs.declared.faults.Fault.{Fault}
use Rattle.text.specs.Faults.{number_of}
use Rattle.language.specs.Symbols.{Symbol}
use Rattle.language.specs.Reader.{Source, Out, ok, no, place_at}
use Rattle.language.specs.Tree.{Program}
use Rattle.language.specs.Grammar.{tree_of, program}
use Rattle.tree.specs.Encoding.{encode_program}
use Rattle.tree.specs.Reads.{HoldsSymbols, Ready, LeavesRoom, Encodes, Wrote, FollowsBy, Reads, next_of, low_of, live, reach}
use Rattle.tree.specs.Read.{decoded, source_in, too_short, answer_of, numbers_of, numbers_by, tree_numbers, tree_read, padded, left_by, tree_left}
use Rattle.tree.specs.Read.{Within, ReadsTree}
use Rattle.tree.proofs.Symbols.{lies-still}
use Rattle.tree.specs.declared.scratch.State.{State}
use Rattle.tree.specs.declared.scratch.State.TheVariants.{Read, Refused}
use Rattle.std.specs.Prelude.{Result, Ok, Err}
use Rattle.tree.specs.Read.{short, read, refused, answer_by}
use Rattle.tree.specs.declared.Unparsed.{Unparsed}
use Rattle.tree.specs.declared.Unparsed.TheVariants as U

-- the symbol that stands from an entry on
abbrev symbol_from : List ℕ → ℕ → Symbol
symbol_from s j = record { kind = get_or s j 0; value = get_or s (j + 1) 0; place = get_or s (j + 2) 0 }

dropped : (s : List ℕ) (i j k : ℕ) → j ≡ i + 3 → get_or (drop 3 s) (i + k) 0 ≡ get_or s (j + k) 0
dropped s i j k e = get_or-drop 3 s (i + k) 0 ∙ ap (λ (x : ℕ). get_or s x 0) (omega arith)

shifted : (s : List ℕ) (i j : ℕ) → j ≡ i + 3 → symbol_from (drop 3 s) i ≡ symbol_from s j
shifted s i j e = ap (λ (x : ℕ). record { kind = x; value = get_or (drop 3 s) (i + 1) 0; place = get_or (drop 3 s) (i + 2) 0 }) (get_or-drop 3 s i 0
    ∙ ap (λ (x : ℕ). get_or s x 0) (omega arith))
    ∙ ap (λ (x : ℕ). record { kind = get_or s j 0; value = x; place = get_or (drop 3 s) (i + 2) 0 }) (dropped s i j 1 e)
    ∙ ap (λ (x : ℕ). record { kind = get_or s j 0; value = get_or s (j + 1) 0; place = x }) (dropped s i j 2 e)

decoded-length : (n : ℕ) (s : List ℕ) → length (decoded n s) ≡ n
unfolding decoded
decoded-length zero s = refl
decoded-length (suc n) s = ap suc (decoded-length n (drop 3 s))

decoded-at : (n : ℕ) (s : List ℕ) (d : Symbol) (i : ℕ) → i < n → get_or (decoded n s) i d ≡ symbol_from s (i * 3)
unfolding decoded
decoded-at zero s d i h = absurd (omega arith)
decoded-at (suc n) s d zero h = refl
decoded-at (suc n) s d (suc i) h = decoded-at n (drop 3 s) d i (omega arith) ∙ shifted s (i * 3) (suc i * 3) (omega arith)

pub lies : (s : List ℕ) (n size : ℕ) → HoldsSymbols (source_in s n size) n s
unfolding source_in
lies s n size = record {
  count = decoded-length n s;
  kinds = λ i h. sym (ap (λ (x : Symbol). x.kind) (decoded-at n s _ i h));
  values = λ i h. sym (ap (λ (x : Symbol). x.value) (decoded-at n s _ i h));
  places = λ i h. sym (ap (λ (x : Symbol). x.place) (decoded-at n s _ i h));
}

-- past the symbols, the place is the text's size
pub place-past : (s : List ℕ) (n size at : ℕ) → n ≤ at → size ≡ place_at (source_in s n size) at
unfolding source_in
place-past s n size at h = sym (ap (λ (x : Symbol). x.place) (List·getD-eq-default (decoded n s) _ (omega (arith, decoded-length n s))))

-- places stay where the symbols do
module _ (s s' : List ℕ) (n size at : ℕ) (e : take (n * 3) s' ≡ take (n * 3) s) where
  place_kept : place_at (source_in s' n size) at ≡ place_at (source_in s n size) at
  place_kept = by_cases (ltb at n) (λ q. let h = ltb-true at n q in sym ((lies s' n size).places at h) ∙ (lies-still (lies s n size) e).places at h)
      (λ q. let h = ltb-false at n q in sym (place-past s' n size at h) ∙ place-past s n size at h)

-- whether scratch is fit
module _ (room count : ℕ) where
  fit_by : (b c : Bool) → ltb room (count * 8 + 64) ≡ b → ltb (2 ^ 32 - 1) room ≡ c → cond b true c ≡ false → (count * 8 + 64 ≤ room) × (room < 2 ^ 32)
  fit_by true c e f g = contradiction cc
  fit_by false true e f g = contradiction cc
  fit_by false false e f g = (ltb-false room (count * 8 + 64) e, omega (arith, ltb-false (2 ^ 32 - 1) room f))

  fit_is : too_short room count ≡ false → (count * 8 + 64 ≤ room) × (room < 2 ^ 32)
  unfolding too_short
  fit_is h = fit_by (ltb room (count * 8 + 64)) (ltb (2 ^ 32 - 1) room) refl refl h

-- the reading may begin
pub starts : (s : List ℕ) (n : ℕ) → too_short (length s) n ≡ false → Ready 0 s n (Read 0 (n * 3))
unfolding next_of low_of reach
starts s n h = let f = fit_is (length s) n h in
    record { placed = omega arith; above = omega arith; room = omega (arith, f); wide = omega (arith, f); small = f.1 }

-- what is read
pub tree-short : (s : List ℕ) (n size : ℕ) → too_short (length s) n ≡ true → ReadsTree s n size (Err U.TooShort) s
unfolding tree_read tree_numbers tree_left
tree-short s n size h = record {
  answers = sym (ap (λ (b : Bool). cond b short (answer_by (source_in s n size) n (tree_of (source_in s n size)))) h);
  numbers = sym (ap (λ (b : Bool). cond b (numbers_of short) (numbers_by (source_in s n size) n (tree_of (source_in s n size)))) h);
  leaves = sym (ap (λ (b : Bool). cond b s (left_by n s (tree_of (source_in s n size)))) h);
  room = tt;
}

-- the tree ends within the room
within : {s s' : List ℕ} {n next free : ℕ} {r : State} → LeavesRoom 0 s s' n (Read 0 (n * 3)) r → r ≡ Read next free → free ≤ n * 8
unfolding reach live
within {n = n} {next} {free} f e = let h : reach n (Read next free) + live (Read next free) * 0 ≤ reach n (Read 0 (n * 3)) = subst
    (λ (x : State). reach n x + live x * 0 ≤ reach n (Read 0 (n * 3))) e f.leaves in
    omega arith

-- what stands behind is cleared
cleared-is :
    (s s' s'' front : List ℕ) (free : ℕ) → length s' ≡ length s → free ≤ length s → take free s' ≡ front
    → s'' ≡ take free s' ++ replicate (length s' - free) 0 → s'' ≡ padded (length s) front
cleared-is s s' s'' front free l h e c =
    let z : length s' - free ≡ length s - length front = omega (arith, ap length e, length-take-le free s' (omega arith)) in
    c ∙ ap (λ (m : ℕ). take free s' ++ replicate m 0) z ∙ ap (λ (w : List ℕ). w ++ replicate (length s - length front) 0) e

told : (src : Source) (n : ℕ) (o : Out Program) → numbers_of (answer_by src n o) ≡ numbers_by src n o
told src n (ok p next) = refl
told src n (no number at) = refl

answered :
    {s s'' : List ℕ} {n size : ℕ} {answer : Result ℕ Unparsed} → too_short (length s) n ≡ false → (o : Out Program) → tree_of (source_in s n size) ≡ o
    → answer_of answer ≡ answer_by (source_in s n size) n o → s'' ≡ left_by n s o → Within (n * 8) (answer_of answer) → ReadsTree s n size answer s''
unfolding tree_read tree_numbers tree_left
answered {s} {n = n} {size} fit o e a w h = record {
  answers = a ∙ ap (answer_by (source_in s n size) n) (sym e)
      ∙ sym (ap (λ (b : Bool). cond b short (answer_by (source_in s n size) n (tree_of (source_in s n size)))) fit);
  numbers = ap numbers_of a ∙ told (source_in s n size) n o ∙ ap (numbers_by (source_in s n size) n) (sym e)
      ∙ sym (ap (λ (b : Bool). cond b (numbers_of short) (numbers_by (source_in s n size) n (tree_of (source_in s n size)))) fit);
  leaves = w ∙ ap (left_by n s) (sym e) ∙ sym (ap (λ (b : Bool). cond b s (left_by n s (tree_of (source_in s n size)))) fit);
  room = h;
}

module _ {s s' s'' : List ℕ} {n size : ℕ} (fit : too_short (length s) n ≡ false) (same : length s' ≡ length s) where
  wrote :
      (next free : ℕ) → Wrote (program (source_in s n size) 0) (Encodes encode_program) (n * 3) s s' next free → free ≤ n * 8
      → s'' ≡ take free s' ++ replicate (length s' - free) 0 → ReadsTree s n size (Ok free) s''
  unfolding tree_of
  wrote next free w h c = let q : free ≡ n * 3 + length (encode_program w.tree) = w.size ∙ ap (λ (x : List ℕ). n * 3 + length x) w.says.same in
      answered fit (ok w.tree next) w.is (ap read q)
      (cleared-is s s' s'' (take (n * 3) s ++ encode_program w.tree) free same (omega (arith, fit_is (length s) n fit))
      (w.written ∙ ap (λ (x : List ℕ). take (n * 3) s ++ x) w.says.same) c)
      h

  module _ {r : State} (d : Reads (program (source_in s n size)) encode_program s s' (Read 0 (n * 3)) r) where
    pub tree-read :
        {next free : ℕ} → LeavesRoom 0 s s' n (Read 0 (n * 3)) r → r ≡ Read next free → s'' ≡ take free s' ++ replicate (length s' - free) 0
        → ReadsTree s n size (Ok free) s''
    tree-read {next} {free} f e c =
        wrote next free (subst (λ (x : State). FollowsBy (program (source_in s n size)) (Encodes encode_program) s s' (Read 0 (n * 3)) x) e d.by)
        (within f e) c

    pub tree-refused :
        {fault : Fault} {at place : ℕ} → r ≡ Refused fault at → take (n * 3) s' ≡ take (n * 3) s → place ≡ place_at (source_in s' n size) at
        → s'' ≡ take (n * 3) s' ++ replicate (length s' - n * 3) 0 → ReadsTree s n size (Err (U.Refused fault place)) s''
    unfolding tree_of
    tree-refused {fault} {at} {place} e k p c =
        answered fit (no (number_of fault) at) (subst (λ (x : State). FollowsBy (program (source_in s n size)) (Encodes encode_program) s s' (Read 0 (n * 3)) x) e
        d.by) (ap (refused (number_of fault)) (p ∙ place_kept s s' n size at k))
        (cleared-is s s' s'' (take (n * 3) s) (n * 3) same (omega (arith, fit_is (length s) n fit)) k c) tt
