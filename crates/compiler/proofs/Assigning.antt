-- The loop over the sides of an assignment: a left side and a right side at a time.
use Rattle.laws.proofs.Basics.{ℕ, ◌+◌, ◌-◌, ◌*◌, ◌<◌, ◌≤◌, ◌≡◌, refl, sym, ap, subst, ◌∙◌, List, [], ◌∷◌, ◌++◌, append_assoc, length, get_or}
use Rattle.laws.proofs.Basics.{length-append, arith}
use Rattle.language.specs.Tree as T
use Rattle.compiler.proofs.Language.{Expression, Expressions, Unlabelled, place_of, depth, expressions_depth, unlabelled_depth, Scope, Fault}
use Rattle.compiler.proofs.Language.{expression, unlabelled, sides, pair_up, side_of, target_of, of_pairs, of_cmd, Leavable}
use Rattle.compiler.proofs.Language.{in_expression, in_unlabelled, in_sides, in_right_sides, unless_side, encode, encode_sides, encode_first}
use Rattle.compiler.proofs.Language.{encode_expressions, encode_unlabelled, FineList, FineUnlabelled}
use Rattle.language.specs.Resolved as R
use Rattle.code.specs.Generate as G
use Rattle.compiler.proofs.Vocabulary.{Keeps, State, Here, Node, Ways, FineE, FineEs, FinePlain, raised, leavable, leavable_by, NodeAt, Did}
use Rattle.compiler.proofs.Vocabulary.{Holds, Result, ReadyE, GaveE}
use Rattle.compiler.proofs.Scoping.{keeps-all, keeps_then}
use Rattle.compiler.specs.Commands.{cmd_says, pairs_says, GaveSide, ReadyU, GaveU}
use Rattle.compiler.specs.Assigns.{encode_both, deep_both, FineBoth, ReadyAssign, GaveAssign}
use Rattle.compiler.proofs.Done.{Same, same_refl, same-eq, same-swap, same_then, same-both, did_none, did_then, did-as, code_is}
use Rattle.compiler.proofs.Trees.{first, second}
use Rattle.compiler.proofs.Parts.{sub}
use Rattle.compiler.proofs.Calls.{IsArg, is-arg, no-arg}
use Rattle.compiler.proofs.Sides.{place-of, place-closed}
use Rattle.compiler.proofs.Guards.{expression-closed}
use Rattle.compiler.proofs.Forms as F
use Rattle.compiler.proofs.Forms.{Form, form-at}
use Rattle.compiler.proofs.Anywhere.{any-expression}

-- ---- faults side by side

-- right, left, then the others, as left ones and then right ones
same-pairs : (r l L R : List Fault) → Same (r ++ (l ++ (L ++ R))) ((l ++ L) ++ (r ++ R))
same-pairs r l L R = same_then (same-swap r (l ++ (L ++ R))) (same_then (same-eq (simp append_assoc))
    (same_then (same-both (same_refl {a = l}) (same-both (same_refl {a = L}) (same-swap R r))) (same-eq (sym (append_assoc l L (r ++ R))))))

-- ---- where the left sides stand, between two places: the next one ends at l, the others follow it as items

pub data LeftAt (s : List ℕ) (from to l : ℕ) : Expressions → Type 0 where
  no_left : LeftAt s from to l T.no_expressions
  a_left : {e : Expression} {es : Expressions} (lo : ℕ) → from ≤ lo → Holds s lo (encode e) → l ≡ lo + length (encode e)
      → Holds s l (encode_expressions es) → l + length (encode_expressions es) ≤ to → LeftAt s from to l (T.and_expression e es)

pub left-next : {s : List ℕ} {from to l l' : ℕ} (es : Expressions) → from ≤ l → Holds s l (encode_expressions es)
    → l + length (encode_expressions es) ≤ to → l' ≡ l + 2 + get_or s l 0 → LeftAt s from to l' es
unfolding encode_expressions
left-next T.no_expressions f h b q = no_left
left-next {s} {from} {to} {l} {l'} (T.and_expression e es) f h b q =
    let a : l + 0 ≡ l = omega arith in let r = second (length (encode e) ∷ 0 ∷ []) (encode e ++ encode_expressions es) (l + 2) h refl in
    let z : get_or s l 0 ≡ length (encode e) = ap (λ (k : ℕ). get_or s k 0) (sym a) ∙ h.at 0 (omega arith) in let w : l' ≡ l + 2
    + length (encode e) = rw (q, z) in
    a_left {e = e} {es = es} (l + 2) (omega arith) (first (encode e) (encode_expressions es) r) w (second (encode e) (encode_expressions es) l' r w)
    (omega (arith, length-append (encode e) (encode_expressions es)))

-- a pair
pub record IsPair (s : List ℕ) (from to l at end : ℕ) (ls rs : Expressions) : Type 0 where
  pub left : Expression
  pub lefts : Expressions
  pub same : ls ≡ T.and_expression left lefts
  pub start : ℕ
  pub inside : from ≤ start
  pub lies : Holds s start (encode left)
  pub ends : l ≡ start + length (encode left)
  pub others : Holds s l (encode_expressions lefts)
  pub before : l + length (encode_expressions lefts) ≤ to
  pub right : IsArg s at end rs
  pub counts : T.count lefts ≡ T.count right.more

pub is-pair : {s : List ℕ} {from to l at end : ℕ} (ls rs : Expressions) → LeftAt s from to l ls → T.count ls ≡ T.count rs
    → Holds s at (encode_expressions rs) → end ≡ at + length (encode_expressions rs) → at < end → IsPair s from to l at end ls rs
unfolding T.count
is-pair T.no_expressions rs w c h e k = let u = is-arg rs h e k in absurd (omega (arith, ap T.count u.same))
is-pair (T.and_expression x ls) rs (a_left lo a b d f g) c h e k = let u = is-arg rs h e k in record {
  left = x;
  lefts = ls;
  same = refl;
  start = lo;
  inside = a;
  lies = b;
  ends = d;
  others = f;
  before = g;
  right = u;
  counts = omega (arith, ap T.count u.same);
}

sides-short : (es : Expressions) → length (encode_sides es) ≤ length (encode_expressions es)
unfolding encode_sides encode_expressions
sides-short T.no_expressions = omega arith
sides-short (T.and_expression e es) = omega arith

sides-long : (e : Expression) (es : Expressions) → length (encode_sides (T.and_expression e es)) ≡ length (encode e) + length (encode_expressions es)
unfolding encode_sides
sides-long e es = length-append (encode e) (encode_expressions es)

left-begin : {s : List ℕ} {lo right l : ℕ} (es : Expressions) → Holds s lo (encode_sides es) → l ≡ lo + length (encode_first es)
    → right ≡ lo + length (encode_sides es) → LeftAt s lo right l es
unfolding encode_sides encode_first
left-begin T.no_expressions h e f = no_left
left-begin {s} {lo} {right} {l} (T.and_expression e es) h q f =
    a_left {e = e} {es = es} lo (omega arith) (first (encode e) (encode_expressions es) h) q (second (encode e) (encode_expressions es) l h q)
    (omega (arith, length-append (encode e) (encode_expressions es)))

no-count : (es : Expressions) → T.count es ≡ 0 → es ≡ T.no_expressions
unfolding T.count
no-count T.no_expressions e = refl
no-count (T.and_expression x es) e = absurd (omega arith)

module _ (text t₀ : List ℕ) {s₀ : List ℕ} {left right end : ℕ} {here : Here} {st₀ : State} where
  pub record AssignPart (y : ReadyAssign s₀ left right end here st₀) (s t : List ℕ) (l at : ℕ) (st : State) : Type 0 where
    pub lefts : Expressions
    pub rights : Expressions
    pub at_left : LeftAt s₀ y.ready.lo right l lefts
    pub lies : Holds s₀ at (encode_expressions rights)
    pub ends : end ≡ at + length (encode_expressions rights)
    pub starts : right ≤ at
    pub counts : T.count lefts ≡ T.count rights
    pub keeps : Keeps y.ready.base here.top s₀ s
    pub label : st.label + 2 * (length (encode_sides lefts) + length (encode_expressions rights)) ≤ st₀.label + 2 * length
        (encode_both y.ready.tree)
    pub some : 0 < st.label
    pub shallow : (expressions_depth lefts ≤ here.left) × (expressions_depth rights ≤ here.left)
    pub fine : FineEs lefts × FineEs rights
    pub finish : (t' : List ℕ) (st' : State)
        → Did (in_sides text y.ready.scope (leavable here) (here.height + 1) lefts ++ in_right_sides text y.ready.scope (leavable here)
        here.height rights)
        (pairs_says here (pair_up (sides text y.ready.scope (here.height + 1) lefts) (sides text y.ready.scope here.height rights)))
        (2 * (length (encode_sides lefts) + length (encode_expressions rights))) t t' st st'
        → Did (in_sides text y.ready.scope (leavable here) (here.height + 1) y.ready.tree.left ++ in_right_sides text y.ready.scope
        (leavable here) here.height y.ready.tree.right)
        (pairs_says here (pair_up (sides text y.ready.scope (here.height + 1) y.ready.tree.left)
        (sides text y.ready.scope here.height y.ready.tree.right))) (2 * length (encode_both y.ready.tree)) t₀ t' st₀ st'

  module _ {s t : List ℕ} {l at size next : ℕ} {st : State} (k : at < end) (es : size ≡ get_or s at 0) (en : next ≡ at + 2 + size) where
    abbrev pub assign-is : (y : ReadyAssign s₀ left right end here st₀) (p : AssignPart y s t l at st)
        → IsPair s₀ y.ready.lo right l at end p.lefts p.rights
    assign-is y p = is-pair p.lefts p.rights p.at_left p.counts p.lies p.ends k

    pub assign-size : (y : ReadyAssign s₀ left right end here st₀) (p : AssignPart y s t l at st)
        → size ≡ length (encode (assign-is y p).right.part)
    assign-size y p = es ∙ p.keeps.above at (omega arith) ∙ (assign-is y p).right.size_of

    pub assign-length : (y : ReadyAssign s₀ left right end here st₀) (p : AssignPart y s t l at st) → let u = assign-is y p in
        (length (encode_expressions p.rights) ≡ 2 + length (encode u.right.part) + length (encode_expressions u.right.more))
        × (length (encode_sides p.lefts) ≡ length (encode u.left) + length (encode_expressions u.lefts))
    assign-length y p = let u = assign-is y p in (omega arith, cc (sides-long u.left u.lefts))

    pub assign-deep : (y : ReadyAssign s₀ left right end here st₀) (p : AssignPart y s t l at st) → let u = assign-is y p in
        (depth u.left ≤ here.left) × (expressions_depth u.lefts ≤ here.left) × (depth u.right.part ≤ here.left)
        × (expressions_depth u.right.more ≤ here.left)
    unfolding expressions_depth
    assign-deep y p = let u = assign-is y p in let e = ap expressions_depth u.same in let f = ap expressions_depth u.right.same in
        (omega arith, omega arith, omega arith, omega arith)

    pub assign-fine : (y : ReadyAssign s₀ left right end here st₀) (p : AssignPart y s t l at st)
        → let u = assign-is y p in (FineE u.left × FineEs u.lefts) × (FineE u.right.part × FineEs u.right.more)
    unfolding FineList
    assign-fine y p = let u = assign-is y p in (subst FineEs u.same p.fine.0, subst FineEs u.right.same p.fine.1)

    abbrev pub assign-right : (y : ReadyAssign s₀ left right end here st₀) → AssignPart y s t l at st → ReadyE s next here st
    assign-right y p = let z = y.ready in let u = assign-is y p in let v = u.right in
        sub z p.keeps v.lies refl (omega (arith, assign-size y p, (assign-length y p).0, (assign-deep y p).2)) (assign-fine y p).1.0

    module _ {s₁ t₁ : List ℕ} {a : State} (g : GaveE text s s₁ next here t t₁ st a) where
      abbrev pub assign-left : (y : ReadyAssign s₀ left right end here st₀) → AssignPart y s t l at st → ReadyE s₁ l (raised 1 here) a
      assign-left y p = let z = y.ready in let u = assign-is y p in let x = g.by (assign-right y p) in
          sub z (keeps_then p.keeps x.keeps) u.lies refl (omega (arith, (assign-length y p).0, (assign-length y p).1, (assign-deep y p).0))
          (assign-fine y p).0.0

      pub assign-next : {s₂ t₂ : List ℕ} {l' size' : ℕ} {r : State} (n : Node) → NodeAt s₁ l n → GaveSide text s₁ s₂ l n.place here t₁ t₂ a r
          → size' ≡ get_or s₂ l 0 → l' ≡ l + 2 + size'
          → (y : ReadyAssign s₀ left right end here st₀) → AssignPart y s t l at st → AssignPart y s₂ t₂ l' next r
      unfolding in_sides in_right_sides sides G.pairs_code of_pairs G.pairs_labels
      assign-next {s₂} {t₂} {l'} {size'} {r} n nd g₂ es' el y p =
          let z = y.ready in let u = assign-is y p in let v = u.right in let x = g.by (assign-right y p) in let w = g₂.by (assign-left y p) in
          let sc = z.scope in let h = here.height in let ks = keeps_then p.keeps (keeps_then x.keeps w.keeps) in let L = leavable here in
          let E = expression text sc h v.part in let D = expression text sc (h + 1) u.left in let T' = target_of (side_of D) in
          let PS = pair_up (sides text sc (h + 1) u.lefts) (sides text sc h v.more) in let pl : n.place ≡ place_of u.left = nd.place
          ∙ place-of (expression-closed u.left) (assign-left y p).lies (assign-left y p).ends ∙ place-closed u.left in let fl = in_expression
          text sc L (h + 1) u.left ++ unless_side (place_of u.left) (side_of D) in let fr = in_expression text sc L h v.part in
          let z' : size' ≡ get_or s₀ l 0 = es' ∙ ks.above l (omega arith) in
          record {
            lefts = u.lefts;
            rights = v.more;
            at_left = left-next u.lefts (omega arith) u.others u.before (rw (el, z'));
            lies = subst (λ (i : ℕ). Holds s₀ i (encode_expressions v.more)) (omega (arith, assign-size y p)) v.lies_more;
            ends = omega (arith, assign-size y p);
            starts = omega arith;
            counts = u.counts;
            keeps = ks;
            label = omega (arith, (assign-length y p).0, (assign-length y p).1, sides-short u.lefts);
            some = omega arith;
            shallow = ((assign-deep y p).1, (assign-deep y p).3);
            fine = ((assign-fine y p).0.1, (assign-fine y p).1.1);
            finish = λ t' st' d. p.finish t' st'
                (subst (λ (ls : Expressions). Did (in_sides text sc L (h + 1) ls ++ in_right_sides text sc L h p.rights)
                (pairs_says here (pair_up (sides text sc (h + 1) ls) (sides text sc h p.rights)))
                (2 * (length (encode_sides p.lefts) + length (encode_expressions p.rights))) t t' st st') (sym u.same)
                (subst (λ (rs : Expressions). Did (in_sides text sc L (h + 1) (T.and_expression u.left u.lefts) ++ in_right_sides text sc L h rs)
                (pairs_says here (pair_up (sides text sc (h + 1) (T.and_expression u.left u.lefts)) (sides text sc h rs)))
                (2 * (length (encode_sides p.lefts) + length (encode_expressions p.rights))) t t' st st') (sym v.same) (did-as (pairs_says
                here (R.pair T' E PS)) _ (did_then x.did (did_then (rw pl at w.did) d)) (same-pairs fr fl
                (in_sides text sc L (h + 1) u.lefts) (in_right_sides text sc L h v.more)) (λ m e. code_is refl (simp append_assoc) (omega arith))
                (omega (arith, (assign-length y p).0, (assign-length y p).1, sides-short u.lefts)))));
          }

  pub assign-begin : (y : ReadyAssign s₀ left right end here st₀) → AssignPart y s₀ t₀ left right st₀
  assign-begin y = let z = y.ready in let b = z.tree in let n = length-append (encode_sides b.left) (encode_expressions b.right) in record {
    lefts = b.left;
    rights = b.right;
    at_left = left-begin b.left (first (encode_sides b.left) (encode_expressions b.right) z.lies) y.first y.second;
    lies = second (encode_sides b.left) (encode_expressions b.right) right z.lies y.second;
    ends = omega arith;
    starts = omega arith;
    counts = z.fine.0;
    keeps = keeps-all;
    label = omega arith;
    some = z.some;
    shallow = (omega arith, omega arith);
    fine = (z.fine.1, z.fine.2);
    finish = λ t' st' d. did-as _ _ d same_refl (λ m e. refl) (omega arith);
  }

  pub assign_end : {s t : List ℕ} {l at : ℕ} {st : State} → end ≤ at → ((y : ReadyAssign s₀ left right end here st₀) → AssignPart y s t l at st)
      → GaveAssign text s₀ s left right end here t₀ t st₀ st
  unfolding in_sides in_right_sides sides G.pairs_code of_pairs G.pairs_labels T.count
  assign_end {s} {t} {l} {at} {st} k q = record {
    by = λ y. let p = q y in let e = no-arg p.rights (omega arith) in let f = no-count p.lefts (p.counts ∙ ap T.count e) in record {
      keeps = p.keeps;
      did = p.finish t st (rw f (rw e (did_none _)));
    };
  }

-- ---- the assignment

any-right : (text : List ℕ) (l m : Leavable) (q : l.routine ≡ m.routine) (sc : Scope) (h : ℕ) (es : Expressions)
    → in_right_sides text sc l h es ≡ in_right_sides text sc m h es
unfolding in_right_sides
any-right text l m q sc h T.no_expressions = refl
any-right text l m q sc h (T.and_expression e es) = rw (any-expression text l m q sc h e, any-right text l m q sc h es)

any-sides : (text : List ℕ) (l m : Leavable) (q : l.routine ≡ m.routine) (sc : Scope) (h : ℕ) (es : Expressions)
    → in_sides text sc l h es ≡ in_sides text sc m h es
unfolding in_sides
any-sides text l m q sc h T.no_expressions = refl
any-sides text l m q sc h (T.and_expression e es) = let u = unless_side (place_of e) (side_of (expression text sc h e)) in
    rw (any-expression text l m q sc h e, any-sides text l m q sc h es)

pub record IsAssign (s : List ℕ) (lo end : ℕ) (u : Unlabelled) : Type 0 where
  pub left : Expressions
  pub right : Expressions
  pub same : u ≡ T.assignment left right
  pub lies : Holds s lo (encode_sides left ++ encode_expressions right)
  pub value_of : get_or s (end - 3) 0 ≡ length (encode_first left)
  pub place-of : get_or s (end - 2) 0 ≡ length (encode_sides left)
  pub size_of : get_or s (end - 4) 0 ≡ length (encode_sides left ++ encode_expressions right)
  pub ends : end ≡ lo + length (encode_sides left ++ encode_expressions right) + 4

is-assign : {s : List ℕ} {lo end : ℕ} {u : Unlabelled} → Form s lo end 56 u → IsAssign s lo end u
is-assign (F.an_assignment {ls} {rs} h v p z q) =
    record { left = ls; right = rs; same = refl; lies = h; value_of = v; place-of = p; size_of = z; ends = q }

module _ {s : List ℕ} {end : ℕ} {here : Here} {st : State} (n : Node) (nd : NodeAt s end n) (q : n.kind ≡ 56) {left right : ℕ}
    (el : left ≡ n.start + n.value) (er : right ≡ n.start + n.place) where
  pub assigned-is : (y : ReadyU s end here st) → IsAssign s y.lo end y.tree
  assigned-is y = is-assign (form-at n nd q y)

  pub assigned-well : (y : ReadyU s end here st) → let u = assigned-is y in
      (deep_both (record { left = u.left; right = u.right }) ≤ here.left) × FineBoth (record { left = u.left; right = u.right })
  unfolding unlabelled_depth FineUnlabelled
  assigned-well y = let q = (assigned-is y).same in let f = (subst FinePlain q y.fine).0 in (omega (arith, ap unlabelled_depth q), (f.3, f.0, f.1))

  abbrev pub assigned-part : ReadyU s end here st → ReadyAssign s left right n.inner here st
  assigned-part y = let u = assigned-is y in record {
    ready = sub {part = record { left = u.left; right = u.right }} y keeps-all u.lies refl (omega (arith, (assigned-well y).0))
        (assigned-well y).1;
    first = omega arith;
    second = omega arith;
  }

  pub assigned-gave : (text : List ℕ) (ways : Ways) {s₁ t t₁ : List ℕ} {r : State} → GaveAssign text s s₁ left right n.inner here t t₁ st r
      → GaveU text s s₁ end here ways t t₁ st r
  unfolding in_unlabelled unlabelled G.cmd_code of_cmd G.cmd_labels
  assigned-gave text ways {s₁} {t} {t₁} {r} g = record {
    by = λ y. let u = assigned-is y in let x = g.by (assigned-part y) in let sc = y.scope in let h = here.height in let l = leavable here in
        let m = leavable_by ways here in
        subst
        (λ (v : Unlabelled). Result (in_unlabelled text sc m h v) (cmd_says here ways (unlabelled text sc h v)) (length (encode_unlabelled y.tree))
        y.base here s s₁ t t₁ st r) (sym u.same) (record {
          keeps = x.keeps;
          did = did-as _ _ x.did (same-eq (rw (any-sides text l m refl sc (h + 1) u.left, any-right text l m refl sc h u.right)))
              (λ k e. refl) (omega arith);
        });
  }
