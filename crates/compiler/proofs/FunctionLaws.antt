-- A function: where its parameters and its body stand, and what its walk does, step after step.
use Rattle.laws.proofs.Basics.{ℕ, ◌+◌, ◌-◌, ◌*◌, ◌/◌, ◌^◌, ◌<◌, ◌≤◌, ◌≡◌, refl, ◌∙◌, List, [], ◌∷◌, ◌++◌, not, length, get_or, length-append, eqb}
use Rattle.laws.proofs.Basics.{arith}
use Rattle.items.specs.Item as I
use Rattle.language.specs.Kinds as K
use Rattle.compiler.proofs.Language.{Function, opened, declare_all, heights_of, encode_name, encode_names, encode_body, body_word}
use Rattle.language.specs.Program.{inside, body_of, function_faults, resolved}
use Rattle.code.specs.Generate as G
use Rattle.compiler.proofs.Vocabulary.{Keeps, Pushed, State, Here, Node, NodeAt, Emits, Reached, Holds, ReadyNames, Declares, encode_function}
use Rattle.compiler.proofs.Vocabulary.{ReadyBody, GaveBody, function_says, ReadyF, GaveF}
use Rattle.compiler.proofs.Common.{ready-names, keeps_then, keeps-lower, pushed-keeps, pushed-mark, did_then, did-put, did_after, did-as}
use Rattle.compiler.proofs.Common.{same_refl, code_is, first, second, keeps-lies, ends, kid, size_is, value-is, kind-is, moved}
use Rattle.compiler.proofs.Judging.{names-long}

-- ---- where its parts stand

pub record Parted (s : List ℕ) (lo end : ℕ) (f : Function) : Type 0 where
  pub lies-names : Holds s (lo + 4) (encode_names f.parameters)
  pub lies-body : Holds s (lo + 4 + length (encode_names f.parameters)) (encode_body f.body)
  pub size_of : get_or s (end - 4) 0 ≡ 4 + length (encode_names f.parameters) + length (encode_body f.body)
  pub value_of : get_or s (end - 3) 0 ≡ length (encode_names f.parameters)
  pub kind-of : get_or s (end - 1) 0 ≡ body_word f.body
  pub ends : end ≡ lo + 8 + length (encode_names f.parameters) + length (encode_body f.body)

pub parted : {s : List ℕ} {lo end : ℕ} (f : Function) → Holds s lo (encode_function f) → end ≡ lo + length (encode_function f) → Parted s lo end f
unfolding encode_name
parted {s} {lo} f h e = let name : List ℕ = encode_name f.name in let names = encode_names f.parameters in let body = encode_body f.body in
    let w = name ++ (names ++ body) in let v = length names in let k = body_word f.body in let inner = kid w v 0 k h e in let rest = second name
    (names ++ body) (lo + 4) inner refl in
    let z : length w ≡ 4 + length names + length body = omega (arith, length-append name (names ++ body), length-append names body) in
    record {
      lies-names = first names body rest;
      lies-body = second names body (lo + 4 + length names) rest refl;
      size_of = size_is w v 0 k h e ∙ z;
      value_of = value-is w v 0 k h e;
      kind-of = kind-is w v 0 k h e;
      ends = omega (arith, ends w v 0 k h e);
    }

-- inside: above the mark and the parameters
abbrev pub within : Node → Here → Here
within n here = record {
  top = here.top + 2 + 2 * (n.value / 4);
  height = 2 + n.value / 4;
  left = here.left;
  strings = here.strings;
  routine = not (eqb n.kind K.EQUAL);
}

module _ {s : List ℕ} {end : ℕ} {here : Here} {st : State} (n : Node) (nd : NodeAt s end n) where
  pub function-parts : (y : ReadyF s end here st) → Parted s y.lo end y.tree
  function-parts y = parted y.tree y.lies y.ends

  pub function-places : (y : ReadyF s end here st) → (n.start ≡ y.lo) × (n.value / 4 ≡ length y.tree.parameters)
      × (length (encode_function y.tree) ≡ 8 + 4 * length y.tree.parameters + length (encode_body y.tree.body))
  function-places y = let u = function-parts y in let m = names-long y.tree.parameters in (omega arith, omega arith, omega (arith, u.ends))

  -- room for the mark and the parameters
  pub function-room : (y : ReadyF s end here st)
      → (here.top + 2 ≤ length s) × (here.top + 2 ≤ y.base) × (here.top + 2 + 2 * (n.value / 4) ≤ y.base) × (y.base < 2 ^ 32)
  function-room y = let z = function-places y in (omega arith, omega arith, omega arith, omega arith)

  module _ {s₁ : List ℕ} (pu : Pushed s s₁ here.top 0 0) where
    abbrev pub function-names : ReadyF s end here st → ReadyNames s₁ (n.start + 4) (n.start + 4 + n.value) (here.top + 2) 2
    function-names y = let u = function-parts y in let r = function-room y in let k = pushed-keeps pu r.1 y.long in let z = function-places y in
        ready-names y.base (opened y.scope) y.tree.parameters (rw z.0 (keeps-lies k (omega arith) u.lies-names))
        (pushed-mark pu r.1 y.long y.shows refl) y.fine.parameters (omega arith)

    module _ (text : List ℕ) {label : ℕ} {s₂ t t₁ : List ℕ} {a b c : State} (em : Emits (I.label label ∷ []) [] t t₁ st a)
        (de : Declares text s₁ s₂ (n.start + 4) (n.start + 4 + n.value) (here.top + 2) 2 a b) (re : Reached (2 + n.value / 4) b c) where
      pub function-keeps : (y : ReadyF s end here st) → Keeps y.base here.top s s₂
      function-keeps y = keeps_then (pushed-keeps pu (function-room y).1 y.long) (keeps-lower (omega arith) (de.by (function-names y)).keeps)

      pub function-label : ReadyF s end here st → c.label ≡ st.label
      function-label y = let d = (de.by (function-names y)).did t₁ in omega (arith, (re.by t₁).label)

      abbrev pub function-body : ReadyF s end here st → ReadyBody s₂ n.inner (within n here) c n.kind
      function-body y = let u = function-parts y in let d = de.by (function-names y) in let k = function-keeps y in let z = function-places y in
          let l = function-label y in
          record {
            ready =
                moved y k (declare_all (opened y.scope) 2 y.tree.parameters) u.lies-body (rw z.1 d.shows) (omega arith) (omega arith)
                y.fine.body;
            word_is = nd.kind ∙ u.kind-of;
            routine_is = refl;
          }

      pub function-gave : {s₃ t₂ t₃ : List ℕ} {d r : State} → GaveBody text s₂ s₃ n.inner n.kind (within n here) t₁ t₂ c d
          → Emits (G.X 4 ∷ []) [] t₂ t₃ d r → GaveF text s s₃ label end here t t₃ st r
      unfolding function_faults resolved heights_of
      function-gave g pt = record {
        by = λ y. let f = y.tree in let sc = inside y.scope f in let w = de.by (function-names y) in let x = g.by (function-body y) in
            let body = rw (function-places y).1 at x.did in let top = rw (function-places y).1 at (re.by t₁) in
            let h = 2 + length f.parameters in
            let rb = body_of text sc h f.body in
            record {
              keeps = keeps_then (function-keeps y) (keeps-lower (omega arith) x.keeps);
              did = did-as (function_says text here.strings label y.scope f) _
                  (did_after em (did_then (w.did t₁) (did_after top (did-put body pt)))) same_refl (λ i e. let q : i + 0 ≡ i = omega arith in
                  code_is (rw q) refl (omega arith)) (omega (arith, (function-places y).2));
            };
      }
