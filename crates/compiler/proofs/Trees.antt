-- What stands in scratch: a node by its kind, and its parts.
use Rattle.laws.proofs.Basics.{ℕ, ◌+◌, ◌-◌, ◌<◌, ◌≤◌, ◌≡◌, refl, sym, ap, subst, ◌∙◌, List, [], ◌∷◌, ◌++◌, Bool, true, false, length, get_or}
use Rattle.laws.proofs.Basics.{length-append, List·getD-append, get_or-append-add, arith}
use Rattle.language.specs.Tree as T
use Rattle.language.specs.Tree.{Name, Expression, Suffixes, Operations, Command, place_of, ends_in_call}
use Rattle.tree.specs.Encoding.{closed, encode, encode_name, encode_suffixes, encode_operations, encode_command, suffixed_kind}
use Rattle.compiler.proofs.Vocabulary.{Keeps, State, Here, Node, NodeAt, Holds, ReadyE}

pub first : {s : List ℕ} {lo : ℕ} (x y : List ℕ) → Holds s lo (x ++ y) → Holds s lo x
first x y h = record { at = λ i l. h.at i (omega (arith, length-append x y)) ∙ List·getD-append x y 0 i l }

pub second : {s : List ℕ} {lo : ℕ} (x y : List ℕ) (m : ℕ) → Holds s lo (x ++ y) → m ≡ lo + length x → Holds s m y
second {s} {lo} x y m h e = record {
  at = λ i l. let q : m + i ≡ lo + (length x + i) = omega arith in
      ap (λ (k : ℕ). get_or s k 0) q ∙ h.at (length x + i) (omega (arith, length-append x y)) ∙ get_or-append-add x y i 0;
}

pub keeps-lies : {base top lo : ℕ} {s s' x : List ℕ} → Keeps base top s s' → base ≤ lo → Holds s lo x → Holds s' lo x
keeps-lies {lo = lo} k b h = record { at = λ i l. k.above (lo + i) (omega arith) ∙ h.at i l }

-- a record and what stands before it
module _ {s : List ℕ} {lo end : ℕ} (w : List ℕ) (v p k : ℕ) (h : Holds s lo (closed w v p k)) (e : end ≡ lo + length (closed w v p k)) where
  pub ends : end ≡ lo + length w + 4
  ends = omega (arith, length-append w (length w ∷ v ∷ p ∷ k ∷ []))

  pub kid : Holds s lo w
  kid = first w (length w ∷ v ∷ p ∷ k ∷ []) h

  four : Holds s (end - 4) (length w ∷ v ∷ p ∷ k ∷ [])
  four = second w (length w ∷ v ∷ p ∷ k ∷ []) (end - 4) h (omega (arith, ends))

  field : (i j : ℕ) → j ≡ end - 4 + i → i < 4 → get_or s j 0 ≡ get_or (length w ∷ v ∷ p ∷ k ∷ []) i 0
  field i j q l = rw (q, four.at i l)

  pub size_is : get_or s (end - 4) 0 ≡ length w
  size_is = field 0 (end - 4) (omega arith) (omega arith)

  pub value-is : get_or s (end - 3) 0 ≡ v
  value-is = field 1 (end - 3) (omega (arith, ends)) (omega arith)

  pub place_is : get_or s (end - 2) 0 ≡ p
  place_is = field 2 (end - 2) (omega (arith, ends)) (omega arith)

  pub kind-is : get_or s (end - 1) 0 ≡ k
  kind-is = field 3 (end - 1) (omega (arith, ends)) (omega arith)

-- an expression by its kind
pub data Case (s : List ℕ) (lo end : ℕ) : ℕ → Expression → Type 0 where
  a_number : {p v : ℕ} → get_or s (end - 3) 0 ≡ v → Case s lo end 60 (T.number p v)
  a_string : {p v : ℕ} → get_or s (end - 3) 0 ≡ v → Case s lo end 61 (T.string p v)
  a_name : {n : Name} → get_or s (end - 3) 0 ≡ n.width → get_or s (end - 2) 0 ≡ n.place → end ≡ lo + 4 → Case s lo end 59 (T.name n)
  a_bracket : {p : ℕ} {e : Expression} → Holds s lo (encode e) → end ≡ lo + length (encode e) + 4 → Case s lo end 51 (T.bracketed p e)
  a_valof : {p : ℕ} {c : Command} → Holds s lo (encode_command c) → end ≡ lo + length (encode_command c) + 4 → Case s lo end 7 (T.valof p c)
  a_monadic : {p o : ℕ} {e : Expression} → get_or s (end - 3) 0 ≡ o → Holds s lo (encode e) → end ≡ lo + length (encode e) + 4
      → Case s lo end 128 (T.monadic p o e)
  a_suffixed : {e : Expression} {ss : Suffixes} → Holds s lo (encode e ++ encode_suffixes ss)
      → get_or s (end - 4) 0 ≡ length (encode e ++ encode_suffixes ss) → get_or s (end - 3) 0 ≡ length (encode e)
      → end ≡ lo + length (encode e ++ encode_suffixes ss) + 4 → Case s lo end 129 (T.suffixed e ss)
  a_called : {e : Expression} {ss : Suffixes} → Holds s lo (encode e ++ encode_suffixes ss)
      → get_or s (end - 4) 0 ≡ length (encode e ++ encode_suffixes ss) → get_or s (end - 3) 0 ≡ length (encode e)
      → end ≡ lo + length (encode e ++ encode_suffixes ss) + 4 → Case s lo end 130 (T.suffixed e ss)
  a_dyadic : {e : Expression} {os : Operations} → Holds s lo (encode e ++ encode_operations os)
      → get_or s (end - 4) 0 ≡ length (encode e ++ encode_operations os) → get_or s (end - 3) 0 ≡ length (encode e)
      → end ≡ lo + length (encode e ++ encode_operations os) + 4 → Case s lo end 131 (T.dyadic e os)

module _ {s : List ℕ} {lo end : ℕ} where
  so : {k : ℕ} {e : Expression} → get_or s (end - 1) 0 ≡ k → Case s lo end k e → Case s lo end (get_or s (end - 1) 0) e
  so q c = rw q c

  suffixed_case : {e : Expression} {ss : Suffixes} (b : Bool) → Holds s lo (encode e ++ encode_suffixes ss)
      → get_or s (end - 4) 0 ≡ length (encode e ++ encode_suffixes ss) → get_or s (end - 3) 0 ≡ length (encode e)
      → end ≡ lo + length (encode e ++ encode_suffixes ss) + 4 → Case s lo end (suffixed_kind b) (T.suffixed e ss)
  unfolding suffixed_kind
  suffixed_case true a b c d = a_called a b c d
  suffixed_case false a b c d = a_suffixed a b c d

  pub view : (e : Expression) → Holds s lo (encode e) → end ≡ lo + length (encode e) → Case s lo end (get_or s (end - 1) 0) e
  unfolding encode encode_name
  view (T.number p v) h q = so (kind-is [] v p 60 h q) (a_number (value-is [] v p 60 h q))
  view (T.string p v) h q = so (kind-is [] v p 61 h q) (a_string (value-is [] v p 61 h q))
  view (T.name n) h q =
      so (kind-is [] n.width n.place 59 h q) (a_name (value-is [] n.width n.place 59 h q) (place_is [] n.width n.place 59 h q)
      (omega (arith, ends [] n.width n.place 59 h q)))
  view (T.bracketed p e) h q = so (kind-is (encode e) 0 p 51 h q) (a_bracket (kid (encode e) 0 p 51 h q) (ends (encode e) 0 p 51 h q))
  view (T.valof p c) h q = so (kind-is (encode_command c) 0 p 7 h q) (a_valof (kid (encode_command c) 0 p 7 h q) (ends (encode_command c) 0 p 7 h q))
  view (T.monadic p o e) h q =
      so (kind-is (encode e) o p 128 h q) (a_monadic (value-is (encode e) o p 128 h q) (kid (encode e) o p 128 h q) (ends (encode e) o p 128 h q))
  view (T.suffixed e ss) h q =
      let w = encode e ++ encode_suffixes ss in let k = suffixed_kind (ends_in_call false ss) in let p = place_of e in let v = length (encode e) in
      so (kind-is w v p k h q) (suffixed_case (ends_in_call false ss) (kid w v p k h q) (size_is w v p k h q) (value-is w v p k h q) (ends w v p k h q))
  view (T.dyadic e os) h q = let w = encode e ++ encode_operations os in let p = place_of e in let v = length (encode e) in
      so (kind-is w v p 131 h q) (a_dyadic (kid w v p 131 h q) (size_is w v p 131 h q) (value-is w v p 131 h q) (ends w v p 131 h q))

pub find : {s : List ℕ} {end k : ℕ} {here : Here} {st : State} (n : Node) → NodeAt s end n → n.kind ≡ k → (y : ReadyE s end here st)
    → Case s y.lo end k y.tree
find {s} {end} n nd q y = subst (λ (k : ℕ). Case s y.lo end k y.tree) (sym nd.kind ∙ q) (view y.tree y.lies y.ends)

-- ---- what each kind is

pub record IsLeaf (Is : ℕ → ℕ → Expression) (s : List ℕ) (end : ℕ) (e : Expression) : Type 0 where
  pub place : ℕ
  pub value : ℕ
  pub same : e ≡ Is place value
  pub value_of : get_or s (end - 3) 0 ≡ value

pub is_number : {s : List ℕ} {lo end : ℕ} {e : Expression} → Case s lo end 60 e → IsLeaf T.number s end e
is_number (a_number {p} {v} h) = record { place = p; value = v; same = refl; value_of = h }

pub is-string : {s : List ℕ} {lo end : ℕ} {e : Expression} → Case s lo end 61 e → IsLeaf T.string s end e
is-string (a_string {p} {v} h) = record { place = p; value = v; same = refl; value_of = h }

pub record IsName (s : List ℕ) (lo end : ℕ) (e : Expression) : Type 0 where
  pub name : Name
  pub same : e ≡ T.name name
  pub width_of : get_or s (end - 3) 0 ≡ name.width
  pub place-of : get_or s (end - 2) 0 ≡ name.place
  pub ends : end ≡ lo + 4

pub is_name : {s : List ℕ} {lo end : ℕ} {e : Expression} → Case s lo end 59 e → IsName s lo end e
is_name (a_name {n} w p q) = record { name = n; same = refl; width_of = w; place-of = p; ends = q }

-- one part: the constructor takes a place and a value
pub record IsOne {A : Type 0} (enc : A → List ℕ) (Is : ℕ → ℕ → A → Expression) (s : List ℕ) (lo end : ℕ) (e : Expression) : Type 0 where
  pub place : ℕ
  pub value : ℕ
  pub part : A
  pub same : e ≡ Is place value part
  pub lies : Holds s lo (enc part)
  pub ends : end ≡ lo + length (enc part) + 4

pub is-bracket : {s : List ℕ} {lo end : ℕ} {e : Expression} → Case s lo end 51 e → IsOne encode (λ p v x. T.bracketed p x) s lo end e
is-bracket (a_bracket {p} {e} h q) = record { place = p; value = 0; part = e; same = refl; lies = h; ends = q }

pub is-valof : {s : List ℕ} {lo end : ℕ} {e : Expression} → Case s lo end 7 e → IsOne encode_command (λ p v x. T.valof p x) s lo end e
is-valof (a_valof {p} {c} h q) = record { place = p; value = 0; part = c; same = refl; lies = h; ends = q }

-- a part and then a list
pub record IsTwo {A L T : Type 0} (one : A → List ℕ) (enc : L → List ℕ) (Is : A → L → T) (s : List ℕ) (lo end : ℕ) (e : T) : Type 0 where
  pub left : A
  pub list : L
  pub same : e ≡ Is left list
  pub lies : Holds s lo (one left)
  pub lies-list : Holds s (lo + length (one left)) (enc list)
  pub value_of : get_or s (end - 3) 0 ≡ length (one left)
  pub size_of : get_or s (end - 4) 0 ≡ length (one left) + length (enc list)
  pub ends : end ≡ lo + length (one left) + length (enc list) + 4

pub is-two : {A L T : Type 0} (one : A → List ℕ) (enc : L → List ℕ) (Is : A → L → T) {s : List ℕ} {lo end : ℕ} (x : A) (xs : L)
    → Holds s lo (one x ++ enc xs) → get_or s (end - 4) 0 ≡ length (one x ++ enc xs) → get_or s (end - 3) 0 ≡ length (one x)
    → end ≡ lo + length (one x ++ enc xs) + 4 → IsTwo one enc Is s lo end (Is x xs)
is-two one enc Is {lo = lo} x xs h z v q = record {
  left = x;
  list = xs;
  same = refl;
  lies = first (one x) (enc xs) h;
  lies-list = second (one x) (enc xs) (lo + length (one x)) h refl;
  value_of = v;
  size_of = z ∙ length-append (one x) (enc xs);
  ends = omega (arith, length-append (one x) (enc xs));
}

pub is-dyadic : {s : List ℕ} {lo end : ℕ} {e : Expression} → Case s lo end 131 e → IsTwo encode encode_operations T.dyadic s lo end e
is-dyadic (a_dyadic {e} {os} h z v q) = is-two encode encode_operations T.dyadic e os h z v q
