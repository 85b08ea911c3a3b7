-- A command by the kind of its record: what it is and where its parts stand.
use Rattle.laws.proofs.Basics.{ℕ, ◌+◌, ◌-◌, ◌≡◌, refl, sym, subst, ◌∙◌, List, [], ◌∷◌, ◌++◌, true, false, Option, length, get_or, eqb, eqb-true}
use Rattle.laws.proofs.Cases.{by_cases, contradiction}
use Rattle.language.specs.Kinds as K
use Rattle.language.specs.Kinds.{member}
use Rattle.language.specs.Tree as T
use Rattle.compiler.proofs.Language.{Name, Constant, Expression, Expressions, Command, Unlabelled, is_call, ends_in_call, place_of, FineUnlabelled}
use Rattle.compiler.proofs.Language.{encode, encode_name, encode_by, encode_command, encode_commands, encode_expressions, encode_sides, encode_first}
use Rattle.compiler.proofs.Language.{encode_locals, encode_unlabelled, suffixed_kind}
use Rattle.language.specs.Binding.{is_guard, is_leave}
use Rattle.tree.specs.Encoding as O
use Rattle.compiler.proofs.Vocabulary.{State, Here, Node, FinePlain, NodeAt, Holds, ReadyU}
use Rattle.compiler.proofs.Common.{kid, ends, value-is, place_is, size_is, kind-is, IsTwo, two-closed}

-- one of a list, where each has what is wanted
one_of : (P : ℕ → Type 0) (k a : ℕ) (others : List ℕ) → member k (a ∷ others) ≡ true → P a → (member k others ≡ true → P k) → P k
unfolding member
one_of P k a others m p f = by_cases (eqb k a) (λ e. rw (eqb-true k a e) p) (λ e. f (rw e at m))

none_of_lem : {P : Type 0} (k : ℕ) → member k [] ≡ true → P
unfolding member
none_of_lem k m = contradiction cc

-- ---- a command by its kind

module _ (s : List ℕ) (lo end : ℕ) where
  pub data Form : ℕ → Unlabelled → Type 0 where
    an_assignment : {ls rs : Expressions} → Holds s lo (encode_sides ls ++ encode_expressions rs) → get_or s (end - 3) 0 ≡ length (encode_first ls)
        → get_or s (end - 2) 0 ≡ length (encode_sides ls) → get_or s (end - 4) 0 ≡ length (encode_sides ls ++ encode_expressions rs) → end ≡ lo + length
        (encode_sides ls ++ encode_expressions rs) + 4 → Form K.ASSIGN (T.assignment ls rs)
    a_call : {e : Expression} → Holds s lo (encode e) → end ≡ lo + length (encode e) → is_call e ≡ true → Form O.CALLED (T.call_command e)
    a_test : {e : Expression} {c d : Command} → Holds s lo (encode e ++ (encode_command c ++ encode_command d))
        → end ≡ lo + length (encode e ++ (encode_command c ++ encode_command d)) + 4 → Form K.TEST (T.test e c d)
    an_if : {e : Expression} {c : Command} → Holds s lo (encode e ++ encode_command c) → end ≡ lo + length (encode e ++ encode_command c) + 4
        → Form K.IF (T.guarded K.IF e c)
    an_unless : {e : Expression} {c : Command} → Holds s lo (encode e ++ encode_command c) → end ≡ lo + length (encode e ++ encode_command c) + 4
        → Form K.UNLESS (T.guarded K.UNLESS e c)
    a_while : {e : Expression} {c : Command} → Holds s lo (encode e ++ encode_command c) → end ≡ lo + length (encode e ++ encode_command c) + 4
        → Form K.WHILE (T.guarded K.WHILE e c)
    an_until : {e : Expression} {c : Command} → Holds s lo (encode e ++ encode_command c) → end ≡ lo + length (encode e ++ encode_command c) + 4
        → Form K.UNTIL (T.guarded K.UNTIL e c)
    a_for : {n : Name} {e d : Expression} {k : Option Constant} {c : Command}
        → Holds s lo (encode_name n ++ (encode e ++ (encode d ++ (encode_by k ++ encode_command c)))) → get_or s (end - 3) 0 ≡ length (encode_by k) → end
        ≡ lo + length (encode_name n ++ (encode e ++ (encode d ++ (encode_by k ++ encode_command c)))) + 4 → Form K.FOR (T.for n e d k c)
    a_switch : {u : Unlabelled} → IsTwo encode encode_commands T.switchon s lo end u → Form K.SWITCHON u
    a_result : {p : ℕ} {e : Expression} → get_or s (end - 2) 0 ≡ p → Holds s lo (encode e) → end ≡ lo + length (encode e) + 4
        → Form K.RESULTIS (T.resultis p e)
    a_block : {u : Unlabelled} → IsTwo encode_locals encode_commands T.block s lo end u → Form K.BEGIN u
    an_endcase : {p : ℕ} → get_or s (end - 2) 0 ≡ p → Form K.ENDCASE (T.leave K.ENDCASE p)
    a_break : {p : ℕ} → get_or s (end - 2) 0 ≡ p → Form K.BREAK (T.leave K.BREAK p)
    a_loop : {p : ℕ} → get_or s (end - 2) 0 ≡ p → Form K.LOOP (T.leave K.LOOP p)
    a_return : {p : ℕ} → get_or s (end - 2) 0 ≡ p → Form K.RETURN (T.leave K.RETURN p)
    a_finish : {p : ℕ} → get_or s (end - 2) 0 ≡ p → Form K.FINISH (T.leave K.FINISH p)

  so : {k : ℕ} {u : Unlabelled} → get_or s (end - 1) 0 ≡ k → Form k u → Form (get_or s (end - 1) 0) u
  so q c = rw q c

  guard-form : {w : ℕ} {e : Expression} {c : Command} → is_guard w ≡ true → Holds s lo (encode e ++ encode_command c)
      → end ≡ lo + length (encode e ++ encode_command c) + 4 → Form w (T.guarded w e c)
  unfolding is_guard
  guard-form {w} {e} {c} m h q = let P : ℕ → Type 0 = λ w. Form w (T.guarded w e c) in
      one_of P w K.IF _ m (an_if h q) (λ m. one_of P w K.UNLESS _ m (an_unless h q)
      (λ m. one_of P w K.WHILE _ m (a_while h q) (λ m. one_of P w K.UNTIL _ m (an_until h q) (none_of_lem w))))

  leave-form : {w p : ℕ} → is_leave w ≡ true → get_or s (end - 2) 0 ≡ p → Form w (T.leave w p)
  unfolding is_leave
  leave-form {w} {p} m h = let P : ℕ → Type 0 = λ w. Form w (T.leave w p) in
      one_of P w K.ENDCASE _ m (an_endcase h) (λ m. one_of P w K.BREAK _ m (a_break h) (λ m. one_of P w K.LOOP _ m (a_loop h)
      (λ m. one_of P w K.RETURN _ m (a_return h) (λ m. one_of P w K.FINISH _ m (a_finish h) (none_of_lem w)))))

  -- a call's record has its own kind
  called-kind : (e : Expression) → is_call e ≡ true → Holds s lo (encode e) → end ≡ lo + length (encode e) → get_or s (end - 1) 0 ≡ O.CALLED
  unfolding is_call encode suffixed_kind
  called-kind (T.number p v) f h q = contradiction cc
  called-kind (T.string p v) f h q = contradiction cc
  called-kind (T.name n) f h q = contradiction cc
  called-kind (T.bracketed p d) f h q = contradiction cc
  called-kind (T.valof p c) f h q = contradiction cc
  called-kind (T.monadic p o d) f h q = contradiction cc
  called-kind (T.dyadic d os) f h q = contradiction cc
  called-kind (T.suffixed d ss) f h q =
      rw (kind-is (encode d ++ O.encode_suffixes ss) (length (encode d)) (place_of d) (suffixed_kind (ends_in_call false ss)) h q, f)

  pub form_of : (u : Unlabelled) → FinePlain u → Holds s lo (encode_unlabelled u) → end ≡ lo + length (encode_unlabelled u)
      → Form (get_or s (end - 1) 0) u
  unfolding FineUnlabelled encode_unlabelled
  form_of T.empty f h q = absurd (f.1 refl)
  form_of (T.assignment ls rs) f h q =
      let w = encode_sides ls ++ encode_expressions rs in let v = length (encode_first ls) in let p = length (encode_sides ls) in
      so (kind-is w v p K.ASSIGN h q)
      (an_assignment (kid w v p K.ASSIGN h q) (value-is w v p K.ASSIGN h q) (place_is w v p K.ASSIGN h q) (size_is w v p K.ASSIGN h q)
      (ends w v p K.ASSIGN h q))
  form_of (T.call_command e) f h q = so (called-kind e f.0.1 h q) (a_call h q f.0.1)
  form_of (T.test e c d) f h q = let w = encode e ++ (encode_command c ++ encode_command d) in
      so (kind-is w 0 0 K.TEST h q) (a_test (kid w 0 0 K.TEST h q) (ends w 0 0 K.TEST h q))
  form_of (T.guarded v e c) f h q = let w = encode e ++ encode_command c in
      so (kind-is w 0 0 v h q) (guard-form f.0.2 (kid w 0 0 v h q) (ends w 0 0 v h q))
  form_of (T.for n e d k c) f h q =
      let w = encode_name n ++ (encode e ++ (encode d ++ (encode_by k ++ encode_command c))) in let v = length (encode_by k) in
      so (kind-is w v 0 K.FOR h q) (a_for (kid w v 0 K.FOR h q) (value-is w v 0 K.FOR h q) (ends w v 0 K.FOR h q))
  form_of (T.switchon e cs) f h q = so (kind-is (encode e ++ encode_commands cs) (length (encode e)) 0 K.SWITCHON h q)
      (a_switch (two-closed encode encode_commands T.switchon e cs 0 K.SWITCHON h q))
  form_of (T.resultis p e) f h q = so (kind-is (encode e) 0 p K.RESULTIS h q)
      (a_result (place_is (encode e) 0 p K.RESULTIS h q) (kid (encode e) 0 p K.RESULTIS h q) (ends (encode e) 0 p K.RESULTIS h q))
  form_of (T.leave w p) f h q = so (kind-is [] 0 p w h q) (leave-form f.0 (place_is [] 0 p w h q))
  form_of (T.block ls cs) f h q = so (kind-is (encode_locals ls ++ encode_commands cs) (length (encode_locals ls)) 0 K.BEGIN h q)
      (a_block (two-closed encode_locals encode_commands T.block ls cs 0 K.BEGIN h q))

pub form-at : {s : List ℕ} {end k : ℕ} {here : Here} {st : State} (n : Node) → NodeAt s end n → n.kind ≡ k → (y : ReadyU s end here st)
    → Form s y.lo end k y.tree
form-at {s} {end} n nd q y =
    subst (λ (k : ℕ). Form s y.lo end k y.tree) (sym nd.kind ∙ q) (form_of s y.lo end y.tree y.fine y.lies y.ends)

-- the same command has as many entries
pub same-long : {u v : Unlabelled} → u ≡ v → length (encode_unlabelled u) ≡ length (encode_unlabelled v)
same-long e = rw e
