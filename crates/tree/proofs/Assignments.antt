-- Assignments and calls: what their parts make together.
use Rattle.text.specs.declared.faults.Fault.TheVariants as V
use Rattle.laws.proofs.Basics.{ℕ, ◌+◌, ◌-◌, ◌≡◌, refl, sym, ap, subst, ◌∙◌, List, [], ◌++◌, append_assoc, append-nil, Bool, true, false, length}
use Rattle.laws.proofs.Basics.{length-append, arith}
use Rattle.language.specs.Kinds as K
use Rattle.language.specs.Tree as T
use Rattle.language.specs.Tree.{Expression}
use Rattle.language.specs.Reader.{Source, ok, on_out, unexpected, the, many_up_to, many, is_comma, further_items}
use Rattle.language.specs.Binding.{LOOSEST, goes_on_assignment}
use Rattle.language.specs.Expressions as E
use Rattle.language.specs.Commands as C
use Rattle.language.specs.Grammar.{within, readers}
use Rattle.tree.specs.Reads.{KindHere, Follows, Encodes, Reads, Refuses, Adds, record_from, Passes, free_of}
use Rattle.tree.specs.Between.{PrependsOne, Counted, an_argument, a_further, CallHere, After}
use Rattle.tree.specs.Encoding.{closed, encode, encode_expressions, encode_sides, encode_first, encode_unlabelled}
use Rattle.tree.proofs.Steps.{follow, bind, look, here, again, added, adds_on, goes_on_lem, ◌then◌, nothing, stopped}
use Rattle.tree.proofs.Symbols.{stays}
use Rattle.tree.proofs.Readers.{parts}
use Rattle.tree.proofs.Lets.{argument-first}
use Rattle.tree.specs.declared.scratch.State.{State}

-- {, expression} := expression {, expression}, after the first side
pub assignment-read :
    (src : Source) (size x lo : ℕ) {n v p t : ℕ} {s s₁ s₂ s₃ s₄ : List ℕ} {r r₁ r₂ r₃ r₄ r₅ : State} (e : Expression) → length src.symbols ≡ n
    → free_of size r ≡ lo + length (encode e) → v ≡ free_of size r - lo → p ≡ free_of size r₁ - lo
    → Follows (many_up_to n T.no_expressions is_comma (a_further x) src) (Counted t) s s₁ r r₁ → Reads (the K.ASSIGN src) (λ _. []) s₁ s₁ r₁ r₂
    → Follows (an_argument x src) PrependsOne s₁ s₂ r₂ r₃ → Reads (C.further (readers (within x)) t src) encode_expressions s₂ s₃ r₃ r₄
    → Adds (record_from lo v p K.ASSIGN) s₃ s₄ r₄ r₅ → Follows (C.assignment (readers (within x)) e src) (After e) s s₄ r r₅
unfolding C.assignment C.further_side further_items many a_further an_argument encode_unlabelled encode_sides encode_first
assignment-read src size x lo {n} {v} {p} {t} {s} {s₁} {s₂} {s₃} {s₄} {r} {r₁} {r₂} {r₃} {r₄} {r₅} e en free-is v-is p-is a b c d f =
    let cp = goes_on_lem c then goes_on_lem d then adds_on f in
    follow size (subst (λ (m : ℕ). Follows (many_up_to m T.no_expressions is_comma (a_further x) src) (Counted t) s s₁ r r₁) (sym en) a)
    (goes_on_lem b then cp) (λ es u g q₀. bind size (λ _. []) b cp (λ _ q₁.
    here _ (λ at free h. ap (λ (y : ℕ). on_out (E.expression (within x) LOOSEST src at)
    (λ i q. on_out (C.further (readers (within x)) y src q) (λ ds w. ok (T.assignment (T.and_expression e es) (T.and_expression i ds)) w))) g.many
    ∙ argument-first x src t at (T.assignment (T.and_expression e es)))
    (follow size c (goes_on_lem d then adds_on f) (λ put w h q₂. bind size encode_expressions d (adds_on f) (λ ds q₃. added size f (record {
      same = sym (ap (λ (y : List ℕ). encode e ++ (y ++ (w ++ (encode_expressions ds ++ record_from lo v p K.ASSIGN (free_of size r₄))))) g.same
          ∙ ap (λ (y : List ℕ). encode e ++ (encode_expressions es ++ y)) (sym (append_assoc w (encode_expressions ds) _))
          ∙ parts (encode e) (encode_expressions es) (w ++ encode_expressions ds) (free_of size r₄ - lo) v p K.ASSIGN (omega (
            arith,
            ap length g.same,
            length-append (encode e) (encode_expressions es ++ (w ++ encode_expressions ds)),
            length-append (encode_expressions es) (w ++ encode_expressions ds),
            length-append w (encode_expressions ds),
          )) ∙ ap (λ (y : List ℕ). closed (encode e ++ (encode_expressions es ++ y)) v p K.ASSIGN) (sym (h.puts ds))
          ∙ ap (λ (y : List ℕ). closed y v p K.ASSIGN) (sym (append_assoc (encode e) (encode_expressions es) (encode_expressions (put ds))))
          ∙ ap (λ (y : ℕ). closed ((encode e ++ encode_expressions es) ++ encode_expressions (put ds)) y p K.ASSIGN) (omega arith)
          ∙ ap (λ (y : ℕ). closed ((encode e ++ encode_expressions es) ++ encode_expressions (put ds)) (length (encode e)) y K.ASSIGN)
          (omega (arith, length-append (encode e) (encode_expressions es), ap length g.same)));
    }))))))

-- an expression, and what it begins
module _ (src : Source) (size x : ℕ) {s s₁ : List ℕ} {r r₁ : State} {kind : ℕ} (k : KindHere src r₁ kind)
    (d : Reads (E.expression (within x) LOOSEST src) encode s s₁ r r₁) where
  pub assignment-first :
      {lo : ℕ} {s₂ : List ℕ} {r₂ : State} → lo ≡ free_of size r → goes_on_assignment kind ≡ true → Passes r₁ r₂
      → ((e : Expression) → free_of size r₁ ≡ lo + length (encode e) → Follows (C.assignment (readers (within x)) e src) (After e) s₁ s₂ r₁ r₂)
      → Reads (C.assignment_or_call (readers (within x)) src) encode_unlabelled s s₂ r r₂
  unfolding C.assignment_or_call C.after_expression
  assignment-first lo-is q p g = bind size encode d p (λ e q₁. here _ (λ at free h. rw (sym (ap goes_on_assignment (k.here at free h)) ∙ q) refl)
      (again (λ u w. Encodes encode_unlabelled u (encode e ++ w)) (λ u w h. record { same = sym h.same }) (g e (omega arith))))

  module _ {call : Bool} (c : CallHere s₁ r₁ call) (q : goes_on_assignment kind ≡ false) where
    pub call-alone : call ≡ true → Reads (C.assignment_or_call (readers (within x)) src) encode_unlabelled s s₁ r r₁
    unfolding C.assignment_or_call C.after_expression C.call_command encode_unlabelled
    call-alone h = look size encode d stays (λ e v q₁. here (λ m. ok (T.call_command e) m) (λ at free y. rw (
      sym (ap goes_on_assignment (k.here at free y)) ∙ q,
      sym (c.here v.next v.free v.before e v.reads v.stands) ∙ h,
    ) refl) (nothing (record { same = append-nil (encode e) })))

    pub no_call :
        {r₂ : State} → call ≡ false → Refuses V.Unexpected r₁ r₂ → Passes r₁ r₂ → Reads (C.assignment_or_call (readers (within x)) src) encode_unlabelled s s₁ r r₂
    unfolding C.assignment_or_call C.after_expression C.call_command unexpected
    no_call h g p = look size encode d p (λ e v q₁. stopped (λ at free y. rw (
      sym (ap goes_on_assignment (k.here at free y)) ∙ q,
      sym (c.here v.next v.free v.before e v.reads v.stands) ∙ h,
    ) refl) g)
