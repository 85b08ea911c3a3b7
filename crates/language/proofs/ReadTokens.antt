-- What the grammar reads: no tree is written with fewer symbols than its tokens, and its numbers and strings are fine.
use Rattle.laws.proofs.Basics.{ℕ, zero, suc, ◌+◌, ◌<◌, ◌≤◌, ◌≡◌, refl, sym, ap, ◌∙◌, List, [], ◌∷◌, Bool, true, false, not, ◌&&◌, cond, length, eqb}
use Rattle.laws.proofs.Basics.{leb, arith, eqb-true, eqb-false, leb-true, not-true}
use Rattle.laws.proofs.Cases.{by_cases, contradiction, both_true}
use Rattle.language.specs.Kinds as K
use Rattle.language.specs.Kinds.{member}
use Rattle.language.specs.Binding.{binding_of, LOOSEST, is_monadic, reach_of, is_suffix, is_label, is_guard, is_leave, is_repeat, is_declaration}
use Rattle.language.specs.Binding.{goes_on_assignment, begins_command}
use Rattle.language.specs.Tree as T
use Rattle.language.specs.Tree.{Name, Simple, Label, Expression, Expressions, Suffixes, Operations, Commands, Unlabelled, Program, with_suffixes}
use Rattle.language.specs.Tree.{with_operations, is_call, count}
use Rattle.language.specs.Reader.{Source, Out, Reader, kind_at, place_at, symbol_at, is, unexpected, any, here, items}
use Rattle.language.specs.Expressions as E
use Rattle.language.specs.Expressions.{Readers, Inside}
use Rattle.language.specs.Commands as C
use Rattle.language.specs.Grammar as G
use Rattle.language.specs.Grammar.{within, tree_of}
use Rattle.language.specs.Fine.{label_count, FineName, FineNames, FineConstant, FineBy, FineLabels, Fine, FineList, FineSuffixes, FineOperations}
use Rattle.language.specs.Fine.{FineCommand, FineCommands, FineUnlabelled, FineRepeats, FineLocals, FineBody, FineFunctions, FineItems}
use Rattle.language.specs.Fine.{FineDeclaration, FineProgram}
use Rattle.language.proofs.Tokens.{begun, begun-not-empty, labels-tokens, labels_tokens, by_tokens, tokens, list_tokens, suffixes_tokens}
use Rattle.language.proofs.Tokens.{operations_tokens, command_tokens, commands_tokens, unlabelled_tokens, repeats_tokens, locals_tokens, body_tokens}
use Rattle.language.proofs.Tokens.{functions_tokens, declaration_tokens, program_tokens}
use Rattle.language.proofs.Levels.{InsideOf, within_of, by-binding}
use Rattle.language.proofs.Gives as Gives
use Rattle.language.proofs.Gives.{Answer, answer, refusal, bind, either, opened}
use Rattle.language.proofs.Takes.{Counts, Solid, Of, given, refused, NameHere, Written, got, take, putting, the_one, the-semicolon}
use Rattle.language.proofs.Takes.{optional-semicolon, a-name, any-one, again-one, again-the, many-up-to, many-of, items_of, further-of}
use Rattle.language.proofs.Takes.{close_of}

-- ---- kinds that are symbols, and no semicolons

solid_all : List ℕ → Bool
solid_all [] = true
solid_all (k ∷ ks) = (leb 1 k && not (eqb k 54)) && solid_all ks

member-solid : (ks : List ℕ) (kind : ℕ) → solid_all ks ≡ true → member kind ks ≡ true → Solid kind
unfolding member solid_all
member-solid [] kind a m = contradiction cc
member-solid (k ∷ ks) kind a m = let b = both_true (leb 1 k && not (eqb k 54)) (solid_all ks) a in
    let w = both_true (leb 1 k) (not (eqb k 54)) b.0 in
    by_cases (eqb kind k) (λ e. rw (eqb-true kind k e) (leb-true 1 k w.0, eqb-false k 54 (not-true (eqb k 54) w.1)))
    (λ e. member-solid ks kind b.1 (rw e at m))

monadic-solid : (kind : ℕ) → is_monadic kind ≡ true → Solid kind
unfolding is_monadic solid_all
monadic-solid kind e = member-solid (K.PLING ∷ K.AT ∷ K.PLUS ∷ K.MINUS ∷ K.NOT ∷ []) kind refl e

guard-solid : (kind : ℕ) → is_guard kind ≡ true → Solid kind
unfolding is_guard solid_all
guard-solid kind e = member-solid (K.IF ∷ K.UNLESS ∷ K.WHILE ∷ K.UNTIL ∷ []) kind refl e

leave-solid : (kind : ℕ) → is_leave kind ≡ true → Solid kind
unfolding is_leave solid_all
leave-solid kind e = member-solid (K.ENDCASE ∷ K.BREAK ∷ K.LOOP ∷ K.RETURN ∷ K.FINISH ∷ []) kind refl e

binding-solid : (kind : ℕ) → 1 ≤ binding_of kind → Solid kind
unfolding binding_of solid_all
binding-solid kind h = step 1 (member kind (K.STAR ∷ K.SLASH ∷ K.REM ∷ [])) (λ e. member-solid (K.STAR ∷ K.SLASH ∷ K.REM ∷ []) kind refl e)
    (step 2 (member kind (K.PLUS ∷ K.MINUS ∷ [])) (λ e. member-solid (K.PLUS ∷ K.MINUS ∷ []) kind refl e)
    (step 3 (member kind (K.EQUAL ∷ K.UNEQUAL ∷ K.LESS ∷ K.ATMOST ∷ K.MORE ∷ K.ATLEAST ∷ [])) (λ e.
    member-solid (K.EQUAL ∷ K.UNEQUAL ∷ K.LESS ∷ K.ATMOST ∷ K.MORE ∷ K.ATLEAST ∷ []) kind refl e)
    (step 4 (member kind (K.LEFT ∷ K.RIGHT ∷ [])) (λ e. member-solid (K.LEFT ∷ K.RIGHT ∷ []) kind refl e)
    (step 6 (eqb kind K.AMPERSAND) (λ e. same K.AMPERSAND e (omega arith)) (step 7 (eqb kind K.BAR) (λ e. same K.BAR e (omega arith))
    (λ z. absurd (omega arith))))))) h
  where
    same : (k : ℕ) → eqb kind k ≡ true → Solid k → Solid kind
    same k e q = let z : kind ≡ k = eqb-true kind k e in (omega (arith, q.0), λ w. q.1 (sym z ∙ w))

    step : (x : ℕ) {y : ℕ} (t : Bool) → (t ≡ true → Solid kind) → (1 ≤ y → Solid kind) → 1 ≤ cond t x y → Solid kind
    step x true f g l = f refl
    step x false f g l = g l

module _ {loops : ℕ} (s : Source) (strings : ℕ) (c : ℕ → ℕ) (k : Counts loops s strings c) where
  abbrev O : {A : Type 0} → (A → Type 0) → (A → ℕ) → ℕ → Out A → Type 0
  O P W at o = Answer (Written k P W at) o

  abbrev Put : {A : Type 0} → (A → Type 0) → (A → ℕ) → ℕ → Out (A → A) → Type 0
  Put P W at o = Gives.Put (Written k P W) at o

  abbrev OE : ℕ → Out Expression → Type 0
  OE at o = O (Fine strings) (tokens loops) at o

  record Inner (r : Readers) : Type 0 where
    expressions : (b at : ℕ) → OE at (r.expression b s at)
    commands : (at : ℕ) → O (FineCommand strings) (command_tokens loops) at (r.command s at)
    constants : (at : ℕ) → O FineConstant (λ _. 1) at (r.constant s at)

  -- a symbol of a kind that stands here
  this-one : (kind at : ℕ) → is kind s at ≡ true → Solid kind → Answer (Written k (λ x. x ≡ symbol_at s at) (λ _. 1) at) (any s at)
  this-one kind at e h = let q = eqb-true (kind_at s at) kind e in any-one k at (rw q h)

  -- ---- expressions

  with-suffixes : (e : Expression) (ss : Suffixes) → Fine strings e → FineSuffixes strings ss
      → Fine strings (with_suffixes e ss) × (tokens loops (with_suffixes e ss) ≤ tokens loops e + suffixes_tokens loops ss)
  unfolding with_suffixes Fine tokens FineSuffixes suffixes_tokens
  with-suffixes e T.no_suffixes p f = (p, omega arith)
  with-suffixes e (T.call es ss) p f = ((p, f, λ z. contradiction cc), omega arith)
  with-suffixes e (T.index d ss) p f = ((p, f, λ z. contradiction cc), omega arith)

  with-operations : (e : Expression) (os : Operations) → Fine strings e → FineOperations strings os
      → Fine strings (with_operations e os) × (tokens loops (with_operations e os) ≤ tokens loops e + operations_tokens loops os)
  unfolding with_operations Fine tokens FineOperations operations_tokens
  with-operations e T.no_operations p f = (p, omega arith)
  with-operations e (T.operation o d os) p f = ((p, f, λ z. contradiction cc), omega arith)

  chain : (b : ℕ) → 1 ≤ b → (left right : Reader Expression) → ((n : ℕ) → OE n (left s n)) → ((n : ℕ) → OE n (right s n)) → (at : ℕ)
      → OE at (E.chain b left right s at)
  unfolding E.chain E.operations E.operation FineOperations operations_tokens
  chain b l left right f g at = take (f at) λ e n₁ q l₁.
      take (many-up-to k (FineOperations strings) (operations_tokens loops) T.no_operations tt (omega arith) _ (λ kind. eqb (binding_of kind) b)
      operation (E.most_of b s) n₁) λ os n₂ p l₂.
      let w = with-operations e os q p in
      got w.0 (omega (arith, w.1))
    where
      operation : (n : ℕ) → eqb (binding_of (kind_at s n)) b ≡ true → Put (FineOperations strings) (operations_tokens loops) n (E.operation right s n)
      operation n e = let z : binding_of (kind_at s n) ≡ b = eqb-true _ _ e in
          take (any-one k n (binding-solid (kind_at s n) (omega arith))) λ x n₁ _ l₁.
          take (g n₁) λ d n₂ q l₂. putting (λ os f. (q, f)) (λ os. omega arith)

  module _ {inner : Inside} (i : InsideOf Inner inner) where
    primary : (at : ℕ) → OE at (E.primary inner s at)
    unfolding E.primary E.numeral E.quotation E.truth E.named E.bracketed E.valof unexpected Fine tokens
    primary at = either (is K.NUMBER s at)
        (λ e. take (this-one K.NUMBER at e (omega arith)) λ x _ q l. got (rw q (k.numbers at (eqb-true _ _ e))) (omega arith))
        (λ _. either (is K.STRING s at)
        (λ e. take (this-one K.STRING at e (omega arith)) λ x _ q l. got (rw q (k.quotes at (eqb-true _ _ e))) (omega arith))
        (λ _. either (is K.TRUE s at) (λ e. take (this-one K.TRUE at e (omega arith)) λ x _ q l. got (omega arith) (omega arith))
        (λ _. either (is K.FALSE s at) (λ e. take (this-one K.FALSE at e (omega arith)) λ x _ q l. got (omega arith) (omega arith))
        (λ _. either (is K.NAME s at) (λ _. take (a-name k at) λ n _ q l. got tt (omega arith)) (λ _. either (is K.OPEN s at) (λ _. opened _ i λ r j.
        take (the_one k K.OPEN at (omega arith)) λ place n₁ _ l₁.
        take (j.expressions LOOSEST n₁) λ e n₂ q l₂.
        take (the_one k K.CLOSE n₂ (omega arith)) λ _ n₃ _ l₃. got q (omega arith)) (λ _. either (is K.VALOF s at) (λ _. opened _ i λ r j.
        take (the_one k K.VALOF at (omega arith)) λ place n₁ _ l₁. take (j.commands n₁) λ e n₂ q l₂. got q (omega arith)) (λ _. refusal)))))))

    monadic : (at : ℕ) → is_monadic (kind_at s at) ≡ true → OE at (E.monadic inner s at)
    unfolding E.monadic Fine tokens
    monadic at e = opened _ i λ r j.
        take (any-one k at (monadic-solid (kind_at s at) e)) λ x n₁ _ l₁. take (j.expressions (reach_of x.kind) n₁) λ e n₂ q l₂. got q (omega arith)

    suffix : (at : ℕ) → Put (FineSuffixes strings) (suffixes_tokens loops) at (E.suffix inner s at)
    unfolding E.suffix E.arguments E.index E.subscript FineSuffixes suffixes_tokens FineList list_tokens
    suffix at = either (is K.OPEN s at) (λ _. opened _ i λ r j. take (the_one k K.OPEN at (omega arith)) λ place n₁ _ l₁.
        take (close_of k (FineList strings) (list_tokens loops) T.no_expressions tt (omega arith) _
        (λ n. take (j.expressions LOOSEST n) λ e n₁ q l₁. putting (λ es f. (q, f)) (λ es. omega arith)) n₁) λ es n₂ q l₂.
        putting (λ ss f. (q, f)) (λ ss. omega arith)) (λ _. take (the_one k K.PLING at (omega arith)) λ place n₁ _ l₁.
        take (either (is_monadic (kind_at s n₁)) (λ e. monadic n₁ e) (λ _. primary n₁)) λ e n₂ q l₂. putting (λ ss f. (q, f)) (λ ss. omega arith))

    operand : (at : ℕ) → OE at (E.operand inner s at)
    unfolding E.operand E.suffixed FineSuffixes suffixes_tokens
    operand at = either (is_monadic (kind_at s at)) (monadic at) λ _. take (primary at) λ e n₁ q l₁.
        take (many-of k (FineSuffixes strings) (suffixes_tokens loops) T.no_suffixes tt (omega arith) (E.suffix inner) is_suffix (λ n _. suffix n) n₁)
        λ ss n₂ f l₂.
        let w = with-suffixes e ss q f in
        got w.0 (omega (arith, w.1))

    expression : (binding at : ℕ) → OE at (E.expression inner binding s at)
    unfolding E.negations is_monadic member
    expression = by-binding (λ _ r. (n : ℕ) → OE n (r s n)) (λ b. 1 ≤ b) (λ _ _ _ _ f. f) (λ b _. chain b) inner operand
        (λ shifts at. either (is K.NOT s at) (λ e. monadic at (let q = eqb-true (kind_at s at) K.NOT e in rw q refl)) (λ _. shifts at))
        (omega arith) (omega arith) (omega arith) (omega arith) (omega arith) (omega arith)

  -- ---- constants

  -- what stands in a constant, at a position
  record FineSimple (at : ℕ) (x : Simple) : Type 0 where
    small : (v : ℕ) → x ≡ T.literal v → v < 65536
    here : (n : Name) → x ≡ T.known n → place_at s at ≡ n.place

  fine-literal : (at v : ℕ) → v < 65536 → FineSimple at (T.literal v)
  fine-literal at v l = record { small = λ w e. let z : v ≡ w = cc in omega arith; here = λ n e. contradiction cc }

  fine-known : (at : ℕ) (n : Name) → NameHere s at n → FineSimple at (T.known n)
  fine-known at n q = record { small = λ v e. contradiction cc; here = λ m e. let z : n ≡ m = cc in cc q.stands_here }

  simple : (at : ℕ) → O (FineSimple at) (λ _. 1) at (E.simple s at)
  unfolding E.simple E.literal E.truth_literal E.known
  simple at = either (is K.NUMBER s at) (λ e. take (this-one K.NUMBER at e (omega arith)) λ x _ q l.
      got (fine-literal at x.value (rw q (k.numbers at (eqb-true _ _ e)))) (omega arith))
      (λ _. either (is K.TRUE s at) (λ e. take (this-one K.TRUE at e (omega arith)) λ x _ q l.
      got (fine-literal at 65535 (omega arith)) (omega arith))
      (λ _. either (is K.FALSE s at) (λ e. take (this-one K.FALSE at e (omega arith)) λ x _ q l. got (fine-literal at 0 (omega arith)) (omega arith))
      (λ _. take (a-name k at) λ n _ q l. got (fine-known at n q) (omega arith))))

  constant : {inner : Inside} → InsideOf Inner inner → (at : ℕ) → O FineConstant (λ _. 1) at (E.constant inner s at)
  unfolding E.constant E.negative E.positive here
  constant i at = either (is K.MINUS s at) (λ _. opened _ i λ r j.
      take (the_one k K.MINUS at (omega arith)) λ place n₁ _ l₁.
      take (simple n₁) λ x n₂ q l₂.
      got (record { small = q.small; place = λ n e f. contradiction cc }) (omega arith))
      (λ _. take (simple at) λ x n₂ q l₂. got (record { small = q.small; place = λ n e f. q.here n e }) (omega arith))

  -- ---- commands

  label-tokens : (cs : Commands) → label_count cs ≤ commands_tokens loops cs
  unfolding label_count commands_tokens
  label-tokens T.no_commands = omega arith
  label-tokens (T.and_command (T.command ls u rs) cs) = omega (arith, labels-tokens ls, label-tokens cs)

  abbrev OU : ℕ → Out Unlabelled → Type 0
  OU at o = O (λ u. FineUnlabelled strings u × (begun u ≡ true)) (unlabelled_tokens loops) at o

  module _ {r : Readers} (j : Inner r) where
    test : (at : ℕ) → OU at (C.test r s at)
    unfolding C.test FineUnlabelled unlabelled_tokens
    test at = take (the_one k K.TEST at (omega arith)) λ _ n₁ _ l₁. take (j.expressions LOOSEST n₁) λ e n₂ p l₂.
        take (the_one k K.DO n₂ (omega arith)) λ _ n₃ _ l₃. take (j.commands n₃) λ x n₄ q l₄.
        take (the_one k K.OR n₄ (omega arith)) λ _ n₅ _ l₅. take (j.commands n₅) λ y n₆ t l₆. got ((p, q, t), refl) (omega arith)

    guarded : (at : ℕ) → is_guard (kind_at s at) ≡ true → OU at (C.guarded r s at)
    unfolding C.guarded FineUnlabelled unlabelled_tokens
    guarded at h = take (any-one k at (guard-solid (kind_at s at) h)) λ x n₁ e l₁. take (j.expressions LOOSEST n₁) λ _ n₂ p l₂.
        take (the_one k K.DO n₂ (omega arith)) λ _ n₃ _ l₃. take (j.commands n₃) λ y n₄ q l₄. got ((p, q, rw e h), refl) (omega arith)

    optional-by : (at : ℕ) → O FineBy by_tokens at (C.optional_by r s at)
    unfolding C.optional_by C.by
    optional-by at = either (is K.BY s at)
        (λ _. take (the_one k K.BY at (omega arith)) λ _ n₁ _ l₁. take (j.constants n₁) λ x n₂ p l₂. got p (omega arith)) (λ _. got tt (omega arith))

    for : (at : ℕ) → OU at (C.for r s at)
    unfolding C.for FineUnlabelled unlabelled_tokens
    for at = take (the_one k K.FOR at (omega arith)) λ _ n₁ _ l₁. take (a-name k n₁) λ x n₂ o l₂.
        take (the_one k K.EQUAL n₂ (omega arith)) λ _ n₃ _ l₃. take (j.expressions LOOSEST n₃) λ e n₄ p l₄.
        take (the_one k K.TO n₄ (omega arith)) λ _ n₅ _ l₅. take (j.expressions LOOSEST n₅) λ d n₆ q l₆.
        take (optional-by n₆) λ b n₇ t l₇.
        take (the_one k K.DO n₇ (omega arith)) λ _ n₈ _ l₈. take (j.commands n₈) λ y n₉ u l₉. got ((p, q, t, u, o.fine), refl) (omega arith)

    the_items : (at : ℕ) → O (FineCommands strings) (commands_tokens loops) at (items T.no_commands (C.listed r) s at)
    unfolding C.listed FineCommands commands_tokens
    the_items = items_of k (FineCommands strings) (commands_tokens loops) T.no_commands tt (omega arith) (C.listed r)
        (λ n. take (j.commands n) λ x n₁ p l₁. putting (λ cs f. (p, f)) (λ cs. omega arith))

    switchon : (at : ℕ) → OU at (C.switchon r s at)
    unfolding C.switchon FineUnlabelled unlabelled_tokens
    switchon at = take (the_one k K.SWITCHON at (omega arith)) λ _ n₁ _ l₁. take (j.expressions LOOSEST n₁) λ e n₂ p l₂.
        take (the_one k K.INTO n₂ (omega arith)) λ _ n₃ _ l₃. take (the_one k K.BEGIN n₃ (omega arith)) λ _ n₄ _ l₄.
        take (the_items n₄) λ cs n₅ q l₅. got ((p, q, omega (arith, label-tokens cs, k.most n₅)), refl) (omega arith)

    -- so many expressions
    record Further (n : ℕ) (es : Expressions) : Type 0 where
      fine : FineList strings es
      many-of-them : count es ≡ n

    further : (n at : ℕ) → O (Further n) (list_tokens loops) at (C.further r n s at)
    unfolding C.further FineList list_tokens count
    further zero at = got (record { fine = tt; many-of-them = refl }) (omega arith)
    further (suc n) at = take (the_one k K.COMMA at (omega arith)) λ _ n₁ _ l₁. take (j.expressions LOOSEST n₁) λ e n₂ p l₂.
        take (further n n₂) λ es n₃ q l₃. got (record { fine = (p, q.fine); many-of-them = ap suc q.many-of-them }) (omega arith)

    -- the symbols of a LET before its values
    values : (x : Name) (xs : List Name) (at at₀ : ℕ) → FineName x → FineNames xs → c at₀ + (3 + length xs) ≤ c at
        → Put (FineLocals strings) (locals_tokens loops) at₀ (C.values r x xs s at)
    unfolding C.values FineLocals locals_tokens FineList list_tokens FineNames count
    values x xs at at₀ f₁ fs l = take (j.expressions LOOSEST at) λ e n₁ p l₁. take (further (length xs) n₁) λ es n₂ q l₂.
        putting (λ ls f. ((p, q.fine), f, ap suc q.many-of-them, (f₁, fs))) (λ ls. omega arith)

    given_to : (x : Name) (xs : List Name) (at at₀ : ℕ) → FineName x → FineNames xs → c at₀ + (3 + length xs) ≤ c at
        → Put (FineLocals strings) (locals_tokens loops) at₀ (C.given r x xs s at)
    unfolding C.given C.vector FineLocals locals_tokens
    given_to x [] at at₀ f₁ fs l = either (is K.VEC s at) (λ _. take (the_one k K.VEC at (omega arith)) λ _ n₁ _ l₁.
        take (j.constants n₁) λ y n₂ p l₂. putting (λ ls f. (p, f, f₁)) (λ ls. omega arith)) (λ _. values x [] at at₀ f₁ fs l)
    given_to x (y ∷ xs) at at₀ f₁ fs l = values x (y ∷ xs) at at₀ f₁ fs l

    local : (at : ℕ) → Put (FineLocals strings) (locals_tokens loops) at (C.local r s at)
    unfolding C.local C.further_name FineNames
    local at = take (the_one k K.LET at (omega arith)) λ _ n₁ _ l₁. take (a-name k n₁) λ x n₂ p l₂.
        take (further-of k FineNames length [] tt (omega arith) (C.further_name r)
        (λ n. take (a-name k n) λ x n₁ q l₁. putting (λ xs f. (q.fine, f)) (λ xs. omega arith)) n₂) λ xs n₃ q l₃.
        take (the_one k K.EQUAL n₃ (omega arith)) λ _ n₄ _ l₄.
        bind (given_to x xs n₄ at p.fine q (omega arith)) λ put n₅ keep.
        take (optional-semicolon k n₅) λ _ n₆ _ l₆. answer λ a m i. keep a m (record { has = i.has; taken = omega (arith, i.taken) })

    block : (at : ℕ) → OU at (C.block r s at)
    unfolding C.block C.commands_to_end C.semicolon_end FineUnlabelled unlabelled_tokens FineLocals locals_tokens FineCommands commands_tokens
    block at = take (the_one k K.BEGIN at (omega arith)) λ _ n₁ _ l₁.
        take (many-of k (FineLocals strings) (locals_tokens loops) T.no_locals tt (omega arith) (C.local r) (λ kind. eqb kind K.LET)
        (λ n _. local n) n₁)
        λ ls n₂ p l₂. take (commands-to-end n₂) λ cs n₃ q l₃. got ((p, q), refl) (omega arith)
      where
        commands-to-end : (at : ℕ) → O (FineCommands strings) (commands_tokens loops) at (C.commands_to_end r s at)
        commands-to-end at = either (is K.END s at) (λ _. got tt (omega (arith, k.up at))) (λ _. either (is K.SEMICOLON s at)
            (λ _. take (the-semicolon k at) λ _ n₁ _ l₁. take (the_one k K.END n₁ (omega arith)) λ _ n₂ _ l₂. got tt (omega arith))
            (λ _. the_items at))

    assignment-or-call : (at : ℕ) → OU at (C.assignment_or_call r s at)
    unfolding C.assignment_or_call C.after_expression C.assignment C.further_side C.call_command FineUnlabelled unlabelled_tokens FineList list_tokens count
        unexpected
    assignment-or-call at = take (j.expressions LOOSEST at) λ e n₁ f l₁. either (goes_on_assignment (kind_at s n₁))
        (λ _. take (further-of k (FineList strings) (list_tokens loops) T.no_expressions tt (omega arith) (C.further_side r)
        (λ n. take (j.expressions LOOSEST n) λ e n₁ p l₁. putting (λ es f. (p, f)) (λ es. omega arith)) n₁) λ es n₂ p l₂.
        take (the_one k K.ASSIGN n₂ (omega arith)) λ _ n₃ _ l₃. take (j.expressions LOOSEST n₃) λ d n₄ q l₄.
        take (further (count es) n₄) λ ds n₅ t l₅.
        got (((f, p), (q, t.fine), omega arith, ap suc (sym t.many-of-them)), refl) (omega arith))
        (λ _. either (is_call e) (λ h. got ((f, h), refl) l₁) (λ _. refusal))

    unlabelled : (at : ℕ) → OU at (C.unlabelled r s at)
    unfolding C.unlabelled C.resultis C.leave FineUnlabelled unlabelled_tokens
    unlabelled at = either (is K.TEST s at) (λ _. test at) (λ _. either (is_guard (kind_at s at)) (λ e. guarded at e)
        (λ _. either (is K.FOR s at) (λ _. for at) (λ _. either (is K.SWITCHON s at) (λ _. switchon at) (λ _. either (is K.RESULTIS s at)
        (λ _. take (the_one k K.RESULTIS at (omega arith)) λ _ n₁ _ l₁. take (j.expressions LOOSEST n₁) λ e n₂ p l₂. got (p, refl) (omega arith))
        (λ _. either (is_leave (kind_at s at)) (λ h. take (any-one k at (leave-solid (kind_at s at) h)) λ x n₁ e l₁. got (rw e h, refl) (omega arith))
        (λ _. either (is K.BEGIN s at) (λ _. block at) (λ _. assignment-or-call at)))))))

    repeat-form : (at : ℕ) → is_repeat (kind_at s at) ≡ true → Put (FineRepeats strings) (repeats_tokens loops) at (C.repeat_form r s at)
    unfolding C.repeat_form C.repeat C.repeat_on FineRepeats repeats_tokens
    repeat-form at h = either (is K.REPEAT s at) (λ _. take (again-the k at h K.REPEAT) λ _ n₁ _ l₁. putting (λ rs f. f) (λ rs. omega arith))
        (λ _. take (again-one k at h) λ x n₁ _ l₁. take (j.expressions LOOSEST n₁) λ e n₂ p l₂. putting (λ rs f. (p, f)) (λ rs. omega arith))

    repeated : (ls : List Label) (at at₀ : ℕ) → FineLabels ls → c at₀ + labels_tokens ls ≤ c at
        → O (FineCommand strings) (command_tokens loops) at₀ (C.repeated r ls s at)
    unfolding C.repeated FineCommand command_tokens FineRepeats repeats_tokens
    repeated ls at at₀ f h = take (unlabelled at) λ u n₁ p l₁.
        take (many-of k (FineRepeats strings) (repeats_tokens loops) T.no_repeats tt (omega arith)
        (C.repeat_form r) is_repeat repeat-form n₁) λ rs n₂ q l₂.
        got (f, p.0, q, record { labels = λ e. absurd (begun-not-empty u p.1 e); alone = λ e. absurd (begun-not-empty u p.1 e) }) (omega arith)

  empty-command : (ls : List Label) (at at₀ : ℕ) → FineLabels ls → c at₀ + labels_tokens ls ≤ c at
      → O (FineCommand strings) (command_tokens loops) at₀ (C.empty_command ls s at)
  unfolding C.empty_command unexpected FineCommand FineUnlabelled FineRepeats command_tokens unlabelled_tokens repeats_tokens
  empty-command [] at at₀ f h = refusal
  empty-command (l ∷ ls) at at₀ f h = got (f, tt, tt, record { labels = λ e. omega arith; alone = λ e. refl }) (omega arith)

  module _ {inner : Inside} (i : InsideOf Inner inner) where
    label : (at : ℕ) → Put FineLabels labels_tokens at (C.label inner s at)
    unfolding C.label C.case C.default FineLabels labels_tokens
    label at = bind (either {R = Labelled} (is K.CASE s at)
        (λ _. take (the_one k K.CASE at (omega arith)) λ place n₁ _ l₁. take (constant i n₁) λ x n₂ p l₂.
        take (the_one k K.COLON n₂ (omega arith)) λ _ n₃ _ l₃. answer λ ls m q. record { has = (p, q.has); taken = omega (arith, q.taken) })
        (λ _. take (the_one k K.DEFAULT at (omega arith)) λ place n₁ _ l₁. take (the_one k K.COLON n₁ (omega arith)) λ _ n₂ _ l₂.
        answer λ ls m q. record { has = q.has; taken = omega (arith, q.taken) })) λ l n q. answer q
      where
        -- what a label that ends there puts before labels
        Labelled : Label → ℕ → Type 0
        Labelled l n = (ls : List Label) (m : ℕ) → Written k FineLabels labels_tokens n ls m → Written k FineLabels labels_tokens at (l ∷ ls) m

    command : (at : ℕ) → O (FineCommand strings) (command_tokens loops) at (C.command inner s at)
    unfolding C.command C.after_labels FineLabels labels_tokens
    command at = take (many-of k FineLabels labels_tokens [] tt (omega arith) (C.label inner) is_label (λ n _. label n) at) λ ls n₁ p l₁.
        either (begins_command (kind_at s n₁)) (λ _. opened (λ r. C.repeated r ls) i (λ r j. repeated j ls n₁ at p l₁))
        (λ _. empty-command ls n₁ at p l₁)

  inner-within : (n : ℕ) → InsideOf Inner (within n)
  inner-within = within_of (λ _. Inner) (λ _ _ i. record { expressions = expression i; commands = command i; constants = constant i })

  -- ---- programs

  body : (at : ℕ) → O (FineBody strings) (λ b. 1 + body_tokens loops b) at (G.body s at)
  unfolding G.body G.value G.routine
  body at = either (is K.EQUAL s at)
      (λ _. take (the_one k K.EQUAL at (omega arith)) λ _ n₁ _ l₁. take (expression (inner-within 64) LOOSEST n₁) λ e n₂ p l₂. got p (omega arith))
      (λ _. take (the_one k K.BE at (omega arith)) λ _ n₁ _ l₁. take (command (inner-within 64) n₁) λ e n₂ p l₂. got p (omega arith))

  function : (at at₀ : ℕ) → c at₀ ≤ c at → Put (FineFunctions strings) (functions_tokens loops) at₀ (G.function s at)
  unfolding G.function G.parameter FineFunctions functions_tokens FineNames
  function at at₀ h = take (a-name k at) λ x n₁ m l₁. take (the_one k K.OPEN n₁ (omega arith)) λ _ n₂ _ l₂.
      take (close_of k FineNames length [] tt (omega arith) G.parameter
      (λ n. take (a-name k n) λ x n₁ q l₁. putting (λ xs f. (q.fine, f)) (λ xs. omega arith)) n₂) λ xs n₃ q l₃.
      take (body n₃) λ b n₄ p l₄. putting (λ fs f. (record { name = m.fine; parameters = q; body = p }, f)) (λ fs. omega arith)

  item : (sign at : ℕ) → Solid sign → Put (FineItems strings) (λ _. 0) at (G.item sign s at)
  unfolding G.item FineItems
  item sign at h = take (a-name k at) λ x n₁ q l₁. take (the_one k sign n₁ h) λ _ n₂ _ l₂. take (constant (inner-within 64) n₂) λ y n₃ p l₃.
      putting (λ is f. (record { name = q.fine; constant = p }, f)) (λ is. omega arith)

  declaration : (at : ℕ) → O (FineDeclaration strings) (declaration_tokens loops) at (G.declaration s at)
  unfolding G.declaration G.globals G.manifests G.functions G.and_function FineItems FineFunctions functions_tokens
  declaration at = either (is K.GLOBAL s at)
      (λ _. take (the_one k K.GLOBAL at (omega arith)) λ _ n₁ _ l₁. take (the_one k K.BEGIN n₁ (omega arith)) λ _ n₂ _ l₂.
      take (items_of k (FineItems strings) (λ _. 0) [] tt (omega arith) (G.item K.COLON) (λ n. item K.COLON n (omega arith)) n₂) λ xs n₃ p l₃.
      got p (omega arith)) (λ _. either (is K.MANIFEST s at)
      (λ _. take (the_one k K.MANIFEST at (omega arith)) λ _ n₁ _ l₁. take (the_one k K.BEGIN n₁ (omega arith)) λ _ n₂ _ l₂.
      take (items_of k (FineItems strings) (λ _. 0) [] tt (omega arith) (G.item K.EQUAL) (λ n. item K.EQUAL n (omega arith)) n₂) λ xs n₃ p l₃.
      got p (omega arith)) (λ _. take (the_one k K.LET at (omega arith)) λ _ n₁ _ l₁.
      bind (function n₁ at (omega arith)) λ put n₂ keep.
      bind (many-of k (FineFunctions strings) (functions_tokens loops) [] tt (omega arith) G.and_function (λ kind. eqb kind K.AND)
      (λ n _. take (the_one k K.AND n (omega arith)) λ _ m _ l. function m n (omega arith)) n₂) λ fs n₃ q.
      let w = keep fs n₃ q in
      got w.has w.taken))

  declared : (at : ℕ) → Put (FineProgram strings) (program_tokens loops) at (G.declared s at)
  unfolding G.declared FineProgram program_tokens
  declared at = take (declaration at) λ d n₁ p l₁. take (optional-semicolon k n₁) λ _ n₂ _ l₂. putting (λ ds f. (p, f)) (λ ds. omega arith)

  whole : O (FineProgram strings) (program_tokens loops) 0 (tree_of s)
  unfolding tree_of G.program G.whole unexpected FineProgram program_tokens
  whole = take (many-of k (FineProgram strings) (program_tokens loops) [] tt (omega arith) G.declared is_declaration (λ n _. declared n) 0) λ p n₁ f l₁.
      either (is K.NOTHING s n₁) (λ _. got f l₁) (λ _. refusal)

  -- the whole program
  pub program : Of s strings c k (FineProgram strings) (program_tokens loops) 0 (tree_of s)
  program = go whole
    where
      go : {o : Out Program} → O (FineProgram strings) (program_tokens loops) 0 o → Of s strings c k (FineProgram strings) (program_tokens loops) 0 o
      go (answer w) = given w.has w.taken
      go refusal = refused
