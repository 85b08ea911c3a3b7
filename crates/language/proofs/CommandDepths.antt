-- The depth of commands, and of whole programs: at most 8 for each of the 64 levels, and 8 more.
use Rattle.laws.proofs.Basics.{ℕ, zero, suc, ◌+◌, ◌*◌, ◌≤◌, List, [], ◌∷◌, length, eqb, arith}
use Rattle.language.specs.Kinds as K
use Rattle.language.specs.Binding.{LOOSEST, is_label, is_guard, is_leave, is_repeat, is_declaration, goes_on_assignment, begins_command}
use Rattle.language.specs.Tree as T
use Rattle.language.specs.Tree.{Name, Label, Program, is_call, count}
use Rattle.language.specs.Reader.{Source, Out, kind_at, is, unexpected, any, the, optional, a_name, many, items, further_items, up_to_close}
use Rattle.language.specs.Expressions.{Readers, Inside}
use Rattle.language.specs.Commands as C
use Rattle.language.specs.Grammar as G
use Rattle.language.specs.Grammar.{within, tree_of}
use Rattle.language.proofs.Depth.{depth, expressions_depth, command_depth, commands_depth, unlabelled_depth, repeats_depth, locals_depth, body_depth}
use Rattle.language.proofs.Depth.{functions_depth, declaration_depth, program_depth}
use Rattle.language.proofs.Levels.{InsideOf, within_of}
use Rattle.language.proofs.Gives.{Of, given, refused, answer, refusal, give, bind, on, related, both, opened, many-of, items_of, further-of}
use Rattle.language.proofs.Depths.{Deep, Low, LowPut, LowReaders, expression}

pub record LowProgram (p : Program) : Type 0 where
  pub low : program_depth p ≤ 520

module _ (s : Source) where
  module _ {d : ℕ} {r : Readers} (b : LowReaders s d r) where
    test : (at : ℕ) → Low unlabelled_depth d (C.test r s at)
    unfolding C.test depth
    test at = on (the K.TEST s at) λ _ n₁. bind (b.expressions LOOSEST n₁) λ e n₂ p.
        on (the K.DO s n₂) λ _ n₃. bind (b.commands n₃) λ c n₄ q. on (the K.OR s n₄) λ _ n₅. bind (b.commands n₅) λ c' n₆ q'. give (omega arith)

    guarded : (at : ℕ) → Low unlabelled_depth d (C.guarded r s at)
    unfolding C.guarded depth
    guarded at =
        on (any s at) λ x n₁. bind (b.expressions LOOSEST n₁) λ e n₂ p. on (the K.DO s n₂) λ _ n₃. bind (b.commands n₃) λ c _ q. give (omega arith)

    for : (at : ℕ) → Low unlabelled_depth d (C.for r s at)
    unfolding C.for depth
    for at = on (the K.FOR s at) λ _ n₁. on (a_name s n₁) λ n n₂. on (the K.EQUAL s n₂) λ _ n₃. bind (b.expressions LOOSEST n₃) λ e n₄ p.
        on (the K.TO s n₄) λ _ n₅. bind (b.expressions LOOSEST n₅) λ e' n₆ p'.
        on (C.optional_by r s n₆) λ k n₇. on (the K.DO s n₇) λ _ n₈. bind (b.commands n₈) λ c _ q. give (omega arith)

    the_items : (at : ℕ) → Low commands_depth d (items T.no_commands (C.listed r) s at)
    unfolding C.listed depth
    the_items = items_of s (Deep commands_depth d) T.no_commands (λ _. omega arith) (C.listed r) (λ _ _ _ i. i)
        (λ n. bind (b.commands n) λ c _ p. give λ cs _ q. omega arith)

    switchon : (at : ℕ) → Low unlabelled_depth d (C.switchon r s at)
    unfolding C.switchon depth
    switchon at = on (the K.SWITCHON s at) λ _ n₁. bind (b.expressions LOOSEST n₁) λ e n₂ p.
        on (the K.INTO s n₂) λ _ n₃. on (the K.BEGIN s n₃) λ _ n₄. bind (the_items n₄) λ cs _ q. give (omega arith)

    further : (n at : ℕ) → Low expressions_depth d (C.further r n s at)
    unfolding C.further depth
    further zero at = give (omega arith)
    further (suc n) at = on (the K.COMMA s at) λ _ n₁. bind (b.expressions LOOSEST n₁) λ e n₂ p. bind (further n n₂) λ es _ q. give (omega arith)

    values : (n : Name) (ns : List Name) (at : ℕ) → LowPut locals_depth d (C.values r n ns s at)
    unfolding C.values depth
    values n ns at = bind (b.expressions LOOSEST at) λ e n₁ p. bind (further (length ns) n₁) λ es _ p'. give λ ls _ q. omega arith

    given_to : (n : Name) (ns : List Name) (at : ℕ) → LowPut locals_depth d (C.given r n ns s at)
    unfolding C.given C.vector depth
    given_to n [] at = both (is K.VEC s at) (on (the K.VEC s at) λ _ n₁. on (r.constant s n₁) λ c _. give λ ls _ q. q) (values n [] at)
    given_to n (m ∷ ns) at = values n (m ∷ ns) at

    local : (at : ℕ) → LowPut locals_depth d (C.local r s at)
    unfolding C.local
    local at = on (the K.LET s at) λ _ n₁. on (a_name s n₁) λ n n₂. on (further_items [] (C.further_name r) s n₂) λ ns n₃.
        on (the K.EQUAL s n₃) λ _ n₄. bind (given_to n ns n₄) λ put n₅ q. on (optional K.SEMICOLON s n₅) λ _ _. give q

    block : (at : ℕ) → Low unlabelled_depth d (C.block r s at)
    unfolding C.block C.commands_to_end C.semicolon_end depth
    block at = on (the K.BEGIN s at) λ _ n₁.
        bind (many-of s (Deep locals_depth d) T.no_locals (λ _. omega arith) (C.local r) (λ kind. eqb kind K.LET) (λ n _. local n) n₁) λ ls n₂ p.
        bind (both {R = Deep commands_depth d 0} (is K.END s n₂) (give (omega arith))
        (both (is K.SEMICOLON s n₂) (on (the K.SEMICOLON s n₂) λ _ n₃. on (the K.END s n₃) λ _ _. give (omega arith)) (the_items n₂))) λ cs _ q.
        give (omega arith)

    assignment-or-call : (at : ℕ) → Low unlabelled_depth d (C.assignment_or_call r s at)
    unfolding C.assignment_or_call C.after_expression C.assignment C.call_command C.further_side unexpected depth
    assignment-or-call at = bind (b.expressions LOOSEST at) λ e n₁ p. both (goes_on_assignment (kind_at s n₁))
        (bind (further-of s (Deep expressions_depth d) T.no_expressions (λ _. omega arith) (C.further_side r) (λ _ _ _ i. i)
        (λ n. bind (b.expressions LOOSEST n) λ e _ p. give λ es _ q. omega arith) n₁) λ es n₂ q.
        on (the K.ASSIGN s n₂) λ _ n₃. bind (b.expressions LOOSEST n₃) λ e' n₄ p'. bind (further (count es) n₄) λ es' _ q'. give (omega arith))
        (both (is_call e) (give p) refusal)

    unlabelled : (at : ℕ) → Low unlabelled_depth d (C.unlabelled r s at)
    unfolding C.unlabelled C.resultis C.leave depth
    unlabelled at = both (is K.TEST s at) (test at) (both (is_guard (kind_at s at)) (guarded at) (both (is K.FOR s at) (for at)
        (both (is K.SWITCHON s at) (switchon at)
        (both (is K.RESULTIS s at) (on (the K.RESULTIS s at) λ _ n₁. bind (b.expressions LOOSEST n₁) λ e _ p. give p)
        (both (is_leave (kind_at s at)) (on (any s at) λ _ _. give (omega arith)) (both (is K.BEGIN s at) (block at) (assignment-or-call at)))))))

    repeat-form : (at : ℕ) → LowPut repeats_depth d (C.repeat_form r s at)
    unfolding C.repeat_form C.repeat C.repeat_on depth
    repeat-form at = both (is K.REPEAT s at) (on (the K.REPEAT s at) λ _ _. give λ rs _ q. q)
        (on (any s at) λ x n₁. bind (b.expressions LOOSEST n₁) λ e _ p. give λ rs _ q. omega arith)

    repeated : (ls : List Label) (at : ℕ) → Low command_depth (8 + d) (C.repeated r ls s at)
    unfolding C.repeated depth
    repeated ls at = bind (unlabelled at) λ u n₁ p.
        bind (many-of s (Deep repeats_depth d) T.no_repeats (λ _. omega arith) (C.repeat_form r) is_repeat (λ n _. repeat-form n) n₁) λ rs _ q.
        give (omega arith)

  empty-command : (d : ℕ) (ls : List Label) (at : ℕ) → Low command_depth (8 + d) (C.empty_command ls s at)
  unfolding C.empty_command depth unexpected
  empty-command d [] at = refusal
  empty-command d (l ∷ ls) at = give (omega arith)

  command : {d : ℕ} {inner : Inside} → InsideOf (LowReaders s d) inner → (at : ℕ) → Low command_depth (8 + d) (C.command inner s at)
  unfolding C.command C.after_labels
  command {d} {inner} l at = on (many [] is_label (C.label inner) s at) λ ls n₁.
      both (begins_command (kind_at s n₁)) (opened (λ r. C.repeated r ls) l λ r b. repeated b ls n₁) (empty-command d ls n₁)

  low-within : (n : ℕ) → InsideOf (LowReaders s (8 * n)) (within n)
  low-within = within_of (λ n. LowReaders s (8 * n)) λ n inner l. record {
    expressions = λ b at. related (expression s l b at) (λ _ _ p. omega arith);
    commands = λ at. related (command l at) (λ _ _ p. omega arith);
  }

  -- a program's functions

  body : (at : ℕ) → Low body_depth 520 (G.body s at)
  unfolding G.body G.value G.routine body_depth
  body at = both (is K.EQUAL s at) (on (the K.EQUAL s at) λ _ n₁. bind (expression s (low-within 64) LOOSEST n₁) λ e _ p. give p)
      (on (the K.BE s at) λ _ n₁. bind (command (low-within 64) n₁) λ c _ p. give p)

  function : (at : ℕ) → LowPut functions_depth 520 (G.function s at)
  unfolding G.function functions_depth
  function at =
      on (a_name s at) λ n n₁. on (the K.OPEN s n₁) λ _ n₂. on (up_to_close [] G.parameter s n₂) λ ps n₃. bind (body n₃) λ x _ p. give λ fs _ q.
      omega arith

  declaration : (at : ℕ) → Low declaration_depth 520 (G.declaration s at)
  unfolding G.declaration G.globals G.manifests G.functions G.and_function declaration_depth functions_depth
  declaration at = both (is K.GLOBAL s at)
      (on (the K.GLOBAL s at) λ _ n₁. on (the K.BEGIN s n₁) λ _ n₂. on (items [] (G.item K.COLON) s n₂) λ xs _. give (omega arith))
      (both (is K.MANIFEST s at)
      (on (the K.MANIFEST s at) λ _ n₁. on (the K.BEGIN s n₁) λ _ n₂. on (items [] (G.item K.EQUAL) s n₂) λ xs _. give (omega arith))
      (on (the K.LET s at) λ _ n₁. bind (function n₁) λ put n₂ p.
      bind (many-of s (Deep functions_depth 520) [] (λ _. omega arith) G.and_function (λ kind. eqb kind K.AND)
      (λ n _. on (the K.AND s n) λ _ m. function m) n₂)
      λ fs n₃ q. give (p fs n₃ q)))

  declared : (at : ℕ) → LowPut program_depth 520 (G.declared s at)
  unfolding G.declared program_depth
  declared at = bind (declaration at) λ x n₁ p. on (optional K.SEMICOLON s n₁) λ _ _. give λ xs _ q. omega arith

  program : Low program_depth 520 (tree_of s)
  unfolding tree_of G.program G.whole program_depth unexpected
  program = bind (many-of s (Deep program_depth 520) [] (λ _. omega arith) G.declared is_declaration (λ n _. declared n) 0) λ p n₁ q.
      both (is K.NOTHING s n₁) (give q) refusal

-- whatever the symbols: a program that is read is at most 520 deep
pub low-program : (s : Source) → Of LowProgram (tree_of s)
low-program s = go (program s)
  where
    go : {o : Out Program} → Low program_depth 520 o → Of LowProgram o
    go (answer p) = given (record { low = p })
    go refusal = refused
