-- What the grammar reads of a source it reads of one with extra semicolons after LOOP. An expression or a command may end before such a
-- semicolon, and nothing goes on there; a local declaration takes it as its own.
use Rattle.laws.proofs.Basics.{ℕ, zero, suc, ◌≡◌, refl, List, [], ◌∷◌, Bool, true, false, cond, length, eqb}
use Rattle.language.specs.Kinds as K
use Rattle.language.specs.Kinds.{member}
use Rattle.language.specs.Binding.{binding_of, RELATION, LOOSEST, is_monadic, reach_of, is_suffix, is_label, is_guard, is_leave, is_repeat}
use Rattle.language.specs.Binding.{goes_on_assignment, is_declaration, begins_command}
use Rattle.language.specs.Tree as T
use Rattle.language.specs.Tree.{Name, Label, Expression, is_call, count}
use Rattle.language.specs.Symbols.{Symbol}
use Rattle.language.specs.Reader.{Reader, ◌>>=◌, return, kind_at, any, the, a_name, many_up_to, many, items}
use Rattle.language.specs.Expressions as E
use Rattle.language.specs.Expressions.{Readers, Inside, opening}
use Rattle.language.specs.Commands as C
use Rattle.language.specs.Grammar as G
use Rattle.language.proofs.Local as L
use Rattle.language.proofs.Levels.{InsideOf, none_left, some_left, within_of, by-binding}
use Rattle.language.proofs.Extra.{others, flush, near, none_of, none_of_lem, blind, barred, refuses, Keeps, KeepsAt, keeps-return, keeps-unexpected}
use Rattle.language.proofs.Extra.{keeps-near, keeps-flush, at-any, keeps-cond, at-cond, keeps-choice, after, at_after, keeps-any, at_symbol}
use Rattle.language.proofs.Extra.{at-made, keeps_here, keeps-the, keeps-name, keeps-optional, keeps-fixed, keeps-many, keeps-items}
use Rattle.language.proofs.Extra.{keeps-further, keeps-up-to-close}

-- most readers start flush and end near
abbrev Reads : {A : Type 0} → Reader A → Type 0
Reads r = Keeps false flush near r

end-near : {A : Type 0} {i : Bool} {a : A} → Keeps false i near (return a)
end-near {a = a} = keeps-near (keeps-return a)

module _ {A : Type 0} {k : Bool} where
  past : {i o : Bool} (kind : ℕ) {f : ℕ → Reader A} → none_of (λ k. eqb k kind) (barred i) ≡ true → ((place : ℕ) → Keeps false flush o (f place))
      → Keeps k i o (the kind >>= f)
  past kind h m = after (keeps-the kind h) m

  a-symbol : (f : Symbol → A) → Keeps k flush near (any >>= λ x. return (f x))
  a-symbol f = after keeps-any (λ _. end-near)

  a-name : (f : Name → A) → Keeps k flush near (a_name >>= λ n. return (f n))
  a-name f = after keeps-name (λ _. end-near)

  -- choices by the symbol here, from flush
  either : {o : Bool} {r r' : Reader A} (b : ℕ → Bool) → Keeps k flush o r → Keeps k flush o r'
      → Keeps k flush o (λ s at. cond (b (kind_at s at)) (r s at) (r' s at))
  either b l l' = keeps-cond b refl (at-any l) l'

  if-it-is : {o : Bool} {r r' : Reader A} (kind : ℕ) → Keeps k flush o r → Keeps k flush o r'
      → Keeps k flush o (λ s at. cond (eqb (kind_at s at) kind) (r s at) (r' s at))
  if-it-is kind l l' = either (λ k. eqb k kind) l l'

record KeptReaders (r : Readers) : Type 0 where
  expressions : (binding : ℕ) → Reads (r.expression binding)
  commands : Reads r.command
  constants : Reads r.constant

module _ {A : Type 0} {k o : Bool} (form : Readers → Reader A) where
  keeps-opening : {i : Bool} {inner : Inside} → InsideOf KeptReaders inner → ((r : Readers) → KeptReaders r → Keeps k i o (form r))
      → Keeps k i o (opening inner form)
  unfolding opening
  keeps-opening none_left f = record { local = record { local = λ g at. L.rel-no 7 }; keeps = λ w at x p. refuses }
  keeps-opening (some_left {r = r} b) f = record { local = record { local = (f r b).local.local }; keeps = (f r b).keeps }

  at-opening : {b : ℕ → Bool} {inner : Inside} → InsideOf KeptReaders inner → ((r : Readers) → KeptReaders r → KeepsAt k b o (form r))
      → KeepsAt k b o (opening inner form)
  unfolding opening
  at-opening none_left f = record { local = record { local = λ g at. L.rel-no 7 }; keeps-at = λ w at x h p. refuses }
  at-opening (some_left {r = r} b) f = record { local = record { local = (f r b).local.local }; keeps-at = (f r b).keeps-at }

-- ---- expressions

-- an operator of a binding
abbrev binds : (binding kind : ℕ) → Bool
binds b kind = eqb (binding_of kind) b

-- a chain of them neither goes on after an extra semicolon nor at the end
abbrev Chains : ℕ → Type 0
Chains b = (blind near (binds b) ≡ true) × (binds b K.NOTHING ≡ false)

chain : (b : ℕ) → Chains b → {left right : Reader Expression} → Reads left → Reads right → Reads (E.chain b left right)
unfolding E.chain E.operations E.most_of E.operation many member
chain b c {left} {right} f g = after f (λ e. after (by (eqb b RELATION)) (λ os. end-near))
  where
    operation : KeepsAt true (binds b) near (E.operation right)
    operation = at_after (at_symbol (binds b) (none_of_lem (binds b) (K.SEMICOLON ∷ others) K.LOOP c.0 refl)) λ x. after g λ e. end-near

    -- one relation, or all of a chain
    by : (x : Bool) → Keeps false near near (λ s at. many_up_to (cond x 1 (length s.symbols)) T.no_operations (binds b) (E.operation right) s at)
    by true = keeps-fixed T.no_operations (binds b) _ c.0 operation 1
    by false = keeps-many T.no_operations (binds b) _ c.0 operation c.1

module _ {inner : Inside} (k : InsideOf KeptReaders inner) where
  primary : Reads (E.primary inner)
  unfolding E.primary E.numeral E.quotation E.truth E.named E.bracketed E.valof
  primary = if-it-is K.NUMBER (a-symbol _) (if-it-is K.STRING (a-symbol _) (if-it-is K.TRUE (a-symbol _) (if-it-is K.FALSE (a-symbol _)
      (if-it-is K.NAME (a-name _)
      (if-it-is K.OPEN (keeps-opening _ k λ r b. past K.OPEN refl λ place. after (b.expressions LOOSEST) λ e. past K.CLOSE refl λ _. end-near)
      (if-it-is K.VALOF (keeps-opening _ k λ r b. past K.VALOF refl λ place. after b.commands λ c. end-near)
      keeps-unexpected))))))

  monadic : (b : ℕ → Bool) → b K.LOOP ≡ false → KeepsAt false b near (E.monadic inner)
  unfolding E.monadic
  monadic b h = at-opening _ k (λ r b'. at_after (at_symbol b h) (λ x. after (b'.expressions (reach_of x.kind)) (λ e. end-near)))

  suffix : Keeps true flush near (E.suffix inner)
  unfolding E.suffix E.arguments E.index E.subscript is_monadic member
  suffix = if-it-is K.OPEN (keeps-opening _ k λ r b. past K.OPEN refl λ place.
      after (keeps-up-to-close T.no_expressions _ (after (b.expressions LOOSEST) λ e. end-near)) λ es. end-near)
      (past K.PLING refl λ place. after (keeps-cond is_monadic refl (monadic is_monadic refl) primary) λ e. end-near)

  -- no suffix begins after an extra semicolon: this is where the bracket is left out
  operand : Reads (E.operand inner)
  unfolding E.operand E.suffixed is_monadic is_suffix member
  operand = keeps-cond is_monadic refl (monadic is_monadic refl)
      (after primary λ e. after (keeps-many T.no_suffixes is_suffix _ refl (at-any suffix) refl) λ ss. end-near)

  expression : (binding : ℕ) → Reads (E.expression inner binding)
  unfolding E.negations binding_of member
  expression = by-binding (λ _ r. Reads r) Chains (λ _ _ _ _ l. l) (λ b _ c _ _. chain b c) inner operand
      (keeps-cond (λ k. eqb k K.NOT) refl (monadic (λ k. eqb k K.NOT) refl))
      (refl, refl) (refl, refl) (refl, refl) (refl, refl) (refl, refl) (refl, refl)

  constant : Reads (E.constant inner)
  unfolding E.constant E.negative E.positive E.simple E.literal E.truth_literal E.known
  constant = if-it-is K.MINUS (keeps-opening _ k λ r b. past K.MINUS refl λ place. after simple λ _. end-near)
      (after keeps_here λ place. after simple λ _. end-near)
    where
      simple : Reads E.simple
      simple = if-it-is K.NUMBER (a-symbol _) (if-it-is K.TRUE (a-symbol _) (if-it-is K.FALSE (a-symbol _) (a-name _)))

-- ---- commands

module _ {r : Readers} (b : KeptReaders r) where
  test : Reads (C.test r)
  unfolding C.test
  test = past K.TEST refl λ _. after (b.expressions LOOSEST) λ e.
      past K.DO refl λ _. after b.commands λ c. past K.OR refl λ _. after b.commands λ d. end-near

  guarded : KeepsAt false is_guard near (C.guarded r)
  unfolding C.guarded is_guard member
  guarded = at_after (at_symbol is_guard refl) λ x. after (b.expressions LOOSEST) λ e. past K.DO refl λ _. after b.commands λ c. end-near

  for : Reads (C.for r)
  unfolding C.for C.optional_by C.by
  for = past K.FOR refl λ _. after keeps-name λ n.
      past K.EQUAL refl λ _. after (b.expressions LOOSEST) λ e.
      past K.TO refl λ _. after (b.expressions LOOSEST) λ d.
      after (keeps-cond (λ k. eqb k K.BY) refl (at-any (past K.BY refl λ _. after b.constants λ c. end-near)) end-near) λ k.
      past K.DO refl λ _. after b.commands λ c. end-near

  the_items : Keeps false flush flush (items T.no_commands (C.listed r))
  unfolding C.listed
  the_items = keeps-items T.no_commands _ (after b.commands λ _. end-near)

  switchon : Reads (C.switchon r)
  unfolding C.switchon
  switchon = past K.SWITCHON refl λ _. after (b.expressions LOOSEST) λ e. past K.INTO refl λ _. past K.BEGIN refl λ _. after the_items λ cs. end-near

  further : (n : ℕ) → Keeps false near near (C.further r n)
  unfolding C.further
  further zero = end-near
  further (suc n) = past K.COMMA refl λ _. after (b.expressions LOOSEST) λ e. after (further n) λ es. end-near

  given_to : (n : Name) (ns : List Name) → Reads (C.given r n ns)
  unfolding C.given C.vector C.values
  given_to n [] =
      if-it-is K.VEC (past K.VEC refl λ _. after b.constants λ c. end-near) (after (b.expressions LOOSEST) λ e. after (further 0) λ es. end-near)
  given_to n (m ∷ ns) = after (b.expressions LOOSEST) λ e. after (further (length (m ∷ ns))) λ es. end-near

  -- an extra semicolon behind it is the optional one
  local-declaration : Keeps true flush flush (C.local r)
  unfolding C.local C.further_name
  local-declaration = past K.LET refl λ _. after keeps-name λ n. after (keeps-flush (keeps-further [] _ (a-name _))) λ ns.
      past K.EQUAL refl λ _. after (given_to n ns) λ put. keeps-optional put

  block : Reads (C.block r)
  unfolding C.block C.commands_to_end C.semicolon_end any
  block = past K.BEGIN refl λ _. after (keeps-many T.no_locals (λ kind. eqb kind K.LET) _ refl (at-any local-declaration) refl) λ ls.
      after (keeps-cond (λ k. eqb k K.END) refl (at-made _ (λ _. T.no_commands) refl)
      (if-it-is K.SEMICOLON (past K.SEMICOLON refl λ _. past K.END refl λ _. keeps-return _) the_items)) λ cs. end-near

  assignment-or-call : Reads (C.assignment_or_call r)
  unfolding C.assignment_or_call C.after_expression C.assignment C.call_command C.further_side goes_on_assignment member
  assignment-or-call = after (b.expressions LOOSEST) λ e.
      keeps-cond goes_on_assignment refl
      (at-any (keeps-flush (after (keeps-further T.no_expressions _ (after (b.expressions LOOSEST) λ _. end-near)) λ es.
      past K.ASSIGN refl λ _. after (b.expressions LOOSEST) λ d. after (further (count es)) λ ds. end-near)))
      (keeps-choice (is_call e) end-near keeps-unexpected)

  unlabelled : Reads (C.unlabelled r)
  unfolding C.unlabelled C.resultis C.leave
  unlabelled = if-it-is K.TEST test (keeps-cond is_guard refl guarded (if-it-is K.FOR for (if-it-is K.SWITCHON switchon
      (if-it-is K.RESULTIS (past K.RESULTIS refl λ place. after (b.expressions LOOSEST) λ e. end-near) (either is_leave (a-symbol _)
      (if-it-is K.BEGIN block assignment-or-call))))))

  repeat-form : KeepsAt true is_repeat near (C.repeat_form r)
  unfolding C.repeat_form C.repeat C.repeat_on is_repeat member
  repeat-form = at-cond (λ k. eqb k K.REPEAT) (at-any (past K.REPEAT refl λ _. end-near))
      (at_after (at_symbol is_repeat refl) λ x. after (b.expressions LOOSEST) λ e. end-near)

  repeated : (ls : List Label) → Reads (C.repeated r ls)
  unfolding C.repeated is_repeat member
  repeated ls = after unlabelled λ u. after (keeps-many T.no_repeats is_repeat _ refl repeat-form refl) λ rs. end-near

empty-command : (ls : List Label) → Reads (C.empty_command ls)
unfolding C.empty_command
empty-command [] = keeps-unexpected
empty-command (l ∷ ls) = end-near

module _ {inner : Inside} (k : InsideOf KeptReaders inner) where
  label : Keeps true flush flush (C.label inner)
  unfolding C.label C.case C.default
  label = after (if-it-is K.CASE (past K.CASE refl λ place. after (constant k) λ c. past K.COLON refl λ _. keeps-return _)
      (past K.DEFAULT refl λ place. past K.COLON refl λ _. keeps-return _)) λ l. keeps-return _

  command : Reads (C.command inner)
  unfolding C.command C.after_labels is_label member
  command = after (keeps-many [] is_label _ refl (at-any label) refl) λ ls.
      either begins_command (keeps-opening (λ r. C.repeated r ls) k λ r b. repeated b ls) (empty-command ls)

kept-within : (n : ℕ) → InsideOf KeptReaders (G.within n)
kept-within = within_of (λ _. KeptReaders) (λ _ _ k. record { expressions = expression k; commands = command k; constants = constant k })

-- ---- declarations

item : (sign : ℕ) → none_of (λ k. eqb k sign) (barred flush) ≡ true → Reads (G.item sign)
unfolding G.item
item sign h = after keeps-name λ n. past sign h λ _. after (constant (kept-within 64)) λ c. end-near

body : Reads G.body
unfolding G.body G.value G.routine
body = if-it-is K.EQUAL (past K.EQUAL refl λ _. after (expression (kept-within 64) LOOSEST) λ e. end-near)
    (past K.BE refl λ _. after (command (kept-within 64)) λ c. end-near)

function : Reads G.function
unfolding G.function G.parameter
function = after keeps-name λ n. past K.OPEN refl λ _. after (keeps-up-to-close [] _ (a-name _)) λ ps. after body λ b. end-near

and-function : Keeps true flush near G.and_function
unfolding G.and_function
and-function = past K.AND refl λ _. function

declaration : Keeps true flush near G.declaration
unfolding G.declaration G.globals G.manifests G.functions
declaration = if-it-is K.GLOBAL (past K.GLOBAL refl λ _. past K.BEGIN refl λ _. after (keeps-items [] _ (item K.COLON refl)) λ xs. end-near)
    (if-it-is K.MANIFEST (past K.MANIFEST refl λ _. past K.BEGIN refl λ _. after (keeps-items [] _ (item K.EQUAL refl)) λ xs. end-near)
    (past K.LET refl λ _. after function λ put. after (keeps-many [] (λ kind. eqb kind K.AND) _ refl (at-any and-function) refl) λ fs. end-near))

declared : Keeps true flush flush G.declared
unfolding G.declared
declared = after declaration λ d. keeps-optional (d ∷◌)

pub program : Reads G.program
unfolding G.program G.whole is_declaration member
program = after (keeps-many [] is_declaration _ refl (at-any declared) refl) λ p. if-it-is K.NOTHING end-near keeps-unexpected
