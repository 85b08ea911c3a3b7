-- Programs: items, functions, declarations and the whole, one law for what each reader's parts make together.
use Rattle.text.specs.declared.faults.Fault.TheVariants as V
use Rattle.laws.proofs.Basics.{ℕ, ◌+◌, ◌-◌, ◌<◌, ◌≤◌, ◌≡◌, refl, sym, ap, subst, ◌∙◌, List, [], ◌∷◌, ◌++◌, append-nil, Bool, true, false, cond}
use Rattle.laws.proofs.Basics.{length, length-append, eqb, arith, eqb-true, eqb-false, eq-eqb, ne_eqb}
use Rattle.language.specs.Kinds as K
use Rattle.language.specs.Kinds.{member}
use Rattle.language.specs.Tree as T
use Rattle.language.specs.Tree.{Name, Body}
use Rattle.language.specs.Reader.{Source, Out, ok, no, on_out, kind_at, unexpected, the, optional, a_name, many_up_to, many, more_up_to, items}
use Rattle.language.specs.Reader.{is_comma}
use Rattle.language.specs.Reader.{further_items, one_up_to_close, up_to_close}
use Rattle.language.specs.Binding.{LOOSEST, is_declaration}
use Rattle.language.specs.Expressions as E
use Rattle.language.specs.Commands as C
use Rattle.language.specs.Grammar as G
use Rattle.language.specs.Grammar.{within}
use Rattle.tree.specs.Reads.{KindHere, Follows, Prepends, Reads, Refuses, Adds, record_from, SetsSize, Passes, free_of, Reading}
use Rattle.tree.specs.Between.{a_further_name, Bodies, item_list, function_list, globals_after, manifests_after, functions_after, declaration_after}
use Rattle.tree.specs.Between.{Declares}
use Rattle.tree.specs.Encoding.{item, closed, encode, encode_name, encode_names, encode_constant, encode_command, encode_items, encode_body}
use Rattle.tree.specs.Encoding.{body_word, encode_functions, encode_program}
use Rattle.tree.proofs.Choices.{Expects}
use Rattle.tree.proofs.Rooms.{leaves_last}
use Rattle.tree.proofs.Steps.{refuses-on, follow, bind, here, added, adds_on, goes_on_lem, ◌then◌, nothing, stopped}
use Rattle.tree.proofs.Symbols.{mapped, the-is, stays}
use Rattle.tree.proofs.Lists.{sized}
use Rattle.tree.proofs.ListEnd.{listed-items}
use Rattle.tree.proofs.Readers.{parts, nests}
use Rattle.tree.proofs.Classes.{positive}
use Rattle.tree.specs.declared.scratch.State.{State}

-- the words that stand in an item before those of the items after it
abbrev Inside : {A : Type 0} → (enc : A → List ℕ) → (tag : ℕ) → (put : A → A) → (words : List ℕ) → Type 0
Inside {A} enc tag put w = (rest : A) → enc (put rest) ≡ item tag w ++ enc rest

itself : {A : Type 0} (enc : A → List ℕ) (tag : ℕ) (put : A → A) (w : List ℕ) → Inside enc tag put w → Prepends enc put (item tag w)
itself enc tag put w h = record { puts = h; some = omega arith }

-- name : constant, or name = constant
pub item-here :
    (src : Source) (sign size : ℕ) {lo : ℕ} {s s₁ s₂ s₄ s₅ : List ℕ} {r r₁ r₂ r₃ r₄ : State} → lo ≡ free_of size r → free_of size r ≤ length s
    → Adds (λ _. 0 ∷ 0 ∷ []) s s₁ r r₁ → Reads (a_name src) encode_name s₁ s₂ r₁ r₂ → Reads (the sign src) (λ _. []) s₂ s₂ r₂ r₃
    → Reads (E.constant (within 64) src) encode_constant s₂ s₄ r₃ r₄ → SetsSize lo s₄ s₅ r₄
    → Follows (G.item sign src) (Prepends encode_items) s s₅ r r₄
unfolding G.item encode_items
item-here src sign size lo-is le a b c d f = sized {Says = Inside encode_items 0} (Prepends encode_items) 0 size (itself encode_items 0) le lo-is a
    (bind size encode_name b (goes_on_lem c then goes_on_lem d) (λ name _. bind size (λ _. []) c (goes_on_lem d) (λ _ _. bind size encode_constant d stays
    (λ k _. nothing (λ rest. ap (λ (v : List ℕ). item 0 (encode_name name ++ v) ++ encode_items rest) (sym (append-nil (encode_constant k))))))))
    f

pub no-item-words : encode_items [] ≡ []
unfolding encode_items
no-item-words = refl

pub item-list-read :
    (src : Source) (sign : ℕ) {n : ℕ} {s s₁ s₂ : List ℕ} {r r₀ r₁ r₂ : State} → length src.symbols ≡ n → Reads (the K.BEGIN src) (λ _. []) s s r r₀
    → Follows (G.item sign src) (Prepends encode_items) s s₁ r₀ r₁ → Reads (more_up_to n [] (G.item sign) src) encode_items s₁ s₂ r₁ r₂
    → Reads (item_list sign src) encode_items s s₂ r r₂
unfolding item_list
item-list-read src sign en a b c = bind 0 (λ _. []) a (goes_on_lem b then goes_on_lem c) (λ _ _. listed-items [] (G.item sign) src en b c)

-- [name {, name}] )
module _ (src : Source) {s : List ℕ} {r : State} {kind : ℕ} (k : KindHere src r kind) where
  pub no-parameters :
      {r₁ : State} → kind ≡ K.CLOSE → Reads (the K.CLOSE src) (λ _. []) s s r r₁ → Reads (up_to_close [] G.parameter src) encode_names s s r r₁
  unfolding up_to_close encode_names
  no-parameters q d = here _ (λ at free e. let y : kind_at src at ≡ K.CLOSE = sym (k.here at free e) ∙ q in
      ap (λ (b : Bool). cond b (ok [] (at + 1)) (one_up_to_close [] G.parameter src at)) (eq-eqb (kind_at src at) K.CLOSE y)
      ∙ sym (ap (λ (o : Out ℕ). on_out o (λ _ m. ok [] m)) (the-is src K.CLOSE at y))) (mapped (λ _. []) (λ _. refl) d)

  pub some-parameters :
      {n : ℕ} {s₁ s₂ : List ℕ} {r₁ r₂ r₃ : State} → length src.symbols ≡ n → (kind ≡ K.CLOSE → ⊥) → Reads (a_name src) encode_name s s₁ r r₁
      → Reads (many_up_to n [] is_comma a_further_name src) encode_names s₁ s₂ r₁ r₂ → Reads (the K.CLOSE src) (λ _. []) s₂ s₂ r₂ r₃
      → Reads (up_to_close [] G.parameter src) encode_names s s₂ r r₃
  unfolding up_to_close one_up_to_close G.parameter further_items many a_further_name encode_names
  some-parameters {s₁ = s₁} {s₂} {r₁} {r₂} en q a b c =
      here _ (λ at free e. ap (λ (z : Bool). cond z (ok [] (at + 1)) (one_up_to_close [] G.parameter src at))
      (ne_eqb (kind_at src at) K.CLOSE (λ y. q (k.here at free e ∙ y))) ∙ nested (a_name src at) _) (bind 0 encode_name a (goes_on_lem b then goes_on_lem c)
      (λ name _. bind 0 encode_names (subst (λ (m : ℕ). Reads (many_up_to m [] is_comma a_further_name src) encode_names s₁ s₂ r₁ r₂) (sym en) b) (goes_on_lem c)
      (λ names _. bind 0 (λ _. []) c stays
      (λ _ _. nothing (record { same = ap (λ (v : List ℕ). encode_name name ++ v) (append-nil (encode_names names)) })))))
    where
      nested :
          (o : Out Name) (F : (List Name → List Name) → ℕ → Out (List Name))
          → on_out (on_out o (λ x m. ok (λ xs. x ∷ xs) m)) F ≡ on_out o (λ x m. F (λ xs. x ∷ xs) m)
      nested (ok x m) F = refl
      nested (no i j) F = refl

-- = expression, or BE command, behind the name and the parameters
body-words :
    (name : Name) (names : List Name) (b : Body) (z v : ℕ) → z ≡ length (encode_name name) + (length (encode_names names) + length (encode_body b))
    → v ≡ length (encode_names names) → Bodies name names b (encode_body b ++ (z ∷ v ∷ 0 ∷ body_word b ∷ []))
body-words name names b z v e q = record {
  same = ap (λ (x : ℕ). closed (encode_name name ++ (encode_names names ++ encode_body b)) x 0 (body_word b)) (sym q)
      ∙ sym (parts (encode_name name) (encode_names names) (encode_body b) z v 0 (body_word b)
      (omega (arith, length-append (encode_name name) (encode_names names ++ encode_body b), length-append (encode_names names) (encode_body b))));
}

module _ (src : Source) {s : List ℕ} {r : State} {kind : ℕ} (k : KindHere src r kind) (size start : ℕ) {value : ℕ} (name : Name)
    (names : List Name) (before : free_of size r ≡ start + (length (encode_name name) + length (encode_names names)))
    (sized : value ≡ length (encode_names names)) {s₂ s₃ : List ℕ} {r₁ r₂ r₃ : State} where
  pub body-value :
      kind ≡ K.EQUAL → Reads (the K.EQUAL src) (λ _. []) s s r r₁ → Reads (E.expression (within 64) LOOSEST src) encode s s₂ r₁ r₂
      → Adds (record_from start value 0 K.EQUAL) s₂ s₃ r₂ r₃ → Follows (G.body src) (Bodies name names) s s₃ r r₃
  unfolding G.body G.value encode_body body_word
  body-value q a b d = here (G.value src) (λ at free e. ap (λ (z : Bool). cond z (G.value src at) (G.routine src at))
      (eq-eqb (kind_at src at) K.EQUAL (sym (k.here at free e) ∙ q))) (bind size (λ _. []) a (goes_on_lem b then adds_on d)
      (λ _ q₁. bind size encode b (adds_on d)
      (λ e q₂. added size d (body-words name names (T.value e) (free_of size r₂ - start) value (omega arith) sized))))

  pub body-routine :
      (kind ≡ K.EQUAL → ⊥) → Reads (the K.BE src) (λ _. []) s s r r₁ → Reads (C.command (within 64) src) encode_command s s₂ r₁ r₂
      → Adds (record_from start value 0 K.BE) s₂ s₃ r₂ r₃ → Follows (G.body src) (Bodies name names) s s₃ r r₃
  unfolding G.body G.routine encode_body body_word
  body-routine q a b d = here (G.routine src) (λ at free e. ap (λ (z : Bool). cond z (G.value src at) (G.routine src at))
      (ne_eqb (kind_at src at) K.EQUAL (λ y. q (k.here at free e ∙ y)))) (bind size (λ _. []) a (goes_on_lem b then adds_on d)
      (λ _ q₁. bind size encode_command b (adds_on d)
      (λ c q₂. added size d (body-words name names (T.routine c) (free_of size r₂ - start) value (omega arith) sized))))

-- a function, whose name begins at start
pub function-here :
    (src : Source) (size : ℕ) {lo start value : ℕ} {s s₁ s₂ s₄ s₅ s₆ : List ℕ} {r r₁ r₂ r₃ r₄ r₅ : State} → lo ≡ free_of size r
    → free_of size r ≤ length s → Adds (λ _. 0 ∷ 0 ∷ []) s s₁ r r₁ → start ≡ free_of size r₁ → Reads (a_name src) encode_name s₁ s₂ r₁ r₂
    → Reads (the K.OPEN src) (λ _. []) s₂ s₂ r₂ r₃ → Reads (up_to_close [] G.parameter src) encode_names s₂ s₄ r₃ r₄
    → value ≡ free_of size r₄ - free_of size r₃
    → ((name : Name) (names : List Name) → free_of size r₄ ≡ start + (length (encode_name name) + length (encode_names names))
    → value ≡ length (encode_names names) → Follows (G.body src) (Bodies name names) s₄ s₅ r₄ r₅)
    → Passes r₄ r₅ → SetsSize lo s₅ s₆ r₅ → Follows (G.function src) (Prepends encode_functions) s s₆ r r₅
unfolding G.function encode_functions
function-here src size lo-is le a start_is b c d value-is body on f =
    sized {Says = Inside encode_functions 0} (Prepends encode_functions) 0 size (itself encode_functions 0) le lo-is a
    (bind size encode_name b (goes_on_lem c then goes_on_lem d then on) (λ name q₁. bind size (λ _. []) c (goes_on_lem d then on)
    (λ _ q₂. bind size encode_names d on (λ names q₃. follow size (body name names (omega arith) (omega arith)) stays
    (λ x w h _. nothing (λ rest. ap (λ (v : List ℕ). item 0 v ++ encode_functions rest)
    (h.same ∙ ap (λ (v : List ℕ). encode_name name ++ (encode_names names ++ v)) (sym (append-nil w)))))))))
    f

pub and-function-reads :
    {s s₁ : List ℕ} {n : ℕ} {r r₀ r₁ : State} → Expects K.AND s n r r₀ → Reading 5 G.function (Prepends encode_functions) s s₁ n r₀ r₁
    → Reading 5 G.and_function (Prepends encode_functions) s s₁ n r r₁
unfolding G.and_function
and-function-reads c a = (leaves_last c.0 a.0, λ src l. bind 0 (λ _. []) (c.1 src l) (goes_on_lem (a.1 src l)) (λ _ _. a.1 src l))

pub no-function-words : encode_functions [] ≡ []
unfolding encode_functions
no-function-words = refl

pub functions-read :
    (src : Source) {n : ℕ} {s s₁ s₂ : List ℕ} {r r₁ r₂ : State} → length src.symbols ≡ n
    → Follows (G.function src) (Prepends encode_functions) s s₁ r r₁
    → Reads (many_up_to n [] (λ kind. eqb kind K.AND) G.and_function src) encode_functions s₁ s₂ r₁ r₂
    → Reads (function_list src) encode_functions s s₂ r r₂
unfolding function_list many
functions-read src {s₁ = s₁} {s₂} {r₁} {r₂} en a b = follow 0 a (goes_on_lem b) (λ put w h _. bind 0 encode_functions
    (subst (λ (m : ℕ). Reads (many_up_to m [] (λ kind. eqb kind K.AND) G.and_function src) encode_functions s₁ s₂ r₁ r₂) (sym en) b) stays
    (λ fs _. nothing (record { same = ap (λ (v : List ℕ). w ++ v) (append-nil (encode_functions fs)) ∙ sym (h.puts fs) })))

-- the words that begin declarations
pub declaration-positive : (kind : ℕ) {b : Bool} → b ≡ is_declaration kind → b ≡ true → 0 < kind
unfolding is_declaration member
declaration-positive kind e q = positive is_declaration kind refl (sym e ∙ q)

other-declaration : (kind : ℕ) → is_declaration kind ≡ true → (kind ≡ K.GLOBAL → ⊥) → (kind ≡ K.MANIFEST → ⊥) → kind ≡ K.LET
unfolding is_declaration member
other-declaration kind h a b = eqb-true kind K.LET (by_last (eqb kind K.LET) (sym (rw (ne_eqb kind K.GLOBAL a, ne_eqb kind K.MANIFEST b) refl) ∙ h))
  where
    by_last : (b : Bool) → cond b true false ≡ true → b ≡ true
    by_last true e = refl
    by_last false e = e

-- what stands after a declaration's word
tagged : {x kind : ℕ} → x ≡ kind → (w v : List ℕ) → item x w ++ v ≡ item kind (w ++ []) ++ v
tagged {x} {kind} e w v = ap (λ (y : ℕ). item y w ++ v) e ∙ ap (λ (u : List ℕ). item kind u ++ v) (sym (append-nil w))

module _ (src : Source) {kind : ℕ} {s s' : List ℕ} {r r' : State} where
  pub declaration-globals :
      kind ≡ K.GLOBAL → Reads (item_list K.COLON src) encode_items s s' r r' → Follows (declaration_after kind src) (Declares kind) s s' r r'
  unfolding declaration_after globals_after encode_program
  declaration-globals q d = here (globals_after src) (λ at free e. rw (eq-eqb kind K.GLOBAL q) refl)
      (bind 0 encode_items d stays (λ xs _. nothing (record { same = λ rest. tagged (sym q) (encode_items xs) (encode_program rest) })))

  pub declaration-manifests :
      kind ≡ K.MANIFEST → Reads (item_list K.EQUAL src) encode_items s s' r r' → Follows (declaration_after kind src) (Declares kind) s s' r r'
  unfolding declaration_after manifests_after encode_program
  declaration-manifests q d = here (manifests_after src) (λ at free e. rw q refl)
      (bind 0 encode_items d stays (λ xs _. nothing (record { same = λ rest. tagged (sym q) (encode_items xs) (encode_program rest) })))

  pub declaration-functions :
      is_declaration kind ≡ true → (kind ≡ K.GLOBAL → ⊥) → (kind ≡ K.MANIFEST → ⊥) → Reads (function_list src) encode_functions s s' r r'
      → Follows (declaration_after kind src) (Declares kind) s s' r r'
  unfolding declaration_after functions_after encode_program
  declaration-functions h a b d = here (functions_after src) (λ at free e. rw (ne_eqb kind K.GLOBAL a, ne_eqb kind K.MANIFEST b) refl)
      (bind 0 encode_functions d stays
      (λ fs _. nothing (record { same = λ rest. tagged (sym (other-declaration kind h a b)) (encode_functions fs) (encode_program rest) })))

-- a declaration is its word and what stands after it
after : {A B C : Type 0} (o : Out A) (f : A → ℕ → Out B) (g : B → ℕ → Out C) → on_out (on_out o f) g ≡ on_out o (λ a m. on_out (f a m) g)
after (ok a m) f g = refl
after (no i j) f g = refl

under : {A B : Type 0} (o : Out A) (f g : A → ℕ → Out B) → ((a : A) (m : ℕ) → f a m ≡ g a m) → on_out o f ≡ on_out o g
under (ok a m) f g h = h a m
under (no i j) f g h = refl

module _ (src : Source) (at : ℕ) where
  globals-is : G.globals src at ≡ on_out (the K.GLOBAL src at) (λ _ m. globals_after src m)
  unfolding G.globals globals_after item_list
  globals-is =
      under (the K.GLOBAL src at) _ _ (λ _ m. sym (after (the K.BEGIN src m) (λ _ q. items [] (G.item K.COLON) src q) (λ xs w. ok (T.globals xs) w)))

  manifests-is : G.manifests src at ≡ on_out (the K.MANIFEST src at) (λ _ m. manifests_after src m)
  unfolding G.manifests manifests_after item_list
  manifests-is = under (the K.MANIFEST src at) _ _
      (λ _ m. sym (after (the K.BEGIN src m) (λ _ q. items [] (G.item K.EQUAL) src q) (λ xs w. ok (T.manifests xs) w)))

  functions-is : G.functions src at ≡ on_out (the K.LET src at) (λ _ m. functions_after src m)
  unfolding G.functions functions_after function_list
  functions-is = under (the K.LET src at) _ _ (λ _ m. sym (nests (G.function src m) (λ q. many [] (λ kind. eqb kind K.AND) G.and_function src q)
      (λ fs w. ok (T.functions fs) w)))

  declaration_by :
      (kind : ℕ) → kind ≡ kind_at src at → is_declaration kind ≡ true → (a b : Bool) → eqb kind K.GLOBAL ≡ a → eqb kind K.MANIFEST ≡ b
      → G.declaration src at ≡ on_out (the kind src at) (λ _ m. declaration_after kind src m)
  unfolding G.declaration declaration_after
  declaration_by kind k h true b p q = rw (← k, p, eqb-true kind K.GLOBAL p) globals-is
  declaration_by kind k h false true p q = rw (← k, p, q, eqb-true kind K.MANIFEST q) manifests-is
  declaration_by kind k h false false p q =
      rw (← k, p, q, other-declaration kind h (eqb-false kind K.GLOBAL p) (eqb-false kind K.MANIFEST q)) functions-is

-- declaration [;]
pub declared-read :
    (src : Source) (size : ℕ) {kind lo : ℕ} {s s₁ s₂ s₃ : List ℕ} {r r₀ r₁ r₂ r₃ : State} → KindHere src r kind → is_declaration kind ≡ true
    → lo ≡ free_of size r → free_of size r₀ ≤ length s → Reads (the kind src) (λ _. []) s s r r₀ → Adds (λ _. 0 ∷ kind ∷ []) s s₁ r₀ r₁
    → Follows (declaration_after kind src) (Declares kind) s₁ s₂ r₁ r₂ → SetsSize lo s₂ s₃ r₂ → Reads (optional K.SEMICOLON src) (λ _. []) s₃ s₃ r₂ r₃
    → Follows (G.declared src) (Prepends encode_program) s s₃ r r₃
unfolding G.declared
declared-read src size {kind} k h lo-is le a b c d f = follow size {First = λ x w. Prepends encode_program (λ rest. x ∷ rest) w}
    (here _ (λ at free e. declaration_by src at kind (k.here at free e) h (eqb kind K.GLOBAL) (eqb kind K.MANIFEST) refl refl)
    (bind size (λ _. []) a (adds_on b then goes_on_lem c) (λ _ q. sized {Says = Declares kind} (λ x w. Prepends encode_program (λ rest. x ∷ rest) w) kind
    size (λ x w g. record { puts = g.same; some = omega arith }) le (omega arith) b c d))) (goes_on_lem f) (λ x w g _. bind size (λ _. []) f stays
    (λ _ _. nothing (record {
      puts = λ rest. g.puts rest ∙ ap (λ (v : List ℕ). v ++ encode_program rest) (sym (append-nil w));
      some = omega (arith, g.some, length-append w []);
    })))

pub no-program-words : encode_program [] ≡ []
unfolding encode_program
no-program-words = refl

-- nothing stands after a program
module _ (src : Source) {n : ℕ} (en : length src.symbols ≡ n) {s s₁ : List ℕ} {r r₁ : State} {kind : ℕ} (k : KindHere src r₁ kind)
    (d : Reads (many_up_to n [] is_declaration G.declared src) encode_program s s₁ r r₁) where
  whole-read : Reads (many [] is_declaration G.declared src) encode_program s s₁ r r₁
  unfolding many
  whole-read = subst (λ (m : ℕ). Reads (many_up_to m [] is_declaration G.declared src) encode_program s s₁ r r₁) (sym en) d

  pub program-read : kind ≡ K.NOTHING → Reads (G.program src) encode_program s s₁ r r₁
  unfolding G.program G.whole
  program-read q = bind 0 encode_program whole-read stays
      (λ p _. here (λ m. ok p m) (λ at free e. ap (λ (b : Bool). cond b (ok p at) (unexpected src at))
      (eq-eqb (kind_at src at) K.NOTHING (sym (k.here at free e) ∙ q))) (nothing (record { same = append-nil (encode_program p) })))

  pub program-refused : {r₂ : State} → (kind ≡ K.NOTHING → ⊥) → Refuses V.Unexpected r₁ r₂ → Reads (G.program src) encode_program s s₁ r r₂
  unfolding G.program G.whole unexpected
  program-refused q g = bind 0 encode_program whole-read (refuses-on g)
      (λ p _. stopped (λ at free e. ap (λ (b : Bool). cond b (ok p at) (no 6 at)) (ne_eqb (kind_at src at) K.NOTHING (λ y. q (k.here at free e ∙ y))))
      g)
