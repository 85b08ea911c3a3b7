-- Local declarations: the words after their names, and the whole.
use Rattle.laws.proofs.Basics.{ℕ, zero, suc, ◌+◌, ◌-◌, ◌*◌, ◌/◌, ◌<◌, ◌≤◌, ◌≡◌, refl, sym, ap, subst, ◌∙◌, List, [], ◌∷◌, ◌++◌, append_assoc}
use Rattle.laws.proofs.Basics.{append-nil, Bool, true, false, cond, length, length-append, eqb, arith, eqb-true, eq-eqb, ne_eqb}
use Rattle.language.specs.Kinds as K
use Rattle.language.specs.Tree as T
use Rattle.language.specs.Tree.{Name, Expression, Expressions}
use Rattle.language.specs.Reader.{Source, Out, ok, no, on_out, kind_at, the, optional, a_name, many_up_to, many, is_comma, further_items}
use Rattle.language.specs.Binding.{LOOSEST}
use Rattle.language.specs.Expressions as E
use Rattle.language.specs.Commands as C
use Rattle.language.specs.Grammar.{within, readers}
use Rattle.tree.specs.Reads.{KindHere, Follows, Prepends, Passes, Reads, Adds, record_from, SetsSize, free_of}
use Rattle.tree.specs.Between.{PrependsOne, an_argument, a_further, a_further_name, Gives}
use Rattle.tree.proofs.Lists.{Before, sized}
use Rattle.tree.specs.Encoding.{item, closed, encode_name, encode_names, encode_constant, encode_expressions, encode_locals}
use Rattle.tree.proofs.Steps.{follow, bind, here, added, adds_on, goes_on_lem, ◌then◌, nothing}
use Rattle.tree.proofs.Symbols.{stays}
use Rattle.tree.proofs.Readers.{parts}
use Rattle.tree.specs.declared.scratch.State.{State}

-- ---- {, expression}, so many of them

module _ (x : ℕ) (src : Source) where
  -- an expression and so many after it, as items
  pub argument-first :
      {B : Type 0} (t at : ℕ) (F : Expressions → B)
      → on_out (E.expression (within x) LOOSEST src at)
      (λ e q. on_out (C.further (readers (within x)) t src q) (λ es w. ok (F (T.and_expression e es)) w)) ≡ on_out (an_argument x src at)
      (λ put q. on_out (C.further (readers (within x)) t src q) (λ es w. ok (F (put es)) w))
  unfolding an_argument
  argument-first {B} t at F = by_out (E.expression (within x) LOOSEST src at)
    where
      by_out :
          (o : Out Expression)
          → on_out o (λ e q. on_out (C.further (readers (within x)) t src q) (λ es w. ok (F (T.and_expression e es)) w)) ≡ on_out
          (on_out o (λ e q. ok (T.and_expression e) q)) (λ put q. on_out (C.further (readers (within x)) t src q) (λ es w. ok (F (put es)) w))
      by_out (ok e q) = refl
      by_out (no k p) = refl

  after-comma :
      (t : ℕ) (o : Out ℕ)
      → on_out o (λ _ m. on_out (E.expression (within x) LOOSEST src m)
      (λ e q. on_out (C.further (readers (within x)) t src q) (λ es w. ok (T.and_expression e es) w))) ≡ on_out (on_out o (λ _ m. an_argument x src m))
      (λ put m. on_out (C.further (readers (within x)) t src m) (λ more q. ok (put more) q))
  after-comma t (ok p m) = argument-first t m (λ es. es)
  after-comma t (no k p) = refl

  pub value-turn :
      (t at : ℕ) → 0 < t → {t₁ : ℕ} → t₁ ≡ t - 1
      → C.further (readers (within x)) t src at ≡ on_out (a_further x src at)
      (λ put m. on_out (C.further (readers (within x)) t₁ src m) (λ more q. ok (put more) q))
  unfolding C.further a_further
  value-turn zero at h e = absurd (omega arith)
  value-turn (suc t) at h {t₁} e = let q : t ≡ t₁ = omega arith in
      after-comma t (the K.COMMA src at)
      ∙ ap (λ (u : ℕ). on_out (a_further x src at) (λ put m. on_out (C.further (readers (within x)) u src m) (λ more q. ok (put more) q))) q

  pub value-last : (t at : ℕ) → t ≡ 0 → C.further (readers (within x)) t src at ≡ ok T.no_expressions at
  unfolding C.further
  value-last zero at h = refl
  value-last (suc t) at h = absurd (omega arith)

pub value-next :
    (put put' : Expressions → Expressions) (w w' : List ℕ) → Before encode_expressions put w → PrependsOne put' w'
    → Before encode_expressions (λ es. put (put' es)) (w ++ w')
value-next put put' w w' h g =
    record { puts = λ rest. h.puts (put' rest) ∙ ap (λ (l : List ℕ). w ++ l) (g.puts rest) ∙ sym (append_assoc w w' (encode_expressions rest)) }

-- ---- what the names are given

pub vector-read :
    (src : Source) (size x : ℕ) (name : Name) (start : ℕ) {v : ℕ} {s s₁ s₂ : List ℕ} {r r₀ r₁ r₂ : State}
    → free_of size r ≡ start + length (encode_name name) → v ≡ free_of size r - start → Reads (the K.VEC src) (λ _. []) s s r r₀
    → Reads (E.constant (within x) src) encode_constant s s₁ r₀ r₁ → Adds (record_from start v 0 K.VEC) s₁ s₂ r₁ r₂
    → Follows (C.vector (readers (within x)) name src) (Gives (name ∷ [])) s s₂ r r₂
unfolding C.vector encode_name encode_names encode_locals
vector-read src size x name start {v} free-is v-is a c d =
    bind size (λ _. []) a (goes_on_lem c then adds_on d) (λ _ q₀. bind size encode_constant c (adds_on d) (λ k q₁.
    added size d (record {
      puts = λ rest. sym (
          ap (λ (z : ℕ). item K.LET (encode_name name ++ (encode_constant k ++ (z ∷ v ∷ 0 ∷ K.VEC ∷ []))) ++ encode_locals rest) (omega arith)
          ∙ ap (λ (z : ℕ). item K.LET (encode_name name ++ (encode_constant k ++ (length (encode_name name ++ encode_constant k) ∷ z ∷ 0 ∷ K.VEC ∷ [])))
          ++ encode_locals rest) (omega arith));
    })))

pub values-read :
    (src : Source) (size x : ℕ) (name : Name) (names : List Name) (start : ℕ) {v t : ℕ} {s s₁ s₂ s₃ : List ℕ} {r r₁ r₂ r₃ : State} → t ≡ length names
    → free_of size r ≡ start + length (encode_names (name ∷ names)) → v ≡ free_of size r - start → Follows (an_argument x src) PrependsOne s s₁ r r₁
    → Reads (C.further (readers (within x)) t src) encode_expressions s₁ s₂ r₁ r₂ → Adds (record_from start v 0 K.LET) s₂ s₃ r₂ r₃
    → Follows (C.values (readers (within x)) name names src) (Gives (name ∷ names)) s s₃ r r₃
unfolding C.values encode_locals
values-read src size x name names start {v} {t} {s} {s₁} {s₂} {s₃} {r} {r₁} {r₂} {r₃} t-is free-is v-is a c d =
    here _ (λ at free e. ap (λ (y : ℕ). on_out (E.expression (within x) LOOSEST src at)
    (λ e q. on_out (C.further (readers (within x)) y src q) (λ es w. ok (T.values (name ∷ names) (T.and_expression e es)) w))) (sym t-is)
    ∙ argument-first x src t at (λ es. T.values (name ∷ names) es))
    (follow size a (goes_on_lem c then adds_on d) (λ put w h q₀. bind size encode_expressions c (adds_on d) (λ es q₁.
    added size d (record {
      puts = λ rest. sym (
          ap (λ (u : List ℕ). item K.LET u ++ encode_locals rest) (parts (encode_names (name ∷ names)) w (encode_expressions es) (free_of size r₂ - start)
          v 0 K.LET (omega (arith, length-append (encode_names (name ∷ names)) (w ++ encode_expressions es), length-append w (encode_expressions es))))
          ∙ ap (λ (u : List ℕ). item K.LET (closed (encode_names (name ∷ names) ++ u) v 0 K.LET) ++ encode_locals rest) (sym (h.puts es))
          ∙ ap (λ (z : ℕ). item K.LET (closed (encode_names (name ∷ names) ++ encode_expressions (put es)) z 0 K.LET) ++ encode_locals rest)
          (omega arith));
    }))))

names-size : (ns : List Name) → length (encode_names ns) ≡ 4 * length ns
unfolding encode_names encode_name
names-size [] = refl
names-size (n ∷ ns) = omega (arith, names-size ns)

pub one_name : (name : Name) (names : List Name) → 0 ≡ length names → length (encode_names (name ∷ names)) ≡ length (encode_name name)
unfolding encode_names encode_name
one_name name names e = omega (arith, names-size names)

-- VEC after one name
pub vector-is : (kind further : ℕ) → cond (eqb kind K.VEC) (eqb further 0) false ≡ true → (kind ≡ K.VEC) × (further ≡ 0)
vector-is kind further e = by_bool (eqb kind K.VEC) refl e
  where
    by_bool : (b : Bool) → eqb kind K.VEC ≡ b → cond b (eqb further 0) false ≡ true → (kind ≡ K.VEC) × (further ≡ 0)
    by_bool true q h = (eqb-true kind K.VEC q, eqb-true further 0 h)
    by_bool false q h = let z : ◌≡◌ {A = ℕ} 0 1 = ap (λ (b : Bool). cond b 1 0) h in absurd (omega arith)

pub vector-not : (kind further : ℕ) → cond (eqb kind K.VEC) (eqb further 0) false ≡ false → further ≡ 0 → kind ≡ K.VEC → ⊥
vector-not kind further e q p = let y : cond (eqb kind K.VEC) (eqb further 0) false ≡ true = rw (eq-eqb kind K.VEC p, eq-eqb further 0 q) refl in
    let z : ◌≡◌ {A = ℕ} 1 0 = ap (λ (b : Bool). cond b 1 0) (sym y ∙ e) in
    omega arith

module _ (src : Source) (x : ℕ) {s s' : List ℕ} {r r' : State} {kind : ℕ} (k : KindHere src r kind) (name : Name) where
  pub given-vector :
      (names : List Name) → 0 ≡ length names → kind ≡ K.VEC → Follows (C.vector (readers (within x)) name src) (Gives (name ∷ [])) s s' r r'
      → Follows (C.given (readers (within x)) name names src) (Gives (name ∷ names)) s s' r r'
  unfolding C.given
  given-vector [] e q d = here _ (λ at free h. rw (eq-eqb (kind_at src at) K.VEC (sym (k.here at free h) ∙ q)) refl) d
  given-vector (m ∷ ns) e q d = absurd (omega arith)

  pub given-values :
      (names : List Name) → (0 ≡ length names → kind ≡ K.VEC → ⊥)
      → Follows (C.values (readers (within x)) name names src) (Gives (name ∷ names)) s s' r r'
      → Follows (C.given (readers (within x)) name names src) (Gives (name ∷ names)) s s' r r'
  unfolding C.given
  given-values [] q d = here _ (λ at free h. rw (ne_eqb (kind_at src at) K.VEC (λ y. q refl (k.here at free h ∙ y))) refl) d
  given-values (m ∷ ns) q d = d

pub no-local-words : encode_locals T.no_locals ≡ []
unfolding encode_locals
no-local-words = refl

-- ---- LET names = what they are given [;]

pub local-read :
    (src : Source) {n : ℕ} (size x : ℕ) {lo start further : ℕ} {s s₁ s₂ s₃ s₄ s₅ : List ℕ} {r r₀ r₁ r₂ r₃ r₄ r₅ r₆ : State}
    → length src.symbols ≡ n → lo ≡ free_of size r → free_of size r₀ ≤ length s → start ≡ free_of size r₁
    → further ≡ (free_of size r₃ - free_of size r₂) / 4 → Reads (the K.LET src) (λ _. []) s s r r₀ → Adds (λ _. 0 ∷ K.LET ∷ []) s s₁ r₀ r₁
    → Reads (a_name src) encode_name s₁ s₂ r₁ r₂ → Reads (many_up_to n [] is_comma a_further_name src) encode_names s₂ s₃ r₂ r₃
    → Reads (the K.EQUAL src) (λ _. []) s₃ s₃ r₃ r₄
    → ((name : Name) (names : List Name) → further ≡ length names → free_of size r₄ ≡ start + length (encode_names (name ∷ names))
    → Follows (C.given (readers (within x)) name names src) (Gives (name ∷ names)) s₃ s₄ r₄ r₅)
    → Passes r₄ r₅ → Reads (optional K.SEMICOLON src) (λ _. []) s₄ s₄ r₅ r₆ → SetsSize lo s₄ s₅ r₆
    → Follows (C.local (readers (within x)) src) (Prepends encode_locals) s s₅ r r₆
unfolding C.local further_items many C.further_name a_further_name encode_names
local-read src {n} size x {lo} {start} {further} {s} {s₁} {s₂} {s₃} {s₄} {s₅} {r} {r₀} {r₁} {r₂} {r₃} {r₄} {r₅} {r₆} en lo-is le st fu a b c
    d f g gp o z = let op = goes_on_lem o in
    let fp = goes_on_lem f then gp then op in
    bind size (λ _. []) a (adds_on b then goes_on_lem c then goes_on_lem d then fp) (λ _ q₀.
    sized (Prepends encode_locals) K.LET size (λ put w h. record { puts = h.puts; some = omega arith }) le (omega arith) b
    (bind {Says = Gives []} size encode_name c (goes_on_lem d then fp)
    (λ m q₁. bind size encode_names (subst (λ (y : ℕ). Reads (many_up_to y [] is_comma a_further_name src) encode_names s₂ s₃ r₂ r₃) (sym en) d) fp
    (λ ns q₂. bind size (λ _. []) f (gp then op)
    (λ _ q₃. follow size (g m ns (omega (arith, names-size ns)) (omega (arith, length-append (encode_name m) (encode_names ns)))) op
    (λ put w h q₄. bind size (λ _. []) o stays (λ _ q₅. nothing (record {
      puts = λ rest. h.puts rest ∙ ap (λ (u : List ℕ). item K.LET u ++ encode_locals rest) (append_assoc (encode_name m) (encode_names ns) w
          ∙ ap (λ (u : List ℕ). encode_name m ++ (encode_names ns ++ u)) (sym (append-nil w)));
    })))))))
    z)
