-- The readers of expressions: what each construct's parts make together, one law for each.
use Rattle.laws.proofs.Basics.{ℕ, zero, suc, ◌+◌, ◌-◌, ◌<◌, ◌≤◌, ◌≡◌, refl, sym, ap, subst, ◌∙◌, List, [], ◌∷◌, ◌++◌, append_assoc, append-nil, Bool}
use Rattle.laws.proofs.Basics.{true, false, cond, length, length-append, arith, eq-eqb, ne_eqb}
use Rattle.language.specs.Kinds as K
use Rattle.language.specs.Tree as T
use Rattle.language.specs.Tree.{Expression, Suffixes, Operations, with_operations, with_suffixes}
use Rattle.language.specs.Reader.{Source, Out, ok, no, Reader, on_out, kind_at, place_at, any, the, many_up_to, many, is_comma, further_items}
use Rattle.language.specs.Reader.{one_up_to_close, up_to_close}
use Rattle.language.specs.Binding.{reach_of, NEGATION, LOOSEST}
use Rattle.language.specs.Expressions as E
use Rattle.language.specs.Expressions.{Inside, inside, opening}
use Rattle.language.specs.Grammar.{within, readers}
use Rattle.tree.specs.Reads.{TakesRoom, Reading, HoldsSymbols, Here, KindHere, Follows, Encodes, Prepends, Reads, Adds, record_from}
use Rattle.tree.specs.Reads.{behind_from, SetsSize, free_of}
use Rattle.tree.specs.Between.{PrependsSuffix, PrependsOne, an_argument, a_further, right_of}
use Rattle.tree.specs.Encoding.{MONADIC, DYADIC, item, behind, closed, suffixed_kind, encode, encode_expressions, encode_suffixes}
use Rattle.tree.specs.Encoding.{encode_operations, encode_command}
use Rattle.tree.proofs.Steps.{follow, bind, here, closes, added, adds_on, goes_on_lem, ◌then◌, nothing}
use Rattle.tree.proofs.Lists.{sized, last, turned}
use Rattle.tree.proofs.Symbols.{inside as among, ends, placed, mapped, the-is, stays}
use Rattle.tree.proofs.Classes.{positive}
use Rattle.tree.proofs.Rooms.{left, ◌less◌, room-left}
use Rattle.tree.specs.declared.scratch.State.{State}
use Rattle.tree.specs.declared.scratch.State.TheVariants.{Read}

-- a level is left, or none
pub deeper : (x : ℕ) → (x ≡ 0 → ⊥) → within x ≡ inside (readers (within (x - 1)))
unfolding within
deeper zero h = absurd (h refl)
deeper (suc x) h = let e : x ≡ suc x - 1 = omega arith in ap (λ (y : ℕ). inside (readers (within y))) e

-- the symbol here, whatever it is, is of the kind that stands here
pub any-the :
    {C : Type 0} {src : Source} {r : State} {kind : ℕ} → KindHere src r kind → (F : ℕ → ℕ → ℕ → Out C) (at free : ℕ) → r ≡ Read at free
    → F (kind_at src at) (place_at src at) (at + 1) ≡ on_out (the kind src at) (F kind)
any-the {C} {src} {r} {kind} k F at free e = let q = k.here at free e in
    ap (λ (y : ℕ). F y (place_at src at) (at + 1)) (sym q) ∙ sym (ap (λ (o : Out ℕ). on_out o (F kind)) (the-is src kind at (sym q)))

module _ {src : Source} {n : ℕ} {s : List ℕ} (l : HoldsSymbols src n s) {r : State} (size : ℕ) (x : ℕ) {lo p : ℕ} (lo-is : lo ≡ free_of size r)
    (h : Here (place_at src) n r p) (deep : x ≡ 0 → ⊥) {s₂ s₃ : List ℕ} {r₁ r₂ r₄ : State} where
  pub bracketed-read :
      {r₃ : State} → Reads (the K.OPEN src) (λ _. []) s s r r₁ → Reads (E.expression (within (x - 1)) LOOSEST src) encode s s₂ r₁ r₂
      → Reads (the K.CLOSE src) (λ _. []) s₂ s₂ r₂ r₃ → Adds (record_from lo 0 p K.OPEN) s₂ s₃ r₃ r₄
      → Reads (E.bracketed (within x) src) encode s s₃ r r₄
  unfolding E.bracketed opening encode
  bracketed-read a b c d = closes (Encodes encode) size lo-is
      (here (E.bracketed (inside (readers (within (x - 1)))) src) (λ at free e. ap (λ (i : Inside). E.bracketed i src at) (deeper x deep))
      (here _ (placed l h K.OPEN (omega arith)
      (λ place m. on_out (E.expression (within (x - 1)) LOOSEST src m) (λ e q. on_out (the K.CLOSE src q) (λ _ w. ok (T.bracketed place e) w))))
      (bind size (λ _. []) a (goes_on_lem b then goes_on_lem c) (λ _ _. bind size encode b (goes_on_lem c) (λ e _. bind size (λ _. []) c stays
      (λ _ _. nothing (record { same = ap (λ (w : List ℕ). closed w 0 p K.OPEN) (append-nil (encode e)) }))))))) d

  pub valof-read :
      Reads (the K.VALOF src) (λ _. []) s s r r₁ → Reads ((readers (within (x - 1))).command src) encode_command s s₂ r₁ r₂
      → Adds (record_from lo 0 p K.VALOF) s₂ s₃ r₂ r₄ → Reads (E.valof (within x) src) encode s s₃ r r₄
  unfolding E.valof opening encode
  valof-read a b d = closes (Encodes encode) size lo-is
      (here (E.valof (inside (readers (within (x - 1)))) src) (λ at free e. ap (λ (i : Inside). E.valof i src at) (deeper x deep))
      (here _ (placed l h K.VALOF (omega arith) (λ place m. on_out ((readers (within (x - 1))).command src m) (λ c w. ok (T.valof place c) w)))
      (bind size (λ _. []) a (goes_on_lem b) (λ _ _. ends (T.valof p) b (λ c. record { same = refl }))))) d

  pub monadic-read :
      {kind reach : ℕ} → KindHere src r kind → 0 < kind → reach ≡ reach_of kind → Reads (the kind src) (λ _. []) s s r r₁
      → Reads (E.expression (within (x - 1)) reach src) encode s s₂ r₁ r₂ → Adds (record_from lo kind p MONADIC) s₂ s₃ r₂ r₄
      → Reads (E.monadic (within x) src) encode s s₃ r r₄
  unfolding E.monadic opening any encode
  monadic-read {kind} {reach} k pos e a b d = closes (Encodes encode) size lo-is
      (here (E.monadic (inside (readers (within (x - 1)))) src) (λ at free e. ap (λ (i : Inside). E.monadic i src at) (deeper x deep))
      (here _ (any-the k (λ y place m. on_out (E.expression (within (x - 1)) (reach_of y) src m) (λ e q. ok (T.monadic place y e) q)))
      (here _ (placed l h kind pos (λ place m. on_out (E.expression (within (x - 1)) (reach_of kind) src m) (λ e q. ok (T.monadic place kind e) q)))
      (bind size (λ _. []) a (goes_on_lem b) (λ _ _. ends (T.monadic p kind)
      (subst (λ (y : ℕ). Reads (E.expression (within (x - 1)) y src) encode s s₂ r₁ r₂) e b) (λ e. record { same = refl })))))) d

-- an item of a list
module _ {A B : Type 0} (F : B → A → A) (tag size : ℕ) {body : ℕ → Out B} (enc : B → List ℕ) {lo : ℕ} {s s₁ s₂ s₃ : List ℕ}
    {Says : (A → A) → List ℕ → Type 0} (law : (e : B) → Says (F e) (item tag (enc e))) where
  pub item-alone :
      {r r₁ r₂ : State} → lo ≡ free_of size r → free_of size r ≤ length s → Adds (λ _. 0 ∷ tag ∷ []) s s₁ r r₁ → Reads body enc s₁ s₂ r₁ r₂
      → SetsSize lo s₂ s₃ r₂ → Follows (λ m. on_out (body m) (λ e w. ok (F e) w)) Says s s₃ r r₂
  item-alone lo-is le a d b = bind size (λ e. item tag (enc e))
      (sized (Encodes (λ e. item tag (enc e))) tag size (λ e w h. record { same = ap (λ (v : List ℕ). item tag v) h.same }) le lo-is a d b) stays
      (λ e q. nothing (subst (λ (v : List ℕ). Says (F e) v) (sym (append-nil (item tag (enc e)))) (law e)))

  pub item-read :
      {first : ℕ → Out ℕ} {r r₀ r₁ r₂ : State} → lo ≡ free_of size r → free_of size r₀ ≤ length s → Reads first (λ _. []) s s r r₀
      → Adds (λ _. 0 ∷ tag ∷ []) s s₁ r₀ r₁ → Reads body enc s₁ s₂ r₁ r₂ → SetsSize lo s₂ s₃ r₂
      → Follows (λ m. on_out (first m) (λ _ q. on_out (body q) (λ e w. ok (F e) w))) Says s s₃ r r₂
  item-read lo-is le c a d b = bind size (λ _. []) c (adds_on a then goes_on_lem d) (λ _ q. item-alone (omega arith) le a d b)

-- a suffix, its two entries behind it
module _ {A B : Type 0} (F : B → A → A) (tag size : ℕ) {first : ℕ → Out ℕ} {body : ℕ → Out B} (enc : B → List ℕ) {lo : ℕ} {s s₁ s₂ : List ℕ}
    {Says : (A → A) → List ℕ → Type 0} (law : (e : B) → Says (F e) (behind tag (enc e))) where
  pub behind-read :
      {r r₀ r₁ r₂ : State} → lo ≡ free_of size r → Reads first (λ _. []) s s r r₀ → Reads body enc s s₁ r₀ r₁ → Adds (behind_from lo tag) s₁ s₂ r₁ r₂
      → Follows (λ m. on_out (first m) (λ _ q. on_out (body q) (λ e w. ok (F e) w))) Says s s₂ r r₂
  behind-read {r} {r₀} {r₁} lo-is c d b = bind size (λ _. []) c (goes_on_lem d then adds_on b) (λ _ q₁. bind size enc d (adds_on b) (λ e q₂.
      let z : length (enc e) ≡ free_of size r₁ - lo = omega arith in
      added size b (subst (λ (y : ℕ). Says (F e) (enc e ++ (y ∷ tag ∷ []))) z (law e))))

-- an item's words stand before those of the items after it
pub put_first :
    {A B : Type 0} (F : B → A → A) (tag : ℕ) (enc : B → List ℕ) (encs : A → List ℕ)
    → ((e : B) (rest : A) → encs (F e rest) ≡ item tag (enc e) ++ encs rest) → (e : B) → Prepends encs (F e) (item tag (enc e))
put_first F tag enc encs law e = record { puts = law e; some = omega arith }

some-behind : (tag : ℕ) (w : List ℕ) → 0 < length (behind tag w)
some-behind tag w = omega (arith, length-append w (length w ∷ tag ∷ []))

module _ (src : Source) {r : State} (size : ℕ) (x : ℕ) {lo : ℕ} (lo-is : lo ≡ free_of size r) {s s₁ s₂ s₃ : List ℕ} {r₁ r₂ : State} where
  pub operation-read :
      {r₀ : State} {kind : ℕ} (right : ℕ) → free_of size r₀ ≤ length s → KindHere src r kind → Reads (the kind src) (λ _. []) s s r r₀
      → Adds (λ _. 0 ∷ kind ∷ []) s s₁ r₀ r₁ → Reads (E.expression (within x) right src) encode s₁ s₂ r₁ r₂ → SetsSize lo s₂ s₃ r₂
      → Follows (E.operation (E.expression (within x) right) src) (Prepends encode_operations) s s₃ r r₂
  unfolding E.operation any encode_operations
  operation-read {kind = kind} right le k c a d b =
      here _ (any-the k (λ y _ m. on_out (E.expression (within x) right src m) (λ e q. ok (T.operation y e) q)))
      (item-read (T.operation kind) kind size encode (put_first (T.operation kind) kind encode encode_operations (λ e rest. refl)) lo-is le c a d b)

  pub argument-read :
      free_of size r ≤ length s → Adds (λ _. 0 ∷ 0 ∷ []) s s₁ r r₁ → Reads (E.expression (within x) LOOSEST src) encode s₁ s₂ r₁ r₂
      → SetsSize lo s₂ s₃ r₂
      → Follows (an_argument x src) PrependsOne s s₃ r r₂
  unfolding an_argument encode_expressions T.count
  argument-read le a d b = item-alone T.and_expression 0 size encode (λ e. record { puts = λ rest. refl; one = λ rest. omega arith }) lo-is le a d b

module _ (src : Source) {r : State} (size : ℕ) (x : ℕ) {lo : ℕ} (lo-is : lo ≡ free_of size r) {s s₁ s₂ : List ℕ} {r₁ r₂ : State} where
  pub index_read :
      {r₀ : State} → Reads (the K.PLING src) (λ _. []) s s r r₀ → Reads (E.subscript (within x) src) encode s s₁ r₀ r₁
      → Adds (behind_from lo K.PLING) s₁ s₂ r₁ r₂ → Follows (E.index (within x) src) (PrependsSuffix false) s s₂ r r₂
  unfolding E.index encode_suffixes T.ends_in_call
  index_read c d b =
      behind-read T.index K.PLING size encode (λ e. record { puts = λ rest. refl; some = some-behind K.PLING (encode e); ends = λ b rest. refl })
      lo-is c d b

  pub arguments-read :
      {r₀ : State} → (x ≡ 0 → ⊥) → Reads (the K.OPEN src) (λ _. []) s s r r₀
      → Reads (up_to_close T.no_expressions (an_argument (x - 1)) src) encode_expressions s s₁ r₀ r₁ → Adds (behind_from lo K.OPEN) s₁ s₂ r₁ r₂
      → Follows (E.arguments (within x) src) (PrependsSuffix true) s s₂ r r₂
  unfolding E.arguments opening encode_suffixes an_argument T.ends_in_call
  arguments-read deep c d b =
      here (E.arguments (inside (readers (within (x - 1)))) src) (λ at free e. ap (λ (i : Inside). E.arguments i src at) (deeper x deep))
      (behind-read T.call K.OPEN size encode_expressions
      (λ e. record { puts = λ rest. refl; some = some-behind K.OPEN (encode_expressions e); ends = λ b rest. refl }) lo-is c d b)

-- the list of arguments up to the bracket
module _ (src : Source) (x : ℕ) {s : List ℕ} {r : State} {kind : ℕ} (k : KindHere src r kind) where
  pub no_arguments :
      {r₁ : State} → kind ≡ K.CLOSE → Reads (the K.CLOSE src) (λ _. []) s s r r₁
      → Reads (up_to_close T.no_expressions (an_argument x) src) encode_expressions s s r r₁
  unfolding up_to_close encode_expressions
  no_arguments q d = here _ (λ at free e. let y : kind_at src at ≡ K.CLOSE = sym (k.here at free e) ∙ q in
      ap (λ (b : Bool). cond b (ok T.no_expressions (at + 1)) (one_up_to_close T.no_expressions (an_argument x) src at)) (eq-eqb (kind_at src at) K.CLOSE y)
      ∙ sym (ap (λ (o : Out ℕ). on_out o (λ _ m. ok T.no_expressions m)) (the-is src K.CLOSE at y))) (mapped (λ _. T.no_expressions) (λ _. refl) d)

  pub some-arguments :
      {n : ℕ} {s₁ s₂ : List ℕ} {r₁ r₂ r₃ : State} (size : ℕ) → length src.symbols ≡ n → (kind ≡ K.CLOSE → ⊥)
      → Follows (an_argument x src) PrependsOne s s₁ r r₁ → Reads (many_up_to n T.no_expressions is_comma (a_further x) src) encode_expressions s₁ s₂ r₁ r₂
      → Reads (the K.CLOSE src) (λ _. []) s₂ s₂ r₂ r₃ → Reads (up_to_close T.no_expressions (an_argument x) src) encode_expressions s s₂ r r₃
  unfolding up_to_close one_up_to_close further_items many a_further
  some-arguments {n} {s₁} {s₂} {r₁} {r₂} {r₃} size en q a b c =
      here _ (λ at free e. ap (λ (z : Bool). cond z (ok T.no_expressions (at + 1)) (one_up_to_close T.no_expressions (an_argument x) src at))
      (ne_eqb (kind_at src at) K.CLOSE (λ y. q (k.here at free e ∙ y)))) (follow size a (goes_on_lem b then goes_on_lem c)
      (λ put w h q₁. bind size encode_expressions
      (subst (λ (m : ℕ). Reads (many_up_to m T.no_expressions is_comma (a_further x) src) encode_expressions s₁ s₂ r₁ r₂) (sym en) b) (goes_on_lem c)
      (λ rest q₂. bind size (λ _. []) c stays
      (λ _ q₃. nothing (record { same = ap (λ (v : List ℕ). w ++ v) (append-nil (encode_expressions rest)) ∙ sym (h.puts rest) })))))

-- a comma and an argument
pub further-reads :
    (x : ℕ) {n : ℕ} {s s₁ : List ℕ} {r r₀ r₁ : State} → Reading 5 (the K.COMMA) (Encodes (λ _. [])) s s n r r₀
    → TakesRoom 1 s s₁ n r₀ r₁ × ((src : Source) → HoldsSymbols src n s → Follows (an_argument x src) PrependsOne s s₁ r₀ r₁)
    → Reading 4 (a_further x) PrependsOne s s₁ n r r₁
unfolding a_further
further-reads x c a = (room-left (left c.0 less a.0) refl, λ src l. bind 0 (λ _. []) (c.1 src l) (goes_on_lem (a.1 src l)) (λ _ q. a.1 src l))

-- chains of operators
pub chain-is :
    (inner : Inside) (src : Source) (b at : ℕ) → (b ≡ 0 → ⊥) → (b ≡ NEGATION → ⊥) → b ≤ LOOSEST
    → E.expression inner b src at ≡ on_out (E.expression inner (b - 1) src at)
    (λ e m. on_out (E.operations b (E.expression inner (right_of b)) src m) (λ os q. ok (with_operations e os) q))
unfolding E.expression E.products E.sums E.relations E.shifts E.conjunctions E.disjunctions E.chain right_of
chain-is inner src zero at h m g = absurd (h refl)
chain-is inner src (suc zero) at h m g = refl
chain-is inner src (suc (suc zero)) at h m g = refl
chain-is inner src (suc (suc (suc zero))) at h m g = refl
chain-is inner src (suc (suc (suc (suc zero)))) at h m g = refl
chain-is inner src (suc (suc (suc (suc (suc zero))))) at h m g = absurd (m refl)
chain-is inner src (suc (suc (suc (suc (suc (suc zero)))))) at h m g = refl
chain-is inner src (suc (suc (suc (suc (suc (suc (suc zero))))))) at h m g = refl
chain-is inner src (suc (suc (suc (suc (suc (suc (suc (suc b)))))))) at h m g = absurd (omega arith)

nest :
    {A C : Type 0} (o : Out A) (put : A → A) (G : A → ℕ → Out C) → on_out (on_out o (λ more w. ok (put more) w)) G ≡ on_out o (λ more w. G (put more) w)
nest (ok a m) put G = refl
nest (no k p) put G = refl

pub nests :
    {A C : Type 0} (o : Out (A → A)) (M : ℕ → Out A) (G : A → ℕ → Out C)
    → on_out (on_out o (λ put q. on_out (M q) (λ more w. ok (put more) w))) G ≡ on_out o (λ put q. on_out (M q) (λ more w. G (put more) w))
nests (ok put m) M G = nest (M m) put G
nests (no k p) M G = refl

-- { item }, and what is made of the list: no item stands here, or a first one does
module _ {src : Source} {r : State} {kind : ℕ} (k : KindHere src r kind) where
  module _ {A C : Type 0} (none : A) (begins : ℕ → Bool) (one : Reader (A → A)) (make : A → ℕ → Out C) {at free : ℕ} (e : r ≡ Read at free) where
    pub many-none : begins kind ≡ false → on_out (many none begins one src at) make ≡ make none at
    unfolding many
    many-none h = ap (λ (o : Out A). on_out o make) (last none begins one src (length src.symbols) at (sym (ap begins (k.here at free e)) ∙ h))

    pub many-first :
        {n : ℕ} {s : List ℕ} → HoldsSymbols src n s → begins 0 ≡ false → begins kind ≡ true
        → on_out (many none begins one src at) make ≡ on_out (one src at)
        (λ put q. on_out (many_up_to (n - 1) none begins one src q) (λ more w. make (put more) w))
    unfolding many
    many-first {n} l z h = let b : begins (kind_at src at) ≡ true = sym (ap begins (k.here at free e)) ∙ h in
        let i : at < n = among l at (positive begins (kind_at src at) z b) in
        ap (λ (o : Out A). on_out o make) (ap (λ (m : ℕ). many_up_to m none begins one src at) l.count
        ∙ turned none begins one src n at (omega arith) b) ∙ nests (one src at) (λ q. many_up_to (n - 1) none begins one src q) make

-- what stands before a closing record, part by part
pub parts : (a b c : List ℕ) (z v p k : ℕ) → z ≡ length (a ++ (b ++ c)) → a ++ (b ++ (c ++ (z ∷ v ∷ p ∷ k ∷ []))) ≡ closed (a ++ (b ++ c)) v p k
parts a b c z v p k e = ap (λ (w : List ℕ). a ++ w) (sym (append_assoc b c (z ∷ v ∷ p ∷ k ∷ []))) ∙ sym (append_assoc a (b ++ c) (z ∷ v ∷ p ∷ k ∷ []))
    ∙ ap (λ (y : ℕ). (a ++ (b ++ c)) ++ (y ∷ v ∷ p ∷ k ∷ [])) e

pub encode-dyadic :
    (e : Expression) (os : Operations) → 0 < length (encode_operations os)
    → encode (with_operations e os) ≡ closed (encode e ++ encode_operations os) (length (encode e)) (T.place_of e) DYADIC
unfolding with_operations encode encode_operations
encode-dyadic e T.no_operations h = absurd (omega arith)
encode-dyadic e (T.operation o d os) h = refl

pub encode-suffixed :
    (e : Expression) (ss : Suffixes) → 0 < length (encode_suffixes ss)
    → encode (with_suffixes e ss) ≡ closed (encode e ++ encode_suffixes ss) (length (encode e)) (T.place_of e) (suffixed_kind (T.ends_in_call false ss))
unfolding with_suffixes encode encode_suffixes
encode-suffixed e T.no_suffixes h = absurd (omega arith)
encode-suffixed e (T.call es ss) h = refl
encode-suffixed e (T.index d ss) h = refl
