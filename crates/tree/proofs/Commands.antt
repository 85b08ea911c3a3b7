-- The readers of commands: what each construct's parts make together, one law for each.
use Rattle.laws.proofs.Basics.{ℕ, ◌-◌, ◌<◌, ◌≤◌, ◌≡◌, refl, sym, ap, ◌∙◌, List, [], ◌∷◌, ◌++◌, append-nil, Bool, true, false, cond, length, eqb}
use Rattle.laws.proofs.Basics.{arith, eq-eqb, ne_eqb}
use Rattle.language.specs.Kinds as K
use Rattle.language.specs.Kinds.{member}
use Rattle.language.specs.Tree as T
use Rattle.language.specs.Tree.{Unlabelled}
use Rattle.language.specs.Reader.{Reader, Source, ok, on_out, kind_at, place_at, any, the, many_up_to}
use Rattle.language.specs.Binding.{LOOSEST, is_repeat, is_guard, is_leave}
use Rattle.language.specs.Expressions as E
use Rattle.language.specs.Commands as C
use Rattle.language.specs.Grammar.{within, readers}
use Rattle.tree.specs.Reads.{Encodes, Reading, ReadingAt, HoldsSymbols, Here, KindHere, Follows, Prepends, Reads, Adds, record_from, SetsSize}
use Rattle.tree.specs.Reads.{free_of}
use Rattle.tree.specs.Between.{leaving, repeated_by, repeated_only, encode_repeated_only}
use Rattle.tree.specs.Encoding.{REPEATED, closed, encode, encode_command, encode_unlabelled, encode_repeats, repeated}
use Rattle.tree.proofs.Steps.{follow, bind, here, closes, added, adds_on, goes_on_lem, ◌then◌, nothing}
use Rattle.tree.proofs.Symbols.{ends, placed, stays}
use Rattle.tree.proofs.Chains.{chained, grown}
use Rattle.text.proofs.Bytes.{Unlike}
use Rattle.tree.proofs.Classes.{unlike5}
use Rattle.tree.proofs.Choices.{KindsHere, chosen, picked}
use Rattle.tree.proofs.Readers.{any-the, item-read, put_first, many-none, many-first}
use Rattle.tree.specs.declared.scratch.State.{State}

module _ {src : Source} {n : ℕ} {s : List ℕ} (l : HoldsSymbols src n s) {r : State} (size x : ℕ) {lo : ℕ} (lo-is : lo ≡ free_of size r) where
  pub resultis-read :
      {p : ℕ} {s₂ s₃ : List ℕ} {r₁ r₂ r₃ : State} → Here (place_at src) n r p → Reads (the K.RESULTIS src) (λ _. []) s s r r₁
      → Reads (E.expression (within x) LOOSEST src) encode s s₂ r₁ r₂ → Adds (record_from lo 0 p K.RESULTIS) s₂ s₃ r₂ r₃
      → Reads (C.resultis (readers (within x)) src) encode_unlabelled s s₃ r r₃
  unfolding C.resultis encode_unlabelled
  resultis-read {p} h a b d = closes (Encodes encode_unlabelled) size lo-is
      (here _ (placed l h K.RESULTIS (omega arith) (λ place m. on_out (E.expression (within x) LOOSEST src m) (λ e w. ok (T.resultis place e) w)))
      (bind size (λ _. []) a (goes_on_lem b) (λ _ _. ends (T.resultis p) b (λ e. record { same = refl })))) d

  pub guarded-read :
      {kind : ℕ} {s₂ s₄ s₅ : List ℕ} {r₁ r₂ r₃ r₄ r₅ : State} → KindHere src r kind → Reads (the kind src) (λ _. []) s s r r₁
      → Reads (E.expression (within x) LOOSEST src) encode s s₂ r₁ r₂ → Reads (the K.DO src) (λ _. []) s₂ s₂ r₂ r₃
      → Reads (C.command (within x) src) encode_command s₂ s₄ r₃ r₄ → Adds (record_from lo 0 0 kind) s₄ s₅ r₄ r₅
      → Reads (C.guarded (readers (within x)) src) encode_unlabelled s s₅ r r₅
  unfolding C.guarded any encode_unlabelled
  guarded-read {kind} k a b c d f = closes (Encodes encode_unlabelled) size lo-is
      (here _ (any-the k (λ y _ m. on_out (E.expression (within x) LOOSEST src m)
      (λ e q. on_out (the K.DO src q) (λ _ w. on_out (C.command (within x) src w) (λ c u. ok (T.guarded y e c) u)))))
      (bind size (λ _. []) a (goes_on_lem b then goes_on_lem c then goes_on_lem d) (λ _ _. bind size encode b (goes_on_lem c then goes_on_lem d)
      (λ e _. bind size (λ _. []) c (goes_on_lem d) (λ _ _. ends (T.guarded kind e) d (λ y. record { same = refl })))))) f

  pub test_read :
      {s₂ s₄ s₆ s₇ : List ℕ} {r₁ r₂ r₃ r₄ r₅ r₆ r₇ : State} → Reads (the K.TEST src) (λ _. []) s s r r₁
      → Reads (E.expression (within x) LOOSEST src) encode s s₂ r₁ r₂ → Reads (the K.DO src) (λ _. []) s₂ s₂ r₂ r₃
      → Reads (C.command (within x) src) encode_command s₂ s₄ r₃ r₄ → Reads (the K.OR src) (λ _. []) s₄ s₄ r₄ r₅
      → Reads (C.command (within x) src) encode_command s₄ s₆ r₅ r₆ → Adds (record_from lo 0 0 K.TEST) s₆ s₇ r₆ r₇
      → Reads (C.test (readers (within x)) src) encode_unlabelled s s₇ r r₇
  unfolding C.test encode_unlabelled
  test_read a b c d f g i = closes (Encodes encode_unlabelled) size lo-is
      (bind size (λ _. []) a (goes_on_lem b then goes_on_lem c then goes_on_lem d then goes_on_lem f then goes_on_lem g)
      (λ _ _. bind size encode b (goes_on_lem c then goes_on_lem d then goes_on_lem f then goes_on_lem g)
      (λ e _. bind size (λ _. []) c (goes_on_lem d then goes_on_lem f then goes_on_lem g) (λ _ _. bind size encode_command d (goes_on_lem f then goes_on_lem g)
      (λ y _. bind size (λ _. []) f (goes_on_lem g) (λ _ _. ends (T.test e y) g (λ z. record { same = refl }))))))) i

-- REPEAT forms
module _ (src : Source) {r : State} (size x : ℕ) {kind : ℕ} (k : KindHere src r kind) {s s₁ : List ℕ} {r₀ r₁ : State} where
  pub repeat_read :
      kind ≡ K.REPEAT → Reads (the kind src) (λ _. []) s s r r₀ → Adds (λ _. 0 ∷ kind ∷ []) s s₁ r₀ r₁
      → Follows (C.repeat_form (readers (within x)) src) (Prepends encode_repeats) s s₁ r r₁
  unfolding C.repeat_form C.repeat encode_repeats
  repeat_read q c a = here (λ at. on_out (the kind src at) (λ _ m. ok T.repeat m))
      (λ at free e. ap (λ (b : Bool). cond b (C.repeat (readers (within x)) src at) (C.repeat_on (readers (within x)) src at))
      (eq-eqb (kind_at src at) K.REPEAT (sym (k.here at free e) ∙ q)) ∙ ap (λ (y : ℕ). on_out (the y src at) (λ _ m. ok T.repeat m)) (sym q))
      (bind size (λ _. []) c (adds_on a)
      (λ _ _. added size a (record { puts = λ rest. ap (λ (y : ℕ). 0 ∷ y ∷ encode_repeats rest) (sym q); some = omega arith })))

  pub repeat-on-read :
      {lo : ℕ} {s₂ s₃ : List ℕ} {r₂ : State} → lo ≡ free_of size r → (kind ≡ K.REPEAT → ⊥) → free_of size r₀ ≤ length s
      → Reads (the kind src) (λ _. []) s s r r₀ → Adds (λ _. 0 ∷ kind ∷ []) s s₁ r₀ r₁
      → Reads (E.expression (within x) LOOSEST src) encode s₁ s₂ r₁ r₂ → SetsSize lo s₂ s₃ r₂
      → Follows (C.repeat_form (readers (within x)) src) (Prepends encode_repeats) s s₃ r r₂
  unfolding C.repeat_form C.repeat_on any encode_repeats
  repeat-on-read lo-is q le c a d b = here (C.repeat_on (readers (within x)) src)
      (λ at free e. ap (λ (b : Bool). cond b (C.repeat (readers (within x)) src at) (C.repeat_on (readers (within x)) src at))
      (ne_eqb (kind_at src at) K.REPEAT (λ y. q (k.here at free e ∙ y))))
      (here _ (any-the k (λ y _ m. on_out (E.expression (within x) LOOSEST src m) (λ e w. ok (T.repeat_on y e) w)))
      (item-read (T.repeat_on kind) kind size encode (put_first (T.repeat_on kind) kind encode encode_repeats (λ e rest. refl)) lo-is le c a d b))

pub no-repeat-words : encode_repeats T.no_repeats ≡ []
unfolding encode_repeats
no-repeat-words = refl

some-forms : (w rs : List ℕ) → 0 < length rs → repeated w rs ≡ closed (w ++ rs) (length w) 0 REPEATED
unfolding repeated
some-forms w [] h = absurd (omega arith)
some-forms w (x ∷ rs) h = refl

-- a command and the REPEAT forms after it
module _ {src : Source} {n : ℕ} {s₀ : List ℕ} (l : HoldsSymbols src n s₀) (size x : ℕ) {s s₁ : List ℕ} {r r₁ : State} {kind : ℕ}
    (k : KindHere src r₁ kind) (d₁ : Reads (C.unlabelled (readers (within x)) src) encode_unlabelled s s₁ r r₁) where
  pub repeated-one : is_repeat kind ≡ false → Reads (repeated_only x src) encode_repeated_only s s₁ r r₁
  unfolding repeated_only repeated_by encode_repeated_only repeated encode_repeats
  repeated-one h = bind size encode_unlabelled d₁ stays (λ u q. here (λ m. ok (record { body = u; forms = T.no_repeats }) m)
      (λ at free y. many-none k T.no_repeats is_repeat (C.repeat_form (readers (within x))) (λ rs q. ok (record { body = u; forms = rs }) q) y h)
      (nothing (record { same = append-nil (encode_unlabelled u) })))

  pub repeated-more :
      {s₂ s₃ s₄ : List ℕ} {r₂ r₃ r₄ : State} {lo value : ℕ} → is_repeat kind ≡ true → lo ≡ free_of size r → value ≡ free_of size r₁ - lo
      → Follows (C.repeat_form (readers (within x)) src) (Prepends encode_repeats) s₁ s₂ r₁ r₂
      → Reads (many_up_to (n - 1) T.no_repeats is_repeat (C.repeat_form (readers (within x))) src) encode_repeats s₂ s₃ r₂ r₃
      → Adds (record_from lo value 0 REPEATED) s₃ s₄ r₃ r₄ → Reads (repeated_only x src) encode_repeated_only s s₄ r r₄
  unfolding repeated_only repeated_by encode_repeated_only is_repeat member
  repeated-more {s₂} {s₃} {s₄} {r₂} {r₃} {r₄} {lo} {value} hb lo-is ev d₂ d₃ d₄ =
      bind size encode_unlabelled d₁ (goes_on_lem d₂ then goes_on_lem d₃ then adds_on d₄) (λ u q₁. here _
      (λ at free y. many-first k T.no_repeats is_repeat (C.repeat_form (readers (within x))) (λ rs q. ok (record { body = u; forms = rs }) q) y l refl
      hb) (follow size d₂ (goes_on_lem d₃ then adds_on d₄) (λ put w h q₂. bind size encode_repeats d₃ (adds_on d₄) (λ rs q₃. added size d₄ (record {
        same = chained (encode_unlabelled u) w (encode_repeats rs) (encode_repeats (put rs)) (free_of size r₃ - lo) value
            0 REPEATED (omega arith) (omega arith) (h.puts rs) ∙ sym (some-forms (encode_unlabelled u) (encode_repeats (put rs))
            (grown w (encode_repeats rs) (encode_repeats (put rs)) (h.puts rs) h.some));
      })))))

-- which command it is, by its first symbol
differs : {kind x : ℕ} (f : ℕ → Bool) → f kind ≡ true → f x ≡ false → kind ≡ x → ⊥
differs f e g q = let z : ◌≡◌ {A = ℕ} 1 0 = ap (λ (b : Bool). cond b 1 0) (sym e ∙ ap f q ∙ g) in omega arith

other : {k kind x : ℕ} → k ≡ kind → (kind ≡ x → ⊥) → eqb k x ≡ false
other {k} {kind} {x} e h = ne_eqb k x (λ z. h (sym e ∙ z))

not_test : is_guard K.TEST ≡ false
unfolding is_guard member
not_test = refl

stays_on : (is_leave K.TEST ≡ false) × (is_leave K.FOR ≡ false) × (is_leave K.SWITCHON ≡ false) × (is_leave K.RESULTIS ≡ false)
unfolding is_leave member
stays_on = (refl, refl, refl, refl)

abbrev Command : Reader Unlabelled → (s s' : List ℕ) → ℕ → (r r' : State) → Type 0
Command read s s' n r r' = Reading 1 read (Encodes encode_unlabelled) s s' n r r'

module _ (x : ℕ) {s s' : List ℕ} {n : ℕ} {r r' : State} {kind : ℕ} (kinds : KindsHere s n r kind) where
  pub unlabelled-test : kind ≡ K.TEST → Command (C.test (readers (within x))) s s' n r r' → Command (C.unlabelled (readers (within x))) s s' n r r'
  unfolding C.unlabelled
  unlabelled-test q d = picked kinds _ (λ src at h. rw (h ∙ q)) d

  pub unlabelled-resultis :
      kind ≡ K.RESULTIS → Command (C.resultis (readers (within x))) s s' n r r'
      → Command (C.unlabelled (readers (within x))) s s' n r r'
  unfolding C.unlabelled is_guard member
  unlabelled-resultis q d = picked kinds _ (λ src at h. rw (h ∙ q)) d

  pub unlabelled-for : kind ≡ K.FOR → Command (C.for (readers (within x))) s s' n r r' → Command (C.unlabelled (readers (within x))) s s' n r r'
  unfolding C.unlabelled is_guard member
  unlabelled-for q d = picked kinds _ (λ src at h. rw (h ∙ q)) d

  pub unlabelled-switchon :
      kind ≡ K.SWITCHON → Command (C.switchon (readers (within x))) s s' n r r'
      → Command (C.unlabelled (readers (within x))) s s' n r r'
  unfolding C.unlabelled is_guard member
  unlabelled-switchon q d = picked kinds _ (λ src at h. rw (h ∙ q)) d

  pub unlabelled-block : kind ≡ K.BEGIN → Command (C.block (readers (within x))) s s' n r r' → Command (C.unlabelled (readers (within x))) s s' n r r'
  unfolding C.unlabelled is_guard is_leave member
  unlabelled-block q d = picked kinds _ (λ src at h. rw (h ∙ q)) d

  -- a class of symbols, and none of them
  module _ {g : Bool} (guard : g ≡ is_guard kind) where
    pub unlabelled-guarded :
        g ≡ true → ReadingAt kind 1 (C.guarded (readers (within x))) (Encodes encode_unlabelled) s s' n r r'
        → Command (C.unlabelled (readers (within x))) s s' n r r'
    unfolding C.unlabelled
    unlabelled-guarded q d =
        chosen kinds _ (λ src at h. rw (other {x = K.TEST} h (differs is_guard (sym guard ∙ q) not_test), ap is_guard h ∙ sym guard ∙ q)) d

    module _ (p : g ≡ false) {w : Bool} (leave : w ≡ is_leave kind) where
      pub unlabelled-leave :
          w ≡ true → ReadingAt kind 1 leaving (Encodes encode_unlabelled) s s' n r r'
          → Command (C.unlabelled (readers (within x))) s s' n r r'
      unfolding C.unlabelled C.leave leaving
      unlabelled-leave q d = let yes = sym leave ∙ q in chosen kinds leaving (λ src at h. rw (
        other h (differs is_leave yes stays_on.0),
        ap is_guard h ∙ sym guard ∙ p,
        other h (differs is_leave yes stays_on.1),
        other h (differs is_leave yes stays_on.2),
        other h (differs is_leave yes stays_on.3),
        ap is_leave h ∙ sym leave ∙ q,
      )) d

      pub unlabelled-other :
          w ≡ false → Unlike kind (K.BEGIN ∷ K.RESULTIS ∷ K.SWITCHON ∷ K.FOR ∷ K.TEST ∷ [])
          → Command (C.assignment_or_call (readers (within x))) s s' n r r' → Command (C.unlabelled (readers (within x))) s s' n r r'
      unfolding C.unlabelled
      unlabelled-other q u d = let v = unlike5 u in picked kinds (C.assignment_or_call (readers (within x))) (λ src at h. rw (
        other h v.0,
        ap is_guard h ∙ sym guard ∙ p,
        other h v.1,
        other h v.2,
        other h v.3,
        ap is_leave h ∙ sym leave ∙ q,
        other h v.4,
      )) d
