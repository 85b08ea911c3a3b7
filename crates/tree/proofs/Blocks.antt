-- Labels, the commands that hold others, and blocks: what each construct's parts make together.
use Rattle.text.specs.declared.faults.Fault.TheVariants as V
use Rattle.laws.proofs.Basics.{ℕ, ◌+◌, ◌-◌, ◌<◌, ◌≤◌, ◌≡◌, refl, sym, ap, subst, ◌∙◌, List, [], ◌∷◌, ◌++◌, append_assoc, Bool, true, false, cond}
use Rattle.laws.proofs.Basics.{length, length-append, eqb, arith, eq-eqb, ne_eqb}
use Rattle.language.specs.Kinds as K
use Rattle.language.specs.Kinds.{member}
use Rattle.language.specs.Tree as T
use Rattle.language.specs.Tree.{Label, Command, Unlabelled}
use Rattle.language.specs.Reader.{Source, Out, ok, no, on_out, kind_at, unexpected, the, a_name, many_up_to, many, more_up_to}
use Rattle.language.specs.Binding.{LOOSEST, is_label, is_repeat, begins_command}
use Rattle.language.specs.Expressions as E
use Rattle.language.specs.Expressions.{Inside, inside, shut, opening}
use Rattle.language.specs.Commands as C
use Rattle.language.specs.Grammar.{within, readers}
use Rattle.tree.specs.Reads.{Ready, TakesRoom, Encodes, Reading, HoldsSymbols, KindHere, Follows, Prepends, Reads, Adds, record_from, SetsSize}
use Rattle.tree.specs.Reads.{free_of}
use Rattle.tree.specs.Between.{Repeated, repeated_by, repeated_only, encode_repeated_only, opened, body_after}
use Rattle.tree.specs.Encoding.{LABELLED, closed, encode, encode_name, encode_by, encode_labels, encode_command, encode_commands, encode_unlabelled}
use Rattle.tree.specs.Encoding.{encode_repeats, encode_locals, labelled, repeated}
use Rattle.tree.proofs.Steps.{follow, bind, here, closes, goes_on_lem, ◌then◌, nothing}
use Rattle.tree.proofs.Symbols.{ends, mapped, the-is, lies-still}
use Rattle.tree.proofs.ListEnd.{listed-items}
use Rattle.tree.proofs.Chains.{grown}
use Rattle.tree.proofs.Choices.{KindsHere, Refusing, Expects, picked, refused-at, shut_at}
use Rattle.tree.proofs.Rooms.{leaves_all, leaves-less, leaves_last, taken, ◌plus◌, room-left}
use Rattle.tree.proofs.Classes.{unlike2}
use Rattle.text.proofs.Bytes.{Unlike}
use Rattle.tree.proofs.Readers.{deeper, item-alone, put_first, many-none, many-first}
use Rattle.tree.specs.declared.scratch.State.{State}

-- ---- a command after its labels, if there are any

-- the command with these labels
abbrev with-labels : List Label → Repeated → Command
with-labels ls c = T.command ls c.body c.forms

module _ (x : ℕ) (labels : Bool) {s : List ℕ} {n : ℕ} {r : State} {kind : ℕ} (kinds : KindsHere s n r kind) {b : Bool}
    (e : b ≡ begins_command kind) where
  module _ (q : b ≡ true) where
    pub body-shut : {r' : State} → x ≡ 0 → Refusing V.TooDeep s n r r' → Reading 0 (body_after labels x) (Encodes encode_repeated_only) s s n r r'
    unfolding body_after opened opening
    body-shut z d =
        refused-at refl d kinds (λ src at h. rw (ap begins_command h ∙ sym e ∙ q) (ap (λ (i : Inside). opening i repeated_by src at) (shut_at x z)))

    pub body_open :
        {s' : List ℕ} {r' : State} → (x ≡ 0 → ⊥) → Reading 0 (repeated_only (x - 1)) (Encodes encode_repeated_only) s s' n r r'
        → Reading 0 (body_after labels x) (Encodes encode_repeated_only) s s' n r r'
    unfolding body_after opened opening repeated_only
    body_open z d = picked kinds _ (λ src at h. rw (ap begins_command h ∙ sym e ∙ q) (ap (λ (i : Inside). opening i repeated_by src at) (deeper x z))) d

  module _ (q : b ≡ false) where
    pub body-none : {r' : State} → labels ≡ false → Refusing V.Unexpected s n r r' → Reading 0 (body_after labels x) (Encodes encode_repeated_only) s s n r r'
    unfolding body_after unexpected
    body-none z d = refused-at refl d kinds (λ src at h. rw (ap begins_command h ∙ sym e ∙ q, z))

    pub body-empty : Ready 0 s n r → labels ≡ true → Reading 0 (body_after labels x) (Encodes encode_repeated_only) s s n r r
    unfolding body_after encode_repeated_only repeated encode_unlabelled encode_repeats
    body-empty p z = picked kinds (λ _ m. ok (record { body = T.empty; forms = T.no_repeats }) m) (λ src at h. rw (ap begins_command h ∙ sym e ∙ q, z))
        (leaves_all p, λ src l. nothing (record { same = refl }))

-- after labels or none, a command is what `body_after` reads, with its labels
after_by :
    (ls : List Label) (i : Inside) (src : Source) (at : ℕ)
    → opening i (λ r. C.repeated r ls) src at ≡ on_out (opening i repeated_by src at) (λ c m. ok (with-labels ls c) m)
unfolding opening C.repeated repeated_by
after_by ls shut src at = refl
after_by ls (inside r) src at = parts (C.unlabelled r src at)
  where
    forms :
        (u : Unlabelled) (o : Out T.Repeats)
        → on_out o (λ rs q. ok (T.command ls u rs) q) ≡ on_out (on_out o (λ rs q. ok (record { body = u; forms = rs }) q))
        (λ c m. ok (with-labels ls c) m)
    forms u (ok rs q) = refl
    forms u (no i p) = refl

    parts :
        (o : Out Unlabelled)
        → on_out o (λ u m. on_out (many T.no_repeats is_repeat (C.repeat_form r) src m) (λ rs q. ok (T.command ls u rs) q)) ≡ on_out
        (on_out o (λ u m. on_out (many T.no_repeats is_repeat (C.repeat_form r) src m) (λ rs q. ok (record { body = u; forms = rs }) q)))
        (λ c m. ok (with-labels ls c) m)
    parts (ok u m) = forms u (many T.no_repeats is_repeat (C.repeat_form r) src m)
    parts (no i p) = refl

after_none : (x : ℕ) (src : Source) (at : ℕ) → C.after_labels (within x) [] src at ≡ on_out (body_after false x src at) (λ c m. ok (with-labels [] c) m)
unfolding C.after_labels C.empty_command body_after opened unexpected
after_none x src at = by_bool (begins_command (kind_at src at))
  where
    by_bool :
        (b : Bool)
        → cond b (opening (within x) (λ r. C.repeated r []) src at) (no 6 at) ≡ on_out (cond b (opening (within x) repeated_by src at) (no 6 at))
        (λ c m. ok (with-labels [] c) m)
    by_bool true = after_by [] (within x) src at
    by_bool false = refl

after-some :
    (x : ℕ) (src : Source) (l : Label) (ls : List Label) (at : ℕ)
    → C.after_labels (within x) (l ∷ ls) src at ≡ on_out (body_after true x src at) (λ c m. ok (with-labels (l ∷ ls) c) m)
unfolding C.after_labels C.empty_command body_after opened
after-some x src l ls at = by_bool (begins_command (kind_at src at))
  where
    by_bool :
        (b : Bool)
        → cond b (opening (within x) (λ r. C.repeated r (l ∷ ls)) src at) (ok (T.command (l ∷ ls) T.empty T.no_repeats) at) ≡ on_out
        (cond b (opening (within x) repeated_by src at) (ok (record { body = T.empty; forms = T.no_repeats }) at))
        (λ c m. ok (with-labels (l ∷ ls) c) m)
    by_bool true = after_by (l ∷ ls) (within x) src at
    by_bool false = refl

after-words :
    (x : ℕ) (src : Source) (ls : List Label) → 0 < length (encode_labels ls) → (at : ℕ)
    → C.after_labels (within x) ls src at ≡ on_out (body_after true x src at) (λ c m. ok (with-labels ls c) m)
unfolding encode_labels
after-words x src [] h at = absurd (omega arith)
after-words x src (l ∷ ls) h at = after-some x src l ls at

labelled-words : (ls w : List ℕ) → 0 < length ls → labelled ls w ≡ closed (ls ++ w) (length ls) 0 LABELLED
unfolding labelled
labelled-words [] w h = absurd (omega arith)
labelled-words (x ∷ ls) w h = refl

pub command-plain :
    (x : ℕ) {s s' : List ℕ} {n : ℕ} {r r' : State} {kind : ℕ} → KindsHere s n r kind → {b : Bool} → b ≡ is_label kind → b ≡ false
    → Reading 0 (body_after false x) (Encodes encode_repeated_only) s s' n r r' → Reading 0 (C.command (within x)) (Encodes encode_command) s s' n r r'
unfolding C.command encode_command encode_labels labelled encode_repeated_only
command-plain x k e q d = (
  d.0,
  λ src l. here _ (λ at free h. many-none (k src l) [] is_label (C.label (within x)) (λ ls m. C.after_labels (within x) ls src m) h (sym e ∙ q)
      ∙ after_none x src at) (mapped (with-labels []) (λ c. refl) (d.1 src l)),
)

module _ {src : Source} {n : ℕ} {s₀ : List ℕ} (l : HoldsSymbols src n s₀) (size x : ℕ) {r : State} {kind : ℕ} (k : KindHere src r kind) where
  pub labelled-read :
      {s s₁ s₂ s₃ s₄ : List ℕ} {r₁ r₂ r₃ r₄ : State} {lo value : ℕ} → is_label kind ≡ true → lo ≡ free_of size r → value ≡ free_of size r₂ - lo
      → Follows (C.label (within x) src) (Prepends encode_labels) s s₁ r r₁
      → Reads (many_up_to (n - 1) [] is_label (C.label (within x)) src) encode_labels s₁ s₂ r₁ r₂
      → Reads (body_after true x src) encode_repeated_only s₂ s₃ r₂ r₃ → Adds (record_from lo value 0 LABELLED) s₃ s₄ r₃ r₄
      → Reads (C.command (within x) src) encode_command s s₄ r r₄
  unfolding C.command encode_command encode_repeated_only is_label member
  labelled-read {s} {s₁} {s₂} {s₃} {s₄} {r₁} {r₂} {r₃} {r₄} {lo} {value} hb lo-is ev d₁ d₂ d₃ d₄ = closes (Encodes encode_command) size lo-is
      (here _ (λ at free y. many-first k [] is_label (C.label (within x)) (λ ls m. C.after_labels (within x) ls src m) y l refl hb)
      (follow size d₁ (goes_on_lem d₂ then goes_on_lem d₃) (λ put w h q₁. bind size encode_labels d₂ (goes_on_lem d₃) (λ ls q₂.
      let some : 0 < length (encode_labels (put ls)) = grown w (encode_labels ls) (encode_labels (put ls)) (h.puts ls) h.some in
      let both : length (encode_labels (put ls)) ≡ length w + length (encode_labels ls) = ap length (h.puts ls) ∙ length-append w (encode_labels ls) in
      here _ (λ at free y. after-words x src (put ls) some at) (ends (with-labels (put ls)) d₃ (λ c. record {
        same = ap (λ (u : List ℕ). closed u value 0 LABELLED) (sym (append_assoc w (encode_labels ls) (encode_repeated_only c))
            ∙ ap (λ (v : List ℕ). v ++ encode_repeated_only c) (sym (h.puts ls)))
            ∙ ap (λ (z : ℕ). closed (encode_labels (put ls) ++ encode_repeated_only c) z 0 LABELLED) (omega arith)
            ∙ sym (labelled-words (encode_labels (put ls)) (encode_repeated_only c) some);
      })))))) d₄

-- ---- commands that hold others

module _ {src : Source} {n : ℕ} {s : List ℕ} (l : HoldsSymbols src n s) {r : State} (size x : ℕ) {lo : ℕ} (lo-is : lo ≡ free_of size r) where
  pub for-read :
      {value : ℕ} {s₂ s₄ s₆ s₇ s₉ t : List ℕ} {r₁ r₂ r₃ r₄ r₅ r₆ r₇ r₈ r₉ q : State} → Reads (the K.FOR src) (λ _. []) s s r r₁
      → Reads (a_name src) encode_name s s₂ r₁ r₂ → Reads (the K.EQUAL src) (λ _. []) s₂ s₂ r₂ r₃
      → Reads (E.expression (within x) LOOSEST src) encode s₂ s₄ r₃ r₄ → Reads (the K.TO src) (λ _. []) s₄ s₄ r₄ r₅
      → Reads (E.expression (within x) LOOSEST src) encode s₄ s₆ r₅ r₆ → Reads (C.optional_by (readers (within x)) src) encode_by s₆ s₇ r₆ r₇
      → Reads (the K.DO src) (λ _. []) s₇ s₇ r₇ r₈ → Reads (C.command (within x) src) encode_command s₇ s₉ r₈ r₉
      → value ≡ free_of size r₇ - free_of size r₆ → Adds (record_from lo value 0 K.FOR) s₉ t r₉ q
      → Reads (C.for (readers (within x)) src) encode_unlabelled s t r q
  unfolding C.for encode_unlabelled
  for-read {value} a b c d f g h i j v k = let ip = goes_on_lem i then goes_on_lem j in
      let gp = goes_on_lem g then goes_on_lem h then ip in
      let dp = goes_on_lem d then goes_on_lem f then gp in
      closes (Encodes encode_unlabelled) size lo-is
      (bind size (λ _. []) a (goes_on_lem b then goes_on_lem c then dp) (λ _ _. bind size encode_name b (goes_on_lem c then dp)
      (λ m _. bind size (λ _. []) c dp (λ _ _. bind size encode d (goes_on_lem f then gp)
      (λ e _. bind size (λ _. []) f gp (λ _ _. bind size encode g (goes_on_lem h then ip)
      (λ y _. bind size encode_by h ip (λ o q₇. bind size (λ _. []) i (goes_on_lem j) (λ _ _. ends (T.for m e y o) j (λ z. record {
        same = ap (λ (u : ℕ). closed (encode_name m ++ (encode e ++ (encode y ++ (encode_by o ++ encode_command z)))) u 0 K.FOR) (omega arith);
      })))))))))) k

  pub switchon-read :
      {value : ℕ} {s₂ s₅ s₆ t : List ℕ} {r₁ r₂ r₃ r₄ r₅ r₆ q : State} → Reads (the K.SWITCHON src) (λ _. []) s s r r₁
      → Reads (E.expression (within x) LOOSEST src) encode s s₂ r₁ r₂ → Reads (the K.INTO src) (λ _. []) s₂ s₂ r₂ r₃
      → Reads (the K.BEGIN src) (λ _. []) s₂ s₂ r₃ r₄ → Follows (C.listed (readers (within x)) src) (Prepends encode_commands) s₂ s₅ r₄ r₅
      → Reads (more_up_to n T.no_commands (C.listed (readers (within x))) src) encode_commands s₅ s₆ r₅ r₆ → value ≡ free_of size r₂ - lo
      → Adds (record_from lo value 0 K.SWITCHON) s₆ t r₆ q → Reads (C.switchon (readers (within x)) src) encode_unlabelled s t r q
  unfolding C.switchon encode_unlabelled
  switchon-read {value} a b c d f g v k = let fg = listed-items T.no_commands (C.listed (readers (within x))) src l.count f g in
      let dp = goes_on_lem d then goes_on_lem fg in
      closes (Encodes encode_unlabelled) size lo-is
      (bind size (λ _. []) a (goes_on_lem b then goes_on_lem c then dp) (λ _ q₁. bind size encode b (goes_on_lem c then dp)
      (λ e q₂. bind size (λ _. []) c dp (λ _ _. bind size (λ _. []) d (goes_on_lem fg) (λ _ _. ends (T.switchon e) fg (λ cs. record {
        same = ap (λ (u : ℕ). closed (encode e ++ encode_commands cs) u 0 K.SWITCHON) (omega arith);
      })))))) k

  pub block_read :
      {value : ℕ} {s₂ s₃ t : List ℕ} {r₁ r₂ r₃ q : State} → Reads (the K.BEGIN src) (λ _. []) s s r r₁
      → Reads (many_up_to n T.no_locals (λ kind. eqb kind K.LET) (C.local (readers (within x))) src) encode_locals s s₂ r₁ r₂
      → Reads (C.commands_to_end (readers (within x)) src) encode_commands s₂ s₃ r₂ r₃ → value ≡ free_of size r₂ - lo
      → Adds (record_from lo value 0 K.BEGIN) s₃ t r₃ q → Reads (C.block (readers (within x)) src) encode_unlabelled s t r q
  unfolding C.block many encode_unlabelled
  block_read {value} {s₂} {s₃} {t} {r₁} {r₂} a b c v k = closes (Encodes encode_unlabelled) size lo-is
      (bind size (λ _. []) a (goes_on_lem b then goes_on_lem c) (λ _ q₁. bind size encode_locals
      (subst (λ (m : ℕ). Reads (many_up_to m T.no_locals (λ kind. eqb kind K.LET) (C.local (readers (within x))) src) encode_locals s s₂ r₁ r₂)
      (sym l.count) b) (goes_on_lem c) (λ ls q₂. ends (T.block ls) c (λ cs. record {
        same = ap (λ (u : ℕ). closed (encode_locals ls ++ encode_commands cs) u 0 K.BEGIN) (omega arith);
      })))) k

-- a command of a list
pub listed-read :
    (src : Source) (size x : ℕ) {lo : ℕ} {s s₁ s₂ s₃ : List ℕ} {r r₁ r₂ : State} → lo ≡ free_of size r → free_of size r ≤ length s
    → Adds (λ _. 0 ∷ 0 ∷ []) s s₁ r r₁ → Reads (C.command (within x) src) encode_command s₁ s₂ r₁ r₂ → SetsSize lo s₂ s₃ r₂
    → Follows (C.listed (readers (within x)) src) (Prepends encode_commands) s s₃ r r₂
unfolding C.listed encode_commands
listed-read src size x lo-is le a d b =
    item-alone T.and_command 0 size encode_command (put_first T.and_command 0 encode_command encode_commands (λ e rest. refl)) lo-is le a d b

pub no-command-words : encode_commands T.no_commands ≡ []
unfolding encode_commands
no-command-words = refl

-- [ command { ; command } ] [;] $)
module _ (x : ℕ) {s : List ℕ} {n : ℕ} {r : State} {kind : ℕ} (kinds : KindsHere s n r kind) where
  pub no-commands :
      {r₁ : State} → kind ≡ K.END → Expects K.END s n r r₁ → Reading 3 (C.commands_to_end (readers (within x))) (Encodes encode_commands) s s n r r₁
  unfolding C.commands_to_end encode_commands
  no-commands q d = picked kinds (λ src at. on_out (the K.END src at) (λ _ m. ok T.no_commands m))
      (λ src at h. rw (eq-eqb (kind_at src at) K.END (h ∙ q))
      (sym (ap (λ (o : Out ℕ). on_out o (λ _ m. ok T.no_commands m)) (the-is src K.END at (h ∙ q)))))
      (leaves-less d.0 refl, λ src l. mapped (λ _. T.no_commands) (λ _. refl) (d.1 src l))

  pub semicolon-commands :
      {r₁ r₂ : State} → kind ≡ K.SEMICOLON → Expects K.SEMICOLON s n r r₁ → Expects K.END s n r₁ r₂
      → Reading 3 (C.commands_to_end (readers (within x))) (Encodes encode_commands) s s n r r₂
  unfolding C.commands_to_end C.semicolon_end encode_commands
  semicolon-commands q d g = picked kinds _ (λ src at h. rw (h ∙ q)) (
    leaves-less (leaves_last d.0 g.0) refl,
    λ src l. bind 0 (λ _. []) (d.1 src l) (goes_on_lem (g.1 src l)) (λ _ _. mapped (λ _. T.no_commands) (λ _. refl) (g.1 src l)),
  )

  pub some-commands :
      {s₁ s₂ : List ℕ} {r₁ r₂ : State} → Unlike kind (K.SEMICOLON ∷ K.END ∷ [])
      → TakesRoom 2 s s₁ n r r₁ × ((src : Source) → HoldsSymbols src n s → Follows (C.listed (readers (within x)) src) (Prepends encode_commands) s s₁
      r r₁)
      → Reading 5 (more_up_to n T.no_commands (C.listed (readers (within x)))) (Encodes encode_commands) s₁ s₂ n r₁ r₂
      → Reading 3 (C.commands_to_end (readers (within x))) (Encodes encode_commands) s s₂ n r r₂
  unfolding C.commands_to_end
  some-commands u d g = let q = unlike2 u in
      picked kinds _ (λ src at h. rw (
        ne_eqb (kind_at src at) K.END (λ y. q.0 (sym h ∙ y)),
        ne_eqb (kind_at src at) K.SEMICOLON (λ y. q.1 (sym h ∙ y)),
      )) (
        room-left (taken d.0 plus g.0) refl,
        λ src l. listed-items T.no_commands (C.listed (readers (within x))) src l.count (d.1 src l) (g.1 src (lies-still l d.0.kept)),
      )
