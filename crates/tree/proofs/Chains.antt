-- Chains: a first part, and then a list of operations or of suffixes.
use Rattle.laws.proofs.Basics.{ℕ, suc, ◌+◌, ◌-◌, ◌<◌, ◌≤◌, ◌≡◌, refl, sym, ap, ◌∙◌, List, [], ◌∷◌, ◌++◌, append_assoc, append-nil, Bool, true, false}
use Rattle.laws.proofs.Basics.{cond, length, length-append, eqb, arith, eq-eqb, ne_eqb}
use Rattle.language.specs.Kinds.{member}
use Rattle.language.specs.Tree as T
use Rattle.language.specs.Tree.{Expressions, Suffixes, Operations, with_operations, with_suffixes, count, ends_in_call}
use Rattle.language.specs.Reader.{Source, Out, ok, on_out, kind_at, many_up_to}
use Rattle.language.specs.Binding.{binding_of, is_suffix, RELATION, NEGATION, LOOSEST}
use Rattle.language.specs.Expressions as E
use Rattle.language.specs.Expressions.{Inside}
use Rattle.language.specs.Grammar.{within}
use Rattle.tree.specs.Reads.{HoldsSymbols, KindHere, Follows, Prepends, Reads, Adds, record_from, free_of}
use Rattle.tree.specs.Between.{PlaceHere, PrependsSuffix, Ended, PrependsOne, Counted, right_of, further_most}
use Rattle.tree.specs.Encoding.{DYADIC, closed, suffixed_kind, encode, encode_expressions, encode_suffixes, encode_operations}
use Rattle.tree.proofs.Steps.{follow, bind, look, here, added, adds_on, goes_on_lem, ◌then◌, nothing}
use Rattle.tree.proofs.Lists.{turn, last}
use Rattle.tree.proofs.Symbols.{inside as among, stays}
use Rattle.tree.proofs.Readers.{chain-is, nests, many-none, many-first, parts, encode-dyadic, encode-suffixed}
use Rattle.tree.proofs.Classes.{binding-positive}
use Rattle.tree.specs.declared.scratch.State.{State}

-- the words of a chain, part by part
pub chained :
    (a w c whole : List ℕ) (z v p k : ℕ) → z ≡ length a + (length w + length c) → v ≡ length a → whole ≡ w ++ c
    → a ++ (w ++ (c ++ (z ∷ v ∷ p ∷ k ∷ []))) ≡ closed (a ++ whole) (length a) p k
chained a w c whole z v p k ez ev e = parts a w c z v p k (omega (arith, length-append a (w ++ c), length-append w c))
    ∙ ap (λ (x : List ℕ). closed (a ++ x) v p k) (sym e) ∙ ap (λ (y : ℕ). closed (a ++ whole) y p k) ev

pub grown : (w c whole : List ℕ) → whole ≡ w ++ c → 0 < length w → 0 < length whole
grown w c whole e h = let q : length whole ≡ length w + length c = ap length e ∙ length-append w c in omega arith

most-by : (n m : ℕ) → m ≡ n → 0 < n → (c : Bool) → cond c 1 m ≡ suc (cond c 0 (n - 1))
most-by n m e h true = refl
most-by n m e h false = omega arith

most-is : (src : Source) (b n : ℕ) → length src.symbols ≡ n → 0 < n → E.most_of b src ≡ suc (further_most b n)
unfolding E.most_of further_most
most-is src b n e h = most-by n (length src.symbols) e h (eqb b RELATION)

module _ (inner : Inside) (right : ℕ) (src : Source) (b : ℕ) where
  no-operations : (at : ℕ) → (binding_of (kind_at src at) ≡ b → ⊥) → E.operations b (E.expression inner right) src at ≡ ok T.no_operations at
  unfolding E.operations
  no-operations at h = last T.no_operations (λ kind. eqb (binding_of kind) b) (E.operation (E.expression inner right)) src (E.most_of b src) at
      (ne_eqb (binding_of (kind_at src at)) b h)

  first-operation :
      (n at : ℕ) → length src.symbols ≡ n → 0 < n → binding_of (kind_at src at) ≡ b
      → E.operations b (E.expression inner right) src at ≡ on_out (E.operation (E.expression inner right) src at)
      (λ put q. on_out (many_up_to (further_most b n) T.no_operations (λ kind. eqb (binding_of kind) b) (E.operation (E.expression inner right)) src q)
      (λ more w. ok (put more) w))
  unfolding E.operations
  first-operation n at e h q =
      ap (λ (m : ℕ). many_up_to m T.no_operations (λ kind. eqb (binding_of kind) b) (E.operation (E.expression inner right)) src at) (most-is src b n e h)
      ∙ turn T.no_operations (λ kind. eqb (binding_of kind) b) (E.operation (E.expression inner right)) src (further_most b n) at
      (eq-eqb (binding_of (kind_at src at)) b q)

module _ {src : Source} {n : ℕ} {s₀ : List ℕ} (l : HoldsSymbols src n s₀) (size x b : ℕ) (pos : b ≡ 0 → ⊥) (no-not : b ≡ NEGATION → ⊥)
    (most : b ≤ LOOSEST) {s s₁ : List ℕ} {r r₁ : State} {kind : ℕ} (k : KindHere src r₁ kind)
    (d₁ : Reads (E.expression (within x) (b - 1) src) encode s s₁ r r₁) where
  pub expression-one : (binding_of kind ≡ b → ⊥) → Reads (E.expression (within x) b src) encode s s₁ r r₁
  unfolding with_operations
  expression-one h = here _ (λ at free e. chain-is (within x) src b at pos no-not most)
      (bind size encode d₁ stays (λ e q. here (λ m. ok e m) (λ at free y. ap (λ (o : Out Operations). on_out o (λ os q. ok (with_operations e os) q))
      (no-operations (within x) (right_of b) src b at (λ z. h (ap binding_of (k.here at free y) ∙ z))))
      (nothing (record { same = append-nil (encode e) }))))

  pub expression-more :
      {s₂ s₃ s₄ : List ℕ} {r₂ r₃ r₄ : State} {lo value place right : ℕ} → right ≡ right_of b → binding_of kind ≡ b → lo ≡ free_of size r
      → value ≡ free_of size r₁ - lo → PlaceHere s₁ r₁ place
      → Follows (E.operation (E.expression (within x) right) src) (Prepends encode_operations) s₁ s₂ r₁ r₂
      → Reads (many_up_to (further_most b n) T.no_operations (λ kind. eqb (binding_of kind) b) (E.operation (E.expression (within x) right)) src)
      encode_operations s₂ s₃ r₂ r₃
      → Adds (record_from lo value place DYADIC) s₃ s₄ r₃ r₄ → Reads (E.expression (within x) b src) encode s s₄ r r₄
  expression-more {s₂} {s₃} {s₄} {r₂} {r₃} {r₄} {lo} {value} {place} {right} er hb lo-is ev ep d₂ d₃ d₄ =
      let kp : 0 < kind = binding-positive kind (omega arith) in
      here _ (λ at free e. chain-is (within x) src b at pos no-not most ∙ ap (λ (y : ℕ). on_out (E.expression (within x) (b - 1) src at)
      (λ e m. on_out (E.operations b (E.expression (within x) y) src m) (λ os q. ok (with_operations e os) q))) (sym er))
      (look size encode d₁ (goes_on_lem d₂ then goes_on_lem d₃ then adds_on d₄) (λ e v q₁. here _ (λ at free y.
      let i : at < n = among l at (omega (arith, k.here at free y)) in
      ap (λ (o : Out Operations). on_out o (λ os q. ok (with_operations e os) q))
      (first-operation (within x) right src b n at l.count (omega arith) (sym (ap binding_of (k.here at free y)) ∙ hb))
      ∙ nests (E.operation (E.expression (within x) right) src at) (λ q. many_up_to (further_most b n) T.no_operations (λ kind. eqb (binding_of kind) b)
      (E.operation (E.expression (within x) right)) src q) (λ os q. ok (with_operations e os) q)) (follow size d₂ (goes_on_lem d₃ then adds_on d₄)
      (λ put w h q₂. bind size encode_operations d₃ (adds_on d₄) (λ os q₃. added size d₄ (record {
        same = chained (encode e) w (encode_operations os) (encode_operations (put os)) (free_of size r₃ - lo) value
            place DYADIC (omega arith) (omega arith) (h.puts os)
            ∙ ap (λ (p : ℕ). closed (encode e ++ encode_operations (put os)) (length (encode e)) p DYADIC)
            (ep.here v.next v.free v.before e v.reads v.stands)
            ∙ sym (encode-dyadic e (put os) (grown w (encode_operations os) (encode_operations (put os)) (h.puts os) h.some));
      }))))))

module _ {src : Source} {n : ℕ} {s₀ : List ℕ} (l : HoldsSymbols src n s₀) (size x : ℕ) {s s₁ : List ℕ} {r r₁ : State} {kind : ℕ}
    (k : KindHere src r₁ kind) (d₁ : Reads (E.primary (within x) src) encode s s₁ r r₁) where
  pub suffixed-one : is_suffix kind ≡ false → Reads (E.suffixed (within x) src) encode s s₁ r r₁
  unfolding E.suffixed with_suffixes
  suffixed-one h = bind size encode d₁ stays (λ e q. here (λ m. ok e m)
      (λ at free y. many-none k T.no_suffixes is_suffix (E.suffix (within x)) (λ ss q. ok (with_suffixes e ss) q) y h)
      (nothing (record { same = append-nil (encode e) })))

  pub suffixed-more :
      {s₂ s₃ s₄ : List ℕ} {r₂ r₃ r₄ : State} {lo value place tag : ℕ} {first last : Bool} → is_suffix kind ≡ true → lo ≡ free_of size r
      → value ≡ free_of size r₁ - lo → PlaceHere s₁ r₁ place → tag ≡ suffixed_kind last
      → Follows (E.suffix (within x) src) (PrependsSuffix first) s₁ s₂ r₁ r₂
      → Follows (many_up_to (n - 1) T.no_suffixes is_suffix (E.suffix (within x)) src) (Ended first last) s₂ s₃ r₂ r₃
      → Adds (record_from lo value place tag) s₃ s₄ r₃ r₄ → Reads (E.suffixed (within x) src) encode s s₄ r r₄
  unfolding E.suffixed is_suffix member
  suffixed-more {s₂} {s₃} {s₄} {r₂} {r₃} {r₄} {lo} {value} {place} {tag} {first} {last} hb lo-is ev ep et d₂ d₃ d₄ =
      look size encode d₁ (goes_on_lem d₂ then goes_on_lem d₃ then adds_on d₄) (λ e z q₁. here _
      (λ at free y. many-first k T.no_suffixes is_suffix (E.suffix (within x)) (λ ss q. ok (with_suffixes e ss) q) y l refl hb)
      (follow size d₂ (goes_on_lem d₃ then adds_on d₄) (λ put w h q₂. follow size d₃ (adds_on d₄) (λ ss v g q₃. added size d₄ (record {
        same = ap (λ (u : List ℕ). encode e ++ (w ++ (u ++ record_from lo value place tag (free_of size r₃))))
            g.same ∙ chained (encode e) w (encode_suffixes ss) (encode_suffixes (put ss)) (free_of size r₃ - lo) value place tag
            (omega (arith, ap length g.same)) (omega arith) (h.puts ss)
            ∙ ap (λ (p : ℕ). closed (encode e ++ encode_suffixes (put ss)) (length (encode e)) p tag)
            (ep.here z.next z.free z.before e z.reads z.stands)
            ∙ ap (λ (p : ℕ). closed (encode e ++ encode_suffixes (put ss)) (length (encode e)) (T.place_of e) p)
            (et ∙ ap suffixed_kind (sym (h.ends false ss ∙ g.ends)))
            ∙ sym (encode-suffixed e (put ss) (grown w (encode_suffixes ss) (encode_suffixes (put ss)) (h.puts ss) h.some));
      })))))

-- suffixes so far: whether the last of all is a call, where `before` says so of the one before them
pub record EndedSoFar (before last : Bool) (put : Suffixes → Suffixes) (words : List ℕ) : Type 0 where
  pub puts : (rest : Suffixes) → encode_suffixes (put rest) ≡ words ++ encode_suffixes rest
  pub ends : (rest : Suffixes) → ends_in_call before (put rest) ≡ ends_in_call last rest

pub suffix-first : {b : Bool} → EndedSoFar b b (λ ss. ss) []
suffix-first = record { puts = λ rest. refl; ends = λ rest. refl }

pub suffix-next :
    {b c d : Bool} (put put' : Suffixes → Suffixes) (w w' : List ℕ) → EndedSoFar b c put w → PrependsSuffix d put' w'
    → EndedSoFar b d (λ ss. put (put' ss)) (w ++ w')
suffix-next {b} {c} {d} put put' w w' h g = record {
  puts = λ rest. h.puts (put' rest) ∙ ap (λ (l : List ℕ). w ++ l) (g.puts rest) ∙ sym (append_assoc w w' (encode_suffixes rest));
  ends = λ rest. h.ends (put' rest) ∙ g.ends c rest;
}

pub suffix_last :
    {b c : Bool} (put : Suffixes → Suffixes) (ss : Suffixes) (w v : List ℕ) → EndedSoFar b c put w → Ended c c ss v → Ended b c (put ss) (w ++ v)
suffix_last put ss w v h g = record { same = ap (λ (l : List ℕ). w ++ l) g.same ∙ sym (h.puts ss); ends = h.ends ss ∙ g.ends }

pub no-suffix-ended : {b : Bool} → Ended b b T.no_suffixes []
unfolding encode_suffixes T.ends_in_call
no-suffix-ended = record { same = refl; ends = refl }

-- expressions so far: how many they are
pub record CountedSoFar (number : ℕ) (put : Expressions → Expressions) (words : List ℕ) : Type 0 where
  pub puts : (rest : Expressions) → encode_expressions (put rest) ≡ words ++ encode_expressions rest
  pub many : (rest : Expressions) → count (put rest) ≡ count rest + number

pub expression-first : CountedSoFar 0 (λ es. es) []
expression-first = record { puts = λ rest. refl; many = λ rest. omega arith }

pub expression-next :
    {m : ℕ} (put put' : Expressions → Expressions) (w w' : List ℕ) → CountedSoFar m put w → PrependsOne put' w'
    → CountedSoFar (m + 1) (λ es. put (put' es)) (w ++ w')
expression-next {m} put put' w w' h g = record {
  puts = λ rest. h.puts (put' rest) ∙ ap (λ (l : List ℕ). w ++ l) (g.puts rest) ∙ sym (append_assoc w w' (encode_expressions rest));
  many
      = λ rest. omega (arith, h.many (put' rest), g.one rest);
}

pub expression-last :
    {m k : ℕ} → m ≡ k → (put : Expressions → Expressions) (es : Expressions) (w v : List ℕ) → CountedSoFar m put w → Counted 0 es v
    → Counted k (put es) (w ++ v)
expression-last e put es w v h g = record { same = ap (λ (l : List ℕ). w ++ l) g.same ∙ sym (h.puts es); many = omega (arith, h.many es, g.many) }

pub no-expression-counted : Counted 0 T.no_expressions []
unfolding encode_expressions T.count
no-expression-counted = record { same = refl; many = refl }

-- no items
pub no-operation-words : encode_operations T.no_operations ≡ []
unfolding encode_operations
no-operation-words = refl

pub no-expression-words : encode_expressions T.no_expressions ≡ []
unfolding encode_expressions
no-expression-words = refl
