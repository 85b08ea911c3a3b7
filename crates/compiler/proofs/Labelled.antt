-- A command with its labels, and without them.
use Rattle.laws.proofs.Basics.{ℕ, ◌+◌, ◌-◌, ◌≤◌, ◌≡◌, refl, sym, ap, subst, ◌∙◌, List, [], ◌∷◌, ◌++◌, append_assoc, length, get_or, length-append}
use Rattle.laws.proofs.Basics.{arith}
use Rattle.laws.proofs.Cases.{contradiction}
use Rattle.language.specs.Tree as T
use Rattle.compiler.proofs.Language.{Label, Command, Unlabelled, Repeats, command_depth, command, repeats, unlabelled, of_cmd, FineLabels}
use Rattle.compiler.proofs.Language.{FineCommand, in_command, in_case, FineUnlabelled, in_unlabelled, in_repeats, misplaced, encode_command}
use Rattle.compiler.proofs.Language.{encode_unlabelled, encode_repeats, encode_labels, labelled}
use Rattle.code.specs.Generate as G
use Rattle.language.specs.Faults.{repeated}
use Rattle.tree.specs.Encoding as O
use Rattle.compiler.proofs.Common.{keeps-all, did_none, did_then, did-as, same_refl, same-eq, code_is, kind-is, IsTwo, two-closed, sub}
use Rattle.compiler.proofs.Vocabulary.{State, Here, Ways, Node, FineC, FinePlain, inside, leavable_by, NodeAt, Holds, STRINGS, cmd_says, ReadyC}
use Rattle.compiler.proofs.Vocabulary.{GaveC, GaveCase, Repeated, encode_repeated, deep_repeated, FineRepeated, ReadyR, GaveR, ReadyMisplaced}
use Rattle.compiler.proofs.Vocabulary.{Misplaces}
use Rattle.compiler.proofs.Calls.{with-state}
use Rattle.compiler.proofs.Guards.{IsClosed, unlabelled-closed}
use Rattle.compiler.proofs.Forms.{form_of}

-- ---- with labels

abbrev pub IsLabelled : (s : List ℕ) (lo end : ℕ) → Command → Type 0
IsLabelled = IsTwo encode_labels encode_repeated (λ ls r. T.command ls r.body r.forms)

-- a command without labels has another kind
not-labelled : {s : List ℕ} {lo end : ℕ} (u : Unlabelled) (rs : Repeats) → FinePlain u
    → Holds s lo (O.repeated (encode_unlabelled u) (encode_repeats rs))
    → end ≡ lo + length (O.repeated (encode_unlabelled u) (encode_repeats rs)) → get_or s (end - 1) 0 ≡ O.LABELLED → ⊥
unfolding O.repeated encode_repeats
not-labelled {s} {lo} {end} u T.no_repeats f h e q = elim (rw q at (form_of s lo end u f h e)) [ ]
not-labelled u (T.repeat rs) f h e q =
    omega (arith, kind-is (encode_unlabelled u ++ encode_repeats (T.repeat rs)) (length (encode_unlabelled u)) 0 O.REPEATED h e)
not-labelled u (T.repeat_on w d rs) f h e q =
    omega (arith, kind-is (encode_unlabelled u ++ encode_repeats (T.repeat_on w d rs)) (length (encode_unlabelled u)) 0 O.REPEATED h e)

plain-when : (u : Unlabelled) (rs : Repeats) → FineC (T.command [] u rs) → FinePlain u
unfolding FineCommand
plain-when u rs f = (f.1, λ z. omega (arith, f.3.labels z))

pub is-labelled : {s : List ℕ} {lo end : ℕ} (c : Command) → FineC c → Holds s lo (encode_command c) → end ≡ lo + length (encode_command c)
    → get_or s (end - 1) 0 ≡ O.LABELLED → IsLabelled s lo end c
unfolding encode_command labelled encode_labels
is-labelled (T.command [] u rs) f h e q = absurd (not-labelled u rs (plain-when u rs f) h e q)
is-labelled (T.command (T.case p c ∷ ls) u rs) f h e q =
    two-closed encode_labels encode_repeated _ (T.case p c ∷ ls) (record { body = u; forms = rs }) 0 O.LABELLED h e
is-labelled (T.command (T.default p ∷ ls) u rs) f h e q =
    two-closed encode_labels encode_repeated _ (T.default p ∷ ls) (record { body = u; forms = rs }) 0 O.LABELLED h e

-- ---- without

pub record IsBare (s : List ℕ) (lo end : ℕ) (c : Command) : Type 0 where
  pub part : Repeated
  pub same : c ≡ T.command [] part.body part.forms
  pub lies : Holds s lo (encode_repeated part)
  pub ends : end ≡ lo + length (encode_repeated part)

pub is-bare : {s : List ℕ} {lo end : ℕ} (c : Command) → Holds s lo (encode_command c) → end ≡ lo + length (encode_command c)
    → (get_or s (end - 1) 0 ≡ O.LABELLED → ⊥) → IsBare s lo end c
unfolding encode_command labelled encode_labels
is-bare (T.command [] u rs) h e q = record { part = record { body = u; forms = rs }; same = refl; lies = h; ends = e }
is-bare (T.command (T.case p c ∷ ls) u rs) h e q = let w = encode_labels (T.case p c ∷ ls) in
    absurd (q (kind-is (w ++ O.repeated (encode_unlabelled u) (encode_repeats rs)) (length w) 0 O.LABELLED h e))
is-bare (T.command (T.default p ∷ ls) u rs) h e q = let w = encode_labels (T.default p ∷ ls) in
    absurd (q (kind-is (w ++ O.repeated (encode_unlabelled u) (encode_repeats rs)) (length w) 0 O.LABELLED h e))

-- ---- what follows the labels: nothing, which is an empty command, or a command with its REPEAT forms

pub closed-long : {x : List ℕ} → IsClosed x → 4 ≤ length x
closed-long u = omega (arith, ap length u.is, length-append u.inner (length u.inner ∷ u.value ∷ u.place ∷ u.kind ∷ []))

full : {A : Type 0} (u : Unlabelled) → FinePlain u → length (encode_unlabelled u) ≡ 0 → A
full u f z = absurd (omega (arith, closed-long (unlabelled-closed u f)))

repeated-long : (w x : List ℕ) → length w ≤ length (O.repeated w x)
unfolding O.repeated
repeated-long w [] = omega arith
repeated-long w (a ∷ x) =
    omega (arith, length-append (w ++ (a ∷ x)) (length (w ++ (a ∷ x)) ∷ length w ∷ 0 ∷ O.REPEATED ∷ []), length-append w (a ∷ x))

nothing_left : (u : Unlabelled) → FineUnlabelled STRINGS u → length (encode_unlabelled u) ≡ 0 → u ≡ T.empty
nothing_left T.empty f z = refl
nothing_left (T.assignment ls rs) f z = full _ (f, λ e. contradiction cc) z
nothing_left (T.call_command d) f z = full _ (f, λ e. contradiction cc) z
nothing_left (T.test d c c') f z = full _ (f, λ e. contradiction cc) z
nothing_left (T.guarded w d c) f z = full _ (f, λ e. contradiction cc) z
nothing_left (T.for x d d' k c) f z = full _ (f, λ e. contradiction cc) z
nothing_left (T.switchon d cs) f z = full _ (f, λ e. contradiction cc) z
nothing_left (T.resultis p d) f z = full _ (f, λ e. contradiction cc) z
nothing_left (T.leave w p) f z = full _ (f, λ e. contradiction cc) z
nothing_left (T.block ls cs) f z = full _ (f, λ e. contradiction cc) z

-- an empty command has no REPEAT forms
pub something-left : (ls : List Label) (r : Repeated) → FineC (T.command ls r.body r.forms) → (length (encode_repeated r) ≡ 0 → ⊥)
    → FineRepeated r
unfolding FineCommand O.repeated encode_unlabelled encode_repeats
something-left ls r f n = ((f.1, λ e. n (rw (e, f.3.alone e))), f.2)

pub command-deep : (ls : List Label) (r : Repeated) {c : Command} {k : ℕ} → c ≡ T.command ls r.body r.forms → command_depth c ≤ k
    → deep_repeated r + 1 ≤ k
unfolding command_depth
command-deep ls r e l = omega (arith, ap command_depth e)

some-depth : (c : Command) → 1 ≤ command_depth c
unfolding command_depth
some-depth (T.command ls u rs) = omega arith

pub command-some : {s : List ℕ} {end : ℕ} {here : Here} {st : State} → ReadyC s end here st → 1 ≤ here.left
command-some y = omega (arith, some-depth y.tree)

-- ---- the labels are judged, then the rest is walked

module _ {s : List ℕ} {end : ℕ} {here : Here} {st : State} (n : Node) (nd : NodeAt s end n) (q : n.kind ≡ O.LABELLED) {middle : ℕ}
    (m : middle ≡ n.start + n.value) where
  pub labelled-is : (y : ReadyC s end here st) → IsLabelled s y.lo end y.tree
  labelled-is y = is-labelled y.tree y.fine y.lies y.ends (sym nd.kind ∙ q)

  pub labelled-start : (y : ReadyC s end here st) → (n.start ≡ y.lo) × (middle ≡ y.lo + length (encode_labels (labelled-is y).left))
  labelled-start y = let u = labelled-is y in (omega arith, omega arith)

  pub labelled-fine : (y : ReadyC s end here st) → let u = labelled-is y in FineC (T.command u.left u.list.body u.list.forms)
      × FineLabels u.left
  unfolding FineCommand
  labelled-fine y = let f = subst FineC (labelled-is y).same y.fine in (f, f.0)

  abbrev pub labelled-labels : ReadyC s end here st → ReadyMisplaced s n.start middle here.top
  labelled-labels y = let u = labelled-is y in record {
    base = y.base;
    scope = y.scope;
    labels = u.left;
    lies = subst (λ (k : ℕ). Holds s k (encode_labels u.left)) (sym (labelled-start y).0) u.lies;
    ends = omega (arith, labelled-start y);
    above = omega (arith, labelled-start y);
    small = omega (arith, labelled-start y);
    shows = y.shows;
    fine = (labelled-fine y).1;
  }

  pub labelled-bare : (text : List ℕ) {a : State} → Misplaces text s n.start middle here.top st a → ReadyC s end here st → ReadyC s end here a
  labelled-bare text j y = let d = j.by (labelled-labels y) [] in with-state (omega arith) y

  pub labelled-gave : (text : List ℕ) (ways : Ways) {s₁ t t₁ : List ℕ} {a r : State} → Misplaces text s n.start middle here.top st a
      → GaveCase text s s₁ end here ways t t₁ a r → GaveC text s s₁ end here ways t t₁ st r
  unfolding in_command in_case
  labelled-gave text ways {s₁} {t} {t₁} {a} {r} j g = record {
    by = λ y. let u = labelled-is y in let sc = y.scope in let h = here.height in let d = j.by (labelled-labels y) t in
        let x = g.by (with-state (omega arith) y) in let lv = leavable_by ways here in let U = in_unlabelled text sc (repeated u.list.forms lv) h
        u.list.body in let R = in_repeats text sc lv h u.list.forms in
        record {
          keeps = x.keeps;
          did = did-as (cmd_says here ways (command text sc h y.tree)) _ (did_then d x.did)
              (same-eq (ap (λ (c : Command). misplaced text sc u.left ++ in_case text sc lv h c) u.same
              ∙ sym (append_assoc (misplaced text sc u.left) U R) ∙ ap (in_command text sc lv h) (sym u.same))) (λ k v. let a : k + 0 ≡ k
              = omega arith in code_is (rw a) refl (omega arith)) (omega arith);
        };
  }

  pub rest-length : (y : ReadyC s end here st) → n.inner ≡ middle + length (encode_repeated (labelled-is y).list)
  rest-length y = let u = labelled-is y in omega (arith, labelled-start y)

  pub bare-empty : middle ≡ n.inner → (text : List ℕ) (ways : Ways) {t : List ℕ} → GaveCase text s s end here ways t t st st
  unfolding FineCommand in_case in_unlabelled in_repeats command unlabelled repeats G.cmd_code of_cmd G.cmd_labels
  bare-empty e text ways {t} = record {
    by = λ y. let u = labelled-is y in let f = (labelled-fine y).0 in let b = u.list.body in let rs = u.list.forms in
        let z = nothing_left b f.1 (omega (arith, rest-length y, repeated-long (encode_unlabelled b) (encode_repeats rs))) in
        rw (u.same, f.3.alone z, z) (record { keeps = keeps-all; did = did_none _ });
  }

  module _ (some : middle ≡ n.inner → ⊥) where
    abbrev pub labelled-rest : ReadyC s end here st → ReadyR s n.inner (inside here) st
    labelled-rest y = let u = labelled-is y in let d = command-deep u.left u.list u.same y.shallow in
        sub y keeps-all u.lies-list refl (omega (arith, d))
        (something-left u.left u.list (labelled-fine y).0 (λ z. some (omega (arith, rest-length y))))

    pub bare-labelled : (text : List ℕ) (ways : Ways) {s₁ t t₁ : List ℕ} {r : State} → GaveR text s s₁ n.inner (inside here) ways t t₁ st r
        → GaveCase text s s₁ end here ways t t₁ st r
    unfolding in_case command
    bare-labelled text ways g = record {
      by = λ y. let u = labelled-is y in let x = g.by (labelled-rest y) in rw u.same (record {
        keeps = x.keeps;
        did = did-as _ _ x.did same_refl (λ k v. refl) (omega (arith, ap (λ (c : Command). length (encode_command c)) u.same));
      });
    }

-- ---- a command without labels

module _ {s : List ℕ} {end : ℕ} {here : Here} {st : State} (n : Node) (nd : NodeAt s end n) (q : n.kind ≡ O.LABELLED → ⊥) where
  pub bare-is : (y : ReadyC s end here st) → IsBare s y.lo end y.tree
  bare-is y = is-bare y.tree y.lies y.ends (λ e. q (nd.kind ∙ e))

  pub bare-fine : (y : ReadyC s end here st) → FineRepeated (bare-is y).part
  unfolding FineCommand
  bare-fine y = let u = bare-is y in let f = subst FineC u.same y.fine in (plain-when u.part.body u.part.forms f, f.2)

  abbrev pub bare-part : ReadyC s end here st → ReadyR s end (inside here) st
  bare-part y = let u = bare-is y in
      sub y keeps-all u.lies refl (omega (arith, command-deep [] u.part u.same y.shallow)) (bare-fine y)

  pub bare-gave : (text : List ℕ) (ways : Ways) {s₁ t t₁ : List ℕ} {r : State} → GaveR text s s₁ end (inside here) ways t t₁ st r
      → GaveCase text s s₁ end here ways t t₁ st r
  unfolding in_case command
  bare-gave text ways g = record {
    by = λ y. let u = bare-is y in let x = g.by (bare-part y) in rw u.same (record {
      keeps = x.keeps;
      did = did-as _ _ x.did same_refl (λ k v. refl) (omega (arith, ap (λ (c : Command). length (encode_command c)) u.same));
    });
  }

  -- no labels are misplaced
  pub unlabelled-gave : (text : List ℕ) (ways : Ways) {s₁ t t₁ : List ℕ} {r : State} → GaveCase text s s₁ end here ways t t₁ st r
      → GaveC text s s₁ end here ways t t₁ st r
  unfolding in_command in_case misplaced
  unlabelled-gave text ways {s₁} {t} {t₁} {r} g = record {
    by = λ y. let u = bare-is y in let x = g.by y in let sc = y.scope in let h = here.height in let lv = leavable_by ways here in record {
      keeps = x.keeps;
      did = did-as _ _ x.did
          (same-eq (ap (in_case text sc lv h) u.same ∙ ap (in_command text sc lv h) (sym u.same))) (λ k v. refl) (omega arith);
    };
  }

pub gave-r-at : (text : List ℕ) {s s' t t' : List ℕ} {end : ℕ} {d d' : Here} {w w' : Ways} {st r : State} → d' ≡ d → w' ≡ w
    → GaveR text s s' end d' w' t t' st r → GaveR text s s' end d w t t' st r
gave-r-at text {s} {s'} {t} {t'} {end} {d} {w' = w'} {st} {r} e q g = rw q at (rw e at g)
