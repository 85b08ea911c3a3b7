-- From a tree to a resolved tree that is formed: names mean what stands in the scope, and the scope's words lie below the height. Here are
-- the parts; Leaving goes through the tree.
use Rattle.laws.proofs.Basics.{ℕ, suc, ◌+◌, ◌<◌, ◌≤◌, ◌≡◌, refl, ap, ◌∙◌, List, [], ◌∷◌, Bool, true, false, Option, some, none, length, leb, le_refl}
use Rattle.laws.proofs.Basics.{add-zero, arith, leb-true}
use Rattle.laws.proofs.Cases.{by_cases, by_cond}
use Rattle.language.specs.Tree as T
use Rattle.language.specs.Tree.{Name, Simple, Constant, Label, Expressions, Suffixes, Command, Commands}
use Rattle.language.specs.Names as N
use Rattle.language.specs.Names.{Meaning, Found, Scope, opened, declared, outermost, lookup, same_name}
use Rattle.language.specs.Constants.{Judged, good, refused, signed, of_found, of_simple, judge, within, for_vector, judged_word}
use Rattle.language.specs.Resolve as E
use Rattle.language.specs.Resolve.{declare_all, of_meaning, side_of, target_of, address_of, under, scope_after, pair_up, values_before, good_case}
use Rattle.language.specs.Resolve.{labels_before, labels_of, by_of, leaving}
use Rattle.language.specs.Resolved as R
use Rattle.language.specs.Resolved.{Expr, Exprs, Locals, cases_of, case_count}
use Rattle.language.specs.Heights as H
use Rattle.language.specs.Fine.{label_count, FineConstant, FineBy, FineLabels, FineCommand, FineLocals}
use Rattle.language.proofs.Cases.{by-monadic, by-leaving, by_side}
use Rattle.language.proofs.Formed.{FormedCases, FormedE, FormedA, FormedT, FormedP, FormedC, FormedL}

-- ---- scopes

abbrev pub Known : (functions h : ℕ) → Meaning → Type 0
Known f h (N.local k) = k < h
Known f h (N.global n) = n < 400
Known f h (N.manifest v) = v < 65536
Known f h (N.function k) = k < f

unfoldable pub Scoped : (functions h : ℕ) → Scope → Type 0
Scoped f h outermost = Unit {0}
Scoped f h (opened s) = Scoped f h s
Scoped f h (declared s n w) = Known f h w × Scoped f h s

known_up : (f : ℕ) {h h' : ℕ} (w : Meaning) → h ≤ h' → Known f h w → Known f h' w
known_up f (N.local k) l p = omega arith
known_up f (N.global n) l p = p
known_up f (N.manifest v) l p = p
known_up f (N.function k) l p = p

pub scoped-up : (f : ℕ) {h h' : ℕ} (s : Scope) → h ≤ h' → Scoped f h s → Scoped f h' s
unfolding Scoped
scoped-up f outermost l p = tt
scoped-up f (opened s) l p = scoped-up f s l p
scoped-up f (declared s n w) l p = (known_up f w l p.0, scoped-up f s l p.1)

abbrev pub KnownFound : (functions h : ℕ) → Found → Type 0
KnownFound f h N.unknown = Unit {0}
KnownFound f h (N.known w) = Known f h w

pub lookup-known : (f h : ℕ) (text : List ℕ) (s : Scope) (n : Name) → Scoped f h s → KnownFound f h (lookup text s n)
unfolding Scoped lookup
lookup-known f h text outermost n p = tt
lookup-known f h text (opened s) n p = lookup-known f h text s n p
lookup-known f h text (declared s m w) n p = by_cond (KnownFound f h) (same_name text m n) p.0 (lookup-known f h text s n p.1)

pub declared-all : (f : ℕ) (s : Scope) (h : ℕ) (ns : List Name) → Scoped f h s → Scoped f (h + length ns) (declare_all s h ns)
unfolding declare_all Scoped
declared-all f s h [] p = scoped-up f s (omega arith) p
declared-all f s h (n ∷ ns) p = let z : h + 1 + length ns ≡ h + suc (length ns) = omega arith in
    rw z at (declared-all f (declared s n (N.local h)) (h + 1) ns (omega arith, scoped-up f s (omega arith) p))

-- ---- constants

signed_word : (b : Bool) (v : ℕ) → v < 65536 → signed b v < 65536
signed_word true v l = omega arith
signed_word false v l = l

abbrev pub WordJudged : Judged → Type 0
WordJudged (good v) = v < 65536
WordJudged (refused fs) = Unit {0}

pub judge-word : (f h : ℕ) (text : List ℕ) (s : Scope) (c : Constant) → Scoped f h s → FineConstant c → WordJudged (judge text s c)
unfolding judge
judge-word f h text s c p q = go c.simple refl
  where
    found : (n : Name) (x : Found) → KnownFound f h x → WordJudged (of_found c n x)
    found n N.unknown k = tt
    found n (N.known (N.manifest v)) k = signed_word c.minus v k
    found n (N.known (N.local j)) k = tt
    found n (N.known (N.global j)) k = tt
    found n (N.known (N.function j)) k = tt

    go : (x : Simple) → c.simple ≡ x → WordJudged (of_simple text s c x)
    go (T.literal v) e = signed_word c.minus v (q.small v e)
    go (T.known n) e = found n (lookup text s n) (lookup-known f h text s n p)

pub word_below : (j : Judged) → WordJudged j → judged_word j < 65536
word_below (good v) l = l
word_below (refused fs) l = omega arith

pub within_word : (c : Constant) (test : ℕ → Bool) (j : Judged) → WordJudged j → judged_word (within c test j) < 65536
within_word c test (good v) l = by_cond (λ j. judged_word j < 65536) (test v) l (omega arith)
within_word c test (refused fs) l = omega arith

pub within-most : (c : Constant) (most : ℕ) (j : Judged) → judged_word (within c (λ v. leb v most) j) ≤ most
within-most c most (good v) = by_cases (leb v most) (λ e. rw e (leb-true v most e)) (λ e. rw e (omega arith))
within-most c most (refused fs) = omega arith

-- ---- heights

pub under_more : (ss : Suffixes) (h : ℕ) → h ≤ under ss h
unfolding under
under_more T.no_suffixes h = le_refl h
under_more (T.call es ss) h = let k = under_more ss h in omega arith
under_more (T.index e ss) h = under_more ss h

module _ (functions strings : ℕ) (text : List ℕ) where
  abbrev GE : ℕ → Expr → Type 0
  GE h e = FormedE functions strings h e

  pub formed-name : (h : ℕ) (x : Found) → KnownFound functions h x → GE h (of_meaning x)
  unfolding FormedE
  formed-name h N.unknown p = omega arith
  formed-name h (N.known (N.local k)) p = p
  formed-name h (N.known (N.global n)) p = p
  formed-name h (N.known (N.manifest v)) p = p
  formed-name h (N.known (N.function k)) p = p

  formed-address : (h : ℕ) (e : Expr) → GE h e → GE h (address_of (side_of e))
  unfolding FormedE
  formed-address h e p = by_side (λ e x. GE h e → GE h (address_of x)) (λ _ p. p) (λ _ p. p) (λ _ p. p) (λ _ _ p. p) (λ _ _. omega arith) e p

  formed-target : (h : ℕ) (e : Expr) → GE (h + 1) e → FormedT functions strings h (target_of (side_of e))
  unfolding FormedE
  formed-target h e p = let z : h + 1 + 1 ≡ h + 2 = omega arith in
      by_side (λ e x. GE (h + 1) e → FormedT functions strings h (target_of x)) (λ _ p. p) (λ _ p. p) (λ _ p. p) (λ _ _ p. (p.0, rw z at p.1))
      (λ _ _. omega arith) e p

  pub formed-monadic : (h o : ℕ) (e : Expr) → GE h e → GE h (E.resolved_monadic o e)
  unfolding FormedE
  formed-monadic h o e p = by-monadic (GE h) o e p (formed-address h e p) p

  pub formed-leaving : (h w : ℕ) → FormedC functions strings h (leaving w)
  unfolding FormedE
  formed-leaving h w = by-leaving (FormedC functions strings h) w tt tt tt tt tt

  -- left sides with right sides
  unfoldable pub Sides : ℕ → Exprs → Type 0
  Sides h R.none = Unit {0}
  Sides h (R.and e es) = GE h e × Sides h es

  pub formed-pairs : (h : ℕ) (l r : Exprs) → Sides (h + 1) l → Sides h r → FormedP functions strings h (pair_up l r)
  unfolding Sides FormedE
  formed-pairs h R.none r p q = tt
  formed-pairs h (R.and e es) R.none p q = tt
  formed-pairs h (R.and e es) (R.and d ds) p q = (q.0, formed-target h e p.0, formed-pairs h es ds p.1 q.1)

  pub formed-values : (h : ℕ) (es : Exprs) (ls : Locals) → FormedA functions strings h es → FormedL functions strings (h + H.count es) ls
      → FormedL functions strings h (values_before es ls)
  unfolding FormedE H.count
  formed-values h R.none ls p q = rw (add-zero h) at q
  formed-values h (R.and e es) ls p q = let z : h + suc (H.count es) ≡ h + 1 + H.count es = omega arith in
      (p.0, formed-values (h + 1) es ls p.1 (rw z at q))

  pub formed-labels : (s : Scope) (h : ℕ) → Scoped functions h s → (ls : List Label) → FineLabels ls → FormedCases (labels_of text s ls)
  unfolding FineLabels FormedCases labels_of
  formed-labels s h sc [] f = tt
  formed-labels s h sc (T.case place c ∷ ls) f = go (judge text s c) (judge-word functions h text s c sc f.0) (formed-labels s h sc ls f.1)
    where
      go : (x : Judged) → WordJudged x → FormedCases (labels_of text s ls) → FormedCases (good_case x (labels_of text s ls))
      go (good v) l q = (l, q)
      go (refused fs) l q = q
  formed-labels s h sc (T.default place ∷ ls) f = formed-labels s h sc ls f

  pub formed-by : (s : Scope) (h : ℕ) → Scoped functions h s → (k : Option Constant) → FineBy k → by_of text s k < 65536
  formed-by s h sc none f = omega arith
  formed-by s h sc (some k) f = within_word k _ (judge text s k) (judge-word functions h text s k sc f)

  pub vector-size : (s : Scope) (k : Constant) → judged_word (for_vector text s k) < 4096
  vector-size s k = omega (arith, within-most k 4095 (judge text s k))

  pub count_same : (s : Scope) (h : ℕ) (es : Expressions) → H.count (E.expressions text s h es) ≡ T.count es
  unfolding H.count T.count E.expressions
  count_same s h T.no_expressions = refl
  count_same s h (T.and_expression e es) = ap suc (count_same s (h + 1) es)

  height-values : (h : ℕ) (es : Exprs) (ls : Locals) → H.height_with h (values_before es ls) ≡ H.height_with (h + H.count es) ls
  unfolding H.height_with H.count
  height-values h R.none ls = rw (add-zero h) refl
  height-values h (R.and e es) ls = let z : h + suc (H.count es) ≡ h + 1 + H.count es = omega arith in rw z (height-values (h + 1) es ls)

  -- the height after declarations is the same, before and after they are resolved
  pub height-same : (s : Scope) (h : ℕ) (ls : T.Locals) → FineLocals strings ls → H.height_with h (E.locals text s h ls) ≡ E.height_after text s h ls
  unfolding H.height_with E.height_after E.locals FineLocals
  height-same s h T.no_locals f = refl
  height-same s h (T.vector n k ls) f = height-same (declared s n (N.local h)) (h + 2 + judged_word (for_vector text s k)) ls f.1
  height-same s h (T.values ns es ls) f = let z : H.count (E.expressions text s h es) ≡ length ns = count_same s h es ∙ f.2 in
      height-values h (E.expressions text s h es) _ ∙ rw z (height-same (declare_all s h ns) (h + length ns) ls f.1)

  pub scope-after : (s : Scope) (h : ℕ) → Scoped functions h s → (ls : T.Locals)
      → Scoped functions (E.height_after text s h ls) (scope_after text s h ls)
  unfolding scope_after E.height_after Scoped
  scope-after s h sc T.no_locals = sc
  scope-after s h sc (T.vector n k ls) =
      scope-after (declared s n (N.local h)) (h + 2 + judged_word (for_vector text s k)) (omega arith, scoped-up functions s (omega arith) sc) ls
  scope-after s h sc (T.values ns es ls) = scope-after (declare_all s h ns) (h + length ns) (declared-all functions s h ns sc) ls

  pub cases-before : (s : Scope) (ls : List Label) → cases_of (labels_of text s ls) ≤ length ls
  unfolding cases_of labels_of
  cases-before s [] = omega arith
  cases-before s (T.case place c ∷ ls) = go (judge text s c) (cases-before s ls)
    where
      go : (x : Judged) → cases_of (labels_of text s ls) ≤ length ls → cases_of (good_case x (labels_of text s ls)) ≤ suc (length ls)
      go (good v) l = omega arith
      go (refused fs) l = omega arith
  cases-before s (T.default place ∷ ls) = omega (arith, cases-before s ls)

  case-count : (s : Scope) (h : ℕ) (cs : Commands) → case_count (E.case_list text s h cs) ≤ label_count cs
  unfolding case_count label_count E.case_list
  case-count s h T.no_commands = omega arith
  case-count s h (T.and_command (T.command ls u rs) cs) = omega (arith, cases-before s ls, case-count s h cs)

  pub few-cases : (s : Scope) (h : ℕ) (cs : Commands) → label_count cs ≤ 65535 → case_count (E.case_list text s h cs) ≤ 65535
  few-cases s h cs l = omega (arith, case-count s h cs)

  pub open-scoped : (s : Scope) (h : ℕ) → Scoped functions h s → Scoped functions h (opened s)
  unfolding Scoped
  open-scoped s h sc = sc

  pub for-scope : (s : Scope) (h : ℕ) (n : Name) → Scoped functions h s → Scoped functions (h + 2) (declared (opened s) n (N.local h))
  unfolding Scoped
  for-scope s h n sc = (omega arith, scoped-up functions s (omega arith) sc)

  pub vector-scope : (s : Scope) (h : ℕ) (n : Name) (k : ℕ) → Scoped functions h s → Scoped functions (h + 2 + k) (declared s n (N.local h))
  unfolding Scoped
  vector-scope s h n k sc = (omega arith, scoped-up functions s (omega arith) sc)

  pub before-fine : (c : Command) → FineCommand strings c → FineLabels (labels_before c)
  unfolding FineCommand
  before-fine (T.command ls u rs) f = f.0
