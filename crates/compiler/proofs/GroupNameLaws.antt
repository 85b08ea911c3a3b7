-- The names of a group: the loop over its functions, and where they start.
use Rattle.laws.proofs.Basics.{ℕ, suc, ◌+◌, ◌*◌, ◌^◌, ◌<◌, ◌≤◌, ◌≡◌, refl, sym, ap, subst, ◌∙◌, List, [], ◌∷◌, ◌++◌, append_assoc, append-nil, ◌⊎◌}
use Rattle.laws.proofs.Basics.{inl, inr, ⊎_elim, length, get_or, set, length-append, List·getD-append, List·getD-eq-default, get_or-set_same}
use Rattle.laws.proofs.Basics.{get_or-set_other, get_or-append_seam, eqb, ltb, arith, eqb-true, eqb-false, ltb-true, ltb-false}
use Rattle.laws.proofs.Cases.{by_cases, contradiction}
use Rattle.compiler.proofs.Language.{Name, Function, Scope, lookup, Fault, Start, nowhere, in_global, encode_name, encode_functions, FineName}
use Rattle.compiler.proofs.Language.{FineFunctions}
use Rattle.language.specs.Names as N
use Rattle.language.specs.Program.{among, start_of, with_function, name_fault, also_taken, functions_after, taken_after, group_name_faults}
use Rattle.compiler.proofs.Vocabulary.{Shows, Looked, found, name_at, State, Did, Holds, Small, Taken, Starting, starts_in, started, NameFaults}
use Rattle.compiler.proofs.Vocabulary.{Enters, encode_function, FineF, FineFs, ReadyGroup, GroupNames}
use Rattle.compiler.specs.Commands.{nothing}
use Rattle.compiler.proofs.Common.{keeps-lower, keeps-name, name-there, nil-left, nil-right, did_none, did_then, did-as, same_refl, Rest}
use Rattle.compiler.proofs.Common.{rest_all, rest-next}
use Rattle.compiler.proofs.GroupLaws.{IsFunction, is-function, no-function}
use Rattle.compiler.proofs.Rendered.{small-found}

-- ---- where functions start: one more

-- the starts with one more at their end, which is function k's: its table has what the old one had, and k's label where that starts
starting-with : {table table' : List ℕ} {ss : List Start} {k : ℕ} (x : Start) → length ss ≡ k → Starting table ss
    → ((n l : ℕ) → get_or table n 0 ≡ suc l → get_or table' n 0 ≡ suc l) → ((n : ℕ) → x ≡ in_global n → get_or table' n 0 ≡ suc k)
    → ((n l : ℕ) → get_or table' n 0 ≡ suc l → (get_or table n 0 ≡ suc l) ⊎ ((l ≡ k) × (x ≡ in_global n))) → Starting table' (ss ++ (x ∷ []))
starting-with {table} {table'} {ss} {k} x e z keeps here only = record { is = is; has = has }
  where
    end : get_or (ss ++ (x ∷ [])) k nowhere ≡ x
    end = cc (get_or-append_seam ss x [] nowhere)

    is : (n l : ℕ) → n < 400 → get_or table' n 0 ≡ suc l → get_or (ss ++ (x ∷ [])) l nowhere ≡ in_global n
    is n l h q = ⊎_elim (λ w. by_cases (ltb l k) (λ i. List·getD-append ss (x ∷ []) nowhere l (omega (arith, ltb-true l k i)) ∙ z.is n l h w)
        (λ i. let v : nowhere ≡ in_global n = sym (List·getD-eq-default ss nowhere (omega (arith, ltb-false l k i))) ∙ z.is n l h w in
        contradiction cc)) (λ w. rw (w.0, end) w.1) (only n l q)

    has : (n l : ℕ) → get_or (ss ++ (x ∷ [])) l nowhere ≡ in_global n → get_or table' n 0 ≡ suc l
    has n l q = by_cases (ltb l k) (λ i. keeps n l (z.has n l (sym (List·getD-append ss (x ∷ []) nowhere l (omega (arith, ltb-true l k i))) ∙ q)))
        (λ i. by_cases (eqb l k) (λ j. let w = eqb-true l k j in rw w (here n (cc (end))))
        (λ j. let b = ltb-false l k i in let d = eqb-false l k j in let v : nowhere ≡ in_global n =
        sym (List·getD-eq-default (ss ++ (x ∷ [])) nowhere (omega (arith, length-append ss (x ∷ [])))) ∙ q in contradiction cc))

starting-nowhere : {table : List ℕ} {ss : List Start} {k : ℕ} → length ss ≡ k → Starting table ss → Starting table (ss ++ (nowhere ∷ []))
starting-nowhere e z = starting-with nowhere e z (λ n l q. q) (λ n q. contradiction cc) (λ n l q. inl q)

starting-global : {table : List ℕ} {ss : List Start} {k : ℕ} (m : ℕ) → m < length table → get_or table m 0 ≡ 0 → length ss ≡ k → Starting table ss
    → Starting (set table m (k + 1)) (ss ++ (in_global m ∷ []))
starting-global {table} {ss} {k} m lm free e z =
    let same : get_or (set table m (k + 1)) m 0 ≡ k + 1 = get_or-set_same table m (k + 1) 0 lm in starting-with (in_global m) e z
    (λ n l q. get_or-set_other table m n (k + 1) 0 (λ i. let v : get_or table n 0 ≡ 0 = rw (i, free) in omega arith) ∙ q)
    (λ n q. let j : m ≡ n = cc in rw (← j) (same ∙ omega arith))
    (λ n l q. by_cases (eqb n m) (λ i. let j = eqb-true n m i in inr (omega (arith, rw j at q), ap in_global (sym j)))
    (λ i. inl (sym (get_or-set_other table m n (k + 1) 0 (eqb-false n m i)) ∙ q)))

-- no fault at the name: its global was free
starting-more : (place : ℕ) (f : N.Found) {table table' ns : List ℕ} {ss : List Start} {k : ℕ} → Taken table ns
    → ((n : ℕ) → f ≡ N.known (N.global n) → n < 400)
    → name_fault place ns f ≡ [] → table' ≡ started table k (start_of f) → length ss ≡ k → Starting table ss → Starting table' (ss ++ (start_of f ∷ []))
starting-more place f {table} {table'} {ns} {ss} {k} tk b q et e z = rw et (go f b q)
  where
    go : (f : N.Found) → ((n : ℕ) → f ≡ N.known (N.global n) → n < 400) → name_fault place ns f ≡ []
        → Starting (started table k (start_of f)) (ss ++ (start_of f ∷ []))
    go N.unknown b q = starting-nowhere e z
    go (N.known (N.local i)) b q = starting-nowhere e z
    go (N.known (N.manifest i)) b q = starting-nowhere e z
    go (N.known (N.function i)) b q = starting-nowhere e z
    go (N.known (N.global n)) b q = starting-global n (omega (arith, b n refl)) (by_cases (among n ns) (λ a. let c = ap length (rw a at q) in
        absurd (omega arith)) (tk.free n (b n refl))) e z

-- a function's name adds no global
pub small-with : (sc : Scope) (name : Name) (k : ℕ) (x : Start) → Small sc → Small (with_function sc name k x)
unfolding Small
small-with sc name k nowhere h = h
small-with sc name k (in_global n) h = h

-- ---- the loop

-- the name at the front of a function
name_of : {s : List ℕ} {lo : ℕ} (f : Function) → Holds s lo (encode_function f) → name_at s lo ≡ f.name
unfolding encode_name
name_of {s} {lo} f h = name-there s lo (h.at 1 (omega arith)) (h.at 2 (omega arith))

module _ (text : List ℕ) {s₀ table₀ : List ℕ} {from end top before : ℕ} (st₀ : State) where
  -- `bad` and `begun` are the faults and the starts so far
  pub record GroupPart (y : ReadyGroup s₀ table₀ from end top before) (s table : List ℕ) (at k now : ℕ) (st : State) : Type 0 where
    pub left : Rest encode_functions y.base top s₀ s end at
    pub scope : Scope
    pub taken : List ℕ
    pub bad : List Fault
    pub begun : List Start
    pub shows : Shows s now scope
    pub bounds : (top ≤ now) × (now + 2 * length left.rest ≤ top + 2 * length y.functions)
        × (k + length left.rest ≡ before + length y.functions) × (k ≡ before + length begun)
    pub fine : FineFs left.rest
    pub globals : Small scope
    pub free : Taken table taken
    pub scopes : functions_after text before y.scope y.functions ≡ functions_after text k scope left.rest
    pub takens : taken_after text before y.scope y.taken y.functions ≡ taken_after text k scope taken left.rest
    pub faults : group_name_faults text before y.scope y.taken y.functions ≡ bad ++ group_name_faults text k scope taken left.rest
    pub did : (t : List ℕ) → Did bad nothing 0 t t st₀ st
    pub started : starts_in text before y.scope y.functions ≡ begun ++ starts_in text k scope left.rest
    pub starting : bad ≡ [] → (ss : List Start) → length ss ≡ before → Starting table₀ ss → Starting table (ss ++ begun)

  pub names-begin : (y : ReadyGroup s₀ table₀ from end top before) → GroupPart y s₀ table₀ from before top st₀
  names-begin y = record {
    left = rest_all y.functions y.lies y.ends y.above;
    scope = y.scope;
    taken = y.taken;
    bad = [];
    begun = [];
    shows = y.shows;
    bounds = omega arith;
    fine = y.fine;
    globals = y.globals;
    free = y.free;
    scopes = refl;
    takens = refl;
    faults = refl;
    did = λ t. did_none 0;
    started = refl;
    starting = λ q ss e z. rw (append-nil ss) z;
  }

  -- what the code needs at a function
  pub record Fits (y : ReadyGroup s₀ table₀ from end top before) (s table : List ℕ) (at k now : ℕ) : Type 0 where
    pub next : at + 2 + get_or s at 0 ≤ end
    pub room : now + 2 ≤ y.base
    pub long : y.base ≤ length s
    pub small : end < 2 ^ 32
    pub low : y.base ≤ at
    pub few : k < 2 ^ 29
    pub table-long : length table ≡ 400
    pub name : FineName (name_at s (at + 2))

  module _ {s table : List ℕ} {at k now : ℕ} {st : State} (l : at < end) (y : ReadyGroup s₀ table₀ from end top before)
      (p : GroupPart y s table at k now st) where
    abbrev pub front : IsFunction s₀ at end p.left.rest
    front = is-function p.left.rest p.left.lies p.left.ends l

    function-name : name_at s (at + 2) ≡ front.part.name
    function-name = keeps-name p.left.keeps (omega arith) ∙ name_of front.part front.lies

    function-fine : FineF front.part × FineFs front.more
    unfolding FineFunctions
    function-fine = subst FineFs front.same p.fine

    pub names-fit : Fits y s table at k now
    names-fit = let u = front in let c = ap length u.same in record {
      next = omega (arith, p.left.keeps.above at p.left.above);
      room = omega arith;
      long = omega arith;
      small = y.small;
      low = p.left.above;
      few = omega arith;
      table-long = p.free.long;
      name = subst FineName (sym function-name) function-fine.0.name;
    }

  pub names-next : {s s' table table' : List ℕ} {at k now size next m place now' : ℕ} {st r : State} → at < end → size ≡ get_or s at 0
      → next ≡ at + 2 + size → Looked text s now (at + 2) m → place ≡ get_or s (at + 4) 0 → NameFaults table m place st r → Enters s s' table table' now
      (at + 2) m k now' → (y : ReadyGroup s₀ table₀ from end top before) → GroupPart y s table at k now st → GroupPart y s' table' next (k + 1) now' r
  unfolding functions_after taken_after group_name_faults starts_in
  names-next {s} {s'} {table} {table'} {at} {k} {now} {size} {next} {m} {place} l es en lk ep nf ent y p =
      let u = front l y p in let w = names-fit l y p in let c = ap length u.same in let sc = p.scope in
      let name = u.part.name in let f = lookup text sc name in let n : name_at s (at + 2) ≡ name = function-name l y p in let four : at + 4 ≡ at + 2
      + 2 = omega arith in let place_is : place ≡ name.place = cc in let m-is : m ≡ found f = rw (lk.by sc p.shows, n) in let small : (i : ℕ) → f
      ≡ N.known (N.global i) → i < 400 = λ i e. small-found text sc name i p.globals e in let e = ent.by f y.base sc p.taken name m-is
      p.shows w.long w.room n p.free small in let x = start_of f in let fs = name_fault name.place p.taken f in
      record {
        left = rest-next p.left u es en (keeps-lower p.bounds.0 e.1);
        scope = with_function sc name k x;
        taken = also_taken x p.taken;
        bad = p.bad ++ fs;
        begun = p.begun ++ (x ∷ []);
        shows = e.0;
        bounds = omega (arith, length-append p.begun (x ∷ []));
        fine = (function-fine l y p).1;
        globals = small-with sc name k x p.globals;
        free = e.2;
        scopes = p.scopes ∙ ap (functions_after text k sc) u.same;
        takens = p.takens ∙ ap (taken_after text k sc p.taken) u.same;
        faults = simp (p.faults, u.same, append_assoc);
        did = λ t. did-as nothing 0 (did_then (p.did t) (rw place_is at (nf.by f p.taken m-is p.free small t))) same_refl (λ i q. refl)
            (omega arith);
        started = simp (p.started, u.same, append_assoc);
        starting = λ q ss h z. let long : length (ss ++ p.begun) ≡ k = omega (arith, length-append ss p.begun) in
            rw (append_assoc ss p.begun (x ∷ [])) at (starting-more name.place f p.free small (nil-right p.bad fs q) e.5 long
            (p.starting (nil-left p.bad fs q) ss h z));
      }

  pub names-end : {s table : List ℕ} {at k now : ℕ} {st : State} → end ≤ at
      → ((y : ReadyGroup s₀ table₀ from end top before) → GroupPart y s table at k now st)
      → GroupNames text s₀ s table₀ table from end top before st₀ (record { top = now; state = st })
  unfolding functions_after taken_after group_name_faults starts_in
  names-end {s} {table} {at} {k} l q = record {
    by = λ y. let p = q y in let e = no-function p.left.rest p.left.ends l in
        let fs : group_name_faults text before y.scope y.taken y.functions
        ≡ p.bad = simp (p.faults, e, append-nil) in let ss : starts_in text before y.scope y.functions ≡ p.begun =
        simp (p.started, e, append-nil) in
        record {
          shows = rw (p.scopes ∙ ap (functions_after text k p.scope) e) p.shows;
          keeps = p.left.keeps;
          up = (p.bounds.0, omega arith);
          taken = rw (p.takens ∙ ap (taken_after text k p.scope p.taken) e) p.free;
          did = λ t. rw fs (p.did t);
          starting = λ none xs h z. rw ss (p.starting (sym fs ∙ none) xs h z);
        };
  }
