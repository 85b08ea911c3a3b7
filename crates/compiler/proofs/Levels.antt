-- One declaration of the outermost level: the items of GLOBAL and MANIFEST, or a group of functions, and where the walk then stands.
use Rattle.laws.proofs.Basics.{ℕ, suc, ◌+◌, ◌*◌, ◌<◌, ◌≤◌, ◌≡◌, refl, sym, ap, subst, ◌∙◌, List, [], ◌∷◌, append-nil, Bool, true, false, length}
use Rattle.laws.proofs.Basics.{length-append, eqb, leb, arith, eq-eqb, ne_eqb, leb-true}
use Rattle.laws.proofs.Cases.{by_cases}
use Rattle.language.specs.Kinds as K
use Rattle.language.specs.Tree as T
use Rattle.compiler.proofs.Language.{Item, Function, Declaration, Scope, declared, global, manifest, lookup, Fault, Judged, judge, within}
use Rattle.compiler.proofs.Language.{judged_word, FineDeclaration}
use Rattle.compiler.proofs.Language.{declaration_depth, functions_depth, encode_name, encode_constant, encode_items, encode_functions}
use Rattle.language.specs.Constants as J
use Rattle.language.specs.Program.{Walk, start_of, with_function, resolved, globals_after, manifests_after, functions_after, declared_by}
use Rattle.language.specs.Program.{group_name_faults}
use Rattle.language.specs.Program.{group_faults, group_of, height_faults, after_declaration}
use Rattle.language.specs.Whole.{funs}
use Rattle.code.specs.Generate as G
use Rattle.compiler.proofs.Vocabulary.{STRINGS, Did, least, no_fit, Holds, State, Here}
use Rattle.compiler.specs.Commands.{nothing}
use Rattle.compiler.specs.Items.{after, faults, FineIs, ReadyItems, ItemsKnown, Items}
use Rattle.compiler.specs.Groups.{Small, Starting, starts_in, inner_labels, ReadyGroup, GroupKnown, GroupNames, ReadyFs, GaveFs, GroupWalked}
use Rattle.compiler.specs.Groups.{CountsGroup}
use Rattle.compiler.specs.Programs.{starts_of, encode_declared, declared_word, Stands, Yields, NamedItems, ReadyDeclaration, WalkedOn}
use Rattle.compiler.specs.Programs.{GaveDeclaration}
use Rattle.compiler.specs.declared.outer.Known.{Known}
use Rattle.compiler.specs.declared.program.Done.{Done}
use Rattle.compiler.specs.declared.program.Progress.{Progress}
use Rattle.compiler.proofs.GroupNameLaws.{small-with}
use Rattle.compiler.proofs.Scoping.{keeps_then, keeps-lower, keeps-shows}
use Rattle.compiler.proofs.Done.{nil-left, did-as, same_refl}
use Rattle.compiler.proofs.Trees.{keeps-lies}
use Rattle.compiler.proofs.FunctionLists.{flat, did-flat, functions-long, yields-then, yields-as}

-- ---- every global in scope stays below 400

word_small : (c : T.Constant) (j : Judged) → judged_word (within c (λ v. leb v 399) j) < 400
word_small c (J.good v) = by_cases (leb v 399) (λ e. rw e (omega (arith, leb-true v 399 e))) (λ e. rw e (omega arith))
word_small c (J.refused fs) = omega arith

small-globals : (text : List ℕ) (sc : Scope) (is : List Item) → Small sc → Small (globals_after text sc is)
unfolding globals_after Small
small-globals text sc [] h = h
small-globals text sc (i ∷ is) h = small-globals text (declared sc i.name (global (judged_word (J.for_global text sc i.constant)))) is (word_small i.constant (judge text sc i.constant), h)

small-manifests : (text : List ℕ) (sc : Scope) (is : List Item) → Small sc → Small (manifests_after text sc is)
unfolding manifests_after Small
small-manifests text sc [] h = h
small-manifests text sc (i ∷ is) h = small-manifests text (declared sc i.name (manifest (judged_word (judge text sc i.constant)))) is h

small-functions : (text : List ℕ) (k : ℕ) (sc : Scope) (fs : List Function) → Small sc → Small (functions_after text k sc fs)
unfolding functions_after
small-functions text k sc [] h = h
small-functions text k sc (f ∷ fs) h = small-functions text (k + 1) _ fs (small-with sc f.name k (start_of (lookup text sc f.name)) h)

-- ---- lists

pub items-long : (is : List Item) → 4 * length is ≤ length (encode_items is)
unfolding encode_items encode_name
items-long [] = omega arith
items-long (i ∷ is) = omega (arith, items-long is, length-append (encode_constant i.constant) (encode_items is))

pub group-long : (text : List ℕ) (k : ℕ) (before sc : Scope) (fs : List Function) → length (group_of text k before sc fs) ≡ length fs
unfolding group_of
group-long text k before sc [] = refl
group-long text k before sc (f ∷ fs) = ap suc (group-long text (k + 1) _ sc fs)

pub starts-in : (text : List ℕ) (k : ℕ) (before sc : Scope) (fs : List Function)
    → starts_of (funs (group_of text k before sc fs)) ≡ starts_in text k before fs
unfolding group_of funs starts_of starts_in resolved
starts-in text k before sc [] = refl
starts-in text k before sc (f ∷ fs) = rw (starts-in text (k + 1) (with_function before f.name k (start_of (lookup text before f.name))) sc fs)

-- faults, and nothing written
yields-faults : {strings l : ℕ} {fs : List Fault} {t : List ℕ} (m : ℕ) {d d' : Done} → d'.tall ≡ d.tall
    → Did fs nothing 0 t t d.state d'.state → Yields strings l fs [] m t t d d'
unfolding funs G.functions_code inner_labels height_faults least
yields-faults m e x = record { did = did-as nothing m x same_refl (λ n c. refl) (omega arith); tall = λ c. e; fits = no_fit }

-- ---- GLOBAL and MANIFEST

pub items-flat : {g : Bool} {text s s' : List ℕ} {from end top : ℕ} {st r : State} {k : Known} → st.high ≡ 0 → r ≡ flat k.state
    → Items g text s s' from end top st k → Items g text s s' from end top st (record { top = k.top; state = r })
items-flat low e x = record {
  by = λ y. let i = x.by y in record { moved = i.moved; shows = i.shows; keeps = i.keeps; did = λ t. did-flat low e (i.did t) };
}

abbrev pub items_of : Bool → List Item → Declaration
items_of true is = T.globals is
items_of false is = T.manifests is

pub record IsItems (g : Bool) (p : Declaration) : Type 0 where
  pub items : List Item
  pub same : p ≡ items_of g items

pub is-items : {tag : ℕ} (p : Declaration) → tag ≡ declared_word p → (tag ≡ K.LET → ⊥) → IsItems (eqb tag K.GLOBAL) p
is-items {tag} (T.globals is) e n = record { items = is; same = rw (eq-eqb tag K.GLOBAL e) }
is-items {tag} (T.manifests is) e n = record { items = is; same = ap (λ (b : Bool). items_of b is) (sym (ne_eqb tag K.GLOBAL (λ q. omega arith))) }
is-items (T.functions fs) e n = absurd (n e)

items-encoded : (g : Bool) (is : List Item) → encode_declared (items_of g is) ≡ encode_items is
items-encoded true is = refl
items-encoded false is = refl

pub items-fine : (g : Bool) (is : List Item) → FineDeclaration STRINGS (items_of g is) → FineIs is
items-fine true is f = f
items-fine false is f = f

module _ {s table : List ℕ} {from end tag left strings : ℕ} {l : Progress} (n : tag ≡ K.LET → ⊥)
    (y : ReadyDeclaration s table from end tag left strings l) where
  abbrev pub its : IsItems (eqb tag K.GLOBAL) y.part
  its = is-items y.part y.word n

  pub its-encoded : encode_declared y.part ≡ encode_items its.items
  its-encoded = ap encode_declared its.same ∙ items-encoded (eqb tag K.GLOBAL) its.items

  abbrev pub ready-items : ReadyItems s from end l.top
  ready-items = record {
    base = y.base;
    scope = y.walk.scope;
    items = its.items;
    lies = subst (Holds s from) its-encoded y.lies;
    ends = rw (y.ends, its-encoded);
    above = y.above;
    long = y.long;
    small = y.small;
    shows = y.stands.shows;
    room = omega (arith, ap length its-encoded, items-long its.items);
    fine = items-fine (eqb tag K.GLOBAL) its.items (subst (FineDeclaration STRINGS) its.same y.fine);
  }

walked-items : {text s s' table t : List ℕ} {from end base strings : ℕ} {l r : Progress} (w : Walk) (g : Bool) (is : List Item)
    → Stands base s table w l → ItemsKnown g text s s' base w.scope is l.top l.done.state (record { top = r.top; state = r.done.state })
    → NamedItems g text s s' from end l r → WalkedOn text w (items_of g is) base strings s s' table table t t l r
unfolding after faults after_declaration declared_by funs starts_of
walked-items {text} {t = t} w true is a i n = record {
  stands = record {
    shows = i.shows;
    globals = small-globals text w.scope is a.globals;
    free = a.free;
    many = omega arith;
    some = omega (arith, (i.did t).grows);
    low = n.low;
  };
  keeps = i.keeps;
  up = (omega arith, omega (arith, items-long is));
  yields = yields-faults (2 * length (encode_items is)) n.tall (i.did t);
  starting = λ e ss q h. subst (Starting _) (sym (append-nil ss)) h;
}
walked-items {text} {t = t} w false is a i n = record {
  stands = record {
    shows = i.shows;
    globals = small-manifests text w.scope is a.globals;
    free = a.free;
    many = omega arith;
    some = omega (arith, (i.did t).grows);
    low = n.low;
  };
  keeps = i.keeps;
  up = (omega arith, omega (arith, items-long is));
  yields = yields-faults (2 * length (encode_items is)) n.tall (i.did t);
  starting = λ e ss q h. subst (Starting _) (sym (append-nil ss)) h;
}

pub gave-items : {text s s' table t : List ℕ} {from end tag left strings : ℕ} {l r : Progress} → (tag ≡ K.LET → ⊥)
    → NamedItems (eqb tag K.GLOBAL) text s s' from end l r → GaveDeclaration text s s' table table from end tag left strings t t l r
gave-items {text} {s} {s'} {table} {t} {tag = tag} n x = record {
  by = λ y. let u = is-items y.part y.word n in
      rw u.same (walked-items y.walk (eqb tag K.GLOBAL) u.items y.stands (x.known.by (ready-items n y)) x);
}

-- ---- a group of functions

pub record IsGroup (p : Declaration) : Type 0 where
  pub functions : List Function
  pub same : p ≡ T.functions functions

pub is-group : (p : Declaration) → K.LET ≡ declared_word p → IsGroup p
is-group (T.globals is) e = absurd (omega arith)
is-group (T.manifests is) e = absurd (omega arith)
is-group (T.functions fs) e = record { functions = fs; same = refl }

module _ {s table : List ℕ} {from end left strings : ℕ} {l : Progress} (y : ReadyDeclaration s table from end K.LET left strings l) where
  abbrev pub grp : IsGroup y.part
  grp = is-group y.part y.word

  pub group-sized : length (encode_declared y.part) ≡ length (encode_functions grp.functions)
  group-sized = simp grp.same

  pub group-depth : functions_depth grp.functions ≤ left
  unfolding declaration_depth
  group-depth = rw grp.same at y.shallow

  abbrev pub ready-group : ReadyGroup s table from end l.top l.functions
  ready-group = record {
    base = y.base;
    scope = y.walk.scope;
    taken = y.walk.taken;
    functions = grp.functions;
    lies = rw grp.same at y.lies;
    ends = omega (arith, group-sized);
    above = y.above;
    long = y.long;
    small = y.small;
    shows = y.stands.shows;
    room = omega (arith, group-sized, functions-long grp.functions);
    globals = y.stands.globals;
    free = y.stands.free;
    few = omega (arith, group-sized, functions-long grp.functions);
    fine = subst (FineDeclaration STRINGS) grp.same y.fine;
  }

  module _ {text s₁ table₁ : List ℕ} {k : Known} (g : GroupNames text s s₁ table table₁ from end l.top l.functions l.done.state k) where
    abbrev pub names-known : GroupKnown text s s₁ table table₁ y.base y.walk.scope y.walk.taken grp.functions l.top l.functions
        l.done.state k
    names-known = g.by ready-group

    abbrev pub group_here : Here
    group_here = record { top = k.top; height = 0; left = left; strings = strings; routine = false }

    abbrev pub ready-fs : {st : State} → st ≡ flat k.state → ReadyFs s₁ from end group_here (record { tall = l.done.tall; state = st })
    ready-fs {st} e = let x = names-known in let f = x.did [] in let sl : st.label ≡ k.state.label = rw e in record {
      base = y.base;
      scope = functions_after text l.functions y.walk.scope grp.functions;
      functions = grp.functions;
      lies = keeps-lies x.keeps y.above (rw grp.same at y.lies);
      ends = omega (arith, group-sized);
      above = y.above;
      long = omega arith;
      small = y.small;
      shows = x.shows;
      room = omega (arith, group-sized);
      height = omega (arith, group-sized);
      label = omega (arith, group-sized, sl);
      some = omega arith;
      strings = y.names;
      shallow = group-depth;
      fine = subst (FineDeclaration STRINGS) grp.same y.fine;
      low = rw e;
    }

-- the walk as the code counts it
abbrev counted : Walk → ℕ → Walk
counted w k = record { scope = w.scope; functions = k; taken = w.taken }

walked-group : {text s s₁ s₂ table table₁ t t' : List ℕ} {base left strings n : ℕ} {l : Progress} {k : Known} {st : State} {d : Done} (w : Walk)
    (fs : List Function) → Stands base s table w l → GroupKnown text s s₁ table table₁ base w.scope w.taken fs l.top l.functions
    l.done.state k → st ≡ flat k.state → GroupWalked text (functions_after text l.functions w.scope fs) fs
    (group_of text l.functions w.scope (functions_after text l.functions w.scope fs) fs) (l.functions + 1) base
    (record { top = k.top; height = 0; left = left; strings = strings; routine = false }) s₁ s₂ t t' (record { tall = l.done.tall; state = st }) d
    → n ≡ length fs → WalkedOn text (counted w l.functions) (T.functions fs) base strings s s₂ table table₁ t t' l
    (record { top = k.top; functions = l.functions + n; done = d })
unfolding after_declaration declared_by
walked-group {text} {table₁ = table₁} {t} {l = l} w fs a x e z q =
    let i = l.functions in let sc = functions_after text i w.scope fs in let gs = group_of text i w.scope sc fs in let r = z.result in
    record {
      stands = record {
        shows = keeps-shows r.keeps (omega arith) x.shows;
        globals = small-functions text i w.scope fs a.globals;
        free = x.taken;
        many = rw q;
        some = omega (arith, (x.did t).grows, ap (λ (m : State). m.label) e);
        low = z.low;
      };
      keeps = keeps_then x.keeps (keeps-lower x.up.0 r.keeps);
      up = (x.up.0, omega (arith, functions-long fs));
      yields = yields-as (2 * length (encode_functions fs)) refl refl (omega arith)
          (yields-then (i + 1) (omega arith) (yields-faults 0 refl (did-flat a.low e (x.did t)))
          (record { did = r.did; tall = z.tall; fits = z.fits }));
      starting = λ c ss lo h. rw (starts-in text i w.scope sc fs) (x.starting (nil-left (group_name_faults text i w.scope w.taken fs)
          (group_faults text sc fs) c) ss lo h);
    }

pub gave-group : {text s s₁ s₂ table table₁ t t' : List ℕ} {from end left strings n : ℕ} {l : Progress} {k : Known} {st : State} {d : Done}
    → CountsGroup s from end n → GroupNames text s s₁ table table₁ from end l.top l.functions l.done.state k → st ≡ flat k.state
    → GaveFs text s₁ s₂ from end (l.functions + 1) (record { top = k.top; height = 0; left = left; strings = strings; routine = false }) t t'
    (record { tall = l.done.tall; state = st }) d
    → GaveDeclaration text s s₂ table table₁ from end K.LET left strings t t' l (record { top = k.top; functions = l.functions + n; done = d })
gave-group {text} {s} {s₁} {s₂} {table} {table₁} {t} {t'} {from} {end} {left} {strings} {n} {l} c g e h = record {
  by = λ y. let u = grp y in let w = y.walk in let fs = u.functions in let x = ready-group y in let same : counted w l.functions ≡ w
      = ap (counted w) y.stands.many in
      rw u.same (rw same at (walked-group w fs y.stands (g.by x) e (h.by (ready-fs y g e) w.scope l.functions)
      (c.by fs x.lies x.ends)));
}

-- the same declaration by its tag
pub ready-let : {s table : List ℕ} {from end tag left strings : ℕ} {l : Progress} → tag ≡ K.LET
    → ReadyDeclaration s table from end tag left strings l → ReadyDeclaration s table from end K.LET left strings l
ready-let e y = rw e at y

pub gave-let : {text s s' table table' t t' : List ℕ} {from end tag left strings : ℕ} {l r : Progress} → tag ≡ K.LET
    → GaveDeclaration text s s' table table' from end K.LET left strings t t' l r
    → GaveDeclaration text s s' table table' from end tag left strings t t' l r
gave-let e x = rw e x
