-- Names declared one after another.
use Rattle.laws.proofs.Basics.{ℕ, ◌+◌, ◌*◌, ◌^◌, ◌<◌, ◌≤◌, ◌≡◌, refl, sym, ap, subst, ◌∙◌, List, [], ◌∷◌, length, get_or, arith}
use Rattle.compiler.proofs.Language.{Name, Scope, declared, in_block, declare_all, twice, encode_name, encode_names, FineName, FineNames}
use Rattle.language.specs.Names as N
use Rattle.compiler.proofs.Vocabulary.{Shows, Keeps, PushedName, Told, code, found, name_at, State, Did, Faulted, Holds, ReadyNames, Declares}
use Rattle.compiler.proofs.Vocabulary.{Again}
use Rattle.compiler.proofs.Common.{keeps_then, keeps-lower, keeps-name, name-there, means-unknown, pushed-keeps, pushed-name, did_none}
use Rattle.compiler.proofs.Common.{did_then, did-as, same_refl, second, Rest, rest_all}
use Rattle.compiler.specs.Commands.{nothing}

pub again-not : {m place : ℕ} {st : State} → m ≡ 0 → Again m place st st
again-not z = record { by = λ f e t. rw (means-unknown f e z) (did_none 0) }

pub again-so : {m place : ℕ} {st r : State} → (m ≡ 0 → ⊥) → Faulted place 9 st r → Again m place st r
unfolding found
again-so n f = record { by = elim [ N.unknown ↦ λ q t. absurd (n q) | N.known w ↦ λ q t. f.by nothing t ] }

-- ---- the loop

module _ (text : List ℕ) {s₀ : List ℕ} {from end top height : ℕ} (st₀ : State) where
  pub record NamesPart (y : ReadyNames s₀ from end top height) (s : List ℕ) (at k : ℕ) (st : State) : Type 0 where
    pub left : Rest encode_names y.base top s₀ s end at
    pub scope : Scope
    pub shows : Shows s (top + 2 * k) scope
    pub many : k + length left.rest ≡ length y.names
    pub fine : FineNames left.rest
    pub same : declare_all y.scope height y.names ≡ declare_all scope (height + k) left.rest
    pub finish : (t : List ℕ) (st' : State) → Did (twice text scope (height + k) left.rest) nothing 0 t t st st'
        → Did (twice text y.scope height y.names) nothing 0 t t st₀ st'

  pub names-begin : (y : ReadyNames s₀ from end top height) → NamesPart y s₀ from 0 st₀
  names-begin y = let a : top ≡ top + 2 * 0 = omega arith in let b : height ≡ height + 0 = omega arith in
      record {
        left = rest_all y.names y.lies y.ends y.above;
        scope = y.scope;
        shows = rw a at y.shows;
        many = omega arith;
        fine = y.fine;
        same = cc;
        finish = λ t st' d. rw b d;
      }

pub record IsNames (s : List ℕ) (at end : ℕ) (ns : List Name) : Type 0 where
  pub name : Name
  pub more : List Name
  pub same : ns ≡ name ∷ more
  pub is : name_at s at ≡ name
  pub lies_more : Holds s (at + 4) (encode_names more)
  pub ends : end ≡ at + 4 + length (encode_names more)

pub is-names : {s : List ℕ} {at end : ℕ} (ns : List Name) → Holds s at (encode_names ns) → end ≡ at + length (encode_names ns) → at < end
    → IsNames s at end ns
unfolding encode_names encode_name
is-names [] h e l = absurd (omega arith)
is-names {s} {at} (n ∷ ns) h e l = record {
  name = n;
  more = ns;
  same = refl;
  is = name-there s at (h.at 1 (omega arith)) (h.at 2 (omega arith));
  lies_more = second (0 ∷ n.width ∷ n.place ∷ 59 ∷ []) (encode_names ns) (at + 4) h refl;
  ends = omega arith;
}

no_names : (at : ℕ) {end : ℕ} (ns : List Name) → end ≡ at + length (encode_names ns) → end < at + 4 → ns ≡ []
unfolding encode_names encode_name
no_names at [] e l = refl
no_names at (n ∷ ns) e l = absurd (omega arith)

module _ (text : List ℕ) {s₀ : List ℕ} {from end top height : ℕ} {st₀ : State} where
  pub names-next : {s s₁ : List ℕ} {at at' m place x : ℕ} (k : ℕ) {st r : State} → at < end → at' ≡ at + 4 → Told text s (top + 2 * k) at m → place ≡ get_or s (at + 2) 0
      → Again m place st r → PushedName s s₁ (top + 2 * k) at x → x ≡ (height + k) * 4 + 1
      → (y : ReadyNames s₀ from end top height) → NamesPart text st₀ y s at k st → NamesPart text st₀ y s₁ at' (k + 1) r
  unfolding declare_all twice code FineNames
  names-next {s} {s₁} {at} k {st} {r} l ea told ep ag pu ex y p = let u = is-names p.left.rest p.left.lies p.left.ends l in
      let n : name_at s at ≡ u.name = keeps-name p.left.keeps (omega arith) ∙ u.is in
      let c : k + 1 + length u.more ≡ length y.names = omega (arith, ap length u.same) in let rm : top + 2 * k + 2 ≤ y.base = omega arith in
      let lg : y.base ≤ length s = omega arith in let w = N.local (height + k) in let hk : height + (k + 1) ≡ height + k + 1 = omega arith in
      let tk : top + 2 * k + 2 ≡ top + 2 * (k + 1) = omega arith in let sc = p.scope in
      let kept : Keeps y.base top s s₁ = keeps-lower (omega arith) (pushed-keeps pu.pushed rm lg) in let sc' = declared sc u.name w in
      record {
        left = record { rest = u.more; lies = rw ea u.lies_more; ends = rw ea u.ends; above = omega arith; keeps = keeps_then p.left.keeps kept };
        scope = sc';
        shows = rw tk at (rw n at (pushed-name pu rm lg w p.shows ex tt));
        many = c;
        fine = (subst FineNames u.same p.fine).1;
        same = cc;
        finish = λ t st' d. p.finish t st' (rw u.same (did-as nothing 0
            (did_then (rw (ep ∙ ap (λ (z : Name). z.place) n) at (ag.by (in_block text sc u.name) (rw (told.by sc p.shows, n)) t))
            (rw hk at d)) same_refl (λ v e. refl) (omega arith)));
      }

  pub names-end : {s : List ℕ} {at : ℕ} (k : ℕ) {st : State} → end < at + 4 → ((y : ReadyNames s₀ from end top height) → NamesPart text st₀ y s at k st)
      → Declares text s₀ s from end top height st₀ st
  unfolding declare_all twice encode_names
  names-end {s} {at} k {st} l q = record {
    by = λ y. let p = q y in let e = no_names at p.left.rest p.left.ends l in let c : top + 2 * k ≡ top + 2 * length y.names
        = omega (arith, ap length e) in record {
          shows = rw c at (rw (← (p.same ∙ ap (declare_all p.scope (height + k)) e)) at p.shows);
          keeps = p.left.keeps;
          did = λ t. p.finish t st (rw e (did_none 0));
        };
  }

  pub names-fit : {s : List ℕ} {at : ℕ} (k : ℕ) {st : State} → at < end → (y : ReadyNames s₀ from end top height) → NamesPart text st₀ y s at k st
      → (top + 2 * k + 2 ≤ length s) × (height + k < 2 ^ 29) × (at < 2 ^ 32) × (top + 2 * k + 2 ≤ y.base) × FineName (name_at s at)
  unfolding FineNames
  names-fit k l y p = let u = is-names p.left.rest p.left.lies p.left.ends l in
      let c : k + 1 + length u.more ≡ length y.names = omega (arith, ap length u.same) in
      let f = subst FineName (sym (keeps-name p.left.keeps (omega arith) ∙ u.is)) (subst FineNames u.same p.fine).0 in
      (omega arith, omega arith, omega arith, omega arith, f)
