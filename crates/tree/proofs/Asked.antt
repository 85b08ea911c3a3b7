-- What a call asked is known after it: so a caller finds it there, and need not go back to where it was shown.
use Prim.Native.Nat.{ℕ}
use mathlib.Core.List.{List, [], ◌∷◌}
use seplogic.Ra.Ura.{Ura}
use mir.Val.{Val}
use mir.Syntax.{Symbol, fn₀}
use prog.Wp.{Tables}
use types.Logic.{Logic, sem}
use base.Logic.{SProp, sep, ex, ex_e, ex_i, via, mono_l, mono_r, snd∗}
use contract.Monad.{fact, fact_use, fact_mono}
use denote.Signature.{Signature}
use denote.Triple.Entry.{on_entry}
use denote.Triple.Spec.{Back}
use denote.Triple.Clauses.{Ended, Lasts, at_exit, lasts}
use denote.Triple.Walked.{Fit}
use denote.Triple.Bound.{Bound}
use borrow.Fn.Kind.{ParamKind, ResultKind}
use borrow.Fn.Kinds.{res_t, In, Out, sig_of, ended_of, stays}
use borrow.Fn.Plain.{known_of, Known}

-- a function that is called: the kinds of what it takes and gives, what it asks, what is learnt of it, and its name
pub record Callee : Type 3 where
  pub n : ℕ
  pub ps : List (ParamKind n)
  pub r : ResultKind n
  pub asks : In n ps
  pub learnt : Out n ps r
  pub name : Symbol

abbrev pub callee : {n : ℕ} (ps : List (ParamKind n)) (r : ResultKind n) → In n ps → Out n ps r → Symbol → Callee
callee {n} ps r asks learnt name = record { n = n; ps = ps; r = r; asks = asks; learnt = learnt; name = name }

abbrev pub with-asked : Callee → Callee
with-asked c = callee c.ps c.r c.asks (λ κs a z e. c.asks κs a × c.learnt κs a z e) c.name

module _ {M : Type 1} {𝓤 : Ura M} (𝓛 : Logic 𝓤) (𝓣 : Tables 𝓤 𝓛.H) where
  abbrev Knows : Callee → Type 1
  Knows c = Known 𝓛 𝓣 c.n c.ps c.r c.asks c.learnt (fn₀ c.name)

  module _ (c : Callee) where
    abbrev S : Signature
    S = sig_of c.n c.ps c.r

    abbrev ends : Ended
    ends = ended_of c.n c.ps c.r

    module _ (R : Out c.n c.ps c.r) (x : Bound 𝓛 S) (v : Val) (z : (res_t c.r x.0).Denot) where
      -- what holds after the call, where its result and the last values are known
      abbrev After : Lasts ends x.0 x.3 → SProp 𝓤
      After ws = sep 𝓤 (sep 𝓤 (sem 𝓛 (lasts ends x.0 x.3 ws))
          (fact 𝓤 (Fit ends (stays c.ps) x.0 x.3 ws × R x.0 x.3 z (at_exit ends x.0 x.3 ws)))) (Back 𝓛 S x v z)

    remembers : Knows c → Knows (with-asked c)
    remembers known y = let x : Bound 𝓛 S = y.0 in let before = known_of 𝓛 c.n c.ps c.r c.asks c.learnt in
        let after = After (with-asked c).learnt x in
        fact_use 𝓤 (c.asks x.0 x.3) (snd∗ 𝓤 (on_entry 𝓛 S x.0 x.1 x.3 x.4) (fact 𝓤 (c.asks x.0 x.3))) (λ p.
        via 𝓤 (𝓣.C (fn₀ c.name) (before.args y) (before.post y)) (known y) (𝓣.mono (fn₀ c.name) (before.args y) (before.post y)
        ((known_of 𝓛 c.n c.ps c.r c.asks (with-asked c).learnt).post y)
        (λ v. 𝓛.laws.⇛_mono _ _ (ex_e 𝓤 _ (λ z. ex_e 𝓤 _ (λ ws. via 𝓤 (after v z ws)
        (mono_l 𝓤 (Back 𝓛 S x v z) (mono_r 𝓤 (sem 𝓛 (lasts ends x.0 x.3 ws)) (fact_mono 𝓤 _ _ (λ h. (h.0, (p, h.1))))))
        (via 𝓤 (ex 𝓤 (after v z)) (ex_i 𝓤 (after v z) ws) (ex_i 𝓤 (λ (z' : (res_t c.r x.0).Denot). ex 𝓤 (after v z')) z))))))))

  -- what is shown where all the callees are known
  abbrev Knowing : (Callee → Callee) → List Callee → Type 1 → Type 1
  Knowing f [] T = T
  Knowing f (c ∷ cs) T = Knows (f c) → Knowing f cs T

knows : {M : Type 1} {𝓤 : Ura M} (𝓛 : Logic 𝓤) (𝓣 : Tables 𝓤 𝓛.H) (T : Type 1) (cs : List Callee)
    → Knowing 𝓛 𝓣 with-asked cs T → Knowing 𝓛 𝓣 (λ c. c) cs T
knows 𝓛 𝓣 T [] t = t
knows 𝓛 𝓣 T (c ∷ cs) f = λ known. knows 𝓛 𝓣 T cs (f (remembers 𝓛 𝓣 c known))

pub knowing :
    {M : Type 1} (cs : List Callee) (T : (𝓤 : Ura M) (𝓛 : Logic 𝓤) → Tables 𝓤 𝓛.H → Type 1)
    → ((𝓤 : Ura M) (𝓛 : Logic 𝓤) (𝓣 : Tables 𝓤 𝓛.H) → Knowing 𝓛 𝓣 with-asked cs (T 𝓤 𝓛 𝓣))
    → (𝓤 : Ura M) (𝓛 : Logic 𝓤) (𝓣 : Tables 𝓤 𝓛.H) → Knowing 𝓛 𝓣 (λ c. c) cs (T 𝓤 𝓛 𝓣)
knowing cs T f 𝓤 𝓛 𝓣 = knows 𝓛 𝓣 (T 𝓤 𝓛 𝓣) cs (f 𝓤 𝓛 𝓣)
