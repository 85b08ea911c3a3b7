-- What is known of a resolved tree: constants are words, locals lie below the height, globals are below 400, functions and strings are
-- among those of the text. The height is that of the place.
use Rattle.laws.proofs.Basics.{ℕ, ◌+◌, ◌<◌, ◌≤◌, List, [], ◌∷◌}
use Rattle.language.specs.Resolved as R
use Rattle.language.specs.Resolved.{CaseLabel, Expr, Exprs, Target, Pairs, Cmd, Cmds, Cases, Locals, Body, case_count}
use Rattle.language.specs.Heights.{count, height_with}

unfoldable pub FormedCases : List CaseLabel → Type 0
FormedCases [] = Unit {0}
FormedCases (R.case v ∷ ls) = (v < 65536) × FormedCases ls
FormedCases (R.default ∷ ls) = FormedCases ls

module _ (functions strings : ℕ) where
  unfoldable mutual
    pub FormedE : ℕ → Expr → Type 0
    FormedE h (R.constant v) = v < 65536
    FormedE h (R.local k) = k < h
    FormedE h (R.global n) = n < 400
    FormedE h (R.function k) = k < functions
    FormedE h (R.string k) = k < strings
    FormedE h (R.address_of_local k) = k < h
    FormedE h (R.address_of_global n) = n < 400
    FormedE h (R.address_of_contents e) = FormedE h e
    FormedE h (R.address_of_index a b) = FormedE h a × FormedE (h + 1) b
    FormedE h (R.contents e) = FormedE h e
    FormedE h (R.index a b) = FormedE h a × FormedE (h + 1) b
    FormedE h (R.unary o e) = FormedE h e
    FormedE h (R.binary o a b) = FormedE h a × FormedE (h + 1) b
    FormedE h (R.call e es) = FormedA (h + 2) es × FormedE (h + 2 + count es) e
    FormedE h (R.valof c) = FormedC h c

    pub FormedA : ℕ → Exprs → Type 0
    FormedA h R.none = Unit {0}
    FormedA h (R.and e es) = FormedE h e × FormedA (h + 1) es

    pub FormedT : ℕ → Target → Type 0
    FormedT h (R.to_local k) = k < h + 1
    FormedT h (R.to_global n) = n < 400
    FormedT h (R.to_contents e) = FormedE (h + 1) e
    FormedT h (R.to_index a b) = FormedE (h + 1) a × FormedE (h + 2) b

    pub FormedP : ℕ → Pairs → Type 0
    FormedP h R.no_pairs = Unit {0}
    FormedP h (R.pair t e ps) = FormedE h e × FormedT h t × FormedP h ps

    pub FormedC : ℕ → Cmd → Type 0
    FormedC h R.empty = Unit {0}
    FormedC h (R.assign ps) = FormedP h ps
    FormedC h (R.perform e) = FormedE h e
    FormedC h (R.test e c d) = FormedE h e × FormedC h c × FormedC h d
    FormedC h (R.when sense e c) = FormedE h e × FormedC h c
    FormedC h (R.while sense e c) = FormedE h e × FormedC h c
    FormedC h (R.repeat c) = FormedC h c
    FormedC h (R.repeat_while sense c e) = FormedC h c × FormedE h e
    FormedC h (R.for first limit by c) = FormedE h first × FormedE (h + 1) limit × FormedC (h + 2) c × (by < 65536)
    FormedC h (R.switch e cs) = FormedE h e × FormedS h cs × (case_count cs ≤ 65535)
    FormedC h (R.resultis e) = FormedE h e
    FormedC h R.break = Unit {0}
    FormedC h R.loop = Unit {0}
    FormedC h R.endcase = Unit {0}
    FormedC h R.return = Unit {0}
    FormedC h R.finish = Unit {0}
    FormedC h (R.block ls cs) = FormedL h ls × FormedB (height_with h ls) cs

    -- the commands of a block, and those after INTO
    pub FormedB : ℕ → Cmds → Type 0
    FormedB h R.no_cmds = Unit {0}
    FormedB h (R.and_cmd c cs) = FormedC h c × FormedB h cs

    pub FormedS : ℕ → Cases → Type 0
    FormedS h R.no_cases = Unit {0}
    FormedS h (R.cases ls c cs) = FormedC h c × FormedS h cs × FormedCases ls

    pub FormedL : ℕ → Locals → Type 0
    FormedL h R.no_locals = Unit {0}
    FormedL h (R.vector n ls) = FormedL (h + 2 + n) ls × (n < 4096)
    FormedL h (R.value e ls) = FormedE h e × FormedL (h + 1) ls

abbrev pub FormedF : (functions strings h : ℕ) → Body → Type 0
FormedF f s h (R.expression e) = FormedE f s h e
FormedF f s h (R.routine c) = FormedC f s h c
