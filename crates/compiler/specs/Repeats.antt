-- REPEAT forms: what the walk writes around a command that has them. All top labels stand before the command, those of the outermost (last) form
-- first; the forms follow it, the innermost first, whose labels start at `own`.
use Rattle.std.specs.Prelude.{ℕ, zero, suc, ◌+◌, ◌*◌, ◌-◌, List, [], ◌∷◌, ◌++◌, length, eqb}
use Rattle.items.specs.Item as I
use Rattle.language.specs.Tree as T
use Rattle.language.specs.Tree.{Repeats}
use Rattle.language.specs.Names.{Scope}
use Rattle.language.specs.Resolve.{expression}
use Rattle.language.specs.Heights.{of_expr}
use Rattle.code.specs.Generate as G
use Rattle.tree.specs.Encoding.{encode}
use Rattle.compiler.specs.declared.steps.Here.{Here}
use Rattle.compiler.specs.Walked.{Code}

unfoldable pub forms : Repeats → ℕ
forms T.no_repeats = 0
forms (T.repeat rs) = suc (forms rs)
forms (T.repeat_on w e rs) = suc (forms rs)

-- the entries of their conditions
unfoldable pub conditions : Repeats → ℕ
conditions T.no_repeats = 0
conditions (T.repeat rs) = conditions rs
conditions (T.repeat_on w e rs) = length (encode e) + conditions rs

unfoldable pub tops_code : (n k : ℕ) → List I.Item
tops_code n zero = []
tops_code n (suc k) = I.label n ∷ tops_code (n + 3) k

unfoldable pub forms_code : (text : List ℕ) → Scope → (strings h own : ℕ) → Repeats → ℕ → List I.Item
forms_code text sc strings h own T.no_repeats n = []
forms_code text sc strings h own (T.repeat rs) n = I.label (own + 1) ∷ G.JL own ∷ I.label (own + 2) ∷ forms_code text sc strings h (own - 3) rs n
forms_code text sc strings h own (T.repeat_on w e rs) n = let E = expression text sc h e in
    I.label (own + 1) ∷ (G.expr_code strings h n E
    ++ (G.jump_when (eqb w 21) own ∷ I.label (own + 2) ∷ forms_code text sc strings h (own - 3) rs (n + G.expr_labels E)))

unfoldable pub forms_heights : (text : List ℕ) → Scope → (h : ℕ) → Repeats → List ℕ
forms_heights text sc h T.no_repeats = []
forms_heights text sc h (T.repeat rs) = forms_heights text sc h rs
forms_heights text sc h (T.repeat_on w e rs) = of_expr h (expression text sc h e) ++ forms_heights text sc h rs

unfoldable pub forms_labels : (text : List ℕ) → Scope → (h : ℕ) → Repeats → ℕ
forms_labels text sc h T.no_repeats = 0
forms_labels text sc h (T.repeat rs) = forms_labels text sc h rs
forms_labels text sc h (T.repeat_on w e rs) = G.expr_labels (expression text sc h e) + forms_labels text sc h rs

abbrev pub forms_says : List ℕ → Here → Scope → (own : ℕ) → Repeats → ℕ → Code
forms_says text here sc own rs n = record {
  items = forms_code text sc here.strings here.height own rs n;
  heights = forms_heights text sc here.height rs;
  labels = forms_labels text sc here.height rs;
}

-- where BREAK and LOOP go in a command with k forms whose labels start at n
abbrev pub innermost : (n k : ℕ) → G.Exits → G.Exits
innermost n zero x = x
innermost n (suc k) x = G.in_loop (n + 3 * k + 1) (n + 3 * k + 2) x
