-- Sums over the items of the code, where instructions and constants count alike, and the labels by a function u that grows: a part whose
-- first label is n has just the labels from n up to some m, each once, so that they add up to u m - u n. With u n = n they are counted, with
-- u n whether n has passed some label that label is.
use Rattle.laws.proofs.Basics.{ℕ, suc, ◌+◌, ◌-◌, ◌*◌, ◌≤◌, ◌≡◌, refl, ap, List, [], ◌∷◌, ◌++◌, length, eqb, arith}
use Rattle.laws.proofs.Cases.{by_cond}
use Rattle.items.specs.Item as I
use Rattle.items.specs.Item.{Item, label, instruction, constant}
use Rattle.assembler.specs.Words.{size, short}
use Rattle.language.specs.Kinds.{MINUS, NOT}
use Rattle.language.specs.Resolved as R
use Rattle.language.specs.Resolved.{CaseLabel, Expr, Exprs, Target, Pairs, Cmd, Cmds, Cases, Locals, Body, Fun, Start, nowhere, in_global, cases_of}
use Rattle.language.specs.Resolved.{case_count}
use Rattle.language.specs.Heights.{count, height_with}
use Rattle.code.specs.Generate.{Exits, in_loop, in_switch, in_valof, monadic_act, commands_in, expr_labels, exprs_labels, target_labels, pairs_labels}
use Rattle.code.specs.Generate.{cmd_labels, cmds_labels, cases_labels, locals_labels, body_labels, pairs_of, table_of, expr_code, exprs_code}
use Rattle.code.specs.Generate.{target_code}
use Rattle.code.specs.Generate.{pairs_code, cmd_code, cmds_code, cases_code, locals_code, body_code, functions_code, strings_code, start_in}
use Rattle.code.specs.Generate.{starts_code}
use Rattle.code.specs.Generate.{items_of}
use Rattle.code.proofs.WordCounts.{expr_words, exprs_words, target_words, pairs_words, cmd_words, cmds_words, cases_words, locals_words, body_words}

-- the inner labels of functions
unfoldable pub fun_labels : List Fun → ℕ
fun_labels [] = 0
fun_labels (f ∷ fs) = body_labels f.body + fun_labels fs

-- their words, with the instruction that returns
unfoldable pub fun_words : List Fun → ℕ
fun_words [] = 0
fun_words (f ∷ fs) = body_words f.body + 2 + fun_words fs

-- what strings count
unfoldable pub text_sum : (List ℕ → ℕ) → List (List ℕ) → ℕ
text_sum g [] = 0
text_sum g (cs ∷ ss) = g cs + text_sum g ss

-- what an instruction counts, half of it; what strings count, and starts
module _ (a : ℕ) (g : List ℕ → ℕ) (k : ℕ) (u : ℕ → ℕ) where
  abbrev pub one : Item → ℕ
  one (label n) = u (suc n) - u n
  one (instruction f i b x) = 2 * a
  one (constant x) = 2 * a
  one (I.string cs) = g cs
  one (I.global n m) = k

  unfoldable pub sum : List Item → ℕ
  sum [] = 0
  sum (x ∷ xs) = one x + sum xs

  pub sum_both : (xs ys : List Item) → sum (xs ++ ys) ≡ sum xs + sum ys
  unfolding sum
  sum_both [] ys = omega arith
  sum_both (x ∷ xs) ys = omega (arith, sum_both xs ys)

  module _ (up : (x y : ℕ) → x ≤ y → u x ≤ u y) where
    -- a sum z of all the labels from n up to m, and words w
    record Has (n m w z : ℕ) : Type 0 where
      least : u m ≤ z + u n
      most : z + u n ≤ a * w + u m

    still : (n m : ℕ) → n ≡ m → u n ≡ u m
    still n m e = ap u e

    own : (n m : ℕ) → suc n ≡ m → one (label n) + u n ≡ u m
    own n m e = omega (arith, up n (suc n) (omega arith), still (suc n) m e)

    sum-monadic : (o : ℕ) → sum (monadic_act o) ≤ 2 * a
    unfolding monadic_act sum
    sum-monadic o =
        by_cond (λ xs. sum xs ≤ 2 * a) (eqb o MINUS) (omega arith) (by_cond (λ xs. sum xs ≤ 2 * a) (eqb o NOT) (omega arith) (omega arith))

    sum-pairs-of : (n : ℕ) (ls : List CaseLabel) → sum (pairs_of n ls) ≡ a * (4 * cases_of ls)
    unfolding pairs_of cases_of sum
    sum-pairs-of n [] = omega arith
    sum-pairs-of n (R.case v ∷ ls) = omega (arith, sum-pairs-of n ls)
    sum-pairs-of n (R.default ∷ ls) = sum-pairs-of n ls

    sum-table : (n : ℕ) (cs : Cases) → sum (table_of n cs) ≡ a * (4 * case_count cs)
    unfolding table_of case_count sum
    sum-table n R.no_cases = omega arith
    sum-table n (R.cases ls c cs) = omega (arith, sum_both (pairs_of n ls) (table_of (suc n) cs), sum-pairs-of n ls, sum-table (suc n) cs)

    module _ (strings : ℕ) where
      mutual
        unfolding expr_code expr_labels expr_words commands_in sum

        m-e : (h n : ℕ) (e : Expr) (m : ℕ) → n + expr_labels e ≡ m → Has n m (expr_words e) (sum (expr_code strings h n e))
        m-e h n (R.constant v) m z = omega (arith, still n m (omega arith))
        m-e h n (R.local j) m z = omega (arith, still n m (omega arith))
        m-e h n (R.global j) m z = omega (arith, still n m (omega arith))
        m-e h n (R.function j) m z = omega (arith, still n m (omega arith))
        m-e h n (R.string j) m z = omega (arith, still n m (omega arith))
        m-e h n (R.address_of_local j) m z = omega (arith, still n m (omega arith))
        m-e h n (R.address_of_global j) m z = omega (arith, still n m (omega arith))
        m-e h n (R.address_of_contents e) m z = m-e h n e m z
        m-e h n (R.address_of_index x y) m z = simp sum_both (omega (arith, m-e h n x _ refl, m-e (h + 1) (n + expr_labels x) y m (omega arith)))
        m-e h n (R.contents e) m z = simp sum_both (omega (arith, m-e h n e m z))
        m-e h n (R.index x y) m z = simp sum_both (omega (arith, m-e h n x _ refl, m-e (h + 1) (n + expr_labels x) y m (omega arith)))
        m-e h n (R.unary o e) m z = simp sum_both (omega (arith, m-e h n e m z, sum-monadic o))
        m-e h n (R.binary o x y) m z = simp sum_both (omega (arith, m-e h n x _ refl, m-e (h + 1) (n + expr_labels x) y m (omega arith)))
        m-e h n (R.call e es) m z =
            simp sum_both (omega (arith, m-a (h + 2) n es _ refl, m-e (h + 2 + count es) (n + exprs_labels es) e m (omega arith)))
        m-e h n (R.valof c) m z = simp sum_both (omega (arith, m-c h (n + 1) (in_valof n) c m (omega arith), own n (n + 1) (omega arith)))

        m-a : (h n : ℕ) (es : Exprs) (m : ℕ) → n + exprs_labels es ≡ m → Has n m (exprs_words es) (sum (exprs_code strings h n es))
        m-a h n R.none m z = omega (arith, still n m (omega arith))
        m-a h n (R.and e es) m z = simp sum_both (omega (arith, m-e h n e _ refl, m-a (h + 1) (n + expr_labels e) es m (omega arith)))

        m-t : (h n : ℕ) (t : Target) (m : ℕ) → n + target_labels t ≡ m → Has n m (target_words t) (sum (target_code strings h n t))
        m-t h n (R.to_local j) m z = omega (arith, still n m (omega arith))
        m-t h n (R.to_global j) m z = omega (arith, still n m (omega arith))
        m-t h n (R.to_contents e) m z = simp sum_both (omega (arith, m-e (h + 1) n e m z))
        m-t h n (R.to_index x y) m z = simp sum_both (omega (arith, m-e (h + 1) n x _ refl, m-e (h + 2) (n + expr_labels x) y m (omega arith)))

        m-p : (h n : ℕ) (ps : Pairs) (m : ℕ) → n + pairs_labels ps ≡ m → Has n m (pairs_words ps) (sum (pairs_code strings h n ps))
        m-p h n R.no_pairs m z = omega (arith, still n m (omega arith))
        m-p h n (R.pair t e ps) m z = simp sum_both
            (omega (arith, m-e h n e _ refl, m-t h (n + expr_labels e) t _ refl, m-p h (n + expr_labels e + target_labels t) ps m (omega arith)))

        m-c : (h n : ℕ) (x : Exits) (c : Cmd) (m : ℕ) → n + cmd_labels c ≡ m → Has n m (cmd_words c) (sum (cmd_code strings h n x c))
        m-c h n x R.empty m z = omega (arith, still n m (omega arith))
        m-c h n x (R.assign ps) m z = m-p h n ps m z
        m-c h n x (R.perform e) m z = m-e h n e m z
        m-c h n x (R.test e c d) m z = simp sum_both (omega (
          arith,
          m-e h (n + 2) e _ refl,
          m-c h (n + 2 + expr_labels e) x c _ refl,
          m-c h (n + 2 + expr_labels e + cmd_labels c) x d m (omega arith),
          own n (n + 1) (omega arith),
          own (n + 1) (n + 2) (omega arith),
        ))
        m-c h n x (R.when sense e c) m z =
            simp sum_both (omega (arith, m-e h (n + 1) e _ refl, m-c h (n + 1 + expr_labels e) x c m (omega arith), own n (n + 1) (omega arith)))
        m-c h n x (R.while sense e c) m z = simp sum_both (omega (
          arith,
          m-e h (n + 2) e _ refl,
          m-c h (n + 2 + expr_labels e) (in_loop n (n + 1) x) c m (omega arith),
          own n (n + 1) (omega arith),
          own (n + 1) (n + 2) (omega arith),
        ))
        m-c h n x (R.repeat c) m z = simp sum_both (omega (
          arith,
          m-c h (n + 3) (in_loop (n + 1) (n + 2) x) c m (omega arith),
          own n (n + 1) (omega arith),
          own (n + 1) (n + 2) (omega arith),
          own (n + 2) (n + 3) (omega arith),
        ))
        m-c h n x (R.repeat_while sense c e) m z = simp sum_both (omega (
          arith,
          m-c h (n + 3) (in_loop (n + 1) (n + 2) x) c _ refl,
          m-e h (n + 3 + cmd_labels c) e m (omega arith),
          own n (n + 1) (omega arith),
          own (n + 1) (n + 2) (omega arith),
          own (n + 2) (n + 3) (omega arith),
        ))
        m-c h n x (R.for first limit by c) m z = simp sum_both (omega (
          arith,
          m-e h (n + 3) first _ refl,
          m-e (h + 1) (n + 3 + expr_labels first) limit _ refl,
          m-c (h + 2) (n + 3 + expr_labels first + expr_labels limit) (in_loop (n + 1) (n + 2) x) c m (omega arith),
          own n (n + 1) (omega arith),
          own (n + 1) (n + 2) (omega arith),
          own (n + 2) (n + 3) (omega arith),
        ))
        m-c h n x (R.switch e cs) m z = let t : ℕ = n + expr_labels e + 1 in simp sum_both (omega (
          arith,
          m-e h n e _ refl,
          sum-table t cs,
          m-s h t (t + commands_in cs) (in_switch (n + expr_labels e) x) cs _ m refl (omega arith),
          own (n + expr_labels e) t (omega arith),
        ))
        m-c h n x (R.resultis e) m z = simp sum_both (omega (arith, m-e h n e m z))
        m-c h n x R.break m z = omega (arith, still n m (omega arith))
        m-c h n x R.loop m z = omega (arith, still n m (omega arith))
        m-c h n x R.endcase m z = omega (arith, still n m (omega arith))
        m-c h n x R.return m z = omega (arith, still n m (omega arith))
        m-c h n x R.finish m z = omega (arith, still n m (omega arith))
        m-c h n x (R.block ls cs) m z =
            simp sum_both (omega (arith, m-l h n ls _ refl, m-b (height_with h ls) (n + locals_labels ls) x cs m (omega arith)))

        m-b : (h n : ℕ) (x : Exits) (cs : Cmds) (m : ℕ) → n + cmds_labels cs ≡ m → Has n m (cmds_words cs) (sum (cmds_code strings h n x cs))
        m-b h n x R.no_cmds m z = omega (arith, still n m (omega arith))
        m-b h n x (R.and_cmd c cs) m z = simp sum_both (omega (arith, m-c h n x c _ refl, m-b h (n + cmd_labels c) x cs m (omega arith)))

        -- the commands' own labels, and those in them
        m-s : (h t n : ℕ) (x : Exits) (cs : Cases) (l m : ℕ) → t + commands_in cs ≡ l → n + cases_labels cs ≡ m
            → (u l + u m ≤ sum (cases_code strings h t n x cs) + u t + u n)
            × (sum (cases_code strings h t n x cs) + u t + u n ≤ a * cases_words cs + u l + u m)
        m-s h t n x R.no_cases l m y z = omega (arith, still t l (omega arith), still n m (omega arith))
        m-s h t n x (R.cases ls c cs) l m y z = simp sum_both
            (omega (arith, own t (suc t) refl, m-c h n x c _ refl, m-s h (suc t) (n + cmd_labels c) x cs l m (omega arith) (omega arith)))

        m-l : (h n : ℕ) (ls : Locals) (m : ℕ) → n + locals_labels ls ≡ m → Has n m (locals_words ls) (sum (locals_code strings h n ls))
        m-l h n R.no_locals m z = omega (arith, still n m (omega arith))
        m-l h n (R.vector j ls) m z = omega (arith, m-l (h + 2 + j) n ls m z)
        m-l h n (R.value e ls) m z = simp sum_both (omega (arith, m-e h n e _ refl, m-l (h + 1) (n + expr_labels e) ls m (omega arith)))

      m-body : (h n : ℕ) (b : Body) (m : ℕ) → n + body_labels b ≡ m → Has n m (body_words b) (sum (body_code strings h n b))
      unfolding body_code body_labels
      m-body h n (R.expression e) m z = m-e h n e m z
      m-body h n (R.routine c) m z = m-c h n _ c m z

      pub sum-functions : (t n : ℕ) (fs : List Fun) (l m : ℕ) → t + length fs ≡ l → n + fun_labels fs ≡ m
          → (u l + u m ≤ sum (functions_code strings t n fs) + u t + u n)
          × (sum (functions_code strings t n fs) + u t + u n ≤ a * fun_words fs + u l + u m)
      unfolding functions_code fun_labels fun_words sum
      sum-functions t n [] l m y z = omega (arith, still t l (omega arith), still n m (omega arith))
      sum-functions t n (f ∷ fs) l m y z = simp sum_both (omega (
        arith,
        own t (suc t) refl,
        m-body (2 + f.parameters) n f.body _ refl,
        sum-functions (suc t) (n + body_labels f.body) fs l m (omega arith) (omega arith),
      ))

    sum-strings : (t : ℕ) (ss : List (List ℕ)) (l : ℕ) → t + length ss ≡ l → sum (strings_code t ss) + u t ≡ text_sum g ss + u l
    unfolding strings_code text_sum sum
    sum-strings t [] l y = omega (arith, still t l (omega arith))
    sum-strings t (cs ∷ ss) l y = omega (arith, own t (suc t) refl, sum-strings (suc t) ss l (omega arith))

    sum-starts : (t : ℕ) (fs : List Fun) → sum (starts_code t fs) ≤ k * length fs
    unfolding starts_code sum
    sum-starts t [] = omega arith
    sum-starts t (f ∷ fs) = go f.start (sum-starts (suc t) fs)
      where
        go : (s : Start) → sum (starts_code (suc t) fs) ≤ k * length fs → sum (start_in s t (starts_code (suc t) fs)) ≤ k * suc (length fs)
        go nowhere w = omega arith
        go (in_global n) w = omega arith

    -- all labels from 1 on
    pub sum-items : (fs : List Fun) (ss : List (List ℕ)) (m : ℕ) → suc (length fs) + length ss + fun_labels fs ≡ m
        → (u m ≤ sum (items_of fs ss) + u 1) × (sum (items_of fs ss) + u 1 ≤ a * fun_words fs + text_sum g ss + k * length fs + u m)
    unfolding items_of
    sum-items fs ss m z = let l : ℕ = suc (length fs) in simp sum_both (omega (
      arith,
      sum-functions l 1 (l + length ss) fs l m (omega arith) z,
      sum-strings l ss (l + length ss) refl,
      sum-starts 1 fs,
    ))

-- ---- three of them

-- labels
abbrev pub marks : (ℕ → ℕ) → List Item → ℕ
marks u xs = sum 0 (λ _. 0) 0 u xs

no_text : (ss : List (List ℕ)) → text_sum (λ _. 0) ss ≡ 0
unfolding text_sum
no_text [] = refl
no_text (cs ∷ ss) = omega (arith, no_text ss)

pub items-marks : (u : ℕ → ℕ) → ((x y : ℕ) → x ≤ y → u x ≤ u y) → (fs : List Fun) (ss : List (List ℕ)) (m : ℕ)
    → suc (length fs) + length ss + fun_labels fs ≡ m → marks u (items_of fs ss) + u 1 ≡ u m
items-marks u up fs ss m z = omega (arith, sum-items 0 (λ _. 0) 0 u up fs ss m z, no_text ss)

-- program words, a constant's counted twice
abbrev pub most : Item → ℕ
most x = one 1 (λ cs. size (I.string cs)) 0 (λ _. 0) x

abbrev pub weigh : List Item → ℕ
weigh xs = sum 1 (λ cs. size (I.string cs)) 0 (λ _. 0) xs

pub size-most : (x : Item) → size x ≤ most x
unfolding size
size-most (label n) = omega arith
size-most (instruction f i b x) = by_cond (λ n. n ≤ 2) (short x) (omega arith) (omega arith)
size-most (constant x) = omega arith
size-most (I.string cs) = omega arith
size-most (I.global n m) = omega arith

-- strings and starts: the code of functions has none
pub no-others : (strings t n : ℕ) (fs : List Fun) → sum 0 (λ _. 1) 1 (λ _. 0) (functions_code strings t n fs) ≤ 0
no-others strings t n fs = omega (arith, sum-functions 0 (λ _. 1) 1 (λ _. 0) (λ _ _ _. omega arith) strings t n fs _ _ refl refl)
