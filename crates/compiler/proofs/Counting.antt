-- How many items a list in scratch has: the loop over them, and lists of expressions, REPEAT forms and commands.
use Rattle.laws.proofs.Basics.{ℕ, suc, ◌+◌, ◌<◌, ◌≤◌, ◌≡◌, refl, sym, ap, ◌∙◌, List, [], ◌∷◌, ◌++◌, length, get_or, length-append, arith}
use Rattle.language.specs.Tree as T
use Rattle.compiler.proofs.Language.{Expressions, Repeats, Commands, Scope, case_list, encode, encode_expressions, encode_repeats, encode_command}
use Rattle.compiler.proofs.Language.{encode_commands}
use Rattle.code.specs.Generate.{commands_in}
use Rattle.compiler.specs.Repeats.{forms}
use Rattle.compiler.specs.Walks.{Holds, Items, no_item, an_item, Counts}
use Rattle.compiler.proofs.Common.{second}

-- of m items n are passed
pub record CountPart (s : List ℕ) (end at n m : ℕ) : Type 0 where
  pub rest : ℕ
  pub items : Items s end at rest
  pub sum : m ≡ n + rest

abbrev pub Counting : (s : List ℕ) (from end at n : ℕ) → Type 0
Counting s from end at n = (m : ℕ) → Items s end from m → CountPart s end at n m

pub count-begin : {s : List ℕ} {from end : ℕ} → Counting s from end from 0
count-begin m i = record { rest = m; items = i; sum = omega arith }

pub count_next : {s : List ℕ} {from end at n size : ℕ} → at < end → size ≡ get_or s at 0 → Counting s from end at n
    → Counting s from end (at + 2 + size) (n + 1)
count_next {s} {from} {end} {at} {n} {size} l z q m i = let p = q m i in go p.items p.sum
  where
    go : {k : ℕ} → Items s end at k → m ≡ n + k → CountPart s end (at + 2 + size) (n + 1) m
    go (no_item h) e = absurd (omega arith)
    go (an_item {n = j} h r) e = record { rest = j; items = rw z r; sum = omega arith }

pub count-end : {s : List ℕ} {from end at n : ℕ} → end ≤ at → Counting s from end at n → Counts s from end n
count-end {s} {from} {end} {at} {n} l q = record { by = λ m i. let p = q m i in go p.items p.sum }
  where
    go : {k m : ℕ} → Items s end at k → m ≡ n + k → n ≡ m
    go (no_item h) e = omega arith
    go (an_item h r) e = absurd (omega arith)

-- an item in front of others
pub item-first : {s : List ℕ} {at end tag n : ℕ} (w rest : List ℕ) → Holds s at (length w ∷ tag ∷ (w ++ rest))
    → end ≡ at + length (length w ∷ tag ∷ (w ++ rest))
    → (Holds s (at + 2 + length w) rest → end ≡ at + 2 + length w + length rest → Items s end (at + 2 + length w) n) → Items s end at (suc n)
item-first {s} {at} {end} {tag} w rest h e f =
    let a : at + 0 ≡ at = omega arith in let z : get_or s at 0 ≡ length w = ap (λ (k : ℕ). get_or s k 0) (sym a) ∙ h.at 0 (omega arith) in
    let r = second (length w ∷ tag ∷ []) (w ++ rest) (at + 2) h refl in let q = f (second w rest (at + 2 + length w) r refl)
    (omega (arith, length-append w rest)) in
    an_item {from = at} (omega (arith, length-append w rest)) (rw (← z) at q)

pub expression-items : {s : List ℕ} {at end : ℕ} (es : Expressions) → Holds s at (encode_expressions es) → end ≡ at + length (encode_expressions es)
    → Items s end at (T.count es)
unfolding encode_expressions T.count
expression-items {at = at} T.no_expressions h e = no_item {from = at} (omega arith)
expression-items {at = at} (T.and_expression d es) h e =
    item-first (encode d) (encode_expressions es) h e (λ r q. expression-items {at = at + 2 + length (encode d)} es r q)

pub repeat-items : {s : List ℕ} {at end : ℕ} (rs : Repeats) → Holds s at (encode_repeats rs) → end ≡ at + length (encode_repeats rs)
    → Items s end at (forms rs)
unfolding encode_repeats forms
repeat-items {at = at} T.no_repeats h e = no_item {from = at} (omega arith)
repeat-items {at = at} (T.repeat rs) h e = item-first [] (encode_repeats rs) h e (λ r q. repeat-items {at = at + 2 + length {A = ℕ} []} rs r q)
repeat-items {at = at} (T.repeat_on w d rs) h e =
    item-first (encode d) (encode_repeats rs) h e (λ r q. repeat-items {at = at + 2 + length (encode d)} rs r q)

pub command-items : {s : List ℕ} {at end : ℕ} (text : List ℕ) (sc : Scope) (height : ℕ) (cs : Commands) → Holds s at (encode_commands cs)
    → end ≡ at + length (encode_commands cs) → Items s end at (commands_in (case_list text sc height cs))
unfolding encode_commands case_list commands_in
command-items {at = at} text sc height T.no_commands h e = no_item {from = at} (omega arith)
command-items {at = at} text sc height (T.and_command c cs) h e =
    item-first (encode_command c) (encode_commands cs) h e (λ r q. command-items {at = at + 2 + length (encode_command c)} text sc height cs r q)
