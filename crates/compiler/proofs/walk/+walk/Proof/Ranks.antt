-- The measures of the walk's cycle: the levels left, and below that a rank, so that a call that opens no level goes to a smaller one.
use Rattle.laws.proofs.Basics.{ℕ, ◌+◌, ◌-◌, ◌*◌, ◌<◌, ◌≡◌, List}
use borrow.Fn.Kinds.{ParamKind, ResultKind, In, Out}
use Rattle.compiler.proofs.Vocabulary.{Here}
use borrow.Fn.PlainCycle.{Measures, is, falls, and}
use Rattle.compiler.proofs.walk as walk

-- the kinds of what a member takes and gives, its measure, and what it asks and ensures
pub record Member : Type 3 where
  pub ps : List (ParamKind 3)
  pub r : ResultKind 3
  pub measure : Measures 3 ps ℕ
  pub pre : In 3 ps
  pub post : Out 3 ps r

abbrev member : (ps : List (ParamKind 3)) (r : ResultKind 3) → Measures 3 ps ℕ → In 3 ps → Out 3 ps r → Member
member ps r m pre post = record { ps = ps; r = r; measure = m; pre = pre; post = post }

-- the members of the cycle
pub data Function : Type 0 where
  address applied args assign bare block cases chain command expr for-to form forms indexed list local locals located monadic : Function
  passed plain refuse repeated side stored switch test when while-do : Function

-- levels, and below them a number
abbrev level : Here → ℕ → ℕ
level x k = x.left * 4294967300 + k

abbrev pub rank : Function → Member
rank address = member walk.address.Kinds.ps walk.address.Kinds.r (λ κs a. level a.1.1.1.1.0 5) walk.address.Reads.Pre walk.address.Reads.Post
rank applied = member walk.applied.Kinds.ps walk.applied.Kinds.r (λ κs a. level a.1.1.1.1.1.0 (3 + a.1.1.1.0)) walk.applied.Reads.Pre
    walk.applied.Reads.Post
rank args = member walk.args.Kinds.ps walk.args.Kinds.r (λ κs a. level a.1.1.1.1.1.0 1) walk.args.Reads.Pre walk.args.Reads.Post
rank assign = member walk.assign.Kinds.ps walk.assign.Kinds.r (λ κs a. level a.1.1.1.1.1.1.0 6) walk.assign.Reads.Pre walk.assign.Reads.Post
rank bare = member walk.bare.Kinds.ps walk.bare.Kinds.r (λ κs a. level a.1.1.1.1.0 0) walk.bare.Reads.Pre walk.bare.Reads.Post
rank block = member walk.block.Kinds.ps walk.block.Kinds.r (λ κs a. level a.1.1.1.1.0 4) walk.block.Reads.Pre walk.block.Reads.Post
rank cases = member walk.cases.Kinds.ps walk.cases.Kinds.r (λ κs a. level a.1.1.1.1.1.0 2) walk.cases.Reads.Pre walk.cases.Reads.Post
rank chain = member walk.chain.Kinds.ps walk.chain.Kinds.r (λ κs a. level a.1.1.1.1.1.0 1) walk.chain.Reads.Pre walk.chain.Reads.Post
rank command = member walk.command.Kinds.ps walk.command.Kinds.r (λ κs a. level a.1.1.1.1.0 1) walk.command.Reads.Pre walk.command.Reads.Post
rank expr = member walk.expr.Kinds.ps walk.expr.Kinds.r (λ κs a. level a.1.1.1.1.0 0) walk.expr.Reads.Pre walk.expr.Reads.Post
rank for-to = member walk.for_to.Kinds.ps walk.for_to.Kinds.r (λ κs a. level a.1.1.1.1.0 2) walk.for_to.Reads.Pre walk.for_to.Reads.Post
rank form = member walk.form.Kinds.ps walk.form.Kinds.r (λ κs a. level a.1.1.1.1.0 1) walk.form.Reads.Pre walk.form.Reads.Post
rank forms = member walk.forms.Kinds.ps walk.forms.Kinds.r (λ κs a. level a.1.1.1.1.1.0 2) walk.forms.Reads.Pre walk.forms.Reads.Post
rank indexed = member walk.indexed.Kinds.ps walk.indexed.Kinds.r (λ κs a. level a.1.1.1.1.0 1) walk.indexed.Reads.Pre walk.indexed.Reads.Post
rank list = member walk.list.Kinds.ps walk.list.Kinds.r (λ κs a. level a.1.1.1.1.1.0 2) walk.list.Reads.Pre walk.list.Reads.Post
rank local = member walk.local.Kinds.ps walk.local.Kinds.r (λ κs a. level a.1.1.1.1.0 2) walk.local.Reads.Pre walk.local.Reads.Post
rank locals = member walk.locals.Kinds.ps walk.locals.Kinds.r (λ κs a. level a.1.1.1.1.1.0 3) walk.locals.Reads.Pre walk.locals.Reads.Post
rank located = member walk.located.Kinds.ps walk.located.Kinds.r (λ κs a. level a.1.1.1.1.0 4) walk.located.Reads.Pre walk.located.Reads.Post
rank monadic = member walk.monadic.Kinds.ps walk.monadic.Kinds.r (λ κs a. level a.1.1.1.1.0 6) walk.monadic.Reads.Pre walk.monadic.Reads.Post
rank passed = member walk.passed.Kinds.ps walk.passed.Kinds.r (λ κs a. level a.1.1.1.1.1.0 2) walk.passed.Reads.Pre walk.passed.Reads.Post
rank plain = member walk.plain.Kinds.ps walk.plain.Kinds.r (λ κs a. level a.1.1.1.1.0 7) walk.plain.Reads.Pre walk.plain.Reads.Post
rank refuse = member walk.refuse.Kinds.ps walk.refuse.Kinds.r (λ κs a. level a.1.1.1.1.0 1) walk.refuse.Reads.Pre walk.refuse.Reads.Post
rank repeated =
    member walk.repeated.Kinds.ps walk.repeated.Kinds.r (λ κs a. level a.1.1.1.1.0 8) walk.repeated.Reads.Pre walk.repeated.Reads.Post
rank side = member walk.side.Kinds.ps walk.side.Kinds.r (λ κs a. level a.1.1.1.1.0 5) walk.side.Reads.Pre walk.side.Reads.Post
rank stored = member walk.stored.Kinds.ps walk.stored.Kinds.r (λ κs a. level a.1.1.1.1.0 4) walk.stored.Reads.Pre walk.stored.Reads.Post
rank switch = member walk.switch.Kinds.ps walk.switch.Kinds.r (λ κs a. level a.1.1.1.1.0 3) walk.switch.Reads.Pre walk.switch.Reads.Post
rank test = member walk.test.Kinds.ps walk.test.Kinds.r (λ κs a. level a.1.1.1.1.0 2) walk.test.Reads.Pre walk.test.Reads.Post
rank when = member walk.when.Kinds.ps walk.when.Kinds.r (λ κs a. level a.1.1.1.1.0 2) walk.when.Reads.Pre walk.when.Reads.Post
rank while-do =
    member walk.while_do.Kinds.ps walk.while_do.Kinds.r (λ κs a. level a.1.1.1.1.0 2) walk.while_do.Reads.Pre walk.while_do.Reads.Post

-- what it is given at a measure, and what a call of it asks below one, and that with what is learnt of it
module _ (f : Function) (t : ℕ) where
  abbrev pub at : In 3 (rank f).ps
  at = and 3 (rank f).ps (is 3 (rank f).ps (rank f).measure t) (rank f).pre

  abbrev pub below : In 3 (rank f).ps
  below = and 3 (rank f).ps (falls 3 (rank f).ps ◌<◌ (rank f).measure t) (rank f).pre

  abbrev pub calls : In 3 (rank f).ps × Out 3 (rank f).ps (rank f).r
  calls = (below, (rank f).post)

-- what a difference that stays at 0 asks and says
abbrev pub less : (Unit {0} → ℕ × (ℕ × Unit {0}) → Type 0) × (Unit {0} → ℕ × (ℕ × Unit {0}) → ℕ → ℕ × (ℕ × Unit {0}) → Type 0)
less = (λ κs a. Unit {0}, λ κs a r b. r ≡ a.0 - a.1.0)

-- that the measure falls, and what a call asks besides
abbrev pub both : {A B : Type 0} → A → B → A × B
both a b = (a, b)

-- what is asked and learnt of so many functions that are called
abbrev pub three : {A B C D E F : Type 1} → A × B → C × D → E × F → A × B × C × D × E × F
three (a, b) (c, d) (e, f) = (a, b, c, d, e, f)

abbrev pub four : {A B C D E F G H : Type 1} → A × B → C × D → E × F → G × H → A × B × C × D × E × F × G × H
four (a, b) (c, d) (e, f) (g, h) = (a, b, c, d, e, f, g, h)

abbrev pub six : {A B C D E F G H I J K L : Type 1} → A × B → C × D → E × F → G × H → I × J → K × L → A × B × C × D × E × F × G × H × I × J × K × L
six (a, b) (c, d) (e, f) (g, h) (i, j) (k, l) = (a, b, c, d, e, f, g, h, i, j, k, l)

abbrev pub seven : {A B C D E F G H I J K L M N : Type 1} → A × B → C × D → E × F → G × H → I × J → K × L → M × N
    → A × B × C × D × E × F × G × H × I × J × K × L × M × N
seven (a, b) (c, d) (e, f) (g, h) (i, j) (k, l) (m, n) = (a, b, c, d, e, f, g, h, i, j, k, l, m, n)

abbrev pub eight : {A B C D E F G H I J K L M N O P : Type 1} → A × B → C × D → E × F → G × H → I × J → K × L → M × N → O × P
    → A × B × C × D × E × F × G × H × I × J × K × L × M × N × O × P
eight (a, b) (c, d) (e, f) (g, h) (i, j) (k, l) (m, n) (o, p) = (a, b, c, d, e, f, g, h, i, j, k, l, m, n, o, p)

abbrev pub nine : {A B C D E F G H I J K L M N O P Q R : Type 1} → A × B → C × D → E × F → G × H → I × J → K × L → M × N → O × P → Q × R
    → A × B × C × D × E × F × G × H × I × J × K × L × M × N × O × P × Q × R
nine (a, b) (c, d) (e, f) (g, h) (i, j) (k, l) (m, n) (o, p) (q, r) = (a, b, c, d, e, f, g, h, i, j, k, l, m, n, o, p, q, r)

abbrev pub eleven : {A B C D E F G H I J K L M N O P Q R S T U W : Type 1}
    → A × B → C × D → E × F → G × H → I × J → K × L → M × N → O × P → Q × R → S × T → U × W
    → A × B × C × D × E × F × G × H × I × J × K × L × M × N × O × P × Q × R × S × T × U × W
eleven (a, b) (c, d) (e, f) (g, h) (i, j) (k, l) (m, n) (o, p) (q, r) (s, t) (u, w) =
    (a, b, c, d, e, f, g, h, i, j, k, l, m, n, o, p, q, r, s, t, u, w)

abbrev pub fourteen : {A B C D E F G H I J K L M N O P Q R S T U W X Y Z A' B' C' : Type 1}
    → A × B → C × D → E × F → G × H → I × J → K × L → M × N → O × P → Q × R → S × T → U × W → X × Y → Z × A' → B' × C'
    → A × B × C × D × E × F × G × H × I × J × K × L × M × N × O × P × Q × R × S × T × U × W × X × Y × Z × A' × B' × C'
fourteen (a, b) (c, d) (e, f) (g, h) (i, j) (k, l) (m, n) (o, p) (q, r) (s, t) (u, w) (x, y) (z, a') (b', c') =
    (a, b, c, d, e, f, g, h, i, j, k, l, m, n, o, p, q, r, s, t, u, w, x, y, z, a', b', c')

abbrev pub sixteen : {A B C D E F G H I J K L M N O P Q R S T U W X Y Z A' B' C' D' E' F' G' : Type 1}
    → A × B → C × D → E × F → G × H → I × J → K × L → M × N → O × P → Q × R → S × T → U × W → X × Y → Z × A' → B' × C' → D' × E' → F' × G'
    → A × B × C × D × E × F × G × H × I × J × K × L × M × N × O × P × Q × R × S × T × U × W × X × Y × Z × A' × B' × C' × D' × E' × F' × G'
sixteen (a, b) (c, d) (e, f) (g, h) (i, j) (k, l) (m, n) (o, p) (q, r) (s, t) (u, w) (x, y) (z, a') (b', c') (d', e') (f', g') =
    (a, b, c, d, e, f, g, h, i, j, k, l, m, n, o, p, q, r, s, t, u, w, x, y, z, a', b', c', d', e', f', g')
