-- The functions that the cycle calls, and its own with their measures: 64 for each level left and a rank below 64. A call that opens a level
-- takes one, and every other call goes to a smaller rank. An expression's rank grows with its binding: 20 and four for each step of it. Below
-- stand its operands, from 16 to 9; above it lists of expressions, 50 to 52, what commands are made of, 51 to 59, a command 55, and 60 and 61
-- for what stands after labels.
use Rattle.laws.proofs.Basics.{ℕ, ◌+◌, ◌-◌, ◌*◌, ◌<◌, ◌≡◌, List, [], ◌∷◌}
use mir.Syntax.{Symbol, w64}
use borrow.Fn.Kind.{ParamKind, ResultKind}
use borrow.Fn.Kinds.{In, Out}
use borrow.Kind.Num.{p_num, r_num}
use borrow.Fn.PlainCycle.{Measures, is, falls, and}
use Rattle.tree.proofs.Asked.{Callee, callee, with-asked}
use Rattle.tree.proofs.binding as b
use Rattle.tree.proofs.parts as p
use Rattle.tree.proofs.phrases as of
use Rattle.tree.proofs.scratch as s

-- a function of the cycle: its measure, what it asks, and what it ensures
pub record Member : Type 3 where
  pub ps : List (ParamKind 1)
  pub r : ResultKind 1
  pub measure : Measures 1 ps ℕ
  pub pre : In 1 ps
  pub post : Out 1 ps r
  pub name : Symbol

abbrev member : (ps : List (ParamKind 1)) (r : ResultKind 1) → Measures 1 ps ℕ → In 1 ps → Out 1 ps r → Symbol → Member
member ps r measure pre post name = record { ps = ps; r = r; measure = measure; pre = pre; post = post; name = name }

-- what it is given at a measure, and what it is for a caller at one
module _ (m : Member) (t : ℕ) where
  abbrev pub at : In 1 m.ps
  at = and 1 m.ps (is 1 m.ps m.measure t) m.pre

  abbrev pub below : Callee
  below = callee m.ps m.r (and 1 m.ps (falls 1 m.ps ◌<◌ m.measure t) m.pre) m.post m.name

-- the functions outside the cycle
abbrev pub begins-command : Callee
begins-command = callee b.begins_command.Kinds.ps b.begins_command.Kinds.r b.begins_command.Reads.Asked b.begins_command.Reads.Learnt
    "tree::binding::begins_command"

abbrev pub binding-of : Callee
binding-of = callee b.binding_of.Kinds.ps b.binding_of.Kinds.r b.binding_of.Reads.Asked b.binding_of.Reads.Learnt "tree::binding::binding_of"

abbrev pub further-most : Callee
further-most =
    callee b.further_most.Kinds.ps b.further_most.Kinds.r b.further_most.Reads.Asked b.further_most.Reads.Learnt "tree::binding::further_most"

abbrev pub goes-on-assignment : Callee
goes-on-assignment =
    callee b.goes_on_assignment.Kinds.ps b.goes_on_assignment.Kinds.r b.goes_on_assignment.Reads.Asked b.goes_on_assignment.Reads.Learnt
    "tree::binding::goes_on_assignment"

abbrev pub is-guard : Callee
is-guard = callee b.is_guard.Kinds.ps b.is_guard.Kinds.r b.is_guard.Reads.Asked b.is_guard.Reads.Learnt "tree::binding::is_guard"

abbrev pub is-label : Callee
is-label = callee b.is_label.Kinds.ps b.is_label.Kinds.r b.is_label.Reads.Asked b.is_label.Reads.Learnt "tree::binding::is_label"

abbrev pub is-leave : Callee
is-leave = callee b.is_leave.Kinds.ps b.is_leave.Kinds.r b.is_leave.Reads.Asked b.is_leave.Reads.Learnt "tree::binding::is_leave"

abbrev pub is-monadic : Callee
is-monadic = callee b.is_monadic.Kinds.ps b.is_monadic.Kinds.r b.is_monadic.Reads.Asked b.is_monadic.Reads.Learnt "tree::binding::is_monadic"

abbrev pub is-repeat : Callee
is-repeat = callee b.is_repeat.Kinds.ps b.is_repeat.Kinds.r b.is_repeat.Reads.Asked b.is_repeat.Reads.Learnt "tree::binding::is_repeat"

abbrev pub is-suffix : Callee
is-suffix = callee b.is_suffix.Kinds.ps b.is_suffix.Kinds.r b.is_suffix.Reads.Asked b.is_suffix.Reads.Learnt "tree::binding::is_suffix"

abbrev pub is-vector : Callee
is-vector = callee b.is_vector.Kinds.ps b.is_vector.Kinds.r b.is_vector.Reads.Asked b.is_vector.Reads.Learnt "tree::binding::is_vector"

abbrev pub reach_of : Callee
reach_of = callee b.reach_of.Kinds.ps b.reach_of.Kinds.r b.reach_of.Reads.Asked b.reach_of.Reads.Learnt "tree::binding::reach_of"

abbrev pub right_of : Callee
right_of = callee b.right_of.Kinds.ps b.right_of.Kinds.r b.right_of.Reads.Asked b.right_of.Reads.Learnt "tree::binding::right_of"

abbrev pub a-name : Callee
a-name = callee p.a_name.Kinds.ps p.a_name.Kinds.r p.a_name.Reads.Asked p.a_name.Reads.Learnt "tree::parts::a_name"

abbrev pub atom : Callee
atom = callee p.atom.Kinds.ps p.atom.Kinds.r p.atom.Reads.Asked p.atom.Reads.Learnt "tree::parts::atom"

abbrev pub further-names : Callee
further-names =
    callee p.further_names.Kinds.ps p.further_names.Kinds.r p.further_names.Reads.Asked p.further_names.Reads.Learnt "tree::parts::further_names"

abbrev pub label : Callee
label = callee p.label.Kinds.ps p.label.Kinds.r p.label.Reads.Asked p.label.Reads.Learnt "tree::parts::label"

abbrev pub labels : Callee
labels = callee p.labels.Kinds.ps p.labels.Kinds.r p.labels.Reads.Asked p.labels.Reads.Learnt "tree::parts::labels"

abbrev pub leave : Callee
leave = callee p.leave.Kinds.ps p.leave.Kinds.r p.leave.Reads.Asked p.leave.Reads.Learnt "tree::parts::leave"

abbrev pub optional-by : Callee
optional-by = callee p.optional_by.Kinds.ps p.optional_by.Kinds.r p.optional_by.Reads.Asked p.optional_by.Reads.Learnt "tree::parts::optional_by"

abbrev pub vector : Callee
vector = callee p.vector.Kinds.ps p.vector.Kinds.r p.vector.Reads.Asked p.vector.Reads.Learnt "tree::parts::vector"

abbrev pub begin-item : Callee
begin-item = callee s.begin_item.Kinds.ps s.begin_item.Kinds.r s.begin_item.Reads.Asked s.begin_item.Reads.Learnt "tree::scratch::begin_item"

abbrev pub close-item : Callee
close-item = callee s.close_item.Kinds.ps s.close_item.Kinds.r s.close_item.Reads.Asked s.close_item.Reads.Learnt "tree::scratch::close_item"

abbrev pub expect : Callee
expect = callee s.expect.Kinds.ps s.expect.Kinds.r s.expect.Reads.Asked s.expect.Reads.Learnt "tree::scratch::expect"

abbrev pub free-of : Callee
free-of = callee s.free_of.Kinds.ps s.free_of.Kinds.r s.free_of.Reads.Asked s.free_of.Reads.Learnt "tree::scratch::free_of"

abbrev pub is_call : Callee
is_call = callee s.is_call.Kinds.ps s.is_call.Kinds.r s.is_call.Reads.Asked s.is_call.Reads.Learnt "tree::scratch::is_call"

abbrev pub kind-here : Callee
kind-here = callee s.kind_here.Kinds.ps s.kind_here.Kinds.r s.kind_here.Reads.Asked s.kind_here.Reads.Learnt "tree::scratch::kind_here"

abbrev pub node : Callee
node = callee s.node.Kinds.ps s.node.Kinds.r s.node.Reads.Asked s.node.Reads.Learnt "tree::scratch::node"

abbrev pub optional : Callee
optional = callee s.optional.Kinds.ps s.optional.Kinds.r s.optional.Reads.Asked s.optional.Reads.Learnt "tree::scratch::optional"

abbrev pub place_here : Callee
place_here = callee s.place_here.Kinds.ps s.place_here.Kinds.r s.place_here.Reads.Asked s.place_here.Reads.Learnt "tree::scratch::place_here"

abbrev pub place_of : Callee
place_of = callee s.place_of.Kinds.ps s.place_of.Kinds.r s.place_of.Reads.Asked s.place_of.Reads.Learnt "tree::scratch::place_of"

abbrev pub refuse : Callee
refuse = callee s.refuse.Kinds.ps s.refuse.Kinds.r s.refuse.Reads.Asked s.refuse.Reads.Learnt "tree::scratch::refuse"

abbrev pub set-size : Callee
set-size = callee s.set_size.Kinds.ps s.set_size.Kinds.r s.set_size.Reads.Asked s.set_size.Reads.Learnt "tree::scratch::set_size"

abbrev pub suffixed-kind : Callee
suffixed-kind =
    callee s.suffixed_kind.Kinds.ps s.suffixed_kind.Kinds.r s.suffixed_kind.Reads.Asked s.suffixed_kind.Reads.Learnt "tree::scratch::suffixed_kind"

-- `saturating_sub` of usize
abbrev pub saturating-sub : Callee
saturating-sub = callee {n = 0} (p_num w64 ∷ p_num w64 ∷ []) (r_num w64) (λ _ _. Unit {0}) (λ _ a z _. z ≡ a.0 - a.1.0) "core::int::usize::saturating_sub"

-- what a function calls: a list of it, and the tuple of what is asked and learnt that its rule takes
pub record Calls (T : Type 1) : Type 3 where
  pub callees : List Callee
  pub claims : T

abbrev calls : {T : Type 1} → List Callee → T → Calls T
calls l t = record { callees = l; claims = t }

module _ (c : Callee) where
  abbrev I : Type 1
  I = In c.n c.ps

  abbrev O : Type 1
  O = Out c.n c.ps c.r

  abbrev P : I
  P = c.asks

  abbrev Q : O
  Q = (with-asked c).learnt

abbrev pub calls-2 : (a b : Callee) → Calls (I a × O a × I b × O b)
calls-2 a b = calls (a ∷ b ∷ []) (P a, Q a, P b, Q b)

abbrev pub calls-3 : (a b c : Callee) → Calls (I a × O a × I b × O b × I c × O c)
calls-3 a b c = calls (a ∷ b ∷ c ∷ []) (P a, Q a, P b, Q b, P c, Q c)

abbrev pub calls-4 : (a b c d : Callee) → Calls (I a × O a × I b × O b × I c × O c × I d × O d)
calls-4 a b c d = calls (a ∷ b ∷ c ∷ d ∷ []) (P a, Q a, P b, Q b, P c, Q c, P d, Q d)

abbrev pub calls-5 : (a b c d e : Callee) → Calls (I a × O a × I b × O b × I c × O c × I d × O d × I e × O e)
calls-5 a b c d e = calls (a ∷ b ∷ c ∷ d ∷ e ∷ []) (P a, Q a, P b, Q b, P c, Q c, P d, Q d, P e, Q e)

abbrev pub calls-6 : (a b c d e f : Callee) → Calls (I a × O a × I b × O b × I c × O c × I d × O d × I e × O e × I f × O f)
calls-6 a b c d e f = calls (a ∷ b ∷ c ∷ d ∷ e ∷ f ∷ []) (P a, Q a, P b, Q b, P c, Q c, P d, Q d, P e, Q e, P f, Q f)

abbrev pub calls-7 : (a b c d e f g : Callee) → Calls (I a × O a × I b × O b × I c × O c × I d × O d × I e × O e × I f × O f × I g × O g)
calls-7 a b c d e f g = calls (a ∷ b ∷ c ∷ d ∷ e ∷ f ∷ g ∷ []) (P a, Q a, P b, Q b, P c, Q c, P d, Q d, P e, Q e, P f, Q f, P g, Q g)

abbrev pub calls-8 :
    (a b c d e f g h : Callee) → Calls (I a × O a × I b × O b × I c × O c × I d × O d × I e × O e × I f × O f × I g × O g × I h × O h)
calls-8 a b c d e f g h = calls (a ∷ b ∷ c ∷ d ∷ e ∷ f ∷ g ∷ h ∷ []) (P a, Q a, P b, Q b, P c, Q c, P d, Q d, P e, Q e, P f, Q f, P g, Q g, P h, Q h)

abbrev pub calls-9 :
    (a b c d e f g h i : Callee) → Calls (I a × O a × I b × O b × I c × O c × I d × O d × I e × O e × I f × O f × I g × O g × I h × O h × I i × O i)
calls-9 a b c d e f g h i = calls (a ∷ b ∷ c ∷ d ∷ e ∷ f ∷ g ∷ h ∷ i ∷ [])
    (P a, Q a, P b, Q b, P c, Q c, P d, Q d, P e, Q e, P f, Q f, P g, Q g, P h, Q h, P i, Q i)

abbrev pub calls-10 :
    (a b c d e f g h i j : Callee) → Calls (I a × O a × I b × O b × I c × O c × I d × O d × I e × O e × I f × O f × I g × O g × I h × O h × I i × O i
    × I j × O j)
calls-10 a b c d e f g h i j = calls (a ∷ b ∷ c ∷ d ∷ e ∷ f ∷ g ∷ h ∷ i ∷ j ∷ [])
    (P a, Q a, P b, Q b, P c, Q c, P d, Q d, P e, Q e, P f, Q f, P g, Q g, P h, Q h, P i, Q i, P j, Q j)

abbrev pub calls-11 :
    (a b c d e f g h i j k : Callee) → Calls (I a × O a × I b × O b × I c × O c × I d × O d × I e × O e × I f × O f × I g × O g × I h × O h × I i × O
    i × I j × O j × I k × O k)
calls-11 a b c d e f g h i j k = calls (a ∷ b ∷ c ∷ d ∷ e ∷ f ∷ g ∷ h ∷ i ∷ j ∷ k ∷ [])
    (P a, Q a, P b, Q b, P c, Q c, P d, Q d, P e, Q e, P f, Q f, P g, Q g, P h, Q h, P i, Q i, P j, Q j, P k, Q k)

abbrev pub calls-12 :
    (a b c d e f g h i j k l : Callee) → Calls (I a × O a × I b × O b × I c × O c × I d × O d × I e × O e × I f × O f × I g × O g × I h × O h × I i ×
    O i × I j × O j × I k × O k × I l × O l)
calls-12 a b c d e f g h i j k l = calls (a ∷ b ∷ c ∷ d ∷ e ∷ f ∷ g ∷ h ∷ i ∷ j ∷ k ∷ l ∷ [])
    (P a, Q a, P b, Q b, P c, Q c, P d, Q d, P e, Q e, P f, Q f, P g, Q g, P h, Q h, P i, Q i, P j, Q j, P k, Q k, P l, Q l)

-- the functions of the cycle
abbrev pub also-rank : Member
also-rank = member of.also.Kinds.ps of.also.Kinds.r (λ κs a. a.1.1.0 * 64 + 51) of.also.Reads.Pre of.also.Reads.Post "tree::phrases::also"

abbrev pub arg-rank : Member
arg-rank = member of.arg.Kinds.ps of.arg.Kinds.r (λ κs a. a.1.1.0 * 64 + 50) of.arg.Reads.Pre of.arg.Reads.Post "tree::phrases::arg"

abbrev pub bare-rank : Member
bare-rank = member of.bare.Kinds.ps of.bare.Kinds.r (λ κs a. a.1.1.0 * 64 + 53) of.bare.Reads.Pre of.bare.Reads.Post "tree::phrases::bare"

abbrev pub block-rank : Member
block-rank = member of.block.Kinds.ps of.block.Kinds.r (λ κs a. a.1.1.0 * 64 + 59) of.block.Reads.Pre of.block.Reads.Post "tree::phrases::block"

abbrev pub body-rank : Member
body-rank = member of.body.Kinds.ps of.body.Kinds.r (λ κs a. a.1.1.0 * 64 + 53) of.body.Reads.Pre of.body.Reads.Post "tree::phrases::body"

abbrev pub call-rank : Member
call-rank = member of.call.Kinds.ps of.call.Kinds.r (λ κs a. a.1.1.0 * 64 + 9) of.call.Reads.Pre of.call.Reads.Post "tree::phrases::call"

abbrev pub cases-rank : Member
cases-rank = member of.cases.Kinds.ps of.cases.Kinds.r (λ κs a. a.1.1.0 * 64 + 54) of.cases.Reads.Pre of.cases.Reads.Post "tree::phrases::cases"

abbrev pub cmd-rank : Member
cmd-rank = member of.cmd.Kinds.ps of.cmd.Kinds.r (λ κs a. a.1.1.0 * 64 + 55) of.cmd.Reads.Pre of.cmd.Reads.Post "tree::phrases::cmd"

abbrev pub expr_rank : Member
expr_rank = member of.expr.Kinds.ps of.expr.Kinds.r (λ κs a. a.1.1.0 * 64 + a.1.1.1.0 * 4 + 20) of.expr.Reads.Pre of.expr.Reads.Post
    "tree::phrases::expr"

abbrev pub form-rank : Member
form-rank = member of.form.Kinds.ps of.form.Kinds.r (λ κs a. a.1.1.0 * 64 + 56) of.form.Reads.Pre of.form.Reads.Post "tree::phrases::form"

abbrev pub forms-rank : Member
forms-rank = member of.forms.Kinds.ps of.forms.Kinds.r (λ κs a. a.1.1.0 * 64 + 57) of.forms.Reads.Pre of.forms.Reads.Post "tree::phrases::forms"

abbrev pub give-rank : Member
give-rank = member of.give.Kinds.ps of.give.Kinds.r (λ κs a. a.1.1.0 * 64 + 56) of.give.Reads.Pre of.give.Reads.Post "tree::phrases::give"

abbrev pub index-rank : Member
index-rank = member of.index.Kinds.ps of.index.Kinds.r (λ κs a. a.1.1.0 * 64 + 12) of.index.Reads.Pre of.index.Reads.Post "tree::phrases::index"

abbrev pub init-rank : Member
init-rank = member of.init.Kinds.ps of.init.Kinds.r (λ κs a. a.1.1.0 * 64 + 52) of.init.Reads.Pre of.init.Reads.Post "tree::phrases::init"

abbrev pub item-rank : Member
item-rank = member of.item.Kinds.ps of.item.Kinds.r (λ κs a. a.1.1.0 * 64 + 56) of.item.Reads.Pre of.item.Reads.Post "tree::phrases::item"

abbrev pub unary-rank : Member
unary-rank = member of.unary.Kinds.ps of.unary.Kinds.r (λ κs a. a.1.1.0 * 64 + 11) of.unary.Reads.Pre of.unary.Reads.Post "tree::phrases::unary"

abbrev pub lets-rank : Member
lets-rank = member of.lets.Kinds.ps of.lets.Kinds.r (λ κs a. a.1.1.0 * 64 + 54) of.lets.Reads.Pre of.lets.Reads.Post "tree::phrases::lets"

abbrev pub list-rank : Member
list-rank = member of.list.Kinds.ps of.list.Kinds.r (λ κs a. a.1.1.0 * 64 + 57) of.list.Reads.Pre of.list.Reads.Post "tree::phrases::list"

abbrev pub local-rank : Member
local-rank = member of.local.Kinds.ps of.local.Kinds.r (λ κs a. a.1.1.0 * 64 + 53) of.local.Reads.Pre of.local.Reads.Post "tree::phrases::local"

abbrev pub monad-rank : Member
monad-rank = member of.monad.Kinds.ps of.monad.Kinds.r (λ κs a. a.1.1.0 * 64 + 9) of.monad.Reads.Pre of.monad.Reads.Post "tree::phrases::monad"

abbrev pub nest-rank : Member
nest-rank = member of.nest.Kinds.ps of.nest.Kinds.r (λ κs a. a.1.1.0 * 64 + 9) of.nest.Reads.Pre of.nest.Reads.Post "tree::phrases::nest"

abbrev pub op-rank : Member
op-rank = member of.op.Kinds.ps of.op.Kinds.r (λ κs a. a.1.1.0 * 64 + a.1.1.1.0 * 4 + 21) of.op.Reads.Pre of.op.Reads.Post "tree::phrases::op"

abbrev pub pass-rank : Member
pass-rank = member of.pass.Kinds.ps of.pass.Kinds.r (λ κs a. a.1.1.0 * 64 + 52) of.pass.Reads.Pre of.pass.Reads.Post "tree::phrases::pass"

abbrev pub pick-rank : Member
pick-rank = member of.pick.Kinds.ps of.pick.Kinds.r (λ κs a. a.1.1.0 * 64 + 58) of.pick.Reads.Pre of.pick.Reads.Post "tree::phrases::pick"

abbrev pub plain-rank : Member
plain-rank = member of.plain.Kinds.ps of.plain.Kinds.r (λ κs a. a.1.1.0 * 64 + 60) of.plain.Reads.Pre of.plain.Reads.Post "tree::phrases::plain"

abbrev pub redo-rank : Member
redo-rank = member of.redo.Kinds.ps of.redo.Kinds.r (λ κs a. a.1.1.0 * 64 + 61) of.redo.Reads.Pre of.redo.Reads.Post "tree::phrases::redo"

abbrev pub rest-rank : Member
rest-rank = member of.rest.Kinds.ps of.rest.Kinds.r (λ κs a. a.1.1.0 * 64 + 51) of.rest.Reads.Pre of.rest.Reads.Post "tree::phrases::rest"

abbrev pub run-rank : Member
run-rank = member of.run.Kinds.ps of.run.Kinds.r (λ κs a. a.1.1.0 * 64 + a.1.1.1.1.0 * 4 + 22) of.run.Reads.Pre of.run.Reads.Post
    "tree::phrases::run"

abbrev pub set-rank : Member
set-rank = member of.set.Kinds.ps of.set.Kinds.r (λ κs a. a.1.1.0 * 64 + 52) of.set.Reads.Pre of.set.Reads.Post "tree::phrases::set"

abbrev pub step-rank : Member
step-rank = member of.step.Kinds.ps of.step.Kinds.r (λ κs a. a.1.1.0 * 64 + 56) of.step.Reads.Pre of.step.Reads.Post "tree::phrases::step"

abbrev pub tail-rank : Member
tail-rank = member of.tail.Kinds.ps of.tail.Kinds.r (λ κs a. a.1.1.0 * 64 + 13) of.tail.Reads.Pre of.tail.Reads.Post "tree::phrases::tail"

abbrev pub tails-rank : Member
tails-rank = member of.tails.Kinds.ps of.tails.Kinds.r (λ κs a. a.1.1.0 * 64 + 14) of.tails.Reads.Pre of.tails.Reads.Post "tree::phrases::tails"

abbrev pub term-rank : Member
term-rank = member of.term.Kinds.ps of.term.Kinds.r (λ κs a. a.1.1.0 * 64 + 16) of.term.Reads.Pre of.term.Reads.Post "tree::phrases::term"

abbrev pub test-rank : Member
test-rank = member of.test.Kinds.ps of.test.Kinds.r (λ κs a. a.1.1.0 * 64 + 56) of.test.Reads.Pre of.test.Reads.Post "tree::phrases::test"

abbrev pub till-rank : Member
till-rank = member of.till.Kinds.ps of.till.Kinds.r (λ κs a. a.1.1.0 * 64 + 58) of.till.Reads.Pre of.till.Reads.Post "tree::phrases::till"

abbrev pub unit-rank : Member
unit-rank = member of.unit.Kinds.ps of.unit.Kinds.r (λ κs a. a.1.1.0 * 64 + 10) of.unit.Reads.Pre of.unit.Reads.Post "tree::phrases::unit"

abbrev pub valof-rank : Member
valof-rank = member of.valof.Kinds.ps of.valof.Kinds.r (λ κs a. a.1.1.0 * 64 + 9) of.valof.Reads.Pre of.valof.Reads.Post "tree::phrases::valof"

abbrev pub when-rank : Member
when-rank = member of.when.Kinds.ps of.when.Kinds.r (λ κs a. a.1.1.0 * 64 + 56) of.when.Reads.Pre of.when.Reads.Post "tree::phrases::when"

abbrev pub whole-rank : Member
whole-rank = member of.whole.Kinds.ps of.whole.Kinds.r (λ κs a. a.1.1.0 * 64 + 15) of.whole.Reads.Pre of.whole.Reads.Post "tree::phrases::whole"
