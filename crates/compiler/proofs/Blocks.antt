-- Lists of commands, locals and blocks.
use Rattle.laws.proofs.Basics.{ℕ, suc, ◌+◌, ◌-◌, ◌*◌, ◌<◌, ◌≤◌, ◌≡◌, refl, sym, ap, subst, ◌∙◌, List, ◌++◌, append_assoc, length, get_or, add-zero}
use Rattle.laws.proofs.Basics.{arith}
use Rattle.language.specs.Tree as T
use Rattle.compiler.proofs.Language.{Name, Expressions, Command, Commands, Unlabelled, command_depth, commands_depth, unlabelled_depth}
use Rattle.compiler.proofs.Language.{locals_depth, Scope, opened, declared, for_vector, judged_word, expressions, commands, unlabelled, locals}
use Rattle.compiler.proofs.Language.{values_before, declare_all, scope_after, height_after, of_exprs, of_locals, of_cmd, of_cmds, Leavable}
use Rattle.compiler.proofs.Language.{in_commands}
use Rattle.compiler.proofs.Language.{in_locals, in_unlabelled, encode_command, encode_commands, encode_locals, FineCommands, FineLocals}
use Rattle.compiler.proofs.Language.{FineUnlabelled}
use Rattle.language.specs.Names as N
use Rattle.language.specs.Resolved as R
use Rattle.language.specs.Heights as H
use Rattle.code.specs.Generate as G
use Rattle.compiler.proofs.Vocabulary.{Shows, Keeps, Pushed, State, Here, Ways, Node, FineC, FineCs, FineLs, FinePlain, marked, placed}
use Rattle.compiler.proofs.Vocabulary.{leavable, leavable_by, NodeAt, Did, Holds, cmd_says, cmds_says, ReadyC, GaveC, ReadyU, GaveU, ReadyList}
use Rattle.compiler.proofs.Vocabulary.{GaveList}
use Rattle.compiler.proofs.Common.{and, keeps_then, keeps-lower, pushed-keeps, pushed-mark, did_none, did_then, did-as, same_refl, same-eq}
use Rattle.compiler.proofs.Common.{code_is, IsTwo, moved, First, first_of, Rest, rest_all, taken-sizes, rest-next, Kind, Part, begins}
use Rattle.compiler.proofs.Common.{ready-one, rest-length, goes_on_lem, ended, any-expressions}
use Rattle.compiler.specs.declared.steps.Placed.{Placed}
use Rattle.compiler.specs.Locals.{Local, a_vector, some_values, with_local, encode_local, local_depth, FineLocal, scope_with, height_with, faults_l}
use Rattle.compiler.specs.Locals.{local_says, ReadyLocal, GaveLocal, locals_says, ReadyLocals, GaveLocals}
use Rattle.compiler.proofs.Calls.{count-resolved}
use Rattle.compiler.proofs.Forms as F
use Rattle.compiler.proofs.Forms.{Form, form-at, same-long}

-- ---- a list of commands

pub is-cmd : {s : List ℕ} {at end : ℕ} (cs : Commands) → Holds s at (encode_commands cs) → end ≡ at + length (encode_commands cs) → at < end
    → First encode_commands encode_command (λ c. 0) T.and_command s at end cs
unfolding encode_commands
is-cmd T.no_commands h e l = absurd (omega arith)
is-cmd (T.and_command c cs) h e l = first_of encode_commands encode_command (λ c. 0) T.and_command c cs h e

pub no-cmd : (cs : Commands) → length (encode_commands cs) ≡ 0 → cs ≡ T.no_commands
unfolding encode_commands
no-cmd T.no_commands e = refl
no-cmd (T.and_command c cs) e = absurd (omega arith)

pub cmd-deep : (c : Command) (cs : Commands) (k : ℕ) → commands_depth (T.and_command c cs) ≤ k → (command_depth c ≤ k) × (commands_depth cs ≤ k)
unfolding commands_depth
cmd-deep c cs k l = (omega arith, omega arith)

pub cmd-fine : (c : Command) (cs : Commands) → FineCs (T.and_command c cs) → FineC c × FineCs cs
unfolding FineCommands
cmd-fine c cs f = f

abbrev pub command_list : Kind Commands Command
command_list = record {
  all = encode_commands;
  one = encode_command;
  word = λ c. 0;
  with = T.and_command;
  none = T.no_commands;
  deep = commands_depth;
  deep_one = command_depth;
  Fine = FineCs;
  Fine-one = FineC;
  takes = is-cmd;
  empty = no-cmd;
  deeper = cmd-deep;
  finer = cmd-fine;
}

module _ (text t₀ : List ℕ) (w : Ways) {s₀ : List ℕ} {from end : ℕ} {here : Here} {st₀ : State} where
  abbrev pub ListPart : ReadyList s₀ from end here st₀ → (s t : List ℕ) (at : ℕ) (st : State) → Type 0
  ListPart y s t at st = let z = y.ready in
      Part command_list (λ cs. length (encode_commands cs)) (λ i cs. in_commands text z.scope (leavable_by w here) here.height cs)
      (λ i cs. cmds_says here w (commands text z.scope here.height cs)) z.tree
      from end z.base here.top here.left here.height here.height 0 0 s₀ s t₀ t st₀ st at

  pub list-begin : (y : ReadyList s₀ from end here st₀) → ListPart y s₀ t₀ from st₀
  list-begin y = begins y.ready y.starts refl refl y.ready.some

  module _ {s t : List ℕ} {at size next : ℕ} {st : State} (l : at < end) (es : size ≡ get_or s at 0) (en : next ≡ at + 2 + size) where
    abbrev pub list-part : (y : ReadyList s₀ from end here st₀) → ListPart y s t at st → ReadyC s next here st
    list-part y p = let z = y.ready in
        ready-one z y.starts l es en p here st refl refl refl (omega arith) (omega (arith, rest-length z y.starts l es en p)) p.some

    pub list-next : {s₁ t₁ : List ℕ} {r : State} → GaveC text s s₁ next here w t t₁ st r → (y : ReadyList s₀ from end here st₀) → ListPart y s t at st
        → ListPart y s₁ t₁ next r
    unfolding in_commands commands G.cmds_code of_cmds G.cmds_labels
    list-next g y p = let z = y.ready in let x = g.by (list-part y p) in let n = rest-length z y.starts l es en p in
        goes_on_lem z y.starts l es en p x.keeps (omega arith) (omega arith) (omega arith) (λ t' st' d. did-as _ _ (did_then x.did d) same_refl
        (λ k c. refl) (omega arith))

  pub list-end : {s t : List ℕ} {at : ℕ} {st : State} → end ≤ at → ((y : ReadyList s₀ from end here st₀) → ListPart y s t at st)
      → GaveList text s₀ s from end here w t₀ t st₀ st
  unfolding in_commands commands G.cmds_code of_cmds G.cmds_labels
  list-end l q = record { by = λ y. record { keeps = (q y).keeps; did = ended (q y) l (λ m. did_none m) } }

-- ---- what one declaration more says

with-local : (text : List ℕ) (sc : Scope) (here : Here) (x : Local) (ls : T.Locals)
    → let h = here.height in let sc' = scope_with text sc h x in let h' = height_with text sc h x in
    (scope_after text sc h (with_local x ls) ≡ scope_after text sc' h' ls) × (height_after text sc h (with_local x ls) ≡ height_after text sc' h' ls)
    × (in_locals text sc (leavable here) h (with_local x ls) ≡ faults_l text sc here x ++ in_locals text sc' (leavable here) h' ls)
unfolding scope_after height_after in_locals faults_l scope_with height_with
with-local text sc here (a_vector n c) ls = (refl, refl, refl)
with-local text sc here (some_values ns es) ls = (refl, refl, refl)

-- values in front of other locals: code, heights, labels, and the height after all
values-before : (strings h n : ℕ) (es : R.Exprs) (ls : R.Locals) → let vs = values_before es ls in let k = h + H.count es in
    (G.locals_code strings h n vs ≡ G.exprs_code strings h n es ++ G.locals_code strings k (n + G.exprs_labels es) ls)
    × (of_locals h vs ≡ of_exprs h es ++ of_locals k ls) × (G.locals_labels vs ≡ G.exprs_labels es + G.locals_labels ls)
    × (H.height_with h vs ≡ H.height_with k ls)
unfolding G.locals_code G.exprs_code H.count G.exprs_labels of_locals of_exprs G.locals_labels H.height_with
values-before strings h n R.none ls = let a : h ≡ h + 0 = omega arith in let b : n ≡ n + 0 = omega arith in (cc, cc, omega arith, cc)
values-before strings h n (R.and e es) ls =
    let i = values-before strings (h + 1) (n + G.expr_labels e) es ls in let a : h + 1 + H.count es ≡ h + suc (H.count es) = omega arith in
    let b : n + G.expr_labels e + G.exprs_labels es ≡ n + (G.expr_labels e + G.exprs_labels es) = omega arith in
    (simp (i.0, a, b, append_assoc), simp (i.1, a, append_assoc), omega (arith, i.2), rw (i.3, a))

count-is : (text : List ℕ) (sc : Scope) (h : ℕ) (ns : List Name) (es : Expressions) → length ns ≡ T.count es
    → h + H.count (expressions text sc h es) ≡ h + length ns
count-is text sc h ns es e = omega (arith, count-resolved text sc h es)

-- the code of one and then of the others
code-with : (text : List ℕ) (sc : Scope) (here : Here) (n : ℕ) (x : Local) (ls : T.Locals) → FineLocal x
    → let h = here.height in let sc' = scope_with text sc h x in let h' = height_with text sc h x in
    and (local_says text sc here x) (locals_says here h' (locals text sc' h' ls)) n ≡ locals_says here h (locals text sc h (with_local x ls)) n
unfolding locals local_says scope_with height_with FineLocal G.locals_code of_locals G.locals_labels
code-with text sc here n (a_vector m c) ls f =
    let h = here.height in let h' = h + 2 + judged_word (for_vector text sc c) in let ls' = locals text (declared sc m (N.local h)) h' ls in
    code_is (rw (add-zero n)) refl (omega arith)
code-with text sc here n (some_values ns es) ls f =
    let h = here.height in let rs = expressions text sc h es in let ls' = locals text (declare_all sc h ns) (h + length ns) ls in
    let k = count-is text sc h ns es f.0 in let v = values-before here.strings h n rs ls' in code_is (cc v.0) (cc v.1) (sym v.2)

-- ---- one of the list

pub is-local : {s : List ℕ} {at end : ℕ} (ls : T.Locals) → Holds s at (encode_locals ls) → end ≡ at + length (encode_locals ls) → at < end
    → First encode_locals encode_local (λ x. 3) with_local s at end ls
unfolding encode_locals encode_local
is-local T.no_locals h e l = absurd (omega arith)
is-local (T.vector n c ls) h e l = first_of encode_locals encode_local (λ x. 3) with_local (a_vector n c) ls h e
is-local (T.values ns es ls) h e l = first_of encode_locals encode_local (λ x. 3) with_local (some_values ns es) ls h e

no_local : {at end : ℕ} (ls : T.Locals) → end ≡ at + length (encode_locals ls) → end ≤ at → ls ≡ T.no_locals
unfolding encode_locals
no_local T.no_locals e l = refl
no_local (T.vector n c ls) e l = absurd (omega arith)
no_local (T.values ns es ls) e l = absurd (omega arith)

pub local-deep : (x : Local) (ls : T.Locals) {k : ℕ} → locals_depth (with_local x ls) ≤ k → (local_depth x ≤ k) × (locals_depth ls ≤ k)
unfolding locals_depth local_depth
local-deep (a_vector n c) ls h = (omega arith, h)
local-deep (some_values ns es) ls h = (omega arith, omega arith)

pub local-fine : (x : Local) (ls : T.Locals) → FineLs (with_local x ls) → FineLocal x × FineLs ls
unfolding FineLocals FineLocal
local-fine (a_vector n c) ls f = ((f.0, f.2), f.1)
local-fine (some_values ns es) ls f = ((sym f.2, f.0, f.3), f.1)

-- ---- the loop over declarations: the scope and the height change on the way

abbrev pub DidLocals : (text : List ℕ) → Here → Scope → (h : ℕ) → T.Locals → (t t' : List ℕ) (st st' : State) → Type 0
DidLocals text here sc h ls = Did (in_locals text sc (leavable here) h ls) (locals_says here h (locals text sc h ls)) (2 * length (encode_locals ls))

module _ (text t₀ : List ℕ) {s₀ : List ℕ} {from end : ℕ} {here : Here} {st₀ : State} where
  pub record LocalsPart (y : ReadyLocals s₀ from end here st₀) (s t : List ℕ) (at : ℕ) (r : Placed) : Type 0 where
    pub left : Rest encode_locals y.ready.base here.top s₀ s end at
    pub scope : Scope
    pub shows : Shows s r.top scope
    -- room for names, heights, labels and levels for what is left
    pub bounds : (here.top ≤ r.top) × (0 < r.done.label) × (locals_depth left.rest ≤ here.left)
        × (r.top * 2 + length (encode_locals left.rest) ≤ here.top * 2 + length (encode_locals y.ready.tree))
        × (r.height + 4100 * length (encode_locals left.rest) ≤ here.height + 4100 * length (encode_locals y.ready.tree))
        × (r.done.label + 2 * length (encode_locals left.rest) ≤ st₀.label + 2 * length (encode_locals y.ready.tree))
    pub fine : FineLs left.rest
    pub scopes : scope_after text y.ready.scope here.height y.ready.tree ≡ scope_after text scope r.height left.rest
    pub heights : height_after text y.ready.scope here.height y.ready.tree ≡ height_after text scope r.height left.rest
    pub finish : (t' : List ℕ) (st' : State) → DidLocals text here scope r.height left.rest t t' r.done st'
        → DidLocals text here y.ready.scope here.height y.ready.tree t₀ t' st₀ st'

  pub locals-begin : (y : ReadyLocals s₀ from end here st₀) → LocalsPart y s₀ t₀ from (record { top = here.top; height = here.height; done = st₀ })
  locals-begin y = let z = y.ready in record {
    left = rest_all z.tree (rw y.starts at z.lies) (omega arith) (omega arith);
    scope = z.scope;
    shows = z.shows;
    bounds = omega arith;
    fine = z.fine;
    scopes = refl;
    heights = refl;
    finish = λ t' st' d. d;
  }

  module _ {s t : List ℕ} {at size next : ℕ} {r : Placed} (l : at < end) (es : size ≡ get_or s at 0) (en : next ≡ at + 2 + size) where
    module _ (y : ReadyLocals s₀ from end here st₀) (p : LocalsPart y s t at r) where
      abbrev pub one : First encode_locals encode_local (λ x. 3) with_local s₀ at end p.left.rest
      one = is-local p.left.rest p.left.lies p.left.ends l

      pub locals-sizes : ((size ≡ length (encode_local one.part))
          × (length (encode_locals p.left.rest) ≡ 2 + length (encode_local one.part) + length (encode_locals one.more)))
          × (local_depth one.part ≤ here.left) × (locals_depth one.more ≤ here.left)
      locals-sizes = let d = local-deep one.part one.more (rw one.same at p.bounds.2) in (taken-sizes p.left one es, d.0, d.1)

      pub locals-fine : FineLocal one.part × FineLs one.more
      locals-fine = local-fine one.part one.more (subst FineLs one.same p.fine)

    abbrev pub locals-part : (y : ReadyLocals s₀ from end here st₀) → LocalsPart y s t at r
        → ReadyLocal s next (placed r.top r.height here) r.done
    locals-part y p = let z = y.ready in let u = one y p in
        moved z p.left.keeps p.scope u.lies p.shows (omega (arith, locals-sizes y p)) (omega (arith, locals-sizes y p))
        (locals-fine y p).0

    pub locals-next : {s₁ t₁ : List ℕ} {r' : Placed} → GaveLocal text s s₁ next (placed r.top r.height here) t t₁ r.done r'
        → (y : ReadyLocals s₀ from end here st₀) → LocalsPart y s t at r → LocalsPart y s₁ t₁ next r'
    locals-next {s₁} {t₁} {r'} g y p =
        let z = y.ready in let u = one y p in let x = g.by (locals-part y p) in let sc = p.scope in let h = r.height in
        let sc' = scope_with text sc h u.part in let h' = height_with text sc h u.part in let k = x.after in let now = placed r.top h here in
        record {
          left = rest-next p.left u es en (keeps-lower p.bounds.0 k.keeps);
          scope = sc';
          shows = k.shows;
          bounds = omega (arith, locals-sizes y p);
          fine = (locals-fine y p).1;
          scopes = cc (with-local text sc now u.part u.more).0;
          heights = cc (with-local text sc now u.part u.more).1;
          finish = λ t' st' d. p.finish t' st' (rw u.same (did-as (locals_says here h (locals text sc h (with_local u.part u.more))) _
              (did_then x.did (rw k.height at d)) (same-eq (sym (with-local text sc now u.part u.more).2))
              (λ m e. code-with text sc now m u.part u.more (locals-fine y p).0)
              (omega (arith, locals-sizes y p, ap (λ (ls : T.Locals). length (encode_locals ls)) u.same))));
        }

  pub locals-end : {s t : List ℕ} {at : ℕ} {r : Placed} → end ≤ at → ((y : ReadyLocals s₀ from end here st₀) → LocalsPart y s t at r)
      → GaveLocals text s₀ s from end here t₀ t st₀ r
  unfolding in_locals locals scope_after height_after G.locals_code of_locals G.locals_labels encode_locals
  locals-end {s} {t} {at} {r} l q = record {
    by = λ y. let p = q y in let e = no_local p.left.rest p.left.ends l in let z = y.ready in record {
      after = record {
        shows = rw (p.scopes ∙ ap (scope_after text p.scope r.height) e) p.shows;
        height = sym (p.heights ∙ ap (height_after text p.scope r.height) e);
        keeps = p.left.keeps;
        above = p.bounds.0;
        room = omega arith;
        tall = omega arith;
      };
      did = p.finish t r.done (rw e (did_none _));
    };
  }

-- ---- a block

is_block : {s : List ℕ} {lo end : ℕ} {u : Unlabelled} → Form s lo end 57 u → IsTwo encode_locals encode_commands T.block s lo end u
is_block (F.a_block h) = h

-- locals anywhere
any-locals : (text : List ℕ) (l m : Leavable) (q : l.routine ≡ m.routine) (sc : Scope) (h : ℕ) (ls : T.Locals)
    → in_locals text sc l h ls ≡ in_locals text sc m h ls
unfolding in_locals
any-locals text l m q sc h T.no_locals = refl
any-locals text l m q sc h (T.vector n c ls) = rw (any-locals text l m q (declared sc n (N.local h)) (h + 2 + judged_word (for_vector text sc c)) ls)
any-locals text l m q sc h (T.values ns es ls) =
    rw (any-expressions text l m q sc h es, any-locals text l m q (declare_all sc h ns) (h + length ns) ls)

-- both ways to count the height agree
heights-agree : (text : List ℕ) (sc : Scope) (h : ℕ) (ls : T.Locals) → FineLs ls → H.height_with h (locals text sc h ls) ≡ height_after text sc h ls
unfolding locals height_after H.height_with FineLocals
heights-agree text sc h T.no_locals f = refl
heights-agree text sc h (T.vector n c ls) f = heights-agree text (declared sc n (N.local h)) (h + 2 + judged_word (for_vector text sc c)) ls f.1
heights-agree text sc h (T.values ns es ls) f = let sc' = declare_all sc h ns in let k = h + length ns in
    let v = (values-before 0 h 0 (expressions text sc h es) (locals text sc' k ls)).3 in
    rw (v, count-is text sc h ns es (sym f.2), heights-agree text sc' k ls f.1)

module _ {s : List ℕ} {end : ℕ} {here : Here} {st : State} (n : Node) (nd : NodeAt s end n) (q : get_or s (end - 1) 0 ≡ 57) {middle : ℕ}
    (m : middle ≡ n.start + n.value) where
  pub block-is : (y : ReadyU s end here st) → IsTwo encode_locals encode_commands T.block s y.lo end y.tree
  block-is y = is_block (form-at n nd (nd.kind ∙ q) y)

  pub block-parts : (y : ReadyU s end here st) → let u = block-is y in
      (FineLs u.left × FineCs u.list) × (locals_depth u.left ≤ here.left) × (commands_depth u.list ≤ here.left)
  unfolding FineUnlabelled unlabelled_depth
  block-parts y = let u = block-is y in let e = ap unlabelled_depth u.same in ((subst FinePlain u.same y.fine).0, omega arith, omega arith)

  pub block_start : (y : ReadyU s end here st) → (n.start ≡ y.lo) × (middle ≡ y.lo + length (encode_locals (block-is y).left))
  block_start y = let u = block-is y in (omega arith, omega arith)

  pub block_room : (y : ReadyU s end here st) → (here.top + 2 ≤ y.base) × (here.top + 2 ≤ length s)
  block_room y = let u = block-is y in (omega arith, omega arith)

  module _ {s₁ : List ℕ} (pu : Pushed s s₁ here.top 0 0) where
    abbrev pub block-locals : ReadyU s end here st → ReadyLocals s₁ n.start middle (marked here) st
    block-locals y = let u = block-is y in let k = pushed-keeps pu (block_room y).0 y.long in record {
      ready = moved y k (opened y.scope) u.lies (pushed-mark pu (block_room y).0 y.long y.shows refl) (omega arith)
          (omega (arith, (block_start y).1, (block-parts y).1)) (block-parts y).0.0;
      starts = sym (block_start y).0;
    }

    module _ (text : List ℕ) {s₂ t t₁ : List ℕ} {a : Placed} (g : GaveLocals text s₁ s₂ n.start middle (marked here) t t₁ st a) where
      pub block-keeps : (y : ReadyU s end here st) → Keeps y.base here.top s s₂
      block-keeps y = keeps_then (pushed-keeps pu (block_room y).0 y.long) (keeps-lower (omega arith) (g.by (block-locals y)).after.keeps)

      abbrev pub block-list : ReadyU s end here st → ReadyList s₂ middle n.inner (placed a.top a.height here) a.done
      block-list y = let u = block-is y in let x = g.by (block-locals y) in let k = block-keeps y in record {
        ready = moved y k (scope_after text (opened y.scope) here.height u.left) u.lies-list x.after.shows (omega arith)
            (omega (arith, (block-parts y).2)) (block-parts y).0.1;
        starts = sym (block_start y).1;
      }

      pub block-gave : (ways : Ways) {s₃ t₂ : List ℕ} {r : State}
          → GaveList text s₂ s₃ middle n.inner (placed a.top a.height here) ways t₁ t₂ a.done r → GaveU text s s₃ end here ways t t₂ st r
      unfolding in_unlabelled unlabelled G.cmd_code of_cmd G.cmd_labels
      block-gave ways {s₃} {t₂} {r} g₂ = record {
        by = λ y. let u = block-is y in let x = g.by (block-locals y) in let z = g₂.by (block-list y) in let sc = opened y.scope in
            let h = here.height in let ls = u.left in
            let LS = locals text sc h ls in let sc' = scope_after text sc h ls in let h' = height_after text sc h ls in let l = leavable_by ways here in
            let eh : H.height_with h LS ≡ h' = heights-agree text sc h ls (block-parts y).0.0 in
            rw u.same (record {
              keeps = keeps_then (block-keeps y) (keeps-lower (omega arith) z.keeps);
              did = did-as (cmd_says here ways (R.block LS (commands text sc' h' u.list))) _
                  (did_then x.did (rw x.after.height at z.did)) (same-eq (rw (any-locals text
                  (leavable here) l refl sc h ls))) (λ k e. code_is (rw eh) (rw eh) refl) (omega (arith, same-long u.same));
            });
      }

-- ---- another name of the same place

pub locals-ready-at : {s : List ℕ} {from end : ℕ} {d d' : Here} {st : State} → d' ≡ d → ReadyLocals s from end d st → ReadyLocals s from end d' st
locals-ready-at e y = rw e y

pub list-ready-at : {s : List ℕ} {from end : ℕ} {d d' : Here} {st : State} → d' ≡ d → ReadyList s from end d st → ReadyList s from end d' st
list-ready-at e y = rw e y

pub local-gave-at : {text s s' t t' : List ℕ} {end : ℕ} {d d' : Here} {st : State} {r : Placed} → d' ≡ d → GaveLocal text s s' end d' t t' st r
    → GaveLocal text s s' end d t t' st r
local-gave-at e g = rw e at g

pub locals-gave-at : {text s s' t t' : List ℕ} {from end : ℕ} {d d' : Here} {st : State} {r : Placed} → d' ≡ d
    → GaveLocals text s s' from end d' t t' st r → GaveLocals text s s' from end d t t' st r
locals-gave-at e g = rw e at g

pub list-gave-at : {text s s' t t' : List ℕ} {from end : ℕ} {d d' : Here} {w : Ways} {st r : State} → d' ≡ d
    → GaveList text s s' from end d' w t t' st r → GaveList text s s' from end d w t t' st r
list-gave-at e g = rw e at g
