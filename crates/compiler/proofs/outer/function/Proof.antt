use Rattle.laws.proofs.Basics.{◌+◌, ◌*◌, ◌/◌, ◌^◌, ◌<◌, ◌≤◌, ◌∙◌, length, arith, needs}
use Rattle.compiler.proofs.FunctionLaws.{function-room, function-names, function-body, function-gave}
use Rattle.compiler.proofs.outer.function.Tie as tie

room : (c : tie.After-node_at-n) → let top = c.args.here.top in
    (top + 2 ≤ length c.args.s.now) × (top + 2 ≤ c.requires.base) × (top + 2 + 2 * (c.node_at-n.result.value / 4) ≤ c.requires.base)
    × (c.requires.base < 2 ^ 32)
room c = function-room _ c.node_at-n.ensures c.requires

pub function_spec : {M : Type 1} → Rattle.compiler.proofs.outer.function.Statement.statement M
function_spec = tie.close (tie.spec (search needs) (search needs) (search needs) (search needs) (λ c κs. ((room (search)).0, omega arith, omega arith))
    (λ c. omega (arith, room (search))) (λ c κs. search function-names) (search needs) (search needs) (λ c. omega (arith, room (search)))
    (λ c. omega (arith, room (search))) (λ c. omega (arith, room (search))) (λ c. omega (arith, room (search)))
    -- body-requires
    (λ c κs. function-body _ c.node_at-n.ensures c.push.ensures _ c.mark-a.ensures c.declare-b.ensures
    c.reached-c.ensures c.requires) (search needs)
    -- same-length
    (λ c. c.body-d.auto.s ∙ c.declare-b.auto.s ∙ c.push.auto.s)
    -- same-length-2
    (λ c. c.put.auto.text ∙ c.body-d.auto.text
    ∙ c.mark-a.auto.text)
    -- returns
    (λ c. function-gave _ c.node_at-n.ensures c.push.ensures _ c.mark-a.ensures c.declare-b.ensures
    c.reached-c.ensures c.body-d.ensures c.put.ensures))
