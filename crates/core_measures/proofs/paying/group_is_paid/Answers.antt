use Rattle.std.proofs.Common.{◌≡◌, ◌+◌, ◌*◌, ◌≤◌, ℕ, length, map, true, refl, arith}
use Rattle.core_ir.specs.Expressions.{nodes_of}
use Rattle.core_ir.specs.Outward.{distinct}
use Rattle.core_ir.specs.View.{core_body}
use Rattle.core_measures.proofs.Places.{no_more}
use Rattle.core_measures.proofs.paying.group_is_paid.Goals as goal

pub returns-then-is_paid : goal.returns-then-is_paid
returns-then-is_paid c =
    let enough : 2 * c.in_ok-functions.functions + c.in_ok-count.field-0 ≤ 4 * (1 + c.in_ok-nodes.nodes) = c.is_paid.ensures.0 c.if-is_paid.true in
    let functions = c.in_ok-functions.ensures in
    let names = c.in_ok-count.ensures in
    let nodes = c.in_ok-nodes.ensures in
    let fewer = no_more c.args.names.now in
    let paid : 2 * length c.args.bodies.now + length (distinct c.args.names.now) ≤ 4 * (1 + nodes_of (map core_body c.args.bodies.now)) = omega (arith, enough, functions, names, nodes, fewer) in
    ((λ e. paid), (λ k. refl))
