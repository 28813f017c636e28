use Rattle.std.proofs.Common.{◌<◌, ◌≤◌, length, map, ap, ◌∙◌, arith}
use Rattle.std.proofs.lemmas.List.{take_all}
use Rattle.mo_types.specs.Graph.{node_of}
use Rattle.graph_copies.proofs.Slots.{heads_same, next_node}
use Rattle.graph_copies.proofs.graph.graph_again.Goals as goal

pub loop-number-preserved : goal.loop-number-preserved
loop-number-preserved c =
    let below : c.loop-number.number < length c.args.graph.now = omega arith in
    c.in_ok-add_type.ensures ∙ next_node c.args.graph.now c.loop-number.number (map node_of c.loop-number.made) below c.loop-number.invariant

pub returns : goal.returns
returns c =
    let past : length c.args.graph.now ≤ c.loop-number.number = omega arith in
    heads_same c.loop-number.made c.args.graph.now (c.loop-number.invariant ∙ ap (map node_of) (take_all c.loop-number.number c.args.graph.now past))
