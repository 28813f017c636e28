use Rattle.std.proofs.Common.{Some, sym, ap, ◌∙◌}
use Rattle.std.specs.Prelude.{slice_get}
use Rattle.mo_types.specs.Graph.{node_of_slot}
use Rattle.mo_types.specs.Heads.{map_option}
use Rattle.graph_copies.proofs.Slots.{defined_behind}
use Rattle.graph_copies.proofs.graph.add_type.Goals as goal

pub returns-in-Ok-define : goal.returns-in-Ok-define
returns-in-Ok-define c =
    defined_behind c.args.made.now c.fresh.new.self c.define.new.self c.in-Ok.id c.in_ok-node_again.field-0 c.in-Some.node.now (node_of_slot (slice_get c.args.graph.now c.args.number))
    c.in-Ok.ensures.ok c.in-Ok-define.ensures.ok c.in_ok-node_again.ensures c.in-Some.ensures
