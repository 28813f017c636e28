use Rattle.std.proofs.Common.{ap, sym, slice_get}
use Rattle.mo_types.specs.Graph.{node_or_bottom, node_of_slot}
use Rattle.candid_encode.proofs.Heads.{at_node}
use Rattle.candid_encode.proofs.part.put_defined.Goals as goal

pub returns-in-Some : goal.returns-in-Some
returns-in-Some c = at_node c.in-Some.node.now (node_or_bottom (node_of_slot (slice_get c.args.types.now c.args.index))) c.args.part.now c.put_by.result c.args.out.now c.put_by.new.out (sym (ap node_or_bottom c.in-Some.ensures)) c.put_by.ensures
