use Rattle.std.proofs.Common.{◌∙◌, sym, ap}
use Rattle.std.specs.Option.{option_map}
use Rattle.std.specs.Map.Iter.{deref_pair}
use Rattle.mo_types.proofs.Graphs.{node_there, node_missing}
use Rattle.mo_types.proofs.graph.TypeGraph.get_index.Goals as goal

pub returns-in-Some : goal.returns-in-Some
returns-in-Some c = c.node_in.ensures ∙ sym (node_there c.self.inside.slots.entries c.args.self.now (record { index = c.args.index }) c.in-Some.key.now c.in-Some.defined.now c.self.view_is
    (sym c.get_index.ensures.entry ∙ ap (option_map deref_pair) c.in-Some.is))

pub returns-in-None : goal.returns-in-None
returns-in-None c = sym (node_missing c.self.inside.slots.entries c.args.self.now (record { index = c.args.index }) c.self.view_is
    (sym c.get_index.ensures.entry ∙ ap (option_map deref_pair) c.in-None.is))
