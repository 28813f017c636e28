use Rattle.mo_types.proofs.Graphs.{put_within, put_kept, put_view, room_left}
use Rattle.mo_types.proofs.graph.TypeGraph.define.Goals as goal

pub put-requires : goal.put-requires
put-requires c = put_within c.self.inside.slots.entries c.self.inside.slots.entries c.args.self.now c.self.inside.entries c.self.view_is c.self.invariant c.args.id.index c.args.node c.requires

pub invariant_of-self : goal.invariant_of-self
invariant_of-self c = put_kept c.self.inside.slots.entries c.put.new.slots.entries c.args.self.now c.self.inside.entries c.self.view_is c.self.invariant c.args.id.index c.args.node c.requires
    c.entries-more.result c.entries-more.ensures (room_left c.self.inside.slots.entries c.self.inside.slots.entries c.args.self.now c.self.inside.entries c.self.view_is c.self.invariant c.entries-more.result c.if-more-self.false) c.put.ensures

pub returns-clause-ok : goal.returns-clause-ok
returns-clause-ok c = put_view c.self.inside.slots.entries c.put.new.slots.entries c.args.self.now c.self.inside.entries c.self.view_is c.self.invariant c.args.id.index c.args.node c.requires c.put.ensures
