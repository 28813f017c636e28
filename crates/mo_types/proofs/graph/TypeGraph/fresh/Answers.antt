use Rattle.mo_types.proofs.Graphs.{fresh_new, fresh_kept, fresh_added}
use Rattle.mo_types.proofs.graph.TypeGraph.fresh.Goals as goal

pub add-requires : goal.add-requires
add-requires c = fresh_new c.self.inside.slots.entries c.self.inside.slots.entries c.args.self.now c.self.inside.entries c.self.view_is c.self.invariant c.len-index.result c.len-index.ensures.len c.if-index-ge-MOST_NODES.false

pub invariant_of-self-2 : goal.invariant_of-self-2
invariant_of-self-2 c = fresh_kept c.self.inside.slots.entries c.add.new.slots.entries c.args.self.now c.self.inside.entries c.self.view_is c.self.invariant c.len-index.result c.len-index.ensures.len c.if-index-ge-MOST_NODES.false c.in_ok-add.ensures.ok

pub returns-clause-ok : goal.returns-clause-ok
returns-clause-ok c = fresh_added c.self.inside.slots.entries c.add.new.slots.entries c.args.self.now c.self.inside.entries c.self.view_is c.self.invariant c.len-index.result c.len-index.ensures.len c.if-index-ge-MOST_NODES.false c.in_ok-add.ensures.ok
