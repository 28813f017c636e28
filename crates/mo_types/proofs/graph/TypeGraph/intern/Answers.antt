use Rattle.std.proofs.Common.{inl, inr, refl}
use Rattle.mo_types.proofs.Graphs.{intern_kept, intern_added, is_new, is_interned, on_err, room_left}
use Rattle.mo_types.proofs.graph.TypeGraph.intern.Goals as goal

pub returns-in-Some-clause-ok : goal.returns-in-Some-clause-ok
returns-in-Some-clause-ok c = inl (is_interned c.self.inside.slots.entries c.self.inside.slots.entries c.args.self.now c.self.inside.entries c.self.view_is c.self.invariant c.args.node c.in-Some.index c.in-Some.ensures.found, refl)

pub returns-then-index-ge-MOST_NODES-clause-missing : goal.returns-then-index-ge-MOST_NODES-clause-missing
returns-then-index-ge-MOST_NODES-clause-missing c = is_new c.self.inside.slots.entries c.self.inside.slots.entries c.args.self.now c.self.inside.entries c.self.view_is c.self.invariant c.args.node c.in_default.ensures.missing

pub returns-in_err-add-clause-missing : goal.returns-in_err-add-clause-missing
returns-in_err-add-clause-missing c = on_err c.from_residual.result (is_new c.self.inside.slots.entries c.self.inside.slots.entries c.args.self.now c.self.inside.entries c.self.view_is c.self.invariant c.args.node c.in_default.ensures.missing)

pub invariant_of-self-2 : goal.invariant_of-self-2
invariant_of-self-2 c = intern_kept c.self.inside.slots.entries c.add.new.slots.entries c.args.self.now c.self.inside.entries c.self.view_is c.self.invariant c.len-index.result c.len-index.ensures.len c.if-index-ge-MOST_NODES.false
    c.args.node c.entries-more.result (room_left c.self.inside.slots.entries c.self.inside.slots.entries c.args.self.now c.self.inside.entries c.self.view_is c.self.invariant c.entries-more.result c.if-more-self.false) c.entries-more.ensures c.in_ok-add.ensures.ok

pub returns-clause-ok : goal.returns-clause-ok
returns-clause-ok c = inr (
  is_new c.self.inside.slots.entries c.self.inside.slots.entries c.args.self.now c.self.inside.entries c.self.view_is c.self.invariant c.args.node c.in_default.ensures.missing,
  intern_added c.self.inside.slots.entries c.add.new.slots.entries c.args.self.now c.self.inside.entries c.self.view_is c.self.invariant c.len-index.result c.len-index.ensures.len c.if-index-ge-MOST_NODES.false
      c.args.node c.entries-more.result (room_left c.self.inside.slots.entries c.self.inside.slots.entries c.args.self.now c.self.inside.entries c.self.view_is c.self.invariant c.entries-more.result c.if-more-self.false) c.entries-more.ensures c.in_ok-add.ensures.ok,
)
