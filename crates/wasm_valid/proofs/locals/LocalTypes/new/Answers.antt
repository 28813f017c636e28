use Rattle.wasm_valid.proofs.Grouped.{kind_turn, group_turn}
use Rattle.wasm_valid.proofs.locals.LocalTypes.new.Goals as goal

pub loop-kind-preserved : goal.loop-kind-preserved
loop-kind-preserved c =
    kind_turn c.loop-kind.all.items c.push.new.self.items c.args.params.now c.loop-kind.kind-index _ c.loop-kind.end c.in_ok-end.end c.loop-kind.invariant c.in_ok-end.ensures c.in_ok-push.ensures.items c.loop-kind-test.true

pub loop-group-preserved : goal.loop-group-preserved
loop-group-preserved c =
    group_turn c.loop-group.all.items c.push-in-loop-group.new.self.items c.args.params.now c.args.groups.now c.loop-group.group-index _ c.loop-group.end c.in_ok-end-2.end
    c.loop-group.invariant c.in_ok-end-2.ensures c.in_ok-push-2.ensures.items c.loop-group-test.true
