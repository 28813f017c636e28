use Rattle.std.proofs.lemmas.List.{take_more}
use Rattle.std.proofs.Common.{Ok}
use Rattle.definition_rules.proofs.Adding.{take_all}
use Rattle.proper_types.proofs.Turns.{all_at, next_at, stops_at}
use Rattle.signatures.proofs.Steps.{each_judged, one_shareable}
use Rattle.signatures.proofs.shareable.each_shareable.Goals as goal

pub loop-kind-preserved : goal.loop-kind-preserved
loop-kind-preserved c = next_at (one_shareable c.args.at) c.args.types.now c.args.types.now c.args.types.now c.loop-kind.sharing c.needs_shareable.new.sharing c.args.kinds.now c.loop-kind.kind-index _ (take_more c.args.kinds.now c.loop-kind.kind-index _ c.loop-kind-test.true) c.loop-kind.invariant c.in_ok-needs_shareable.ensures

pub returns-in_err-needs_shareable : goal.returns-in_err-needs_shareable
returns-in_err-needs_shareable c =
    each_judged c.args.at c.args.kinds.now c.args.types.now c.args.types.now c.needs_shareable.new.sharing c.from_residual.result
    (stops_at (one_shareable c.args.at) c.args.types.now c.args.types.now c.args.types.now c.loop-kind.sharing c.needs_shareable.new.sharing c.args.kinds.now c.loop-kind.kind-index _ c.in_err-needs_shareable.field-0.0 c.from_residual.result c.from_residual.ensures
    (take_more c.args.kinds.now c.loop-kind.kind-index _ c.loop-kind-test.true) c.loop-kind.invariant c.in_err-needs_shareable.ensures)

pub returns : goal.returns
returns c = each_judged c.args.at c.args.kinds.now c.args.types.now c.args.types.now c.loop-kind.sharing (Ok tt) (all_at (one_shareable c.args.at) c.args.types.now c.args.types.now c.loop-kind.sharing c.args.kinds.now c.loop-kind.kind-index (take_all c.args.kinds.now c.loop-kind.kind-index c.loop-kind-test.false) c.loop-kind.invariant)
