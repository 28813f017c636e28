use Rattle.core_places.proofs.Naming.{more_kept}
use Rattle.core_places.proofs.places.add_kept.Goals as goal

pub loop-number-preserved : goal.loop-number-preserved
loop-number-preserved c = more_kept c.args.scope.now c.loop-number.scope c.push.new.self c.loop-number.number c.in_ok-one_more.field-0 c.in_ok-one_more.ensures c.loop-number.invariant c.in_ok-push.ensures
