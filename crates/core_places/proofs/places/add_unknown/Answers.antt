use Rattle.core_places.proofs.Naming.{more_unknown}
use Rattle.core_places.proofs.places.add_unknown.Goals as goal

pub loop-done-preserved : goal.loop-done-preserved
loop-done-preserved c = more_unknown c.args.scope.now c.loop-done.scope c.push.new.self c.loop-done._done c.loop-done.invariant c.in_ok-push.ensures
