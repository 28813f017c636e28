use Rattle.judged_parts.specs.Parts.{See}
use Rattle.kernel_places.proofs.Copied.{alike_next}
use Rattle.kernel_places.proofs.step.steps_of.Goals as goal

pub loop-one-preserved : goal.loop-one-preserved
loop-one-preserved c = λ (see : See).
    alike_next see c.loop-one.steps c.push.new.self c.args.list.now c.loop-one.one-index c.one-item.result c.in_ok-step.step c.loop-one-test.true c.one-item.is c.in_ok-push.ensures.ok (c.loop-one.invariant see)
    (rw c.get.ensures at (c.in_ok-step.ensures see))
