use Rattle.judged_parts.specs.Parts.{See}
use Rattle.kernel_roles.specs.Roles.{list_seen}
use Rattle.kernel_outside.specs.Parts.{with_functions}
use Rattle.kernel_outside.proofs.FramesBehind.{functions_begun, functions_end, functions_next}
use Rattle.kernel_outside.proofs.behind.push_functions.Goals as goal

pub loop-one-init : goal.loop-one-init
loop-one-init c = λ (see : See). functions_begun see c.args.fields.now c.args.frames.now

pub loop-one-preserved : goal.loop-one-preserved
loop-one-preserved c = λ (see : See).
    functions_next see c.args.fields.now c.loop-one.frames c.loop-one.one-index c.one-item.result c.push_one.new.frames (with_functions (list_seen see c.args.fields.now) c.args.frames.now) c.loop-one-test.true c.one-item.is
    (c.loop-one.invariant see) (rw c.get.ensures at (c.in_ok-push_one.ensures see))

pub returns : goal.returns
returns c = λ (see : See). functions_end see c.args.fields.now c.loop-one.frames c.loop-one.one-index (with_functions (list_seen see c.args.fields.now) c.args.frames.now) c.loop-one-test.false (c.loop-one.invariant see)
