use Rattle.std.proofs.Common.{◌∙◌, ap}
use Rattle.desugaring.specs.Frames.{Frame}
use Rattle.kernel_parts.proofs.Looping.{pushed}
use Rattle.kernel_loops.specs.Loops.{case_of}
use Rattle.kernel_loops.proofs.binding.case_values.Goals as goal

pub loop-one-preserved : goal.loop-one-preserved
loop-one-preserved g c = record {
  made = pushed (case_of c.args.layer.now.types.now c.args.frames.now) c.args.list.now c.loop-one.one-index c.one-item.result c.loop-one.made c.push.new.self c.in_ok-value.value c.loop-one-test.true c.one-item.is c.loop-one.invariant.made
      (c.in_ok-value.ensures.made ∙ ap (λ (f : Frame). case_of c.args.layer.now.types.now f c.one-item.result) c.loop-one.invariant.same) c.in_ok-push.ensures.ok;
  same = c.in_ok-value.ensures.same ∙ c.loop-one.invariant.same;
}
